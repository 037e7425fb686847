-- `term` meets its contract, a law for each answer. Assumes nothing.
use mathlib.Core.Path.{refl}
use Rattle.importing.proofs.Numbers.{most-fits, numbers_fit, bytes_fit, size_fits, term-many, term_made, term-wrong}
use Rattle.importing.proofs.numerals.term.Goals as goal

pub overflow_add-most_prefactors : goal.overflow_add-most_prefactors
overflow_add-most_prefactors c = record { fits = search most-fits }

pub returns-then-most_prefactors-n : goal.returns-then-most_prefactors-n
returns-then-most_prefactors-n c = search term-many

pub overflow_cast-size : goal.overflow_cast-size
overflow_cast-size c = record { fits = search bytes_fit }

pub overflow_cast-size-2 : goal.overflow_cast-size-2
overflow_cast-size-2 c = record { fits = search numbers_fit }

pub overflow_add-size : goal.overflow_add-size
overflow_add-size c = record { fits = search size_fits }

pub returns : goal.returns
returns c =
    term_made _ _ _ _ _ _ _ _ _ _ _ _ c.most_prefactors.ensures c.if-most_prefactors-n.false c.within.ensures c.in_ok-scale.was c.length.ensures refl c.boys.ensures

pub returns-in_err-scale : goal.returns-in_err-scale
returns-in_err-scale c = rw c.from_residual.ensures (term-wrong _ _ _ _ _ _ _ c.most_prefactors.ensures c.if-most_prefactors-n.false c.within.ensures c.in_err-scale.was)
