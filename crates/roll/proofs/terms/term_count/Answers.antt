-- `term_count` meets its contract: a law for each way out. Assumes nothing.
use borrow.Author.Rules.{rules}
use native.Mathlib.Omega.{arith}
use Rattle.roll.proofs.TermsLaws.{count-few, table-some, table_fits, counted, miscounted, uncounted}
use Rattle.roll.proofs.terms.term_count.Goals as goal

pub returns-in_err-count : goal.returns-in_err-count
returns-in_err-count c = search (rules, uncounted)

pub prefactors-requires : goal.prefactors-requires
prefactors-requires c = (search (rules, count-few), search (rules, table-some), search (rules, table_fits))

pub returns-in_err-prefactors : goal.returns-in_err-prefactors
returns-in_err-prefactors c = search (rules, miscounted)

pub overflow_cast-term : goal.overflow_cast-term
overflow_cast-term c = omega (arith, count-few _ _ _ _ _ _ _ _ c.requires c.most_prefactors-most.ensures c.within.ensures c.in_ok-count.was)

pub returns : goal.returns
returns c = search (rules, counted)
