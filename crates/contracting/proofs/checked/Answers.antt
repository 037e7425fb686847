-- `checked` meets its contract: 8, 9, and one look at the element for 11. Assumes nothing.
use Rattle.contracting.proofs.Answers.{refused-float, refused-exponent, summed}
use Rattle.contracting.proofs.checked.Goals as goal

pub returns-then-not-all_finite : goal.returns-then-not-all_finite
returns-then-not-all_finite c = search refused-float

pub returns-then-not-all_above_zero : goal.returns-then-not-all_above_zero
returns-then-not-all_above_zero c = search refused-exponent

pub returns : goal.returns
returns c = search summed
