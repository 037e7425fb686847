-- `read_within` meets its contract: a law for each way out. Assumes nothing.
use borrow.Author.Rules.{rules}
use mathlib.Core.Path.{ap, ◌∙◌}
use Rattle.std.specs.Prelude.{Err}
use Rattle.kind.specs.declared.refusals.Fault.{Fault}
use Rattle.roll.proofs.FieldLaws.{within-unread, within_low, within-high, within-is}
use Rattle.roll.proofs.field.read_within.Goals.{then-n-low-via-then-n-low, then-n-low-via-else-n-low+then-high-n}
use Rattle.roll.proofs.field.read_within.Goals as goal

pub returns-in_default : goal.returns-in_default
returns-in_default c = within-unread _ _ _ _ _ _ c.read-read.ensures (λ n next e. c.in_default.not-Ok (n, next) e) c.unread.ensures

pub returns-then-n-low : goal.returns-then-n-low
returns-then-n-low c = ap (λ (f : Fault). Err f) c.bad_roll.ensures ∙ elim c.then-n-low.branch [ then-n-low-via-then-n-low w ↦ within_low _ _ _ _ _ _ _ c.read-read.ensures c.in-Ok.is w.if-n-low.true | then-n-low-via-else-n-low+then-high-n w ↦ within-high _ _ _ _ _ _ _ c.read-read.ensures c.in-Ok.is w.if-n-low.false w.if-high-n.true ]

pub returns : goal.returns
returns c = search (rules, within-is)
