-- Inside the crate: a side that was judged, and what its cursor then gives.
use Rattle.std.specs.Prelude.{ℕ, ◌-◌, ◌≤◌, ◌≡◌, List, [], ◌∷◌, ◌++◌, length, replicate, Some, Ok}
use Rattle.kind.specs.Limits.{most_terms, request_orders}
use Rattle.kind.specs.Kinds.{number_of, orders_of}
use Rattle.term.specs.Terms.{Term, held}
use Rattle.roll.specs.Reading.{got, Roll}
use Rattle.form2.specs.declared.cursor.Cursor2.{Cursor2}
use Rattle.form2.specs.declared.cursor.Step2.{Step2}
use Rattle.form2.specs.declared.header.Opened2.{Opened2}
use Rattle.form2.specs.Cursor.{end_step2}
use Rattle.comparing.specs.Sides.{side_at, open_side, step_side}

-- the terms that the steps from a cursor give, and then the end
abbrev pub Gives : Cursor2 → List ℕ → List Term → Type 0
Gives c s [] = step_side c s ≡ end_step2
Gives c s (t ∷ ts) = (x : Step2) × (step_side c s ≡ Ok (Some x)) × (x.term ≡ held t) × Gives x.next s ts

-- the judge's answer of a roll that reads
pub record Judged (o : Opened2) (s : List ℕ) : Type 0 where
  pub roll : Roll
  pub end : ℕ
  pub reads : side_at s ≡ got roll end
  pub header : open_side s ≡ Ok o
  pub kind : o.cursor.cursor.kind ≡ number_of roll.kind
  pub left : o.cursor.cursor.left ≡ length roll.terms
  pub few : length roll.terms ≤ most_terms
  pub orders : o.orders ≡ roll.orders ++ replicate (request_orders - length roll.orders) 0
  pub places : length roll.orders ≡ orders_of roll.kind
  pub gives : Gives o.cursor s roll.terms
