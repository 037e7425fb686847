-- 01, "The roll": the limits that a roll's kind, orders and terms keep: what Reading's limits come to, for the laws of reading back.
use Rattle.std.specs.Prelude.{ℕ, ◌+◌, ◌≤◌, ◌<◌, ◌≡◌, List, [], ◌∷◌, length}
use Rattle.kind.specs.Limits.{most_order, most_scale, most_terms}
use Rattle.kind.specs.Kinds.{orders_of, table_of, most_prefactors}
use Rattle.kind.specs.declared.Kind.{Kind}
use Rattle.term.specs.Terms.{Term}
use Rattle.laws.specs.Total.{total}
use Rattle.roll.specs.Reading.{most_boys, Roll}

-- the order sum on each centre, x y z each
abbrev pub CentresFit : List ℕ → Type 0
CentresFit [] = Unit
CentresFit (x ∷ []) = ⊥
CentresFit (x ∷ y ∷ []) = ⊥
CentresFit (x ∷ y ∷ z ∷ os) = (x + y + z ≤ most_order) × CentresFit os

-- prefactors, each below the table size
abbrev pub Below : ℕ → List ℕ → Type 0
Below table [] = Unit
Below table (p ∷ ps) = (p < table) × Below table ps

pub record TermFits (k : Kind) (l : ℕ) (t : Term) : Type 0 where
  pub scale-least : 1 ≤ t.scale
  pub scale : t.scale ≤ most_scale
  pub boys : t.boys ≤ most_boys k l
  pub count : length t.prefactors ≤ most_prefactors k l
  pub prefactors : Below (table_of k) t.prefactors

abbrev pub TermsFit : Kind → ℕ → List Term → Type 0
TermsFit k l [] = Unit
TermsFit k l (t ∷ ts) = TermFits k l t × TermsFit k l ts

pub record RollFits (r : Roll) : Type 0 where
  pub places : length r.orders ≡ orders_of r.kind
  pub sums : CentresFit r.orders
  pub terms-least : 1 ≤ length r.terms
  pub most : length r.terms ≤ most_terms
  pub terms : TermsFit r.kind (total r.orders) r.terms
