-- 01, "Steps": a term on its way, and the steps that are legal where it stands.
use Rattle.std.specs.Prelude.{cond, ℕ, zero, suc, ◌+◌, ◌*◌, List, [], ◌∷◌, ◌++◌, Option, Some, None}
use Rattle.kind.specs.declared.Kind.{Kind}
use Rattle.kind.specs.declared.Kind.TheVariants.{Overlap}
use Rattle.term.specs.Terms.{Term}
use Rattle.steps.specs.declared.CentreName.{CentreName}
use Rattle.steps.specs.declared.Axis.{Axis}
use Rattle.steps.specs.Choice.{chosen, first_axis}
use Rattle.steps.specs.Steps.{Branch, branches, times, lowered}

-- the kind that it goes on as, the orders left, and the term so far
pub record State : Type 0 where
  pub kind : Kind
  pub left : List ℕ
  pub term : Term

-- a request: all its orders are left, scale 1, Boys order 0, no prefactor
abbrev pub start : Kind → List ℕ → State
start k orders = record { kind = k; left = orders; term = record { scale = 1; boys = 0; prefactors = [] } }

-- the scale is multiplied by the multiplier, the prefactor is added, the Boys order is raised
abbrev pub stepped : Term → ℕ → Branch → Term
stepped t m b = record { scale = t.scale * m; boys = t.boys + b.raises; prefactors = t.prefactors ++ (b.adds ∷ []) }

unfoldable pub step : State → CentreName → Axis → Branch → State
step s c x b = record { kind = cond b.as-overlap Overlap s.kind; left = lowered b.falls c x s.left; term = stepped s.term (times b.falls c x s.left) b }

-- a branch number and where it leads
pub record Next : Type 0 where
  pub number : ℕ
  pub state : State

-- a branch is legal when its multiplier is at least 1
abbrev pub if_legal : ℕ → Next → List Next → List Next
if_legal zero n others = others
if_legal (suc m) n others = n ∷ others

unfoldable pub turns : CentreName → Axis → ℕ → State → List Branch → List Next
turns c x k s [] = []
turns c x k s (b ∷ bs) = if_legal (times b.falls c x s.left) (record { number = k; state = step s c x b }) (turns c x (suc k) s bs)

abbrev pub on_axis : CentreName → Option Axis → State → List Next
on_axis c None s = []
on_axis c (Some x) s = turns c x 0 s (branches s.kind c x)

abbrev pub on_fun : Option CentreName → State → List Next
on_fun None s = []
on_fun (Some c) s = on_axis c (first_axis s.left c) s

-- the legal branches in the order of their numbers; none where no order is left
unfoldable pub nexts : State → List Next
nexts s = on_fun (chosen s.kind s.left) s
