-- How the code goes over a shell's list, by rows of one x; what it holds of a component; and how many there are of a list.
use Rattle.std.specs.Prelude.{ℕ, ◌+◌, ◌*◌, ◌-◌, ◌/◌, ◌≤◌, ◌<◌, ◌≡◌, List, [], ◌∷◌, ◌++◌, map, length}
use Rattle.kind.specs.Limits.{most_order}
use Rattle.shell.specs.declared.Triple.{Triple}
use Rattle.shell.specs.declared.Pair.{Pair}
use Rattle.shell.specs.Shells.{descending}

abbrev pub triple_orders : Triple → List ℕ
triple_orders t = t.x ∷ t.y ∷ t.z ∷ []

abbrev pub pair_orders : Pair → List ℕ
pair_orders c = triple_orders c.first ++ triple_orders c.second

-- the triples of order m with this x; row r is the one of x = m - r
abbrev pub row_of : ℕ → ℕ → List (List ℕ)
row_of m x = map (λ (y : ℕ). x ∷ y ∷ (m - x - y) ∷ []) (descending (m - x))

-- the one of row r with this z
abbrev pub row_orders : ℕ → ℕ → ℕ → List ℕ
row_orders m row z = (m - row) ∷ (row - z) ∷ z ∷ []

-- the triples of a shell of the largest order
abbrev pub most_triples : ℕ
most_triples = (most_order + 1) * (most_order + 2) / 2

-- how many a list has: some, so that there is a remainder, and so few that a product of counts fits
pub record Counts (list : List (List ℕ)) (most r : ℕ) : Type 0 where
  pub is : r ≡ length list
  pub some : 0 < r
  pub few : r ≤ most
