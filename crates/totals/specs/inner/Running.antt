-- A kind's list as the code runs along it, and what its functions may assume.
use Rattle.std.specs.Prelude.{ℕ, zero, suc, ◌+◌, ◌*◌, ◌^◌, ◌≤◌, ◌<◌, ◌≡◌, true, List}
use Rattle.kind.specs.declared.Kind.{Kind}
use Rattle.kind.specs.declared.Kind.TheVariants.{Overlap, Kinetic, Nuclear, Moment, Coulomb}
use Rattle.kind.specs.Kinds.{most_l}
use Rattle.expansion.specs.inner.Requests.{RequestWithin}
use Rattle.totals.specs.Totals.{claimed}

-- how often the last number of a list and the one before it count: once, for nuclear twice; kinetic and Coulomb have no list
abbrev pub often_of : Kind → ℕ
often_of Overlap = 1
often_of Kinetic = 0
often_of Nuclear = 2
often_of Moment = 1
often_of Coulomb = 0

-- both lists in one: it starts 1, m and goes on as m times the last plus m(p−1) times the one before
unfoldable pub running : ℕ → ℕ → ℕ
running m zero = 1
running m (suc zero) = m
running m (suc (suc n)) = m * running m (suc n) + m * suc n * running m n

-- a list of which number p and the one after it fit a word
pub record RunMay (often p : ℕ) : Type 0 where
  pub some : 1 ≤ often
  pub fits : (n : ℕ) → n ≤ p + 1 → running often n < 2 ^ 64

-- the most that the orders of a claimed kind add up to: a moment's
abbrev pub most_sum : ℕ
most_sum = most_l Moment

-- a number of a list that a request can have
pub record ListedMay (k : Kind) (p : ℕ) : Type 0 where
  pub is : claimed k ≡ true
  pub small : p ≤ most_sum

pub record ProductMay (k : Kind) (orders : List ℕ) : Type 0 where
  pub is : claimed k ≡ true
  pub within : RequestWithin k orders
