-- 02, Q-13: the small-cabinet profile: its kinds and orders, and how much a list and a roll of it have at most.
use Rattle.std.specs.Prelude.{ℕ, Bool, false, ◌&&◌, List, leb}
use Rattle.kind.specs.declared.Kind.{Kind}
use Rattle.kind.specs.declared.Kind.TheVariants.{Overlap, Kinetic, Nuclear, Moment, Coulomb}
use Rattle.steps.specs.declared.CentreName.{CentreName}
use Rattle.steps.specs.declared.CentreName.TheVariants.{A, B, C, D}
use Rattle.steps.specs.Choice.{sum_of}

-- "order sum at most 1"
abbrev pub most_small : ℕ
most_small = 1

abbrev pub at_most : List ℕ → CentreName → Bool
at_most orders c = leb (sum_of orders c) most_small

abbrev pub both_at_most : List ℕ → CentreName → CentreName → Bool
both_at_most orders c d = at_most orders c && at_most orders d

abbrev pub all_at_most : List ℕ → Bool
all_at_most orders = both_at_most orders A B && both_at_most orders C D

-- "kinds 0 and 4 only, order sum at most 1 on each centre": A and B of overlap, A to D of Coulomb
unfoldable pub small : Kind → List ℕ → Bool
small Overlap orders = both_at_most orders A B
small Kinetic orders = false
small Nuclear orders = false
small Moment orders = false
small Coulomb orders = all_at_most orders

-- "54 terms are never exceeded" (`FewTerms` in Shown.antt)
abbrev pub most_small_terms : ℕ
most_small_terms = 54

-- nor are the bytes of the longest roll (`ShortRoll` there)
abbrev pub most_small_roll : ℕ
most_small_roll = 348
