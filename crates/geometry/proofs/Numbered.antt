-- The numbers beside a table's entries are 0, 1 and so on, as many as the kind has entries; so a table's length is the kind's size.
use Prim.Native.Nat.{ℕ, zero, suc}
use mathlib.Core.Path.{◌≡◌, refl, ap, ◌∙◌}
use mathlib.Core.List.{List, [], ◌∷◌}
use lib.ListN.{length}
use Rattle.kind.specs.declared.Kind.{Kind}
use Rattle.kind.specs.declared.Kind.TheVariants.{Overlap, Kinetic, Nuclear, Moment, Coulomb}
use Rattle.kind.specs.Kinds.{table_of}
use Rattle.geometry.specs.declared.Centre.{Centre}
use Rattle.geometry.specs.Tables.{Entry, values, entries_of, prefac}

abbrev pub numbers_of : List Entry → List ℕ
numbers_of [] = []
numbers_of (e ∷ es) = e.number ∷ numbers_of es

-- so many numbers from i on
abbrev pub counted : ℕ → ℕ → List ℕ
counted zero i = []
counted (suc n) i = i ∷ counted n (suc i)

pub numbered : (k : Kind) (a b c d : Centre) → numbers_of (entries_of k a b c d) ≡ counted (table_of k) 0
unfolding entries_of
numbered Overlap a b c d = refl
numbered Kinetic a b c d = refl
numbered Nuclear a b c d = refl
numbered Moment a b c d = refl
numbered Coulomb a b c d = refl

-- a list of entries is as long as its numbers
length-values : (es : List Entry) → length (values es) ≡ length (numbers_of es)
length-values [] = refl
length-values (e ∷ es) = ap suc (length-values es)

length-counted : (n i : ℕ) → length (counted n i) ≡ n
length-counted zero i = refl
length-counted (suc n) i = ap suc (length-counted n (suc i))

-- a kind's table has as many entries as the kind says
pub table_counted : (k : Kind) (a b c d : Centre) → length (prefac k a b c d) ≡ table_of k
unfolding prefac
table_counted k a b c d = length-values (entries_of k a b c d) ∙ ap length (numbered k a b c d) ∙ length-counted (table_of k) 0
