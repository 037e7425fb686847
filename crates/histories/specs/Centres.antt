-- The orders of one centre, x y z, as the cases of documents 01 and 02 name them, and a request's orders by centre.
use Rattle.std.specs.Prelude.{ℕ, List, [], ◌∷◌, ◌++◌}

abbrev pub s : List ℕ
s = 0 ∷ 0 ∷ 0 ∷ []

abbrev pub x1 : List ℕ
x1 = 1 ∷ 0 ∷ 0 ∷ []

abbrev pub x2 : List ℕ
x2 = 2 ∷ 0 ∷ 0 ∷ []

abbrev pub x3 : List ℕ
x3 = 3 ∷ 0 ∷ 0 ∷ []

abbrev pub at : List ℕ → List ℕ → List ℕ → List ℕ → List ℕ
at a b c d = a ++ b ++ c ++ d
