-- 02, Q-3: J and K of inputs that tell the sums apart from others, computed by the definitions (proofs/Computed.antt). docs/DIFFERENCES.md has the first, the second and the last two.
use Rattle.std.specs.Prelude.{ℕ, ◌≡◌, List, [], ◌∷◌, ◌++◌, map, Float}
use Rattle.std.specs.Float.{binary64}
use Rattle.std.specs.Float.Ieee.{of_bits}
use Rattle.jk.specs.declared.Matrix.{Matrix}
use Rattle.jk.specs.declared.Matrix.TheVariants.{J, K}
use Rattle.jk.specs.Sums.{matrix_of}

-- floats by their bits: 0.0, 1.0, 2.0, 2^53, 2^53 + 2, −0.0
abbrev pub o : ℕ
o = 0

abbrev pub one : ℕ
one = 0x3ff0_0000_0000_0000

abbrev pub two : ℕ
two = 0x4000_0000_0000_0000

abbrev pub large : ℕ
large = 0x4340_0000_0000_0000

abbrev pub next : ℕ
next = 0x4340_0000_0000_0001

abbrev pub minus : ℕ
minus = 0x8000_0000_0000_0000

abbrev pub floats : List ℕ → List Float
floats ns = map (of_bits binary64) ns

-- a matrix of n functions: its I and D, and what it is, each row by row
pub record Example : Type 0 where
  pub matrix : Matrix
  pub n : ℕ
  pub i : List ℕ
  pub d : List ℕ
  pub is : List ℕ

abbrev pub Holds : Example → Type 0
Holds e = matrix_of e.matrix e.n (floats e.i) (floats e.d) ≡ floats e.is

-- four floats
abbrev pub four : ℕ → ℕ → ℕ → ℕ → List ℕ
four a b c d = a ∷ b ∷ c ∷ d ∷ []

-- of two functions: I at (0, 0, ..), (0, 1, ..), (1, 0, ..) and (1, 1, ..), then D, then the matrix
abbrev pub of_two : Matrix → List ℕ → List ℕ → List ℕ → List ℕ → List ℕ → List ℕ → Example
of_two m i00 i01 i10 i11 d is = record { matrix = m; n = 2; i = i00 ++ i01 ++ i10 ++ i11; d = d; is = is }

abbrev pub none : List ℕ
none = four o o o o

abbrev pub examples : List Example
examples =
    -- D is not symmetric: K at (0, 1) is I at (0, 0, 1, 1) times D at (0, 1), and is not mirrored
    of_two K (four o o o one) none none (four one o o o) (four o one o o) (four o one o o)
    -- I is not the same at (0, 1, 0, 0) and (1, 0, 0, 0): J at (0, 1) is not mirrored
    ∷ of_two J none (four one o o o) none none (four one o o o) (four o one o o)
    -- I at (0, 0, 0, 1) times D at (0, 1), not at (1, 0)
    ∷ of_two J (four o one o o) none none none (four o one two o) (four one o o o)
    -- K at (0, 0) takes I at (0, 1, 0, 0), J does not
    ∷ of_two K none (four one o o o) none none (four one one two one) (four two o o o)
    ∷ of_two J none (four one o o o) none none (four one one two one) (four o one o o)
    -- I and D with all symmetries: K at (0, 1) and at (1, 0) have the same products in another order
    ∷ of_two K (four o one one one) (four one large large o) (four one large large o) (four one o o o) (four one one one one) (four next next large large)
    -- sums begin at 0.0
    ∷ record { matrix = J; n = 1; i = minus ∷ []; d = one ∷ []; is = o ∷ [] }
    ∷ []

abbrev pub Each : List Example → Type 0
Each [] = Unit {0}
Each (e ∷ es) = Holds e × Each es
