-- 01, "The roll": what is written, in its order.
use Rattle.std.specs.Prelude.{ℕ, List, [], ◌∷◌, ◌++◌, length}
use Rattle.kind.specs.declared.Kind.{Kind}
use Rattle.kind.specs.Kinds.{number_of}
use Rattle.term.specs.Terms.{Term}
use Rattle.number.specs.Numbers.{bytes_of}

-- numbers one after the other
unfoldable pub numbers_bytes : List ℕ → List ℕ
numbers_bytes [] = []
numbers_bytes (n ∷ ns) = bytes_of n ++ numbers_bytes ns

-- for each term scale, Boys order, prefactor count, prefactors
unfoldable pub term_bytes : Term → List ℕ
term_bytes t = bytes_of t.scale ++ (bytes_of t.boys ++ (bytes_of (length t.prefactors) ++ numbers_bytes t.prefactors))

unfoldable pub terms_bytes : List Term → List ℕ
terms_bytes [] = []
terms_bytes (t ∷ ts) = term_bytes t ++ terms_bytes ts

-- order: kind; its orders; term count; the terms
unfoldable pub roll_bytes : Kind → List ℕ → List Term → List ℕ
roll_bytes k orders ts = bytes_of (number_of k) ++ (numbers_bytes orders ++ (bytes_of (length ts) ++ terms_bytes ts))
