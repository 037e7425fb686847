-- 02, Q-7: what is written in form 2, in its order.
use Rattle.std.specs.Prelude.{ℕ, suc, ◌+◌, cond, List, [], ◌∷◌, ◌++◌, eqb, length, drop}
use Rattle.kind.specs.declared.Kind.{Kind}
use Rattle.kind.specs.Kinds.{number_of}
use Rattle.term.specs.Terms.{Term}
use Rattle.number.specs.Numbers.{bytes_of}
use Rattle.roll.specs.Bytes.{numbers_bytes}

-- form 2 begins with kind + 16
abbrev pub form_two : ℕ
form_two = 16

-- the length of the longest beginning that two lists share
unfoldable pub shared : List ℕ → List ℕ → ℕ
shared [] ps = 0
shared (q ∷ qs) [] = 0
shared (q ∷ qs) (p ∷ ps) = cond (eqb q p) (suc (shared qs ps)) 0

-- the prefactors that a term does not share with the term before, whose prefactors are `earlier`
unfoldable pub further_of : List ℕ → List ℕ → List ℕ
further_of earlier ps = drop (shared earlier ps) ps

-- scale, Boys order, the length of the longest beginning shared with the term before, the number of further prefactors, and those
unfoldable pub term_bytes2 : List ℕ → Term → List ℕ
term_bytes2 earlier t =
    bytes_of t.scale
    ++ (bytes_of t.boys
    ++ (bytes_of (shared earlier t.prefactors)
    ++ (bytes_of (length (further_of earlier t.prefactors)) ++ numbers_bytes (further_of earlier t.prefactors))))

unfoldable pub terms_bytes2 : List ℕ → List Term → List ℕ
terms_bytes2 earlier [] = []
terms_bytes2 earlier (t ∷ ts) = term_bytes2 earlier t ++ terms_bytes2 t.prefactors ts

-- order: kind + 16; its orders; term count; the terms. Nothing stands before the first
unfoldable pub roll_bytes2 : Kind → List ℕ → List Term → List ℕ
roll_bytes2 k orders ts = bytes_of (form_two + number_of k) ++ (numbers_bytes orders ++ (bytes_of (length ts) ++ terms_bytes2 [] ts))
