-- The term with a number, worked out by the definition: of a grouping of two terms, and of bytes that are no grouping.
use Prim.Native.Nat.{ℕ}
use mathlib.Core.Path.{◌≡◌, refl}
use mathlib.Core.List.{List, [], ◌∷◌, map}
use Rattle.laws.specs.Unless.{unless}
use Rattle.number.specs.Numbers.{read_at, read_from}
use Rattle.term.specs.Terms.{held}
use Rattle.roll.specs.Reading.{within_at, prefactors_at, count_at, boys_at, term_at}
use Rattle.std.specs.Prelude.{Ok}
use Rattle.kind.specs.declared.refusals.Refusal.TheVariants.{BadRoll, ComponentNumber, CutRoll}
use Rattle.grouping.specs.Restoring.{Restored, refused_term, entry_at, next_at, restored_from, restored_of}

-- the bytes, L, the number of terms and the number asked, and the answer
pub record Case : Type 0 where
  pub bytes : List ℕ
  pub l : ℕ
  pub terms : ℕ
  pub number : ℕ
  pub answer : Restored

abbrev case : List ℕ → ℕ → ℕ → ℕ → Restored → Case
case bytes l terms number answer = record { bytes = bytes; l = l; terms = terms; number = number; answer = answer }

abbrev pub cases : List Case
cases =
    -- number 2 with scale 3 in the group of Boys order 0, then number 1 with scale 5 and prefactor 7 in that of 1
    case (2 ∷ 3 ∷ 0 ∷ 0 ∷ 1 ∷ 5 ∷ 1 ∷ 1 ∷ 7 ∷ []) 1 2 1 (Ok (held (record { scale = 5; boys = 1; prefactors = 7 ∷ [] })))
    ∷ case (2 ∷ 3 ∷ 0 ∷ 0 ∷ 1 ∷ 5 ∷ 1 ∷ 1 ∷ 7 ∷ []) 1 2 2 (Ok (held (record { scale = 3; boys = 0; prefactors = [] })))
    ∷
    -- what stands behind the entries is not looked at
    case (1 ∷ 1 ∷ 0 ∷ 0 ∷ 255 ∷ []) 0 1 1 (Ok (held (record { scale = 1; boys = 0; prefactors = [] })))
    ∷
    -- L above 24; then a number that is not from 1 to the number of terms
    case [] 25 1 2 (refused_term BadRoll 0)
    ∷ case (1 ∷ 1 ∷ 0 ∷ 0 ∷ []) 0 1 0 (refused_term ComponentNumber 0)
    ∷ case (1 ∷ 1 ∷ 0 ∷ 0 ∷ []) 0 1 2 (refused_term ComponentNumber 0)
    ∷
    -- an entry's number that is missing, that is 0 and that is above the number of terms
    case [] 0 1 1 (refused_term CutRoll 0)
    ∷ case (0 ∷ 1 ∷ 0 ∷ 0 ∷ []) 0 1 1 (refused_term BadRoll 0)
    ∷ case (2 ∷ 1 ∷ 0 ∷ 0 ∷ []) 0 1 1 (refused_term BadRoll 0)
    ∷
    -- a term that is cut; a Boys order above L
    case (1 ∷ 1 ∷ 0 ∷ []) 0 1 1 (refused_term CutRoll 3)
    ∷ case (1 ∷ 1 ∷ 1 ∷ 0 ∷ []) 0 1 1 (refused_term BadRoll 2)
    ∷
    -- a Boys order that falls; within a group a number that falls, and one that stands again
    case (1 ∷ 1 ∷ 1 ∷ 0 ∷ 2 ∷ 1 ∷ 0 ∷ 0 ∷ []) 1 2 1 (refused_term BadRoll 4)
    ∷ case (2 ∷ 1 ∷ 0 ∷ 0 ∷ 1 ∷ 1 ∷ 0 ∷ 0 ∷ []) 0 2 1 (refused_term BadRoll 4)
    ∷ case (1 ∷ 1 ∷ 0 ∷ 0 ∷ 1 ∷ 1 ∷ 0 ∷ 0 ∷ []) 0 2 2 (refused_term BadRoll 4)
    ∷
    -- a number that two groups have is refused where it is asked for; the number that none has, behind the last entry
    case (1 ∷ 1 ∷ 0 ∷ 0 ∷ 1 ∷ 1 ∷ 1 ∷ 0 ∷ []) 1 2 1 (refused_term BadRoll 4)
    ∷ case (1 ∷ 1 ∷ 0 ∷ 0 ∷ 1 ∷ 1 ∷ 1 ∷ 0 ∷ []) 1 2 2 (refused_term BadRoll 8)
    ∷ []

pub computed : map (λ (c : Case). restored_of c.bytes c.l c.terms c.number) cases ≡ map (λ (c : Case). c.answer) cases
unfolding restored_of unless restored_from next_at entry_at within_at read_at read_from term_at boys_at count_at prefactors_at
computed = refl
