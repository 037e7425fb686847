-- 02, Q-13: a request's roll held against bytes. The definitions stand beside those of `roll_size` in Expanding.antt: the same refusals, then what the bytes come to.
use Rattle.std.specs.Prelude.{ℕ, cond, List, length, Option, Some, None, Result, Ok, Err}
use Rattle.laws.specs.Same.{same_numbers}
use Rattle.kind.specs.declared.Kind.{Kind}
use Rattle.kind.specs.declared.refusals.Refusal.{Refusal}
use Rattle.kind.specs.declared.refusals.Refusal.TheVariants.{WrongKind, OrderSum, UnusedOrder, TooManyTerms}
use Rattle.form2.specs.Bytes.{shared}
use Rattle.expansion.specs.declared.matching.Against.{Against}
use Rattle.expansion.specs.declared.matching.Against.TheVariants.{Same, Differs}
use Rattle.expansion.specs.Expanding.{Form, too_high, unused_set, too_many, terms_of}

-- "byte for byte": the roll's length and its term count, or "the first differing byte's place", which is the length of what both begin with
abbrev pub held_against : List ℕ → List ℕ → ℕ → Against
held_against s fresh terms = cond (same_numbers s fresh) (Same (length fresh) terms) (Differs (shared s fresh))

-- of a kind: 2, 3, 4 in this order, or what the bytes come to beside the roll
unfoldable pub kind_against : Form → Kind → List ℕ → List ℕ → Result Against Refusal
kind_against roll k orders s =
    cond (too_high k orders) (Err OrderSum)
    (cond (unused_set k orders) (Err UnusedOrder)
    (cond (too_many k orders) (Err TooManyTerms)
    (Ok (held_against s (roll k orders) (length (terms_of k orders))))))

-- before them 1, for a kind above 4
abbrev pub named_against : Form → Option Kind → List ℕ → List ℕ → Result Against Refusal
named_against roll None orders s = Err WrongKind
named_against roll (Some k) orders s = kind_against roll k orders s
