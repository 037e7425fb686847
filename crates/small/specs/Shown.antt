-- 02, Q-13: what is shown of the profile: proofs/Units.antt of its terms and bytes, proofs/Most.antt of 4, proofs/Accepted.antt of its reader.
use Rattle.std.specs.Prelude.{ℕ, ◌+◌, ◌≤◌, ◌≡◌, true, false, cond, not, List, [], ◌∷◌, length, Result, Ok}
use Rattle.kind.specs.declared.Kind.{Kind}
use Rattle.kind.specs.declared.Kind.TheVariants.{Coulomb}
use Rattle.kind.specs.declared.refusals.Refusal.TheVariants.{OrderSum, UnusedOrder, TooManyTerms, StartBeyondEnd, NoRoom, OutsideProfile}
use Rattle.kind.specs.declared.refusals.Fault.{Fault}
use Rattle.kind.specs.Limits.{request_orders}
use Rattle.histories.specs.Centres.{x1, at}
use Rattle.laws.specs.Total.{total}
use Rattle.term.specs.Terms.{Term}
use Rattle.roll.specs.declared.header.Opened.{Opened}
use Rattle.roll.specs.Reading.{Reading, got, refused, Header, header_at, terms_at}
use Rattle.roll.specs.Header.{refused_opened}
use Rattle.form2.specs.Header.{is_form2}
use Rattle.form2.specs.Reading.{header_at2}
use Rattle.expansion.specs.Answer.{Answer, Roll, Refused}
use Rattle.expansion.specs.Demands.{written_at}
use Rattle.expansion.specs.Expanding.{◌exceeds◌, too_high, unused_set, too_many, terms_of, roll_of}
use Rattle.small.specs.Profile.{small, most_small_terms, most_small_roll}
use Rattle.small.specs.Check.{in_form2, if_fresh, opened_of, small_check_of}
use Rattle.small.specs.Expand.{small_kind, SmallExpandTold}

-- a request of the profile; the twelve orders are an array's
pub record SmallRequest (k : Kind) (orders : List ℕ) : Type 0 where
  pub in-full : length orders ≡ request_orders
  pub none-unused : unused_set k orders ≡ false
  pub within : small k orders ≡ true

-- "Show that 54 terms are never exceeded"
abbrev pub FewTerms : Type 0
FewTerms = (k : Kind) (orders : List ℕ) → SmallRequest k orders → length (terms_of k orders) ≤ most_small_terms

-- and so many bytes are not
abbrev pub ShortRoll : Type 0
ShortRoll = (k : Kind) (orders : List ℕ) → SmallRequest k orders → length (roll_of k orders) ≤ most_small_roll

-- "that 4 is never given": whatever fits the contract of `small::small_expand` is not 4
abbrev pub NeverFour : Type 0
NeverFour = (kind : ℕ) (orders before : List ℕ) (begin : ℕ) (after : List ℕ) → SmallExpandTold kind orders before begin (Refused TooManyTerms) after → ⊥

-- and no line was left out for it: with a line for 4 where the expansion has it
unfoldable pub with_four : Kind → List ℕ → List ℕ → ℕ → Answer
with_four k orders out begin =
    cond (too_high k orders) (Refused OrderSum)
    (cond (unused_set k orders) (Refused UnusedOrder)
    (cond (not (small k orders)) (Refused OutsideProfile)
    (cond (begin exceeds length out) (Refused StartBeyondEnd)
    (cond (too_many k orders) (Refused TooManyTerms)
    (cond (begin + length (roll_of k orders) exceeds length out) (Refused NoRoom)
    (Roll (length (roll_of k orders)) (length (terms_of k orders))))))))

-- the answers are the same
abbrev pub SameWithFour : Type 0
SameWithFour = (k : Kind) (orders out : List ℕ) (begin : ℕ) → length orders ≡ request_orders → with_four k orders out begin ≡ small_kind k orders out begin

-- ---- "and that four x orders, one on each centre of a Coulomb request, reach 54"; so do four y and four z orders, and their rolls are the longest

abbrev pub y1 : List ℕ
y1 = 0 ∷ 1 ∷ 0 ∷ []

abbrev pub z1 : List ℕ
z1 = 0 ∷ 0 ∷ 1 ∷ []

abbrev pub Reaches : List ℕ → Type 0
Reaches centre =
    SmallRequest Coulomb (at centre centre centre centre)
    × (length (terms_of Coulomb (at centre centre centre centre)) ≡ most_small_terms)
    × (length (roll_of Coulomb (at centre centre centre centre)) ≡ most_small_roll)

abbrev pub Reached : Type 0
Reached = Reaches x1 × Reaches y1 × Reaches z1

-- ---- the reader: `small::small_check` answers a roll exactly for what `small::small_expand` writes

-- bytes that a call of `small::small_expand` has written, by its contract
pub record SmallWritten (s : List ℕ) : Type 0 where
  pub kind : ℕ
  pub orders : List ℕ
  pub in-full : length orders ≡ request_orders
  pub before : List ℕ
  pub begin : ℕ
  pub long : ℕ
  pub count : ℕ
  pub after : List ℕ
  pub told : SmallExpandTold kind orders before begin (Roll long count) after
  pub is : s ≡ written_at after begin long

-- "Its reader accepts only rolls that equal the fresh expansion byte for byte", and all of those
abbrev pub OnlyWritten : Type 0
OnlyWritten = (s : List ℕ) (o : Opened) → small_check_of s ≡ Ok o → SmallWritten s

abbrev pub EveryWritten : Type 0
EveryWritten = (s : List ℕ) → SmallWritten s → (o : Opened) × (small_check_of s ≡ Ok o)

-- with a line for 4, where a request has too many terms for the expansion
abbrev pub terms_with_four : List ℕ → Kind → Opened → Reading (List Term) → Result Opened Fault
terms_with_four s k o (got ts end) = cond (too_many k o.orders) (refused_opened TooManyTerms 0) (if_fresh s (roll_of k o.orders) o)
terms_with_four s k o (refused r place) = refused_opened r place

abbrev pub form1_with_four : List ℕ → Reading Header → Result Opened Fault
form1_with_four s (got h next) =
    cond (not (small h.kind (opened_of h next).orders)) (refused_opened OutsideProfile 0)
    (terms_with_four s h.kind (opened_of h next) (terms_at s next h.terms h.kind (total h.orders)))
form1_with_four s (refused r place) = refused_opened r place

unfoldable pub check_with_four : List ℕ → Result Opened Fault
check_with_four s = cond (is_form2 s) (in_form2 (header_at2 s)) (form1_with_four s (header_at s))

-- the answers are the same
abbrev pub SameCheckWithFour : Type 0
SameCheckWithFour = (s : List ℕ) → check_with_four s ≡ small_check_of s

-- what it accepts has no more terms and no more bytes
abbrev pub FewAccepted : Type 0
FewAccepted = (s : List ℕ) (o : Opened) → small_check_of s ≡ Ok o → (o.cursor.left ≤ most_small_terms) × (length s ≤ most_small_roll)
