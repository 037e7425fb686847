-- 02, Q-6: what a cabinet with the limits of before says. 01's reading once more, with a reader's limits as a parameter: only the lines that cite a limit differ from
-- Reading, Header and Cursor. With our limits it is the reader (`OneReading`), so one text is read with both. The limits alone are of before: what is cut is 14, as since Q-5.
-- Then Q-6's sentences, `OldRolls` and `OldCabinet`. Proved in proofs/Before.antt and proofs/BeforeRolls.antt.
use Rattle.std.specs.Prelude.{ℕ, zero, suc, ◌+◌, ◌*◌, ◌-◌, ◌^◌, ◌≤◌, ◌<◌, ◌≡◌, cond, ◌||◌, List, [], ◌∷◌, ◌++◌, map, ltb, eqb, length, get_or, take, Option, Some, None, Result, Ok}
use Rattle.laws.specs.Total.{total}
use Rattle.kind.specs.Limits.{most_order, most_terms, most_scale}
use Rattle.kind.specs.Kinds.{kind_of, number_of, orders_of}
use Rattle.kind.specs.declared.Kind.{Kind}
use Rattle.kind.specs.declared.Kind.TheVariants.{Overlap, Kinetic, Nuclear, Moment, Coulomb}
use Rattle.term.specs.Terms.{Term}
use Rattle.number.specs.Numbers.{Bytes, length_of}
use Rattle.roll.specs.declared.cursor.Cursor.{Cursor}
use Rattle.roll.specs.declared.cursor.Step.{Step}
use Rattle.roll.specs.declared.header.Opened.{Opened}
use Rattle.roll.specs.Bytes.{terms_bytes, roll_bytes}
use Rattle.roll.specs.Reading.{Reading, got, refused, within_at, onward, and_then, before, sum_after, Header, header_at, boys_at, Roll, roll_at}
use Rattle.roll.specs.Fits.{RollFits}
use Rattle.roll.specs.Header.{refused_opened, held_header, open_of, judged, check_of, refusal_of}
use Rattle.roll.specs.Cursor.{Stepped, refused_step, stepped, end_or, step_of}
use Rattle.kind.specs.declared.refusals.Refusal.TheVariants.{BadRoll}
use Rattle.kind.specs.declared.refusals.Fault.{Fault}

-- ---- limits

-- what a reader takes at most: the order sum on each centre and on the moment operator, the terms, a term's scale
pub record ReaderLimits : Type 0 where
  pub order : ℕ
  pub terms : ℕ
  pub scale : ℕ

-- the limits of before, 01's: order sum at most 4; at most 65,535 terms; scale at most 4^8 = 65,536
abbrev pub limits_before : ReaderLimits
limits_before = record { order = 4; terms = 65535; scale = 4 ^ 8 }

-- ours
abbrev pub limits_now : ReaderLimits
limits_now = record { order = most_order; terms = most_terms; scale = most_scale }

-- L is the sum of all orders, so at most that of two centres for kinds 0 to 2, three for kind 3, four for kind 4
abbrev pub most_l_under : ReaderLimits → Kind → ℕ
most_l_under m Overlap = 2 * m.order
most_l_under m Kinetic = 2 * m.order
most_l_under m Nuclear = 2 * m.order
most_l_under m Moment = 3 * m.order
most_l_under m Coulomb = 4 * m.order

-- ---- Reading

-- an order with which its centre's sum passes the limit is wrong
unfoldable pub orders_under : ReaderLimits → List ℕ → ℕ → ℕ → ℕ → ℕ → Reading (List ℕ)
orders_under m s at zero i sum = got [] at
orders_under m s at (suc n) i sum = onward (within_at s at 0 (m.order - sum)) (λ o next. before (o ∷ []) (orders_under m s next n (i + 1) (sum_after i sum o)))

-- term count, from 1 to the limit
unfoldable pub counted_under : ReaderLimits → List ℕ → ℕ → Kind → List ℕ → Reading Header
counted_under m s at k orders = onward (within_at s at 1 m.terms) (λ count next. got (record { kind = k; orders = orders; terms = count }) next)

abbrev pub of_kind_under : ReaderLimits → List ℕ → ℕ → Option Kind → Reading Header
of_kind_under m s at (Some k) = and_then (orders_under m s at (orders_of k) 0 0) (λ orders next. counted_under m s next k orders)
of_kind_under m s at None = refused BadRoll 0

unfoldable pub header_under : ReaderLimits → List ℕ → Reading Header
header_under m s = onward (within_at s 0 0 (number_of Coulomb)) (λ n next. of_kind_under m s next (kind_of n))

-- scale, from 1 to the limit; Boys order, prefactor count and prefactors by L alone
unfoldable pub term_under : ReaderLimits → List ℕ → ℕ → Kind → ℕ → Reading Term
term_under m s at k l = onward (within_at s at 1 m.scale) (λ scale next. boys_at s next k l scale)

unfoldable pub terms_under : ReaderLimits → List ℕ → ℕ → ℕ → Kind → ℕ → Reading (List Term)
terms_under m s at zero k l = cond (eqb at (length s)) (got [] at) (refused BadRoll at)
terms_under m s at (suc left) k l = and_then (term_under m s at k l) (λ t next. before (t ∷ []) (terms_under m s next left k l))

unfoldable pub roll_under : ReaderLimits → List ℕ → Reading Roll
roll_under m s =
    and_then (header_under m s) (λ h next.
    and_then (terms_under m s next h.terms h.kind (total h.orders)) (λ ts end.
    got (record { kind = h.kind; orders = h.orders; terms = ts }) end))

-- ---- open, check and next

unfoldable pub open_under : ReaderLimits → List ℕ → Result Opened Fault
open_under m s = held_header (header_under m s)

abbrev pub checked_under : ReaderLimits → List ℕ → Reading Header → Result Opened Fault
checked_under m s (got h next) = judged (held_header (got h next)) (terms_under m s next h.terms h.kind (total h.orders))
checked_under m s (refused r place) = refused_opened r place

unfoldable pub check_under : ReaderLimits → List ℕ → Result Opened Fault
check_under m s = checked_under m s (header_under m s)

abbrev pub step_under : ReaderLimits → Kind → Cursor → List ℕ → Stepped
step_under m k c s = cond (eqb c.left 0) (end_or s c.place) (stepped c (term_under m s c.place k c.l))

-- L beyond the kind's
abbrev pub step_as_under : ReaderLimits → Option Kind → Cursor → List ℕ → Stepped
step_as_under m (Some k) c s = cond (ltb (most_l_under m k) c.l || ltb (length s) c.place) (refused_step BadRoll c.place) (step_under m k c s)
step_as_under m None c s = refused_step BadRoll c.place

unfoldable pub next_under : ReaderLimits → Cursor → List ℕ → Stepped
next_under m c s = step_as_under m (kind_of c.kind) c s

-- with our limits: the reader
pub record OneReading : Type 0 where
  pub rolls : (s : List ℕ) → roll_under limits_now s ≡ roll_at s
  pub opens : (s : List ℕ) → open_under limits_now s ≡ open_of s
  pub checks : (s : List ℕ) → check_under limits_now s ≡ check_of s
  pub steps : (c : Cursor) (s : List ℕ) → next_under limits_now c s ≡ step_of c s

-- ---- what keeps limits, and what is the first not to

abbrev pub NoneAbove : ℕ → List ℕ → Type 0
NoneAbove high ns = (i : ℕ) → get_or ns i 0 ≤ high

-- number i, counted from 0, is the first above a limit
pub record FirstAbove (high : ℕ) (ns : List ℕ) (i : ℕ) : Type 0 where
  pub above : high < get_or ns i 0
  pub earlier : (j : ℕ) → j < i → get_or ns j 0 ≤ high

-- for each order the sum on its centre with it, x y z each
abbrev pub centre_sums : List ℕ → List ℕ
centre_sums [] = []
centre_sums (x ∷ []) = x ∷ []
centre_sums (x ∷ y ∷ []) = x ∷ (x + y) ∷ []
centre_sums (x ∷ y ∷ z ∷ os) = x ∷ (x + y) ∷ (x + y + z) ∷ centre_sums os

abbrev pub scales : List Term → List ℕ
scales ts = map (λ t. t.scale) ts

-- the limits that differ; the others are those of `RollFits`
pub record Keeps (m : ReaderLimits) (r : Roll) : Type 0 where
  pub orders : NoneAbove m.order (centre_sums r.orders)
  pub count : length r.terms ≤ m.terms
  pub scale : NoneAbove m.scale (scales r.terms)

abbrev pub writing : Roll → List ℕ
writing r = roll_bytes r.kind r.orders r.terms

-- ---- "Old rolls read as they did."

pub record OldRolls : Type 0 where
  -- for all bytes: what an old cabinet reads reads as the same kind, orders and terms
  pub reads : (s : List ℕ) (r : Roll) (end : ℕ) → roll_under limits_before s ≡ got r end → roll_at s ≡ got r end
  -- and its open, check and next answer as they did, unless they said 7: a roll, a term, the end and 14 stay.
  -- (A held term has more places for prefactors now, zeros behind its own; the term is the same.)
  pub opens : (s : List ℕ) → (refusal_of (open_under limits_before s) ≡ 7 → ⊥) → open_of s ≡ open_under limits_before s
  pub checks : (s : List ℕ) → (refusal_of (check_under limits_before s) ≡ 7 → ⊥) → check_of s ≡ check_under limits_before s
  pub steps : (c : Cursor) (s : List ℕ) → (refusal_of (next_under limits_before c s) ≡ 7 → ⊥) → step_of c s ≡ next_under limits_before c s
  -- what it reads are the writings of the kinds, orders and terms that keep the limits of before, and no other bytes
  pub written : (r : Roll) → RollFits r → Keeps limits_before r → roll_under limits_before (writing r) ≡ got r (length (writing r))
  pub no_other : (s : List ℕ) (r : Roll) (end : ℕ) → Bytes s → roll_under limits_before s ≡ got r end → (s ≡ writing r) × RollFits r × Keeps limits_before r

-- ---- what an old cabinet says of a roll that keeps our limits; every roll that reads is the writing of one (proofs/Written.antt)

-- its header is refused 7 at a place
pub record RefusedAt (s : List ℕ) (place : ℕ) : Type 0 where
  pub opens : open_under limits_before s ≡ refused_opened BadRoll place
  pub checks : check_under limits_before s ≡ refused_opened BadRoll place

-- its header opens as ours does, and its terms are refused 7 at a place
pub record StopsAt (s : List ℕ) (place : ℕ) : Type 0 where
  pub opens : open_under limits_before s ≡ open_of s
  pub checks : check_under limits_before s ≡ refused_opened BadRoll place

pub record OldCabinet : Type 0 where
  -- "A roll with a higher order is refused by an old cabinet with 7 at the order that passes 4": the kind and each order before it have one byte
  pub at-order : (r : Roll) → RollFits r → (i : ℕ) → FirstAbove limits_before.order (centre_sums r.orders) i → RefusedAt (writing r) (1 + i)
  -- "and one with lower orders but more than 65,535 terms with 7 at its count"
  pub at_count : (r : Roll) → RollFits r → NoneAbove limits_before.order (centre_sums r.orders) → limits_before.terms < length r.terms → RefusedAt (writing r) (1 + orders_of r.kind)
  -- one with lower orders and no more terms, but a higher scale, with 7 at the first such scale, behind the header and the terms before it
  pub at-scale : (r : Roll) → RollFits r → (i : ℕ) → NoneAbove limits_before.order (centre_sums r.orders) → length r.terms ≤ limits_before.terms → FirstAbove limits_before.scale (scales r.terms) i
      → StopsAt (writing r) (1 + orders_of r.kind + length_of (length r.terms) + length (terms_bytes (take i r.terms)))
  -- and a step of its cursor at a term of a higher scale is 7 at the term's place
  pub at-step : (c : Cursor) (s : List ℕ) → (x : Step) → step_of c s ≡ Ok (Some x) → limits_before.scale < x.term.scale → next_under limits_before c s ≡ refused_step BadRoll c.place
  -- all of these rolls read now
  pub reads_now : (r : Roll) → RollFits r → roll_at (writing r) ≡ got r (length (writing r))

-- ---- cases, run with the limits of before: the last that an old cabinet takes of each limit, and the first that it refuses

-- an overlap's roll with these x and y orders on A; one term, of this scale, with no prefactors
abbrev pub overlap : ℕ → ℕ → List ℕ → List ℕ
overlap x y scale = (0x00 ∷ x ∷ y ∷ 0x00 ∷ 0x00 ∷ 0x00 ∷ 0x00 ∷ 0x01 ∷ []) ++ scale ++ (0x00 ∷ 0x00 ∷ [])

abbrev pub overlap_of : ℕ → ℕ → ℕ → Roll
overlap_of x y scale = record { kind = Overlap; orders = x ∷ y ∷ 0 ∷ 0 ∷ 0 ∷ 0 ∷ []; terms = record { scale = scale; boys = 0; prefactors = [] } ∷ [] }

-- the header of overlap s,s with this term count
abbrev pub counted : List ℕ → List ℕ
counted count = (0x00 ∷ 0x00 ∷ 0x00 ∷ 0x00 ∷ 0x00 ∷ 0x00 ∷ 0x00 ∷ []) ++ count

abbrev pub counted_of : ℕ → Header
counted_of count = record { kind = Overlap; orders = 0 ∷ 0 ∷ 0 ∷ 0 ∷ 0 ∷ 0 ∷ []; terms = count }

pub record OldCases : Type 0 where
  -- Ax4 reads; Ax5 is refused at its x, and Ax3 y2 at its y, with which the sum passes
  pub last-order : roll_under limits_before (overlap 4 0 (0x01 ∷ [])) ≡ got (overlap_of 4 0 1) 11
  pub order-above : roll_under limits_before (overlap 5 0 (0x01 ∷ [])) ≡ refused BadRoll 1
  pub sum-above : roll_under limits_before (overlap 3 2 (0x01 ∷ [])) ≡ refused BadRoll 2
  -- 65,535 and 65,536 terms
  pub last-count : header_under limits_before (counted (0xff ∷ 0xff ∷ 0x03 ∷ [])) ≡ got (counted_of 65535) 10
  pub count-above : header_under limits_before (counted (0x80 ∷ 0x80 ∷ 0x04 ∷ [])) ≡ refused BadRoll 7
  -- scale 65,536 and 65,537
  pub last-scale : roll_under limits_before (overlap 0 0 (0x80 ∷ 0x80 ∷ 0x04 ∷ [])) ≡ got (overlap_of 0 0 65536) 13
  pub scale-above : roll_under limits_before (overlap 0 0 (0x81 ∷ 0x80 ∷ 0x04 ∷ [])) ≡ refused BadRoll 8
  -- what was refused reads now
  pub order-now : roll_at (overlap 5 0 (0x01 ∷ [])) ≡ got (overlap_of 5 0 1) 11
  pub sum-now : roll_at (overlap 3 2 (0x01 ∷ [])) ≡ got (overlap_of 3 2 1) 11
  pub count-now : header_at (counted (0x80 ∷ 0x80 ∷ 0x04 ∷ [])) ≡ got (counted_of 65536) 10
  pub scale-now : roll_at (overlap 0 0 (0x81 ∷ 0x80 ∷ 0x04 ∷ [])) ≡ got (overlap_of 0 0 65537) 13
