-- 02, Q-14: the roll that a text imports as, or the first line that is wrong; lines are judged from the first on, shape before numbers.
use Rattle.std.specs.Prelude.{ℕ, zero, suc, ◌+◌, ◌≡◌, Bool, true, false, cond, ◌&&◌, ◌||◌, List, [], ◌∷◌, ltb, leb, eqb, length, get_or, take}
use Rattle.laws.specs.Placed.{placed_where_fits}
use Rattle.laws.specs.Total.{total}
use Rattle.kind.specs.Limits.{most_order, most_terms, most_scale}
use Rattle.kind.specs.Kinds.{kind_of, orders_of, table_of, most_prefactors}
use Rattle.kind.specs.declared.Kind.{Kind}
use Rattle.term.specs.Terms.{Term}
use Rattle.roll.specs.Reading.{most_boys, Header, Roll}
use Rattle.roll.specs.Bytes.{roll_bytes}
use Rattle.importing.specs.Answer.{Answer}
use Rattle.importing.specs.Answer as imported
use Rattle.importing.specs.Lines.{Line, line, broken, line_on}
use Rattle.std.specs.Prelude.{Option, Some, None, Ok, Err}
use Rattle.kind.specs.declared.refusals.Refusal.{Refusal}
use Rattle.kind.specs.Refusals.{refusal_number}
use Rattle.kind.specs.declared.refusals.Refusal.TheVariants.{StartBeyondEnd, NoRoom, LineShape, LineNumbers}

-- what a text gives, or a refusal and its line
pub data Judged (A : Type 0) : Type 0 where
  taken : A → Judged A
  refused : Refusal → ℕ → Judged A

abbrev pub and_then : {A B : Type 0} → Judged A → (A → Judged B) → Judged B
and_then (taken a) rest = rest a
and_then (refused r n) rest = refused r n

-- ---- shape: 21 for a line, number `at`, that isn't of the shape

-- by shape the first line has 8, 11 or 14 numbers
abbrev pub first_count : ℕ → Bool
first_count n = eqb n 8 || (eqb n 11 || eqb n 14)

-- any other two or more
abbrev pub other_count : ℕ → Bool
other_count n = leb 2 n

abbrev pub on_line : {A : Type 0} → (ℕ → Bool) → Line → ℕ → (List ℕ → List ℕ → Judged A) → Judged A
on_line right (line ns rest) at judge = cond (right (length ns)) (judge ns rest) (refused LineShape at)
on_line right broken at judge = refused LineShape at

-- ---- numbers: 22 for a number outside the reader's limits, or a count that doesn't match

-- the order sum on each centre, x y z each
abbrev pub centres_keep : List ℕ → Bool
centres_keep [] = true
centres_keep (x ∷ []) = false
centres_keep (x ∷ y ∷ []) = false
centres_keep (x ∷ y ∷ z ∷ os) = leb (x + y + z) most_order && centres_keep os

-- kind, orders and term count
unfoldable pub head_keeps : Header → Bool
head_keeps h = eqb (length h.orders) (orders_of h.kind) && (centres_keep h.orders && (leb 1 h.terms && leb h.terms most_terms))

-- of a kind that has a name: as many orders as it has, and after them the count alone
abbrev pub head_as : Option Kind → List ℕ → Judged Header
head_as (Some k) ns =
    let h : Header = record { kind = k; orders = take (orders_of k) ns; terms = get_or ns (orders_of k) 0 } in
    cond (eqb (length ns) (orders_of k + 1) && head_keeps h) (taken h) (refused LineNumbers 1)
head_as None ns = refused LineNumbers 1

-- the first line: `kind,orders..,count`
abbrev pub head_of : List ℕ → Judged Header
head_of [] = refused LineNumbers 1
head_of (n ∷ ns) = head_as (kind_of n) ns

-- prefactors, each below the table size
abbrev pub below : ℕ → List ℕ → Bool
below table [] = true
below table (p ∷ ps) = ltb p table && below table ps

-- scale, Boys order, prefactor count, prefactors
unfoldable pub term_keeps : Kind → ℕ → Term → Bool
term_keeps k l t =
    (leb 1 t.scale && leb t.scale most_scale)
    && (leb t.boys (most_boys k l)
    && (leb (length t.prefactors) (most_prefactors k l)
    && below (table_of k) t.prefactors))

-- any other line: `scale,order,prefactors..`
abbrev pub term_of : Kind → ℕ → ℕ → List ℕ → Judged Term
term_of k l at [] = refused LineNumbers at
term_of k l at (n ∷ []) = refused LineNumbers at
term_of k l at (scale ∷ boys ∷ ps) =
    let t : Term = record { scale = scale; boys = boys; prefactors = ps } in
    cond (term_keeps k l t) (taken t) (refused LineNumbers at)

-- ---- lines

-- the lines from number `at` on, of which as many as are left are terms: a missing line counts as the next, and one too many is wrong (D-119)
unfoldable pub terms_from : Kind → ℕ → ℕ → ℕ → List ℕ → Judged (List Term)
terms_from k l at zero [] = taken []
terms_from k l at zero (b ∷ s) = on_line other_count (line_on (b ∷ s)) at (λ ns rest. refused LineNumbers at)
terms_from k l at (suc left) [] = refused LineNumbers at
terms_from k l at (suc left) (b ∷ s) =
    on_line other_count (line_on (b ∷ s)) at (λ ns rest.
    and_then (term_of k l at ns) (λ t.
    and_then (terms_from k l (at + 1) left rest) (λ ts.
    taken (t ∷ ts))))

-- lines are counted from 1
unfoldable pub roll_of : List ℕ → Judged Roll
roll_of s =
    on_line first_count (line_on s) 1 (λ ns rest.
    and_then (head_of ns) (λ h.
    and_then (terms_from h.kind (total h.orders) 2 h.terms rest) (λ ts.
    taken (record { kind = h.kind; orders = h.orders; terms = ts }))))

-- ---- the answer

-- then 5 a start beyond the end, 6 no room; their line is 0. The length of the roll and its terms
abbrev pub answer_of : Judged Roll → List ℕ → ℕ → Answer
answer_of (refused r n) out start = imported.Refused r n
answer_of (taken r) out start =
    cond (ltb (length out) start) (imported.Refused StartBeyondEnd 0)
    (cond (ltb (length out) (start + length (roll_bytes r.kind r.orders r.terms))) (imported.Refused NoRoom 0)
    (imported.Roll (length (roll_bytes r.kind r.orders r.terms)) (length r.terms)))

abbrev pub out_of : Judged Roll → List ℕ → ℕ → List ℕ
out_of (refused r n) out start = out
out_of (taken r) out start = placed_where_fits out start (roll_bytes r.kind r.orders r.terms)

unfoldable pub imported_of : List ℕ → List ℕ → ℕ → Answer
imported_of text out start = answer_of (roll_of text) out start

-- only the bytes of the roll change, and none where it is refused
unfoldable pub imported_out : List ℕ → List ℕ → ℕ → List ℕ
imported_out text out start = out_of (roll_of text) out start

pub record ImportTold (text before : List ℕ) (start : ℕ) (r : Answer) (after : List ℕ) : Type 0 where
  pub answer : r ≡ imported_of text before start
  pub out : after ≡ imported_out text before start

-- 02's number for each case, 0 for success, and its line
abbrev pub refusal_of : Answer → ℕ
refusal_of (Ok i) = 0
refusal_of (Err e) = refusal_number e.refusal

abbrev pub line_number_of : Answer → ℕ
line_number_of (Ok i) = 0
line_number_of (Err e) = e.line
