-- A judged roll's header and terms are what the listing says; a roll that is not one is refused as it reads.
use Prim.Native.Nat.{ℕ, ◌-◌, ◌≤◌, ◌<◌}
use native.Mathlib.Omega.{arith}
use mathlib.Core.Path.{◌≡◌, ap, sym, ◌∙◌}
use mathlib.Core.List.{List, ◌++◌}
use borrow.Author.Tests.{lt-ltb, le-ltb}
use lib.ListN.{length, take, drop, replicate}
use lib.Seq.{take_at}
use Rattle.kind.specs.Limits.{request_orders, most_listed}
use Rattle.kind.specs.Kinds.{kind_of, orders_of}
use Rattle.kind.specs.declared.Kind.{Kind}
use Rattle.laws.proofs.Cases.{clash}
use Rattle.roll.specs.declared.header.Opened.{Opened}
use Rattle.roll.specs.Reading.{refused, roll_at}
use Rattle.roll.specs.Header.{check_of}
use Rattle.roll.specs.inner.Judged.{Judged, left_of}
use Rattle.roll.proofs.Checked.{checked-judged, checked_refused, judged-named, judged-orders, judged-left, judged-terms}
use Rattle.listing.specs.Listed.{Listed, Refused}
use Rattle.listing.specs.Text.{head_line, term_lines, listing_text}
use Rattle.saying.specs.Said.{Said}
use Rattle.listing.specs.inner.Whole.{read_text, text_of}
use Rattle.listing.specs.Answers.{TextTold, listing_at, listing_out, ListingTold}
use Rattle.saying.proofs.SaidLaws.{said-both}
use Rattle.std.specs.Prelude.{Option, Some, None, Result, Ok, Err}
use Rattle.kind.specs.declared.refusals.Fault.{Fault}
use Rattle.kind.specs.declared.refusals.Refusal.TheVariants.{NoRoom}

-- ---- a judged roll

-- what is to be said of it
judged-text : (o : Opened) (s : List ℕ) (j : Judged o s) → text_of s ≡ head_line j.roll.kind j.roll.orders (length j.roll.terms) ++ term_lines 1 j.roll.terms
unfolding text_of listing_text
judged-text o s j = ap read_text j.reads

pub roll-said : (room : ℕ) (o : Opened) (s : List ℕ) (m : Option Kind) (k : Kind) (n : ℕ) (a b c : List ℕ) (q r : Option ℕ) → Judged o s → m ≡ kind_of o.cursor.kind → m ≡ Some k → n ≡ orders_of k → Said room a (Some 0) (head_line k (take (n - 0) (drop 0 o.orders)) o.cursor.left) q b → Said room b q (term_lines 1 (left_of o.cursor s)) r c → Said room a (Some 0) (text_of s) r c
roll-said room o s m k n a b c q r j is e count head lines =
    let os = j.roll.orders in
    let kind : k ≡ j.roll.kind = cc (judged-named o s j m is) in
    let are = judged-orders o s j in
    let size : n - 0 ≡ length os = omega (arith, ap orders_of kind, are.1) in
    let orders : take (n - 0) o.orders ≡ os = ap (take (n - 0)) are.0 ∙ take_at os (replicate (request_orders - length os) 0) (n - 0) (sym size) in
    let left : o.cursor.left ≡ length j.roll.terms = judged-left o s j in
    let rest : left_of o.cursor s ≡ j.roll.terms = judged-terms o s j in
    let one : Said room a (Some 0) (head_line j.roll.kind j.roll.orders (length j.roll.terms)) q b = rw (← kind, ← orders, ← left) head in
    let two : Said room b q (term_lines 1 j.roll.terms) r c = rw (← rest) lines in
    rw (judged-text o s j) (said-both one two)

pub roll-unknown : (room : ℕ) (o : Opened) (s : List ℕ) (m : Option Kind) (a : List ℕ) → Judged o s → m ≡ kind_of o.cursor.kind → m ≡ None → Said room a (Some 0) (text_of s) None a
roll-unknown room o s m a j is e = let known = judged-named o s j m is in absurd (clash (cc))

-- ---- the answers

pub listing-over : (s out : List ℕ) (start : ℕ) → most_listed < length s → ListingTold s out start (Refused NoRoom 0) out
unfolding listing_at listing_out
listing-over s out start over = record { answer = rw (lt-ltb most_listed (length s) over); out = rw (lt-ltb most_listed (length s) over) }

pub listing-refused : (s out : List ℕ) (start : ℕ) (y : Result Opened Fault) (why : Fault) → length s ≤ most_listed → y ≡ check_of s → y ≡ Err why → ListingTold s out start (Err why) out
unfolding listing_at listing_out
listing-refused s out start y why small is found =
    let reads : roll_at s ≡ refused why.refusal why.place = checked_refused s y why is found in
    record { answer = rw (le-ltb most_listed (length s) small, reads); out = rw (le-ltb most_listed (length s) small, reads) }

pub listing-told : (s out after : List ℕ) (start : ℕ) (y : Result Opened Fault) (o : Opened) (r : Listed) → length s ≤ most_listed → y ≡ check_of s → y ≡ Ok o → TextTold (text_of s) out start r after → ListingTold s out start r after
unfolding listing_at listing_out text_of
listing-told s out after start y o r small is found told =
    let j = checked-judged s y o is found in
    let t : TextTold (listing_text j.roll) out start r after = rw j.reads at told in
    record { answer = rw (le-ltb most_listed (length s) small, j.reads) t.answer; out = rw (le-ltb most_listed (length s) small, j.reads) t.out }
