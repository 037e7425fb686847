-- A judged roll's header and terms are what the export says; a roll that is not one is refused as it reads.
use Prim.Native.Nat.{ℕ, ◌-◌}
use native.Mathlib.Omega.{arith}
use mathlib.Core.Path.{◌≡◌, ap, sym, ◌∙◌}
use mathlib.Core.List.{List, ◌++◌}
use lib.ListN.{length, take, drop, replicate}
use lib.Seq.{take_at}
use Rattle.kind.specs.Limits.{request_orders}
use Rattle.kind.specs.Kinds.{kind_of, orders_of}
use Rattle.kind.specs.declared.Kind.{Kind}
use Rattle.laws.proofs.Cases.{clash}
use Rattle.roll.specs.declared.header.Opened.{Opened}
use Rattle.roll.specs.Reading.{refused, roll_at}
use Rattle.roll.specs.Header.{check_of}
use Rattle.roll.specs.inner.Judged.{Judged, left_of}
use Rattle.roll.proofs.Checked.{checked-judged, checked_refused, judged-named, judged-orders, judged-left, judged-terms}
use Rattle.saying.specs.Said.{Said}
use Rattle.saying.proofs.SaidLaws.{said-both}
use Rattle.listing.specs.Listed.{Listed}
use Rattle.listing.specs.Answers.{TextTold}
use Rattle.exporting.specs.Text.{line_of, head_numbers, term_lines, text_of}
use Rattle.exporting.specs.Export.{export_of, export_out, ExportTold}
use Rattle.exporting.specs.inner.Whole.{read_text, whole_text}
use Rattle.std.specs.Prelude.{Option, Some, None, Result, Ok, Err}
use Rattle.kind.specs.declared.refusals.Fault.{Fault}

-- ---- a judged roll

-- what is to be said of it
judged-text : (o : Opened) (s : List ℕ) (j : Judged o s) → whole_text s ≡ line_of (head_numbers j.roll.kind j.roll.orders (length j.roll.terms)) ++ term_lines j.roll.terms
unfolding whole_text text_of
judged-text o s j = ap read_text j.reads

pub roll-said : (room : ℕ) (o : Opened) (s : List ℕ) (m : Option Kind) (k : Kind) (n : ℕ) (a b c : List ℕ) (q r : Option ℕ) → Judged o s → m ≡ kind_of o.cursor.kind → m ≡ Some k → n ≡ orders_of k → Said room a (Some 0) (line_of (head_numbers k (take (n - 0) (drop 0 o.orders)) o.cursor.left)) q b → Said room b q (term_lines (left_of o.cursor s)) r c → Said room a (Some 0) (whole_text s) r c
roll-said room o s m k n a b c q r j is e count head lines =
    let os = j.roll.orders in
    let kind : k ≡ j.roll.kind = cc (judged-named o s j m is) in
    let are = judged-orders o s j in
    let size : n - 0 ≡ length os = omega (arith, ap orders_of kind, are.1) in
    let orders : take (n - 0) o.orders ≡ os = ap (take (n - 0)) are.0 ∙ take_at os (replicate (request_orders - length os) 0) (n - 0) (sym size) in
    let left : o.cursor.left ≡ length j.roll.terms = judged-left o s j in
    let rest : left_of o.cursor s ≡ j.roll.terms = judged-terms o s j in
    let one : Said room a (Some 0) (line_of (head_numbers j.roll.kind j.roll.orders (length j.roll.terms))) q b = rw (← kind, ← orders, ← left) head in
    let two : Said room b q (term_lines j.roll.terms) r c = rw (← rest) lines in
    rw (judged-text o s j) (said-both one two)

pub roll-unknown : (room : ℕ) (o : Opened) (s : List ℕ) (m : Option Kind) (a : List ℕ) → Judged o s → m ≡ kind_of o.cursor.kind → m ≡ None → Said room a (Some 0) (whole_text s) None a
roll-unknown room o s m a j is e = let known = judged-named o s j m is in absurd (clash (cc))

-- ---- the answers

pub export-refused : (s out : List ℕ) (start : ℕ) (y : Result Opened Fault) (why : Fault) → y ≡ check_of s → y ≡ Err why → ExportTold s out start (Err why) out
unfolding export_of export_out
export-refused s out start y why is found =
    let reads : roll_at s ≡ refused why.refusal why.place = checked_refused s y why is found in
    record { answer = rw reads; out = rw reads }

pub export-told : (s out after : List ℕ) (start : ℕ) (y : Result Opened Fault) (o : Opened) (r : Listed) → y ≡ check_of s → y ≡ Ok o → TextTold (whole_text s) out start r after → ExportTold s out start r after
unfolding export_of export_out whole_text
export-told s out after start y o r is found told =
    let j = checked-judged s y o is found in
    let t : TextTold (text_of j.roll) out start r after = rw j.reads at told in
    record { answer = rw j.reads t.answer; out = rw j.reads t.out }
