-- There and back, from the answers of the moves: what a move wrote of a roll, moved back, gives the same bytes, from either side.
use Prim.Native.Nat.{ℕ, ◌+◌, ◌≤◌}
use mathlib.Core.Path.{◌≡◌, refl, sym, ap, ap₂, ◌∙◌}
use mathlib.Core.Bool.{Bool, true, false, cond}
use mathlib.Core.List.{List, ◌++◌}
use native.Mathlib.Omega.{arith}
use borrow.Author.Tests.{le-ltb, ltb-false}
use lib.Dec.{ltb}
use lib.ListN.{length, take, drop}
use lib.Seq.{length-take-le, take_at, drop_at}
use Rattle.laws.proofs.Cases.{clash}
use Rattle.laws.specs.Placed.{placed}
use Rattle.number.specs.Numbers.{Bytes}
use Rattle.roll.specs.Reading.{Reading, got, refused, Roll, roll_at}
use Rattle.form2.specs.declared.moves.Moved.{Moved}
use Rattle.kind.specs.declared.refusals.Fault.{Fault}
use Rattle.roll.specs.Field.{fault}
use Rattle.std.specs.Prelude.{Result, Ok, Err}
use Rattle.form2.specs.Moves.{in_form1, in_form2, moved_into, moved_of, bytes_out, out_of}
use Rattle.form2.specs.Reading.{roll_at2}
use Rattle.form2.proofs.Forms.{ThereAndBack, form2-and-back, form1-and-back}
use Rattle.kind.specs.declared.refusals.Refusal.TheVariants.{StartBeyondEnd, NoRoom}

-- what was moved: a length and a term count
abbrev pub moved : ℕ → ℕ → Moved
moved n m = record { length = n; terms = m }

-- an answer with a length: the bytes have room, and their length and the term count are told
record Fitted (bytes : List ℕ) (terms : ℕ) (out : List ℕ) (start n m : ℕ) : Type 0 where
  pub room : start + length bytes ≤ length out
  pub long : n ≡ length bytes
  pub count : m ≡ terms

fitted : (bytes : List ℕ) (terms : ℕ) (out : List ℕ) (start n m : ℕ) → moved_into bytes terms out start ≡ Ok (moved n m) → Fitted bytes terms out start n m
unfolding moved_into
fitted bytes terms out start n m e = by (ltb (length out) start) refl e
  where
    on : (b : Bool) → ltb (length out) (start + length bytes) ≡ b → cond {A = Result Moved Fault} b (Err (fault NoRoom 0)) (Ok (moved (length bytes) terms)) ≡ Ok (moved n m) → Fitted bytes terms out start n m
    on true t e = absurd (clash (cc))
    on false f e =
        let same : moved (length bytes) terms ≡ moved n m = cc in
        record { room = ltb-false (length out) (start + length bytes) f; long = sym (ap (λ (x : Moved). x.length) same); count = sym (ap (λ (x : Moved). x.terms) same) }

    by : (b : Bool) → ltb (length out) start ≡ b → cond {A = Result Moved Fault} b (Err (fault StartBeyondEnd 0)) (cond (ltb (length out) (start + length bytes)) (Err (fault NoRoom 0)) (Ok (moved (length bytes) terms))) ≡ Ok (moved n m) → Fitted bytes terms out start n m
    by true t e = absurd (clash (cc))
    by false f e = on (ltb (length out) (start + length bytes)) refl e

fits-so : (bytes : List ℕ) (terms : ℕ) (out : List ℕ) (start : ℕ) → start + length bytes ≤ length out → moved_into bytes terms out start ≡ Ok (moved (length bytes) terms)
unfolding moved_into
fits-so bytes terms out start room = simp (le-ltb (length out) start (omega arith), le-ltb (length out) (start + length bytes) room)

-- bytes that were placed stand there
placed-there : (out : List ℕ) (start : ℕ) (bytes : List ℕ) → start + length bytes ≤ length out → take (length bytes) (drop start (placed out start bytes)) ≡ bytes
placed-there out start bytes room =
    ap (take (length bytes)) (drop_at (take start out) (bytes ++ drop (start + length bytes) out) start (length-take-le start out (omega arith)))
    ∙ take_at bytes (drop (start + length bytes) out) (length bytes) refl

-- moved into a second buffer, these bytes with this term count
pub record MovesTo (form : Roll → List ℕ) (reading : Reading Roll) (out : List ℕ) (start : ℕ) (bytes : List ℕ) (terms : ℕ) : Type 0 where
  pub answer : moved_of form reading out start ≡ Ok (moved (length bytes) terms)
  pub out-is : out_of form reading out start ≡ placed out start bytes

module _ (read other : List ℕ → Reading Roll) (there back : Roll → List ℕ) (both : (s : List ℕ) (r : Roll) (end : ℕ) → Bytes s → read s ≡ got r end → ThereAndBack s other there back r) where
  round : (s out : List ℕ) (start n m : ℕ) (second : List ℕ) (from : ℕ) → Bytes s → moved_of there (read s) out start ≡ Ok (moved n m) → from + length s ≤ length second → MovesTo back (other (take n (drop start (out_of there (read s) out start)))) second from s m
  round s out start n m second from bytes e room = by (read s) refl e
    where
      by : (x : Reading Roll) → read s ≡ x → moved_of there x out start ≡ Ok (moved n m) → MovesTo back (other (take n (drop start (out_of there x out start)))) second from s m
      by (refused q p) is e = absurd (clash (cc))
      by (got r end) is e =
          let f = fitted (there r) (length r.terms) out start n m e in
          let b = both s r end bytes is in
          let out-is : bytes_out (moved_into (there r) (length r.terms) out start) (there r) out start ≡ placed out start (there r) = ap (λ (x : Result Moved Fault). bytes_out x (there r) out start) e in
          let t-is : take n (drop start (bytes_out (moved_into (there r) (length r.terms) out start) (there r) out start)) ≡ there r =
          ap (λ (l : List ℕ). take n (drop start l)) out-is ∙ ap (λ (k : ℕ). take k (drop start (placed out start (there r)))) f.long ∙ placed-there out start (there r) f.room in
          let reads : other (take n (drop start (bytes_out (moved_into (there r) (length r.terms) out start) (there r) out start))) ≡ got r (length (there r)) = ap other t-is ∙ b.reads in
          let again : moved_into s m second from ≡ Ok (moved (length s) m) = fits-so s m second from room in
          let same : moved_into (back r) (length r.terms) second from ≡ Ok (moved (length s) m) = ap₂ (λ (l : List ℕ) (k : ℕ). moved_into l k second from) b.same (sym f.count) ∙ again in
          record {
            answer = ap (λ (x : Reading Roll). moved_of back x second from) reads ∙ same;
            out-is =
                ap (λ (x : Reading Roll). out_of back x second from) reads
                ∙ ap (λ (x : Result Moved Fault). bytes_out x (back r) second from) same
                ∙ ap (placed second from) b.same;
          }

-- from form 1 to form 2 and back: the same bytes, and the same term count
pub form2-and-back-again : (s out : List ℕ) (start n m : ℕ) (second : List ℕ) (from : ℕ) → Bytes s → moved_of in_form2 (roll_at s) out start ≡ Ok (moved n m) → from + length s ≤ length second → MovesTo in_form1 (roll_at2 (take n (drop start (out_of in_form2 (roll_at s) out start)))) second from s m
form2-and-back-again = round roll_at roll_at2 in_form2 in_form1 form2-and-back

-- from form 2 to form 1 and back
pub form1-and-back-again : (s out : List ℕ) (start n m : ℕ) (second : List ℕ) (from : ℕ) → Bytes s → moved_of in_form1 (roll_at2 s) out start ≡ Ok (moved n m) → from + length s ≤ length second → MovesTo in_form2 (roll_at (take n (drop start (out_of in_form1 (roll_at2 s) out start)))) second from s m
form1-and-back-again = round roll_at2 roll_at in_form1 in_form2 form1-and-back
