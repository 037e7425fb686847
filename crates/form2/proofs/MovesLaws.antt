-- What a move answers and writes, of either form: a law for each way out; and the header, which the two forms share but for its first byte.
use Prim.Native.Nat.{ℕ, ◌+◌, ◌-◌, ◌≤◌, ◌<◌}
use mathlib.Core.Path.{◌≡◌, refl, sym, ap, ◌∙◌}
use mathlib.Core.Bool.{Bool, true, false}
use mathlib.Core.List.{List, ◌∷◌, ◌++◌, append_assoc}
use native.Mathlib.Omega.{arith}
use borrow.Author.Tests.{lt-ltb, le-ltb, leb-true, leb-false}
use borrow.Rule.Slice.PartMut.{put_mid}
use lib.Dec.{leb}
use lib.ListN.{length, take, drop, length-append, length-drop}
use lib.Seq.{sets, length-sets, length-take-le, take_at}
use Rattle.laws.proofs.Lists.{sets-append}
use Rattle.laws.proofs.Parts.{part-put}
use Rattle.number.specs.Numbers.{bytes_of, Bytes}
use Rattle.number.proofs.Laws.{reads_only}
use Rattle.number.proofs.Writing.{length_last}
use Rattle.roll.specs.Bytes.{numbers_bytes}
use Rattle.roll.specs.Reading.{Reading, got, refused, Header, Roll}
use Rattle.roll.specs.inner.Again.{between}
use Rattle.roll.proofs.FieldLaws.{Taken}
use Rattle.roll.proofs.Written.{HeadBytes}
use Rattle.form2.specs.Moves.{moved_into, MoveTold}
use Rattle.form2.specs.inner.Puts.{Put, bytes_in}
use Rattle.std.specs.Prelude.{Ok, Err}
use Rattle.kind.specs.declared.refusals.Fault.{Fault}
use Rattle.roll.specs.Field.{fault}
use Rattle.kind.specs.declared.refusals.Refusal.TheVariants.{StartBeyondEnd, NoRoom}

-- ---- answers

pub told-refused : (form : Roll → List ℕ) (reading : Reading Roll) (out : List ℕ) (start : ℕ) (why : Fault) → reading ≡ refused why.refusal why.place → MoveTold form reading out start (Err why) out
told-refused form reading out start why e = rw e (record { answer = refl; bytes = refl })

module _ (form : Roll → List ℕ) (reading : Reading Roll) (out : List ℕ) (start : ℕ) (r : Roll) (end : ℕ) (reads : reading ≡ got r end) where
  pub told-beyond : length out < start → MoveTold form reading out start (Err (fault StartBeyondEnd 0)) out
  unfolding moved_into
  told-beyond past = rw reads (record { answer = simp (lt-ltb (length out) start past); bytes = simp (lt-ltb (length out) start past) })

  module _ (n : ℕ) (t : Bool) (inside : start ≤ length out) (test : t ≡ leb n (length out - start)) (size : n ≡ length (form r)) where
    pub told-full : t ≡ false → MoveTold form reading out start (Err (fault NoRoom 0)) out
    unfolding moved_into
    told-full off =
        let over : length out < start + length (form r) = omega (arith, leb-false n (length out - start) (sym test ∙ off)) in
        rw reads
        (record {
          answer = simp (le-ltb (length out) start inside, lt-ltb (length out) (start + length (form r)) over);
          bytes = simp (le-ltb (length out) start inside, lt-ltb (length out) (start + length (form r)) over);
        })

    fits : t ≡ true → start + length (form r) ≤ length out
    fits on = omega (arith, leb-true n (length out - start) (sym test ∙ on))

    -- the part lent has room for it
    pub part_room : t ≡ true → length (bytes_in form reading) ≤ length (take (length out - start) (drop start out))
    part_room on =
        let room = fits on in
        let all = ap length (Rattle.laws.proofs.Parts.part-all out start) in
        rw reads (omega (arith, all, length-drop start out))

    pub told_moved : (m : ℕ) (part : List ℕ) → t ≡ true → m ≡ length r.terms → part ≡ sets (take (length out - start) (drop start out)) 0 (bytes_in form reading) → MoveTold form reading out start (Ok (record { length = n; terms = m })) (put_mid start (length out - start) out part)
    unfolding moved_into
    told_moved m part on count put =
        let room = fits on in
        let put_is : part ≡ sets (take (length out - start) (drop start out)) 0 (form r) = rw reads at put in
        let there = part-put out part (form r) start room put_is in
        rw (reads, size, count)
        (record {
          answer = simp (le-ltb (length out) start inside, le-ltb (length out) (start + length (form r)) room);
          bytes = simp (le-ltb (length out) start inside, le-ltb (length out) (start + length (form r)) room) there;
        })

-- ---- the header

-- a first number below 128 is one byte
pub first_one : (s : List ℕ) (low high n a : ℕ) → Bytes s → n < 128 → Taken s 0 low high n a → a ≡ 1
first_one s low high n a bytes small t = let r = reads_only s 0 n a bytes t.read in omega (arith, r.after, length_last n small)

pub head-copied : (s : List ℕ) (h : Header) (next : ℕ) → 1 ≤ next → next ≤ length s → HeadBytes s 1 h next → between s 1 next ≡ numbers_bytes h.orders ++ bytes_of h.terms
unfolding between
head-copied s h next some inside b =
    let head = numbers_bytes h.orders ++ bytes_of h.terms in
    let all : drop 1 s ≡ head ++ drop next s = b.bytes ∙ sym (append_assoc (numbers_bytes h.orders) (bytes_of h.terms) (drop next s)) in
    let long : length head ≡ next - 1 = omega (arith, ap length all, length-append head (drop next s), length-drop 1 s, length-drop next s) in
    ap (take (next - 1)) all ∙ take_at head (drop next s) (next - 1) long

pub head-long : (s : List ℕ) (first place : ℕ) → 1 ≤ place → place ≤ length s → length (first ∷ between s 1 place) ≡ place
unfolding between
head-long s first place some inside = omega (arith, length-take-le (place - 1) (drop 1 s) (omega (arith, length-drop 1 s)))

-- what stands behind the header
pub behind-head : (first : ℕ) (s : List ℕ) (place : ℕ) (terms out : List ℕ) → (all : List ℕ) → all ≡ (first ∷ between s 1 place) ++ terms → length all ≤ length out → (to : ℕ) (mid : List ℕ) → Put (first ∷ between s 1 place) 0 out to mid → to + length terms ≤ length mid
behind-head first s place terms out all is room to mid p =
    let long = ap length p.out ∙ length-sets out 0 (first ∷ between s 1 place) in
    omega (arith, p.next, ap length is, length-append (first ∷ between s 1 place) terms)

pub roll-put : (first : ℕ) (s : List ℕ) (place : ℕ) (terms out : List ℕ) → (all : List ℕ) → all ≡ (first ∷ between s 1 place) ++ terms → (to : ℕ) (mid after : List ℕ) → Put (first ∷ between s 1 place) 0 out to mid → after ≡ sets mid to terms → after ≡ sets out 0 all
roll-put first s place terms out all is to mid after p put =
    let head = first ∷ between s 1 place in
    put
    ∙ ap (λ (l : List ℕ). sets l to terms) p.out
    ∙ ap (λ (n : ℕ). sets (sets out 0 head) n terms) p.next
    ∙ sym (sets-append out 0 head terms)
    ∙ ap (sets out 0) (sym is)
