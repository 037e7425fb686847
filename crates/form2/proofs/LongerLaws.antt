-- The functions of src/longer.rt: the terms of a judged form 2 roll written in form 1, and the move.
use Prim.Native.Nat.{ℕ, ◌+◌, ◌-◌, ◌≤◌, ◌<◌}
use mathlib.Core.Path.{◌≡◌, refl, sym, ap, ap₂, ◌∙◌}
use mathlib.Core.Bool.{Bool, true, false}
use mathlib.Core.List.{List, [], ◌∷◌, ◌++◌, append_assoc, append-nil}
use native.Mathlib.Omega.{arith}
use lib.Dec.{eqb, leb}
use lib.ListN.{length, take, drop, length-append, length-drop}
use lib.Seq.{sets, sets-eq, length-sets, length-take-le, take_at, drop_at, take-take}
use borrow.Rule.Slice.PartMut.{put_mid}
use Rattle.kind.specs.Limits.{most_l·any}
use Rattle.kind.specs.Kinds.{kind_of, number_of, table_of, most_l}
use Rattle.kind.specs.declared.Kind.{Kind}
use Rattle.kind.proofs.KindNumber.{kind-number}
use Rattle.kind.proofs.Within.{some-entries, table-within, number-within}
use Rattle.laws.proofs.Cases.{clash}
use Rattle.laws.proofs.Lists.{sets-append}
use Rattle.laws.specs.Total.{total}
use Rattle.number.specs.Numbers.{bytes_of, Bytes}
use Rattle.number.proofs.Writing.{bytes-last}
use Rattle.term.specs.Terms.{Term}
use Rattle.roll.specs.declared.cursor.Cursor.{Cursor}
use Rattle.roll.specs.declared.header.Opened.{Opened}
use Rattle.roll.specs.Bytes.{numbers_bytes, term_bytes, terms_bytes, roll_bytes}
use Rattle.roll.specs.Fits.{TermFits}
use Rattle.roll.specs.Reading.{Reading, got, refused, Header, Roll}
use Rattle.roll.specs.Header.{cursor_at, held_header}
use Rattle.roll.specs.inner.Again.{between}
use Rattle.roll.specs.inner.Judged.{terms_got}
use Rattle.roll.proofs.Filling.{before-is, and_then-is}
use Rattle.roll.proofs.Inside.{taken-inside}
use Rattle.roll.proofs.JudgeLaws.{none_left}
use Rattle.roll.proofs.TermsLaws.{few-prefactors, prefactors-length}
use Rattle.roll.proofs.Written.{HeadBytes, head_bytes, prefactors-bytes}
use Rattle.form2.specs.declared.judge.Sized.{Sized}
use Rattle.form2.specs.declared.terms.ReadFront.{ReadFront}
use Rattle.form2.specs.Bytes.{form_two}
use Rattle.form2.specs.Reading.{header_at2, Front, front_at, term_after, terms_after, roll_at2}
use Rattle.form2.specs.Header.{judged2}
use Rattle.form2.specs.Moves.{in_form1, MoveTold}
use Rattle.form2.specs.inner.Held.{held_front, size_in, sized_of}
use Rattle.form2.specs.inner.Puts.{Put, bytes_in, two_bytes, plain1, Term1May, TermsMay1, May1}
use Rattle.form2.proofs.Checked.{beside, whole, reads-checked2, checked-reads2, checked-refused2}
use Rattle.form2.proofs.Inside.{front_read, front-inside, further-read, term-read2, term-inside2, header-read2, header-inside2, header-most2}
use Rattle.form2.proofs.JudgeLaws.{one-byte-each, terms-turn2, sized-opened, sized-refused}
use Rattle.form2.proofs.MovesLaws.{told-refused, told-beyond, told-full, part_room, told_moved, first_one, head-copied, behind-head, roll-put}
use Rattle.form2.proofs.Written.{EarlierFits, term-earlier, term-fits2, terms-count2}
use Rattle.std.specs.Prelude.{Option, Some, None, Result, Ok, Err}
use Rattle.kind.specs.declared.refusals.Fault.{Fault}
use Rattle.roll.specs.Field.{fault}
use Rattle.roll.proofs.Checked.{opened-of}
use Rattle.form2.proofs.TermsLaws.{front_as}
use Rattle.kind.specs.declared.refusals.Refusal.TheVariants.{StartBeyondEnd, NoRoom}

-- ---- a term

plain-term : (k : Kind) (l : ℕ) (t : Term) → TermFits k l t → term_bytes t ≡ plain1 t.scale t.boys t.prefactors
unfolding term_bytes plain1 two_bytes
plain-term k l t fit =
    let ps = t.prefactors in
    ap (λ (l : List ℕ). bytes_of t.scale ++ (bytes_of t.boys ++ (bytes_of (length ps) ++ l))) (one-byte-each (table_of k) ps (table-within k) fit.prefactors)
    ∙ sym (append_assoc (bytes_of t.scale) (bytes_of t.boys) (bytes_of (length ps) ++ ps))

-- ---- the terms

-- all that is to be written
abbrev all_of : List ℕ → ℕ → ℕ → Kind → ℕ → List ℕ
all_of s at terms k l = terms_bytes (terms_got (terms_after s at terms k l []))

-- the prefactors of the term before stand in the buffer, before what comes next
pub record Writing1 (old : List ℕ) (start : ℕ) (s : List ℕ) (at terms : ℕ) (k : Kind) (l : ℕ) (out : List ℕ) (from count place went to : ℕ) : Type 0 where
  pub within : went ≤ terms
  pub small : l ≤ most_l k
  pub each : Bytes s
  pub earlier : List ℕ
  pub fits : EarlierFits k l earlier
  pub counted : length earlier ≡ count
  pub stands : take count (drop from out) ≡ earlier
  pub apart : from + count ≤ to
  pub rest : List Term
  pub last : ℕ
  pub reads : terms_after s place (terms - went) k l earlier ≡ got rest last
  pub done : List ℕ
  pub room : start + length (all_of s at terms k l) ≤ length old
  pub stored : out ≡ sets old start done
  pub next : to ≡ start + length done
  pub all : done ++ terms_bytes rest ≡ all_of s at terms k l

-- a term that is to be written: its bytes in the roll, and the terms behind it
record Here (s : List ℕ) (k : Kind) (l : ℕ) (earlier : List ℕ) (place left count : ℕ) (rest : List Term) (last : ℕ) : Type 0 where
  pub term : Term
  pub front : Front
  pub next : ℕ
  pub further : List ℕ
  pub behind : List Term
  pub numbers : front_at s place k l count ≡ got front next
  pub is : term ≡ record { scale = front.scale; boys = front.boys; prefactors = take front.shared earlier ++ further }
  pub fit : TermFits k l term
  pub within : front.shared ≤ count
  pub long : length further ≡ front.further
  pub bytes : drop next s ≡ further ++ drop (next + front.further) s
  pub inside : next + front.further ≤ length s
  pub reads : terms_after s (next + front.further) (left - 1) k l term.prefactors ≡ got behind last
  pub split : rest ≡ term ∷ behind

here-read : (s : List ℕ) (k : Kind) (l : ℕ) (earlier : List ℕ) (place left : ℕ) (rest : List Term) (last : ℕ) → Bytes s → EarlierFits k l earlier → 0 < left → terms_after s place left k l earlier ≡ got rest last → Here s k l earlier place left (length earlier) rest last
here-read s k l earlier place left rest last each fits some reads = by (term_after s place k l earlier) refl
  where
    by : (x : Reading Term) → term_after s place k l earlier ≡ x → Here s k l earlier place left (length earlier) rest last
    by (refused r wrong) e =
        let turn = terms-turn2 left k l earlier s place (refused r wrong) some e in
        absurd (clash (cc))
    by (got t end) e =
        let turn = terms-turn2 left k l earlier s place (got t end) some e in
        let b = before-is t (terms_after s end (left - 1) k l t.prefactors) rest last (sym turn ∙ reads) in
        let r = term-read2 k l earlier s place t end e in
        let f = r.front in
        let n = f.further in
        let p = r.place in
        let x = front_read k l (length earlier) s place f p r.numbers in
        let y = further-read n (table_of k) (drop f.shared earlier) s p r.further end r.reads in
        let pb = prefactors-bytes n (table_of k) s p r.further end each (some-entries k) y.0 in
        let long : length r.further ≡ n = prefactors-length n (table_of k) s p r.further end y.0 in
        let bytes : drop p s ≡ r.further ++ drop end s = pb.0 ∙ ap (λ (l : List ℕ). l ++ drop end s) (one-byte-each (table_of k) r.further (table-within k) pb.1) in
        let in-front = front-inside k l (length earlier) s place f p r.numbers in
        let inside = term-inside2 k l earlier s place t end e in
        let ends : end ≡ p + n = omega (arith, ap length bytes, length-append r.further (drop end s), length-drop p s, length-drop end s) in
        record {
          term = t;
          front = f;
          next = p;
          further = r.further;
          behind = b.0;
          numbers = r.numbers;
          is = r.is;
          fit = term-fits2 k l earlier s place t end fits e;
          within = x.shared.below;
          long = long;
          bytes = bytes ∙ ap (λ (m : ℕ). r.further ++ drop m s) ends;
          inside = omega arith;
          reads = ap (λ (m : ℕ). terms_after s m (left - 1) k l t.prefactors) (sym ends) ∙ b.1;
          split = b.2;
        }

-- a term that was put down: its prefactors stand at its end
put-stands : (out xs ps : List ℕ) (to q n : ℕ) (after : List ℕ) → length ps ≡ n → to + length (xs ++ ps) ≤ length out → Put (xs ++ ps) to out q after → (n ≤ q) × (take n (drop (q - n) after) ≡ ps)
put-stands out xs ps to q n after long room p =
    let sum = length-append xs ps in
    let next = p.next in
    let mid = sets out to xs in
    let mid-long : length mid ≡ length out = length-sets out to xs in
    let place : q - n ≡ to + length xs = omega arith in
    let after_is : after ≡ take (to + length xs) mid ++ (ps ++ drop (to + length xs + length ps) mid) = p.out ∙ sets-append out to xs ps ∙ sets-eq ps mid (to + length xs) (omega arith) ∙ append_assoc (take (to + length xs) mid) ps (drop (to + length xs + length ps) mid) in
    let front_long : length (take (to + length xs) mid) ≡ to + length xs = length-take-le (to + length xs) mid (omega arith) in (
      omega arith,
      ap₂ (λ (m : ℕ) (l : List ℕ). take n (drop m l)) place after_is
          ∙ ap (take n) (drop_at (take (to + length xs) mid) (ps ++ drop (to + length xs + length ps) mid) (to + length xs) front_long)
          ∙ take_at ps (drop (to + length xs + length ps) mid) n long,
    )

module _ (old : List ℕ) (start : ℕ) (s : List ℕ) (at terms : ℕ) (k : Kind) (l : ℕ) (out : List ℕ) (from count place went to : ℕ) (w : Writing1 old start s at terms k l out from count place went to) where
  pub writing1-length : length out ≡ length old
  writing1-length = ap length w.stored ∙ length-sets old start w.done

  pub writing1-done : terms ≤ went → out ≡ sets old start (all_of s at terms k l)
  unfolding terms_after terms_bytes
  writing1-done none =
      let zero_left : terms - went ≡ 0 = omega arith in
      let reads = rw zero_left at w.reads in
      let nothing : w.rest ≡ [] = none_left place w.rest w.last (eqb place (length s)) reads in
      w.stored ∙ ap (sets old start) (sym (append-nil w.done) ∙ ap (λ (ts : List Term). w.done ++ terms_bytes ts) (sym nothing) ∙ w.all)

  module _ (x : Result ReadFront Fault) (some : went < terms) (is : x ≡ held_front (front_at s place k l count)) where
    h : Here s k l w.earlier place (terms - went) count w.rest w.last
    h = rw w.counted at (here-read s k l w.earlier place (terms - went) w.rest w.last w.each w.fits (omega arith) w.reads)

    pub writing1-never : (why : Fault) → x ≡ Err why → out ≡ sets old start (all_of s at terms k l)
    writing1-never why err = let not : held_front (got h.front h.next) ≡ Err why = sym (ap held_front h.numbers) ∙ sym is ∙ err in absurd (clash (cc))

    module _ (read : ReadFront) (ok : x ≡ Ok read) where
      read-is : read ≡ front_as h.front h.next
      read-is = let same : Ok read ≡ held_front (got h.front h.next) = sym ok ∙ is ∙ ap held_front h.numbers in cc

      scale-is : read.scale ≡ h.front.scale
      scale-is = ap (λ (x : ReadFront). x.scale) read-is

      boys-is : read.boys ≡ h.front.boys
      boys-is = ap (λ (x : ReadFront). x.boys) read-is

      shared-is : read.shared ≡ h.front.shared
      shared-is = ap (λ (x : ReadFront). x.shared) read-is

      further-is : read.further ≡ h.front.further
      further-is = ap (λ (x : ReadFront). x.further) read-is

      next-is : read.next ≡ h.next
      next-is = ap (λ (x : ReadFront). x.next) read-is

      ps : List ℕ
      ps = take read.shared (drop from out) ++ take (read.next + read.further - read.next) (drop read.next s)

      slice : take (read.next + read.further - read.next) (drop read.next s) ≡ h.further
      slice =
          let n : read.next + read.further - read.next ≡ read.further = omega arith in
          ap₂ (λ (m p : ℕ). take m (drop p s)) (n ∙ further-is) next-is
          ∙ ap (take h.front.further) h.bytes
          ∙ take_at h.further (drop (h.next + h.front.further) s) h.front.further h.long

      pub write1-inside : read.next + read.further ≤ length s
      write1-inside = omega (arith, h.inside, next-is, further-is)

      within : read.shared ≤ count
      within = omega (arith, h.within, shared-is)

      prefactors-are : ps ≡ h.term.prefactors
      unfolding ps
      prefactors-are =
          ap₂ ◌++◌ (sym (take-take read.shared count (drop from out) within) ∙ ap (take read.shared) w.stands ∙ ap (λ (n : ℕ). take n w.earlier) shared-is) slice
          ∙ ap (λ (t : Term). t.prefactors) (sym h.is)

      few : length h.term.prefactors ≤ most_l·any
      few = omega (arith, h.fit.count, few-prefactors k l w.small)

      count-is : length h.term.prefactors ≡ read.shared + read.further
      count-is =
          let same = w.counted in
          let inside = within in
          omega (arith, ap (λ (t : Term). length t.prefactors) h.is, length-append (take h.front.shared w.earlier) h.further, length-take-le h.front.shared w.earlier (omega (arith, shared-is)), h.long, further-is, shared-is)

      pub write1-few : read.shared + read.further ≤ most_l·any
      write1-few = omega (arith, count-is, few)

      one-is : plain1 read.scale read.boys ps ≡ term_bytes h.term
      one-is =
          ap₂ (λ (a b : ℕ). plain1 a b ps) (scale-is ∙ ap (λ (t : Term). t.scale) (sym h.is)) (boys-is ∙ ap (λ (t : Term). t.boys) (sym h.is))
          ∙ ap (plain1 h.term.scale h.term.boys) prefactors-are
          ∙ sym (plain-term k l h.term h.fit)

      all-is : w.done ++ (plain1 read.scale read.boys ps ++ terms_bytes h.behind) ≡ all_of s at terms k l
      unfolding terms_bytes
      all-is =
          ap (λ (l : List ℕ). w.done ++ (l ++ terms_bytes h.behind)) one-is
          ∙ ap (λ (ts : List Term). w.done ++ terms_bytes ts) (sym h.split)
          ∙ w.all

      room : to + length (plain1 read.scale read.boys ps) ≤ length out
      room =
          let one = plain1 read.scale read.boys ps in
          omega (arith, w.room, w.next, ap length all-is, length-append w.done (one ++ terms_bytes h.behind), length-append one (terms_bytes h.behind), writing1-length)

      pub write1-may : Term1May read.scale read.boys from read.shared (take (read.next + read.further - read.next) (drop read.next s)) to out
      unfolding ps
      write1-may =
          let apart = w.apart in
          let inside = within in
          let most = write1-few in
          record { apart = omega arith; few = omega (arith, ap length slice, h.long, further-is); room = room }

      module _ (q : ℕ) (after : List ℕ) (p : Put (plain1 read.scale read.boys (take read.shared (drop from out) ++ take (read.next + read.further - read.next) (drop read.next s))) to out q after) where
        stood : (read.shared + read.further ≤ q) × (take (read.shared + read.further) (drop (q - (read.shared + read.further)) after) ≡ ps)
        unfolding plain1 ps
        stood =
            let front = two_bytes read.scale read.boys ++ bytes_of (length ps) in
            let is : plain1 read.scale read.boys ps ≡ front ++ ps = sym (append_assoc (two_bytes read.scale read.boys) (bytes_of (length ps)) ps) in
            put-stands out front ps to q (read.shared + read.further) after (ap length prefactors-are ∙ count-is) (rw is at room) (rw is at p)

        pub write1-back : read.shared + read.further ≤ q
        write1-back = stood.0

        pub writing1-more : Writing1 old start s at terms k l after (q - (read.shared + read.further)) (read.shared + read.further) (read.next + read.further) (went + 1) q
        unfolding ps
        writing1-more =
            let one = plain1 read.scale read.boys ps in
            let back = stood.0 in
            let less : terms - went - 1 ≡ terms - (went + 1) = omega arith in
            record {
              within = omega arith;
              small = w.small;
              each = w.each;
              earlier = h.term.prefactors;
              fits = term-earlier k l h.term h.fit;
              counted = count-is;
              stands = stood.1 ∙ prefactors-are;
              apart = omega arith;
              rest = h.behind;
              last = w.last;
              reads = rw (next-is, further-is, ← less) h.reads;
              done = w.done ++ one;
              room = w.room;
              stored = p.out ∙ ap₂ (λ (l : List ℕ) (k : ℕ). sets l k one) w.stored w.next ∙ sym (sets-append old start w.done one);
              next = omega (arith, p.next, w.next, length-append w.done one);
              all = append_assoc w.done one (terms_bytes h.behind) ∙ all-is;
            }

-- ---- the roll

module _ (o : Opened) (n : ℕ) (s : List ℕ) (may : May1 o n s) where
  bytes-are1 : bytes_in in_form1 (roll_at2 s) ≡ (o.cursor.kind ∷ between s 1 o.cursor.place) ++ terms_bytes may.roll.terms
  bytes-are1 = ap (bytes_in in_form1) may.reads ∙ may.bytes

  head-long1 : length (o.cursor.kind ∷ between s 1 o.cursor.place) ≡ o.cursor.place
  head-long1 = Rattle.form2.proofs.MovesLaws.head-long s o.cursor.kind o.cursor.place may.some may.inside

  pub head-fits1 : (out : List ℕ) → length (bytes_in in_form1 (roll_at2 s)) ≤ length out → o.cursor.place ≤ length out
  head-fits1 out room = omega (arith, ap length bytes-are1, length-append (o.cursor.kind ∷ between s 1 o.cursor.place) (terms_bytes may.roll.terms), head-long1)

  same_kind : (k : Kind) → kind_of o.cursor.kind ≡ Some k → may.kind ≡ k
  same_kind k e = let is = may.named in cc

  terms-may : (k : Kind) → kind_of o.cursor.kind ≡ Some k → (out : List ℕ) (start : ℕ) → start + length (terms_bytes may.roll.terms) ≤ length out → TermsMay1 s o.cursor.place o.cursor.left k o.cursor.l out start
  terms-may k e out start room =
      rw (← (same_kind k e)) (record { small = may.small; terms = may.roll.terms; end = may.last; reads = may.terms; room = room; each = may.each })

  pub put-terms-may1 : (k : Kind) (out : List ℕ) (to : ℕ) (mid : List ℕ) → kind_of o.cursor.kind ≡ Some k → length (bytes_in in_form1 (roll_at2 s)) ≤ length out → Put (o.cursor.kind ∷ between s 1 o.cursor.place) 0 out to mid → TermsMay1 s o.cursor.place o.cursor.left k o.cursor.l mid to
  put-terms-may1 k out to mid e room p =
      terms-may k e mid to (behind-head o.cursor.kind s o.cursor.place (terms_bytes may.roll.terms) out (bytes_in in_form1 (roll_at2 s)) bytes-are1 room to mid p)

  pub roll-put1 : (k : Kind) (out : List ℕ) (to : ℕ) (mid after : List ℕ) → kind_of o.cursor.kind ≡ Some k → Put (o.cursor.kind ∷ between s 1 o.cursor.place) 0 out to mid → after ≡ sets mid to (terms_bytes (terms_got (terms_after s o.cursor.place o.cursor.left k o.cursor.l []))) → after ≡ sets out 0 (bytes_in in_form1 (roll_at2 s))
  roll-put1 k out to mid after e p put =
      let reads : terms_after s o.cursor.place o.cursor.left k o.cursor.l [] ≡ got may.roll.terms may.last = rw (same_kind k e) at may.terms in
      roll-put o.cursor.kind s o.cursor.place (terms_bytes may.roll.terms) out (bytes_in in_form1 (roll_at2 s)) bytes-are1 to mid after p
      (put ∙ ap (λ (x : Reading (List Term)). sets mid to (terms_bytes (terms_got x))) reads)

  size-is1 : o.cursor.place + n ≡ length (in_form1 may.roll)
  size-is1 = omega (arith, may.size, ap length may.bytes, length-append (o.cursor.kind ∷ between s 1 o.cursor.place) (terms_bytes may.roll.terms), head-long1)

  pub beyond1 : (out : List ℕ) (start : ℕ) → length out < start → MoveTold in_form1 (roll_at2 s) out start (Err (fault StartBeyondEnd 0)) out
  beyond1 out start past = told-beyond in_form1 (roll_at2 s) out start may.roll may.end may.reads past

  module _ (out : List ℕ) (start : ℕ) (t : Bool) (inside : start ≤ length out) (test : t ≡ leb (o.cursor.place + n) (length out - start)) where
    pub full1 : t ≡ false → MoveTold in_form1 (roll_at2 s) out start (Err (fault NoRoom 0)) out
    full1 off = told-full in_form1 (roll_at2 s) out start may.roll may.end may.reads (o.cursor.place + n) t inside test size-is1 off

    pub part-room1 : t ≡ true → length (bytes_in in_form1 (roll_at2 s)) ≤ length (take (length out - start) (drop start out))
    part-room1 on = part_room in_form1 (roll_at2 s) out start may.roll may.end may.reads (o.cursor.place + n) t inside test size-is1 on

    pub moved1 : (part : List ℕ) → t ≡ true → part ≡ sets (take (length out - start) (drop start out)) 0 (bytes_in in_form1 (roll_at2 s)) → MoveTold in_form1 (roll_at2 s) out start (Ok (record { length = o.cursor.place + n; terms = o.cursor.left })) (put_mid start (length out - start) out part)
    moved1 part on put = told_moved in_form1 (roll_at2 s) out start may.roll may.end may.reads (o.cursor.place + n) t inside test size-is1 o.cursor.left part on may.count put

    pub sum-fits1 : t ≡ true → o.cursor.place + n ≤ length out
    sum-fits1 on = omega (arith, borrow.Author.Tests.leb-true (o.cursor.place + n) (length out - start) (sym test ∙ on))

  pub named1 : {P : Type 0} (m : Option Kind) → m ≡ kind_of o.cursor.kind → m ≡ None → P
  named1 m is e = let known = may.named in absurd (clash (cc))

-- ---- the move

-- what the judge says of a roll that reads
pub judged-may1 : (s : List ℕ) (x : Result Sized Fault) (z : Sized) → Bytes s → x ≡ sized_of s → x ≡ Ok z → May1 z.opened z.size s
unfolding sized_of roll_at2 in_form1 roll_bytes
judged-may1 s x z bytes is ok =
    let o = z.opened in
    let both = sized-opened (size_in (roll_at2 s)) (judged2 s) z (sym is ∙ ok) in
    let n-is : z.size ≡ size_in (roll_at2 s) = sym both.1 in
    let reads = checked-reads2 s o both.0 in
    let r = reads.0 in
    let g = and_then-is (header_at2 s) (whole s) r reads.1 reads.2 in
    let h = g.0 in
    let next = g.1 in
    let y = and_then-is (terms_after s next h.terms h.kind (total h.orders) []) (beside h) r reads.1 g.3 in
    let made : record { kind = h.kind; orders = h.orders; terms = y.0 } ≡ r = cc y.3 in
    let hr = header-read2 s h next g.2 in
    let within = number-within h.kind in
    let one : hr.a ≡ 1 = first_one s form_two (form_two + number_of Rattle.kind.specs.declared.Kind.TheVariants.Coulomb) (form_two + number_of h.kind) hr.a bytes (omega arith) hr.kind in
    let hb : HeadBytes s 1 h next = rw one at (head_bytes s hr.a hr.b h next bytes hr.orders hr.terms) in
    let some : 1 ≤ next = omega (arith, (taken-inside s hr.b 1 Rattle.kind.specs.Limits.most_terms h.terms next hr.terms).0) in
    let inside = header-inside2 s h next g.2 in
    let copied = head-copied s h next some inside hb in
    let opens = reads-checked2 s r reads.1 reads.2 in
    let answer : Ok o ≡ held_header (got h next) = sym both.0 ∙ opens.checks ∙ sym opens.opens ∙ ap held_header g.2 in
    let opened : o ≡ opened-of h next = cc in
    let cursor : o.cursor ≡ cursor_at h next = ap (λ (o : Opened). o.cursor) opened in
    made-may1 s o z.size h next y.0 r reads.1 y.1 bytes made cursor reads.2 some inside (header-most2 s h next g.2) y.2 (n-is ∙ ap size_in reads.2) copied
  where
    made-may1 : (s : List ℕ) (o : Opened) (n : ℕ) (h : Header) (next : ℕ) (ts : List Term) (r : Roll) (end last : ℕ) → Bytes s → record { kind = h.kind; orders = h.orders; terms = ts } ≡ r → o.cursor ≡ cursor_at h next → roll_at2 s ≡ got r end → 1 ≤ next → next ≤ length s → total h.orders ≤ most_l h.kind → terms_after s next h.terms h.kind (total h.orders) [] ≡ got ts last → n ≡ length (terms_bytes r.terms) → between s 1 next ≡ numbers_bytes h.orders ++ bytes_of h.terms → May1 o n s
    made-may1 s o n h next ts r end last bytes made cursor reads some inside small terms size copied =
        let place : o.cursor.place ≡ next = ap (λ (c : Cursor). c.place) cursor in
        let left : o.cursor.left ≡ h.terms = ap (λ (c : Cursor). c.left) cursor in
        let kind : o.cursor.kind ≡ number_of h.kind = ap (λ (c : Cursor). c.kind) cursor in
        let l : o.cursor.l ≡ total h.orders = ap (λ (c : Cursor). c.l) cursor in
        let ts-is : ts ≡ r.terms = ap (λ (r : Roll). r.terms) made in
        let count : length ts ≡ h.terms = terms-count2 h.terms h.kind (total h.orders) [] s next ts last terms in
        record {
          roll = r;
          end = end;
          reads = reads;
          some = rw place some;
          inside = rw place inside;
          kind = h.kind;
          named = ap kind_of kind ∙ kind-number h.kind;
          small = rw l small;
          last = last;
          terms = rw (place, left, l, ← ts-is) terms;
          count = left ∙ sym count ∙ ap length ts-is;
          size = size;
          each = bytes;
          bytes = rw (← made, kind, place) (head-and (number_of h.kind) h.orders ts h.terms (between s 1 next) (omega (arith, number-within h.kind)) count copied);
        }
      where
        head-and : (k : ℕ) (os : List ℕ) (ts : List Term) (n : ℕ) (head : List ℕ) → k < 128 → length ts ≡ n → head ≡ numbers_bytes os ++ bytes_of n → bytes_of k ++ (numbers_bytes os ++ (bytes_of (length ts) ++ terms_bytes ts)) ≡ (k ∷ head) ++ terms_bytes ts
        head-and k os ts n head small count is =
            ap (λ (l : List ℕ). l ++ (numbers_bytes os ++ (bytes_of (length ts) ++ terms_bytes ts))) (bytes-last k small)
            ∙ ap (λ (l : List ℕ). k ∷ l) (sym (append_assoc (numbers_bytes os) (bytes_of (length ts)) (terms_bytes ts))
            ∙ ap (λ (m : ℕ). (numbers_bytes os ++ bytes_of m) ++ terms_bytes ts) count
            ∙ ap (λ (l : List ℕ). l ++ terms_bytes ts) (sym is))

pub refused1 : (s : List ℕ) (x : Result Sized Fault) (out : List ℕ) (start : ℕ) (why : Fault) → x ≡ sized_of s → x ≡ Err why → MoveTold in_form1 (roll_at2 s) out start (Err why) out
unfolding sized_of
refused1 s x out start why is err = told-refused in_form1 (roll_at2 s) out start why (checked-refused2 s why (sized-refused (size_in (roll_at2 s)) (judged2 s) why (sym is ∙ err)))
