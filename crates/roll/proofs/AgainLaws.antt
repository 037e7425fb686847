-- The functions of src/again.rt: a number and a term read again, and the short way over a term, whose three bytes are its three numbers.
-- A roll that reads gives the same terms when it is read again without its limits:
-- a number that was within them was read, and a prefactor is one byte.
use Prim.Native.Nat.{ℕ, zero, suc, ◌+◌, ◌-◌, ◌<◌, ◌≤◌, min}
use mathlib.Core.Path.{◌≡◌, refl, sym, ap, ◌∙◌}
use mathlib.Core.Bool.{Bool, true, false, true≢false}
use mathlib.Core.List.{List, [], ◌∷◌}
use native.Mathlib.Nat.{add-zero, min-eq_left, min-le_right, add-suc}
use native.Mathlib.Omega.{arith}
use borrow.Author.Tests.{leb-true, ltb-true}
use lib.Dec.{leb, eqb}
use lib.ListN.{length, take, drop, get_or}
use Rattle.kind.specs.declared.Kind.{Kind}
use Rattle.kind.specs.Kinds.{table_of}
use Rattle.kind.proofs.Within.{some-entries, table-within}
use Rattle.laws.specs.Total.{total}
use Rattle.term.specs.Terms.{Term}
use Rattle.number.specs.Read.{Number}
use Rattle.number.specs.declared.Unread.{Unread}
use Rattle.std.specs.Prelude.{Err}
use Rattle.number.specs.Read as number
use Rattle.number.specs.Read.{Is, Ended, NotShortest, TooLarge}
use Rattle.number.specs.Numbers.{one_byte, read_at, Bytes, bytes_of}
use Rattle.number.proofs.Laws.{reads_only}
use Rattle.number.proofs.Reading.{read_one, read-inside}
use Rattle.number.proofs.Writing.{bytes-last, length_last}
use Rattle.roll.specs.declared.again.Seen.{Seen}
use Rattle.roll.specs.declared.again.Head.{Head}
use Rattle.roll.specs.declared.cursor.Cursor.{Cursor}
use Rattle.roll.specs.declared.header.Opened.{Opened}
use Rattle.roll.specs.Reading.{got, within_at, before, prefactors_at, term_at, terms_at}
use Rattle.roll.specs.inner.Judged.{Judged}
use Rattle.roll.specs.inner.Again.{seen_of, seen_at, head_at, Short, between, head_term, terms_again}
use Rattle.roll.proofs.FieldLaws.{taken}
use Rattle.roll.proofs.Filling.{before-is, onward-is, and_then-is}
use Rattle.roll.proofs.Inside.{term-read}
use Rattle.roll.proofs.JudgeLaws.{none_left}
use Rattle.roll.proofs.Checked.{headed, opened-cursor}

-- ---- a number and a head

-- a number that was read
module _ (s : List ℕ) (at : ℕ) (r : Number) (e : r ≡ read_at s at) where
  pub seen-is : (n next : ℕ) → r ≡ Is n next → ◌≡◌ {A = Seen} (record { value = n; next = next }) (seen_at s at)
  unfolding seen_at seen_of
  seen-is n next f = rw (← e, f)

  pub seen-not : (why : Unread) → r ≡ Err why → ◌≡◌ {A = Seen} (record { value = 0; next = at }) (seen_at s at)
  unfolding seen_at seen_of
  seen-not why f = rw (← e, f)

pub head-made : (s : List ℕ) (at : ℕ) (a b c : Seen) (end : ℕ) → a ≡ seen_at s at → b ≡ seen_at s a.next → c ≡ seen_at s b.next → end ≡ min (c.next + c.value) (length s) → ◌≡◌ {A = Head} (record { scale = a.value; boys = b.value; from = c.next; end = end }) (head_at s at)
unfolding head_at
head-made s at a b c end e f g h = rw (h, g, f, e)

pub head-inside : (s : List ℕ) (at : ℕ) (h : Head) → h ≡ head_at s at → h.end ≤ length s
unfolding head_at
head-inside s at h e = rw e (min-le_right _ (length s))

-- a number and a term that are seen end inside, and no earlier than they begin
pub seen-forward : (s : List ℕ) (at : ℕ) → at ≤ length s → (at ≤ (seen_at s at).next) × ((seen_at s at).next ≤ length s)
unfolding seen_at seen_of
seen-forward s at inside = by (read_at s at) refl
  where
    by : (n : Number) → read_at s at ≡ n → (at ≤ (seen_of at n).next) × ((seen_of at n).next ≤ length s)
    by (Is n next) e = let r = read-inside s at n next e in (omega (arith, r.0), r.1)
    by Ended e = (omega arith, inside)
    by NotShortest e = (omega arith, inside)
    by TooLarge e = (omega arith, inside)

pub end-forward : (s : List ℕ) (at : ℕ) → at ≤ length s → at ≤ (head_at s at).end
unfolding head_at
end-forward s at inside =
    let a = seen-forward s at inside in
    let b = seen-forward s (seen_at s at).next a.1 in
    let c = seen-forward s (seen_at s (seen_at s at).next).next b.1 in
    omega arith

-- ---- the short way

seen_one : (s : List ℕ) (at : ℕ) → at < length s → one_byte (get_or s at 0) ≡ true → seen_at s at ≡ record { value = get_or s at 0; next = at + 1 }
unfolding seen_at seen_of
seen_one s at inside small = ap (seen_of at) (sym (read_one s at (get_or s at 0) inside refl (ltb-true (get_or s at 0) 128 small)))

short-head : (s : List ℕ) (at : ℕ) → Short s at → head_at s at ≡ record { scale = get_or s at 0; boys = get_or s (at + 1) 0; from = at + 3; end = at + 3 + get_or s (at + 2) 0 }
unfolding head_at
short-head s at h =
    let a = seen_one s at (omega (arith, h.inside)) h.scale in
    let b = seen_one s (at + 1) (omega (arith, h.inside)) h.boys in
    let two : at + 1 + 1 ≡ at + 2 = omega arith in
    let three : at + 2 + 1 ≡ at + 3 = omega arith in
    let c = seen_one s (at + 2) (omega (arith, h.inside)) h.count in
    let end : min (at + 3 + get_or s (at + 2) 0) (length s) ≡ at + 3 + get_or s (at + 2) 0 = min-eq_left h.inside in
    rw (a, b, two, c, three, end)

pub not_short : (s : List ℕ) (at : ℕ) → false ≡ true → Short s at
not_short s at e = absurd (true≢false (sym e))

pub short-is : (s : List ℕ) (at rest a b count : ℕ) (p q t : Bool) → at < length s → rest ≡ length s - at → 3 ≤ rest → a ≡ get_or s at 0 → p ≡ one_byte a → p ≡ true → b ≡ get_or s (at + 1) 0 → q ≡ one_byte b → q ≡ true → count ≡ get_or s (at + 2) 0 → t ≡ one_byte count → t ≡ true → leb (count + 3) rest ≡ true → Short s at
short-is s at rest a b count p q t here left room x a_test a_small y b-test b-small z count-test count_small fits =
    let most : count + 3 ≤ rest = leb-true (count + 3) rest fits in
    record {
      scale = ap one_byte (sym x) ∙ sym a_test ∙ a_small;
      boys = ap one_byte (sym y) ∙ sym b-test ∙ b-small;
      count = ap one_byte (sym z) ∙ sym count-test ∙ count_small;
      inside = omega arith;
    }

pub short-made : (s : List ℕ) (at a b c : ℕ) → Short s at → a ≡ get_or s at 0 → b ≡ get_or s (at + 1) 0 → c ≡ get_or s (at + 2) 0 → ◌≡◌ {A = Head} (record { scale = a; boys = b; from = at + 3; end = at + 3 + c }) (head_at s at)
short-made s at a b c short x y z = rw (x, y, z) (sym (short-head s at short))

pub short-boys : (s : List ℕ) (at b : ℕ) → Short s at → b ≡ get_or s (at + 1) 0 → b ≡ (head_at s at).boys
short-boys s at b short byte = byte ∙ ap (λ (h : Head). h.boys) (sym (short-head s at short))

pub short-end : (s : List ℕ) (at b : ℕ) → Short s at → b ≡ get_or s (at + 2) 0 → at + 3 + b ≡ (head_at s at).end
short-end s at b short byte = ap (λ (n : ℕ). at + 3 + n) byte ∙ ap (λ (h : Head). h.end) (sym (short-head s at short))

pub short-given : (s : List ℕ) (at : ℕ) (t : Bool) → (t ≡ true → Short s at) → t ≡ true → Short s at
short-given s at t is e = is e

pub head-boys : (s : List ℕ) (at : ℕ) (h : Head) → h ≡ head_at s at → h.boys ≡ (head_at s at).boys
head-boys s at h e = ap (λ (h : Head). h.boys) e

pub head-end : (s : List ℕ) (at : ℕ) (h : Head) → h ≡ head_at s at → h.end ≡ (head_at s at).end
head-end s at h e = ap (λ (h : Head). h.end) e

-- ---- a roll that was judged

-- a number below 128 is the byte that stands there
pub record One (s : List ℕ) (at n next : ℕ) : Type 0 where
  pub bytes : drop at s ≡ n ∷ drop (at + 1) s
  pub after : next ≡ at + 1
  pub inside : at + 1 ≤ length s

one_byte_lem : (s : List ℕ) (at n next : ℕ) → Bytes s → n < 128 → read_at s at ≡ number.Is n next → One s at n next
one_byte_lem s at n next bytes small e =
    let r = reads_only s at n next bytes e in
    let one : bytes_of n ≡ n ∷ [] = bytes-last n small in
    let after : next ≡ at + 1 = r.after ∙ ap (λ (x : ℕ). at + x) (length_last n small) in
    record { bytes = r.bytes ∙ rw (one, after); after = after; inside = omega (arith, r.within) }

-- prefactors stand byte by byte
pub record Listed (s : List ℕ) (at count : ℕ) (ps : List ℕ) (end : ℕ) : Type 0 where
  pub same : take count (drop at s) ≡ ps
  pub after : end ≡ at + count
  pub inside : end ≤ length s

listed : (count table : ℕ) (s : List ℕ) (at : ℕ) (ps : List ℕ) (end : ℕ) → Bytes s → table ≤ 128 → 1 ≤ table → at ≤ length s → prefactors_at s at count table ≡ got ps end → Listed s at count ps end
unfolding prefactors_at
listed zero table s at ps end bytes small some room e = record { same = cc; after = let same : at ≡ end = cc in sym same ∙ sym (add-zero at); inside = let same : at ≡ end = cc in omega arith }
listed (suc count) table s at ps end bytes small some room e =
    let o = onward-is (within_at s at 0 (table - 1)) (λ p next. before (p ∷ []) (prefactors_at s next count table)) ps end e in
    let b = before-is o.0 (prefactors_at s o.1 count table) ps end o.3 in
    let t = taken s at 0 (table - 1) (within_at s at 0 (table - 1)) o.0 o.1 refl o.2 in
    let one = one_byte_lem s at o.0 o.1 bytes (omega (arith, t.below)) t.read in
    let rest = listed count table s o.1 b.0 end bytes small some (omega (arith, one.after, one.inside)) b.1 in
    record {
      same = rw (b.2, one.bytes, ← one.after) (ap (λ (xs : List ℕ). o.0 ∷ xs) rest.same);
      after = omega (arith, rest.after, one.after, add-suc at count);
      inside = rest.inside;
    }

-- a number that was read is seen
seen_read : (s : List ℕ) (at n next : ℕ) → read_at s at ≡ number.Is n next → seen_at s at ≡ record { value = n; next = next }
unfolding seen_at seen_of
seen_read s at n next e = rw e

head-again : (s : List ℕ) (at scale boys count one two three : ℕ) → read_at s at ≡ number.Is scale one → read_at s one ≡ number.Is boys two → read_at s two ≡ number.Is count three → head_at s at ≡ record { scale = scale; boys = boys; from = three; end = min (three + count) (length s) }
unfolding head_at
head-again s at scale boys count one two three e f g = rw (seen_read s at scale one e, seen_read s one boys two f, seen_read s two count three g)

pub record Same (s : List ℕ) (at : ℕ) (t : Term) (end : ℕ) : Type 0 where
  pub term : head_term s (head_at s at) ≡ t
  pub after : (head_at s at).end ≡ end

pub term-again : (k : Kind) (l : ℕ) (s : List ℕ) (at : ℕ) (t : Term) (end : ℕ) → Bytes s → term_at s at k l ≡ got t end → Same s at t end
unfolding head_term between
term-again k l s at t end bytes e =
    let n = length t.prefactors in
    let r = term-read k l s at t end e in
    let room = reads_only s r.b n r.c bytes r.count.read in
    let list = listed n (table_of k) s r.c t.prefactors end bytes (omega (arith, table-within k)) (some-entries k) room.within r.prefactors in
    let whole : r.c + n ≤ length s = omega (arith, list.after, list.inside) in
    let ends : min (r.c + n) (length s) ≡ r.c + n = min-eq_left whole in
    let head = head-again s at t.scale t.boys n r.a r.b r.c r.scale.read r.boys.read r.count.read in
    let some : r.c + n - r.c ≡ n = omega arith in
    record {
      term = rw (head, ends, some, list.same);
      after = rw (head, ends) (sym list.after);
    }

-- as many terms as were read
pub terms-again : (left : ℕ) (k : Kind) (l : ℕ) (s : List ℕ) (at : ℕ) (ts : List Term) (end : ℕ) → Bytes s → terms_at s at left k l ≡ got ts end → terms_again s at left ≡ ts
unfolding terms_at terms_again
terms-again zero k l s at ts end bytes e = sym (none_left at ts end (eqb at (length s)) e)
terms-again (suc left) k l s at ts end bytes e =
    let t = and_then-is (term_at s at k l) (λ t next. before (t ∷ []) (terms_at s next left k l)) ts end e in
    let b = before-is t.0 (terms_at s t.1 left k l) ts end t.3 in
    let same = term-again k l s at t.0 t.1 bytes t.2 in
    let rest = terms-again left k l s t.1 b.0 end bytes b.1 in
    rw (same.term, same.after, rest) (sym b.2)

-- what is read again from a judged roll's cursor on are the roll's own terms
pub judged-again : (s : List ℕ) (o : Opened) → Bytes s → (j : Judged o s) → terms_again s o.cursor.place o.cursor.left ≡ j.roll.terms
judged-again s o bytes j =
    let d = headed o s j in
    let h = d.header in
    ap (λ (c : Cursor). terms_again s c.place c.left) (opened-cursor o s j.roll d)
    ∙ terms-again h.terms h.kind (total h.orders) s d.next j.roll.terms d.end bytes d.reads
