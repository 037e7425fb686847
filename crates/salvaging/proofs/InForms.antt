-- Both forms at once: a term reads and equals another exactly where the bytes begin with its writing, and where it ends.
use Prim.Native.Nat.{ℕ, zero, suc, ◌+◌, ◌*◌, ◌/◌, ◌%◌, ◌^◌, ◌≤◌, ◌<◌}
use mathlib.Core.Path.{◌≡◌, refl, sym, ap, ◌∙◌}
use mathlib.Core.Bool.{Bool, true, false}
use mathlib.Core.List.{List, [], ◌∷◌, ◌++◌, append_assoc}
use native.Mathlib.Omega.{arith}
use borrow.Author.Tests.{ltb-true, ltb-false}
use lib.Dec.{ltb}
use lib.ListN.{length, get_or, drop, length-append}
use lib.Seq.{get_or-drop, get_or-append-add, get_or-append_seam}
use Rattle.kind.specs.Kinds.{table_of, most_l}
use Rattle.kind.specs.declared.Kind.{Kind}
use Rattle.kind.proofs.Within.{l-within, table-within}
use Rattle.number.specs.Numbers.{groups, bytes_of, length_of, Bytes}
use Rattle.number.proofs.Writing.{groups-last, groups-more, bytes-last}
use Rattle.term.specs.Terms.{Term}
use Rattle.roll.specs.Bytes.{term_bytes, terms_bytes}
use Rattle.roll.specs.Reading.{got}
use Rattle.roll.specs.Fits.{TermFits}
use Rattle.roll.proofs.Back.{term-back, most-boys}
use Rattle.roll.proofs.Inside.{term-inside}
use Rattle.roll.proofs.TermsLaws.{few-prefactors}
use Rattle.roll.proofs.Written.{term-bytes}
use Rattle.form2.specs.Bytes.{shared, further_of, term_bytes2, terms_bytes2}
use Rattle.form2.proofs.Back.{term-back2, below-further, further-length}
use Rattle.form2.proofs.Inside.{term-inside2}
use Rattle.form2.proofs.JudgeLaws.{one-byte-each}
use Rattle.form2.proofs.Written.{term-bytes2}
use Rattle.salvaging.specs.declared.forms.Form.{Form}
use Rattle.salvaging.specs.declared.forms.Form.TheVariants.{One, Two}
use Rattle.salvaging.specs.Salvage.{term_in}
use Rattle.salvaging.specs.inner.Ends.{until_last, behind, count_at, end_at}
use Rattle.salvaging.specs.inner.Forms.{term_bytes_in, terms_bytes_in}
use Rattle.salvaging.proofs.EndsLaws.{until-high, until-low}

-- ---- a term and its bytes

-- where the bytes begin with a term's writing, the term reads, and the rest follows
pub term-there : (f : Form) (k : Kind) (l : ℕ) (earlier : List ℕ) (t : Term) (s rest : List ℕ) (at : ℕ) → l ≤ most_l k → TermFits k l t → drop at s ≡ term_bytes_in f earlier t ++ rest → (next : ℕ) × (term_in f s at k l earlier ≡ got t next) × (drop next s ≡ rest)
term-there One k l earlier t s rest at small fit is = term-back k l t s rest at small fit is
term-there Two k l earlier t s rest at small fit is = term-back2 k l earlier t s rest at small fit is

-- where a term reads, the bytes begin with its writing
pub term-only : (f : Form) (k : Kind) (l : ℕ) (earlier s : List ℕ) (at : ℕ) (t : Term) (next : ℕ) → Bytes s → term_in f s at k l earlier ≡ got t next → drop at s ≡ term_bytes_in f earlier t ++ drop next s
term-only One k l earlier s at t next bytes e = (term-bytes k l s at t next bytes e).0
term-only Two k l earlier s at t next bytes e = term-bytes2 k l earlier s at t next bytes e

pub term-within : (f : Form) (k : Kind) (l : ℕ) (earlier s : List ℕ) (at : ℕ) (t : Term) (next : ℕ) → term_in f s at k l earlier ≡ got t next → next ≤ length s
term-within One k l earlier s at t next e = term-inside k l s at t next e
term-within Two k l earlier s at t next e = term-inside2 k l earlier s at t next e

pub terms-next : (f : Form) (earlier : List ℕ) (t : Term) (ts : List Term) → terms_bytes_in f earlier (t ∷ ts) ≡ term_bytes_in f earlier t ++ terms_bytes_in f t.prefactors ts
unfolding terms_bytes terms_bytes2
terms-next One earlier t ts = refl
terms-next Two earlier t ts = refl

pub terms-none : (f : Form) (earlier : List ℕ) → terms_bytes_in f earlier [] ≡ []
unfolding terms_bytes terms_bytes2
terms-none One earlier = refl
terms-none Two earlier = refl

-- ---- a term's end

until-groups : (more n : ℕ) (rest : List ℕ) → n < 128 ^ suc more → until_last (groups more n ++ rest) + 1 ≡ length (groups more n)
unfolding groups
until-groups zero n rest small = let low = until-low n rest (omega arith) in omega (arith, low)
until-groups (suc more) n rest small = by (ltb n 128) refl (until-groups more (n / 128) rest)
  where
    by : (b : Bool) → ltb n 128 ≡ b → (n / 128 < 128 ^ suc more → until_last (groups more (n / 128) ++ rest) + 1 ≡ length (groups more (n / 128))) → until_last (groups (suc more) n ++ rest) + 1 ≡ length (groups (suc more) n)
    by true e higher =
        let one = groups-last (suc more) n (ltb-true n 128 e) in
        let low = until-low n rest (ltb-true n 128 e) in
        rw one (omega (arith, low))
    by false e higher =
        let above = ltb-false n 128 e in
        let split = groups-more more n above in
        let rest_of = higher (omega (arith, pow-next more)) in
        let high = until-high (128 + n % 128) (groups more (n / 128) ++ rest) (omega arith) in
        rw split (omega (arith, high, rest_of))
      where
        pow-next : (m : ℕ) → 128 ^ suc (suc m) ≡ 128 * 128 ^ suc m
        pow-next m = omega arith

until-number : (n : ℕ) (rest : List ℕ) → n < 2 ^ 32 → until_last (bytes_of n ++ rest) + 1 ≡ length_of n
unfolding bytes_of length_of
until-number n rest small = until-groups 4 n rest (omega arith)

-- a scale, numbers of one byte, the number of bytes that follow
end_by : (scale : ℕ) (front : List ℕ) (count : ℕ) (rest s : List ℕ) (at n : ℕ) → scale < 2 ^ 32 → n ≡ length front + 1 → drop at s ≡ bytes_of scale ++ (front ++ (count ∷ rest)) → end_at n s at ≡ at + length_of scale + n + count
unfolding end_at count_at length_of
end_by scale front count rest s at n small behind is =
    let until : until_last (drop at s) + 1 ≡ length (bytes_of scale) = ap (λ (l : List ℕ). until_last l + 1) is ∙ until-number scale (front ++ (count ∷ rest)) small in
    let place : at + until_last (drop at s) + n ≡ at + (length (bytes_of scale) + length front) = omega (arith, until, behind) in
    let there : get_or s (at + until_last (drop at s) + n) 0 ≡ count =
    ap (λ (m : ℕ). get_or s m 0) place
    ∙ sym (get_or-drop at s (length (bytes_of scale) + length front) 0)
    ∙ ap (λ (l : List ℕ). get_or l (length (bytes_of scale) + length front) 0) is
    ∙ get_or-append-add (bytes_of scale) (front ++ (count ∷ rest)) (length front) 0
    ∙ get_or-append_seam front count rest 0 in
    omega (arith, until, behind, there)

module _ (k : Kind) (l : ℕ) (t : Term) (small : l ≤ most_l k) (fit : TermFits k l t) where
  low-scale : t.scale < 2 ^ 32
  low-scale = omega (arith, fit.scale)

  low-boys : t.boys < 128
  low-boys = omega (arith, fit.boys, most-boys k l, l-within k)

  low_count : length t.prefactors < 128
  low_count = omega (arith, fit.count, few-prefactors k l small)

  end-one : (s rest : List ℕ) (at : ℕ) → drop at s ≡ term_bytes t ++ rest → end_at 2 s at ≡ at + length (term_bytes t)
  unfolding term_bytes length_of
  end-one s rest at is =
      let ps = t.prefactors in
      let one = bytes-last t.boys low-boys in
      let two = bytes-last (length ps) low_count in
      let plain = one-byte-each (table_of k) ps (table-within k) fit.prefactors in
      let written : term_bytes t ≡ bytes_of t.scale ++ ((t.boys ∷ []) ++ (length ps ∷ ps)) = rw (one, two, plain) refl in
      let end = end_by t.scale (t.boys ∷ []) (length ps) (ps ++ rest) s at 2 low-scale refl (is ∙ ap (λ (x : List ℕ). x ++ rest) written ∙ append_assoc (bytes_of t.scale) ((t.boys ∷ []) ++ (length ps ∷ ps)) rest) in
      let long = ap length written ∙ length-append (bytes_of t.scale) ((t.boys ∷ []) ++ (length ps ∷ ps)) in
      omega (arith, end, long)

  end-two : (earlier s rest : List ℕ) (at : ℕ) → drop at s ≡ term_bytes2 earlier t ++ rest → end_at 3 s at ≡ at + length (term_bytes2 earlier t)
  unfolding term_bytes2 length_of
  end-two earlier s rest at is =
      let fs = further_of earlier t.prefactors in
      let n = shared earlier t.prefactors in
      let whole = further-length earlier t.prefactors in
      let few = low_count in
      let one = bytes-last t.boys low-boys in
      let two = bytes-last n (omega arith) in
      let three = bytes-last (length fs) (omega arith) in
      let plain = one-byte-each (table_of k) fs (table-within k) (below-further (table_of k) earlier t.prefactors fit.prefactors) in
      let written : term_bytes2 earlier t ≡ bytes_of t.scale ++ ((t.boys ∷ n ∷ []) ++ (length fs ∷ fs)) = rw (one, two, three, plain) refl in
      let end = end_by t.scale (t.boys ∷ n ∷ []) (length fs) (fs ++ rest) s at 3 low-scale refl (is ∙ ap (λ (x : List ℕ). x ++ rest) written ∙ append_assoc (bytes_of t.scale) ((t.boys ∷ n ∷ []) ++ (length fs ∷ fs)) rest) in
      let long = ap length written ∙ length-append (bytes_of t.scale) ((t.boys ∷ n ∷ []) ++ (length fs ∷ fs)) in
      omega (arith, end, long)

-- a term ends behind its writing
pub term-end : (f : Form) (k : Kind) (l : ℕ) (earlier : List ℕ) (t : Term) (s rest : List ℕ) (at : ℕ) → l ≤ most_l k → TermFits k l t → drop at s ≡ term_bytes_in f earlier t ++ rest → end_at (behind f) s at ≡ at + length (term_bytes_in f earlier t)
term-end One k l earlier t s rest at small fit is = end-one k l t small fit s rest at is
term-end Two k l earlier t s rest at small fit is = end-two k l t small fit earlier s rest at is
