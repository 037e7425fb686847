-- `confirm` answers a roll exactly for what the expansion of a request writes, in either form; and 20 stands at the first byte that differs.
use Prim.Native.Nat.{ℕ, ◌+◌, ◌≤◌, ◌<◌}
use mathlib.Core.Path.{◌≡◌, refl, sym, ap, ◌∙◌}
use mathlib.Core.Bool.{Bool, true, false, cond}
use mathlib.Core.List.{List, [], ◌∷◌, ◌++◌, append-nil}
use native.Mathlib.Omega.{arith}
use borrow.Author.Tests.{le-ltb, ltb-false, eqb-false}
use lib.Dec.{eqb}
use lib.ListN.{length, get_or, take, drop, take-append-drop}
use lib.Seq.{take_all}
use Rattle.laws.specs.Same.{same_numbers}
use Rattle.laws.proofs.SameLaws.{same-numbers-is, same-numbers-refl}
use Rattle.laws.proofs.Cases.{clash}
use Rattle.laws.proofs.Lists.{drop_head}
use Rattle.kind.specs.declared.Kind.{Kind}
use Rattle.kind.specs.declared.Kind.TheVariants.{Overlap, Kinetic, Nuclear, Moment, Coulomb}
use Rattle.kind.specs.Limits.{most_terms}
use Rattle.number.specs.Numbers.{Bytes}
use Rattle.roll.specs.declared.header.Opened.{Opened}
use Rattle.std.specs.Prelude.{Ok}
use Rattle.roll.specs.Reading.{Reading, got, refused, Roll}
use Rattle.roll.specs.Header.{refused_opened}
use Rattle.roll.proofs.Checked.{opened-of}
use Rattle.roll.proofs.CutOrWrong.{begins-no-other}
use Rattle.form2.specs.Bytes.{shared}
use Rattle.form2.specs.Reading.{goes_on}
use Rattle.form2.specs.Header.{is_form2}
use Rattle.form2.proofs.CutOrWrong.{begins-no-other2}
use Rattle.form2.proofs.Sharing.{Parts, shares}
use Rattle.expansion.specs.Expanding.{too_many, terms_of}
use Rattle.expansion.specs.inner.Requests.{RequestWithin, form_of as added_in, head_of}
use Rattle.expansion.specs.inner.Sinks.{in_form1, in_form2}
use Rattle.expansion.proofs.HeaderLaws.{roll-bytes}
use Rattle.salvaging.specs.declared.forms.Form.{Form}
use Rattle.salvaging.specs.declared.forms.Form.TheVariants.{One, Two}
use Rattle.salvaging.specs.Salvage.{form_of, read_in, header_of, request_of, roll_in}
use Rattle.confirming.specs.Confirm.{judged_in, fresh_of, confirmed_roll, confirmed_by, confirm_of}
use Rattle.confirming.proofs.Forms.{headed, roll-within, the_roll, fresh-reads}
use Rattle.confirming.proofs.ConfirmLaws.{Met, met-confirmed}
use Rattle.kind.specs.declared.refusals.Refusal.TheVariants.{TooManyTerms, NotTheExpansion}

-- ---- what the expansion writes is a roll

-- the first byte of a request's roll tells its form
pub fresh-form : (f : Form) (k : Kind) (os : List ℕ) → RequestWithin k os → form_of (roll_in f k os) ≡ f
unfolding form_of is_form2 head_of added_in
fresh-form One k os within = ap form_of (roll-bytes k os within in_form1) ∙ by k
  where
    by : (k : Kind) → form_of (head_of (added_in in_form1) k os) ≡ One
    by Overlap = refl
    by Kinetic = refl
    by Nuclear = refl
    by Moment = refl
    by Coulomb = refl
fresh-form Two k os within = ap form_of (roll-bytes k os within in_form2) ∙ by k
  where
    by : (k : Kind) → form_of (head_of (added_in in_form2) k os) ≡ Two
    by Overlap = refl
    by Kinetic = refl
    by Nuclear = refl
    by Moment = refl
    by Coulomb = refl

-- for every request that the expansion takes, in either form
pub fresh-confirmed : (f : Form) (k : Kind) (os : List ℕ) → RequestWithin k os → length (terms_of k os) ≤ most_terms → (o : Opened) × (confirm_of (roll_in f k os) ≡ Ok o)
unfolding confirm_of
fresh-confirmed f k os within few =
    let s = roll_in f k os in
    let met : Met f k os s (length (terms_of k os)) =
    record { within = within; few = few; many = le-ltb most_terms (length (terms_of k os)) few; bytes-are = refl; same = same-numbers-refl s; count-is = refl } in
    let d = headed f s (the_roll k os) (length s) (fresh-reads k os within few f) in (
      opened-of (header_of (the_roll k os)) d.next,
      ap (λ (g : Form). confirmed_by g s (read_in g s)) (fresh-form f k os within) ∙ met-confirmed f k os s (length (terms_of k os)) met ∙ d.opened,
    )

-- ---- and nothing else is

-- a roll that was answered: what it says, and that it is its own request's roll
pub record Confirmed (s : List ℕ) (o : Opened) : Type 0 where
  pub roll : Roll
  pub end : ℕ
  pub reads : read_in (form_of s) s ≡ got roll end
  pub few : length (terms_of roll.kind (request_of (header_of roll))) ≤ most_terms
  pub is : s ≡ fresh_of (form_of s) roll
  pub header : judged_in (form_of s) s ≡ Ok o

pub confirmed : (s : List ℕ) (o : Opened) → confirm_of s ≡ Ok o → Confirmed s o
unfolding confirm_of confirmed_roll
confirmed s o found = by-reading (read_in (form_of s) s) refl found
  where
    by_tests : (r : Roll) (end : ℕ) → read_in (form_of s) s ≡ got r end → (many : Bool) → too_many r.kind (request_of (header_of r)) ≡ many → (same : Bool) → same_numbers s (fresh_of (form_of s) r) ≡ same
        → cond many (refused_opened TooManyTerms 0) (cond same (judged_in (form_of s) s) (refused_opened NotTheExpansion (shared s (fresh_of (form_of s) r)))) ≡ Ok o → Confirmed s o
    by_tests r end e true a same b g = absurd (clash (cc))
    by_tests r end e false a false b g = absurd (clash (cc))
    by_tests r end e false a true b g =
        record {
          roll = r;
          end = end;
          reads = e;
          few = ltb-false most_terms (length (terms_of r.kind (request_of (header_of r)))) a;
          is = same-numbers-is s (fresh_of (form_of s) r) b;
          header = g;
        }

    by-reading : (x : Reading Roll) → read_in (form_of s) s ≡ x → confirmed_by (form_of s) s x ≡ Ok o → Confirmed s o
    by-reading (refused r place) e g = absurd (clash (cc))
    by-reading (got r end) e g = by_tests r end e (too_many r.kind (request_of (header_of r))) refl (same_numbers s (fresh_of (form_of s) r)) refl g

-- ---- the place of 20

-- bytes before it are the same, and at it both have a byte and these differ
pub record FirstDiffer (s fresh : List ℕ) (place : ℕ) : Type 0 where
  pub before : take place s ≡ take place fresh
  pub inside : place < length s
  pub inside-fresh : place < length fresh
  pub other : get_or s place 0 ≡ get_or fresh place 0 → ⊥

-- a roll that reads is not the beginning of another one
begins-none : (f : Form) (s t : List ℕ) (r q : Roll) (end last : ℕ) → read_in f s ≡ got r end → read_in f (s ++ t) ≡ got q last → t ≡ []
begins-none One s t r q end last a b = begins-no-other s t r q end last a b
begins-none Two s t r q end last a b = begins-no-other2 s t r q end last a b

module _ (f : Form) (s fresh : List ℕ) (r q : Roll) (end last : ℕ) (reads : read_in f s ≡ got r end) (reads-fresh : read_in f fresh ≡ got q last) (differ : s ≡ fresh → ⊥) where
  abbrev n : ℕ
  n = shared s fresh

  same : take n s ≡ take n fresh
  same = (shares s fresh).same

  below : (a b : ℕ) → a ≤ b → (a ≡ b → ⊥) → a < b
  below a b h ne = omega (arith, h, ne)

  -- one that shares all of itself would be a beginning of the other
  not-all : (n ≡ length s) → ⊥
  not-all e =
      let whole : take n fresh ≡ s = sym same ∙ take_all n s (omega arith) in
      let split : fresh ≡ s ++ drop n fresh = sym (take-append-drop n fresh) ∙ ap (λ (l : List ℕ). l ++ drop n fresh) whole in
      let none : drop n fresh ≡ [] = begins-none f s (drop n fresh) r q end last reads (ap (read_in f) (sym split) ∙ reads-fresh) in
      differ (sym (append-nil s) ∙ ap (λ (l : List ℕ). s ++ l) (sym none) ∙ sym split)

  not-all-fresh : (n ≡ length fresh) → ⊥
  not-all-fresh e =
      let whole : take n s ≡ fresh = same ∙ take_all n fresh (omega arith) in
      let split : s ≡ fresh ++ drop n s = sym (take-append-drop n s) ∙ ap (λ (l : List ℕ). l ++ drop n s) whole in
      let none : drop n s ≡ [] = begins-none f fresh (drop n s) q r last end reads-fresh (ap (read_in f) (sym split) ∙ reads) in
      differ (split ∙ ap (λ (l : List ℕ). fresh ++ l) none ∙ append-nil fresh)

  pub first-differ : FirstDiffer s fresh n
  first-differ =
      let in-s : n < length s = below n (length s) (shares s fresh).left not-all in
      let in-fresh : n < length fresh = below n (length fresh) (shares s fresh).right not-all-fresh in
      record { before = same; inside = in-s; inside-fresh = in-fresh; other = λ e. parted in-s in-fresh e }
    where
      parted : n < length s → n < length fresh → get_or s n 0 ≡ get_or fresh n 0 → ⊥
      parted a b e =
          let heads : goes_on (get_or s n 0 ∷ drop (n + 1) s) (get_or fresh n 0) ≡ false = at-heads (drop n s) (drop n fresh) (drop_head s n (get_or s n 0) a refl) (drop_head fresh n (get_or fresh n 0) b refl) (shares s fresh).parts in
          let test : eqb (get_or s n 0) (get_or fresh n 0) ≡ false = heads in
          eqb-false (get_or s n 0) (get_or fresh n 0) test e
        where
          at-heads : (xs ys : List ℕ) → xs ≡ get_or s n 0 ∷ drop (n + 1) s → ys ≡ get_or fresh n 0 ∷ drop (n + 1) fresh → Parts xs ys → goes_on (get_or s n 0 ∷ drop (n + 1) s) (get_or fresh n 0) ≡ false
          at-heads xs ys e f parts = rw (e, f) at parts

-- of a roll that reads, whose request has no more histories than the cap, and whose bytes are not its request's: what `confirm` answers, and that place
pub differs_at : (s : List ℕ) (r : Roll) (end : ℕ) → Bytes s → read_in (form_of s) s ≡ got r end → too_many r.kind (request_of (header_of r)) ≡ false → (s ≡ fresh_of (form_of s) r → ⊥)
    → (confirm_of s ≡ refused_opened NotTheExpansion (shared s (fresh_of (form_of s) r))) × FirstDiffer s (fresh_of (form_of s) r) (shared s (fresh_of (form_of s) r))
unfolding confirm_of confirmed_roll
differs_at s r end bytes e many other =
    let f = form_of s in
    let k = r.kind in
    let os = request_of (header_of r) in
    let within = roll-within f s r bytes (headed f s r end e) in
    let few : length (terms_of k os) ≤ most_terms = ltb-false most_terms (length (terms_of k os)) many in
    (ap (confirmed_by f s) e ∙ rw (many, not_same (same_numbers s (fresh_of f r)) refl) refl, first-differ f s (fresh_of f r) r (the_roll k os) end (length (fresh_of f r)) e (fresh-reads k os within few f) other)
  where
    not_same : (b : Bool) → same_numbers s (fresh_of (form_of s) r) ≡ b → same_numbers s (fresh_of (form_of s) r) ≡ false
    not_same true g = absurd (other (same-numbers-is s (fresh_of (form_of s) r) g))
    not_same false g = g
