-- The functions of src/lib.rt: a law for each way out. What was found without reading is what reading would have told.
use Prim.Native.Nat.{ℕ, ◌≤◌}
use mathlib.Core.Path.{◌≡◌, refl, sym, ap, ap₂, ◌∙◌}
use mathlib.Core.Bool.{Bool, true, false, cond}
use mathlib.Core.List.{List}
use borrow.Author.Tests.{ltb-false}
use lib.ListN.{length, get_or}
use mir.Syntax.{w8}
use mir.Val.{Fits}
use Rattle.laws.specs.Same.{same_numbers}
use Rattle.laws.proofs.SameLaws.{same-numbers-is}
use Rattle.laws.proofs.Cases.{clash}
use Rattle.kind.specs.declared.Kind.{Kind}
use Rattle.kind.specs.Kinds.{kind_of, number_of}
use Rattle.kind.specs.Limits.{most_terms, request_orders}
use Rattle.kind.proofs.KindNumber.{kind-number}
use Rattle.number.specs.Numbers.{Bytes}
use Rattle.roll.specs.declared.header.Opened.{Opened}
use Rattle.roll.specs.Reading.{got, Roll}
use Rattle.roll.specs.Header.{refused_opened}
use Rattle.roll.proofs.Checked.{opened-of}
use Rattle.form2.specs.Bytes.{shared}
use Rattle.expansion.specs.declared.matching.Against.{Against}
use Rattle.expansion.specs.declared.matching.Against.TheVariants.{Same, Differs}
use Rattle.expansion.specs.Expanding.{too_high, unused_set, too_many, terms_of}
use Rattle.expansion.specs.Against.{held_against, kind_against, named_against}
use Rattle.expansion.specs.inner.Requests.{RequestWithin}
use Rattle.salvaging.specs.declared.forms.Form.{Form}
use Rattle.salvaging.specs.Salvage.{form_of, read_in, header_of, request_of, roll_in}
use Rattle.confirming.specs.Confirm.{judged_in, fresh_of, confirmed_roll, confirmed_by, confirm_of}
use Rattle.confirming.specs.inner.Quick.{request_opened}
use Rattle.confirming.proofs.Forms.{Headed, headed, roll-within, judged-reads, judged-refused, the_roll, own-request, fresh-reads, fresh-opened}
use Rattle.std.specs.Prelude.{Option, Result, Ok, Err}
use Rattle.kind.specs.declared.refusals.Refusal.{Refusal}
use Rattle.kind.specs.declared.refusals.Fault.{Fault}
use Rattle.kind.specs.declared.refusals.Refusal.TheVariants.{OrderSum, UnusedOrder, TooManyTerms, NotTheExpansion}

-- the bytes of a slice, as the code knows them
bytes_of : (s : List ℕ) → ((i : ℕ) → Fits w8 (get_or s i 0)) → Bytes s
bytes_of s known i = (known i).fits

-- ---- a roll that was read

-- what a header that reads is told, by what its request came to
abbrev told_by : Opened → Result Against Refusal → Result Opened Fault
told_by o (Ok (Same long terms)) = Ok o
told_by o (Ok (Differs place)) = refused_opened NotTheExpansion place
told_by o (Err r) = refused_opened r 0

-- the tests of both, and what they come to
told-in-turn : (o : Opened) (long count place : ℕ) (many same : Bool) →
    told_by o (cond many (Err TooManyTerms) (Ok (cond same (Same long count) (Differs place)))) ≡ cond many (refused_opened TooManyTerms 0) (cond same (Ok o) (refused_opened NotTheExpansion place))
told-in-turn o long count place true same = refl
told-in-turn o long count place false true = refl
told-in-turn o long count place false false = refl

-- a header's request against the roll
module _ (f : Form) (s : List ℕ) (bytes : Bytes s) (r : Roll) (d : Headed f s r) where
  abbrev request : List ℕ
  request = request_of (header_of r)

  abbrev opened : Opened
  opened = opened-of (header_of r) d.next

  within : RequestWithin r.kind request
  within = roll-within f s r bytes d

  against-is : kind_against (roll_in f) r.kind request s ≡ cond (too_many r.kind request) (Err TooManyTerms) (Ok (held_against s (fresh_of f r) (length (terms_of r.kind request))))
  unfolding kind_against
  against-is = rw (within.low_sums, within.none-unused) refl

  roll-told : told_by opened (kind_against (roll_in f) r.kind request s) ≡ confirmed_roll f s r
  unfolding confirmed_roll
  roll-told =
      ap (told_by opened) against-is
      ∙ told-in-turn opened (length (fresh_of f r)) (length (terms_of r.kind request)) (shared s (fresh_of f r)) (too_many r.kind request) (same_numbers s (fresh_of f r))
      ∙ ap (λ (y : Result Opened Fault). cond (too_many r.kind request) (refused_opened TooManyTerms 0) (cond (same_numbers s (fresh_of f r)) y (refused_opened NotTheExpansion (shared s (fresh_of f r))))) (sym d.opened)

  named : named_against (roll_in f) (kind_of opened.cursor.kind) opened.orders s ≡ kind_against (roll_in f) r.kind request s
  unfolding request_of
  named = ap (λ (n : Option Kind). named_against (roll_in f) n request s) (kind-number r.kind)

module _ (f : Form) (s : List ℕ) (y : Result Opened Fault) (is : y ≡ judged_in f s) where
  pub read-refused : (why : Fault) → y ≡ Err why → Err why ≡ confirmed_by f s (read_in f s)
  read-refused why found = sym (ap (confirmed_by f s) (judged-refused f s why (sym is ∙ found)))

  module _ (known : (i : ℕ) → Fits w8 (get_or s i 0)) (o : Opened) (found : y ≡ Ok o) (a : Result Against Refusal) (held : a ≡ named_against (roll_in f) (kind_of o.cursor.kind) o.orders s) where
    read-roll : told_by o a ≡ confirmed_by f s (read_in f s)
    read-roll =
        let bytes = bytes_of s known in
        let x = judged-reads f s o (sym is ∙ found) in
        let r = x.0 in
        let d = headed f s r x.1 x.2 in
        let both : Ok o ≡ Ok (opened-of (header_of r) d.next) = sym found ∙ is ∙ d.opened in
        let same : o ≡ opened-of (header_of r) d.next = cc in
        let came : a ≡ kind_against (roll_in f) r.kind (request_of (header_of r)) s = held ∙ ap (λ (o : Opened). named_against (roll_in f) (kind_of o.cursor.kind) o.orders s) same ∙ named f s bytes r d in
        ap₂ told_by same came ∙ roll-told f s bytes r d ∙ sym (ap (confirmed_by f s) x.2)

    pub read-same : (b : Against) (long count : ℕ) → a ≡ Ok b → b ≡ Same long count → Ok o ≡ confirmed_by f s (read_in f s)
    read-same b long count e g = sym (ap (told_by o) (e ∙ ap (λ (x : Against). Ok x) g)) ∙ read-roll

    pub read-differs : (b : Against) (place : ℕ) → a ≡ Ok b → b ≡ Differs place → refused_opened NotTheExpansion place ≡ confirmed_by f s (read_in f s)
    read-differs b place e g = sym (ap (told_by o) (e ∙ ap (λ (x : Against). Ok x) g)) ∙ read-roll

    pub read-many : (r : Refusal) → a ≡ Err r → refused_opened r 0 ≡ confirmed_by f s (read_in f s)
    read-many r e = sym (ap (told_by o) e) ∙ read-roll

-- ---- a roll that was not read

-- what it takes to be the same
pub record Met (f : Form) (k : Kind) (os s : List ℕ) (count : ℕ) : Type 0 where
  pub within : RequestWithin k os
  pub few : length (terms_of k os) ≤ most_terms
  pub many : too_many k os ≡ false
  pub bytes-are : s ≡ roll_in f k os
  pub same : same_numbers s (roll_in f k os) ≡ true
  pub count-is : count ≡ length (terms_of k os)

met : (f : Form) (k : Kind) (os s : List ℕ) (long count : ℕ) → length os ≡ request_orders → kind_against (roll_in f) k os s ≡ Ok (Same long count) → Met f k os s count
unfolding kind_against
met f k os s long count full e = at (too_high k os) refl (unused_set k os) refl (too_many k os) refl (same_numbers s (roll_in f k os)) refl e
  where
    at : (high : Bool) → too_high k os ≡ high → (unused : Bool) → unused_set k os ≡ unused → (many : Bool) → too_many k os ≡ many → (same : Bool) → same_numbers s (roll_in f k os) ≡ same
        → ◌≡◌ {A = Result Against Refusal} (cond high (Err OrderSum) (cond unused (Err UnusedOrder) (cond many (Err TooManyTerms) (Ok (cond same (Same (length (roll_in f k os)) (length (terms_of k os))) (Differs (shared s (roll_in f k os)))))))) (Ok (Same long count))
        → Met f k os s count
    at true a unused b many c same d g = absurd (clash (cc))
    at false a true b many c same d g = absurd (clash (cc))
    at false a false b true c same d g = absurd (clash (cc))
    at false a false b false c false d g = let not : Differs (shared s (roll_in f k os)) ≡ Same long count = cc in absurd (clash (cc))
    at false a false b false c true d g =
        let both : Same (length (roll_in f k os)) (length (terms_of k os)) ≡ Same long count = cc in
        record {
          within = record { low_sums = a; none-unused = b; in-full = full };
          few = ltb-false most_terms (length (terms_of k os)) c;
          many = c;
          bytes-are = same-numbers-is s (roll_in f k os) d;
          same = d;
          count-is = cc;
        }

module _ (f : Form) (k : Kind) (os s : List ℕ) (count : ℕ) (m : Met f k os s count) where
  -- what the definition says of the bytes of a request's roll
  pub met-confirmed : confirmed_by f s (read_in f s) ≡ judged_in f s
  unfolding confirmed_roll
  met-confirmed =
      let reads : read_in f s ≡ got (the_roll k os) (length (roll_in f k os)) = ap (read_in f) m.bytes-are ∙ fresh-reads k os m.within m.few f in
      ap (confirmed_by f s) reads ∙ ap (λ (l : List ℕ). cond (too_many k l) (refused_opened TooManyTerms 0) (cond (same_numbers s (roll_in f k l)) (judged_in f s) (refused_opened NotTheExpansion (shared s (roll_in f k l))))) (own-request k os m.within)
      ∙ rw (m.many, m.same) refl

module _ (f : Form) (k : Kind) (os s : List ℕ) (n : ℕ) (number : n ≡ number_of k) (a : Result Against Refusal) (held : a ≡ named_against (roll_in f) (kind_of n) os s) (b : Against) (long count : ℕ) (m : a ≡ Ok b) (e : b ≡ Same long count) (full : length os ≡ request_orders) where
  met-here : Met f k os s count
  met-here =
      met f k os s long count full
      (sym (ap (λ (m : Option Kind). named_against (roll_in f) m os s) (ap kind_of number ∙ kind-number k)) ∙ sym held ∙ m ∙ ap (λ (x : Against). Ok x) e)

  pub quick-within : RequestWithin k os
  quick-within = met-here.within

  pub quick-same : ((i : ℕ) → Fits w8 (get_or s i 0)) → (o : Opened) → o ≡ request_opened k os count → Ok o ≡ confirmed_by f s (read_in f s)
  quick-same known o answer =
      let t = met-here in
      let bytes = bytes_of s known in
      ap (λ (x : Opened). Ok x) (answer ∙ ap (request_opened k os) t.count-is) ∙ sym (fresh-opened k os t.within t.few f s bytes t.bytes-are) ∙ sym (met-confirmed f k os s count t)

-- ---- in the form that the first byte tells

pub confirm-told : (s : List ℕ) (f : Form) (y : Result Opened Fault) → f ≡ form_of s → y ≡ confirmed_by f s (read_in f s) → y ≡ confirm_of s
unfolding confirm_of
confirm-told s f y is answer = answer ∙ ap (λ (g : Form). confirmed_by g s (read_in g s)) is
