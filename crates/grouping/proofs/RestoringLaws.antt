-- The functions of src/restoring.rt: an entry, whether it stands behind those passed, and the entries one after the other; a law for each way out.
use Prim.Native.Nat.{ℕ, ◌+◌, ◌-◌, ◌≤◌, ◌<◌}
use mathlib.Core.Path.{◌≡◌, refl, sym, ap, ◌∙◌}
use mathlib.Core.Bool.{Bool, true, false, cond}
use mathlib.Core.List.{List}
use native.Mathlib.Nat.{sub-zero}
use native.Mathlib.Omega.{arith}
use borrow.Author.Tests.{le-ltb, le-leb, lt-leb}
use lib.Dec.{leb}
use lib.ListN.{length}
use Rattle.std.specs.Prelude.{Option, Some, None, Result, Ok, Err, IsSome}
use Rattle.laws.specs.Unless.{unless}
use Rattle.laws.proofs.Cases.{clash}
use Rattle.laws.proofs.Counting.{left_one, left-none}
use Rattle.kind.specs.Kinds.{number_of, most_l}
use Rattle.kind.specs.declared.Kind.TheVariants.{Coulomb}
use Rattle.kind.specs.declared.refusals.Refusal.TheVariants.{BadRoll, ComponentNumber}
use Rattle.kind.specs.declared.refusals.Fault.{Fault}
use Rattle.kind.proofs.Faults.{err-is}
use Rattle.term.specs.Terms.{Term, held}
use Rattle.roll.specs.declared.cursor.Cursor.{Cursor}
use Rattle.roll.specs.declared.cursor.Step.{Step}
use Rattle.roll.specs.Field.{Field, fault}
use Rattle.roll.specs.Field as field
use Rattle.roll.specs.Cursor.{Stepped, stepped, step_of}
use Rattle.roll.specs.Reading.{Reading, got, refused, and_then, within_at, term_at}
use Rattle.roll.proofs.FieldLaws.{taken}
use Rattle.roll.proofs.Inside.{taken-inside}
use Rattle.grouping.specs.declared.restoring.ReadEntry.{ReadEntry}
use Rattle.grouping.specs.declared.restoring.Passed.{Passed}
use Rattle.grouping.specs.Grouping.{Entry}
use Rattle.grouping.specs.Restoring.{Restored, refused_term, entry_at, none_passed, passed_on, behind, is_second, standing, next_at, on_entry, ended, restored_from, restored_of}
use Rattle.grouping.specs.inner.Held.{held_entry}

-- ---- an entry

-- a step over one term of a kind and L that are in order reads it
one-step : (b : List ℕ) (place l : ℕ) → l ≤ most_l Coulomb → place ≤ length b → let c : Cursor = record { place = place; left = 1; kind = number_of Coulomb; l = l } in step_of c b ≡ stepped c (term_at b place Coulomb l)
unfolding step_of
one-step b place l small inside = simp (le-ltb (most_l Coulomb) l small, le-ltb (length b) place inside)

gone-is : (x y : Step) → ◌≡◌ {A = Stepped} (Ok (Some x)) (Ok (Some y)) → x ≡ y
gone-is x y e = cc

abbrev numbered : ℕ → Reading Term → Reading Entry
numbered number x = and_then x (λ t end. got (record { number = number; term = t }) end)

step-cut : (number : ℕ) (c : Cursor) (x : Reading Term) (why : Fault) → stepped c x ≡ Err why → Err why ≡ held_entry (numbered number x)
step-cut number c (got t next) why e = absurd (clash (cc))
step-cut number c (refused r place) why e = let same = err-is (fault r place) why e in rw (← same)

step-some : (c : Cursor) (x : Reading Term) (m : Option Step) → stepped c x ≡ Ok m → IsSome m
step-some c (got t next) (Some step) e = refl
step-some c (got t next) None e = absurd (clash (cc))
step-some c (refused r place) m e = absurd (clash (cc))

step_gave : (number : ℕ) (c : Cursor) (x : Reading Term) (step : Step) → stepped c x ≡ Ok (Some step) → Ok (record { number = number; term = step.term; end = step.next.place }) ≡ held_entry (numbered number x)
step_gave number c (got t next) step e =
    let same = gone-is (record { term = held t; next = record { place = next; left = c.left - 1; kind = c.kind; l = c.l } }) step e in
    rw (← same)
step_gave number c (refused r place) step e = absurd (clash (cc))

module _ (b : List ℕ) (l terms at : ℕ) (f : Field) (is : f ≡ within_at b at 1 terms) where
  pub entry-unread : (why : Fault) → f ≡ Err why → Err why ≡ held_entry (entry_at b l terms at)
  unfolding entry_at
  entry-unread why e = rw (← is, e)

  module _ (number place kind : ℕ) (x : Stepped) (e : f ≡ field.Is number place) (four : kind ≡ number_of Coulomb) (step : x ≡ step_of (record { place = place; left = 1; kind = kind; l = l }) b) (small : l ≤ most_l Coulomb) where
    abbrev c : Cursor
    c = record { place = place; left = 1; kind = number_of Coulomb; l = l }

    gone : x ≡ stepped c (term_at b place Coulomb l)
    gone =
        let inside = (taken-inside b at 1 terms number place (taken b at 1 terms f number place is e)).1 in
        step ∙ ap (λ (k : ℕ). step_of (record { place = place; left = 1; kind = k; l = l }) b) four ∙ one-step b place l small inside

    whole : held_entry (entry_at b l terms at) ≡ held_entry (numbered number (term_at b place Coulomb l))
    unfolding entry_at
    whole = rw (← is, e)

    pub entry-cut : (why : Fault) → x ≡ Err why → Err why ≡ held_entry (entry_at b l terms at)
    entry-cut why g = step-cut number c (term_at b place Coulomb l) why (sym gone ∙ g) ∙ sym whole

    pub entry-some : (m : Option Step) → x ≡ Ok m → IsSome m
    entry-some m g = step-some c (term_at b place Coulomb l) m (sym gone ∙ g)

    pub entry_read : (m : Option Step) (s : Step) → x ≡ Ok m → m ≡ Some s → Ok (record { number = number; term = s.term; end = s.next.place }) ≡ held_entry (entry_at b l terms at)
    entry_read m s g h = step_gave number c (term_at b place Coulomb l) s (sym gone ∙ g ∙ ap (λ (m : Option Step). Ok m) h) ∙ sym whole

-- ---- behind those passed

-- an entry that was read, where it stands; else 7 where it begins
abbrev stands_or : Passed → ℕ → ℕ → ReadEntry → Result ReadEntry Fault
stands_or p asked at e = cond (behind p e.number e.term.boys) (cond (is_second p asked e.number) (Err (fault BadRoll at)) (Ok e)) (Err (fault BadRoll at))

entry-is : (x y : ReadEntry) → ◌≡◌ {A = Result ReadEntry Fault} (Ok x) (Ok y) → x ≡ y
entry-is x y e = cc

standing-held : (p : Passed) (asked at : ℕ) (e : Entry) (end : ℕ) (r : ReadEntry) (x y : Bool) → held_entry (got e end) ≡ Ok r → held_entry (cond x (cond y (refused BadRoll at) (got e end)) (refused BadRoll at)) ≡ cond x (cond y (Err (fault BadRoll at)) (Ok r)) (Err (fault BadRoll at))
standing-held p asked at e end r true true g = refl
standing-held p asked at e end r true false g = g
standing-held p asked at e end r false y g = refl

stands : (p : Passed) (asked at : ℕ) (x : Reading Entry) (e : ReadEntry) → held_entry x ≡ Ok e → held_entry (and_then x (λ e end. standing p asked at e end)) ≡ stands_or p asked at e
stands p asked at (got e end) r g =
    let same = entry-is (record { number = e.number; term = held e.term; end = end }) r g in
    standing-held p asked at e end r (behind p e.number e.term.boys) (is_second p asked e.number) g
    ∙ ap (λ (s : ReadEntry). cond (behind p s.number s.term.boys) (cond (is_second p asked s.number) (Err (fault BadRoll at)) (Ok r)) (Err (fault BadRoll at))) same
stands p asked at (refused n place) r g = absurd (clash (cc))

unstood : (p : Passed) (asked at : ℕ) (x : Reading Entry) (why : Fault) → held_entry x ≡ Err why → Err why ≡ held_entry (and_then x (λ e end. standing p asked at e end))
unstood p asked at (got e end) why g = absurd (clash (cc))
unstood p asked at (refused n place) why g = sym g

module _ (b : List ℕ) (l terms asked : ℕ) (p : Passed) (at : ℕ) (x : Result ReadEntry Fault) (is : x ≡ held_entry (entry_at b l terms at)) where
  pub next-unread : (why : Fault) → x ≡ Err why → Err why ≡ held_entry (next_at b l terms asked p at)
  unfolding next_at
  next-unread why g = unstood p asked at (entry_at b l terms at) why (sym is ∙ g)

  module _ (e : ReadEntry) (g : x ≡ Ok e) (t : Bool) (ordered : t ≡ behind p e.number e.term.boys) where
    next-is : held_entry (next_at b l terms asked p at) ≡ stands_or p asked at e
    unfolding next_at
    next-is = stands p asked at (entry_at b l terms at) e (sym is ∙ g)

    pub next-not : (w : Fault) → t ≡ false → w ≡ fault BadRoll at → Err w ≡ held_entry (next_at b l terms asked p at)
    next-not w wrong answer = let not-behind : behind p e.number e.term.boys ≡ false = sym ordered ∙ wrong in rw answer (sym (next-is ∙ rw not-behind))

    pub next-second : (u : Bool) (w : Fault) → t ≡ true → u ≡ is_second p asked e.number → u ≡ true → w ≡ fault BadRoll at → Err w ≡ held_entry (next_at b l terms asked p at)
    next-second u w right second twice answer =
        let does : behind p e.number e.term.boys ≡ true = sym ordered ∙ right in
        let again : is_second p asked e.number ≡ true = sym second ∙ twice in
        rw answer (sym (next-is ∙ rw (does, again)))

    pub next-stands : (u : Bool) → t ≡ true → u ≡ is_second p asked e.number → u ≡ false → Ok e ≡ held_entry (next_at b l terms asked p at)
    next-stands u right second once =
        let does : behind p e.number e.term.boys ≡ true = sym ordered ∙ right in
        let first : is_second p asked e.number ≡ false = sym second ∙ once in
        sym (next-is ∙ rw (does, first))

-- ---- the entries one after the other

held-is : (x : Reading Entry) (r : ReadEntry) → held_entry x ≡ Ok r → (e : Entry) × (x ≡ got e r.end) × (e.number ≡ r.number) × (held e.term ≡ r.term)
held-is (got e end) r g =
    let same = entry-is (record { number = e.number; term = held e.term; end = end }) r g in
    (e, ap (λ (r : ReadEntry). got e r.end) same, ap (λ (r : ReadEntry). r.number) same, ap (λ (r : ReadEntry). r.term) same)
held-is (refused n place) r g = absurd (clash (cc))

held-not : (x : Reading Entry) (why : Fault) → held_entry x ≡ Err why → x ≡ refused why.refusal why.place
held-not (got e end) why g = absurd (clash (cc))
held-not (refused n place) why g = let same = err-is (fault n place) why g in ap (λ (f : Fault). refused f.refusal f.place) same

module _ (b : List ℕ) (l terms asked : ℕ) (p : Passed) (at done : ℕ) (whole : Restored) where
  restored-turn : done < terms → restored_from b l terms asked p at (terms - done) ≡ on_entry (next_at b l terms asked p at) (λ e next. restored_from b l terms asked (passed_on p asked e.number (held e.term)) next (terms - (done + 1)))
  unfolding restored_from
  restored-turn some = rw (left_one terms done some)

  pub restore-more : (x : Result ReadEntry Fault) (r : ReadEntry) (q : Passed) → done < terms → x ≡ held_entry (next_at b l terms asked p at) → x ≡ Ok r → q ≡ passed_on p asked r.number r.term → restored_from b l terms asked p at (terms - done) ≡ whole → restored_from b l terms asked q r.end (terms - (done + 1)) ≡ whole
  restore-more x r q some is f g inv =
      let y = held-is (next_at b l terms asked p at) r (sym is ∙ f) in
      let same : passed_on p asked y.0.number (held y.0.term) ≡ q = ap (λ (n : ℕ). passed_on p asked n (held y.0.term)) y.2 ∙ ap (passed_on p asked r.number) y.3 ∙ sym g in
      ap (λ (q : Passed). restored_from b l terms asked q r.end (terms - (done + 1))) (sym same)
      ∙ sym (restored-turn some ∙ ap (λ (y : Reading Entry). on_entry y (λ e next. restored_from b l terms asked (passed_on p asked e.number (held e.term)) next (terms - (done + 1)))) y.1)
      ∙ inv

  pub restore-refused : (x : Result ReadEntry Fault) (why : Fault) → done < terms → x ≡ held_entry (next_at b l terms asked p at) → restored_from b l terms asked p at (terms - done) ≡ whole → x ≡ Err why → Err why ≡ whole
  restore-refused x why some is inv f =
      let y = held-not (next_at b l terms asked p at) why (sym is ∙ f) in
      sym (restored-turn some ∙ ap (λ (y : Reading Entry). on_entry y (λ e next. restored_from b l terms asked (passed_on p asked e.number (held e.term)) next (terms - (done + 1)))) y)
      ∙ inv

  pub restore-done : (y : Restored) → terms ≤ done → y ≡ ended p at → restored_from b l terms asked p at (terms - done) ≡ whole → y ≡ whole
  unfolding restored_from
  restore-done y none answer inv = answer ∙ (rw (left-none terms done none) at inv)

pub restore-first : (b : List ℕ) (l terms asked : ℕ) (p : Passed) → p ≡ none_passed → restored_from b l terms asked p 0 (terms - 0) ≡ restored_from b l terms asked none_passed 0 terms
restore-first b l terms asked p e = rw (sub-zero, e)

-- ---- before the first entry

module _ (b : List ℕ) (l terms number most : ℕ) (y : Restored) (is : most ≡ most_l Coulomb) where
  pub restored-beyond : most < l → y ≡ refused_term BadRoll 0 → y ≡ restored_of b l terms number
  unfolding restored_of unless
  restored-beyond beyond answer = let large : leb l (most_l Coulomb) ≡ false = lt-leb l (most_l Coulomb) (omega arith) in answer ∙ rw large

  module _ (within : l ≤ most) where
    small : leb l (most_l Coulomb) ≡ true
    small = le-leb l (most_l Coulomb) (omega arith)

    pub restored-nought : number ≡ 0 → y ≡ refused_term ComponentNumber 0 → y ≡ restored_of b l terms number
    unfolding restored_of unless
    restored-nought none answer = let nought : leb 1 number ≡ false = lt-leb 1 number (omega arith) in answer ∙ rw (small, nought)

    pub restored-above : (number ≡ 0 → ⊥) → terms < number → y ≡ refused_term ComponentNumber 0 → y ≡ restored_of b l terms number
    unfolding restored_of unless
    restored-above some above answer =
        let one : leb 1 number ≡ true = le-leb 1 number (omega arith) in
        let past : leb number terms ≡ false = lt-leb number terms above in
        answer ∙ rw (small, one, past)

    pub restored-is : (number ≡ 0 → ⊥) → number ≤ terms → y ≡ restored_from b l terms number none_passed 0 terms → y ≡ restored_of b l terms number
    unfolding restored_of unless
    restored-is some below answer =
        let one : leb 1 number ≡ true = le-leb 1 number (omega arith) in
        let last : leb number terms ≡ true = le-leb number terms below in
        answer ∙ rw (small, one, last)
