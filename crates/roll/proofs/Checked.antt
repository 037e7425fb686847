-- `check` says that a roll is one exactly where the whole of it reads; and what its answer then says of the roll.
use Prim.Native.Nat.{ℕ, ◌-◌}
use mathlib.Core.Path.{◌≡◌, refl, sym, ap, ◌∙◌}
use mathlib.Core.List.{List, ◌++◌}
use lib.ListN.{length, replicate}
use Rattle.kind.specs.Limits.{request_orders}
use Rattle.kind.specs.Kinds.{kind_of, number_of, orders_of}
use Rattle.kind.proofs.KindNumber.{kind-number}
use Rattle.laws.proofs.Cases.{clash}
use Rattle.laws.specs.Total.{total}
use Rattle.term.specs.Terms.{Term}
use Rattle.roll.specs.declared.cursor.Cursor.{Cursor}
use Rattle.roll.specs.declared.header.Opened.{Opened}
use Rattle.roll.specs.Reading.{Reading, got, refused, and_then, terms_at, Header, header_at, Roll, roll_at}
use Rattle.roll.specs.Header.{cursor_at, held_header, open_of, judged, checked, check_of}
use Rattle.roll.specs.inner.Judged.{Judged, left_of, Readable}
use Rattle.roll.proofs.Filling.{and_then-is}
use Rattle.roll.proofs.HeaderLaws.{orders-length}
use Rattle.roll.proofs.Inside.{header_read, header-inside, orders-most}
use Rattle.roll.proofs.JudgeLaws.{terms-count}
use Rattle.roll.proofs.Steps.{left-terms}
use Rattle.std.specs.Prelude.{Option, Some, Result, Ok, Err}
use Rattle.kind.specs.declared.refusals.Fault.{Fault}
use Rattle.kind.proofs.Faults.{err-is}
use Rattle.roll.specs.Field.{fault}
use Rattle.kind.specs.declared.Kind.{Kind}

-- a roll's terms beside its header
abbrev beside : Header → List Term → ℕ → Reading Roll
beside h ts end = got (record { kind = h.kind; orders = h.orders; terms = ts }) end

abbrev whole : List ℕ → Header → ℕ → Reading Roll
whole s h next = and_then (terms_at s next h.terms h.kind (total h.orders)) (beside h)

-- where the whole reads, the header's own answer comes back
pub record Opens (s : List ℕ) : Type 0 where
  pub opened : Opened
  pub checks : check_of s ≡ Ok opened
  pub opens : open_of s ≡ Ok opened

pub reads-checked : (s : List ℕ) (r : Roll) (end : ℕ) → roll_at s ≡ got r end → Opens s
unfolding roll_at check_of open_of
reads-checked s r end e =
    let x = and_then-is (header_at s) (whole s) r end e in
    let h = x.0 in
    let y = and_then-is (terms_at s x.1 h.terms h.kind (total h.orders)) (beside h) r end x.3 in
    record {
      opened = record { cursor = cursor_at h x.1; orders = h.orders ++ replicate (request_orders - length h.orders) 0 };
      checks = ap (checked s) x.2 ∙ ap (judged (held_header (got h x.1))) y.2;
      opens = ap held_header x.2;
    }

terms-roll : (s : List ℕ) (h : Header) (next : ℕ) (x : Reading (List Term)) (o : Opened) → terms_at s next h.terms h.kind (total h.orders) ≡ x → judged (held_header (got h next)) x ≡ Ok o → (r : Roll) × (end : ℕ) × (whole s h next ≡ got r end)
terms-roll s h next (got ts end) o e found = (record { kind = h.kind; orders = h.orders; terms = ts }, end, ap (λ (x : Reading (List Term)). and_then x (beside h)) e)
terms-roll s h next (refused r place) o e found = absurd (clash (cc))

header-roll : (s : List ℕ) (x : Reading Header) (o : Opened) → header_at s ≡ x → checked s x ≡ Ok o → (r : Roll) × (end : ℕ) × (and_then x (whole s) ≡ got r end)
header-roll s (got h next) o e found = terms-roll s h next (terms_at s next h.terms h.kind (total h.orders)) o refl found
header-roll s (refused r place) o e found = absurd (clash (cc))

-- and where the check says a roll, the whole reads
pub checked-reads : (s : List ℕ) (o : Opened) → check_of s ≡ Ok o → (r : Roll) × (end : ℕ) × (roll_at s ≡ got r end)
unfolding check_of roll_at
checked-reads s o found = header-roll s (header_at s) o refl found

-- ---- as a function that has called `check` knows it

pub checked-judged : (s : List ℕ) (y : Result Opened Fault) (o : Opened) → y ≡ check_of s → y ≡ Ok o → Judged o s
checked-judged s y o is found =
    let r = checked-reads s o (sym is ∙ found) in
    let opens = reads-checked s r.0 r.1 r.2 in
    let checks = opens.checks in
    let same : opens.opened ≡ o = cc in
    record { roll = r.0; end = r.1; reads = r.2; header = ap (λ (o : Opened). Ok o) (sym same) ∙ sym opens.opens }

terms-refused : (s : List ℕ) (h : Header) (next : ℕ) (why : Fault) (x : Reading (List Term)) → judged (held_header (got h next)) x ≡ Err why → and_then x (beside h) ≡ refused why.refusal why.place
terms-refused s h next why (got ts end) e = absurd (clash (cc))
terms-refused s h next why (refused n place) e = let same = err-is (fault n place) why e in rw (← same)

header_refused : (s : List ℕ) (why : Fault) (x : Reading Header) → checked s x ≡ Err why → and_then x (whole s) ≡ refused why.refusal why.place
header_refused s why (got h next) e = terms-refused s h next why (terms_at s next h.terms h.kind (total h.orders)) e
header_refused s why (refused n place) e = let same = err-is (fault n place) why e in rw (← same)

pub checked_refused : (s : List ℕ) (y : Result Opened Fault) (why : Fault) → y ≡ check_of s → y ≡ Err why → roll_at s ≡ refused why.refusal why.place
unfolding check_of roll_at
checked_refused s y why is found = header_refused s why (header_at s) (sym is ∙ found)

-- what a judged roll's header says, and its terms from there on
pub record Headed (o : Opened) (s : List ℕ) (r : Roll) : Type 0 where
  pub header : Header
  pub next : ℕ
  pub end : ℕ
  pub is : header_at s ≡ got header next
  pub opened : Ok o ≡ held_header (got header next)
  pub reads : terms_at s next header.terms header.kind (total header.orders) ≡ got r.terms end
  pub kind : header.kind ≡ r.kind
  pub orders : header.orders ≡ r.orders
  pub count : header.terms ≡ length r.terms

pub headed : (o : Opened) (s : List ℕ) (j : Judged o s) → Headed o s j.roll
unfolding roll_at open_of
headed o s j =
    let x = and_then-is (header_at s) (whole s) j.roll j.end j.reads in
    let h = x.0 in
    let y = and_then-is (terms_at s x.1 h.terms h.kind (total h.orders)) (beside h) j.roll j.end x.3 in
    let all : record { kind = h.kind; orders = h.orders; terms = y.0 } ≡ j.roll = cc y.3 in
    let terms : y.0 ≡ j.roll.terms = ap (λ (r : Roll). r.terms) all in
    record {
      header = h;
      next = x.1;
      end = y.1;
      is = x.2;
      opened = j.header ∙ ap held_header x.2;
      reads = y.2 ∙ ap (λ (ts : List Term). got ts y.1) terms;
      kind = ap (λ (r : Roll). r.kind) all;
      orders = ap (λ (r : Roll). r.orders) all;
      count = sym (terms-count h.terms h.kind (total h.orders) s x.1 y.0 y.1 y.2) ∙ ap length terms;
    }

-- the header's answer
abbrev pub opened-of : Header → ℕ → Opened
opened-of h next = record { cursor = cursor_at h next; orders = h.orders ++ replicate (request_orders - length h.orders) 0 }

pub opened-cursor : (o : Opened) (s : List ℕ) (r : Roll) (d : Headed o s r) → o.cursor ≡ cursor_at d.header d.next
opened-cursor o s r d = let is = d.opened in let same : o ≡ opened-of d.header d.next = cc in ap (λ (o : Opened). o.cursor) same

-- ---- its cursor and orders are the roll's own

module _ (o : Opened) (s : List ℕ) (j : Judged o s) where
  pub judged-kind : o.cursor.kind ≡ number_of j.roll.kind
  judged-kind = let d = headed o s j in ap (λ (c : Cursor). c.kind) (opened-cursor o s j.roll d) ∙ ap number_of d.kind

  pub judged-named : (m : Option Kind) → m ≡ kind_of o.cursor.kind → m ≡ Some j.roll.kind
  judged-named m is = is ∙ ap kind_of judged-kind ∙ kind-number j.roll.kind

  pub judged-l : o.cursor.l ≡ total j.roll.orders
  judged-l = let d = headed o s j in ap (λ (c : Cursor). c.l) (opened-cursor o s j.roll d) ∙ ap total d.orders

  pub judged-left : o.cursor.left ≡ length j.roll.terms
  judged-left = let d = headed o s j in ap (λ (c : Cursor). c.left) (opened-cursor o s j.roll d) ∙ d.count

  pub judged-orders : (o.orders ≡ j.roll.orders ++ replicate (request_orders - length j.roll.orders) 0) × (length j.roll.orders ≡ orders_of j.roll.kind)
  judged-orders =
      let d = headed o s j in
      let h = d.header in
      let r = header_read s h d.next d.is in
      let is = d.opened in
      let same : o ≡ opened-of h d.next = cc in (
        ap (λ (o : Opened). o.orders) same ∙ ap (λ (os : List ℕ). os ++ replicate (request_orders - length os) 0) d.orders,
        ap length (sym d.orders) ∙ orders-length (orders_of h.kind) 0 0 s r.a h.orders r.b r.orders ∙ ap orders_of d.kind,
      )

  abbrev readable : (d : Headed o s j.roll) → Readable (cursor_at d.header d.next) s
  readable d =
      let h = d.header in
      let r = header_read s h d.next d.is in
      record {
        honest = record { kind = h.kind; is = kind-number h.kind; small = orders-most h.kind s r.a h.orders r.b r.orders; inside = header-inside s h d.next r };
        terms = j.roll.terms;
        end = d.end;
        reads = d.reads;
      }

  pub judged-readable : Readable o.cursor s
  judged-readable = let d = headed o s j in rw (opened-cursor o s j.roll d) (readable d)

  pub judged-terms : left_of o.cursor s ≡ j.roll.terms
  judged-terms = let d = headed o s j in ap (λ (c : Cursor). left_of c s) (opened-cursor o s j.roll d) ∙ left-terms (cursor_at d.header d.next) s (readable d)
