-- 02, Q-8: the salvage of a damaged roll, in the paper's order: the header, the expansion worked out afresh, what is told of both, the refusals.
use Rattle.std.specs.Prelude.{ℕ, zero, suc, ◌+◌, ◌-◌, ◌≡◌, cond, not, List, [], ◌∷◌, ◌++◌, eqb, length, replicate, Result, Ok, Err}
use Rattle.laws.specs.Placed.{placed}
use Rattle.laws.specs.Total.{total}
use Rattle.kind.specs.Limits.{request_orders}
use Rattle.kind.specs.declared.Kind.{Kind}
use Rattle.kind.specs.declared.refusals.Refusal.TheVariants.{TooManyTerms, StartBeyondEnd, NoRoom}
use Rattle.kind.specs.declared.refusals.Fault.{Fault}
use Rattle.term.specs.Terms.{Term, same_term}
use Rattle.roll.specs.Field.{fault}
use Rattle.roll.specs.Reading.{Reading, got, refused, and_then, before, Header, header_at, term_at, Roll, roll_at}
use Rattle.form2.specs.Header.{is_form2}
use Rattle.form2.specs.Reading.{header_at2, term_after, roll_at2}
use Rattle.expansion.specs.Expanding.{◌exceeds◌, too_many, terms_of, roll_of, roll_of2}
use Rattle.salvaging.specs.declared.forms.Form.{Form}
use Rattle.salvaging.specs.declared.forms.Form.TheVariants.{One, Two}
use Rattle.salvaging.specs.declared.After.{After}
use Rattle.salvaging.specs.declared.After.TheVariants as after
use Rattle.salvaging.specs.declared.Told.{Told}

-- ---- "If the header reads, whichever form": "The header is kind, orders and term count."

-- told by the first byte; all that is not form 2 is read as form 1, which gives 7 or 14 to what is neither (D-99; proofs/FirstByte.antt)
unfoldable pub form_of : List ℕ → Form
form_of s = cond (is_form2 s) Two One

abbrev pub header_in : Form → List ℕ → Reading Header
header_in One s = header_at s
header_in Two s = header_at2 s

-- a term at a place; in form 2 after a term with these prefactors
abbrev pub term_in : Form → List ℕ → ℕ → Kind → ℕ → List ℕ → Reading Term
term_in One s at k l earlier = term_at s at k l
term_in Two s at k l earlier = term_after s at k l earlier

-- the roll of a request
abbrev pub roll_in : Form → Kind → List ℕ → List ℕ
roll_in One = roll_of
roll_in Two = roll_of2

-- ---- "the tool works out the expansion afresh and writes it in the same form"

-- the header's orders as a request has them, zeros behind
unfoldable pub request_of : Header → List ℕ
request_of h = h.orders ++ replicate (request_orders - length h.orders) 0

unfoldable pub fresh_terms : Header → List Term
fresh_terms h = terms_of h.kind (request_of h)

unfoldable pub fresh_roll : Form → Header → List ℕ
fresh_roll f h = roll_in f h.kind (request_of h)

-- ---- "how many leading terms of the damaged roll read and equal the fresh ones"

-- how many, and the place behind them
pub record Leading : Type 0 where
  pub count : ℕ
  pub place : ℕ

abbrev pub none_from : ℕ → Leading
none_from at = record { count = 0; place = at }

abbrev pub one_and : Leading → Leading
one_and rest = record { count = suc rest.count; place = rest.place }

-- where a term was read that equals the fresh one, one more and those behind it
abbrev pub where_equal : ℕ → Reading Term → Term → (ℕ → Leading) → Leading
where_equal at (got t next) fresh rest = cond (same_term t fresh) (one_and (rest next)) (none_from at)
where_equal at (refused n place) fresh rest = none_from at

-- from a place on, behind a term with the prefactors `earlier`. "The stored count doesn't limit that reading": the fresh terms do
unfoldable pub leading : Form → List ℕ → ℕ → Kind → ℕ → List ℕ → List Term → Leading
leading f s at k l earlier [] = none_from at
leading f s at k l earlier (t ∷ ts) = where_equal at (term_in f s at k l earlier) t (λ next. leading f s next k l t.prefactors ts)

-- of a roll, from its header on
unfoldable pub leading_of : Form → List ℕ → Header → ℕ → Leading
leading_of f s h next = leading f s next h.kind (total h.orders) [] (fresh_terms h)

-- ---- what is told

-- "only where every fresh term was read and equal, whether bytes followed the last term"
abbrev pub after_of : List ℕ → ℕ → Leading → After
after_of s fresh lead = cond (eqb lead.count fresh) (cond (eqb lead.place (length s)) after.None after.Bytes) after.Unknown

unfoldable pub told_of : Form → List ℕ → Header → ℕ → Told
told_of f s h next =
    let fresh = length (fresh_terms h) in
    let lead = leading_of f s h next in
    record {
      length = length (fresh_roll f h);
      terms = fresh;
      -- "how many leading terms .. read and equal the fresh ones"
      kept = lead.count;
      -- "and how many after that it wrote anew; the two add up to the fresh term count"
      anew = fresh - lead.count;
      -- "whether the stored count differs from the fresh one"
      miscounted = not (eqb h.terms fresh);
      after = after_of s fresh lead;
    }

-- what is told, or a refusal with its place
abbrev pub Salvaged : Type 0
Salvaged = Result Told Fault

-- ---- "Refusals: 7 or 14 for the header, then 5, 4 and 6."

unfoldable pub salvaged_in : Form → List ℕ → Reading Header → List ℕ → ℕ → Salvaged
salvaged_in f s (refused r place) out start = Err (fault r place)
salvaged_in f s (got h next) out start =
    cond (start exceeds length out) (Err (fault StartBeyondEnd 0))
    (cond (too_many h.kind (request_of h)) (Err (fault TooManyTerms 0))
    (cond (start + length (fresh_roll f h) exceeds length out) (Err (fault NoRoom 0))
    (Ok (told_of f s h next))))

-- a refusal changes no byte; a success only those of the fresh roll
abbrev pub bytes_out : Salvaged → Form → Reading Header → List ℕ → ℕ → List ℕ
bytes_out (Err e) f header out start = out
bytes_out (Ok told) f (refused r place) out start = out
bytes_out (Ok told) f (got h next) out start = placed out start (fresh_roll f h)

unfoldable pub salvaged_of : List ℕ → List ℕ → ℕ → Salvaged
salvaged_of s out start = salvaged_in (form_of s) s (header_in (form_of s) s) out start

unfoldable pub out_of : List ℕ → List ℕ → ℕ → List ℕ
out_of s out start = bytes_out (salvaged_of s out start) (form_of s) (header_in (form_of s) s) out start

-- what a salvage answers, and what the lent bytes then hold
pub record SalvageTold (s before : List ℕ) (start : ℕ) (r : Salvaged) (now : List ℕ) : Type 0 where
  pub answer : r ≡ salvaged_of s before start
  pub out : now ≡ out_of s before start

-- ---- the same in other words, for the laws: so many terms that read one after the other

unfoldable pub terms_from : Form → List ℕ → ℕ → ℕ → Kind → ℕ → List ℕ → Reading (List Term)
terms_from f s at zero k l earlier = got [] at
terms_from f s at (suc n) k l earlier = and_then (term_in f s at k l earlier) (λ t next. before (t ∷ []) (terms_from f s next n k l t.prefactors))

-- a whole roll, and its header

abbrev pub read_in : Form → List ℕ → Reading Roll
read_in One s = roll_at s
read_in Two s = roll_at2 s

abbrev pub header_of : Roll → Header
header_of r = record { kind = r.kind; orders = r.orders; terms = length r.terms }
