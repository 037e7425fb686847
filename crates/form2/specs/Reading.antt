-- 02, Q-7: what a form 2 roll says from a place on, and the first rule that it breaks, with the place. Numbers, limits, orders and term count are form 1's.
use Rattle.std.specs.Prelude.{ℕ, zero, suc, ◌+◌, ◌-◌, Bool, false, cond, List, [], ◌∷◌, ◌++◌, eqb, length, take, drop}
use Rattle.laws.specs.Total.{total}
use Rattle.kind.specs.Limits.{most_scale}
use Rattle.kind.specs.Kinds.{kind_of, number_of, table_of, most_prefactors}
use Rattle.kind.specs.declared.Kind.{Kind}
use Rattle.kind.specs.declared.Kind.TheVariants.{Coulomb}
use Rattle.kind.specs.declared.refusals.Refusal.TheVariants.{BadRoll}
use Rattle.term.specs.Terms.{Term}
use Rattle.roll.specs.Reading.{Reading, got, refused, within_at, onward, and_then, before, Header, of_kind, most_boys, prefactors_at, Roll}
use Rattle.form2.specs.Bytes.{form_two}

-- order: kind + 16; then as form 1
unfoldable pub header_at2 : List ℕ → Reading Header
header_at2 s = onward (within_at s 0 form_two (form_two + number_of Coulomb)) (λ n next. of_kind s next (kind_of (n - form_two)))

-- ---- a term; `earlier` are the prefactors of the term before

-- what stands before the further prefactors
pub record Front : Type 0 where
  pub scale : ℕ
  pub boys : ℕ
  pub shared : ℕ
  pub further : ℕ

-- number of further prefactors: with those that are shared no more than form 1's limit
unfoldable pub further_count_at : List ℕ → ℕ → Kind → ℕ → ℕ → ℕ → ℕ → Reading Front
further_count_at s at k l scale boys shared =
    onward (within_at s at 0 (most_prefactors k l - shared)) (λ further next.
    got (record { scale = scale; boys = boys; shared = shared; further = further }) next)

-- shared length: not beyond the term before
unfoldable pub shared_at : List ℕ → ℕ → Kind → ℕ → ℕ → ℕ → ℕ → Reading Front
shared_at s at k l longest scale boys = onward (within_at s at 0 longest) (λ shared next. further_count_at s next k l scale boys shared)

unfoldable pub boys_at2 : List ℕ → ℕ → Kind → ℕ → ℕ → ℕ → Reading Front
boys_at2 s at k l longest scale = onward (within_at s at 0 (most_boys k l)) (λ boys next. shared_at s next k l longest scale boys)

-- for each term scale (1 to the limit), Boys order, shared length, number of further prefactors
unfoldable pub front_at : List ℕ → ℕ → Kind → ℕ → ℕ → Reading Front
front_at s at k l longest = onward (within_at s at 1 most_scale) (λ scale next. boys_at2 s next k l longest scale)

-- whether a prefactor is the one that follows in the term before: then the shared length is not the longest
abbrev pub goes_on : List ℕ → ℕ → Bool
goes_on [] p = false
goes_on (q ∷ qs) p = eqb q p

-- the further prefactors, each below the table size; `follow` are those that follow the shared beginning in the term before
unfoldable pub further_at : List ℕ → ℕ → ℕ → ℕ → List ℕ → Reading (List ℕ)
further_at s at zero table follow = got [] at
further_at s at (suc count) table follow =
    onward (within_at s at 0 (table - 1)) (λ p next.
    cond (goes_on follow p) (refused BadRoll at) (before (p ∷ []) (prefactors_at s next count table)))

unfoldable pub term_after : List ℕ → ℕ → Kind → ℕ → List ℕ → Reading Term
term_after s at k l earlier =
    and_then (front_at s at k l (length earlier)) (λ f next.
    and_then (further_at s next f.further (table_of k) (drop f.shared earlier)) (λ ps end.
    got (record { scale = f.scale; boys = f.boys; prefactors = take f.shared earlier ++ ps }) end))

-- as many terms as the count says, and nothing follows
unfoldable pub terms_after : List ℕ → ℕ → ℕ → Kind → ℕ → List ℕ → Reading (List Term)
terms_after s at zero k l earlier = cond (eqb at (length s)) (got [] at) (refused BadRoll at)
terms_after s at (suc left) k l earlier = and_then (term_after s at k l earlier) (λ t next. before (t ∷ []) (terms_after s next left k l t.prefactors))

-- ---- the roll: nothing stands before the first term

unfoldable pub roll_at2 : List ℕ → Reading Roll
roll_at2 s =
    and_then (header_at2 s) (λ h next.
    and_then (terms_after s next h.terms h.kind (total h.orders) []) (λ ts end.
    got (record { kind = h.kind; orders = h.orders; terms = ts }) end))
