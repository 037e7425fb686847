-- 02, Q-7: a step of the cursor over a form 2 roll. The cursor also holds the term before.
use Rattle.std.specs.Prelude.{ℕ, zero, suc, ◌-◌, Bool, false, cond, ◌||◌, List, [], ◌∷◌, ltb, leb, eqb, length, take, Option, Some, None, Result, Ok, Err}
use Rattle.kind.specs.Kinds.{kind_of, table_of, most_prefactors}
use Rattle.kind.specs.declared.Kind.{Kind}
use Rattle.kind.specs.declared.refusals.Refusal.{Refusal}
use Rattle.kind.specs.declared.refusals.Refusal.TheVariants.{BadRoll}
use Rattle.kind.specs.declared.refusals.Fault.{Fault}
use Rattle.term.specs.declared.Term.{Term as Held}
use Rattle.term.specs.Terms.{Term, held}
use Rattle.roll.specs.Field.{fault}
use Rattle.roll.specs.Reading.{Reading, got, refused, before}
use Rattle.roll.specs.Cursor.{forged}
use Rattle.form2.specs.declared.cursor.Cursor2.{Cursor2}
use Rattle.form2.specs.declared.cursor.Step2.{Step2}
use Rattle.form2.specs.Reading.{term_after}

-- the prefactors of the term before
abbrev pub earlier_of : Cursor2 → List ℕ
earlier_of c = take c.count c.earlier

-- a term and the cursor one term further on, none at the end, or a refusal
abbrev pub Stepped2 : Type 0
Stepped2 = Result (Option Step2) Fault

abbrev pub refused_step2 : Refusal → ℕ → Stepped2
refused_step2 r place = Err (fault r place)

abbrev pub end_step2 : Stepped2
end_step2 = Ok None

-- behind a term, with that term's prefactors
abbrev pub step_behind : Cursor2 → Term → ℕ → Step2
step_behind c t next =
    record {
      term = held t;
      next = record {
        cursor = record { place = next; left = c.cursor.left - 1; kind = c.cursor.kind; l = c.cursor.l };
        count = (held t).count;
        earlier = (held t).prefactors;
      };
    }

-- the cursor comes back one term further on, and holds that term's prefactors
abbrev pub stepped_after : Cursor2 → Reading Term → Stepped2
stepped_after c (got t next) = Ok (Some (step_behind c t next))
stepped_after c (refused r place) = refused_step2 r place

-- a step with no term left answers end, or 7 at a byte too many
abbrev pub end_or2 : List ℕ → ℕ → Stepped2
end_or2 s place = cond (eqb place (length s)) end_step2 (refused_step2 BadRoll place)

abbrev pub step_with2 : Kind → Cursor2 → List ℕ → Stepped2
step_with2 k c s = cond (eqb c.cursor.left 0) (end_or2 s c.cursor.place) (stepped_after c (term_after s c.cursor.place k c.cursor.l (earlier_of c)))

-- whether one of a list is not below the table size
unfoldable pub some_above : ℕ → List ℕ → Bool
some_above table [] = false
some_above table (p ∷ ps) = leb table p || some_above table ps

-- a forged term before: a prefactor not below the table size, or more of them than a term may have
unfoldable pub forged_earlier : Kind → ℕ → ℕ → List ℕ → Bool
forged_earlier k l count earlier = ltb (most_prefactors k l) count || some_above (table_of k) (take count earlier)

-- a forged cursor is 7 at its place: a kind above 4, L beyond the kind's, a place past the end, then a forged term before
abbrev pub step_as2 : Option Kind → Cursor2 → List ℕ → Stepped2
step_as2 (Some k) c s = cond (forged k c.cursor s || forged_earlier k c.cursor.l c.count c.earlier) (refused_step2 BadRoll c.cursor.place) (step_with2 k c s)
step_as2 None c s = refused_step2 BadRoll c.cursor.place

unfoldable pub step2_of : Cursor2 → List ℕ → Stepped2
step2_of c s = step_as2 (kind_of c.cursor.kind) c s

-- the terms that so many steps give, to the end or to a refusal
abbrev pub gathering2 : Stepped2 → (Cursor2 → Reading (List Held)) → ℕ → Reading (List Held)
gathering2 (Ok (Some step)) rest place = before (step.term ∷ []) (rest step.next)
gathering2 (Ok None) rest place = got [] place
gathering2 (Err e) rest place = refused e.refusal e.place

unfoldable pub gathered2 : ℕ → Cursor2 → List ℕ → Reading (List Held)
gathered2 zero c s = got [] c.cursor.place
gathered2 (suc steps) c s = gathering2 (step2_of c s) (λ next. gathered2 steps next s) c.cursor.place
