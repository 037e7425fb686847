-- 01, "The roll": a step of the cursor (D-6).
use Rattle.std.specs.Prelude.{ℕ, zero, suc, ◌-◌, Bool, cond, ◌||◌, List, [], ◌∷◌, map, ltb, eqb, length, Option, Some, None, Result, Ok, Err}
use Rattle.kind.specs.Kinds.{kind_of, most_l}
use Rattle.kind.specs.declared.Kind.{Kind}
use Rattle.kind.specs.declared.refusals.Refusal.{Refusal}
use Rattle.kind.specs.declared.refusals.Refusal.TheVariants.{BadRoll}
use Rattle.kind.specs.declared.refusals.Fault.{Fault}
use Rattle.term.specs.declared.Term.{Term as Held}
use Rattle.term.specs.Terms.{Term, held}
use Rattle.roll.specs.declared.cursor.Cursor.{Cursor}
use Rattle.roll.specs.declared.cursor.Step.{Step}
use Rattle.roll.specs.Field.{fault}
use Rattle.roll.specs.Reading.{Reading, got, refused, and_then, before, term_at}

abbrev pub no_cursor : Cursor
no_cursor = record { place = 0; left = 0; kind = 0; l = 0 }

-- a term and the cursor one term further on, none at the end, or a refusal
abbrev pub Stepped : Type 0
Stepped = Result (Option Step) Fault

abbrev pub refused_step : Refusal → ℕ → Stepped
refused_step r place = Err (fault r place)

abbrev pub end_step : Stepped
end_step = Ok None

-- the cursor comes back one term further on
abbrev pub stepped : Cursor → Reading Term → Stepped
stepped c (got t next) = Ok (Some (record { term = held t; next = record { place = next; left = c.left - 1; kind = c.kind; l = c.l } }))
stepped c (refused r place) = refused_step r place

-- a step with no term left answers end, or 7 at a byte too many
abbrev pub end_or : List ℕ → ℕ → Stepped
end_or s place = cond (eqb place (length s)) end_step (refused_step BadRoll place)

abbrev pub step_with : Kind → Cursor → List ℕ → Stepped
step_with k c s = cond (eqb c.left 0) (end_or s c.place) (stepped c (term_at s c.place k c.l))

-- L beyond the kind's, or a place past the end
abbrev pub forged : Kind → Cursor → List ℕ → Bool
forged k c s = ltb (most_l k) c.l || ltb (length s) c.place

-- a forged cursor with a kind above 4, L beyond the kind's or a place past the end is 7 at that place (D-11)
abbrev pub step_as : Option Kind → Cursor → List ℕ → Stepped
step_as (Some k) c s = cond (forged k c s) (refused_step BadRoll c.place) (step_with k c s)
step_as None c s = refused_step BadRoll c.place

unfoldable pub step_of : Cursor → List ℕ → Stepped
step_of c s = step_as (kind_of c.kind) c s

-- ---- stepping from a cursor on

-- the terms that so many steps give, to the end or to a refusal
abbrev pub gathering : Stepped → (Cursor → Reading (List Held)) → ℕ → Reading (List Held)
gathering (Ok (Some step)) rest place = before (step.term ∷ []) (rest step.next)
gathering (Ok None) rest place = got [] place
gathering (Err e) rest place = refused e.refusal e.place

unfoldable pub gathered : ℕ → Cursor → List ℕ → Reading (List Held)
gathered zero c s = got [] c.place
gathered (suc steps) c s = gathering (step_of c s) (λ next. gathered steps next s) c.place

-- terms as the code holds them
abbrev pub held_terms : Reading (List Term) → Reading (List Held)
held_terms r = and_then r (λ ts end. got (map held ts) end)
