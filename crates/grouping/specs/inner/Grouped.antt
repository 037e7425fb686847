-- Inside the crate: the evaluation of a judged roll from its cursor on, and of entries that stand in a buffer.
use Rattle.std.specs.Prelude.{ℕ, ◌*◌, ◌≤◌, ◌≡◌, Bool, cond, List, leb, eqb, Float, length, Result, Ok, Err, ⊤}
use Rattle.laws.specs.Placed.{placed}
use Rattle.laws.specs.Unless.{unless}
use Rattle.kind.specs.Limits.{most_terms, table_places}
use Rattle.kind.specs.Kinds.{kind_of, number_of, most_l}
use Rattle.kind.specs.declared.Kind.TheVariants.{Coulomb}
use Rattle.kind.specs.declared.refusals.Refusal.{Refusal}
use Rattle.kind.specs.declared.refusals.Refusal.TheVariants.{NoRoom}
use Rattle.term.specs.Terms.{Term}
use Rattle.geometry.specs.Floats.{zero as 0·0, in_places}
use Rattle.geometry.specs.Tables.{prefac}
use Rattle.roll.specs.declared.cursor.Cursor.{Cursor}
use Rattle.roll.specs.Reading.{got, terms_at}
use Rattle.roll.specs.inner.Judged.{Readable}
use Rattle.integrals.specs.Sums.{factor_of as factor_in, sum_from}
use Rattle.integrals.specs.Values.{Value, result_of, value_of}
use Rattle.integrals.specs.inner.Barred.{bars_with}
use Rattle.integrals.specs.inner.Stored.{own_order_of, again_from, of_cursor}
use Rattle.grouping.specs.declared.Given.{Given}
use Rattle.grouping.specs.Grouping.{grouping, entries_bytes}
use Rattle.grouping.specs.Evaluation.{entry_room}

-- the table of the host's centres, and the checks before a sum with it
unfoldable pub table_of : Given → List Float
table_of g = in_places table_places (prefac Coulomb g.a g.b g.c g.d)

unfoldable pub bars_of : ℕ → Given → List Float → Result ⊤ Refusal
bars_of l g boys = bars_with Coulomb l g.a g.b g.c g.d g.aux boys (table_of g)

-- what stands in the sum for the host's aux
unfoldable pub factor_of : Given → Float
factor_of g = factor_in Coulomb g.a g.b g.c g.d g.aux

-- the sum of terms that stand by Boys order, unless it is barred
unfoldable pub summed_of : Result ⊤ Refusal → List Float → Float → List Float → List Term → Value
summed_of (Ok u) table s boys ts = result_of (sum_from (own_order_of table s boys) ts 0·0)
summed_of (Err r) table s boys ts = Err r

abbrev pub enough_for : ℕ → ℕ → Bool
enough_for size terms = leb (entry_room * terms) size

-- a judged Coulomb roll
pub record GroupsMay (s : List ℕ) (c : Cursor) : Type 0 where
  pub small : c.l ≤ most_l Coulomb
  pub inside : c.place ≤ length s
  pub few : c.left ≤ most_terms
  pub terms : List Term
  pub end : ℕ
  pub reads : terms_at s c.place c.left Coulomb c.l ≡ got terms end

abbrev pub in_groups : List ℕ → Cursor → Given → List Float → ℕ → Value
in_groups s c g boys size = unless (enough_for size c.left) (Err NoRoom) (value_of Coulomb c.l g.a g.b g.c g.d g.aux boys (again_from s c))

abbrev pub groups_in : List ℕ → Cursor → List ℕ → List ℕ
groups_in s c buffer = cond (enough_for (length buffer) c.left) (placed buffer 0 (entries_bytes (grouping c.l (again_from s c)))) buffer

pub record InGroupsTold (s : List ℕ) (c : Cursor) (g : Given) (boys : List Float) (lent : List ℕ) (r : Value) (after : List ℕ) : Type 0 where
  pub answer : r ≡ in_groups s c g boys (length lent)
  pub buffer : after ≡ groups_in s c lent

-- a judged roll of any kind
pub record CursorMay (s : List ℕ) (c : Cursor) : Type 0 where
  pub readable : Readable c s
  pub few : c.left ≤ most_terms

pub record CursorTold (s : List ℕ) (c : Cursor) (g : Given) (boys : List Float) (lent : List ℕ) (r : Value) (after : List ℕ) : Type 0 where
  pub answer : r ≡ cond (eqb c.kind (number_of Coulomb)) (in_groups s c g boys (length lent)) (of_cursor (kind_of c.kind) c g.a g.b g.c g.d g.aux boys s)
  pub buffer : after ≡ cond (eqb c.kind (number_of Coulomb)) (groups_in s c lent) lent
