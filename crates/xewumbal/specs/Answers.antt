-- What each exported function answers, field by field, by what the function below it answers. Refusal 0 is success; beside a
-- refusal stand zeros (D-76).
use Rattle.std.specs.Prelude.{ℕ, ◌≡◌, Bool, true, false, List, Float, length, replicate, Option, Some, None, Result, Ok, Err}
use Rattle.kind.specs.Limits.{request_orders, most_l·any, table_places}
use Rattle.kind.specs.Refusals.{refusal_number}
use Rattle.kind.specs.declared.refusals.Refusal.{Refusal}
use Rattle.kind.specs.declared.refusals.Fault.{Fault}
use Rattle.kind.specs.Kinds.{kind_of}
use Rattle.expansion.specs.declared.Expanded.{Expanded}
use Rattle.expansion.specs.Expanding.{named_told, named_measured, named_out, named_told2, named_out2, length_in as roll_length, count_in, refusal_of as expanded_refusal}
use Rattle.shell.specs.declared.Listed.{Listed}
use Rattle.shell.specs.Shells.{listed_at, listed_out, length_in, triples_in, shell2_of, shell4_of, refusal_of as shell_refusal}
use Rattle.roll.specs.declared.cursor.Cursor.{Cursor}
use Rattle.roll.specs.declared.cursor.Step.{Step}
use Rattle.roll.specs.declared.header.Opened.{Opened}
use Rattle.roll.specs.Header.{open_of, check_of, refusal_of, place_of}
use Rattle.roll.specs.Cursor.{no_cursor, step_of}
use Rattle.roll.specs.Reading.{Reading, Roll, roll_at}
use Rattle.form2.specs.declared.cursor.Cursor2.{Cursor2}
use Rattle.form2.specs.declared.cursor.Step2.{Step2}
use Rattle.form2.specs.declared.header.Opened2.{Opened2}
use Rattle.form2.specs.declared.moves.Moved.{Moved}
use Rattle.form2.specs.Reading.{roll_at2}
use Rattle.form2.specs.Header.{open2_of, check2_of}
use Rattle.form2.specs.Cursor.{step2_of}
use Rattle.term.specs.declared.Term.{Term as Held}
use Rattle.term.specs.Terms.{no_term}
use Rattle.comparing.specs.declared.sides.Side.{Side}
use Rattle.comparing.specs.declared.sides.Side.TheVariants as side
use Rattle.comparing.specs.declared.sides.Sided.{Sided}
use Rattle.comparing.specs.declared.differ.Compared.{Compared}
use Rattle.comparing.specs.declared.pair.Line.{Line}
use Rattle.comparing.specs.declared.pair.Line.TheVariants as line
use Rattle.comparing.specs.declared.pair.Pair.{Pair}
use Rattle.comparing.specs.declared.pair.Met.{Met}
use Rattle.comparing.specs.Answers.{compared_of}
use Rattle.comparing.specs.Pairs.{next_of}
use Rattle.salvaging.specs.declared.After.{After}
use Rattle.salvaging.specs.declared.After.TheVariants as after
use Rattle.salvaging.specs.declared.Told.{Told}
use Rattle.salvaging.specs.Salvage.{salvaged_of, out_of as salvage_out}
use Rattle.form2.specs.Moves.{in_form1, in_form2, moved_of, out_of, length_in as moved_length, place_of as moved_place, count_in as moved_count, refusal_of as moved_refusal}
use Rattle.totals.specs.Totals.{total_of, roll_total_of, total_in, refusal_of as total_refusal, scales_in}
use Rattle.geometry.specs.declared.Centre.{Centre}
use Rattle.geometry.specs.Checks.{prefactor_table_of}
use Rattle.root.specs.Root.{rooted_of, refusal_of as root_refusal}
use Rattle.geometry.specs.Floats.{zero as 0·0}
use Rattle.contracting.specs.declared.Contracted.{Contracted}
use Rattle.contracting.specs.Elements.{contracted_of}
use Rattle.nuclei.specs.declared.Nuclei.{Nuclei}
use Rattle.nuclei.specs.Nuclei.{nuclear_of}
use Rattle.integrals.specs.Evaluation.{evaluate_of, float_of, place_of as value_place, refusal_of as value_refusal}
use Rattle.grouping.specs.Evaluation.{of_roll as grouped_of_roll, buffer_of}
use Rattle.grouping.specs.Restoring.{restored_of}
use Rattle.jk.specs.Outcome.{Answer, jk_of}
use Rattle.xewumbal.specs.declared.xew_written.{xew_written}
use Rattle.xewumbal.specs.declared.xew_value.{xew_value}
use Rattle.xewumbal.specs.declared.xew_rooted.{xew_rooted}
use Rattle.xewumbal.specs.declared.xew_component.{xew_component}
use Rattle.xewumbal.specs.declared.xew_table.{xew_table}
use Rattle.xewumbal.specs.declared.xew_cursor.{xew_cursor}
use Rattle.xewumbal.specs.declared.xew_opened.{xew_opened}
use Rattle.xewumbal.specs.declared.xew_step.{xew_step}
use Rattle.xewumbal.specs.declared.xew_restored.{xew_restored}
use Rattle.xewumbal.specs.declared.xew_cursor2.{xew_cursor2}
use Rattle.xewumbal.specs.declared.xew_opened2.{xew_opened2}
use Rattle.xewumbal.specs.declared.xew_step2.{xew_step2}
use Rattle.xewumbal.specs.declared.xew_moved.{xew_moved}
use Rattle.xewumbal.specs.declared.xew_salvaged.{xew_salvaged}
use Rattle.xewumbal.specs.declared.xew_pair.{xew_pair}
use Rattle.xewumbal.specs.declared.xew_compared.{xew_compared}
use Rattle.xewumbal.specs.declared.xew_term.{xew_term}
use Rattle.xewumbal.specs.declared.xew_met.{xew_met}
use Rattle.xewumbal.specs.declared.xew_total.{xew_total}
use Rattle.xewumbal.specs.declared.xew_scales.{xew_scales}

-- ---- what the host hands in

abbrev pub cursor_in : xew_cursor → Cursor
cursor_in c = record { place = c.place; left = c.left; kind = c.kind; l = c.l }

abbrev pub cursor2_in : xew_cursor2 → Cursor2
cursor2_in c = record { cursor = cursor_in c.cursor; count = c.count; earlier = c.earlier }

-- ---- xew_expand: the length, the term count and the refusal of the answer

abbrev pub host_expanded : Result Expanded Refusal → xew_written
host_expanded e = record { length = roll_length e; terms = count_in e; refusal = expanded_refusal e }

pub record ExpandCallTold (kind : ℕ) (orders before : List ℕ) (start : ℕ) (r : xew_written) (after : List ℕ) : Type 0 where
  pub answer : r ≡ host_expanded (named_told (kind_of kind) orders before start)
  pub out : after ≡ named_out (named_told (kind_of kind) orders before start) (kind_of kind) orders before start

-- ---- xew_measure: the same of a roll that is not written

unfoldable pub measure_answer : ℕ → List ℕ → xew_written
measure_answer kind orders = host_expanded (named_measured (kind_of kind) orders)

-- ---- xew_expand2: as xew_expand, in form 2

pub record Expand2CallTold (kind : ℕ) (orders before : List ℕ) (start : ℕ) (r : xew_written) (after : List ℕ) : Type 0 where
  pub answer : r ≡ host_expanded (named_told2 (kind_of kind) orders before start)
  pub out : after ≡ named_out2 (named_told2 (kind_of kind) orders before start) (kind_of kind) orders before start

-- ---- xew_shell_list: the length, the triples and the refusal

abbrev pub host_listed : Result Listed Refusal → xew_written
host_listed l = record { length = length_in l; terms = triples_in l; refusal = shell_refusal l }

pub record ListCallTold (order : ℕ) (before : List ℕ) (start : ℕ) (r : xew_written) (after : List ℕ) : Type 0 where
  pub answer : r ≡ host_listed (listed_at order before start)
  pub out : after ≡ listed_out order before start

-- ---- xew_shell2 and xew_shell4: the orders and the refusal

-- the zeros beside a refusal
abbrev pub no_orders : List ℕ
no_orders = replicate request_orders 0

abbrev pub orders_in : Result (List ℕ) Refusal → List ℕ
orders_in (Ok orders) = orders
orders_in (Err r) = no_orders

abbrev pub host_component : Result (List ℕ) Refusal → xew_component
host_component c = record { orders = orders_in c; refusal = shell_refusal c }

unfoldable pub shell2_answer : ℕ → ℕ → ℕ → xew_component
shell2_answer a b number = host_component (shell2_of a b number)

unfoldable pub shell4_answer : ℕ → ℕ → ℕ → ℕ → ℕ → xew_component
shell4_answer a b c d number = host_component (shell4_of a b c d number)

-- ---- xew_open and xew_check: the cursor at the first term, the orders, and a refusal with its place

abbrev pub host_cursor : Cursor → xew_cursor
host_cursor c = record { place = c.place; left = c.left; kind = c.kind; l = c.l }

abbrev pub unopened : ℕ → ℕ → xew_opened
unopened place number = record { cursor = host_cursor no_cursor; place = place; orders = no_orders; refusal = number }

abbrev pub opened_beside : Result Opened Fault → ℕ → ℕ → xew_opened
opened_beside (Ok o) place number = record { cursor = host_cursor o.cursor; place = place; orders = o.orders; refusal = number }
opened_beside (Err f) place number = unopened place number

abbrev pub host_opened : Result Opened Fault → xew_opened
host_opened o = opened_beside o (place_of o) (refusal_of o)

unfoldable pub open_answer : List ℕ → xew_opened
open_answer roll = host_opened (open_of roll)

unfoldable pub check_answer : List ℕ → xew_opened
check_answer roll = host_opened (check_of roll)

-- ---- xew_next: the term, the cursor one term further on, and a refusal with its place

abbrev pub found_step : Held → Cursor → ℕ → ℕ → ℕ → xew_step
found_step t next code place number =
    record { next = host_cursor next; place = place; scale = t.scale; boys = t.boys; count = t.count; prefactors = t.prefactors; found = code; refusal = number }

abbrev pub no_step : ℕ → ℕ → ℕ → xew_step
no_step code place number = found_step no_term no_cursor code place number

-- 0 refused, 1 term, 2 end (D-78)
abbrev pub host_step : Result (Option Step) Fault → xew_step
host_step (Ok (Some s)) = found_step s.term s.next 1 0 0
host_step (Ok None) = no_step 2 0 0
host_step (Err f) = no_step 0 f.place (refusal_number f.refusal)

unfoldable pub next_answer : xew_cursor → List ℕ → xew_step
next_answer c roll = host_step (step_of (cursor_in c) roll)

-- ---- xew_open2 and xew_check2: the same of a form 2 roll; the cursor also holds the prefactors of the term before

abbrev pub host_cursor2 : Cursor2 → xew_cursor2
host_cursor2 c = record { cursor = host_cursor c.cursor; count = c.count; earlier = c.earlier }

-- the zeros beside a refusal
abbrev pub no_host_cursor2 : xew_cursor2
no_host_cursor2 = record { cursor = host_cursor no_cursor; count = 0; earlier = replicate most_l·any 0 }

abbrev pub unopened2 : ℕ → ℕ → xew_opened2
unopened2 place number = record { cursor = no_host_cursor2; place = place; orders = no_orders; refusal = number }

abbrev pub opened2_beside : Result Opened2 Fault → ℕ → ℕ → xew_opened2
opened2_beside (Ok o) place number = record { cursor = host_cursor2 o.cursor; place = place; orders = o.orders; refusal = number }
opened2_beside (Err f) place number = unopened2 place number

abbrev pub host_opened2 : Result Opened2 Fault → xew_opened2
host_opened2 o = opened2_beside o (place_of o) (refusal_of o)

unfoldable pub open2_answer : List ℕ → xew_opened2
open2_answer roll = host_opened2 (open2_of roll)

unfoldable pub check2_answer : List ℕ → xew_opened2
check2_answer roll = host_opened2 (check2_of roll)

-- ---- xew_next2: the term with all its prefactors, the cursor one term further on, and a refusal with its place

abbrev pub found_step2 : Held → xew_cursor2 → ℕ → ℕ → ℕ → xew_step2
found_step2 t next code place number =
    record { next = next; place = place; scale = t.scale; boys = t.boys; count = t.count; prefactors = t.prefactors; found = code; refusal = number }

abbrev pub no_step2 : ℕ → ℕ → ℕ → xew_step2
no_step2 code place number = found_step2 no_term no_host_cursor2 code place number

abbrev pub host_step2 : Result (Option Step2) Fault → xew_step2
host_step2 (Ok (Some s)) = found_step2 s.term (host_cursor2 s.next) 1 0 0
host_step2 (Ok None) = no_step2 2 0 0
host_step2 (Err f) = no_step2 0 f.place (refusal_number f.refusal)

unfoldable pub next2_answer : xew_cursor2 → List ℕ → xew_step2
next2_answer c roll = host_step2 (step2_of (cursor2_in c) roll)

-- ---- xew_to_form2 and xew_to_form1: the length, the term count, and a refusal with its place

abbrev pub host_moved : Result Moved Fault → xew_moved
host_moved m = record { length = moved_length m; place = moved_place m; terms = moved_count m; refusal = moved_refusal m }

pub record MoveCallTold (form : Roll → List ℕ) (reading : Reading Roll) (before : List ℕ) (start : ℕ) (r : xew_moved) (after : List ℕ) : Type 0 where
  pub answer : r ≡ host_moved (moved_of form reading before start)
  pub out : after ≡ out_of form reading before start

abbrev pub ToForm2CallTold : List ℕ → List ℕ → ℕ → xew_moved → List ℕ → Type 0
ToForm2CallTold roll before start r after = MoveCallTold in_form2 (roll_at roll) before start r after

abbrev pub ToForm1CallTold : List ℕ → List ℕ → ℕ → xew_moved → List ℕ → Type 0
ToForm1CallTold roll before start r after = MoveCallTold in_form1 (roll_at2 roll) before start r after

-- ---- a flag

abbrev pub flag_of : Bool → ℕ
flag_of true = 1
flag_of false = 0

-- ---- xew_salvage: what is told of the damaged roll, and a refusal with its place

-- 0 unknown, 1 nothing, 2 bytes (D-100)
abbrev pub after_code : After → ℕ
after_code after.Unknown = 0
after_code after.None = 1
after_code after.Bytes = 2

abbrev pub host_salvaged : Result Told Fault → xew_salvaged
host_salvaged (Ok t) =
    record { length = t.length; place = 0; terms = t.terms; kept = t.kept; anew = t.anew; miscounted = flag_of t.miscounted; after = after_code t.after; refusal = 0 }
host_salvaged (Err f) = record { length = 0; place = f.place; terms = 0; kept = 0; anew = 0; miscounted = 0; after = 0; refusal = refusal_number f.refusal }

pub record SalvageCallTold (roll before : List ℕ) (start : ℕ) (r : xew_salvaged) (now : List ℕ) : Type 0 where
  pub answer : r ≡ host_salvaged (salvaged_of roll before start)
  pub out : now ≡ salvage_out roll before start

-- ---- xew_compare: how many positions differ, and what else does; or the side, number and place of a refusal

abbrev pub host_pair : Pair → xew_pair
host_pair p = record { left = host_cursor2 p.left; right = host_cursor2 p.right; number = p.number }

abbrev pub pair_in : xew_pair → Pair
pair_in p = record { left = cursor2_in p.left; right = cursor2_in p.right; number = p.number }

-- the zeros beside a refusal
abbrev pub no_host_pair : xew_pair
no_host_pair = record { left = no_host_cursor2; right = no_host_cursor2; number = 0 }

-- the side is 1 for the left roll, 2 for the right one (D-103)
abbrev pub side_number : Side → ℕ
side_number side.Left = 1
side_number side.Right = 2

abbrev pub refused_sides : Sided → xew_compared
refused_sides s =
    record {
      cursor = no_host_pair;
      place = s.fault.place;
      differ = 0;
      left = no_orders;
      right = no_orders;
      kinds = 0;
      orders = 0;
      terms = 0;
      side = side_number s.side;
      refusal = refusal_number s.fault.refusal;
    }

abbrev pub host_compared : Result Compared Sided → xew_compared
host_compared (Ok c) =
    record {
      cursor = host_pair c.cursor;
      place = 0;
      differ = c.differ;
      left = c.left;
      right = c.right;
      kinds = flag_of c.kinds;
      orders = flag_of c.orders;
      terms = flag_of c.terms;
      side = 0;
      refusal = 0;
    }
host_compared (Err s) = refused_sides s

unfoldable pub compare_answer : List ℕ → List ℕ → xew_compared
compare_answer left right = host_compared (compared_of left right)

-- ---- xew_compare_next: the next position that differs

abbrev pub host_term : Held → xew_term
host_term t = record { scale = t.scale; boys = t.boys; count = t.count; prefactors = t.prefactors }

abbrev pub met_at : ℕ → Pair → Held → Held → ℕ → xew_met
met_at number next left right code =
    record { next = host_pair next; place = 0; number = number; left = host_term left; right = host_term right; found = code; side = 0; refusal = 0 }

abbrev pub not_met : ℕ → ℕ → ℕ → ℕ → xew_met
not_met code side place number =
    record { next = no_host_pair; place = place; number = 0; left = host_term no_term; right = host_term no_term; found = code; side = side; refusal = number }

abbrev pub met_as : ℕ → Pair → Line → xew_met
met_as number next (line.Both left right) = met_at number next left right 1
met_as number next (line.Left left) = met_at number next left no_term 2
met_as number next (line.Right right) = met_at number next no_term right 3

abbrev pub met_line : Met → xew_met
met_line m = met_as m.number m.next m.line

-- 0 refused, 1 both terms differ, 2 a term of the left roll alone, 3 of the right one, 4 the end
abbrev pub host_met : Result (Option Met) Sided → xew_met
host_met (Ok (Some m)) = met_line m
host_met (Ok None) = not_met 4 0 0 0
host_met (Err s) = not_met 0 (side_number s.side) s.fault.place (refusal_number s.fault.refusal)

unfoldable pub compare_next_answer : xew_pair → List ℕ → List ℕ → xew_met
compare_next_answer p left right = host_met (next_of (pair_in p) left right)

-- ---- xew_scale_total: the number, whether one is claimed, and the refusal

-- claimed is 1 beside a number, else 0 (D-90)
abbrev pub claimed_code : Result (Option ℕ) Refusal → ℕ
claimed_code (Ok (Some n)) = 1
claimed_code (Ok None) = 0
claimed_code (Err r) = 0

abbrev pub host_total : Result (Option ℕ) Refusal → xew_total
host_total t = record { total = total_in t; claimed = claimed_code t; refusal = total_refusal t }

unfoldable pub scale_total_answer : ℕ → List ℕ → xew_total
scale_total_answer kind orders = host_total (total_of kind orders)

-- ---- xew_roll_total: the sum of a roll's scales, and a refusal with its place

abbrev pub host_scales : Result ℕ Fault → xew_scales
host_scales t = record { total = scales_in t; place = place_of t; refusal = refusal_of t }

unfoldable pub roll_total_answer : List ℕ → xew_scales
roll_total_answer roll = host_scales (roll_total_of roll)

-- ---- xew_prefactors: the table and the refusal

abbrev pub host_table : Result (List Float) Refusal → xew_table
host_table (Ok entries) = record { entries = entries; refusal = 0 }
host_table (Err r) = record { entries = replicate table_places 0·0; refusal = refusal_number r }

unfoldable pub prefactors_answer : ℕ → Centre → Centre → Centre → Centre → xew_table
prefactors_answer kind a b c d = host_table (prefactor_table_of kind a b c d)

-- ---- xew_root: the root and the refusal

abbrev pub root_in : Result Float Refusal → Float
root_in (Ok x) = x
root_in (Err r) = 0·0

abbrev pub host_rooted : Result Float Refusal → xew_rooted
host_rooted r = record { root = root_in r; refusal = root_refusal r }

unfoldable pub root_answer : Float → xew_rooted
root_answer x = host_rooted (rooted_of x)

-- ---- xew_evaluate: the integral, and a refusal with its place

abbrev pub host_value : Result Float Fault → xew_value
host_value v = record { value = float_of v; place = value_place v; refusal = value_refusal v }

unfoldable pub evaluate_answer : List ℕ → Centre → Centre → Centre → Centre → Float → List Float → xew_value
evaluate_answer roll a b c d aux boys = host_value (evaluate_of roll a b c d aux boys)

-- ---- xew_nuclear: the same of a list of nuclei

unfoldable pub nuclear_answer : List ℕ → Centre → Centre → Nuclei → Float → List Float → xew_value
nuclear_answer roll a b nuclei aux boys = host_value (nuclear_of roll a b nuclei aux boys)

-- ---- xew_contracted: the same of two contracted functions

unfoldable pub contracted_answer : List ℕ → Contracted → Contracted → List Float → xew_value
contracted_answer roll left right host = host_value (contracted_of roll left right host)

-- ---- xew_evaluate_grouped: the same of an evaluation that is lent a grouping buffer, and what the buffer then holds

pub record GroupedCallTold (roll : List ℕ) (a b c d : Centre) (aux : Float) (boys : List Float) (before : List ℕ) (r : xew_value) (after : List ℕ) : Type 0 where
  pub answer : r ≡ host_value (grouped_of_roll (roll_at roll) (length before) a b c d aux boys)
  pub buffer : after ≡ buffer_of (roll_at roll) before

-- ---- xew_grouped_term: the term with a number, and a refusal with its place

abbrev pub restored_term : Held → ℕ → ℕ → xew_restored
restored_term t place number = record { place = place; scale = t.scale; boys = t.boys; count = t.count; prefactors = t.prefactors; refusal = number }

abbrev pub host_restored : Result Held Fault → xew_restored
host_restored (Ok t) = restored_term t 0 0
host_restored (Err f) = restored_term no_term f.place (refusal_number f.refusal)

unfoldable pub grouped_term_answer : List ℕ → ℕ → ℕ → ℕ → xew_restored
grouped_term_answer grouping l terms number = host_restored (restored_of grouping l terms number)

-- ---- xew_jk: the refusal alone

abbrev pub host_refusal : Answer → ℕ
host_refusal (Ok u) = 0
host_refusal (Err r) = refusal_number r

pub record JkCallTold (n : ℕ) (i d before_j before_k : List Float) (r : ℕ) (after_j after_k : List Float) : Type 0 where
  pub answer : r ≡ host_refusal (jk_of n i d before_j before_k).answer
  pub j : after_j ≡ (jk_of n i d before_j before_k).j
  pub k : after_k ≡ (jk_of n i d before_j before_k).k
