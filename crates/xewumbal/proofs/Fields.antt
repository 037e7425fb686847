-- The laws of the exported functions: the fields of the answer below are the fields promised.
use Prim.Native.Nat.{ℕ}
use mathlib.Core.Path.{◌≡◌, refl, sym, ap, ◌∙◌}
use mathlib.Core.List.{List}
use lib.Ieee.{Float}
use Rattle.std.specs.Prelude.{⊤, Option, Result}
use Rattle.kind.specs.declared.refusals.Refusal.{Refusal}
use Rattle.kind.specs.declared.refusals.Fault.{Fault}
use Rattle.term.specs.declared.Term.{Term as Held}
use Rattle.comparing.specs.declared.sides.Sided.{Sided}
use Rattle.kind.specs.Kinds.{kind_of}
use Rattle.expansion.specs.declared.Expanded.{Expanded}
use Rattle.expansion.specs.Expanding.{ExpandTold, Expand2Told, named_measured}
use Rattle.shell.specs.declared.Listed.{Listed}
use Rattle.shell.specs.Shells.{ListTold, shell2_of, shell4_of}
use Rattle.roll.specs.declared.cursor.Cursor.{Cursor}
use Rattle.roll.specs.declared.cursor.Step.{Step}
use Rattle.roll.specs.declared.header.Opened.{Opened}
use Rattle.roll.specs.Header.{open_of, check_of}
use Rattle.roll.specs.Cursor.{step_of}
use Rattle.form2.specs.declared.cursor.Cursor2.{Cursor2}
use Rattle.form2.specs.declared.cursor.Step2.{Step2}
use Rattle.form2.specs.declared.header.Opened2.{Opened2}
use Rattle.form2.specs.declared.moves.Moved.{Moved}
use Rattle.comparing.specs.declared.differ.Compared.{Compared}
use Rattle.comparing.specs.declared.pair.Pair.{Pair}
use Rattle.comparing.specs.declared.pair.Met.{Met}
use Rattle.comparing.specs.Answers.{compared_of}
use Rattle.comparing.specs.Pairs.{next_of}
use Rattle.salvaging.specs.declared.Told.{Told}
use Rattle.salvaging.specs.Salvage.{SalvageTold}
use Rattle.form2.specs.Header.{open2_of, check2_of}
use Rattle.form2.specs.Cursor.{step2_of}
use Rattle.form2.specs.Moves.{ToForm2Told, ToForm1Told}
use Rattle.totals.specs.Totals.{total_of, roll_total_of}
use Rattle.geometry.specs.declared.Centre.{Centre}
use Rattle.geometry.specs.Checks.{prefactor_table_of}
use Rattle.geometry.specs.Floats.{zero}
use Rattle.root.specs.Root.{rooted_of}
use Rattle.contracting.specs.declared.Contracted.{Contracted}
use Rattle.contracting.specs.Elements.{contracted_of}
use Rattle.nuclei.specs.declared.Nuclei.{Nuclei}
use Rattle.nuclei.specs.Nuclei.{nuclear_of}
use Rattle.integrals.specs.Evaluation.{evaluate_of}
use Rattle.grouping.specs.Evaluation.{GroupedTold}
use Rattle.grouping.specs.Restoring.{restored_of}
use Rattle.jk.specs.Outcome.{Answer, Outcome, outcome, jk_of}
use Rattle.xewumbal.specs.declared.xew_written.{xew_written}
use Rattle.xewumbal.specs.declared.xew_value.{xew_value}
use Rattle.xewumbal.specs.declared.xew_rooted.{xew_rooted}
use Rattle.xewumbal.specs.declared.xew_component.{xew_component}
use Rattle.xewumbal.specs.declared.xew_table.{xew_table}
use Rattle.xewumbal.specs.declared.xew_cursor.{xew_cursor}
use Rattle.xewumbal.specs.declared.xew_opened.{xew_opened}
use Rattle.xewumbal.specs.declared.xew_step.{xew_step}
use Rattle.xewumbal.specs.declared.xew_cursor2.{xew_cursor2}
use Rattle.xewumbal.specs.declared.xew_opened2.{xew_opened2}
use Rattle.xewumbal.specs.declared.xew_step2.{xew_step2}
use Rattle.xewumbal.specs.declared.xew_moved.{xew_moved}
use Rattle.xewumbal.specs.declared.xew_salvaged.{xew_salvaged}
use Rattle.xewumbal.specs.declared.xew_pair.{xew_pair}
use Rattle.xewumbal.specs.declared.xew_compared.{xew_compared}
use Rattle.xewumbal.specs.declared.xew_term.{xew_term}
use Rattle.xewumbal.specs.declared.xew_met.{xew_met}
use Rattle.xewumbal.specs.declared.xew_restored.{xew_restored}
use Rattle.xewumbal.specs.declared.xew_total.{xew_total}
use Rattle.xewumbal.specs.declared.xew_scales.{xew_scales}
use Rattle.xewumbal.specs.Answers.{host_refusal, Expand2CallTold, ExpandCallTold, GroupedCallTold, JkCallTold, ListCallTold, SalvageCallTold, ToForm1CallTold, ToForm2CallTold, check2_answer, check_answer, compare_answer, compare_next_answer, contracted_answer, cursor2_in, cursor_in, evaluate_answer, grouped_term_answer, host_compared, host_component, host_expanded, host_listed, host_met, host_moved, host_opened, host_opened2, host_restored, host_rooted, host_salvaged, host_scales, host_step, host_step2, host_table, host_total, host_value, measure_answer, next2_answer, next_answer, nuclear_answer, open2_answer, open_answer, pair_in, prefactors_answer, roll_total_answer, root_answer, scale_total_answer, shell2_answer, shell4_answer}

-- ---- the promises from the answers below

pub expand-answered : (kind : ℕ) (orders before : List ℕ) (start : ℕ) (e : Result Expanded Refusal) (after : List ℕ) (x : xew_written) → ExpandTold kind orders before start e after → x ≡ host_expanded e → ExpandCallTold kind orders before start x after
expand-answered kind orders before start e after x told is = record { answer = is ∙ ap host_expanded told.answer; out = told.out }

pub expand2-answered : (kind : ℕ) (orders before : List ℕ) (start : ℕ) (e : Result Expanded Refusal) (after : List ℕ) (x : xew_written) → Expand2Told kind orders before start e after → x ≡ host_expanded e → Expand2CallTold kind orders before start x after
expand2-answered kind orders before start e after x told is = record { answer = is ∙ ap host_expanded told.answer; out = told.out }

pub list-answered : (order : ℕ) (before : List ℕ) (start : ℕ) (l : Result Listed Refusal) (after : List ℕ) (x : xew_written) → ListTold order before start l after → x ≡ host_listed l → ListCallTold order before start x after
list-answered order before start l after x told is = record { answer = is ∙ ap host_listed told.answer; out = told.out }

pub measure-answered : (kind : ℕ) (orders : List ℕ) (size : Result Expanded Refusal) (r : xew_written) → size ≡ named_measured (kind_of kind) orders → r ≡ host_expanded size → r ≡ measure_answer kind orders
unfolding measure_answer
measure-answered kind orders size r below is = is ∙ ap host_expanded below

pub shell2-answered : (a b number : ℕ) (c : Result (List ℕ) Refusal) (x : xew_component) → c ≡ shell2_of a b number → x ≡ host_component c → x ≡ shell2_answer a b number
unfolding shell2_answer
shell2-answered a b number c x told is = is ∙ ap host_component told

pub shell4-answered : (a b c d number : ℕ) (e : Result (List ℕ) Refusal) (x : xew_component) → e ≡ shell4_of a b c d number → x ≡ host_component e → x ≡ shell4_answer a b c d number
unfolding shell4_answer
shell4-answered a b c d number e x told is = is ∙ ap host_component told

pub open-answered : (roll : List ℕ) (o : Result Opened Fault) (x : xew_opened) → o ≡ open_of roll → x ≡ host_opened o → x ≡ open_answer roll
unfolding open_answer
open-answered roll o x told is = is ∙ ap host_opened told

pub check-answered : (roll : List ℕ) (o : Result Opened Fault) (x : xew_opened) → o ≡ check_of roll → x ≡ host_opened o → x ≡ check_answer roll
unfolding check_answer
check-answered roll o x told is = is ∙ ap host_opened told

pub scale-total-answered : (kind : ℕ) (orders : List ℕ) (t : Result (Option ℕ) Refusal) (x : xew_total) → t ≡ total_of kind orders → x ≡ host_total t → x ≡ scale_total_answer kind orders
unfolding scale_total_answer
scale-total-answered kind orders t x below is = is ∙ ap host_total below

pub roll-total-answered : (roll : List ℕ) (t : Result ℕ Fault) (x : xew_scales) → t ≡ roll_total_of roll → x ≡ host_scales t → x ≡ roll_total_answer roll
unfolding roll_total_answer
roll-total-answered roll t x below is = is ∙ ap host_scales below

pub next-answered : (c : xew_cursor) (roll : List ℕ) (below : Cursor) (s : Result (Option Step) Fault) (x : xew_step) → below ≡ cursor_in c → s ≡ step_of below roll → x ≡ host_step s → x ≡ next_answer c roll
unfolding next_answer
next-answered c roll below s x at told is = is ∙ ap host_step (told ∙ ap (λ (b : Cursor). step_of b roll) at)

pub open2-answered : (roll : List ℕ) (o : Result Opened2 Fault) (x : xew_opened2) → o ≡ open2_of roll → x ≡ host_opened2 o → x ≡ open2_answer roll
unfolding open2_answer
open2-answered roll o x told is = is ∙ ap host_opened2 told

pub check2-answered : (roll : List ℕ) (o : Result Opened2 Fault) (x : xew_opened2) → o ≡ check2_of roll → x ≡ host_opened2 o → x ≡ check2_answer roll
unfolding check2_answer
check2-answered roll o x told is = is ∙ ap host_opened2 told

pub next2-answered : (c : xew_cursor2) (roll : List ℕ) (below : Cursor2) (s : Result (Option Step2) Fault) (x : xew_step2) → below ≡ cursor2_in c → s ≡ step2_of below roll → x ≡ host_step2 s → x ≡ next2_answer c roll
unfolding next2_answer
next2-answered c roll below s x at told is = is ∙ ap host_step2 (told ∙ ap (λ (b : Cursor2). step2_of b roll) at)

pub to-form2-answered : (roll before : List ℕ) (start : ℕ) (m : Result Moved Fault) (after : List ℕ) (x : xew_moved) → ToForm2Told roll before start m after → x ≡ host_moved m → ToForm2CallTold roll before start x after
to-form2-answered roll before start m after x told is = record { answer = is ∙ ap host_moved told.answer; out = told.bytes }

pub to-form1-answered : (roll before : List ℕ) (start : ℕ) (m : Result Moved Fault) (after : List ℕ) (x : xew_moved) → ToForm1Told roll before start m after → x ≡ host_moved m → ToForm1CallTold roll before start x after
to-form1-answered roll before start m after x told is = record { answer = is ∙ ap host_moved told.answer; out = told.bytes }

pub salvage-answered : (roll before : List ℕ) (start : ℕ) (a : Result Told Fault) (now : List ℕ) (x : xew_salvaged) → SalvageTold roll before start a now → x ≡ host_salvaged a → SalvageCallTold roll before start x now
salvage-answered roll before start a now x told is = record { answer = is ∙ ap host_salvaged told.answer; out = told.out }

pub compare-answered : (left right : List ℕ) (c : Result Compared Sided) (x : xew_compared) → c ≡ compared_of left right → x ≡ host_compared c → x ≡ compare_answer left right
unfolding compare_answer
compare-answered left right c x told is = is ∙ ap host_compared told

pub compare-next-answered : (p : xew_pair) (left right : List ℕ) (below : Pair) (m : Result (Option Met) Sided) (x : xew_met) → below ≡ pair_in p → m ≡ next_of below left right → x ≡ host_met m → x ≡ compare_next_answer p left right
unfolding compare_next_answer
compare-next-answered p left right below m x at told is = is ∙ ap host_met (told ∙ ap (λ (b : Pair). next_of b left right) at)

pub prefactors-answered : (kind : ℕ) (a b c d : Centre) (t : Result (List Float) Refusal) (x : xew_table) → t ≡ prefactor_table_of kind a b c d → x ≡ host_table t → x ≡ prefactors_answer kind a b c d
unfolding prefactors_answer
prefactors-answered kind a b c d t x told is = is ∙ ap host_table told

pub root-answered : (x : Float) (v : Result Float Refusal) (r : xew_rooted) → v ≡ rooted_of x → r ≡ host_rooted v → r ≡ root_answer x
unfolding root_answer
root-answered x v r told is = is ∙ ap host_rooted told

pub evaluate-answered : (roll : List ℕ) (a b c d : Centre) (aux : Float) (boys : List Float) (v : Result Float Fault) (x : xew_value) → v ≡ evaluate_of roll a b c d aux boys → x ≡ host_value v → x ≡ evaluate_answer roll a b c d aux boys
unfolding evaluate_answer
evaluate-answered roll a b c d aux boys v x told is = is ∙ ap host_value told

pub nuclear-answered : (roll : List ℕ) (a b : Centre) (n : Nuclei) (aux : Float) (boys : List Float) (v : Result Float Fault) (x : xew_value) → v ≡ nuclear_of roll a b n aux boys → x ≡ host_value v → x ≡ nuclear_answer roll a b n aux boys
unfolding nuclear_answer
nuclear-answered roll a b n aux boys v x told is = is ∙ ap host_value told

pub contracted-answered : (roll : List ℕ) (left right : Contracted) (host : List Float) (v : Result Float Fault) (x : xew_value) → v ≡ contracted_of roll left right host → x ≡ host_value v → x ≡ contracted_answer roll left right host
unfolding contracted_answer
contracted-answered roll left right host v x told is = is ∙ ap host_value told

pub grouped-answered : (a b c d : Centre) (roll : List ℕ) (aux : Float) (boys : List Float) (before : List ℕ) (v : Result Float Fault) (x : xew_value) (after : List ℕ) → GroupedTold roll a b c d aux boys before v after → x ≡ host_value v → GroupedCallTold roll a b c d aux boys before x after
grouped-answered a b c d roll aux boys before v x after told is = record { answer = is ∙ ap host_value told.answer; buffer = told.buffer }

pub grouped-term-answered : (grouping : List ℕ) (l terms number : ℕ) (r : Result Held Fault) (x : xew_restored) → r ≡ restored_of grouping l terms number → x ≡ host_restored r → x ≡ grouped_term_answer grouping l terms number
unfolding grouped_term_answer
grouped-term-answered grouping l terms number r x told is = is ∙ ap host_restored told

pub jk-answered : (n : ℕ) (i d before_j before_k : List Float) (a : Answer) (after_j after_k : List Float) (x : ℕ) → outcome a after_j after_k ≡ jk_of n i d before_j before_k → x ≡ host_refusal a → JkCallTold n i d before_j before_k x after_j after_k
jk-answered n i d before_j before_k a after_j after_k x told is =
    record { answer = is ∙ ap (λ (o : Outcome). host_refusal o.answer) told; j = ap (λ (o : Outcome). o.j) told; k = ap (λ (o : Outcome). o.k) told }
