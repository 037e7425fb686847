-- One answer alone meets the contract of each exported function, and it is the definition's, with the parameters in their order.
use Prim.Native.Nat.{ℕ}
use mathlib.Core.List.{List}
use lib.Ieee.{Float}
use lib.ListN.{length}
use contract.Lifetimes.{Lfts}
use Rattle.kind.specs.Kinds.{kind_of}
use Rattle.expansion.specs.Expanding.{named_told, named_out, named_told2, named_out2}
use Rattle.shell.specs.Shells.{listed_at, listed_out}
use Rattle.roll.specs.Reading.{roll_at}
use Rattle.form2.specs.Reading.{roll_at2}
use Rattle.form2.specs.Moves.{in_form1, in_form2, moved_of, out_of}
use Rattle.salvaging.specs.Salvage.{salvaged_of, out_of as salvage_out}
use Rattle.grouping.specs.Evaluation.{of_roll as grouped_of_roll, buffer_of}
use Rattle.small.specs.Expand.{small_named}
use Rattle.exporting.specs.Export.{export_of, export_out}
use Rattle.importing.specs.Import.{imported_of, imported_out}
use Rattle.jk.specs.Outcome.{jk_of}
use Rattle.geometry.specs.declared.Centre.{Centre}
use Rattle.nuclei.specs.declared.Nuclei.{Nuclei}
use Rattle.contracting.specs.declared.Contracted.{Contracted}
use Rattle.laws.proofs.Contract.{Alone, alone, Lent, Shown, ◌then◌, ◌▸◌, end}
use Rattle.xewumbal.specs.declared.xew_written.{xew_written}
use Rattle.xewumbal.specs.declared.xew_cursor.{xew_cursor}
use Rattle.xewumbal.specs.declared.xew_cursor2.{xew_cursor2}
use Rattle.xewumbal.specs.declared.xew_moved.{xew_moved}
use Rattle.xewumbal.specs.declared.xew_salvaged.{xew_salvaged}
use Rattle.xewumbal.specs.declared.xew_pair.{xew_pair}
use Rattle.xewumbal.specs.declared.xew_value.{xew_value}
use Rattle.xewumbal.specs.Answers.{host_refusal, host_expanded, host_listed, host_moved, host_salvaged, compare_answer, compare_next_answer, measure_answer, shell2_answer, shell4_answer, open_answer, check_answer, next_answer, open2_answer, check2_answer, next2_answer}
use Rattle.xewumbal.specs.declared.xew_text.{xew_text}
use Rattle.xewumbal.specs.declared.xew_imported.{xew_imported}
use Rattle.xewumbal.specs.Commas.{host_text, host_imported}
use Rattle.xewumbal.specs.Small.{confirm_answer, small_check_answer}
use Rattle.xewumbal.specs.Version.{version}
use Rattle.xewumbal.specs.Answers.{scale_total_answer, roll_total_answer, prefactors_answer, evaluate_answer, nuclear_answer, contracted_answer, root_answer, grouped_term_answer, host_value}
use Rattle.xewumbal.proofs.xew_version.Reads.{Post as Version}
use Rattle.xewumbal.proofs.xew_expand.Reads.{Post as Expand}
use Rattle.xewumbal.proofs.xew_measure.Reads.{Post as Measure}
use Rattle.xewumbal.proofs.xew_expand2.Reads.{Post as Expand2}
use Rattle.xewumbal.proofs.xew_shell_list.Reads.{Post as ShellList}
use Rattle.xewumbal.proofs.xew_shell2.Reads.{Post as Shell2}
use Rattle.xewumbal.proofs.xew_shell4.Reads.{Post as Shell4}
use Rattle.xewumbal.proofs.xew_open.Reads.{Post as Open}
use Rattle.xewumbal.proofs.xew_check.Reads.{Post as Check}
use Rattle.xewumbal.proofs.xew_next.Reads.{Post as Next}
use Rattle.xewumbal.proofs.xew_open2.Reads.{Post as Open2}
use Rattle.xewumbal.proofs.xew_check2.Reads.{Post as Check2}
use Rattle.xewumbal.proofs.xew_next2.Reads.{Post as Next2}
use Rattle.xewumbal.proofs.xew_to_form2.Reads.{Post as ToForm2}
use Rattle.xewumbal.proofs.xew_to_form1.Reads.{Post as ToForm1}
use Rattle.xewumbal.proofs.xew_salvage.Reads.{Post as Salvage}
use Rattle.xewumbal.proofs.xew_export.Reads.{Post as Export}
use Rattle.xewumbal.proofs.xew_import.Reads.{Post as Import}
use Rattle.xewumbal.proofs.xew_confirm.Reads.{Post as Confirm}
use Rattle.xewumbal.proofs.xew_small_check.Reads.{Post as SmallCheck}
use Rattle.xewumbal.proofs.xew_small_expand.Reads.{Post as SmallExpand}
use Rattle.xewumbal.proofs.xew_compare.Reads.{Post as Compare}
use Rattle.xewumbal.proofs.xew_compare_next.Reads.{Post as CompareNext}
use Rattle.xewumbal.proofs.xew_scale_total.Reads.{Post as ScaleTotal}
use Rattle.xewumbal.proofs.xew_roll_total.Reads.{Post as RollTotal}
use Rattle.xewumbal.proofs.xew_prefactors.Reads.{Post as Prefactors}
use Rattle.xewumbal.proofs.xew_evaluate.Reads.{Post as Evaluate}
use Rattle.xewumbal.proofs.xew_root.Reads.{Post as Root}
use Rattle.xewumbal.proofs.xew_nuclear.Reads.{Post as Nuclear}
use Rattle.xewumbal.proofs.xew_contracted.Reads.{Post as ContractedElement}
use Rattle.xewumbal.proofs.xew_evaluate_grouped.Reads.{Post as EvaluateGrouped}
use Rattle.xewumbal.proofs.xew_grouped_term.Reads.{Post as GroupedTerm}
use Rattle.xewumbal.proofs.xew_jk.Reads.{Post as Jk}

pub version-only : Alone (λ r. Version tt end r end) version
version-only = alone (λ r p. p)

module _ (κs : Lfts 2) (kind : ℕ) (orders : Shown ℕ) (out : Lent ℕ) (start : ℕ) where
  pub expand-only :
      Alone {A = xew_written × List ℕ} (λ x. Expand κs (kind ▸ orders ▸ out ▸ start ▸ end) x.0 (kind ▸ orders ▸ out then x.1 ▸ start ▸ end))
      (host_expanded (named_told (kind_of kind) orders.now out.now start), named_out (named_told (kind_of kind) orders.now out.now start) (kind_of kind) orders.now out.now start)
  expand-only = alone (λ x p i. (p.answer i, p.out i))

  pub expand2-only :
      Alone {A = xew_written × List ℕ} (λ x. Expand2 κs (kind ▸ orders ▸ out ▸ start ▸ end) x.0 (kind ▸ orders ▸ out then x.1 ▸ start ▸ end))
      (host_expanded (named_told2 (kind_of kind) orders.now out.now start), named_out2 (named_told2 (kind_of kind) orders.now out.now start) (kind_of kind) orders.now out.now start)
  expand2-only = alone (λ x p i. (p.answer i, p.out i))

  pub small-expand-only :
      Alone {A = xew_written × List ℕ} (λ x. SmallExpand κs (kind ▸ orders ▸ out ▸ start ▸ end) x.0 (kind ▸ orders ▸ out then x.1 ▸ start ▸ end))
      (host_expanded (small_named (kind_of kind) orders.now out.now start), named_out (small_named (kind_of kind) orders.now out.now start) (kind_of kind) orders.now out.now start)
  small-expand-only = alone (λ x p i. (p.answer i, p.out i))

pub measure-only : (κs : Lfts 1) (kind : ℕ) (orders : Shown ℕ) → let g = kind ▸ orders ▸ end in Alone (λ r. Measure κs g r g) (measure_answer kind orders.now)
measure-only κs kind orders = alone (λ r p. p)

pub shell-list-only : (κs : Lfts 1) (order : ℕ) (out : Lent ℕ) (start : ℕ) →
    Alone {A = xew_written × List ℕ} (λ x. ShellList κs (order ▸ out ▸ start ▸ end) x.0 (order ▸ out then x.1 ▸ start ▸ end))
    (host_listed (listed_at order out.now start), listed_out order out.now start)
shell-list-only κs order out start = alone (λ x p i. (p.answer i, p.out i))

pub shell2-only : (a b number : ℕ) → let g = a ▸ b ▸ number ▸ end in Alone (λ r. Shell2 tt g r g) (shell2_answer a b number)
shell2-only a b number = alone (λ r p. p)

pub shell4-only : (a b c d number : ℕ) → let g = a ▸ b ▸ c ▸ d ▸ number ▸ end in Alone (λ r. Shell4 tt g r g) (shell4_answer a b c d number)
shell4-only a b c d number = alone (λ r p. p)

pub open-only : (κs : Lfts 1) (roll : Shown ℕ) → let g = roll ▸ end in Alone (λ r. Open κs g r g) (open_answer roll.now)
open-only κs roll = alone (λ r p. p)

pub check-only : (κs : Lfts 1) (roll : Shown ℕ) → let g = roll ▸ end in Alone (λ r. Check κs g r g) (check_answer roll.now)
check-only κs roll = alone (λ r p. p)

pub confirm-only : (κs : Lfts 1) (roll : Shown ℕ) → let g = roll ▸ end in Alone (λ r. Confirm κs g r g) (confirm_answer roll.now)
confirm-only κs roll = alone (λ r p. p)

pub small-check-only : (κs : Lfts 1) (roll : Shown ℕ) → let g = roll ▸ end in Alone (λ r. SmallCheck κs g r g) (small_check_answer roll.now)
small-check-only κs roll = alone (λ r p. p)

pub next-only : (κs : Lfts 1) (cursor : xew_cursor) (roll : Shown ℕ) → let g = cursor ▸ roll ▸ end in Alone (λ r. Next κs g r g) (next_answer cursor roll.now)
next-only κs cursor roll = alone (λ r p. p)

pub open2-only : (κs : Lfts 1) (roll : Shown ℕ) → let g = roll ▸ end in Alone (λ r. Open2 κs g r g) (open2_answer roll.now)
open2-only κs roll = alone (λ r p. p)

pub check2-only : (κs : Lfts 1) (roll : Shown ℕ) → let g = roll ▸ end in Alone (λ r. Check2 κs g r g) (check2_answer roll.now)
check2-only κs roll = alone (λ r p. p)

pub next2-only : (κs : Lfts 1) (cursor : xew_cursor2) (roll : Shown ℕ) → let g = cursor ▸ roll ▸ end in Alone (λ r. Next2 κs g r g) (next2_answer cursor roll.now)
next2-only κs cursor roll = alone (λ r p. p)

module _ (κs : Lfts 2) (roll : Shown ℕ) (out : Lent ℕ) (start : ℕ) where
  pub to-form2-only :
      Alone {A = xew_moved × List ℕ} (λ x. ToForm2 κs (roll ▸ out ▸ start ▸ end) x.0 (roll ▸ out then x.1 ▸ start ▸ end))
      (host_moved (moved_of in_form2 (roll_at roll.now) out.now start), out_of in_form2 (roll_at roll.now) out.now start)
  to-form2-only = alone (λ x p i. (p.answer i, p.out i))

  pub to-form1-only :
      Alone {A = xew_moved × List ℕ} (λ x. ToForm1 κs (roll ▸ out ▸ start ▸ end) x.0 (roll ▸ out then x.1 ▸ start ▸ end))
      (host_moved (moved_of in_form1 (roll_at2 roll.now) out.now start), out_of in_form1 (roll_at2 roll.now) out.now start)
  to-form1-only = alone (λ x p i. (p.answer i, p.out i))

  pub export-only :
      Alone {A = xew_text × List ℕ} (λ x. Export κs (roll ▸ out ▸ start ▸ end) x.0 (roll ▸ out then x.1 ▸ start ▸ end)) (host_text (export_of roll.now out.now start), export_out roll.now out.now start)
  export-only = alone (λ x p i. (p.answer i, p.out i))

  pub import-only :
      Alone {A = xew_imported × List ℕ} (λ x. Import κs (roll ▸ out ▸ start ▸ end) x.0 (roll ▸ out then x.1 ▸ start ▸ end)) (host_imported (imported_of roll.now out.now start), imported_out roll.now out.now start)
  import-only = alone (λ x p i. (p.answer i, p.out i))

pub salvage-only : (κs : Lfts 2) (roll : Shown ℕ) (out : Lent ℕ) (start : ℕ) →
    Alone {A = xew_salvaged × List ℕ} (λ x. Salvage κs (roll ▸ out ▸ start ▸ end) x.0 (roll ▸ out then x.1 ▸ start ▸ end))
    (host_salvaged (salvaged_of roll.now out.now start), salvage_out roll.now out.now start)
salvage-only κs roll out start = alone (λ x p i. (p.answer i, p.out i))

module _ (κs : Lfts 2) (left right : Shown ℕ) where
  pub compare-only : let g = left ▸ right ▸ end in Alone (λ r. Compare κs g r g) (compare_answer left.now right.now)
  compare-only = alone (λ r p. p)

  pub compare-next-only : (cursor : xew_pair) → let g = cursor ▸ left ▸ right ▸ end in Alone (λ r. CompareNext κs g r g) (compare_next_answer cursor left.now right.now)
  compare-next-only cursor = alone (λ r p. p)

pub scale-total-only : (κs : Lfts 1) (kind : ℕ) (orders : Shown ℕ) → let g = kind ▸ orders ▸ end in Alone (λ r. ScaleTotal κs g r g) (scale_total_answer kind orders.now)
scale-total-only κs kind orders = alone (λ r p. p)

pub roll-total-only : (κs : Lfts 1) (roll : Shown ℕ) → let g = roll ▸ end in Alone (λ r. RollTotal κs g r g) (roll_total_answer roll.now)
roll-total-only κs roll = alone (λ r p. p)

pub prefactors-only : (kind : ℕ) (a b c d : Centre) → let g = kind ▸ a ▸ b ▸ c ▸ d ▸ end in Alone (λ r. Prefactors tt g r g) (prefactors_answer kind a b c d)
prefactors-only kind a b c d = alone (λ r p. p)

pub root-only : (x : Float) → let g = x ▸ end in Alone (λ r. Root tt g r g) (root_answer x)
root-only x = alone (λ r p. p)

pub evaluate-only : (κs : Lfts 2) (roll : Shown ℕ) (a b c d : Centre) (aux : Float) (boys : Shown Float) →
    let g = roll ▸ a ▸ b ▸ c ▸ d ▸ aux ▸ boys ▸ end in Alone (λ r. Evaluate κs g r g) (evaluate_answer roll.now a b c d aux boys.now)
evaluate-only κs roll a b c d aux boys = alone (λ r p. p)

pub nuclear-only : (κs : Lfts 2) (roll : Shown ℕ) (a b : Centre) (nuclei : Nuclei) (aux : Float) (boys : Shown Float) →
    let g = roll ▸ a ▸ b ▸ nuclei ▸ aux ▸ boys ▸ end in Alone (λ r. Nuclear κs g r g) (nuclear_answer roll.now a b nuclei aux boys.now)
nuclear-only κs roll a b nuclei aux boys = alone (λ r p. p)

pub contracted-only : (κs : Lfts 2) (roll : Shown ℕ) (left right : Contracted) (host : Shown Float) →
    let g = roll ▸ left ▸ right ▸ host ▸ end in Alone (λ r. ContractedElement κs g r g) (contracted_answer roll.now left right host.now)
contracted-only κs roll left right host = alone (λ r p. p)

pub evaluate-grouped-only : (κs : Lfts 3) (roll : Shown ℕ) (a b c d : Centre) (aux : Float) (boys : Shown Float) (buffer : Lent ℕ) →
    Alone {A = xew_value × List ℕ} (λ x. EvaluateGrouped κs (roll ▸ a ▸ b ▸ c ▸ d ▸ aux ▸ boys ▸ buffer ▸ end) x.0 (roll ▸ a ▸ b ▸ c ▸ d ▸ aux ▸ boys ▸ buffer then x.1 ▸ end))
    (host_value (grouped_of_roll (roll_at roll.now) (length buffer.now) a b c d aux boys.now), buffer_of (roll_at roll.now) buffer.now)
evaluate-grouped-only κs roll a b c d aux boys buffer = alone (λ x p i. (p.answer i, p.buffer i))

pub grouped-term-only : (κs : Lfts 1) (grouping : Shown ℕ) (l terms number : ℕ) → let g = grouping ▸ l ▸ terms ▸ number ▸ end in Alone (λ r. GroupedTerm κs g r g) (grouped_term_answer grouping.now l terms number)
grouped-term-only κs grouping l terms number = alone (λ r p. p)

module _ (κs : Lfts 4) (n : ℕ) (i d : Shown Float) (j k : Lent Float) where
  pub jk-only :
      Alone {A = ℕ × List Float × List Float} (λ x. Jk κs (n ▸ i ▸ d ▸ j ▸ k ▸ end) x.0 (n ▸ i ▸ d ▸ j then x.1 ▸ k then x.2 ▸ end))
      (host_refusal (jk_of n i.now d.now j.now k.now).answer, (jk_of n i.now d.now j.now k.now).j, (jk_of n i.now d.now j.now k.now).k)
  jk-only = alone (λ x p t. (p.answer t, p.j t, p.k t))
