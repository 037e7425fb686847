-- The calls of 02, Q-13: the promises from the answers below.
use Prim.Native.Nat.{ℕ}
use mathlib.Core.Path.{◌≡◌, ap, ◌∙◌}
use mathlib.Core.List.{List}
use Rattle.std.specs.Prelude.{Result}
use Rattle.kind.specs.declared.refusals.Refusal.{Refusal}
use Rattle.kind.specs.declared.refusals.Fault.{Fault}
use Rattle.expansion.specs.declared.Expanded.{Expanded}
use Rattle.roll.specs.declared.header.Opened.{Opened}
use Rattle.confirming.specs.Confirm.{confirm_of}
use Rattle.small.specs.Check.{small_check_of}
use Rattle.small.specs.Expand.{SmallExpandTold}
use Rattle.xewumbal.specs.declared.xew_written.{xew_written}
use Rattle.xewumbal.specs.declared.xew_opened.{xew_opened}
use Rattle.xewumbal.specs.Answers.{host_expanded, host_opened}
use Rattle.xewumbal.specs.Small.{confirm_answer, small_check_answer, SmallExpandCallTold}

pub confirm-answered : (roll : List ℕ) (o : Result Opened Fault) (x : xew_opened) → o ≡ confirm_of roll → x ≡ host_opened o → x ≡ confirm_answer roll
unfolding confirm_answer
confirm-answered roll o x told is = is ∙ ap host_opened told

pub small-check-answered : (roll : List ℕ) (o : Result Opened Fault) (x : xew_opened) → o ≡ small_check_of roll → x ≡ host_opened o → x ≡ small_check_answer roll
unfolding small_check_answer
small-check-answered roll o x told is = is ∙ ap host_opened told

pub small-expand-answered : (kind : ℕ) (orders before : List ℕ) (start : ℕ) (e : Result Expanded Refusal) (after : List ℕ) (x : xew_written) → SmallExpandTold kind orders before start e after → x ≡ host_expanded e → SmallExpandCallTold kind orders before start x after
small-expand-answered kind orders before start e after x told is = record { answer = is ∙ ap host_expanded told.answer; out = told.out }
