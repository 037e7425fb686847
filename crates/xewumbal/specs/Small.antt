-- What the calls of 02, Q-13 answer, field by field: xew_confirm, and the small profile's xew_small_check and xew_small_expand.
use Rattle.std.specs.Prelude.{ℕ, ◌≡◌, List}
use Rattle.kind.specs.Kinds.{kind_of}
use Rattle.expansion.specs.Expanding.{named_out}
use Rattle.confirming.specs.Confirm.{confirm_of}
use Rattle.small.specs.Check.{small_check_of}
use Rattle.small.specs.Expand.{small_named}
use Rattle.xewumbal.specs.declared.xew_written.{xew_written}
use Rattle.xewumbal.specs.declared.xew_opened.{xew_opened}
use Rattle.xewumbal.specs.Answers.{host_expanded, host_opened}

-- ---- xew_confirm and xew_small_check: as xew_check

unfoldable pub confirm_answer : List ℕ → xew_opened
confirm_answer roll = host_opened (confirm_of roll)

unfoldable pub small_check_answer : List ℕ → xew_opened
small_check_answer roll = host_opened (small_check_of roll)

-- ---- xew_small_expand: as xew_expand

pub record SmallExpandCallTold (kind : ℕ) (orders before : List ℕ) (start : ℕ) (r : xew_written) (after : List ℕ) : Type 0 where
  pub answer : r ≡ host_expanded (small_named (kind_of kind) orders before start)
  pub out : after ≡ named_out (small_named (kind_of kind) orders before start) (kind_of kind) orders before start
