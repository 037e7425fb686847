-- `entry` meets its contract: lambda after lambda, each row by `add_row`. Assumes nothing.
use Prim.Native.Nat.{◌-◌}
use mathlib.Core.Path.{◌≡◌}
use Rattle.jk.specs.Sums.{over_lambda, entry_of, product}
use Rattle.jk.proofs.entry.Given as goal

abbrev pub invariant-loop-lambda : goal.invariant-loop-lambda
invariant-loop-lambda l = over_lambda (product l.m l.n l.i l.d l.mu l.nu) l.n (l.n - l.lambda) l.lambda l.sum ≡ entry_of l.m l.n l.i l.d l.mu l.nu
