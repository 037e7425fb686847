-- 01: a refusal changes no lent byte.
use Prim.Native.Nat.{ℕ, ◌<◌}
use mathlib.Core.Path.{◌≡◌, refl, ◌∙◌}
use mathlib.Core.List.{List}
use Rattle.roll.specs.Reading.{Reading, got, refused, Roll, roll_at}
use Rattle.listing.specs.Listed.{Listed}
use Rattle.roll.specs.Header.{refusal_of}
use Rattle.listing.proofs.Unchanged.{placed-kept}
use Rattle.exporting.specs.Text.{text_of}
use Rattle.exporting.specs.Export.{read_answer, read_out, export_of, export_out, ExportTold}

read_kept : (x : Reading Roll) (out : List ℕ) (start : ℕ) → 0 < refusal_of (read_answer x out start) → read_out x out start ≡ out
read_kept (got r end) out start some = placed-kept (text_of r) out start some
read_kept (refused n place) out start some = refl

pub refused-kept : (roll before : List ℕ) (start : ℕ) (r : Listed) (after : List ℕ) → ExportTold roll before start r after → 0 < refusal_of r → after ≡ before
unfolding export_of export_out
refused-kept roll before start r after told some = told.out ∙ read_kept (roll_at roll) before start (rw told.answer at some)
