-- The calls of 02, Q-14: the promises from the answers below.
use Prim.Native.Nat.{ℕ}
use mathlib.Core.Path.{◌≡◌, ap, ◌∙◌}
use mathlib.Core.List.{List}
use Rattle.std.specs.Prelude.{Result}
use Rattle.kind.specs.declared.refusals.Fault.{Fault}
use Rattle.exporting.specs.Export.{ExportTold}
use Rattle.importing.specs.declared.Imported.{Imported}
use Rattle.importing.specs.declared.ImportFault.{ImportFault}
use Rattle.importing.specs.Import.{ImportTold}
use Rattle.xewumbal.specs.declared.xew_text.{xew_text}
use Rattle.xewumbal.specs.declared.xew_imported.{xew_imported}
use Rattle.xewumbal.specs.Commas.{host_text, ExportCallTold, host_imported, ImportCallTold}

pub export-answered : (roll before : List ℕ) (start : ℕ) (l : Result ℕ Fault) (after : List ℕ) (x : xew_text) → ExportTold roll before start l after → x ≡ host_text l → ExportCallTold roll before start x after
export-answered roll before start l after x told is = record { answer = is ∙ ap host_text told.answer; out = told.out }

pub import-answered : (text before : List ℕ) (start : ℕ) (i : Result Imported ImportFault) (after : List ℕ) (x : xew_imported) → ImportTold text before start i after → x ≡ host_imported i → ImportCallTold text before start x after
import-answered text before start i after x told is = record { answer = is ∙ ap host_imported told.answer; out = told.out }
