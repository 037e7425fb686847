-- What the calls of 02, Q-14 answer, field by field: xew_export and xew_import.
use Rattle.std.specs.Prelude.{ℕ, ◌≡◌, List, Result, Ok, Err}
use Rattle.kind.specs.declared.refusals.Fault.{Fault}
use Rattle.roll.specs.Header.{refusal_of, place_of}
use Rattle.exporting.specs.Export.{export_of, export_out}
use Rattle.importing.specs.declared.Imported.{Imported}
use Rattle.importing.specs.declared.ImportFault.{ImportFault}
use Rattle.importing.specs.Import.{imported_of, imported_out, refusal_of as import_refusal, line_number_of}
use Rattle.xewumbal.specs.declared.xew_text.{xew_text}
use Rattle.xewumbal.specs.declared.xew_imported.{xew_imported}

-- ---- xew_export: the text's length, and a refusal with its place

abbrev pub text_length : Result ℕ Fault → ℕ
text_length (Ok n) = n
text_length (Err f) = 0

abbrev pub host_text : Result ℕ Fault → xew_text
host_text t = record { length = text_length t; place = place_of t; refusal = refusal_of t }

pub record ExportCallTold (roll before : List ℕ) (start : ℕ) (r : xew_text) (after : List ℕ) : Type 0 where
  pub answer : r ≡ host_text (export_of roll before start)
  pub out : after ≡ export_out roll before start

-- ---- xew_import: the roll's length and its terms, and a refusal with its line

abbrev pub import_length : Result Imported ImportFault → ℕ
import_length (Ok i) = i.length
import_length (Err f) = 0

abbrev pub import_terms : Result Imported ImportFault → ℕ
import_terms (Ok i) = i.terms
import_terms (Err f) = 0

abbrev pub host_imported : Result Imported ImportFault → xew_imported
host_imported i = record { length = import_length i; line = line_number_of i; terms = import_terms i; refusal = import_refusal i }

pub record ImportCallTold (text before : List ℕ) (start : ℕ) (r : xew_imported) (after : List ℕ) : Type 0 where
  pub answer : r ≡ host_imported (imported_of text before start)
  pub out : after ≡ imported_out text before start
