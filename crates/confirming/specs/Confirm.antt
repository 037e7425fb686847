-- 02, Q-13, of every kind and both forms: whether a roll is the expansion of its own request, byte for byte.
use Rattle.std.specs.Prelude.{ℕ, cond, List, Result}
use Rattle.laws.specs.Same.{same_numbers}
use Rattle.kind.specs.declared.refusals.Refusal.TheVariants.{TooManyTerms, NotTheExpansion}
use Rattle.kind.specs.declared.refusals.Fault.{Fault}
use Rattle.roll.specs.declared.header.Opened.{Opened}
use Rattle.roll.specs.Reading.{Reading, got, refused, Roll}
use Rattle.roll.specs.Header.{refused_opened, check_of}
use Rattle.form2.specs.Bytes.{shared}
use Rattle.form2.specs.Header.{judged2}
use Rattle.expansion.specs.Expanding.{too_many}
use Rattle.salvaging.specs.declared.forms.Form.{Form}
use Rattle.salvaging.specs.declared.forms.Form.TheVariants.{One, Two}
use Rattle.salvaging.specs.Salvage.{form_of, read_in, header_of, request_of, roll_in}

-- the header as the judge tells it
abbrev pub judged_in : Form → List ℕ → Result Opened Fault
judged_in One s = check_of s
judged_in Two s = judged2 s

-- ---- the roll of a roll's request: its kind, and its orders with zeros behind

abbrev pub fresh_of : Form → Roll → List ℕ
fresh_of f r = roll_in f r.kind (request_of (header_of r))

-- ---- the answer

-- of a roll that reads: 4 where its request has more histories than a list may have terms; "20 for a roll that reads but isn't the expansion, with the first differing byte's place"; else the header
unfoldable pub confirmed_roll : Form → List ℕ → Roll → Result Opened Fault
confirmed_roll f s r =
    cond (too_many r.kind (request_of (header_of r))) (refused_opened TooManyTerms 0)
    (cond (same_numbers s (fresh_of f r)) (judged_in f s)
    (refused_opened NotTheExpansion (shared s (fresh_of f r))))

-- a refusal of reading is told as it is, with its place: the whole roll is read before anything else is said of it (D-116)
abbrev pub confirmed_by : Form → List ℕ → Reading Roll → Result Opened Fault
confirmed_by f s (refused r place) = refused_opened r place
confirmed_by f s (got r end) = confirmed_roll f s r

-- in the form that the first byte tells
unfoldable pub confirm_of : List ℕ → Result Opened Fault
confirm_of s = confirmed_by (form_of s) s (read_in (form_of s) s)
