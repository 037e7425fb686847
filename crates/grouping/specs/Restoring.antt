-- 02, Q-9: "Each grouped entry keeps its number, so that history order can be restored": the term with a number, told from a grouping that may be anything.
-- Of a grouping that is none, the first fault in reading order is told.
use Rattle.std.specs.Prelude.{ℕ, zero, suc, Bool, cond, is_some, ◌&&◌, ◌||◌, List, ltb, leb, eqb, Option, Some, None, Result, Ok, Err}
use Rattle.laws.specs.Unless.{unless}
use Rattle.kind.specs.Kinds.{most_l}
use Rattle.kind.specs.declared.Kind.TheVariants.{Coulomb}
use Rattle.kind.specs.declared.refusals.Refusal.{Refusal}
use Rattle.kind.specs.declared.refusals.Refusal.TheVariants.{BadRoll, ComponentNumber}
use Rattle.kind.specs.declared.refusals.Fault.{Fault}
use Rattle.term.specs.declared.Term.{Term as Held}
use Rattle.term.specs.Terms.{held}
use Rattle.roll.specs.Field.{fault}
use Rattle.roll.specs.Reading.{Reading, got, refused, onward, and_then, within_at, term_at}
use Rattle.grouping.specs.declared.restoring.Passed.{Passed}
use Rattle.grouping.specs.Grouping.{Entry}

-- the term with a number, or why there is none, with its place
abbrev pub Restored : Type 0
Restored = Result Held Fault

abbrev pub refused_term : Refusal → ℕ → Restored
refused_term r place = Err (fault r place)

-- ---- an entry

-- its number, from 1 to the number of terms, then a Coulomb term as a roll has it
unfoldable pub entry_at : List ℕ → ℕ → ℕ → ℕ → Reading Entry
entry_at b l terms at =
    onward (within_at b at 1 terms) (λ number next.
    and_then (term_at b next Coulomb l) (λ t end.
    got (record { number = number; term = t }) end))

-- ---- what the entries so far leave

-- the first entry follows Boys order 0 and number 0; the number asked has not come up
abbrev pub none_passed : Passed
none_passed = record { boys = 0; number = 0; found = None }

-- the last one's Boys order and number, and the term with the number asked
abbrev pub passed_on : Passed → ℕ → ℕ → Held → Passed
passed_on p asked number t = record { boys = t.boys; number = number; found = cond (eqb number asked) (Some t) p.found }

-- an entry stands behind the one before: its Boys order is higher, or the same and its number higher
abbrev pub behind : Passed → ℕ → ℕ → Bool
behind p number boys = ltb p.boys boys || (eqb p.boys boys && ltb p.number number)

-- a second entry with the number asked
abbrev pub is_second : Passed → ℕ → ℕ → Bool
is_second p asked number = is_some p.found && eqb number asked

-- both are 7 where the entry begins
abbrev pub standing : Passed → ℕ → ℕ → Entry → ℕ → Reading Entry
standing p asked at e end = cond (behind p e.number e.term.boys) (cond (is_second p asked e.number) (refused BadRoll at) (got e end)) (refused BadRoll at)

unfoldable pub next_at : List ℕ → ℕ → ℕ → ℕ → Passed → ℕ → Reading Entry
next_at b l terms asked p at = and_then (entry_at b l terms at) (λ e end. standing p asked at e end)

-- ---- the entries one after the other

abbrev pub on_entry : Reading Entry → (Entry → ℕ → Restored) → Restored
on_entry (got e next) rest = rest e next
on_entry (refused r place) rest = refused_term r place

-- after all entries the term with the number asked; where none had it, 7 at the place after the last. What follows is not looked at
abbrev pub found_or : Option Held → ℕ → Restored
found_or (Some t) at = Ok t
found_or None at = refused_term BadRoll at

abbrev pub ended : Passed → ℕ → Restored
ended p at = found_or p.found at

unfoldable pub restored_from : List ℕ → ℕ → ℕ → ℕ → Passed → ℕ → ℕ → Restored
restored_from b l terms asked p at zero = ended p at
restored_from b l terms asked p at (suc left) = on_entry (next_at b l terms asked p at) (λ e next. restored_from b l terms asked (passed_on p asked e.number (held e.term)) next left)

-- 7 at 0 for L above Coulomb's, then 13 for a number that is not from 1 to the number of terms; then so many entries are read from place 0 on (D-98)
unfoldable pub restored_of : List ℕ → ℕ → ℕ → ℕ → Restored
restored_of b l terms number =
    unless (leb l (most_l Coulomb)) (refused_term BadRoll 0)
    (unless (leb 1 number && leb number terms) (refused_term ComponentNumber 0)
    (restored_from b l terms number none_passed 0 terms))
