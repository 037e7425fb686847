-- Inside the crate: a first line's kind, L and term count, or numbers that are wrong.
use Rattle.std.specs.Prelude.{ℕ, Option, Some, None}
use Rattle.kind.specs.declared.Kind.{Kind}
use Rattle.importing.specs.declared.numerals.Head.{Head}

abbrev pub FirstLine : Type 0
FirstLine = Option Head

abbrev pub Is : Kind → ℕ → ℕ → FirstLine
Is kind l terms = Some (record { kind = kind; l = l; terms = terms })

pattern abbrev pub Wrong : FirstLine
Wrong = None
