-- A term: its scale, its Boys order and its prefactors in listed order.
use Rattle.std.specs.Prelude.{ℕ, ◌-◌, Bool, ◌&&◌, List, ◌++◌, eqb, length, replicate}
use Rattle.laws.specs.Same.{same_numbers}
use Rattle.kind.specs.Limits.{most_l·any}
use Rattle.term.specs.declared.Term.{Term as Held}

pub record Term : Type 0 where
  pub scale : ℕ
  pub boys : ℕ
  pub prefactors : List ℕ

-- two terms differ in scale, Boys order or prefactors
unfoldable pub same_term : Term → Term → Bool
same_term t u = eqb t.scale u.scale && (eqb t.boys u.boys && same_numbers t.prefactors u.prefactors)

-- a term as the code holds it: its prefactors beside their count, zeros after them (D-40)
abbrev pub held : Term → Held
held t = record { scale = t.scale; boys = t.boys; count = length t.prefactors; prefactors = t.prefactors ++ replicate (most_l·any - length t.prefactors) 0 }

-- the zeros beside a refusal
abbrev pub no_term : Held
no_term = record { scale = 0; boys = 0; count = 0; prefactors = replicate most_l·any 0 }
