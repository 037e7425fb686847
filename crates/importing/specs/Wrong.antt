-- 02, Q-14: what 21 and 22 say with their line: every line before it is in order, and it is the first that isn't. In the export's lines, by a definition of its own;
-- proofs/WrongLines shows that the import's refusals mean this.
use Rattle.std.specs.Prelude.{ℕ, ◌+◌, ◌-◌, ◌≤◌, ◌<◌, ◌≡◌, Bool, true, List, [], ◌++◌, ◌⊎◌, length}
use Rattle.laws.specs.Total.{total}
use Rattle.kind.specs.Limits.{most_terms}
use Rattle.kind.specs.Kinds.{orders_of}
use Rattle.kind.specs.declared.Kind.{Kind}
use Rattle.term.specs.Terms.{Term}
use Rattle.roll.specs.Reading.{Header}
use Rattle.roll.specs.Fits.{CentresFit, TermFits, TermsFit}
use Rattle.exporting.specs.Text.{line_of, head_numbers, term_numbers, term_lines}
use Rattle.importing.specs.Import.{first_count, other_count}
use Rattle.kind.specs.declared.refusals.Refusal.{Refusal}
use Rattle.kind.specs.declared.refusals.Refusal.TheVariants.{LineShape, LineNumbers}

-- a text begins with a line as the export writes it, of a count of numbers that is right
pub record Begins (right : ℕ → Bool) (s ns rest : List ℕ) : Type 0 where
  pub shaped : right (length ns) ≡ true
  pub text : s ≡ line_of ns ++ rest

-- it begins with none
abbrev pub NoLine : (ℕ → Bool) → List ℕ → Type 0
NoLine right s = (ns rest : List ℕ) → Begins right s ns rest → ⊥

-- ---- the first line

-- kind, orders and term count that keep the reader's limits
pub record HeadFits (h : Header) : Type 0 where
  pub places : length h.orders ≡ orders_of h.kind
  pub sums : CentresFit h.orders
  pub some : 1 ≤ h.terms
  pub most : h.terms ≤ most_terms

-- a line of the shape whose numbers are of no such kind, orders and count
pub record WrongHead (s : List ℕ) : Type 0 where
  pub ns : List ℕ
  pub rest : List ℕ
  pub begins : Begins first_count s ns rest
  pub none : (h : Header) → HeadFits h → ns ≡ head_numbers h.kind h.orders h.terms → ⊥

abbrev pub WrongFirst : List ℕ → Refusal → Type 0
WrongFirst s r = ((r ≡ LineShape) × NoLine first_count s) ⊎ ((r ≡ LineNumbers) × WrongHead s)

-- ---- any other line, where so many terms are left

-- a text that goes on with no line of the shape
pub record Unshaped (s : List ℕ) : Type 0 where
  pub more : s ≡ [] → ⊥
  pub none : NoLine other_count s

-- a text that ends before its terms do
pub record Missing (left : ℕ) (s : List ℕ) : Type 0 where
  pub ends : s ≡ []
  pub some : 0 < left

-- a line of the shape that is none of a term that keeps the limits and is left
pub record WrongTerm (k : Kind) (l left : ℕ) (s : List ℕ) : Type 0 where
  pub ns : List ℕ
  pub rest : List ℕ
  pub begins : Begins other_count s ns rest
  pub none : (t : Term) → TermFits k l t → ns ≡ term_numbers t → 0 < left → ⊥

abbrev pub WrongOther : Kind → ℕ → ℕ → List ℕ → Refusal → Type 0
WrongOther k l left s r = ((r ≡ LineShape) × Unshaped s) ⊎ ((r ≡ LineNumbers) × (Missing left s ⊎ WrongTerm k l left s))

-- line n is wrong, and those before it are the first line of a roll and lines of its terms, all of which keep the limits
pub record WrongLater (s : List ℕ) (r : Refusal) (n : ℕ) : Type 0 where
  pub h : Header
  pub ts : List Term
  pub rest : List ℕ
  pub head : HeadFits h
  pub terms : TermsFit h.kind (total h.orders) ts
  pub before : length ts + 2 ≡ n
  pub few : length ts ≤ h.terms
  pub text : s ≡ line_of (head_numbers h.kind h.orders h.terms) ++ (term_lines ts ++ rest)
  pub wrong : WrongOther h.kind (total h.orders) (h.terms - length ts) rest r

-- a refusal r at line n
abbrev pub FirstWrong : List ℕ → Refusal → ℕ → Type 0
FirstWrong s r n = ((n ≡ 1) × WrongFirst s r) ⊎ WrongLater s r n
