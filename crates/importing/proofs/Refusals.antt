-- The pieces of a refusal's line, said in their order, are the line.
use Prim.Native.Nat.{ℕ}
use mathlib.Core.Path.{◌≡◌, refl, sym, ◌∙◌}
use mathlib.Core.Bool.{Bool, true, false}
use mathlib.Core.List.{List, ◌++◌}
use borrow.Author.Tests.{eq-eqb, ne_eqb}
use Rattle.text.specs.Digits.{decimal_of}
use Rattle.saying.specs.Said.{Said}
use Rattle.saying.proofs.SaidLaws.{said-both}
use Rattle.listing.specs.Text.{feed, refused_word}
use Rattle.importing.specs.Telling.{line_word, carries_line, refusal_text}
use Rattle.std.specs.Prelude.{Option, Some}

pub shape-carries : (refusal : ℕ) → refusal ≡ 21 → true ≡ carries_line refusal
unfolding carries_line
shape-carries refusal is = sym (rw (eq-eqb refusal 21 is) refl)

pub numbers-carry : (refusal : ℕ) → (refusal ≡ 21 → ⊥) → refusal ≡ 22 → true ≡ carries_line refusal
unfolding carries_line
numbers-carry refusal other is = sym (rw (ne_eqb refusal 21 other, eq-eqb refusal 22 is) refl)

pub none-carried : (refusal : ℕ) → (refusal ≡ 21 → ⊥) → (refusal ≡ 22 → ⊥) → false ≡ carries_line refusal
unfolding carries_line
none-carried refusal other not = sym (rw (ne_eqb refusal 21 other, ne_eqb refusal 22 not) refl)

pub refusal-numbered : (room refusal line : ℕ) (a b c d : List ℕ) (p q r : Option ℕ) (t : Bool) → t ≡ carries_line refusal → t ≡ true → Said room a (Some 0) (refused_word ++ decimal_of refusal) p b → Said room b p (line_word ++ decimal_of line) q c → Said room c q feed r d → Said room a (Some 0) (refusal_text refusal line) r d
unfolding refusal_text
refusal-numbered room refusal line a b c d p q r t is on one two three = rw (sym is ∙ on) (said-both one (said-both two three))

pub refusal-plain : (room refusal line : ℕ) (a b c : List ℕ) (p q : Option ℕ) (t : Bool) → t ≡ carries_line refusal → t ≡ false → Said room a (Some 0) (refused_word ++ decimal_of refusal) p b → Said room b p feed q c → Said room a (Some 0) (refusal_text refusal line) q c
unfolding refusal_text
refusal-plain room refusal line a b c p q t is off one two = rw (sym is ∙ off) (said-both one two)
