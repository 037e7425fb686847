-- The pieces of a line, said in their order, are the line.
use Prim.Native.Nat.{ℕ, ◌-◌}
use native.Mathlib.Omega.{arith}
use mathlib.Core.Path.{◌≡◌, refl, ap, sym, ◌∙◌}
use mathlib.Core.Bool.{Bool, true, false}
use mathlib.Core.List.{List, [], ◌∷◌, ◌++◌}
use lib.ListN.{take, drop}
use Rattle.kind.specs.declared.Kind.{Kind}
use Rattle.kind.specs.Kinds.{number_of}
use Rattle.term.specs.declared.Term.{Term as Held}
use Rattle.text.specs.Digits.{decimal_of}
use Rattle.roll.specs.inner.Held.{from_held}
use Rattle.saying.specs.Said.{Said, each_after}
use Rattle.saying.proofs.SaidLaws.{said-both}
use Rattle.listing.specs.Text.{blank, colon, feed, kind_word, orders_word, terms_word, refused_word, at_word, after_blanks, kind_text, head_line, term_numbers, term_line, carries_place, refusal_text}
use Rattle.std.specs.Prelude.{Option, Some}

-- ---- a row

pub each-blanks : (ns : List ℕ) → after_blanks ns ≡ each_after blank ns
unfolding after_blanks each_after
each-blanks [] = refl
each-blanks (n ∷ ns) = ap ((blank ++ decimal_of n) ++◌) (each-blanks ns)

-- ---- the lines

pub kind-said : (room : ℕ) (k : Kind) (orders : List ℕ) (n : ℕ) (a b c d : List ℕ) (p q r : Option ℕ) → n ≡ number_of k → Said room a (Some 0) (kind_word ++ decimal_of n) p b → Said room b p orders_word q c → Said room c q (each_after blank orders) r d → Said room a (Some 0) (kind_text k orders) r d
unfolding kind_text
kind-said room k orders n a b c d p q r is one two three = rw (← is, each-blanks orders) (said-both one (said-both two three))

pub head-said : (room : ℕ) (k : Kind) (orders : List ℕ) (terms : ℕ) (a b c d : List ℕ) (p q r : Option ℕ) → Said room a (Some 0) (kind_text k orders) p b → Said room b p (terms_word ++ decimal_of terms) q c → Said room c q feed r d → Said room a (Some 0) (head_line k orders terms) r d
unfolding head_line
head-said room k orders terms a b c d p q r one two three = said-both one (said-both two three)

pub numbers-said : (room number scale boys : ℕ) (a b c d e : List ℕ) (w p q r s : Option ℕ) → Said room a w (decimal_of number) p b → Said room b p (blank ++ decimal_of scale) q c → Said room c q (blank ++ decimal_of boys) r d → Said room d r colon s e → Said room a w (term_numbers number scale boys) s e
unfolding term_numbers
numbers-said room number scale boys a b c d e w p q r s one two three four = said-both one (said-both two (said-both three four))

pub term-said : (room number : ℕ) (t : Held) (a b c d : List ℕ) (w p q r : Option ℕ) → Said room a w (term_numbers number t.scale t.boys) p b → Said room b p (each_after blank (take (t.count - 0) (drop 0 t.prefactors))) q c → Said room c q feed r d → Said room a w (term_line number (from_held t)) r d
unfolding term_line
term-said room number t a b c d w p q r one two three =
    let all : t.count - 0 ≡ t.count = omega arith in
    rw (each-blanks (take t.count t.prefactors)) (said-both one (said-both (rw all at two) three))

-- ---- a refusal

pub refusal-placed : (room refusal place : ℕ) (a b c d : List ℕ) (p q r : Option ℕ) (t : Bool) → t ≡ carries_place refusal → t ≡ true → Said room a (Some 0) (refused_word ++ decimal_of refusal) p b → Said room b p (at_word ++ decimal_of place) q c → Said room c q feed r d → Said room a (Some 0) (refusal_text refusal place) r d
unfolding refusal_text
refusal-placed room refusal place a b c d p q r t is on one two three = rw (sym is ∙ on) (said-both one (said-both two three))

pub refusal-plain : (room refusal place : ℕ) (a b c : List ℕ) (p q : Option ℕ) (t : Bool) → t ≡ carries_place refusal → t ≡ false → Said room a (Some 0) (refused_word ++ decimal_of refusal) p b → Said room b p feed q c → Said room a (Some 0) (refusal_text refusal place) q c
unfolding refusal_text
refusal-plain room refusal place a b c p q t is off one two = rw (sym is ∙ off) (said-both one two)
