-- The pieces of a line, said in their order, are the line.
use Prim.Native.Nat.{ℕ, ◌-◌}
use native.Mathlib.Omega.{arith}
use mathlib.Core.Path.{◌≡◌, refl, ap, sym, ◌∙◌}
use mathlib.Core.List.{List, [], ◌∷◌, ◌++◌, append-nil, append_assoc}
use lib.ListN.{take, drop}
use Rattle.kind.specs.declared.Kind.{Kind}
use Rattle.kind.specs.Kinds.{number_of}
use Rattle.text.specs.Digits.{decimal_of}
use Rattle.saying.specs.Said.{Said, each_after}
use Rattle.saying.proofs.SaidLaws.{said-both}
use Rattle.listing.specs.Text.{feed}
use Rattle.exporting.specs.Text.{comma, after_commas, line_of, head_numbers}
use Rattle.std.specs.Prelude.{Option, Some}

-- ---- numbers after commas

pub each-commas : (ns : List ℕ) → after_commas ns ≡ each_after comma ns
unfolding after_commas each_after
each-commas [] = refl
each-commas (n ∷ ns) = ap ((comma ++ decimal_of n) ++◌) (each-commas ns)

-- one number more, behind the others
pub commas-last : (ns : List ℕ) (n : ℕ) → after_commas (ns ++ (n ∷ [])) ≡ after_commas ns ++ (comma ++ decimal_of n)
unfolding after_commas
commas-last [] n = append-nil (comma ++ decimal_of n)
commas-last (m ∷ ns) n =
    ap ((comma ++ decimal_of m) ++◌) (commas-last ns n) ∙ sym (append_assoc (comma ++ decimal_of m) (after_commas ns) (comma ++ decimal_of n))

-- ---- the lines

regroup : (d b e f : List ℕ) → d ++ ((b ++ e) ++ f) ≡ (d ++ b) ++ (e ++ f)
regroup d b e f = ap (d ++◌) (append_assoc b e f) ∙ sym (append_assoc d b (e ++ f))

pub kind-said : (room : ℕ) (k : Kind) (orders : List ℕ) (n : ℕ) (a b c : List ℕ) (p q : Option ℕ) → n ≡ number_of k → Said room a (Some 0) (decimal_of n) p b → Said room b p (each_after comma orders) q c → Said room a (Some 0) (decimal_of (number_of k) ++ after_commas orders) q c
kind-said room k orders n a b c p q is one two = rw (← is, each-commas orders) (said-both one two)

head-pieces : (k : Kind) (orders : List ℕ) (terms : ℕ) → line_of (head_numbers k orders terms) ≡ (decimal_of (number_of k) ++ after_commas orders) ++ ((comma ++ decimal_of terms) ++ feed)
unfolding line_of
head-pieces k orders terms = rw (commas-last orders terms) (regroup (decimal_of (number_of k)) (after_commas orders) (comma ++ decimal_of terms) feed)

pub head-said : (room : ℕ) (k : Kind) (orders : List ℕ) (terms : ℕ) (a b c d : List ℕ) (p q r : Option ℕ) → Said room a (Some 0) (decimal_of (number_of k) ++ after_commas orders) p b → Said room b p (comma ++ decimal_of terms) q c → Said room c q feed r d → Said room a (Some 0) (line_of (head_numbers k orders terms)) r d
head-said room k orders terms a b c d p q r one two three = rw (head-pieces k orders terms) (said-both one (said-both two three))

pub front-said : (room scale boys : ℕ) (a b c : List ℕ) (w p q : Option ℕ) → Said room a w (decimal_of scale) p b → Said room b p (comma ++ decimal_of boys) q c → Said room a w (decimal_of scale ++ (comma ++ decimal_of boys)) q c
front-said room scale boys a b c w p q one two = said-both one two

line-pieces : (scale boys : ℕ) (ns : List ℕ) → line_of (scale ∷ boys ∷ ns) ≡ (decimal_of scale ++ (comma ++ decimal_of boys)) ++ (each_after comma ns ++ feed)
unfolding line_of after_commas
line-pieces scale boys ns =
    rw (each-commas ns) (regroup (decimal_of scale) (comma ++ decimal_of boys) (each_after comma ns) feed)

pub term-said : (room scale boys count : ℕ) (ps a b c d : List ℕ) (w p q r : Option ℕ) → Said room a w (decimal_of scale ++ (comma ++ decimal_of boys)) p b → Said room b p (each_after comma (take (count - 0) (drop 0 ps))) q c → Said room c q feed r d → Said room a w (line_of (scale ∷ boys ∷ take count ps)) r d
term-said room scale boys count ps a b c d w p q r one two three =
    let all : count - 0 ≡ count = omega arith in
    rw (line-pieces scale boys (take count ps)) (said-both one (said-both (rw all at two) three))
