-- What an answer that is a pair says of its parts.
use mathlib.Core.Path.{◌≡◌, ap}
use Rattle.std.specs.Prelude.{Result, Ok, Option, Some}

ok_is : {A E : Type 0} (x y : A) → ◌≡◌ {A = Result A E} (Ok x) (Ok y) → x ≡ y
ok_is x y e = cc

some_is : {A : Type 0} (x y : A) → ◌≡◌ {A = Option A} (Some x) (Some y) → x ≡ y
some_is x y e = cc

pub ok-both : {A B E : Type 0} {a c : A} {b d : B} → ◌≡◌ {A = Result (A × B) E} (Ok (a, b)) (Ok (c, d)) → (a ≡ c) × (b ≡ d)
ok-both {A} {B} {E} {a} {c} {b} {d} e =
    let pair : ◌≡◌ {A = A × B} (a, b) (c, d) = ok_is (a, b) (c, d) e in
    (ap (λ (p : A × B). p.0) pair, ap (λ (p : A × B). p.1) pair)

pub some-both : {A B : Type 0} {a c : A} {b d : B} → ◌≡◌ {A = Option (A × B)} (Some (a, b)) (Some (c, d)) → (a ≡ c) × (b ≡ d)
some-both {A} {B} {a} {c} {b} {d} e =
    let pair : ◌≡◌ {A = A × B} (a, b) (c, d) = some_is (a, b) (c, d) e in
    (ap (λ (p : A × B). p.0) pair, ap (λ (p : A × B). p.1) pair)
