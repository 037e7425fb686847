-- What an answer of the import says of each part.
use Prim.Native.Nat.{ℕ}
use mathlib.Core.Path.{◌≡◌, ap}
use Rattle.std.specs.Prelude.{Ok, Err}
use Rattle.kind.specs.declared.refusals.Refusal.{Refusal}
use Rattle.importing.specs.declared.Imported.{Imported}
use Rattle.importing.specs.declared.ImportFault.{ImportFault}
use Rattle.importing.specs.Answer.{Answer}
use Rattle.importing.specs.Answer as imported

ok-is : (x y : Imported) → ◌≡◌ {A = Answer} (Ok x) (Ok y) → x ≡ y
ok-is x y e = cc

err-is : (x y : ImportFault) → ◌≡◌ {A = Answer} (Err x) (Err y) → x ≡ y
err-is x y e = cc

pub roll-both : {n m k l : ℕ} → imported.Roll n k ≡ imported.Roll m l → (n ≡ m) × (k ≡ l)
roll-both {n} {m} {k} {l} e =
    let same : record { length = n; terms = k } ≡ record { length = m; terms = l } = ok-is (record { length = n; terms = k }) (record { length = m; terms = l }) e in
    (ap (λ (i : Imported). i.length) same, ap (λ (i : Imported). i.terms) same)

pub refused-both : {q r : Refusal} {n m : ℕ} → imported.Refused q n ≡ imported.Refused r m → (q ≡ r) × (n ≡ m)
refused-both {q} {r} {n} {m} e =
    let same : record { refusal = q; line = n } ≡ record { refusal = r; line = m } = err-is (record { refusal = q; line = n }) (record { refusal = r; line = m }) e in
    (ap (λ (f : ImportFault). f.refusal) same, ap (λ (f : ImportFault). f.line) same)
