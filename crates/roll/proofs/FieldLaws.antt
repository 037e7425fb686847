-- A number within its limits: a law for each way out of `within`, and what its answers say.
use Prim.Native.Nat.{ℕ, ◌+◌, ◌≤◌, ◌<◌}
use mathlib.Core.Path.{◌≡◌, refl, sym, ap, ◌∙◌}
use mathlib.Core.Bool.{Bool, true, false, true≢false, cond, ◌||◌}
use mathlib.Core.List.{List}
use native.Mathlib.Omega.{arith}
use borrow.Author.Tests.{lt-ltb, le-ltb, ltb-true, ltb-false, leb-true}
use lib.Dec.{ltb, leb}
use lib.ListN.{length, get_or}
use Rattle.laws.proofs.Cases.{clash, or-false-both}
use Rattle.laws.proofs.Pairs.{ok-both}
use Rattle.number.specs.declared.Unread.{Unread}
use Rattle.std.specs.Prelude.{Err}
use Rattle.kind.specs.declared.refusals.Fault.{Fault}
use Rattle.roll.specs.Field.{fault}
use Rattle.number.specs.Read.{Number}
use Rattle.number.specs.Read as number
use Rattle.number.specs.Numbers.{one_byte, read_at, refusal_of}
use Rattle.number.proofs.Reading.{read_one}
use Rattle.roll.specs.Field.{Field}
use Rattle.roll.specs.Field as field
use Rattle.roll.specs.Reading.{wrong_place, opened, within_at}
use Rattle.roll.specs.inner.Over.{Quick}
use Rattle.kind.specs.declared.refusals.Refusal.TheVariants.{BadRoll}

pub within-unread : (s : List ℕ) (at low high : ℕ) (q : Number) (f : Fault) → q ≡ read_at s at → ((n next : ℕ) → q ≡ number.Is n next → ⊥) → ((why : Unread) → q ≡ Err why → f ≡ fault (refusal_of why) at) → Err f ≡ within_at s at low high
unfolding within_at
within-unread s at low high q f is none because = by q refl ∙ ap (λ (q : Number). opened q at low high) is
  where
    by : (p : Number) → q ≡ p → Err f ≡ opened p at low high
    by (number.Is n next) e = absurd (none n next e)
    by (Err why) e = let same = because why e in rw same

pub within_low : (s : List ℕ) (at low high : ℕ) (q : Number) (n next : ℕ) → q ≡ read_at s at → q ≡ number.Is n next → n < low → field.Refused BadRoll (wrong_place at next) ≡ within_at s at low high
unfolding within_at
within_low s at low high q n next is e below = rw (sym is ∙ e) (simp (lt-ltb n low below))

pub within-high : (s : List ℕ) (at low high : ℕ) (q : Number) (n next : ℕ) → q ≡ read_at s at → q ≡ number.Is n next → low ≤ n → high < n → field.Refused BadRoll (wrong_place at next) ≡ within_at s at low high
unfolding within_at
within-high s at low high q n next is e above beyond = rw (sym is ∙ e) (simp (le-ltb n low above, lt-ltb high n beyond))

pub within-is : (s : List ℕ) (at low high : ℕ) (q : Number) (n next : ℕ) → q ≡ read_at s at → q ≡ number.Is n next → low ≤ n → n ≤ high → field.Is n next ≡ within_at s at low high
unfolding within_at
within-is s at low high q n next is e above below = rw (sym is ∙ e) (simp (le-ltb n low above, le-ltb high n below))

-- ---- a number of one byte

pub quick-not : (s : List ℕ) (at low high : ℕ) → false ≡ true → Quick s at low high
quick-not s at low high e = absurd (true≢false (sym e))

pub quick-is : (s : List ℕ) (at low high b : ℕ) (t : Bool) → at < length s → b ≡ get_or s at 0 → t ≡ one_byte b → t ≡ true → low ≤ b → leb b high ≡ true → Quick s at low high
quick-is s at low high b t inside is test small above below =
    let most = leb-true b high below in
    record { inside = inside; in_one_byte = ap one_byte (sym is) ∙ sym test ∙ small; above = rw (← is) above; below = rw (← is) most }

pub quick-given : (s : List ℕ) (at low high : ℕ) (t : Bool) → (t ≡ true → Quick s at low high) → t ≡ true → Quick s at low high
quick-given s at low high t is e = is e

pub quick-read : (s : List ℕ) (at low high b : ℕ) → Quick s at low high → b ≡ get_or s at 0 → field.Is b (at + 1) ≡ within_at s at low high
quick-read s at low high b q is =
    ap (λ (n : ℕ). field.Is n (at + 1)) is
    ∙ within-is s at low high (read_at s at) (get_or s at 0) (at + 1) refl (sym (read_one s at (get_or s at 0) q.inside refl (ltb-true (get_or s at 0) 128 q.in_one_byte))) q.above q.below

-- a number that was taken keeps its limits, and stands there
pub record Taken (s : List ℕ) (at low high n next : ℕ) : Type 0 where
  pub above : low ≤ n
  pub below : n ≤ high
  pub read : read_at s at ≡ number.Is n next

opened-is : (at low high n next : ℕ) (q : Number) → opened q at low high ≡ field.Is n next → (low ≤ n) × (n ≤ high) × (q ≡ number.Is n next)
opened-is at low high n next (number.Is m k) e = by (ltb m low || ltb high m) refl e
  where
    by : (b : Bool) → (ltb m low || ltb high m) ≡ b → cond b (field.Refused BadRoll (wrong_place at k)) (field.Is m k) ≡ field.Is n next → (low ≤ n) × (n ≤ high) × (number.Is m k ≡ number.Is n next)
    by true t e = absurd (clash (cc))
    by false f e =
        let no = or-false-both (ltb m low) (ltb high m) f in
        let both = ok-both e in
        (omega (arith, ltb-false m low no.0, both.0), omega (arith, ltb-false high m no.1, both.0), cc)
opened-is at low high n next (Err why) e = absurd (clash (cc))

pub taken : (s : List ℕ) (at low high : ℕ) (x : Field) (n next : ℕ) → x ≡ within_at s at low high → x ≡ field.Is n next → Taken s at low high n next
unfolding within_at
taken s at low high x n next is e =
    let w = opened-is at low high n next (read_at s at) (sym is ∙ e) in
    record { above = w.0; below = w.1; read = w.2 }

pub taken-below : (s : List ℕ) (at low high : ℕ) (x : Field) (n next : ℕ) → x ≡ within_at s at low high → x ≡ field.Is n next → n ≤ high
taken-below s at low high x n next is e = (taken s at low high x n next is e).below
