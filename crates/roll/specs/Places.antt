-- 01, "The roll": the place of refusal 7 (since 02, Q-5: and 14) is where the number that is missing, cut or wrong begins, or the first byte too many.
-- Said of the place alone, so that it can be held against the reading: everything before it is in order, and the fault begins there.
use Rattle.std.specs.Prelude.{ℕ, ◌≤◌, ◌<◌, ◌≡◌, List, ◌++◌, length, take}
use Rattle.kind.specs.declared.refusals.Refusal.{Refusal}
use Rattle.kind.specs.declared.refusals.Refusal.TheVariants.{CutRoll}
use Rattle.number.specs.Read as number
use Rattle.number.specs.Numbers.{read_at}
use Rattle.roll.specs.Reading.{got, refused, Roll, roll_at}

-- whole numbers, one after the other, lead from a place to another
pub data Leads (s : List ℕ) : ℕ → ℕ → Type 0 where
  here : {at : ℕ} → Leads s at at
  over : {at n next place : ℕ} → read_at s at ≡ number.Is n next → Leads s next place → Leads s at place

-- bytes that a roll begins with: others after them make a roll that reads
pub record InOrder (s : List ℕ) : Type 0 where
  pub rest : List ℕ
  pub roll : Roll
  pub end : ℕ
  pub reads : roll_at (s ++ rest) ≡ got roll end

-- where the number that is missing, cut or wrong begins
pub record WrongNumber (s : List ℕ) (refusal : Refusal) (place : ℕ) : Type 0 where
  pub inside : place ≤ length s
  -- a number begins there, and all before it is in order
  pub begins : Leads s 0 place
  pub before : InOrder (take place s)
  -- without it, it is missing there
  pub missing : roll_at (take place s) ≡ refused CutRoll place
  -- with it, the roll is refused there, whatever follows
  pub wrong : (rest : List ℕ) → read_at (take place s ++ rest) place ≡ read_at s place → roll_at (take place s ++ rest) ≡ refused refusal place

-- the first byte too many
pub record TooMany (s : List ℕ) (refusal : Refusal) (place : ℕ) : Type 0 where
  pub inside : place < length s
  pub begins : Leads s 0 place
  -- the bytes before it are a roll
  pub roll : Roll
  pub before : roll_at (take place s) ≡ got roll place
  -- whatever follows them is refused there
  pub wrong : (rest : List ℕ) → 0 < length rest → roll_at (take place s ++ rest) ≡ refused refusal place

pub data FaultAt (s : List ℕ) (refusal : Refusal) (place : ℕ) : Type 0 where
  number-there : WrongNumber s refusal place → FaultAt s refusal place
  byte-there : TooMany s refusal place → FaultAt s refusal place
