-- A check in front of an answer.
use Rattle.std.specs.Prelude.{Bool, true, false}

-- the refusal, unless the check holds
unfoldable pub unless : {A : Type 0} → Bool → A → A → A
unless true refusal answer = answer
unless false refusal answer = refusal
