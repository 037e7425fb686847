-- `text::decimal` meets its contract: a decimal is the digits of its number, as many as it has places. Assumes nothing.
use Rattle.text.proofs.Digits.{wrote-decimal}
use Rattle.text.proofs.decimal.Goals as goal

pub returns : goal.returns
returns c = search wrote-decimal
