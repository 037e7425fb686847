-- `in_words` meets its contract.
use Rattle.expansion.proofs.FurtherWords.{words-less, words_more}
use Rattle.expansion.proofs.further.in_words.Goals as goal

pub returns-then-few-many : goal.returns-then-few-many
returns-then-few-many c = search words-less

pub returns : goal.returns
returns c = search words_more
