-- `numbers` meets its contract: the short way gives what the numbers are. Assumes nothing.
use borrow.Author.Rules.{rules}
use Rattle.form2.proofs.QuickLaws.{numbers-short}
use Rattle.form2.proofs.TermsLaws.{scale-read, scale-unread}
use Rattle.form2.proofs.judge.numbers.Goals as goal

pub returns-in_err-scale : goal.returns-in_err-scale
returns-in_err-scale c = search (rules, scale-unread)

pub returns-then-is_short : goal.returns-then-is_short
returns-then-is_short c = numbers-short _ _ _ _ _ c.requires _ _ c.most_boys-boys.ensures c.most_prefactors-most.ensures _ _ _ _ _ c.within.ensures c.in_ok-scale.was c.short_front.ensures c.is_short.ensures c.if-is_short.true

pub returns : goal.returns
returns c = search (rules, scale-read)
