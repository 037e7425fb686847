-- `front` meets its contract: the scale, then the rest. Assumes nothing.
use borrow.Author.Rules.{rules}
use Rattle.form2.proofs.TermsLaws.{scale-read, scale-unread}
use Rattle.form2.proofs.terms.front.Goals as goal

pub returns-in_err-scale : goal.returns-in_err-scale
returns-in_err-scale c = search (rules, scale-unread)

pub returns : goal.returns
returns c = search (rules, scale-read)
