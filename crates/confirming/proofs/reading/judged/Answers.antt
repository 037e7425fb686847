-- `judged` meets its contract: by the form.
use Rattle.confirming.proofs.QuickLaws.{judged-one, judged-two}
use Rattle.confirming.proofs.reading.judged.Goals as goal

pub returns-in-One : goal.returns-in-One
returns-in-One c = search judged-one

pub returns-in-Two : goal.returns-in-Two
returns-in-Two c = search judged-two
