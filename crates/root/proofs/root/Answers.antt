-- `root` meets its contract: the definition's three cases. Assumes nothing.
use Rattle.root.proofs.Signs.{refused-below, rooted, refused-infinite}
use Rattle.root.proofs.root.Goals as goal

pub returns-then-not-finite : goal.returns-then-not-finite
returns-then-not-finite c = search refused-infinite

pub returns-then-x : goal.returns-then-x
returns-then-x c = search refused-below

pub returns : goal.returns
returns c = search rooted
