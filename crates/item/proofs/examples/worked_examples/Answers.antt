use Rattle.item.proofs.Strips.{strips}
use Rattle.item.proofs.examples.worked_examples.Goals as goal

pub returns : goal.returns
returns c = strips _ _ c.in_ok-mark.ensures c.in_ok-line.ensures
