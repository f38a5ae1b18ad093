use Rattle.merge_rules.proofs.Widening.{merge_widens}
use Rattle.merge_rules.proofs.merge_widens.Goals as goal

pub returns : goal.returns
returns c = merge_widens
