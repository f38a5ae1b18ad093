use Rattle.disjoint_set.proofs.Finds.{find_hangs}
use Rattle.disjoint_set.proofs.find_hangs_stands.Goals as goal

pub returns : goal.returns
returns c = find_hangs
