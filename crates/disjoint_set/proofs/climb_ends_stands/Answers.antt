use Rattle.disjoint_set.proofs.Climbs.{climb_ends}
use Rattle.disjoint_set.proofs.climb_ends_stands.Goals as goal

pub returns : goal.returns
returns c = climb_ends
