use Rattle.disjoint_set.proofs.Chains.{one_root_by_chains}
use Rattle.disjoint_set.proofs.chains_stand.Goals as goal

pub returns : goal.returns
returns c = one_root_by_chains
