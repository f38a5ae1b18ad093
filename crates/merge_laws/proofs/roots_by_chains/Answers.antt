use Rattle.merge_laws.proofs.Chains.{roots_by_chains}
use Rattle.merge_laws.proofs.roots_by_chains.Goals as goal

pub returns : goal.returns
returns c = roots_by_chains
