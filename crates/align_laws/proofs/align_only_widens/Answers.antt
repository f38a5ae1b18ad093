use Rattle.align_laws.proofs.Keeping.{align_only_widens}
use Rattle.align_laws.proofs.align_only_widens.Goals as goal

pub returns : goal.returns
returns c = align_only_widens
