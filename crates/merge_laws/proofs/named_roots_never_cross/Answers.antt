use Rattle.merge_laws.proofs.Crossings.{named_roots_never_cross}
use Rattle.merge_laws.proofs.named_roots_never_cross.Goals as goal

pub returns : goal.returns
returns c = named_roots_never_cross
