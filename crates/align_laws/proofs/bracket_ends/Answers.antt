use Rattle.align_laws.proofs.Ends.{bracket_ends}
use Rattle.align_laws.proofs.bracket_ends.Goals as goal

pub returns : goal.returns
returns c = bracket_ends
