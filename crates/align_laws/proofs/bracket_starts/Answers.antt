use Rattle.align_laws.proofs.Starts.{bracket_starts}
use Rattle.align_laws.proofs.bracket_starts.Goals as goal

pub returns : goal.returns
returns c = bracket_starts
