use Rattle.calls.proofs.Keeping.{kept_over_calls}
use Rattle.calls.proofs.kept_over_calls.Goals as goal

pub returns : goal.returns
returns c = kept_over_calls
