use Rattle.align_laws.proofs.Unmet.{unmet_stay}
use Rattle.align_laws.proofs.unmet_stay.Goals as goal

pub returns : goal.returns
returns c = unmet_stay
