use Rattle.align_laws.proofs.Soundness.{align_keeps_sound}
use Rattle.align_laws.proofs.align_keeps_sound.Goals as goal

pub returns : goal.returns
returns c = align_keeps_sound
