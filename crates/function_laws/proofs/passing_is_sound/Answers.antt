use Rattle.function_laws.proofs.Passing.{function_passed}
use Rattle.function_laws.proofs.passing_is_sound.Goals as goal

pub returns : goal.returns
returns c = function_passed
