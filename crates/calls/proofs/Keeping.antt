-- What any list of calls keeps.
use Rattle.calls.specs.Calls.{run}
use Rattle.calls.specs.Kept.{KeptOverCalls}
use Rattle.calls.proofs.Covering.{next_covers}
use Rattle.calls.proofs.Lawful.{call_lawful}

pub kept_over_calls : KeptOverCalls
kept_over_calls kind f outset calls call =
    (next_covers kind f outset calls call, call_lawful kind f (run kind f outset calls) call)
