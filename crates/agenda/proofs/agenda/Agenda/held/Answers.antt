use Rattle.std.proofs.Common.{rules}
use Rattle.std.proofs.lemmas.Slice.{between_is}
use Rattle.agenda.proofs.agenda.Agenda.held.Goals as goal

pub returns : goal.returns
returns g c = search (rules, between_is)
