use Rattle.agenda.proofs.Orders.{lawful}
use Rattle.agenda.proofs.Sorting.{sorts}
use Rattle.agenda.proofs.sorting_stands.Goals as goal

pub returns : goal.returns
returns g c = let law = g.met.E.Entry in sorts g.E.Entry.before (lawful g.E.Entry.compared g.E.Entry.before law.agree law.one law.transitive)
