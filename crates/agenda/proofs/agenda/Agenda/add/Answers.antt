use Rattle.agenda.specs.Entries.{entries}
use Rattle.agenda.proofs.Orders.{lawful}
use Rattle.agenda.proofs.Insertions.{insert_ordered, insert_shuffled}
use Rattle.agenda.proofs.agenda.Agenda.add.Goals as goal

pub returns-clause-ordered : goal.returns-clause-ordered
returns-clause-ordered g c o =
    let lt = g.E.Entry.before in
    let law = g.met.E.Entry in
    rw (c.place.ensures.entries, c.make_room.ensures.entries) (insert_ordered lt c.args.added (lawful g.E.Entry.compared lt law.agree law.one law.transitive) (entries c.args.self.now) o)

pub returns-clause-same : goal.returns-clause-same
returns-clause-same g c =
    rw (c.place.ensures.entries, c.make_room.ensures.entries) (insert_shuffled g.E.Entry.before c.args.added (entries c.args.self.now))
