use Rattle.std.proofs.Common.{◌≡◌}
use Rattle.agenda.proofs.Sinks.{Sinking}
use Rattle.agenda.proofs.agenda.Agenda.place.Given as goal

abbrev pub invariant-loop-i : goal.invariant-loop-i
invariant-loop-i g l =
    let was = l.initial.self in
    Sinking g.E.Entry.before l.added was.head was.tail was.rows.now l.self.rows.now l.i × (l.place ≡ l.i) × (l.self.head ≡ was.head) × (l.self.tail ≡ was.tail) × (l.self.rows.ghost_name ≡ was.rows.ghost_name)
