use Rattle.std.proofs.Common.{◌≡◌, ◌+◌, take, drop, set, refl, arith}
use Rattle.agenda.specs.Entries.{entries}
use Rattle.agenda.specs.Order.{insert}
use Rattle.agenda.proofs.Sinks.{sink_none, sink_step, sink_bottom, sink_found}
use Rattle.agenda.proofs.agenda.Agenda.place.Goals as goal
use Rattle.agenda.proofs.agenda.Agenda.place.Goals.{else-loop-i-test, then-loop-i-test+then-not-goes_before}

pub loop-i-init : goal.loop-i-init
loop-i-init g c = (sink_none _ _ _ _ _ c.args.self.now.low c.requires, refl, refl, refl, refl)

pub loop-i-preserved : goal.loop-i-preserved
loop-i-preserved g c =
    let inv = c.loop-i.invariant in
    (sink_step _ _ _ _ _ _ _ _ c.loop-i-test.true inv.0 c.if-not-goes_before.ensures, refl, inv.2, inv.3, inv.4)

pub returns-clause-entries : goal.returns-clause-entries
returns-clause-entries g c =
    let inv = c.loop-i.invariant in
    let was = c.args.self.now in
    let placed : drop was.head (take (was.tail + 1) (set c.loop-i.self.rows.now c.loop-i.i c.args.added)) ≡ insert g.E.Entry.before c.args.added (entries was) = elim c.loop-i-test.branch [
      | else-loop-i-test w ↦ sink_bottom _ _ _ _ _ _ _ (omega (arith, w.loop-i-test.false)) inv.0
      | then-loop-i-test+then-not-goes_before w ↦ sink_found _ _ _ _ _ _ _ _ w.loop-i-test.true inv.0 w.if-not-goes_before.ensures
    ] in
    rw (inv.1, inv.2, inv.3) placed
