use Rattle.std.proofs.Common.{◌≡◌, ◌∷◌, ◌+◌, take, drop, arith}
use Rattle.std.proofs.lemmas.Grind.{common_steps}
use Rattle.agenda.specs.Entries.{entries}
use Rattle.agenda.proofs.agenda.Agenda.take_first.Goals as goal

pub returns-clause-first : goal.returns-clause-first
returns-clause-first g c o =
    let was = c.args.self.now in
    let pop : entries was ≡ c.in_ok-first.field-0.now ∷ drop (was.head + 1) (take was.tail was.rows.now) = grind (arith, common_steps) in
    rw pop at o
