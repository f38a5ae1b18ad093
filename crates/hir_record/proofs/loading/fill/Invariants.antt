use Rattle.std.proofs.Common.{◌≡◌, ◌*◌}
use Rattle.hir_record.specs.Format.{every, row_at}
use Rattle.hir_record.specs.Load.{over_first}
use Rattle.hir_record.proofs.loading.fill.Given as goal

abbrev pub invariant-loop-i : goal.invariant-loop-i
invariant-loop-i g l =
    l.rows ≡ over_first (every (row_at g.R.Row.of_words g.row.N l.bytes) l.start (4 * g.row.N) l.i) l.initial.rows
