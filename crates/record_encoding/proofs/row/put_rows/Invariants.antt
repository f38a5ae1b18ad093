use Rattle.std.proofs.Common.{◌≡◌, ◌++◌, take, vec_items}
use Rattle.record_encoding.specs.Encoding.{rows}
use Rattle.record_encoding.proofs.row.put_rows.Given as goal

abbrev pub invariant-loop-item : goal.invariant-loop-item
invariant-loop-item g l =
    vec_items l.out ≡ vec_items l.initial.out ++ rows g.R.Row.words (take l.item-index l.items)
