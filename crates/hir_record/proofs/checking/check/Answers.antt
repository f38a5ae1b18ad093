use Rattle.std.proofs.Common.{length, sym, ap, ◌∙◌, rules}
use Rattle.hir_record.specs.Check.{counted}
use Rattle.hir_record.proofs.Parts.{counts_of_rest, checked_counts}
use Rattle.hir_record.proofs.checking.check.Goals as goal

pub returns : goal.returns
returns c =
    let bs = c.args.bytes.now in
    c.check_counts.ensures ∙ ap (counted (length bs)) (c.read_row.ensures ∙ counts_of_rest bs) ∙
    sym (checked_counts bs (search rules) (search rules) (search rules) (search rules) (search rules))
