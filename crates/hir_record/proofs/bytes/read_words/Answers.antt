use Rattle.std.proofs.Common.{◌+◌, ◌*◌, rules}
use Rattle.hir_record.specs.Format.{word}
use Rattle.hir_record.proofs.FromFn.{all_made}
use Rattle.hir_record.proofs.bytes.read_words.Goals as goal

-- the closure only reads, so it stays as it was
pub returns : goal.returns
returns g c =
    all_made _ _ (λ i. word c.args.bytes.now (c.args.at + 4 * i)) (λ x y q was. (search rules, search rules))
    c.from_fn.result g.row.N c.from_fn.ensures.items
