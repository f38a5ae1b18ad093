use Rattle.std.proofs.Common.{rules}
use Rattle.std.proofs.Math.Seq.{take-length}
use Rattle.function_tests.proofs.tested.Tested.reach_blocks.Goals as goal

pub returns : goal.returns
returns g c =
    let whole = take-length (g.S.Source.function c.self.inside.source.now).blocks in
    search rules
