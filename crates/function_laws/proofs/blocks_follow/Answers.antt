use Rattle.std.proofs.Common.{add-one}
use Rattle.function_laws.proofs.Following.{first_begins, next_begins}
use Rattle.function_laws.proofs.blocks_follow.Goals as goal

pub returns : goal.returns
returns c =
    λ f ss ds n sound. (
      (λ b found. first_begins f.instructions 0 n f.blocks b sound.numbered found),
      (λ i a b here after. next_begins f.instructions 0 n f.blocks i a b sound.numbered here (rw add-one at after)),
    )
