use Rattle.std.proofs.Common.{add-zero}
use Rattle.hir_record.proofs.fields_follow.Goals as goal

pub returns : goal.returns
returns c =
    λ bs p. record {
      counts = simp add-zero;
      range = simp add-zero;
      scope = simp add-zero;
      identifier = simp add-zero;
      block = simp add-zero;
      instruction = simp add-zero;
    }
