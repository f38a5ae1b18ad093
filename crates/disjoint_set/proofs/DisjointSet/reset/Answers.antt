use Rattle.std.proofs.Common.{◌≡◌, length, sym, ap, ◌∙◌, subst, arith}
use Rattle.disjoint_set.specs.Forest.{Forest, root, apart}
use Rattle.disjoint_set.proofs.Climbs.{apart_is, apart_own, apart_forest, root_is}
use Rattle.disjoint_set.proofs.DisjointSet.reset.Goals as goal

pub returns : goal.returns
returns c =
    let n = length c.args.parents.now in
    let words : c.loop-i.parents ≡ apart n = apart_is c.loop-i.parents n (omega arith) (λ k h. c.loop-i.invariant k (omega arith)) in
    record {
      words = words;
      forest = subst Forest (sym words) (apart_forest n);
      own = λ j h. ap (λ qs. root qs j) words ∙ root_is (apart n) 0 j j (apart_own n j h);
      len = omega arith;
    }
