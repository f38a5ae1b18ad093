use Rattle.std.proofs.Common.{◌≡◌}
use Rattle.disjoint_set.proofs.Unions.{Attaching}
use Rattle.disjoint_set.proofs.DisjointSet.union.Given as goal

abbrev pub invariant-loop-item : goal.invariant-loop-item
invariant-loop-item l = record {
  attaching : Attaching l.initial.self.parents.now l.rest l.item-index l.top l.self.parents.now;
  lender : l.self.parents.ghost_name ≡ l.initial.self.parents.ghost_name;
}
