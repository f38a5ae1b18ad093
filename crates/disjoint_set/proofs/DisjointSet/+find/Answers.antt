use Rattle.std.proofs.Common.{sym, arith}
use Rattle.disjoint_set.proofs.Climbs.{root_own}
use Rattle.disjoint_set.proofs.Finds.{parent, found}
use Rattle.disjoint_set.proofs.DisjointSet.+find.Goals as goal

pub returns-then-parent-item-clause-is : goal.returns-then-parent-item-clause-is
returns-then-parent-item-clause-is t c = sym (root_own _ c.args.self.now.forest _ c.requires c.if-parent-item.true)

pub find-top-requires : goal.find-top-requires
find-top-requires t c =
    let p = parent _ c.args.self.now.forest c.args.item c.requires c.if-parent-item.false in
    (omega (arith, p.lower, c.decreases), p.within)

pub invariant_of-self : goal.invariant_of-self
invariant_of-self t c =
    let f = found _ c.args.self.now.forest _ _ _ c.requires c.if-parent-item.false c.find-top.ensures.is c.find-top.ensures.words in
    record { forest = f.2.forest }

pub returns : goal.returns
returns t c =
    let f = found _ c.args.self.now.forest _ _ _ c.requires c.if-parent-item.false c.find-top.ensures.is c.find-top.ensures.words in
    record { is = f.0; words = f.1; kept = f.2.roots; len = f.2.long; lender = c.find-top.ensures.lender }
