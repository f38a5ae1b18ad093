use Rattle.std.proofs.Common.{◌≡◌, ◌<◌, length, get_or, rules, arith}
use Rattle.std.proofs.lemmas.Grind.{common_steps}
use Rattle.disjoint_set.specs.Joins.{joined}
use Rattle.std.proofs.ByRecursion.{All-get_or}
use Rattle.disjoint_set.proofs.Unions.{attaching_none, joined_rooted}
use Rattle.disjoint_set.proofs.DisjointSet.union.Goals as goal

pub loop-item-init : goal.loop-item-init
loop-item-init c =
    let items = c.args.items.now in
    let h : get_or items 0 0 < length c.args.self.now.parents.now = All-get_or _ items 0 0 (search rules) c.requires in
    record { attaching = attaching_none _ _ _ (get_or items 0 0) _ c.args.self.now.forest h c.find-top.ensures.is c.find-top.ensures.words; lender = search rules }

pub returns-clause-classes : goal.returns-clause-classes
returns-clause-classes c =
    let ps = c.args.self.now.parents.now in
    let words : c.loop-item.self.parents.now ≡ joined ps c.args.items.now = grind (arith, common_steps) in
    rw words (joined_rooted ps c.args.items.now c.args.self.now.forest c.requires).roots
