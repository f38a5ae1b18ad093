use Rattle.std.proofs.Common.{◌<◌, length, ◌∙◌, sym, arith}
use Rattle.disjoint_set.proofs.Climbs.{root_top}
use Rattle.disjoint_set.proofs.Unions.{attached_left, attached_rooted, attached_own}
use Rattle.disjoint_set.proofs.DisjointSet.attach.Goals as goal

pub bounds-self-item_root : goal.bounds-self-item_root
bounds-self-item_root c =
    let h : c.find-item_root.result < length c.args.self.now.parents.now = rw c.find-item_root.ensures.is (root_top _ c.args.self.now.forest c.args.item c.requires.within).1 in
    omega arith

pub invariant_of-self : goal.invariant_of-self
invariant_of-self c =
    let found = c.find-item_root.ensures in
    record { forest = rw (found.words, found.is) (attached_rooted _ c.args.self.now.forest c.args.top c.requires.room c.requires.own c.args.item c.requires.within).forest }

pub returns-then-item_root-top-clause-own : goal.returns-then-item_root-top-clause-own
returns-then-item_root-top-clause-own c =
    let found = c.find-item_root.ensures in
    rw (found.words, found.is) (attached_own _ c.args.self.now.forest c.args.top c.requires.room c.requires.own c.args.item c.requires.within)

pub returns-else-item_root-top-clause-words : goal.returns-else-item_root-top-clause-words
returns-else-item_root-top-clause-words c =
    let found = c.find-item_root.ensures in
    found.words ∙ sym (attached_left _ c.args.self.now.forest c.args.top c.requires.room c.requires.own c.args.item c.requires.within (sym found.is ∙ c.if-item_root-top.false))
