use Rattle.disjoint_set.specs.Forest.{height}
use Rattle.disjoint_set.proofs.DisjointSet.+find.Given as goal

abbrev pub decreases-find : goal.decreases-find
decreases-find l = height l.self.now.parents.now l.item
