-- What the definitions mean, in words that do not follow their steps.
use Rattle.std.specs.Prelude.{◌≡◌, ℕ, ◌<◌, cond, List, length, slice_index}
use Rattle.std.specs.List.{AllByRecursion}
use Rattle.disjoint_set.specs.Forest.{Climb, Forest, root, passed, height, compressed}
use Rattle.disjoint_set.specs.Joins.{joined_all}
use Rattle.disjoint_set.specs.Classes.{among, Step, Chain}

-- in a forest an item climbs to its root over as many parents as a find follows, fewer than there are items
abbrev pub ClimbEndsAtRoot : Type 0
ClimbEndsAtRoot = (ps : List ℕ) → Forest ps → (i : ℕ) → i < length ps → Climb ps (height ps i) i (root ps i) × (height ps i < length ps)

-- after a find what was passed hangs on the root, and every other word stays
abbrev pub FindHangsWhatItPasses : Type 0
FindHangsWhatItPasses = (ps : List ℕ) (i j : ℕ) → j < length ps → slice_index (compressed ps i) j ≡ cond (among j (passed ps i)) (root ps i) (slice_index ps j)

-- after lists of items were joined, one after the other, two items have one root exactly when a chain leads from the
-- one to the other, each step of which stays in one class of before or in one of the lists
abbrev pub OneRootExactlyByChains : Type 0
OneRootExactlyByChains = (ps : List ℕ) (xss : List (List ℕ)) → Forest ps → AllByRecursion (AllByRecursion (λ x. x < length ps)) xss → (i j : ℕ) → i < length ps → j < length ps
    → (root (joined_all ps xss) i ≡ root (joined_all ps xss) j → Chain (Step (root ps) xss) i j)
    × (Chain (Step (root ps) xss) i j → root (joined_all ps xss) i ≡ root (joined_all ps xss) j)
