-- Parents in a list: word i is the parent of item i, and a root is its own parent.
use Rattle.std.specs.Prelude.{◌≡◌, ℕ, zero, suc, ◌<◌, cond, List, [], ◌∷◌, length, ◌==◌, ◌≢◌, slice_index, slice_set}
use Rattle.std.specs.List.{range_with_len}

-- item i climbs to the root r over n parents, and no fewer
abbrev pub Climb : List ℕ → ℕ → ℕ → ℕ → Type 0
Climb ps zero i r = (i < length ps) × (slice_index ps i ≡ i) × (r ≡ i)
Climb ps (suc n) i r = (i < length ps) × (slice_index ps i ≢ i) × Climb ps n (slice_index ps i) r

-- every climb ends
abbrev pub Forest : List ℕ → Type 0
Forest ps = (i : ℕ) → i < length ps → (n : ℕ) × ((r : ℕ) × Climb ps n i r)

-- n items, each its own root
abbrev pub apart : ℕ → List ℕ
apart n = range_with_len 0 n

-- the item n parents up from i
abbrev pub up : List ℕ → ℕ → ℕ → ℕ
up ps zero i = i
up ps (suc n) i = up ps n (slice_index ps i)

-- no climb of a forest is as long as the list
abbrev pub root : List ℕ → ℕ → ℕ
root ps i = up ps (length ps) i

-- those of the first n items of the climb from i that are below its root
abbrev pub below : List ℕ → ℕ → ℕ → List ℕ
below ps zero i = []
below ps (suc n) i = cond (slice_index ps i == i) [] (i ∷ below ps n (slice_index ps i))

-- the items that a find passes: i, its parent and so on, without the root
abbrev pub passed : List ℕ → ℕ → List ℕ
passed ps i = below ps (length ps) i

-- how many parents a find follows
abbrev pub height : List ℕ → ℕ → ℕ
height ps i = length (passed ps i)

-- each of the items has the parent r
abbrev pub hung : List ℕ → ℕ → List ℕ → List ℕ
hung ps r [] = ps
hung ps r (x ∷ xs) = slice_set (hung ps r xs) x r

-- the words after a find
abbrev pub compressed : List ℕ → ℕ → List ℕ
compressed ps i = hung ps (root ps i) (passed ps i)
