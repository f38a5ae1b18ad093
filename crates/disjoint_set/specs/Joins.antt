-- What joining the sets of some items leaves of the parents.
use Rattle.std.specs.Prelude.{ℕ, List, [], ◌∷◌, slice_set}
use Rattle.disjoint_set.specs.Forest.{root, compressed}

-- x is found, then its root is hung on the root top; where the two are one, that changes nothing
abbrev pub attached : List ℕ → ℕ → ℕ → List ℕ
attached ps top x = slice_set (compressed ps x) (root ps x) top

-- one item after the other
abbrev pub attached_all : List ℕ → ℕ → List ℕ → List ℕ
attached_all ps top [] = ps
attached_all ps top (x ∷ xs) = attached_all (attached ps top x) top xs

-- the words after a union: the first item is found, and the others are attached to its root
abbrev pub joined : List ℕ → List ℕ → List ℕ
joined ps [] = ps
joined ps (x ∷ xs) = attached_all (compressed ps x) (root ps x) xs

-- the words after one union for each list
abbrev pub joined_all : List ℕ → List (List ℕ) → List ℕ
joined_all ps [] = ps
joined_all ps (xs ∷ xss) = joined_all (joined ps xs) xss
