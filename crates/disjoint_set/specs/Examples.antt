-- Five items, computed.
use Rattle.std.specs.Prelude.{◌≡◌, ℕ, List, [], ◌∷◌}
use Rattle.disjoint_set.specs.Forest.{root, passed, compressed}
use Rattle.disjoint_set.specs.Joins.{joined}

-- 3 hangs on 2, 2 on 1 and 1 on the root 0; 4 is alone
abbrev pub line : List ℕ
line = 0 ∷ 0 ∷ 1 ∷ 2 ∷ 4 ∷ []

-- a find from 3 passes 3, 2 and 1, and hangs them all on 0
abbrev pub FindExample : Type 0
FindExample = (root line 3 ≡ 0) × (passed line 3 ≡ 3 ∷ 2 ∷ 1 ∷ []) × (compressed line 3 ≡ 0 ∷ 0 ∷ 0 ∷ 0 ∷ 4 ∷ [])

-- 4 comes first, so its root stays; 2 is found before 0 is hung on 4, and 3 keeps its parent
abbrev pub UnionExample : Type 0
UnionExample = joined line (4 ∷ 2 ∷ []) ≡ 4 ∷ 0 ∷ 0 ∷ 2 ∷ 4 ∷ []
