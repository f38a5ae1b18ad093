-- What adding entries one after the other to an empty agenda comes to.
use Rattle.std.specs.Prelude.{◌≡◌, Bool, not, ◌&&◌, List, [], filter}
use Rattle.std.specs.List.Sorted.{IsPermutation}
use Rattle.agenda.specs.Order.{insert_all, Ordered}

-- neither goes before the other
abbrev pub level : {X : Type 0} → (X → X → Bool) → X → X → Bool
level lt x y = not (lt x y) && not (lt y x)

-- the entries that were added, in order; those that are level stand as they came
abbrev pub Sorts : {X : Type 0} → (X → X → Bool) → Type 0
Sorts {X} lt = (xs : List X) → Ordered lt (insert_all lt xs []) × IsPermutation xs (insert_all lt xs []) × ((x : X) → filter (level lt x) (insert_all lt xs []) ≡ filter (level lt x) xs)
