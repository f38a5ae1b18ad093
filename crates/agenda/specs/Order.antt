-- Lists of entries in an order.
use Rattle.std.specs.Prelude.{◌≡◌, Bool, false, cond, List, [], ◌∷◌}
use Rattle.std.specs.List.{AllByRecursion, list_all}

-- x goes before each
abbrev pub before_all : {X : Type 0} → (X → X → Bool) → X → List X → Bool
before_all lt x ys = list_all (lt x) ys

-- right in front of the longest end of the list that x goes before: so behind the last entry that x does not go before
abbrev pub insert : {X : Type 0} → (X → X → Bool) → X → List X → List X
insert lt x [] = x ∷ []
insert lt x (y ∷ ys) = cond (before_all lt x (y ∷ ys)) (x ∷ y ∷ ys) (y ∷ insert lt x ys)

-- one after the other
abbrev pub insert_all : {X : Type 0} → (X → X → Bool) → List X → List X → List X
insert_all lt [] ys = ys
insert_all lt (x ∷ xs) ys = insert_all lt xs (insert lt x ys)

-- none goes before one that stands earlier
abbrev pub Ordered : {X : Type 0} → (X → X → Bool) → List X → Type 0
Ordered lt [] = Unit {0}
Ordered lt (x ∷ xs) = AllByRecursion (λ y. lt y x ≡ false) xs × Ordered lt xs
