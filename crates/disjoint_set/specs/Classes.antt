-- Classes as a function from an item to the root of its class, and the chains that join two items.
use Rattle.std.specs.Prelude.{◌≡◌, ℕ, Bool, false, cond, ◌||◌, ◌⊎◌, List, [], ◌∷◌, map, ◌==◌}

abbrev pub among : ℕ → List ℕ → Bool
among x [] = false
among x (y ∷ ys) = x == y || among x ys

-- the classes after a union: each class that the items meet goes to the root of the first item's class
abbrev pub sent : (ℕ → ℕ) → List ℕ → ℕ → ℕ
sent class [] j = class j
sent class (x ∷ xs) j = cond (among (class j) (map class (x ∷ xs))) (class x) (class j)

-- the classes after one union for each list
abbrev pub sent_all : (ℕ → ℕ) → List (List ℕ) → ℕ → ℕ
sent_all class [] j = class j
sent_all class (xs ∷ xss) j = sent_all (sent class xs) xss j

-- x is one of the items
abbrev pub In : ℕ → List ℕ → Type 0
In x [] = ⊥
In x (y ∷ ys) = (x ≡ y) ⊎ In x ys

-- one of the lists has both
abbrev pub Together : List (List ℕ) → ℕ → ℕ → Type 0
Together [] i j = ⊥
Together (xs ∷ xss) i j = (In i xs × In j xs) ⊎ Together xss i j

-- one class already, or together in one of the lists
abbrev pub Step : (ℕ → ℕ) → List (List ℕ) → ℕ → ℕ → Type 0
Step class xss i j = (class i ≡ class j) ⊎ Together xss i j

-- from i, step by step
pub data Chain (R : ℕ → ℕ → Type 0) (i : ℕ) : ℕ → Type 0 where
  start : Chain R i i
  on : {j k : ℕ} → Chain R i j → R j k → Chain R i k
