-- What tests in a row say of a function when none of them gives a fault.
use Rattle.std.proofs.Common.{◌≡◌, ℕ, ◌+◌, Bool, true, false, List, [], ◌∷◌, Ok, Err, Result, refl, arith}
use Rattle.std.specs.List.{AllByRecursion}
use Rattle.std.proofs.lemmas.Bool.{and_parts}
use Rattle.hir_faults.specs.declared.fault.Envelope.{Envelope}
use Rattle.hir_faults.specs.declared.fault.Fault.{Fault}
use Rattle.std.specs.List.{list_all}
use Rattle.function_tests.specs.Steps.{then, unless, walked}

-- both steps gave an answer
pub then_passed : {X Y E : Type 0} (first : Result X E) (next : X → Result Y E) (y : Y) → then first next ≡ Ok y → (x : X) × (first ≡ Ok x) × (next x ≡ Ok y)
then_passed (Ok x) next y e = (x, refl, e)
then_passed (Err fault) next y e = let z : ◌≡◌ {A = ℕ} 0 1 = cc in absurd (omega arith)

-- the first step's answer is the whole's, and the second gave one too
pub then_kept : {X Y E : Type 0} (first : Result X E) (second : X → Result Y E) (x : X) → then first (λ k. then (second k) (λ _. Ok k)) ≡ Ok x → (y : Y) × (first ≡ Ok x) × (second x ≡ Ok y)
then_kept first second x e =
    let p = then_passed first (λ k. then (second k) (λ _. Ok k)) x e in
    let q = then_passed (second p.0) (λ _. Ok p.0) x p.2 in
    let same : p.0 ≡ x = cc q.2 in
    (q.0, cc p.1, cc q.1)

-- the test held
pub unless_passed : (holds : Bool) (fault : Envelope Fault) (u : Unit {0}) → unless holds fault ≡ Ok u → holds ≡ true
unless_passed true fault u e = refl
unless_passed false fault u e = let z : ◌≡◌ {A = ℕ} 0 1 = cc in absurd (omega arith)

-- the test held, and what follows gave an answer
pub unless_then_passed : {Y : Type 0} (holds : Bool) (fault : Envelope Fault) (next : Unit {0} → Result Y (Envelope Fault)) (y : Y) → then (unless holds fault) next ≡ Ok y → (holds ≡ true) × (next tt ≡ Ok y)
unless_then_passed true fault next y e = (refl, e)
unless_then_passed false fault next y e = let z : ◌≡◌ {A = ℕ} 0 1 = cc in absurd (omega arith)

pub all_true : {X : Type 0} (test : X → Bool) (xs : List X) → list_all test xs ≡ true → AllByRecursion (λ x. test x ≡ true) xs
all_true test [] e = tt
all_true test (x ∷ xs) e =
    let both = and_parts (test x) (list_all test xs) e in
    (both.0, all_true test xs both.1)

-- what a test says of the element that passes it holds of every element of a walk
module _ {X M E : Type 0} (test : ℕ → M → X → Result M E) (P : X → Type 0) (passed : (i : ℕ) (m k : M) (x : X) → test i m x ≡ Ok k → P x) where
  pub walked_passed : (i : ℕ) (m k : M) (xs : List X) → walked test i m xs ≡ Ok k → AllByRecursion P xs
  walked_passed i m k [] e = tt
  walked_passed i m k (x ∷ xs) e =
      let w = then_passed (test i m x) (λ l. walked test (i + 1) l xs) k e in
      (passed i m w.0 x w.1, walked_passed (i + 1) w.0 k xs w.2)
