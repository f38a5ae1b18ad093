-- A loop that tests each element with what the test before answered.
use Rattle.std.proofs.Common.{◌≡◌, ℕ, ◌+◌, ◌≤◌, List, length, drop, Some, None, Ok, Err, Result, sym}
use Rattle.std.specs.List.{slice_get}
use Rattle.std.proofs.lemmas.List.{drop_all}
use Rattle.visitors.proofs.Positions.{drop_nth, drop_none}
use Rattle.function_tests.specs.Steps.{walked}

module _ {X M E : Type 0} (test : ℕ → M → X → Result M E) (xs : List X) (i : ℕ) (m : M) (all : Result M E) (rest : walked test i m (drop i xs) ≡ all) where
  pub walked_more : (x : X) (k : M) → Some x ≡ slice_get xs i → Ok k ≡ test i m x → walked test (i + 1) k (drop (i + 1) xs) ≡ all
  walked_more x k found tested = rw (sym tested) at (rw (drop_nth xs i x (sym found)) at rest)

  pub walked_failed : (x : X) (e : E) → Some x ≡ slice_get xs i → Err e ≡ test i m x → Err e ≡ all
  walked_failed x e found tested = rw (sym tested) at (rw (drop_nth xs i x (sym found)) at rest)

  pub walked_ended : None ≡ slice_get xs i → Ok m ≡ all
  walked_ended none = rw (drop_none xs i (sym none)) at rest

  pub walked_passed : length xs ≤ i → Ok m ≡ all
  walked_passed past = rw (drop_all i xs past) at rest
