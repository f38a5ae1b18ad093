use Rattle.std.proofs.Common.{◌≡◌, ℕ, List, take, drop}
use Rattle.std.specs.List.{slice_get}
use Rattle.function_tests.specs.Steps.{walked}
use Rattle.function_tests.proofs.each.test_each.Given as goal

abbrev pub invariant-loop-step : goal.invariant-loop-step
invariant-loop-step g l =
    (xs : List _) → ((i : ℕ) (r : _) → goal.G-post g l.told i r → r ≡ slice_get xs i) →
    (t : _) → ((step : ℕ) (m : _) (x : _) (r : _) → goal.F-post g l.test step m x r → r ≡ t step m x) →
    walked t l.step l.walked (drop l.step (take l.count (drop l.start xs))) ≡ walked t 0 l.fn.before (take l.count (drop l.start xs))
