use Rattle.std.proofs.Common.{◌≡◌, ℕ, Bool, drop}
use Rattle.visitors.specs.Parts.{words_of}
use Rattle.std.specs.List.{list_all}
use Rattle.function_tests.proofs.each.all_words.Given as goal

abbrev pub invariant-loop-i : goal.invariant-loop-i
invariant-loop-i g l =
    let ws = words_of (g.S.Source.function l.source).words l.part in
    (t : ℕ → Bool) → ((w : ℕ) (b : Bool) → goal.F-post g l.test w b → b ≡ t w) → list_all t (drop l.i ws) ≡ list_all t ws
