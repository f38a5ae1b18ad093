-- The law of each accepted call, from the laws of the two passes on a function that passed the tests.
use Rattle.std.proofs.Common.{◌≡◌, ℕ, Ok, subst}
use Rattle.react_compiler_hir.specs.Function.{HirFunction}
use Rattle.function_tests.specs.declared.memory.Memory.TheVariants.{Align, Merge}
use Rattle.function_tests.specs.Tests.{function_tested}
use Rattle.function_laws.specs.Sound.{Sound}
use Rattle.function_laws.proofs.Passed.{then_passed}
use Rattle.function_laws.proofs.Passing.{function_passed}
use Rattle.rules.specs.Rows.{Rows}
use Rattle.align_rules.specs.Align.{align_walked}
use Rattle.align_laws.proofs.Ends.{bracket_ends}
use Rattle.align_laws.proofs.Starts.{bracket_starts}
use Rattle.merge_rules.specs.Merged.{Merged, merge_replayed}
use Rattle.merge_laws.proofs.Chains.{roots_by_chains}
use Rattle.merge_laws.proofs.Crossings.{named_roots_never_cross}
use Rattle.calls.specs.Calls.{Call, align, merge, align_answer, merge_answer}
use Rattle.calls.specs.Kept.{BracketsHold, LinksHold, LawOf}

module _ (kind : ℕ) (f : HirFunction) (found : Rows) where
  pub align_lawful : (counter words counter' : ℕ) (left : Rows) → align_answer kind f found counter words ≡ Ok (counter', left) → BracketsHold f found left
  align_lawful counter words counter' left e =
      let p = then_passed (function_tested kind f found.scopes found.identifiers (Align words)) (λ _. align_walked f found counter) (counter', left) e in
      let s = function_passed kind f found.scopes found.identifiers (Align words) p.0 p.1 in
      record {
        ends = bracket_ends f found left p.0 counter counter' s p.2;
        starts = bracket_starts f found left p.0 counter counter' s p.2;
      }

  replay_lawful : (n : ℕ) → Sound f found.scopes found.identifiers n → LinksHold f found (merge_replayed f found)
  replay_lawful n s =
      record {
        joined = λ p q hp hq. (roots_by_chains f found n s p q hp hq).1;
        chained = λ p q hp hq. (roots_by_chains f found n s p q hp hq).0;
        apart = λ p q. named_roots_never_cross f found n s p q;
      }

  pub merge_lawful : (words openings closings roots : ℕ) (merged : Merged) → merge_answer kind f found words openings closings roots ≡ Ok merged → LinksHold f found merged
  merge_lawful words openings closings roots merged e =
      let memory = Merge words openings closings roots in
      let p = then_passed (function_tested kind f found.scopes found.identifiers memory) (λ _. Ok (merge_replayed f found)) merged e in
      let s = function_passed kind f found.scopes found.identifiers memory p.0 p.1 in
      let same : merge_replayed f found ≡ merged = cc p.2 in
      subst (LinksHold f found) same (replay_lawful p.0 s)

  pub call_lawful : (call : Call) → LawOf kind f found call
  call_lawful (align counter words) = align_lawful counter words
  call_lawful (merge words openings closings roots) = merge_lawful words openings closings roots
