-- Every call, and so every list of calls, leaves each identifier with a scope that covers what its scope covered.
use Rattle.std.proofs.Common.{◌≡◌, ℕ, zero, suc, ◌≤◌, List, [], ◌∷◌, length, Ok, Err, sym, refl, ◌∙◌, arith}
use Rattle.std.specs.List.{AllZip}
use Rattle.react_compiler_hir.specs.declared.rows.IdentifierRow.{IdentifierRow}
use Rattle.react_compiler_hir.specs.Function.{HirFunction}
use Rattle.react_compiler_hir.specs.Rows.{scope_of}
use Rattle.function_tests.specs.declared.memory.Memory.TheVariants.{Align, Merge}
use Rattle.function_tests.specs.Tests.{function_tested}
use Rattle.function_laws.proofs.Passed.{then_passed}
use Rattle.function_laws.proofs.Passing.{function_passed}
use Rattle.rules.specs.Rows.{Rows, identifier_scope}
use Rattle.align_rules.specs.Align.{align_walked}
use Rattle.align_laws.specs.Laws.{IdentifierKept}
use Rattle.align_laws.proofs.Keeping.{align_only_widens}
use Rattle.merge_rules.specs.Merged.{merge_replayed}
use Rattle.merge_rules.proofs.Widening.{merge_widens}
use Rattle.calls.specs.Calls.{Call, align, merge, align_answer, merge_answer, aligned_rows, merged_rows, after, run}
use Rattle.calls.specs.Kept.{AllCovered}

covered_self : (rows : Rows) → AllCovered rows rows
covered_self rows i p has in_table =
    record { scope = p; has_scope = has; in_table = in_table; covers = record { starts = omega arith; ends = omega arith } }

covered_on : (a b c : Rows) → AllCovered a b → AllCovered b c → AllCovered a c
covered_on a b c first second i p has in_table =
    let u = first i p has in_table in
    let v = second i u.scope u.has_scope u.in_table in
    record {
      scope = v.scope;
      has_scope = v.has_scope;
      in_table = v.in_table;
      covers = record {
        starts = omega (arith, u.covers.starts, v.covers.starts);
        ends = omega (arith, u.covers.ends, v.covers.ends);
      };
    }

same_scope : (d e : IdentifierRow) → IdentifierKept d e → scope_of e ≡ scope_of d
same_scope d e k = rw k.scope

-- an align leaves every identifier its scope
scope_kept : (ds es : List IdentifierRow) (i : ℕ) → AllZip IdentifierKept ds es → identifier_scope es i ≡ identifier_scope ds i
scope_kept [] [] zero h = refl
scope_kept [] [] (suc i) h = refl
scope_kept [] (e ∷ es) i h = absurd h
scope_kept (d ∷ ds) [] i h = absurd h
scope_kept (d ∷ ds) (e ∷ es) zero h = same_scope d e h.0
scope_kept (d ∷ ds) (e ∷ es) (suc i) h = scope_kept ds es i h.1

align_covers : (f : HirFunction) (found left : Rows) (counter counter' : ℕ) → align_walked f found counter ≡ Ok (counter', left) → AllCovered found left
align_covers f found left counter counter' e i p has in_table =
    let w = (align_only_widens f found left counter counter' e).0 in
    record {
      scope = p;
      has_scope = scope_kept found.identifiers left.identifiers i w.identifiers_kept ∙ has;
      in_table = omega (arith, w.scope_count);
      covers = w.covers p;
    }

merge_covers : (f : HirFunction) (found : Rows) → length found.scopes ≤ 4294967295 → AllCovered found (merge_replayed f found).rows
merge_covers f found few i p has in_table =
    let w = merge_widens f found few in
    let m = w.moved i p has in_table in
    record {
      scope = m.scope;
      has_scope = m.now;
      in_table = omega (arith, w.scopes, m.known);
      covers = m.covers;
    }

module _ (kind : ℕ) (f : HirFunction) where
  call_covers : (found : Rows) (call : Call) → AllCovered found (after kind f found call)
  call_covers found (align counter words) =
      let answer = align_answer kind f found counter words in
      (elim answer as (λ t. answer ≡ t → AllCovered found (aligned_rows kind f found t)) [
        | Ok a ↦ λ e. align_covers f found a.1 counter a.0
            (then_passed (function_tested kind f found.scopes found.identifiers (Align words)) (λ _. align_walked f found counter) a e).2
        | Err x ↦ λ e. covered_self found
      ]) refl
  call_covers found (merge words openings closings roots) =
      let answer = merge_answer kind f found words openings closings roots in
      (elim answer as (λ t. answer ≡ t → AllCovered found (merged_rows kind f found t)) [
        | Ok m ↦ λ e.
            let p = then_passed (function_tested kind f found.scopes found.identifiers (Merge words openings closings roots)) (λ _. Ok (merge_replayed f found)) m e in
            let s = function_passed kind f found.scopes found.identifiers (Merge words openings closings roots) p.0 p.1 in
            let same : merge_replayed f found ≡ m = cc p.2 in
            rw (sym same) (merge_covers f found (omega (arith, s.few_scopes)))
        | Err x ↦ λ e. covered_self found
      ]) refl

  pub run_covers : (outset : Rows) (calls : List Call) → AllCovered outset (run kind f outset calls)
  run_covers outset [] = covered_self outset
  run_covers outset (c ∷ cs) =
      covered_on outset (after kind f outset c) (run kind f (after kind f outset c) cs) (call_covers outset c) (run_covers (after kind f outset c) cs)

  pub next_covers : (outset : Rows) (calls : List Call) (call : Call) → AllCovered outset (after kind f (run kind f outset calls) call)
  next_covers outset calls call =
      covered_on outset (run kind f outset calls) (after kind f (run kind f outset calls) call) (run_covers outset calls) (call_covers (run kind f outset calls) call)
