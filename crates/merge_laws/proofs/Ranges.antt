-- In a sound function a named scope that is not empty lies within the numbers 1 to n + 1.
use Rattle.std.proofs.Common.{◌≡◌, ℕ, ◌+◌, ◌<◌, ◌≤◌, true, ◌&&◌, eqb, leb, List, [], ◌∷◌, Some, None, refl, inl, inr, arith}
use Rattle.std.specs.List.{AllByRecursion, slice_get}
use Rattle.std.proofs.ByRecursion.{All-map}
use Rattle.std.proofs.lemmas.Bool.{cases_Bool, or_cases, and_parts, eqb-true, leb-true}
use Rattle.react_compiler_hir.specs.declared.rows.MutableRange.{MutableRange}
use Rattle.react_compiler_hir.specs.declared.rows.ScopeRow.{ScopeRow}
use Rattle.react_compiler_hir.specs.declared.rows.IdentifierRow.{IdentifierRow}
use Rattle.react_compiler_hir.specs.Rows.{scope_of}
use Rattle.react_compiler_hir.specs.Function.{HirFunction}
use Rattle.visitors.specs.Mentions.{mentions}
use Rattle.function_tests.specs.Ranges.{range_sound, names_sound}
use Rattle.function_laws.specs.Sound.{Sound}
use Rattle.rules.specs.Rows.{Rows, scope_range, identifier_scope}
use Rattle.disjoint_set.specs.Classes.{In, among}
use Rattle.merge_rules.specs.Named.{and_then, scopes_of, once_after, mentioned, named_scopes}
use Rattle.merge_laws.proofs.Lists.{all_in}

-- what is left of a list without repetition was in it
once_in : (met ps : List ℕ) (p : ℕ) → In p (once_after met ps) → In p ps
once_in met [] p h = h
once_in met (q ∷ ps) p h = elim (cases_Bool (among q met)) [
  | inl t ↦ inr (once_in met ps p (rw t at h))
  | inr t ↦ first (once_in (q ∷ met) ps p) (rw t at h)
]
  where
    first : (In p (once_after (q ∷ met) ps) → In p ps) → In p (q ∷ once_after (q ∷ met) ps) → In p (q ∷ ps)
    first later (inl e) = inl e
    first later (inr m) = inr (later m)

-- ---- what names a scope is sound, so the scope's range is

module _ (n : ℕ) (ss : List ScopeRow) (ds : List IdentifierRow) where
  abbrev Fine : ℕ → Type 0
  Fine p = range_sound n (scope_range ss p) ≡ true

  fine_scope : (i p : ℕ) (d : IdentifierRow) → slice_get ds i ≡ Some d → scope_of d ≡ Some p → names_sound n ss ds i ≡ true → Fine p
  fine_scope i p d row scope sound = (elim (slice_get ss p) as (λ o. slice_get ss p ≡ o → Fine p) [
    | None ↦ λ is. rw is
    | Some s ↦ λ is. rw is (rw (row, scope, is) at sound)
  ]) refl

  fine_row : (i : ℕ) (ps : List ℕ) → names_sound n ss ds i ≡ true → AllByRecursion Fine ps → AllByRecursion Fine (and_then (identifier_scope ds i) ps)
  fine_row i ps sound a = (elim (slice_get ds i) as (λ o. slice_get ds i ≡ o → AllByRecursion Fine (and_then (identifier_scope ds i) ps)) [
    | None ↦ λ row. rw row a
    | Some d ↦ λ row. rw row ((elim (scope_of d) as (λ o. scope_of d ≡ o → AllByRecursion Fine (and_then (scope_of d) ps)) [
      | None ↦ λ scope. rw scope a
      | Some p ↦ λ scope. rw scope (fine_scope i p d row scope sound, a)
    ]) refl)
  ]) refl

  fine_scopes : (is : List ℕ) → AllByRecursion (λ i. names_sound n ss ds i ≡ true) is → AllByRecursion Fine (scopes_of ds is)
  fine_scopes [] a = tt
  fine_scopes (i ∷ is) a = fine_row i (scopes_of ds is) a.0 (fine_scopes is a.1)

-- a range within the numbers
pub record Within (n : ℕ) (r : MutableRange) : Type 0 where
  pub low : 1 ≤ r.start
  pub filled : r.start < r.end
  pub high : r.end ≤ n + 1

range_within : (n : ℕ) (r : MutableRange) → range_sound n r ≡ true → (r.start ≡ r.end → ⊥) → Within n r
range_within n r sound filled = elim (or_cases (eqb r.start r.end) (leb 1 r.start && leb r.start r.end && leb r.end (n + 1)) sound) [
  | inl e ↦ absurd (filled (eqb-true r.start r.end e))
  | inr b ↦ (
      let outer = and_parts (leb 1 r.start && leb r.start r.end) (leb r.end (n + 1)) b in
      let inner = and_parts (leb 1 r.start) (leb r.start r.end) outer.0 in
      let up : r.start ≤ r.end = leb-true r.start r.end inner.1 in
      record { low = leb-true 1 r.start inner.0; filled = apart up filled; high = leb-true r.end (n + 1) outer.1 })
]
  where
    apart : r.start ≤ r.end → (r.start ≡ r.end → ⊥) → r.start < r.end
    apart h ne = omega arith

pub named_within : (f : HirFunction) (rows : Rows) (n : ℕ) → Sound f rows.scopes rows.identifiers n → (p : ℕ) → In p (named_scopes f rows)
    → ((scope_range rows.scopes p).start ≡ (scope_range rows.scopes p).end → ⊥) → Within n (scope_range rows.scopes p)
named_within f rows n sound p named filled =
    let ss = rows.scopes in
    let ds = rows.identifiers in
    let sounds : AllByRecursion (λ i. names_sound n ss ds i ≡ true) (mentioned f) = All-map (λ i. names_sound n ss ds i ≡ true) (λ m. m.identifier) (mentions f) sound.named_sound in
    let fine = fine_scopes n ss ds (mentioned f) sounds in
    range_within n (scope_range ss p) (all_in (λ q. range_sound n (scope_range ss q) ≡ true) (scopes_of ds (mentioned f)) p fine (once_in [] (scopes_of ds (mentioned f)) p named)) filled
