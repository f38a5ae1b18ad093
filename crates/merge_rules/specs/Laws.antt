-- What a merge keeps, for any function and any rows.
use Rattle.std.specs.Prelude.{◌≡◌, ℕ, ◌<◌, ◌≤◌, ◌⊎◌, List, length, Some, None, ◌≢◌, slice_index, slice_index_or}
use Rattle.std.specs.List.{slice_get}
use Rattle.react_compiler_hir.specs.declared.rows.MutableRange.{MutableRange}
use Rattle.react_compiler_hir.specs.declared.rows.ScopeRow.{ScopeRow}
use Rattle.react_compiler_hir.specs.declared.rows.IdentifierRow.{IdentifierRow}
use Rattle.react_compiler_hir.specs.Function.{HirFunction}
use Rattle.rules.specs.Rows.{Rows, Covers, scope_range, identifier_scope}
use Rattle.disjoint_set.specs.Classes.{In}
use Rattle.merge_rules.specs.Named.{mentioned}
use Rattle.merge_rules.specs.Merged.{merge_replayed}

-- a mutable range that goes with a root: the root has its range id, and it gets the start and the end that the merge leaves to the root
pub record WithRoot (roots : List ℕ) (found left : List ScopeRow) (before after : MutableRange) : Type 0 where
  pub root : ℕ
  pub known : root < length found
  pub own : slice_index_or roots root 0 ≡ root
  pub shared : (scope_range found root).id ≡ before.id
  pub starts : after.start ≡ (scope_range left root).start
  pub ends : after.end ≡ (scope_range left root).end

-- what stays of an identifier: its range id, its primitive word, and its mutable range unless that goes with a root
pub record Kept (roots : List ℕ) (found left : List ScopeRow) (before after : IdentifierRow) : Type 0 where
  pub id : after.mutable_range.id ≡ before.mutable_range.id
  pub primitive : after.primitive ≡ before.primitive
  pub range : (after.mutable_range ≡ before.mutable_range) ⊎ WithRoot roots found left before.mutable_range after.mutable_range

-- where the scope p of an identifier goes: it stays, or becomes its root, and covers the range that p had
pub record Moved (roots : List ℕ) (found left : Rows) (i p : ℕ) : Type 0 where
  pub scope : ℕ
  pub now : identifier_scope left.identifiers i ≡ Some scope
  pub known : scope < length found.scopes
  pub way : (scope ≡ p) ⊎ (scope ≡ slice_index roots p)
  pub covers : Covers (scope_range left.scopes scope) (scope_range found.scopes p)

-- what a merge leaves of the rows that it found, given the identifiers that the function mentions and the root of each scope
pub record Widened (mentions roots : List ℕ) (found left : Rows) : Type 0 where
  pub scopes : length left.scopes ≡ length found.scopes
  pub identifiers : length left.identifiers ≡ length found.identifiers
  -- every scope keeps its range id and covers what it covered, and only roots change
  pub ids : (p : ℕ) → (scope_range left.scopes p).id ≡ (scope_range found.scopes p).id
  pub wider : (p : ℕ) → Covers (scope_range left.scopes p) (scope_range found.scopes p)
  pub others_stay : (p : ℕ) → p < length found.scopes → (slice_index roots p ≢ p) → scope_range left.scopes p ≡ scope_range found.scopes p
  pub kept : (i : ℕ) (d e : IdentifierRow) → slice_get found.identifiers i ≡ Some d → slice_get left.identifiers i ≡ Some e → Kept roots found.scopes left.scopes d e
  -- an identifier without a scope gets none, and one that is not mentioned keeps its scope
  pub bare : (i : ℕ) → identifier_scope found.identifiers i ≡ None → identifier_scope left.identifiers i ≡ None
  pub unnamed : (i : ℕ) → (In i mentions → ⊥) → identifier_scope left.identifiers i ≡ identifier_scope found.identifiers i
  pub moved : (i p : ℕ) → identifier_scope found.identifiers i ≡ Some p → p < length found.scopes → Moved roots found left i p

-- merge only widens roots, and moves only identifiers that are mentioned, to a root that covers their scope;
-- a table is shorter than the word for no scope
abbrev pub MergeWidens : Type 0
MergeWidens =
    (f : HirFunction) (rows : Rows) → length rows.scopes ≤ 4294967295 →
    Widened (mentioned f) (merge_replayed f rows).roots rows (merge_replayed f rows).rows
