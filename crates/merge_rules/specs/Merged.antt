-- What a merge answers and leaves.
use Rattle.std.specs.Prelude.{ℕ, ◌+◌, min, max, Bool, false, cond, not, ◌&&◌, ◌||◌, List, [], ◌∷◌, map, length, Some, None, filter, Option, ◌==◌}
use Rattle.std.specs.List.{range_with_len}
use Rattle.react_compiler_hir.specs.declared.rows.MutableRange.{MutableRange}
use Rattle.react_compiler_hir.specs.declared.rows.ScopeRow.{ScopeRow}
use Rattle.react_compiler_hir.specs.declared.rows.IdentifierRow.{IdentifierRow}
use Rattle.react_compiler_hir.specs.Function.{HirFunction}
use Rattle.react_compiler_hir.specs.Rows.{scope_of}
use Rattle.rules.specs.Rows.{Rows, scope_range}
use Rattle.disjoint_set.specs.Classes.{among}
use Rattle.merge_rules.specs.Named.{mentioned}
use Rattle.merge_rules.specs.Replay.{root_of}

-- r, widened to cover s
abbrev pub covering : MutableRange → MutableRange → MutableRange
covering r s = record { id = r.id; start = min r.start s.start; «end» = max r.end s.end }

-- r, widened to cover those of the scopes qs whose root is p
abbrev pub hull : List ScopeRow → (ℕ → ℕ) → ℕ → MutableRange → List ℕ → MutableRange
hull ss root p r [] = r
hull ss root p r (q ∷ qs) = hull ss root p (cond (root q == p) (covering r (scope_range ss q)) r) qs

-- the range of a scope after the merge: a root gets the least start and the greatest end of its class, another keeps its range
abbrev pub merged_range : List ScopeRow → (ℕ → ℕ) → ℕ → MutableRange
merged_range ss root p =
    cond (root p == p) (hull ss root p (scope_range ss p) (range_with_len 0 (length ss))) (scope_range ss p)

-- whether p is the root of one of the scopes qs, other than p
abbrev pub joined_to : (ℕ → ℕ) → ℕ → List ℕ → Bool
joined_to root p [] = false
joined_to root p (q ∷ qs) = (root q == p && not (q == p)) || joined_to root p qs

-- the first of the scopes ps that is the root of another scope and has this range id
abbrev pub first_joined : List ScopeRow → (ℕ → ℕ) → ℕ → List ℕ → Option ℕ
first_joined ss root id [] = None
first_joined ss root id (p ∷ ps) =
    cond ((scope_range ss p).id == id && joined_to root p (range_with_len 0 (length ss))) (Some p) (first_joined ss root id ps)

-- a range with the start and end of another
abbrev pub moved_to : MutableRange → MutableRange → MutableRange
moved_to r s = record { id = r.id; start = s.start; «end» = s.end }

abbrev pub moved_to_scope : List ScopeRow → (ℕ → ℕ) → MutableRange → Option ℕ → MutableRange
moved_to_scope ss root r None = r
moved_to_scope ss root r (Some p) = moved_to r (merged_range ss root p)

-- a mutable range that shares the range id of a root follows that root, if it has another scope in its class; of several such roots, the first
abbrev pub synced : List ScopeRow → (ℕ → ℕ) → MutableRange → MutableRange
synced ss root r = moved_to_scope ss root r (first_joined ss root r.id (range_with_len 0 (length ss)))

abbrev pub moved_scope : (ℕ → ℕ) → ℕ → Option ℕ → ℕ
moved_scope root word None = word
moved_scope root word (Some p) = root p

-- the scope word of an identifier that is mentioned: its scope's root
abbrev pub repointed : (ℕ → ℕ) → IdentifierRow → ℕ
repointed root d = moved_scope root d.scope (scope_of d)

abbrev pub merged_identifier : List ScopeRow → (ℕ → ℕ) → List ℕ → ℕ → IdentifierRow → IdentifierRow
merged_identifier ss root mentions i d =
    record {
      mutable_range = synced ss root d.mutable_range;
      scope = cond (among i mentions) (repointed root d) d.scope;
      primitive = d.primitive;
    }

-- a list changed element by element, from position i on
abbrev pub each_from : {X : Type 0} → (ℕ → X → X) → ℕ → List X → List X
each_from change i [] = []
each_from change i (x ∷ xs) = change i x ∷ each_from change (i + 1) xs

abbrev pub merged_rows : (ℕ → ℕ) → List ℕ → Rows → Rows
merged_rows root mentions rows =
    record {
      scopes = each_from (λ p s. record { range = merged_range rows.scopes root p }) 0 rows.scopes;
      identifiers = each_from (merged_identifier rows.scopes root mentions) 0 rows.identifiers;
    }

-- how many scopes another one is the root of, the root of every scope, and the rows after
pub record Merged : Type 0 where
  pub count : ℕ
  pub roots : List ℕ
  pub rows : Rows

abbrev pub merge_replayed : HirFunction → Rows → Merged
merge_replayed f rows =
    let root = root_of f rows in
    let all = range_with_len 0 (length rows.scopes) in
    record {
      count = length (filter (λ p. not (root p == p)) all);
      roots = map root all;
      rows = merged_rows root (mentioned f) rows;
    }
