-- The host's two tables, and ranges.
use Rattle.std.specs.Prelude.{ℕ, ◌≤◌, Bool, ◌&&◌, List, Some, None, Option, nat_le, nat_lt}
use Rattle.std.specs.List.{slice_get}
use Rattle.react_compiler_hir.specs.declared.rows.MutableRange.{MutableRange}
use Rattle.react_compiler_hir.specs.declared.rows.ScopeRow.{ScopeRow}
use Rattle.react_compiler_hir.specs.declared.rows.IdentifierRow.{IdentifierRow}
use Rattle.react_compiler_hir.specs.Rows.{scope_of}

pub record Rows : Type 0 where
  pub scopes : List ScopeRow
  pub identifiers : List IdentifierRow

-- from its start up to but not its end
abbrev pub contains : MutableRange → ℕ → Bool
contains r m = nat_le r.start m && nat_lt m r.end

-- starts no later and ends no earlier
pub record Covers (wide narrow : MutableRange) : Type 0 where
  pub starts : wide.start ≤ narrow.start
  pub ends : narrow.end ≤ wide.end

-- the scope that the identifier at a position has, by its row
abbrev row_scope : Option IdentifierRow → Option ℕ
row_scope None = None
row_scope (Some d) = scope_of d

abbrev pub identifier_scope : List IdentifierRow → ℕ → Option ℕ
identifier_scope ds i = row_scope (slice_get ds i)

-- the range of the scope at a position; one that is not in the table has an empty range
abbrev no_range : MutableRange
no_range = record { id = 0; start = 0; end = 0 }

abbrev row_range : Option ScopeRow → MutableRange
row_range None = no_range
row_range (Some s) = s.range

abbrev pub scope_range : List ScopeRow → ℕ → MutableRange
scope_range ss p = row_range (slice_get ss p)
