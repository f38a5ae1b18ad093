-- Which scopes have a range that the function can have.
use Rattle.std.specs.Prelude.{ℕ, ◌+◌, Bool, true, ◌&&◌, ◌||◌, List, Some, None, Option, ◌==◌, nat_le, nat_lt}
use Rattle.std.specs.List.{slice_get}
use Rattle.react_compiler_hir.specs.declared.rows.MutableRange.{MutableRange}
use Rattle.react_compiler_hir.specs.declared.rows.ScopeRow.{ScopeRow}
use Rattle.react_compiler_hir.specs.declared.rows.IdentifierRow.{IdentifierRow}
use Rattle.react_compiler_hir.specs.declared.rows.InstructionRow.{InstructionRow}
use Rattle.react_compiler_hir.specs.Rows.{scope_of}
use Rattle.visitors.specs.Parts.{words_of, targets_of, reads_of}
use Rattle.std.specs.List.{list_all}

-- a range is empty, or lies within the numbers 1 to n and may end after the last; none runs backward
abbrev pub range_sound : ℕ → MutableRange → Bool
range_sound n r =
    (r.start == r.end) || (nat_le 1 r.start && nat_le r.start r.end && nat_le r.end (n + 1))

abbrev row_sound : ℕ → Option ScopeRow → Bool
row_sound n None = true
row_sound n (Some s) = range_sound n s.range

abbrev position_sound : ℕ → List ScopeRow → Option ℕ → Bool
position_sound n ss None = true
position_sound n ss (Some p) = row_sound n (slice_get ss p)

abbrev identifier_sound : ℕ → List ScopeRow → Option IdentifierRow → Bool
identifier_sound n ss None = true
identifier_sound n ss (Some d) = position_sound n ss (scope_of d)

-- the scope that an identifier names, if it names one, has such a range
abbrev pub names_sound : ℕ → List ScopeRow → List IdentifierRow → ℕ → Bool
names_sound n ss ds i = identifier_sound n ss (slice_get ds i)

abbrev pub all_sound : ℕ → List ScopeRow → List IdentifierRow → List ℕ → Bool
all_sound n ss ds is = list_all (names_sound n ss ds) is

-- all that an instruction mentions, each once
abbrev pub instruction_sound : ℕ → List ScopeRow → List IdentifierRow → List ℕ → InstructionRow → Bool
instruction_sound n ss ds ws r =
    names_sound n ss ds r.lvalue && (all_sound n ss ds (words_of ws (targets_of r)) && all_sound n ss ds (words_of ws (reads_of r)))

-- an identifier's scope is in the table
abbrev position_known : ℕ → Option ℕ → Bool
position_known scopes None = true
position_known scopes (Some p) = nat_lt p scopes

abbrev pub scope_known : ℕ → IdentifierRow → Bool
scope_known scopes d = position_known scopes (scope_of d)

abbrev pub all_known : ℕ → List IdentifierRow → Bool
all_known scopes ds = list_all (scope_known scopes) ds
