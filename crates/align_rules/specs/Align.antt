-- The whole align: the walk over the blocks, and then the identifiers that share a range with their scope.
use Rattle.std.specs.Prelude.{ℕ, Bool, false, cond, List, map, Some, None, Ok, Option, Result, ◌==◌}
use Rattle.std.specs.List.{slice_get}
use Rattle.hir_faults.specs.declared.fault.Envelope.{Envelope}
use Rattle.hir_faults.specs.declared.fault.Fault.{Fault}
use Rattle.react_compiler_hir.specs.declared.rows.MutableRange.{MutableRange}
use Rattle.react_compiler_hir.specs.declared.rows.ScopeRow.{ScopeRow}
use Rattle.react_compiler_hir.specs.declared.rows.IdentifierRow.{IdentifierRow}
use Rattle.react_compiler_hir.specs.declared.rows.BlockRow.{BlockRow}
use Rattle.react_compiler_hir.specs.Function.{HirFunction}
use Rattle.react_compiler_hir.specs.Rows.{scope_of}
use Rattle.function_tests.specs.Steps.{then, walked}
use Rattle.rules.specs.Rows.{Rows, scope_range}
use Rattle.align_rules.specs.Marks.{Marks, marks_at_start, block_marked}
use Rattle.align_rules.specs.Ranges.{Tracked, tracked, block_tracked}

-- how far a walk has come
pub record Walk : Type 0 where
  pub marks : Marks
  pub scopes : List Tracked

abbrev pub walk_at_start : HirFunction → Rows → ℕ → Walk
walk_at_start f rows counter = record { marks = marks_at_start f counter; scopes = map tracked rows.scopes }

-- a block; its ranges go by what was noted before it
abbrev pub block_aligned : HirFunction → List IdentifierRow → ℕ → Walk → BlockRow → Result Walk (Envelope Fault)
block_aligned f ds k w b =
    then (block_marked f k b w.marks) (λ m.
    Ok (record { marks = m; scopes = block_tracked f ds k b w.marks w.scopes }))

-- block after block
abbrev pub blocks_aligned : HirFunction → Rows → ℕ → Result Walk (Envelope Fault)
blocks_aligned f rows counter = walked (block_aligned f rows.identifiers) 0 (walk_at_start f rows counter) f.blocks

abbrev pub scope_left : Tracked → ScopeRow
scope_left r = record { range = r.range }

-- an identifier has the range of its scope, by the ids as found
abbrev row_shares : IdentifierRow → Option ScopeRow → Bool
row_shares d None = false
row_shares d (Some s) = d.mutable_range.id == s.range.id

abbrev position_shares : List ScopeRow → IdentifierRow → Option ℕ → Bool
position_shares ss d None = false
position_shares ss d (Some p) = row_shares d (slice_get ss p)

abbrev pub shares : List ScopeRow → IdentifierRow → Bool
shares ss d = position_shares ss d (scope_of d)

abbrev range_at : List ScopeRow → MutableRange → Option ℕ → MutableRange
range_at ss r None = r
range_at ss r (Some p) = scope_range ss p

-- then it starts and ends as its scope does now
abbrev pub synced : List ScopeRow → List ScopeRow → IdentifierRow → IdentifierRow
synced found left d = record {
  mutable_range = record {
    id = d.mutable_range.id;
    start = cond (shares found d) (range_at left d.mutable_range (scope_of d)).start d.mutable_range.start;
    end = cond (shares found d) (range_at left d.mutable_range (scope_of d)).end d.mutable_range.end;
  };
  scope = d.scope;
  primitive = d.primitive;
}

abbrev pub rows_left : Rows → List ScopeRow → Rows
rows_left rows left = record { scopes = left; identifiers = map (synced rows.scopes left) rows.identifiers }

-- a fault, or the counter after all ids taken, and the rows
abbrev pub align_walked : HirFunction → Rows → ℕ → Result (ℕ × Rows) (Envelope Fault)
align_walked f rows counter =
    then (blocks_aligned f rows counter) (λ w. Ok (w.marks.counter, rows_left rows (map scope_left w.scopes)))
