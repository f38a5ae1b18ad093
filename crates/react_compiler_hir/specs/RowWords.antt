-- Rows as their words, and words as rows.
use Rattle.std.specs.Prelude.{ℕ, List, [], ◌∷◌, slice_index}
use Rattle.react_compiler_hir.specs.declared.rows.MutableRange.{MutableRange}
use Rattle.react_compiler_hir.specs.declared.rows.ScopeRow.{ScopeRow}
use Rattle.react_compiler_hir.specs.declared.rows.IdentifierRow.{IdentifierRow}
use Rattle.react_compiler_hir.specs.declared.rows.BlockRow.{BlockRow}
use Rattle.react_compiler_hir.specs.declared.rows.InstructionRow.{InstructionRow}

-- a range comes first, and more may follow
abbrev range_words : MutableRange → List ℕ → List ℕ
range_words r more = r.id ∷ r.start ∷ r.end ∷ more

abbrev pub scope_words : ScopeRow → List ℕ
scope_words s = range_words s.range []

abbrev pub identifier_words : IdentifierRow → List ℕ
identifier_words i = range_words i.mutable_range (i.scope ∷ i.primitive ∷ [])

abbrev pub block_words : BlockRow → List ℕ
block_words b =
    b.kind ∷ b.first_instruction ∷ b.instruction_count ∷ b.terminal_kind ∷ b.terminal_number ∷
    b.list_start ∷ b.operand_count ∷ b.successor_count ∷ []

abbrev pub instruction_words : InstructionRow → List ℕ
instruction_words i =
    i.number ∷ i.kind ∷ i.lvalue ∷ i.list_start ∷ i.target_count ∷ i.read_count ∷ []

-- the first word alone
abbrev pub word_of : List ℕ → ℕ
word_of ws = slice_index ws 0

abbrev range_of : List ℕ → MutableRange
range_of ws = record { id = slice_index ws 0; start = slice_index ws 1; end = slice_index ws 2 }

abbrev pub scope_row_of : List ℕ → ScopeRow
scope_row_of ws = record { range = range_of ws }

abbrev pub identifier_of : List ℕ → IdentifierRow
identifier_of ws =
    record { mutable_range = range_of ws; scope = slice_index ws 3; primitive = slice_index ws 4 }

abbrev pub block_of : List ℕ → BlockRow
block_of ws =
    record {
      kind = slice_index ws 0;
      first_instruction = slice_index ws 1;
      instruction_count = slice_index ws 2;
      terminal_kind = slice_index ws 3;
      terminal_number = slice_index ws 4;
      list_start = slice_index ws 5;
      operand_count = slice_index ws 6;
      successor_count = slice_index ws 7;
    }

abbrev pub instruction_of : List ℕ → InstructionRow
instruction_of ws =
    record {
      number = slice_index ws 0;
      kind = slice_index ws 1;
      lvalue = slice_index ws 2;
      list_start = slice_index ws 3;
      target_count = slice_index ws 4;
      read_count = slice_index ws 5;
    }
