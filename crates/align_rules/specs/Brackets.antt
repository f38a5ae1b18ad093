-- Brackets: where a terminal opens a stretch of code that its fallthrough closes.
use Rattle.std.specs.Prelude.{ℕ, cond, List, Some, None, Option, ◌==◌}
use Rattle.std.specs.List.{slice_get}
use Rattle.react_compiler_hir.specs.declared.rows.BlockRow.{BlockRow}
use Rattle.react_compiler_hir.specs.declared.rows.InstructionRow.{InstructionRow}
use Rattle.react_compiler_hir.specs.Function.{HirFunction}
use Rattle.visitors.specs.Mentions.{block_first_number, terminal_fallthrough}

-- from the number of a terminal to the first number of its fallthrough, a block given by its position
pub record Bracket : Type 0 where
  pub fallthrough : ℕ
  pub start : ℕ
  pub end : ℕ

abbrev pub row_first : List InstructionRow → Option BlockRow → ℕ
row_first is None = 0
row_first is (Some b) = block_first_number is b

-- the first number of the block at a position; 0, which is no number, where there is no block
abbrev pub first_at : HirFunction → ℕ → ℕ
first_at f k = row_first f.instructions (slice_get f.blocks k)

-- the number of Branch: it has a fallthrough and yet opens no bracket
abbrev pub branch : ℕ
branch = 5

abbrev pub bracket_to : HirFunction → BlockRow → Option ℕ → Option Bracket
bracket_to f b None = None
bracket_to f b (Some k) = Some (record { fallthrough = k; start = b.terminal_number; end = first_at f k })

-- the bracket that a block's terminal opens
abbrev pub bracket_of : HirFunction → BlockRow → Option Bracket
bracket_of f b = cond (b.terminal_kind == branch) None (bracket_to f b (terminal_fallthrough f.words b))

abbrev pub row_bracket : HirFunction → Option BlockRow → Option Bracket
row_bracket f None = None
row_bracket f (Some b) = bracket_of f b

-- the bracket that opens in the block at a position
abbrev pub bracket_at : HirFunction → ℕ → Option Bracket
bracket_at f k = row_bracket f (slice_get f.blocks k)
