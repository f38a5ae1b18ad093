-- What a block row and an instruction row must be, on their own and beside the tables.
use Rattle.std.specs.Prelude.{ℕ, ◌+◌, Bool, false, ◌&&◌, List, length, Some, None, Option, nat_le, nat_lt}
use Rattle.std.specs.List.{slice_get}
use Rattle.react_compiler_hir.specs.declared.rows.BlockRow.{BlockRow}
use Rattle.react_compiler_hir.specs.declared.rows.InstructionRow.{InstructionRow}
use Rattle.react_compiler_hir.specs.Function.{HirFunction}
use Rattle.visitors.specs.declared.shapes.InstructionShape.{InstructionShape}
use Rattle.visitors.specs.declared.shapes.TerminalShape.{TerminalShape}
use Rattle.visitors.specs.Arities.{allows}
use Rattle.visitors.specs.Shapes.{instruction_shapes, terminal_shapes}
use Rattle.visitors.specs.Parts.{words_of, reads_of}
use Rattle.std.specs.List.{list_all}
use Rattle.visitors.specs.Mentions.{instruction_lvalues, terminal_operands, terminal_successors}

-- a row with these part counts is one that the kind can have
abbrev instruction_allows : Option InstructionShape → ℕ → ℕ → Bool
instruction_allows None targets reads = false
instruction_allows (Some shape) targets reads = allows shape.targets 0 targets && allows shape.reads 0 reads

abbrev terminal_allows : Option TerminalShape → ℕ → ℕ → Bool
terminal_allows None operands successors = false
terminal_allows (Some shape) operands successors =
    allows shape.operands successors operands && allows shape.successors successors successors

abbrev pub instruction_shaped : InstructionRow → Bool
instruction_shaped r = instruction_allows (slice_get instruction_shapes r.kind) r.target_count r.read_count

abbrev pub terminal_shaped : BlockRow → Bool
terminal_shaped b = terminal_allows (slice_get terminal_shapes b.terminal_kind) b.operand_count b.successor_count

-- the list lies within the words, and the run within the instructions
abbrev pub instruction_fits : HirFunction → InstructionRow → Bool
instruction_fits f r =
    instruction_shaped r && nat_le (r.list_start + r.target_count + r.read_count) (length f.words)

abbrev pub block_fits : HirFunction → BlockRow → Bool
block_fits f b =
    nat_lt b.kind 5 && terminal_shaped b &&
    nat_le (b.first_instruction + b.instruction_count) (length f.instructions) &&
    nat_le (b.list_start + b.operand_count + b.successor_count) (length f.words)

-- every word is a position below the limit
abbrev pub all_below : ℕ → List ℕ → Bool
all_below limit ws = list_all (λ w. nat_lt w limit) ws

-- what the row mentions is in its table: so many identifiers, so many blocks
abbrev pub instruction_known : HirFunction → ℕ → InstructionRow → Bool
instruction_known f identifiers r =
    all_below identifiers (instruction_lvalues f.words r) &&
    all_below identifiers (words_of f.words (reads_of r))

abbrev pub block_known : HirFunction → ℕ → BlockRow → Bool
block_known f identifiers b =
    all_below identifiers (terminal_operands f.words b) &&
    all_below (length f.blocks) (terminal_successors f.words b)
