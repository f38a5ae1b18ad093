-- The part lists of rows: which words of a function a row points to.
use Rattle.std.specs.Prelude.{ℕ, ◌+◌, List, take, drop}
use Rattle.react_compiler_hir.specs.declared.rows.BlockRow.{BlockRow}
use Rattle.react_compiler_hir.specs.declared.rows.InstructionRow.{InstructionRow}
use Rattle.visitors.specs.declared.parts.Part.{Part}

-- the words of a part
abbrev pub words_of : List ℕ → Part → List ℕ
words_of ws p = take p.count (drop (p.start + p.skip) ws)

abbrev part : ℕ → ℕ → ℕ → Part
part start skip count = record { start = start; skip = skip; count = count }

-- an instruction's list holds its targets, then its reads
abbrev pub targets_of : InstructionRow → Part
targets_of r = part r.list_start 0 r.target_count

abbrev pub reads_of : InstructionRow → Part
reads_of r = part r.list_start r.target_count r.read_count

-- a terminal's list holds its operands, then its successors
abbrev pub operands_of : BlockRow → Part
operands_of b = part b.list_start 0 b.operand_count

abbrev pub successors_of : BlockRow → Part
successors_of b = part b.list_start b.operand_count b.successor_count
