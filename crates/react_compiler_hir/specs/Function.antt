-- A function as every layer above speaks of it: the three lists that a source tells.
use Rattle.std.specs.Prelude.{ℕ, List}
use Rattle.react_compiler_hir.specs.declared.rows.BlockRow.{BlockRow}
use Rattle.react_compiler_hir.specs.declared.rows.InstructionRow.{InstructionRow}

pub record HirFunction : Type 0 where
  pub blocks : List BlockRow
  pub instructions : List InstructionRow
  pub words : List ℕ

abbrev pub hir_function : List BlockRow → List InstructionRow → List ℕ → HirFunction
hir_function bs is ws = record { blocks = bs; instructions = is; words = ws }
