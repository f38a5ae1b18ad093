-- What holds of a function and its tables where no fault is due.
use Rattle.std.specs.Prelude.{◌≡◌, ℕ, ◌+◌, ◌<◌, ◌≤◌, true, List, [], ◌∷◌, ◌++◌, length}
use Rattle.std.specs.List.{range_with_len, AllByRecursion}
use Rattle.react_compiler_hir.specs.declared.rows.BlockRow.{BlockRow}
use Rattle.react_compiler_hir.specs.declared.rows.InstructionRow.{InstructionRow}
use Rattle.react_compiler_hir.specs.declared.rows.ScopeRow.{ScopeRow}
use Rattle.react_compiler_hir.specs.declared.rows.IdentifierRow.{IdentifierRow}
use Rattle.react_compiler_hir.specs.Function.{HirFunction}
use Rattle.visitors.specs.Mentions.{instructions_of, block_numbers, mentions}
use Rattle.function_tests.specs.Rows.{instruction_fits, instruction_known, block_fits, block_known}
use Rattle.function_tests.specs.Ranges.{scope_known, names_sound}

-- the numbers of the blocks go on from m, one by one, and end at n
abbrev pub Numbered : List InstructionRow → ℕ → List BlockRow → ℕ → Type 0
Numbered is m [] n = m ≡ n
Numbered is m (b ∷ bs) n =
    (block_numbers is b ≡ range_with_len (m + 1) (length (block_numbers is b))) ×
    Numbered is (m + length (block_numbers is b)) bs n

-- all numbers of a function in walk order
abbrev pub numbers_of : List InstructionRow → List BlockRow → List ℕ
numbers_of is [] = []
numbers_of is (b ∷ bs) = block_numbers is b ++ numbers_of is bs

pub record Sound (f : HirFunction) (ss : List ScopeRow) (ds : List IdentifierRow) (n : ℕ) : Type 0 where
  pub some_block : 0 < length f.blocks
  pub few_blocks : length f.blocks ≤ 1024
  pub few_instructions : length f.instructions ≤ 16384
  pub few_words : length f.words ≤ 65536
  pub few_scopes : length ss ≤ 1024
  pub few_identifiers : length ds ≤ 16384
  -- the scope of every identifier is in the table
  pub scopes_known : AllByRecursion (λ d. scope_known (length ss) d ≡ true) ds
  -- every row's run, list, kinds and part counts are in their ranges, and what it mentions is in its table
  pub blocks_fit : AllByRecursion (λ b. block_fits f b ≡ true) f.blocks
  pub blocks_known : AllByRecursion (λ b. block_known f (length ds) b ≡ true) f.blocks
  pub instructions_fit : AllByRecursion (λ b. AllByRecursion (λ r. instruction_fits f r ≡ true) (instructions_of f.instructions b)) f.blocks
  pub instructions_known : AllByRecursion (λ b. AllByRecursion (λ r. instruction_known f (length ds) r ≡ true) (instructions_of f.instructions b)) f.blocks
  -- the numbers walked are 1 to n, block after block
  pub numbered : Numbered f.instructions 0 f.blocks n
  pub numbers : numbers_of f.instructions f.blocks ≡ range_with_len 1 n
  -- every named scope is empty, or lies within 1 to n + 1
  pub named_sound : AllByRecursion (λ m. names_sound n ss ds m.identifier ≡ true) (mentions f)
