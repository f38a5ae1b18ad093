-- The two walks over the blocks. The first tests rows and numbers, and answers how many numbers it
-- walked; the second tests the ranges of the scopes that are named.
use Rattle.std.specs.Prelude.{ℕ, ◌+◌, List, Ok, Result, ◌==◌}
use Rattle.hir_faults.specs.declared.fault.Envelope.{Envelope}
use Rattle.hir_faults.specs.declared.fault.Fault.{Fault}
use Rattle.hir_faults.specs.declared.fault.Reason.TheVariants.{OutOfRange, NotInTable, OutOfOrder, BadScopeRange}
use Rattle.hir_faults.specs.Faults.{because}
use Rattle.react_compiler_hir.specs.declared.rows.BlockRow.{BlockRow}
use Rattle.react_compiler_hir.specs.declared.rows.InstructionRow.{InstructionRow}
use Rattle.react_compiler_hir.specs.declared.rows.ScopeRow.{ScopeRow}
use Rattle.react_compiler_hir.specs.declared.rows.IdentifierRow.{IdentifierRow}
use Rattle.react_compiler_hir.specs.Function.{HirFunction}
use Rattle.visitors.specs.Mentions.{instructions_of, instruction_mentions, terminal_operands}
use Rattle.function_tests.specs.Steps.{then, unless, at_step, walked}
use Rattle.function_tests.specs.Rows.{instruction_fits, instruction_known, block_fits, block_known}
use Rattle.function_tests.specs.Ranges.{all_sound}

-- the number is the next after the m numbers walked so far, and is itself how many there are then
abbrev pub number_tested : ℕ → ℕ → ℕ → ℕ → ℕ → Result ℕ (Envelope Fault)
number_tested kind block step m number =
    then (unless (number == m + 1) (at_step block step (because kind OutOfOrder))) (λ _. Ok (m + 1))

-- a function from a source of this kind, beside a table of so many identifiers
module _ (kind : ℕ) (f : HirFunction) (identifiers : ℕ) where
  abbrev pub instruction_tested : ℕ → ℕ → ℕ → InstructionRow → Result ℕ (Envelope Fault)
  instruction_tested block step m r =
      then (unless (instruction_fits f r) (at_step block step (because kind OutOfRange))) (λ _.
      then (unless (instruction_known f identifiers r) (at_step block step (because kind NotInTable))) (λ _.
      number_tested kind block step m r.number))

  abbrev pub block_tested : ℕ → BlockRow → Result (Unit {0}) (Envelope Fault)
  block_tested block b =
      then (unless (block_fits f b) (at_step block 0 (because kind OutOfRange))) (λ _.
      unless (block_known f identifiers b) (at_step block 0 (because kind NotInTable)))

  -- a block's instructions, after m numbers
  abbrev pub run_walked : ℕ → ℕ → List InstructionRow → Result ℕ (Envelope Fault)
  run_walked block m rs = walked (instruction_tested block) 0 m rs

  -- its row, its instructions, its terminal
  abbrev pub block_walked : ℕ → ℕ → BlockRow → Result ℕ (Envelope Fault)
  block_walked block m b =
      then (block_tested block b) (λ _.
      then (run_walked block m (instructions_of f.instructions b)) (λ k.
      number_tested kind block b.instruction_count k b.terminal_number))

  abbrev pub blocks_walked : List BlockRow → Result ℕ (Envelope Fault)
  blocks_walked bs = walked block_walked 0 0 bs

-- the same beside the tables themselves, for a function of n numbers
module _ (kind : ℕ) (f : HirFunction) (ss : List ScopeRow) (ds : List IdentifierRow) (n : ℕ) where
  -- the identifiers mentioned at a step of a block name scopes with sound ranges
  abbrev pub mentions_tested : ℕ → ℕ → List ℕ → Result (Unit {0}) (Envelope Fault)
  mentions_tested block step is = unless (all_sound n ss ds is) (at_step block step (because kind BadScopeRange))

  abbrev pub instruction_ranged : ℕ → ℕ → Unit {0} → InstructionRow → Result (Unit {0}) (Envelope Fault)
  instruction_ranged block step u r = mentions_tested block step (instruction_mentions f.words r)

  abbrev pub run_ranged : ℕ → List InstructionRow → Result (Unit {0}) (Envelope Fault)
  run_ranged block rs = walked (instruction_ranged block) 0 tt rs

  abbrev pub block_ranged : ℕ → Unit {0} → BlockRow → Result (Unit {0}) (Envelope Fault)
  block_ranged block u b =
      then (run_ranged block (instructions_of f.instructions b)) (λ _.
      mentions_tested block b.instruction_count (terminal_operands f.words b))

  abbrev pub blocks_ranged : List BlockRow → Result (Unit {0}) (Envelope Fault)
  blocks_ranged bs = walked block_ranged 0 tt bs
