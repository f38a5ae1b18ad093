-- All the tests before a pass, in their order.
use Rattle.std.specs.Prelude.{ℕ, ◌+◌, ◌*◌, min, Bool, not, ◌&&◌, List, length, Ok, Result, ◌==◌, nat_le}
use Rattle.hir_faults.specs.declared.fault.Envelope.{Envelope}
use Rattle.hir_faults.specs.declared.fault.Fault.{Fault}
use Rattle.hir_faults.specs.declared.fault.Reason.TheVariants.{OverLimit, NoBlock, NotInTable}
use Rattle.hir_faults.specs.Faults.{because}
use Rattle.react_compiler_hir.specs.declared.rows.ScopeRow.{ScopeRow}
use Rattle.react_compiler_hir.specs.declared.rows.IdentifierRow.{IdentifierRow}
use Rattle.react_compiler_hir.specs.Function.{HirFunction}
use Rattle.function_tests.specs.declared.memory.Memory.{Memory}
use Rattle.function_tests.specs.declared.memory.Memory.TheVariants.{Align, Merge}
use Rattle.function_tests.specs.Steps.{then, unless, nowhere, too_little_memory}
use Rattle.function_tests.specs.Ranges.{all_known}
use Rattle.function_tests.specs.Walks.{blocks_walked, blocks_ranged}

-- no list and no table is over its limit
abbrev pub within_limits : HirFunction → ℕ → ℕ → Bool
within_limits f scopes identifiers =
    nat_le (length f.blocks) 1024 && nat_le (length f.instructions) 16384 && nat_le (length f.words) 65536 &&
    nat_le scopes 1024 && nat_le identifiers 16384

abbrev most_words : ℕ
most_words = 18446744073709551615

-- eight words for each block and each scope; a merge wants a row of each sort for each scope too
abbrev words_enough : ℕ → ℕ → ℕ → Bool
words_enough blocks scopes words = nat_le (8 * blocks + 8 * scopes) words

abbrev pub memory_enough : ℕ → ℕ → Memory → Bool
memory_enough blocks scopes (Align words) = words_enough blocks scopes words
memory_enough blocks scopes (Merge words openings closings roots) =
    words_enough blocks scopes words && nat_le scopes openings && nat_le scopes closings && nat_le scopes roots

-- exactly what a merge wants, as far as a memory can have so many words
abbrev pub enough_for_merge : ℕ → ℕ → Memory
enough_for_merge blocks scopes =
    Merge (min (8 * min (blocks + scopes) most_words) most_words) scopes scopes scopes

module _ (kind : ℕ) (f : HirFunction) (ss : List ScopeRow) (ds : List IdentifierRow) (memory : Memory) where
  -- the tests that look at no row of the function
  abbrev pub tables_tested : Result (Unit {0}) (Envelope Fault)
  tables_tested =
      then (unless (within_limits f (length ss) (length ds)) (nowhere (because kind OverLimit))) (λ _.
      then (unless (memory_enough (length f.blocks) (length ss) memory) too_little_memory) (λ _.
      then (unless (not (length f.blocks == 0)) (nowhere (because kind NoBlock))) (λ _.
      unless (all_known (length ss) ds) (nowhere (because kind NotInTable)))))

  -- the first fault, or how many numbers the function has
  abbrev pub function_tested : Result ℕ (Envelope Fault)
  function_tested =
      then tables_tested (λ _.
      then (blocks_walked kind f (length ds) f.blocks) (λ n.
      then (blocks_ranged kind f ss ds n f.blocks) (λ _. Ok n)))
