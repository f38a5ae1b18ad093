-- Calls of the two passes on one function and its rows, and what a list of them leaves.
use Rattle.std.specs.Prelude.{ℕ, List, [], ◌∷◌, Ok, Err, Result}
use Rattle.hir_faults.specs.declared.fault.Envelope.{Envelope}
use Rattle.hir_faults.specs.declared.fault.Fault.{Fault}
use Rattle.react_compiler_hir.specs.Function.{HirFunction}
use Rattle.function_tests.specs.declared.memory.Memory.TheVariants.{Align, Merge}
use Rattle.function_tests.specs.Steps.{then}
use Rattle.function_tests.specs.Tests.{function_tested}
use Rattle.rules.specs.Rows.{Rows}
use Rattle.align_rules.specs.Align.{align_walked}
use Rattle.merge_rules.specs.Merged.{Merged, merge_replayed}

-- one call of a pass, by the numbers that the host gives it: the counter and how long each lent memory is
pub data Call : Type 0 where
  align : (counter words : ℕ) → Call
  merge : (words openings closings roots : ℕ) → Call

-- a function from a source of this kind
module _ (kind : ℕ) (f : HirFunction) where
  -- what the two passes answer: the tests first, then the walk or the replay
  abbrev pub align_answer : Rows → ℕ → ℕ → Result (ℕ × Rows) (Envelope Fault)
  align_answer rows counter words =
      then (function_tested kind f rows.scopes rows.identifiers (Align words)) (λ _. align_walked f rows counter)

  abbrev pub merge_answer : Rows → ℕ → ℕ → ℕ → ℕ → Result Merged (Envelope Fault)
  merge_answer rows words openings closings roots =
      then (function_tested kind f rows.scopes rows.identifiers (Merge words openings closings roots)) (λ _.
      Ok (merge_replayed f rows))

  -- a refused call leaves the rows as they were
  abbrev pub aligned_rows : Rows → Result (ℕ × Rows) (Envelope Fault) → Rows
  aligned_rows rows (Ok answer) = answer.1
  aligned_rows rows (Err fault) = rows

  abbrev pub merged_rows : Rows → Result Merged (Envelope Fault) → Rows
  merged_rows rows (Ok merged) = merged.rows
  merged_rows rows (Err fault) = rows

  -- the rows after a call
  abbrev pub after : Rows → Call → Rows
  after rows (align counter words) = aligned_rows rows (align_answer rows counter words)
  after rows (merge words openings closings roots) =
      merged_rows rows (merge_answer rows words openings closings roots)

  -- the rows after a list of calls, the first call first
  abbrev pub run : Rows → List Call → Rows
  run rows [] = rows
  run rows (c ∷ cs) = run (after rows c) cs
