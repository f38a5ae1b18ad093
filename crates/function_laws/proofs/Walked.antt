-- What the walk over the rows says of a row that it passes.
use Rattle.std.proofs.Common.{◌≡◌, ℕ, ◌+◌, true, eqb, Ok}
use Rattle.std.proofs.lemmas.Bool.{eqb-true}
use Rattle.hir_faults.specs.declared.fault.Reason.TheVariants.{OutOfRange, NotInTable, OutOfOrder}
use Rattle.hir_faults.specs.Faults.{because}
use Rattle.react_compiler_hir.specs.declared.rows.BlockRow.{BlockRow}
use Rattle.react_compiler_hir.specs.declared.rows.InstructionRow.{InstructionRow}
use Rattle.react_compiler_hir.specs.Function.{HirFunction}
use Rattle.visitors.specs.Mentions.{instructions_of}
use Rattle.function_tests.specs.Rows.{instruction_fits, instruction_known, block_fits, block_known}
use Rattle.function_tests.specs.Steps.{then, unless, at_step}
use Rattle.function_tests.specs.Walks.{number_tested, instruction_tested, run_walked, block_tested, block_walked}
use Rattle.function_laws.proofs.Passed.{then_passed, unless_passed, unless_then_passed}

number_passed : (kind block step m number k : ℕ) → number_tested kind block step m number ≡ Ok k → (number ≡ m + 1) × (k ≡ m + 1)
number_passed kind block step m number k e =
    let w = unless_then_passed (eqb number (m + 1)) (at_step block step (because kind OutOfOrder)) (λ _. Ok (m + 1)) k e in
    let ended = w.1 in
    (eqb-true number (m + 1) w.0, cc)

-- after m numbers the walk passes this instruction, and has walked k
pub record InstructionPassed (f : HirFunction) (identifiers m : ℕ) (r : InstructionRow) (k : ℕ) : Type 0 where
  pub fits : instruction_fits f r ≡ true
  pub known : instruction_known f identifiers r ≡ true
  pub next : r.number ≡ m + 1
  pub walks : k ≡ m + 1

-- after m numbers the walk passes this block, and has walked l before its terminal and k with it
pub record BlockPassed (kind : ℕ) (f : HirFunction) (identifiers block m : ℕ) (b : BlockRow) (l k : ℕ) : Type 0 where
  pub fits : block_fits f b ≡ true
  pub known : block_known f identifiers b ≡ true
  pub run : run_walked kind f identifiers block m (instructions_of f.instructions b) ≡ Ok l
  pub next : b.terminal_number ≡ l + 1
  pub walks : k ≡ l + 1

module _ (kind : ℕ) (f : HirFunction) (identifiers : ℕ) where
  pub instruction_passed : (block step m k : ℕ) (r : InstructionRow) → instruction_tested kind f identifiers block step m r ≡ Ok k → InstructionPassed f identifiers m r k
  instruction_passed block step m k r e =
      let numbered = λ (u : Unit {0}). number_tested kind block step m r.number in
      let knowing = λ (u : Unit {0}). then (unless (instruction_known f identifiers r) (at_step block step (because kind NotInTable))) numbered in
      let v = unless_then_passed (instruction_fits f r) (at_step block step (because kind OutOfRange)) knowing k e in
      let w = unless_then_passed (instruction_known f identifiers r) (at_step block step (because kind NotInTable)) numbered k v.1 in
      let n = number_passed kind block step m r.number k w.1 in
      record { fits = v.0; known = w.0; next = n.0; walks = n.1 }

  pub block_passed : (block m k : ℕ) (b : BlockRow) → block_walked kind f identifiers block m b ≡ Ok k → (l : ℕ) × BlockPassed kind f identifiers block m b l k
  block_passed block m k b e =
      let run = run_walked kind f identifiers block m (instructions_of f.instructions b) in
      let ending = λ (l : ℕ). number_tested kind block b.instruction_count l b.terminal_number in
      let v = then_passed (block_tested kind f identifiers block b) (λ _. then run ending) k e in
      let w = then_passed run ending k v.2 in
      let row = unless_then_passed (block_fits f b) (at_step block 0 (because kind OutOfRange)) (λ _. unless (block_known f identifiers b) (at_step block 0 (because kind NotInTable))) v.0 v.1 in
      let n = number_passed kind block b.instruction_count w.0 b.terminal_number k w.2 in (
        w.0,
        record {
          fits = row.0;
          known = unless_passed (block_known f identifiers b) (at_step block 0 (because kind NotInTable)) v.0 row.1;
          run = w.1;
          next = n.0;
          walks = n.1;
        },
      )
