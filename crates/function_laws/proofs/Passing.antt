-- A function that passes all the tests is sound: each part of it, from the test that looks at it.
use Rattle.std.proofs.Common.{◌≡◌, ℕ, true, not, ◌&&◌, eqb, leb, List, length, Ok, arith}
use Rattle.std.specs.List.{AllByRecursion}
use Rattle.std.proofs.lemmas.Bool.{and_parts, leb-true, not-true, eqb-false}
use Rattle.std.proofs.ByRecursion.{All-weaker}
use Rattle.hir_faults.specs.declared.fault.Reason.TheVariants.{OverLimit, NoBlock, NotInTable}
use Rattle.hir_faults.specs.Faults.{because}
use Rattle.react_compiler_hir.specs.declared.rows.BlockRow.{BlockRow}
use Rattle.react_compiler_hir.specs.declared.rows.ScopeRow.{ScopeRow}
use Rattle.react_compiler_hir.specs.declared.rows.IdentifierRow.{IdentifierRow}
use Rattle.react_compiler_hir.specs.Function.{HirFunction}
use Rattle.visitors.specs.Mentions.{instructions_of}
use Rattle.function_tests.specs.declared.memory.Memory.{Memory}
use Rattle.function_tests.specs.Steps.{then, unless, nowhere, too_little_memory}
use Rattle.function_tests.specs.Rows.{instruction_fits, instruction_known, block_fits, block_known}
use Rattle.function_tests.specs.Ranges.{scope_known, all_known}
use Rattle.function_tests.specs.Walks.{instruction_tested, block_walked, blocks_walked, blocks_ranged}
use Rattle.function_tests.specs.Tests.{within_limits, memory_enough, tables_tested, function_tested}
use Rattle.function_laws.specs.Sound.{Sound, numbers_of}
use Rattle.function_laws.proofs.Passed.{then_passed, then_kept, unless_passed, unless_then_passed, all_true, walked_passed}
use Rattle.function_laws.proofs.Walked.{instruction_passed, block_passed}
use Rattle.function_laws.proofs.Numbering.{blocks_numbered, numbers_counted}
use Rattle.function_laws.proofs.Naming.{named_sound}

-- what the tests that look at no row say
record TablesPassed (f : HirFunction) (ss : List ScopeRow) (ds : List IdentifierRow) : Type 0 where
  limits : within_limits f (length ss) (length ds) ≡ true
  some : not (eqb (length f.blocks) 0) ≡ true
  known : all_known (length ss) ds ≡ true

-- what the walk says of a block and of its run
record RowsPassed (f : HirFunction) (identifiers : ℕ) (b : BlockRow) : Type 0 where
  fits : block_fits f b ≡ true
  known : block_known f identifiers b ≡ true
  run_fits : AllByRecursion (λ r. instruction_fits f r ≡ true) (instructions_of f.instructions b)
  run_known : AllByRecursion (λ r. instruction_known f identifiers r ≡ true) (instructions_of f.instructions b)

tables_passed : (kind : ℕ) (f : HirFunction) (ss : List ScopeRow) (ds : List IdentifierRow) (memory : Memory) (u : Unit {0}) → tables_tested kind f ss ds memory ≡ Ok u → TablesPassed f ss ds
tables_passed kind f ss ds memory u e =
    let known = all_known (length ss) ds in
    let some = not (eqb (length f.blocks) 0) in
    let enough = memory_enough (length f.blocks) (length ss) memory in
    let from_known = λ (v : Unit {0}). unless known (nowhere (because kind NotInTable)) in
    let from_some = λ (v : Unit {0}). then (unless some (nowhere (because kind NoBlock))) from_known in
    let from_enough = λ (v : Unit {0}). then (unless enough too_little_memory) from_some in
    let p = unless_then_passed (within_limits f (length ss) (length ds)) (nowhere (because kind OverLimit)) from_enough u e in
    let q = unless_then_passed enough too_little_memory from_some u p.1 in
    let r = unless_then_passed some (nowhere (because kind NoBlock)) from_known u q.1 in
    record { limits = p.0; some = r.0; known = unless_passed known (nowhere (because kind NotInTable)) u r.1 }

rows_passed : (kind : ℕ) (f : HirFunction) (identifiers block m k : ℕ) (b : BlockRow) → block_walked kind f identifiers block m b ≡ Ok k → RowsPassed f identifiers b
rows_passed kind f identifiers block m k b e =
    let rs = instructions_of f.instructions b in
    let p = block_passed kind f identifiers block m k b e in
    let passed = instruction_passed kind f identifiers block in
    record {
      fits = p.1.fits;
      known = p.1.known;
      run_fits = walked_passed (instruction_tested kind f identifiers block) (λ r. instruction_fits f r ≡ true) (λ step i j r t. (passed step i j r t).fits) 0 m p.0 rs p.1.run;
      run_known = walked_passed (instruction_tested kind f identifiers block) (λ r. instruction_known f identifiers r ≡ true) (λ step i j r t. (passed step i j r t).known) 0 m p.0 rs p.1.run;
    }

pub function_passed : (kind : ℕ) (f : HirFunction) (ss : List ScopeRow) (ds : List IdentifierRow) (memory : Memory) (n : ℕ) → function_tested kind f ss ds memory ≡ Ok n → Sound f ss ds n
function_passed kind f ss ds memory n e =
    let bs = f.blocks in
    let p = then_passed (tables_tested kind f ss ds memory) (λ _. then (blocks_walked kind f (length ds) bs) (λ k. then (blocks_ranged kind f ss ds k bs) (λ _. Ok k))) n e in
    let tables = tables_passed kind f ss ds memory p.0 p.1 in
    let walks = then_kept (blocks_walked kind f (length ds) bs) (λ k. blocks_ranged kind f ss ds k bs) n p.2 in
    let blocks = leb (length bs) 1024 in
    let instructions = leb (length f.instructions) 16384 in
    let words = leb (length f.words) 65536 in
    let scopes = leb (length ss) 1024 in
    let l4 = and_parts (blocks && instructions && words && scopes) (leb (length ds) 16384) tables.limits in
    let l3 = and_parts (blocks && instructions && words) scopes l4.0 in
    let l2 = and_parts (blocks && instructions) words l3.0 in
    let l1 = and_parts blocks instructions l2.0 in
    let some = eqb-false (length bs) 0 (not-true (eqb (length bs) 0) tables.some) in
    let rows : AllByRecursion (RowsPassed f (length ds)) bs =
    walked_passed (block_walked kind f (length ds)) (RowsPassed f (length ds)) (rows_passed kind f (length ds)) 0 0 n bs walks.1 in
    let numbered = blocks_numbered kind f (length ds) 0 0 n bs walks.1 in
    let counted = numbers_counted f.instructions 0 n bs numbered in
    let until : length (numbers_of f.instructions bs) ≡ n = omega (arith, counted.1) in
    record {
      some_block = omega arith;
      few_blocks = leb-true (length bs) 1024 l1.0;
      few_instructions = leb-true (length f.instructions) 16384 l1.1;
      few_words = leb-true (length f.words) 65536 l2.1;
      few_scopes = leb-true (length ss) 1024 l3.1;
      few_identifiers = leb-true (length ds) 16384 l4.1;
      scopes_known = all_true (scope_known (length ss)) ds tables.known;
      blocks_fit = All-weaker (RowsPassed f (length ds)) (λ b. block_fits f b ≡ true) (λ b r. r.fits) bs rows;
      blocks_known = All-weaker (RowsPassed f (length ds)) (λ b. block_known f (length ds) b ≡ true) (λ b r. r.known) bs rows;
      instructions_fit = All-weaker (RowsPassed f (length ds)) (λ b. AllByRecursion (λ r. instruction_fits f r ≡ true) (instructions_of f.instructions b)) (λ b r. r.run_fits) bs rows;
      instructions_known = All-weaker (RowsPassed f (length ds)) (λ b. AllByRecursion (λ r. instruction_known f (length ds) r ≡ true) (instructions_of f.instructions b)) (λ b r. r.run_known) bs rows;
      numbered = numbered;
      numbers = rw until at counted.0;
      named_sound = named_sound kind f ss ds n walks.0 walks.2;
    }
