-- What holds of each identifier that the rows mention holds of every mention of the function.
use Rattle.std.proofs.Common.{◌≡◌, ℕ, ◌+◌, true, List, [], ◌∷◌, Ok}
use Rattle.std.specs.List.{AllByRecursion}
use Rattle.std.proofs.ByRecursion.{All-append, All-map}
use Rattle.hir_faults.specs.declared.fault.Reason.TheVariants.{BadScopeRange}
use Rattle.hir_faults.specs.Faults.{because}
use Rattle.react_compiler_hir.specs.declared.rows.BlockRow.{BlockRow}
use Rattle.react_compiler_hir.specs.declared.rows.InstructionRow.{InstructionRow}
use Rattle.react_compiler_hir.specs.declared.rows.ScopeRow.{ScopeRow}
use Rattle.react_compiler_hir.specs.declared.rows.IdentifierRow.{IdentifierRow}
use Rattle.react_compiler_hir.specs.Function.{HirFunction}
use Rattle.visitors.specs.Mentions.{mentioned_at, run_mentions, mentions_from, mentions, block_mentions, instructions_of, instruction_mentions, terminal_operands}
use Rattle.function_tests.specs.Ranges.{names_sound, all_sound}
use Rattle.function_tests.specs.Steps.{at_step}
use Rattle.function_tests.specs.Walks.{mentions_tested, instruction_ranged, run_ranged, block_ranged, blocks_ranged}
use Rattle.function_laws.proofs.Passed.{then_passed, unless_passed, all_true, walked_passed}

module _ (P : ℕ → Type 0) where
  -- it holds of each identifier that a block mentions
  abbrev pub Mentioned : HirFunction → BlockRow → Type 0
  Mentioned f b =
      AllByRecursion (λ r. AllByRecursion P (instruction_mentions f.words r)) (instructions_of f.instructions b) ×
      AllByRecursion P (terminal_operands f.words b)

  all_at : (block step number : ℕ) (is : List ℕ) → AllByRecursion P is → AllByRecursion (λ m. P m.identifier) (mentioned_at block step number is)
  all_at block step number is h =
      All-map (λ m. P m.identifier) (λ i. record { block = block; step = step; number = number; identifier = i }) is h

  all_run : (ws : List ℕ) (block step : ℕ) (rs : List InstructionRow) → AllByRecursion (λ r. AllByRecursion P (instruction_mentions ws r)) rs → AllByRecursion (λ m. P m.identifier) (run_mentions ws block step rs)
  all_run ws block step [] h = tt
  all_run ws block step (r ∷ rs) h =
      All-append (λ m. P m.identifier) (mentioned_at block step r.number (instruction_mentions ws r)) (run_mentions ws block (step + 1) rs)
      (all_at block step r.number (instruction_mentions ws r) h.0) (all_run ws block (step + 1) rs h.1)

  all_block : (f : HirFunction) (block : ℕ) (b : BlockRow) → Mentioned f b → AllByRecursion (λ m. P m.identifier) (block_mentions f block b)
  all_block f block b h =
      let rs = instructions_of f.instructions b in
      let is = terminal_operands f.words b in
      All-append (λ m. P m.identifier) (run_mentions f.words block 0 rs) (mentioned_at block b.instruction_count b.terminal_number is)
      (all_run f.words block 0 rs h.0) (all_at block b.instruction_count b.terminal_number is h.1)

  all_from : (f : HirFunction) (block : ℕ) (bs : List BlockRow) → AllByRecursion (Mentioned f) bs → AllByRecursion (λ m. P m.identifier) (mentions_from f block bs)
  all_from f block [] h = tt
  all_from f block (b ∷ bs) h =
      All-append (λ m. P m.identifier) (block_mentions f block b) (mentions_from f (block + 1) bs)
      (all_block f block b h.0) (all_from f (block + 1) bs h.1)

  pub all_mentioned : (f : HirFunction) → AllByRecursion (Mentioned f) f.blocks → AllByRecursion (λ m. P m.identifier) (mentions f)
  all_mentioned f h = all_from f 0 f.blocks h

-- the walk over the ranges that passes has found each named scope sound
module _ (kind : ℕ) (f : HirFunction) (ss : List ScopeRow) (ds : List IdentifierRow) (n : ℕ) where
  abbrev SoundName : ℕ → Type 0
  SoundName i = names_sound n ss ds i ≡ true

  tested_sound : (block step : ℕ) (is : List ℕ) (u : Unit {0}) → mentions_tested kind f ss ds n block step is ≡ Ok u → AllByRecursion SoundName is
  tested_sound block step is u e =
      all_true (names_sound n ss ds) is (unless_passed (all_sound n ss ds is) (at_step block step (because kind BadScopeRange)) u e)

  block_sound : (block : ℕ) (u v : Unit {0}) (b : BlockRow) → block_ranged kind f ss ds n block u b ≡ Ok v → Mentioned SoundName f b
  block_sound block u v b e =
      let rs = instructions_of f.instructions b in
      let is = terminal_operands f.words b in
      let w = then_passed (run_ranged kind f ss ds n block rs) (λ _. mentions_tested kind f ss ds n block b.instruction_count is) v e in (
        walked_passed (instruction_ranged kind f ss ds n block) (λ r. AllByRecursion SoundName (instruction_mentions f.words r))
            (λ step m k r. tested_sound block step (instruction_mentions f.words r) k) 0 tt w.0 rs w.1,
        tested_sound block b.instruction_count is v w.2,
      )

  pub named_sound : (u : Unit {0}) → blocks_ranged kind f ss ds n f.blocks ≡ Ok u → AllByRecursion (λ m. names_sound n ss ds m.identifier ≡ true) (mentions f)
  named_sound u e =
      all_mentioned SoundName f (walked_passed (block_ranged kind f ss ds n) (Mentioned SoundName f) block_sound 0 tt u f.blocks e)
