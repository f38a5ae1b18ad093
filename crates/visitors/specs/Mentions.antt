-- Which identifiers and blocks a function mentions, where, and in which order.
use Rattle.std.specs.Prelude.{ℕ, ◌+◌, Bool, false, cond, List, [], ◌∷◌, ◌++◌, map, take, drop, Some, None, Option, ◌==◌}
use Rattle.std.specs.List.{slice_get}
use Rattle.react_compiler_hir.specs.declared.rows.BlockRow.{BlockRow}
use Rattle.react_compiler_hir.specs.declared.rows.InstructionRow.{InstructionRow}
use Rattle.react_compiler_hir.specs.Function.{HirFunction}
use Rattle.visitors.specs.Parts.{words_of, targets_of, reads_of, operands_of, successors_of}
use Rattle.visitors.specs.Shapes.{terminal_shapes}

-- the number of StoreContext, whose target is an operand too
abbrev pub store_context : ℕ
store_context = 5

-- an instruction's own lvalue, then its targets
abbrev pub instruction_lvalues : List ℕ → InstructionRow → List ℕ
instruction_lvalues ws r = r.lvalue ∷ words_of ws (targets_of r)

-- what an instruction uses: its reads, and before them the target of a StoreContext
abbrev pub instruction_operands : List ℕ → InstructionRow → List ℕ
instruction_operands ws r =
    cond (r.kind == store_context) (words_of ws (targets_of r)) [] ++ words_of ws (reads_of r)

abbrev pub instruction_mentions : List ℕ → InstructionRow → List ℕ
instruction_mentions ws r = instruction_lvalues ws r ++ instruction_operands ws r

abbrev pub terminal_operands : List ℕ → BlockRow → List ℕ
terminal_operands ws b = words_of ws (operands_of b)

abbrev pub terminal_successors : List ℕ → BlockRow → List ℕ
terminal_successors ws b = words_of ws (successors_of b)

abbrev last_of : List ℕ → Option ℕ
last_of [] = None
last_of (x ∷ []) = Some x
last_of (x ∷ (y ∷ ys)) = last_of (y ∷ ys)

-- whether the last successor of a terminal of this kind is its fallthrough
abbrev pub falls_through : ℕ → Bool
falls_through kind = elim (slice_get terminal_shapes kind) [ None ↦ false | Some shape ↦ shape.falls_through ]

abbrev pub terminal_fallthrough : List ℕ → BlockRow → Option ℕ
terminal_fallthrough ws b = cond (falls_through b.terminal_kind) (last_of (terminal_successors ws b)) None

-- the run of a block's instructions
abbrev pub instructions_of : List InstructionRow → BlockRow → List InstructionRow
instructions_of is b = take b.instruction_count (drop b.first_instruction is)

-- the numbers of a block, in order: its instructions', then its terminal's
abbrev pub block_numbers : List InstructionRow → BlockRow → List ℕ
block_numbers is b = map (λ r. r.number) (instructions_of is b) ++ b.terminal_number ∷ []

-- the first of them
abbrev pub first_of : List InstructionRow → ℕ → ℕ
first_of [] terminal = terminal
first_of (r ∷ rs) terminal = r.number

abbrev pub block_first_number : List InstructionRow → BlockRow → ℕ
block_first_number is b = first_of (instructions_of is b) b.terminal_number

-- an identifier, mentioned at a step of a block that has this number
pub record Mention : Type 0 where
  pub block : ℕ
  pub step : ℕ
  pub number : ℕ
  pub identifier : ℕ

abbrev pub mentioned_at : ℕ → ℕ → ℕ → List ℕ → List Mention
mentioned_at block step number is =
    map (λ i. record { block = block; step = step; number = number; identifier = i }) is

abbrev pub run_mentions : List ℕ → ℕ → ℕ → List InstructionRow → List Mention
run_mentions ws block step [] = []
run_mentions ws block step (r ∷ rs) =
    mentioned_at block step r.number (instruction_mentions ws r) ++ run_mentions ws block (step + 1) rs

-- all that a block mentions, instruction by instruction, and then its terminal's operands
abbrev pub block_mentions : HirFunction → ℕ → BlockRow → List Mention
block_mentions f block b =
    run_mentions f.words block 0 (instructions_of f.instructions b) ++
    mentioned_at block b.instruction_count b.terminal_number (terminal_operands f.words b)

abbrev pub mentions_from : HirFunction → ℕ → List BlockRow → List Mention
mentions_from f block [] = []
mentions_from f block (b ∷ bs) = block_mentions f block b ++ mentions_from f (block + 1) bs

-- the places of a function in walk order
abbrev pub mentions : HirFunction → List Mention
mentions f = mentions_from f 0 f.blocks
