-- What the align walk notes of blocks: the brackets that are open, the nodes of value blocks, and the range
-- ids taken. Ranges have no part in it. Only here can the walk be refused.
use Rattle.std.specs.Prelude.{ℕ, ◌+◌, Bool, true, false, cond, not, ◌&&◌, ◌||◌, List, [], ◌∷◌, length, replicate, Some, None, Ok, Err, Option, Result, ◌==◌, slice_index_or, slice_set}
use Rattle.std.specs.List.{slice_get}
use Rattle.hir_faults.specs.declared.fault.Envelope.{Envelope}
use Rattle.hir_faults.specs.declared.fault.Fault.{Fault}
use Rattle.hir_faults.specs.declared.fault.PassFault.{PassFault}
use Rattle.hir_faults.specs.declared.fault.PassFault.TheVariants.{SharedFallthrough, NoFallthrough, NoRangeId}
use Rattle.hir_faults.specs.Faults.{of_pass, pass_faulted}
use Rattle.react_compiler_hir.specs.declared.rows.BlockRow.{BlockRow}
use Rattle.react_compiler_hir.specs.Function.{HirFunction}
use Rattle.visitors.specs.Mentions.{terminal_fallthrough, terminal_successors}
use Rattle.function_tests.specs.Steps.{then, unless, walked}
use Rattle.align_rules.specs.Brackets.{Bracket, first_at, bracket_of}

-- the code that a value block is part of, from the number of a terminal to the first number of its fallthrough;
-- where that stands before the terminal, the node runs backward
pub record Node : Type 0 where
  pub start : ℕ
  pub end : ℕ

-- the open brackets, the newest first; the node of each block, by position; the next free range id
pub record Marks : Type 0 where
  pub pending : List Bracket
  pub nodes : List (Option Node)
  pub counter : ℕ

-- nothing is noted before the first block
abbrev pub marks_at_start : HirFunction → ℕ → Marks
marks_at_start f counter = record { pending = []; nodes = replicate (length f.blocks) None; counter = counter }

abbrev pub node_at : List (Option Node) → ℕ → Option Node
node_at ns k = slice_index_or ns k None

abbrev pub is_none : {X : Type 0} → Option X → Bool
is_none None = true
is_none (Some x) = false

-- the newest bracket closes at its fallthrough: where its terminal was, and which brackets stay open
abbrev pub closing_at : ℕ → List Bracket → Option ℕ
closing_at k [] = None
closing_at k (x ∷ xs) = cond (x.fallthrough == k) (Some x.start) None

abbrev pub open_after : ℕ → List Bracket → List Bracket
open_after k [] = []
open_after k (x ∷ xs) = cond (x.fallthrough == k) xs (x ∷ xs)

-- a fault of the pass at the terminal of the block at position k
abbrev pub at_terminal : ℕ → BlockRow → PassFault → Envelope Fault
at_terminal k b fault = of_pass (pass_faulted (Some (record { block = k; step = b.instruction_count })) fault)

-- one range id is taken, unless all have been
abbrev pub id_taken : ℕ → BlockRow → ℕ → Result ℕ (Envelope Fault)
id_taken k b counter =
    then (unless (not (counter == 4294967295)) (at_terminal k b NoRangeId)) (λ _. Ok (counter + 1))

-- a bracket opens and takes an id; its fallthrough has no node yet, and gets that of the block, if it has one
abbrev pub bracket_marked : ℕ → BlockRow → Option Node → Marks → Option Bracket → Result Marks (Envelope Fault)
bracket_marked k b own m None = Ok m
bracket_marked k b own m (Some x) =
    then (id_taken k b m.counter) (λ counter.
    then (unless (is_none (node_at m.nodes x.fallthrough)) (at_terminal k b SharedFallthrough)) (λ _.
    Ok (record {
      pending = x ∷ m.pending;
      nodes = slice_set m.nodes x.fallthrough own;
      counter = counter;
    })))

-- a value block: of any kind but Block, 0, and Catch, 4
abbrev row_value : Option BlockRow → Bool
row_value None = false
row_value (Some b) = not (b.kind == 0 || b.kind == 4)

abbrev pub value_block : HirFunction → ℕ → Bool
value_block f k = row_value (slice_get f.blocks k)

-- the node for a successor, and the counter after it: the block's own, or a new one that takes an id and
-- ends at the fallthrough
abbrev pub node_for : HirFunction → ℕ → BlockRow → ℕ → Option Node → Option ℕ → Result (Node × ℕ) (Envelope Fault)
node_for f k b counter (Some own) fallthrough = Ok (own, counter)
node_for f k b counter None None = Err (at_terminal k b NoFallthrough)
node_for f k b counter None (Some t) =
    then (id_taken k b counter) (λ taken. Ok (record { start = b.terminal_number; end = first_at f t }, taken))

-- a successor that is a value block and has no node gets one
abbrev pub successor_marked : HirFunction → ℕ → BlockRow → Option Node → ℕ → Marks → ℕ → Result Marks (Envelope Fault)
successor_marked f k b own i m s =
    cond (value_block f s && is_none (node_at m.nodes s))
    (then (node_for f k b m.counter own (terminal_fallthrough f.words b)) (λ x.
    Ok (record { pending = m.pending; nodes = slice_set m.nodes s (Some x.0); counter = x.1 })))
    (Ok m)

-- the block at position k: a bracket may close at its entry; its terminal may open one, and then looks at its
-- successors in order. The block's own node is the one that it has at its entry
abbrev pub block_marked : HirFunction → ℕ → BlockRow → Marks → Result Marks (Envelope Fault)
block_marked f k b m =
    then (bracket_marked k b (node_at m.nodes k)
    (record { pending = open_after k m.pending; nodes = m.nodes; counter = m.counter }) (bracket_of f b)) (λ w.
    walked (successor_marked f k b (node_at m.nodes k)) 0 w (terminal_successors f.words b))
