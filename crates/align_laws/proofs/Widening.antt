-- No step makes a range narrower.
use Rattle.std.proofs.Common.{◌≡◌, ℕ, ◌≤◌, Bool, true, false, cond, eqb, List, [], ◌∷◌, Some, None, Option, refl, ◌∙◌, arith}
use Rattle.react_compiler_hir.specs.declared.rows.BlockRow.{BlockRow}
use Rattle.react_compiler_hir.specs.declared.rows.InstructionRow.{InstructionRow}
use Rattle.react_compiler_hir.specs.declared.rows.IdentifierRow.{IdentifierRow}
use Rattle.react_compiler_hir.specs.Function.{HirFunction}
use Rattle.visitors.specs.Mentions.{instructions_of, instruction_mentions, terminal_operands, block_first_number}
use Rattle.rules.specs.Rows.{identifier_scope}
use Rattle.align_rules.specs.Marks.{Node, Marks, node_at, closing_at, open_after}
use Rattle.align_rules.specs.Ranges.{Tracked, Reach, lowered, raised, entered, placed, stretched, terminal_reach}
use Rattle.align_laws.proofs.Runs.{scope_run, places_run, instructions_run, placed_run, terminal_run, block_run}

pub record Wider (r w : Tracked) : Type 0 where
  pub id : w.range.id ≡ r.range.id
  pub start : w.range.start ≤ r.range.start
  pub end : r.range.end ≤ w.range.end

pub wider_same : (r : Tracked) → Wider r r
wider_same r = record { id = refl; start = omega arith; end = omega arith }

pub wider_trans : (r s t : Tracked) → Wider r s → Wider s t → Wider r t
wider_trans r s t h k = record { id = k.id ∙ h.id; start = omega arith; end = omega arith }

lowered_below : (o : Option ℕ) (n : ℕ) → lowered o n ≤ n
lowered_below None n = omega arith
lowered_below (Some l) n = omega arith

raised_above : (o : Option ℕ) (n : ℕ) → n ≤ raised o n
raised_above None n = omega arith
raised_above (Some m) n = omega arith

pub entered_wider : (first : ℕ) (closing : Option ℕ) (r : Tracked) → Wider r (entered first closing r)
entered_wider first closing r = record { id = refl; start = lowered_below _ r.range.start; end = raised_above _ r.range.end }

placed_wider : (own : Option Node) (number : ℕ) (r : Tracked) → Wider r (placed own number r)
placed_wider own number r = record { id = refl; start = lowered_below _ r.range.start; end = raised_above _ r.range.end }

stretched_wider : (terminal : ℕ) (to : Reach) (r : Tracked) → Wider r (stretched terminal to r)
stretched_wider terminal to r = record { id = refl; start = lowered_below _ r.range.start; end = raised_above _ r.range.end }

either_wider : (b : Bool) (r s t : Tracked) → Wider r s → Wider r t → Wider r (cond b s t)
either_wider true r s t h k = h
either_wider false r s t h k = k

pub scope_wider : (own : Option Node) (number p : ℕ) (o : Option ℕ) (r : Tracked) → Wider r (scope_run own number p o r)
scope_wider own number p None r = wider_same r
scope_wider own number p (Some q) r = either_wider (eqb q p) r (placed own number r) r (placed_wider own number r) (wider_same r)

module _ (ds : List IdentifierRow) (own : Option Node) (p : ℕ) where
  pub places_wider : (number : ℕ) (r : Tracked) (is : List ℕ) → Wider r (places_run ds own p number r is)
  places_wider number r [] = wider_same r
  places_wider number r (i ∷ is) =
      let s = scope_run own number p (identifier_scope ds i) r in
      wider_trans r s _ (scope_wider own number p (identifier_scope ds i) r) (places_wider number s is)

  pub instructions_wider : (ws : List ℕ) (r : Tracked) (xs : List InstructionRow) → Wider r (instructions_run ds own p ws r xs)
  instructions_wider ws r [] = wider_same r
  instructions_wider ws r (x ∷ xs) =
      let s = places_run ds own p x.number r (instruction_mentions ws x) in
      wider_trans r s _ (places_wider x.number r (instruction_mentions ws x)) (instructions_wider ws s xs)

  placed_run_wider : (f : HirFunction) (b : BlockRow) (r : Tracked) → Wider r (placed_run ds own p f b r)
  placed_run_wider f b r =
      let s = instructions_run ds own p f.words r (instructions_of f.instructions b) in
      wider_trans r s _ (instructions_wider f.words r (instructions_of f.instructions b)) (places_wider b.terminal_number s (terminal_operands f.words b))

-- from the entry of the block on, and as a whole
pub after_entry_wider : (f : HirFunction) (ds : List IdentifierRow) (p k : ℕ) (b : BlockRow) (m : Marks) (r : Tracked) → Wider (entered (block_first_number f.instructions b) (closing_at k m.pending) r) (block_run f ds p k b m r)
after_entry_wider f ds p k b m r =
    let s = entered (block_first_number f.instructions b) (closing_at k m.pending) r in
    let t = terminal_run f ds p k b m r in
    wider_trans s t _ (placed_run_wider ds (node_at m.nodes k) p f b s)
    (stretched_wider b.terminal_number (terminal_reach f (open_after k m.pending) b) t)

pub block_wider : (f : HirFunction) (ds : List IdentifierRow) (p k : ℕ) (b : BlockRow) (m : Marks) (r : Tracked) → Wider r (block_run f ds p k b m r)
block_wider f ds p k b m r =
    let s = entered (block_first_number f.instructions b) (closing_at k m.pending) r in
    wider_trans r s _ (entered_wider (block_first_number f.instructions b) (closing_at k m.pending) r) (after_entry_wider f ds p k b m r)
