-- A scope that has ended where a block begins is left alone for good.
use Rattle.std.proofs.Common.{◌≡◌, ℕ, ◌≤◌, Bool, true, false, cond, not, eqb, ltb, leb, List, [], ◌∷◌, Some, None, Option, refl, ap, ◌∙◌, arith}
use Rattle.std.specs.List.{AllByRecursion}
use Rattle.std.proofs.lemmas.Bool.{le-ltb, and_left, and_right, or_from}
use Rattle.react_compiler_hir.specs.declared.rows.MutableRange.{MutableRange}
use Rattle.react_compiler_hir.specs.declared.rows.BlockRow.{BlockRow}
use Rattle.react_compiler_hir.specs.declared.rows.InstructionRow.{InstructionRow}
use Rattle.react_compiler_hir.specs.declared.rows.IdentifierRow.{IdentifierRow}
use Rattle.react_compiler_hir.specs.Function.{HirFunction}
use Rattle.visitors.specs.Mentions.{instructions_of, instruction_mentions, terminal_operands, block_first_number}
use Rattle.rules.specs.Rows.{contains, identifier_scope}
use Rattle.align_rules.specs.Marks.{Node, Marks, node_at, closing_at, open_after}
use Rattle.align_rules.specs.Ranges.{Tracked, Reach, reaching, node_reach, entered, placed, stretched, terminal_reach}
use Rattle.align_laws.proofs.Runs.{scope_run, places_run, instructions_run, placed_run, block_run}

pub reaching_not : (test : Bool) (to : Reach) (r : MutableRange) → test ≡ false → reaching test to r ≡ r
reaching_not false to r e = refl
reaching_not true to r e =
    let no : ◌≡◌ {A = ℕ} 0 1 = cc in
    absurd (omega arith)

-- not active, and ends there
pub record Gone (end : ℕ) (r : Tracked) : Type 0 where
  pub idle : r.active ≡ false
  pub ends : r.range.end ≡ end

gone_entered : (first : ℕ) (closing : Option ℕ) (r : Tracked) → r.range.end ≤ first → Gone r.range.end (entered first closing r)
gone_entered first closing r h =
    let no = and_right r.active (ltb first r.range.end) (le-ltb first r.range.end h) in
    record { idle = no; ends = ap (λ x. x.end) (reaching_not _ (record { down = closing; up = None }) r.range no) }

gone_placed : (own : Option Node) (number end : ℕ) (r : Tracked) → end ≤ number → Gone end r → Gone end (placed own number r)
gone_placed own number end r l h =
    let past : r.range.end ≤ number = omega (arith, h.ends) in
    let out : contains r.range number ≡ false = and_right (leb r.range.start number) (ltb number r.range.end) (le-ltb number r.range.end past) in
    record {
      idle = or_from r.active (contains r.range number) h.idle out;
      ends = ap (λ x. x.end) (reaching_not _ (node_reach own) r.range (and_left (contains r.range number) (not r.seen) out)) ∙ h.ends;
    }

either_gone : (b : Bool) (end : ℕ) (s t : Tracked) → Gone end s → Gone end t → Gone end (cond b s t)
either_gone true end s t h k = h
either_gone false end s t h k = k

gone_scope : (own : Option Node) (number p end : ℕ) (o : Option ℕ) (r : Tracked) → end ≤ number → Gone end r → Gone end (scope_run own number p o r)
gone_scope own number p end None r l h = h
gone_scope own number p end (Some q) r l h = either_gone (eqb q p) end (placed own number r) r (gone_placed own number end r l h) h

module _ (ds : List IdentifierRow) (own : Option Node) (p end : ℕ) where
  gone_places : (number : ℕ) (r : Tracked) (is : List ℕ) → end ≤ number → Gone end r → Gone end (places_run ds own p number r is)
  gone_places number r [] l h = h
  gone_places number r (i ∷ is) l h = gone_places number (scope_run own number p (identifier_scope ds i) r) is l (gone_scope own number p end (identifier_scope ds i) r l h)

  gone_instructions : (a : ℕ) (ws : List ℕ) (r : Tracked) (xs : List InstructionRow) → end ≤ a → AllByRecursion (λ x. a ≤ x.number) xs → Gone end r → Gone end (instructions_run ds own p ws r xs)
  gone_instructions a ws r [] l m h = h
  gone_instructions a ws r (x ∷ xs) l m h =
      gone_instructions a ws (places_run ds own p x.number r (instruction_mentions ws x)) xs l m.1
      (gone_places x.number r (instruction_mentions ws x) (omega (arith, m.0)) h)

gone_stretched : (terminal end : ℕ) (to : Reach) (r : Tracked) → Gone end r → Gone end (stretched terminal to r)
gone_stretched terminal end to r h = record {
  idle = h.idle;
  ends = ap (λ x. x.end) (reaching_not _ to r.range (and_left r.active (ltb terminal r.range.end) h.idle)) ∙ h.ends;
}

-- a block whose numbers are a and more
pub gone_block : (f : HirFunction) (ds : List IdentifierRow) (p k a : ℕ) (b : BlockRow) (m : Marks) (r : Tracked) → block_first_number f.instructions b ≡ a → AllByRecursion (λ x. a ≤ x.number) (instructions_of f.instructions b) → a ≤ b.terminal_number → r.range.end ≤ a → Gone r.range.end (block_run f ds p k b m r)
gone_block f ds p k a b m r first least last h =
    let own = node_at m.nodes k in
    let e = r.range.end in
    let s = entered (block_first_number f.instructions b) (closing_at k m.pending) r in
    let t = instructions_run ds own p f.words s (instructions_of f.instructions b) in
    gone_stretched b.terminal_number e (terminal_reach f (open_after k m.pending) b) (placed_run ds own p f b s)
    (gone_places ds own p e b.terminal_number t (terminal_operands f.words b) (omega arith)
    (gone_instructions ds own p e a f.words s (instructions_of f.instructions b) h least
    (gone_entered (block_first_number f.instructions b) (closing_at k m.pending) r (omega arith))))
