-- A scope that is not active, and has the range that it was found with, rests until a place meets it.
use Rattle.std.proofs.Common.{◌≡◌, ℕ, Bool, true, false, cond, not, ◌&&◌, eqb, ltb, List, [], ◌∷◌, Some, None, Option, sym, ap, ◌∙◌, subst, inl, inr}
use Rattle.std.specs.List.{AllByRecursion}
use Rattle.std.proofs.lemmas.Bool.{cases_Bool, cases_eq, and_left, or_from, cond-false, ne_eqb}
use Rattle.react_compiler_hir.specs.declared.rows.MutableRange.{MutableRange}
use Rattle.react_compiler_hir.specs.declared.rows.BlockRow.{BlockRow}
use Rattle.react_compiler_hir.specs.declared.rows.InstructionRow.{InstructionRow}
use Rattle.react_compiler_hir.specs.declared.rows.IdentifierRow.{IdentifierRow}
use Rattle.react_compiler_hir.specs.Function.{HirFunction}
use Rattle.visitors.specs.Mentions.{instructions_of, instruction_mentions, terminal_operands, block_first_number}
use Rattle.rules.specs.Rows.{contains, identifier_scope}
use Rattle.align_rules.specs.Marks.{Node, Marks, node_at, closing_at, open_after}
use Rattle.align_rules.specs.Ranges.{Tracked, Reach, node_reach, stays, entered, placed, stretched, terminal_reach}
use Rattle.align_laws.proofs.Locating.{Missed}
use Rattle.align_laws.proofs.Runs.{scope_run, places_run, instructions_run, terminal_run, block_run}
use Rattle.align_laws.proofs.Leaving.{reaching_not}

pub record Rests (found : MutableRange) (r : Tracked) : Type 0 where
  pub idle : r.active ≡ false
  pub same : r.range ≡ found

module _ (found : MutableRange) where
  pub rests_entered : (first : ℕ) (closing : Option ℕ) (r : Tracked) → Rests found r → Rests found (entered first closing r)
  rests_entered first closing r h =
      let no = and_left r.active (ltb first r.range.end) h.idle in
      record { idle = no; same = reaching_not (stays first r) (record { down = closing; up = None }) r.range no ∙ h.same }

  pub rests_placed : (own : Option Node) (number : ℕ) (r : Tracked) → contains r.range number ≡ false → Rests found r → Rests found (placed own number r)
  rests_placed own number r c h =
      let no = and_left (contains r.range number) (not r.seen) c in
      record {
        idle = or_from r.active (contains r.range number) h.idle c;
        same = reaching_not (contains r.range number && not r.seen) (node_reach own) r.range no ∙ h.same;
      }

  pub rests_stretched : (terminal : ℕ) (to : Reach) (r : Tracked) → Rests found r → Rests found (stretched terminal to r)
  rests_stretched terminal to r h =
      let no = and_left r.active (ltb terminal r.range.end) h.idle in
      record { idle = h.idle; same = reaching_not (r.active && ltb terminal r.range.end) to r.range no ∙ h.same }

  rests_either : (b : Bool) (r s : Tracked) → Rests found r → Rests found s → Rests found (cond b r s)
  rests_either true r s h k = h
  rests_either false r s h k = k

  rests_scope : (own : Option Node) (number p : ℕ) (o : Option ℕ) (r : Tracked) → (o ≡ Some p → contains found number ≡ true → ⊥) → Rests found r → Rests found (scope_run own number p o r)
  rests_scope own number p None r miss h = h
  rests_scope own number p (Some q) r miss h = elim (cases_eq q p) [
    | inl e ↦ elim (cases_Bool (contains found number)) [
      | inl c ↦ absurd (miss (ap Some e) c)
      | inr c ↦
          rests_either (eqb q p) (placed own number r) r
          (rests_placed own number r (subst (λ x. contains x number ≡ false) (sym h.same) c) h) h
    ]
    | inr n ↦ subst (Rests found) (sym (cond-false (eqb q p) (placed own number r) r (ne_eqb q p n))) h
  ]

  module _ (ds : List IdentifierRow) (own : Option Node) (p : ℕ) where
    rests_places : (number : ℕ) (r : Tracked) (is : List ℕ) → AllByRecursion (λ i. identifier_scope ds i ≡ Some p → contains found number ≡ true → ⊥) is → Rests found r → Rests found (places_run ds own p number r is)
    rests_places number r [] m h = h
    rests_places number r (i ∷ is) m h = rests_places number (scope_run own number p (identifier_scope ds i) r) is m.1 (rests_scope own number p (identifier_scope ds i) r m.0 h)

    rests_instructions : (ws : List ℕ) (r : Tracked) (xs : List InstructionRow) → AllByRecursion (λ x. AllByRecursion (λ i. identifier_scope ds i ≡ Some p → contains found x.number ≡ true → ⊥) (instruction_mentions ws x)) xs → Rests found r → Rests found (instructions_run ds own p ws r xs)
    rests_instructions ws r [] m h = h
    rests_instructions ws r (x ∷ xs) m h = rests_instructions ws (places_run ds own p x.number r (instruction_mentions ws x)) xs m.1 (rests_places x.number r (instruction_mentions ws x) m.0 h)

  -- a block that does not meet the scope
  pub rests_block : (f : HirFunction) (ds : List IdentifierRow) (p k : ℕ) (b : BlockRow) (m : Marks) (r : Tracked) → Missed (λ number i. identifier_scope ds i ≡ Some p → contains found number ≡ true → ⊥) f b → Rests found r → Rests found (block_run f ds p k b m r)
  rests_block f ds p k b m r miss h =
      let own = node_at m.nodes k in
      let s = entered (block_first_number f.instructions b) (closing_at k m.pending) r in
      let t = instructions_run ds own p f.words s (instructions_of f.instructions b) in
      rests_stretched b.terminal_number (terminal_reach f (open_after k m.pending) b) (terminal_run f ds p k b m r)
      (rests_places ds own p b.terminal_number t (terminal_operands f.words b) miss.1
      (rests_instructions ds own p f.words s (instructions_of f.instructions b) miss.0
      (rests_entered (block_first_number f.instructions b) (closing_at k m.pending) r h)))
