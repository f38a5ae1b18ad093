-- A scope with a sound range has a sound range after every step.
use Rattle.std.proofs.Common.{◌≡◌, ℕ, ◌+◌, ◌≤◌, Bool, true, false, cond, not, ◌&&◌, eqb, ltb, leb, ◌⊎◌, List, [], ◌∷◌, Some, None, Option, sym, subst, inl, inr, arith}
use Rattle.std.proofs.lemmas.Bool.{cases_Bool, and_parts, and_from, or_cases, or_right, eqb-true, leb-true, ltb-true, le-leb}
use Rattle.react_compiler_hir.specs.declared.rows.MutableRange.{MutableRange}
use Rattle.react_compiler_hir.specs.declared.rows.BlockRow.{BlockRow}
use Rattle.react_compiler_hir.specs.declared.rows.InstructionRow.{InstructionRow}
use Rattle.react_compiler_hir.specs.declared.rows.IdentifierRow.{IdentifierRow}
use Rattle.react_compiler_hir.specs.Function.{HirFunction}
use Rattle.visitors.specs.Mentions.{instructions_of, instruction_mentions, terminal_operands, block_first_number}
use Rattle.function_tests.specs.Ranges.{range_sound}
use Rattle.rules.specs.Rows.{contains, identifier_scope}
use Rattle.align_rules.specs.Marks.{Node, Marks, node_at, closing_at, open_after}
use Rattle.align_rules.specs.Ranges.{Tracked, Reach, lowered, raised, only, reaching, node_reach, stays, entered, placed, stretched, terminal_reach}
use Rattle.align_laws.proofs.Runs.{scope_run, places_run, instructions_run, terminal_run, block_run}
use Rattle.align_laws.proofs.Resting.{Rests, rests_entered, rests_placed, rests_stretched}
use Rattle.align_laws.proofs.Bounds.{IfSome, NodeBound, ReachBound, node_reach_bound}

module _ (n : ℕ) where
  pub record Within (r : MutableRange) : Type 0 where
    pub low : 1 ≤ r.start
    pub ordered : r.start ≤ r.end
    pub high : r.end ≤ n + 1

  within_sound : (r : MutableRange) → Within r → range_sound n r ≡ true
  within_sound r h =
      or_right (eqb r.start r.end) (leb 1 r.start && leb r.start r.end && leb r.end (n + 1))
      (and_from _ (leb r.end (n + 1))
      (and_from (leb 1 r.start) (leb r.start r.end) (le-leb 1 r.start h.low) (le-leb r.start r.end h.ordered))
      (le-leb r.end (n + 1) h.high))

  -- a range that is sound and contains a number
  sound_within : (r : MutableRange) (number : ℕ) → range_sound n r ≡ true → contains r number ≡ true → Within r
  sound_within r number s c =
      let parts = and_parts (leb r.start number) (ltb number r.end) c in
      let from = leb-true r.start number parts.0 in
      let to = ltb-true number r.end parts.1 in
      elim (or_cases (eqb r.start r.end) (leb 1 r.start && leb r.start r.end && leb r.end (n + 1)) s) [
        | inl e ↦ let same = eqb-true r.start r.end e in absurd (omega arith)
        | inr e ↦
            let outer = and_parts (leb 1 r.start && leb r.start r.end) (leb r.end (n + 1)) e in
            let inner = and_parts (leb 1 r.start) (leb r.start r.end) outer.0 in
            record {
              low = leb-true 1 r.start inner.0;
              ordered = leb-true r.start r.end inner.1;
              high = leb-true r.end (n + 1) outer.1;
            }
      ]

  lowered_bound : (test : Bool) (o : Option ℕ) (s : ℕ) → IfSome (λ d. 1 ≤ d) o → 1 ≤ s → (1 ≤ lowered (only test o) s) × (lowered (only test o) s ≤ s)
  lowered_bound true None s h l = (l, omega arith)
  lowered_bound true (Some d) s h l = (omega arith, omega arith)
  lowered_bound false o s h l = (l, omega arith)

  raised_bound : (test : Bool) (o : Option ℕ) (e : ℕ) → IfSome (λ u. u ≤ n + 1) o → e ≤ n + 1 → (raised (only test o) e ≤ n + 1) × (e ≤ raised (only test o) e)
  raised_bound true None e h l = (l, omega arith)
  raised_bound true (Some u) e h l = (omega arith, omega arith)
  raised_bound false o e h l = (l, omega arith)

  reaching_within : (test : Bool) (to : Reach) (r : MutableRange) → ReachBound n to → Within r → Within (reaching test to r)
  reaching_within test to r b h =
      let s = lowered_bound test to.down r.start b.down h.low in
      let e = raised_bound test to.up r.end b.up h.high in
      record { low = s.0; ordered = omega (arith, s.1, e.1, h.ordered); high = e.0 }

  -- a scope that was found with this range: it rests, or it lies within the function
  module _ (found : MutableRange) (sound : range_sound n found ≡ true) where
    abbrev pub Stays : Tracked → Type 0
    Stays r = Rests found r ⊎ Within r.range

    pub stays_sound : (r : Tracked) → Stays r → range_sound n r.range ≡ true
    stays_sound r (inl h) = subst (λ x. range_sound n x ≡ true) (sym h.same) sound
    stays_sound r (inr h) = within_sound r.range h

    stays_entered : (first : ℕ) (closing : Option ℕ) (r : Tracked) → IfSome (λ t. 1 ≤ t) closing → Stays r → Stays (entered first closing r)
    stays_entered first closing r b (inl h) = inl (rests_entered found first closing r h)
    stays_entered first closing r b (inr h) = inr (reaching_within (stays first r) (record { down = closing; up = None }) r.range (record { down = b; up = tt }) h)

    stays_placed : (own : Option Node) (number : ℕ) (r : Tracked) → IfSome (NodeBound n) own → Stays r → Stays (placed own number r)
    stays_placed own number r b (inr h) = inr (reaching_within (contains r.range number && not r.seen) (node_reach own) r.range (node_reach_bound n own b) h)
    stays_placed own number r b (inl h) = elim (cases_Bool (contains r.range number)) [
      | inl c ↦
          let fits = sound_within r.range number (subst (λ x. range_sound n x ≡ true) (sym h.same) sound) c in
          inr (reaching_within (contains r.range number && not r.seen) (node_reach own) r.range (node_reach_bound n own b) fits)
      | inr c ↦ inl (rests_placed found own number r c h)
    ]

    stays_stretched : (terminal : ℕ) (to : Reach) (r : Tracked) → ReachBound n to → Stays r → Stays (stretched terminal to r)
    stays_stretched terminal to r b (inl h) = inl (rests_stretched found terminal to r h)
    stays_stretched terminal to r b (inr h) = inr (reaching_within (r.active && ltb terminal r.range.end) to r.range b h)

    stays_either : (b : Bool) (r s : Tracked) → Stays r → Stays s → Stays (cond b r s)
    stays_either true r s h k = h
    stays_either false r s h k = k

    stays_scope : (own : Option Node) (number p : ℕ) (o : Option ℕ) (r : Tracked) → IfSome (NodeBound n) own → Stays r → Stays (scope_run own number p o r)
    stays_scope own number p None r b h = h
    stays_scope own number p (Some q) r b h = stays_either (eqb q p) (placed own number r) r (stays_placed own number r b h) h

    module _ (ds : List IdentifierRow) (own : Option Node) (b : IfSome (NodeBound n) own) (p : ℕ) where
      stays_places : (number : ℕ) (r : Tracked) (is : List ℕ) → Stays r → Stays (places_run ds own p number r is)
      stays_places number r [] h = h
      stays_places number r (i ∷ is) h = stays_places number (scope_run own number p (identifier_scope ds i) r) is (stays_scope own number p (identifier_scope ds i) r b h)

      stays_instructions : (ws : List ℕ) (r : Tracked) (xs : List InstructionRow) → Stays r → Stays (instructions_run ds own p ws r xs)
      stays_instructions ws r [] h = h
      stays_instructions ws r (x ∷ xs) h = stays_instructions ws (places_run ds own p x.number r (instruction_mentions ws x)) xs (stays_places x.number r (instruction_mentions ws x) h)

    pub stays_block : (f : HirFunction) (ds : List IdentifierRow) (p k : ℕ) (b : BlockRow) (m : Marks) (r : Tracked) → IfSome (NodeBound n) (node_at m.nodes k) → IfSome (λ t. 1 ≤ t) (closing_at k m.pending) → ReachBound n (terminal_reach f (open_after k m.pending) b) → Stays r → Stays (block_run f ds p k b m r)
    stays_block f ds p k b m r own closing to h =
        let s = entered (block_first_number f.instructions b) (closing_at k m.pending) r in
        let t = instructions_run ds (node_at m.nodes k) p f.words s (instructions_of f.instructions b) in
        stays_stretched b.terminal_number (terminal_reach f (open_after k m.pending) b) (terminal_run f ds p k b m r) to
        (stays_places ds (node_at m.nodes k) own p b.terminal_number t (terminal_operands f.words b)
        (stays_instructions ds (node_at m.nodes k) own p f.words s (instructions_of f.instructions b)
        (stays_entered (block_first_number f.instructions b) (closing_at k m.pending) r closing h)))
