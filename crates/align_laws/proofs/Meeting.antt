-- A scope that a block meets is active after it, and so is one that was active and has not ended.
use Rattle.std.proofs.Common.{◌≡◌, ℕ, zero, suc, ◌<◌, ◌≤◌, Bool, true, false, cond, ◌&&◌, eqb, ltb, leb, ◌⊎◌, List, [], ◌∷◌, length, get_or, Some, None, Option, sym, refl, ap, ◌∙◌, subst, inl, inr, arith}
use Rattle.std.specs.List.{ContainsAt}
use Rattle.std.proofs.lemmas.Bool.{lt-ltb, le-leb, le-ltb, eq-eqb, and_from, and_right, or_left, or_right, cond-true, cases_lt}
use Rattle.react_compiler_hir.specs.declared.rows.BlockRow.{BlockRow}
use Rattle.react_compiler_hir.specs.declared.rows.InstructionRow.{InstructionRow}
use Rattle.react_compiler_hir.specs.declared.rows.IdentifierRow.{IdentifierRow}
use Rattle.react_compiler_hir.specs.Function.{HirFunction}
use Rattle.visitors.specs.Mentions.{instructions_of, instruction_mentions, terminal_operands, block_first_number}
use Rattle.rules.specs.Rows.{contains, identifier_scope}
use Rattle.align_rules.specs.Marks.{Node, Marks, node_at, closing_at}
use Rattle.align_rules.specs.Ranges.{Tracked, Reach, reaching, placed, stretched}
use Rattle.align_laws.proofs.Locating.{ByInstruction, ByTerminal}
use Rattle.align_laws.proofs.Runs.{scope_run, places_run, instructions_run, placed_run, block_run}
use Rattle.align_laws.proofs.Widening.{Wider, entered_wider, scope_wider, places_wider, instructions_wider}
use Rattle.align_laws.proofs.Leaving.{reaching_not}

-- the range contains the number
pub record Inside (r : Tracked) (number : ℕ) : Type 0 where
  pub low : r.range.start ≤ number
  pub high : number < r.range.end

pub inside_wider : (r s : Tracked) (number : ℕ) → Wider r s → Inside r number → Inside s number
inside_wider r s number w h = record { low = omega arith; high = omega arith }

either_active : (b : Bool) (s t : Tracked) → s.active ≡ true → t.active ≡ true → (cond b s t).active ≡ true
either_active true s t h k = h
either_active false s t h k = k

active_scope : (own : Option Node) (number p : ℕ) (o : Option ℕ) (r : Tracked) → r.active ≡ true → (scope_run own number p o r).active ≡ true
active_scope own number p None r h = h
active_scope own number p (Some q) r h = either_active (eqb q p) (placed own number r) r (or_left r.active (contains r.range number) h) h

met_scope : (own : Option Node) (number p : ℕ) (o : Option ℕ) (r : Tracked) → o ≡ Some p → Inside r number → (scope_run own number p o r).active ≡ true
met_scope own number p o r e h =
    let in' : contains r.range number ≡ true = and_from (leb r.range.start number) (ltb number r.range.end) (le-leb r.range.start number h.low) (lt-ltb number r.range.end h.high) in
    let here = cond-true (eqb p p) (placed own number r) r (eq-eqb p p refl) in
    subst (λ x. (scope_run own number p x r).active ≡ true) (sym e)
    (subst (λ x. x.active ≡ true) (sym here) (or_right r.active (contains r.range number) in'))

module _ (ds : List IdentifierRow) (own : Option Node) (p : ℕ) where
  active_places : (number : ℕ) (r : Tracked) (is : List ℕ) → r.active ≡ true → (places_run ds own p number r is).active ≡ true
  active_places number r [] h = h
  active_places number r (i ∷ is) h = active_places number (scope_run own number p (identifier_scope ds i) r) is (active_scope own number p (identifier_scope ds i) r h)

  active_instructions : (ws : List ℕ) (r : Tracked) (xs : List InstructionRow) → r.active ≡ true → (instructions_run ds own p ws r xs).active ≡ true
  active_instructions ws r [] h = h
  active_instructions ws r (x ∷ xs) h = active_instructions ws (places_run ds own p x.number r (instruction_mentions ws x)) xs (active_places x.number r (instruction_mentions ws x) h)

  met_places : (number : ℕ) (r : Tracked) (is : List ℕ) (i k : ℕ) → k < length is → ((d : ℕ) → get_or is k d ≡ i) → identifier_scope ds i ≡ Some p → Inside r number → (places_run ds own p number r is).active ≡ true
  met_places number r [] i k l e s h = absurd (omega arith)
  met_places number r (j ∷ is) i zero l e s h =
      let here : identifier_scope ds j ≡ Some p = ap (identifier_scope ds) (e 0) ∙ s in
      active_places number (scope_run own number p (identifier_scope ds j) r) is (met_scope own number p (identifier_scope ds j) r here h)
  met_places number r (j ∷ is) i (suc k) l e s h =
      let next = scope_run own number p (identifier_scope ds j) r in
      met_places number next is i k (omega arith) e s (inside_wider r next number (scope_wider own number p (identifier_scope ds j) r) h)

  met_instructions : (ws : List ℕ) (r : Tracked) (xs : List InstructionRow) (x : InstructionRow) (i k : ℕ) → k < length xs → ((d : InstructionRow) → get_or xs k d ≡ x) → ContainsAt (instruction_mentions ws x) i → identifier_scope ds i ≡ Some p → Inside r x.number → (instructions_run ds own p ws r xs).active ≡ true
  met_instructions ws r [] x i k l e m s h = absurd (omega arith)
  met_instructions ws r (y ∷ xs) x i zero l e m s h =
      let same : x ≡ y = sym (e x) in
      let mentioned : ContainsAt (instruction_mentions ws y) i = subst (λ z. ContainsAt (instruction_mentions ws z) i) same m in
      let within : Inside r y.number = subst (λ z. Inside r z.number) same h in
      active_instructions ws (places_run ds own p y.number r (instruction_mentions ws y)) xs
      (met_places y.number r (instruction_mentions ws y) i mentioned.0 mentioned.1 mentioned.2 s within)
  met_instructions ws r (y ∷ xs) x i (suc k) l e m s h =
      let next = places_run ds own p y.number r (instruction_mentions ws y) in
      met_instructions ws next xs x i k (omega arith) e m s (inside_wider r next x.number (places_wider ds own p y.number r (instruction_mentions ws y)) h)

  active_placed : (f : HirFunction) (b : BlockRow) (r : Tracked) → r.active ≡ true → (placed_run ds own p f b r).active ≡ true
  active_placed f b r h =
      let s = instructions_run ds own p f.words r (instructions_of f.instructions b) in
      active_places b.terminal_number s (terminal_operands f.words b) (active_instructions f.words r (instructions_of f.instructions b) h)

  met_placed : (f : HirFunction) (b : BlockRow) (r : Tracked) (number i : ℕ) → ByInstruction f b number i ⊎ ByTerminal f b number i → identifier_scope ds i ≡ Some p → Inside r number → (placed_run ds own p f b r).active ≡ true
  met_placed f b r number i (inl m) s h =
      let xs = instructions_of f.instructions b in
      let t = instructions_run ds own p f.words r xs in
      let within : Inside r m.instruction.number = subst (Inside r) (sym m.numbered) h in
      active_places b.terminal_number t (terminal_operands f.words b)
      (met_instructions f.words r xs m.instruction i m.among.0 m.among.1 m.among.2 m.mentions s within)
  met_placed f b r number i (inr m) s h =
      let xs = instructions_of f.instructions b in
      let t = instructions_run ds own p f.words r xs in
      let within : Inside t b.terminal_number = subst (Inside t) (sym m.numbered) (inside_wider r t number (instructions_wider ds own p f.words r xs) h) in
      met_places b.terminal_number t (terminal_operands f.words b) i m.mentions.0 m.mentions.1 m.mentions.2 s within

module _ (f : HirFunction) (ds : List IdentifierRow) (p k : ℕ) (b : BlockRow) (m : Marks) (r : Tracked) where
  pub active_block : r.active ≡ true → block_first_number f.instructions b < r.range.end → (block_run f ds p k b m r).active ≡ true
  active_block h l =
      active_placed ds (node_at m.nodes k) p f b _
      (and_from r.active (ltb (block_first_number f.instructions b) r.range.end) h (lt-ltb (block_first_number f.instructions b) r.range.end l))

  pub met_block : (number i : ℕ) → ByInstruction f b number i ⊎ ByTerminal f b number i → identifier_scope ds i ≡ Some p → Inside r number → (block_run f ds p k b m r).active ≡ true
  met_block number i place s h =
      met_placed ds (node_at m.nodes k) p f b _ number i place s
      (inside_wider r _ number (entered_wider (block_first_number f.instructions b) (closing_at k m.pending) r) h)

-- an active scope that ends after the terminal reaches up as far as that asks
pub stretched_up : (terminal : ℕ) (to : Reach) (end : ℕ) (r : Tracked) → to.up ≡ Some end → r.active ≡ true → ((stretched terminal to r).range.end ≤ terminal) ⊎ (end ≤ (stretched terminal to r).range.end)
stretched_up terminal to end r e h = elim (cases_lt terminal r.range.end) [
  | inl l ↦
      let test : (r.active && ltb terminal r.range.end) ≡ true = and_from r.active (ltb terminal r.range.end) h (lt-ltb terminal r.range.end l) in
      inr (subst (λ t. end ≤ (reaching t to r.range).end) (sym test)
      (subst (λ u. end ≤ (reaching true (record { down = to.down; up = u }) r.range).end) (sym e) (omega arith)))
  | inr l ↦
      let test = and_right r.active (ltb terminal r.range.end) (le-ltb terminal r.range.end l) in
      inl (subst (λ x. x.end ≤ terminal) (sym (reaching_not _ to r.range test)) l)
]
