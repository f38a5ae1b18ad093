-- The way of one scope through a block, alone.
use Rattle.std.proofs.Common.{◌≡◌, ℕ, ◌<◌, cond, eqb, List, [], ◌∷◌, map, length, get_or, set, Some, None, Option, sym, ap, ◌∙◌, inl, inr, arith}
use Rattle.std.proofs.lemmas.List.{length-set, length-map, get_or-set_same, get_or-set_other, get_or-map}
use Rattle.std.proofs.lemmas.Bool.{cases_eq, cond-true, cond-false, eq-eqb, ne_eqb}
use Rattle.react_compiler_hir.specs.declared.rows.BlockRow.{BlockRow}
use Rattle.react_compiler_hir.specs.declared.rows.InstructionRow.{InstructionRow}
use Rattle.react_compiler_hir.specs.declared.rows.IdentifierRow.{IdentifierRow}
use Rattle.react_compiler_hir.specs.Function.{HirFunction}
use Rattle.visitors.specs.Mentions.{instructions_of, instruction_mentions, terminal_operands, block_first_number}
use Rattle.rules.specs.Rows.{identifier_scope}
use Rattle.align_rules.specs.Marks.{Node, Marks, node_at, closing_at, open_after}
use Rattle.align_rules.specs.Ranges.{Tracked, untracked, entered, placed, stretched, terminal_reach, scope_placed, places_tracked, run_tracked, block_placed, block_tracked}

-- at a place whose identifier has this scope, if any
abbrev pub scope_run : Option Node → ℕ → ℕ → Option ℕ → Tracked → Tracked
scope_run own number p None r = r
scope_run own number p (Some q) r = cond (eqb q p) (placed own number r) r

module _ (ds : List IdentifierRow) (own : Option Node) (p : ℕ) where
  abbrev pub places_run : ℕ → Tracked → List ℕ → Tracked
  places_run number r [] = r
  places_run number r (i ∷ is) = places_run number (scope_run own number p (identifier_scope ds i) r) is

  abbrev pub instructions_run : List ℕ → Tracked → List InstructionRow → Tracked
  instructions_run ws r [] = r
  instructions_run ws r (x ∷ xs) = instructions_run ws (places_run x.number r (instruction_mentions ws x)) xs

  abbrev pub placed_run : HirFunction → BlockRow → Tracked → Tracked
  placed_run f b r =
      places_run b.terminal_number (instructions_run f.words r (instructions_of f.instructions b))
      (terminal_operands f.words b)

-- up to the terminal of the block at position k, and with it
abbrev pub terminal_run : HirFunction → List IdentifierRow → ℕ → ℕ → BlockRow → Marks → Tracked → Tracked
terminal_run f ds p k b m r =
    placed_run ds (node_at m.nodes k) p f b
    (entered (block_first_number f.instructions b) (closing_at k m.pending) r)

abbrev pub block_run : HirFunction → List IdentifierRow → ℕ → ℕ → BlockRow → Marks → Tracked → Tracked
block_run f ds p k b m r =
    stretched b.terminal_number (terminal_reach f (open_after k m.pending) b) (terminal_run f ds p k b m r)

abbrev pub at : List Tracked → ℕ → Tracked
at rs p = get_or rs p untracked

-- it is at its position what all scopes do
pub record Alone (p : ℕ) (rs : List Tracked) (r : Tracked) (count : ℕ) : Type 0 where
  pub long : length rs ≡ count
  pub here : p < count → at rs p ≡ r

module _ (ds : List IdentifierRow) (own : Option Node) (p : ℕ) (count : ℕ) where
  scope_alone : (number : ℕ) (rs : List Tracked) (r : Tracked) (o : Option ℕ) → Alone p rs r count → Alone p (scope_placed ds own number rs o) (scope_run own number p o r) count
  scope_alone number rs r None h = h
  scope_alone number rs r (Some q) h = record {
    long = length-set rs q _ ∙ h.long;
    here = λ known. elim (cases_eq p q) [
      | inl e ↦
          let l : q < length rs = omega (arith, h.long) in
          let there : at rs q ≡ r = ap (at rs) (sym e) ∙ h.here known in
          ap (at (set rs q (placed own number (at rs q)))) e ∙
          get_or-set_same rs q (placed own number (at rs q)) untracked l ∙ ap (placed own number) there ∙
          sym (cond-true (eqb q p) (placed own number r) r (eq-eqb q p (sym e)))
      | inr n ↦
          get_or-set_other rs q p (placed own number (at rs q)) untracked n ∙ h.here known ∙
          sym (cond-false (eqb q p) (placed own number r) r (ne_eqb q p (λ e. n (sym e))))
    ];
  }

  places_alone : (number : ℕ) (rs : List Tracked) (r : Tracked) (is : List ℕ) → Alone p rs r count → Alone p (places_tracked ds own number rs is) (places_run ds own p number r is) count
  places_alone number rs r [] h = h
  places_alone number rs r (i ∷ is) h =
      places_alone number (scope_placed ds own number rs (identifier_scope ds i)) (scope_run own number p (identifier_scope ds i) r) is
      (scope_alone number rs r (identifier_scope ds i) h)

  instructions_alone : (ws : List ℕ) (rs : List Tracked) (r : Tracked) (xs : List InstructionRow) → Alone p rs r count → Alone p (run_tracked ds own ws rs xs) (instructions_run ds own p ws r xs) count
  instructions_alone ws rs r [] h = h
  instructions_alone ws rs r (x ∷ xs) h =
      instructions_alone ws (places_tracked ds own x.number rs (instruction_mentions ws x)) (places_run ds own p x.number r (instruction_mentions ws x)) xs
      (places_alone x.number rs r (instruction_mentions ws x) h)

  placed_alone : (f : HirFunction) (b : BlockRow) (rs : List Tracked) (r : Tracked) → Alone p rs r count → Alone p (block_placed ds own f b rs) (placed_run ds own p f b r) count
  placed_alone f b rs r h =
      places_alone b.terminal_number (run_tracked ds own f.words rs (instructions_of f.instructions b))
      (instructions_run ds own p f.words r (instructions_of f.instructions b)) (terminal_operands f.words b)
      (instructions_alone f.words rs r (instructions_of f.instructions b) h)

map_alone : (g : Tracked → Tracked) (p count : ℕ) (rs : List Tracked) (r : Tracked) → Alone p rs r count → Alone p (map g rs) (g r) count
map_alone g p count rs r h = record {
  long = length-map rs g ∙ h.long;
  here = λ known.
      let l : p < length rs = omega (arith, h.long) in
      get_or-map g rs p untracked untracked l ∙ ap g (h.here known);
}

pub block_alone : (f : HirFunction) (ds : List IdentifierRow) (p k count : ℕ) (b : BlockRow) (m : Marks) (rs : List Tracked) (r : Tracked) → Alone p rs r count → Alone p (block_tracked f ds k b m rs) (block_run f ds p k b m r) count
block_alone f ds p k count b m rs r h =
    let own = node_at m.nodes k in
    let enter = entered (block_first_number f.instructions b) (closing_at k m.pending) in
    map_alone (stretched b.terminal_number (terminal_reach f (open_after k m.pending) b)) p count _ _
    (placed_alone ds own p count f b _ _ (map_alone enter p count rs r h))
