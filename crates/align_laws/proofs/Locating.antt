-- In which block a scope is met, and by what.
use Rattle.std.proofs.Common.{◌≡◌, ℕ, zero, suc, ◌+◌, true, ◌⊎◌, List, [], ◌∷◌, ◌++◌, map, Some, refl, subst, inl, inr, arith}
use Rattle.std.specs.List.{slice_get, ContainsAt, AllByRecursion}
use Rattle.std.proofs.ByRecursion.{All-append, All-map, All-weaker, all-has, all_has_itself}
use Rattle.react_compiler_hir.specs.declared.rows.BlockRow.{BlockRow}
use Rattle.react_compiler_hir.specs.declared.rows.InstructionRow.{InstructionRow}
use Rattle.react_compiler_hir.specs.Function.{HirFunction}
use Rattle.visitors.specs.Mentions.{Mention, mentions, mentions_from, run_mentions, block_mentions, instructions_of, instruction_mentions, terminal_operands}
use Rattle.rules.specs.Rows.{Rows, contains, identifier_scope, scope_range}
use Rattle.align_rules.specs.Meets.{Met}

-- an instruction of the block has this number and mentions the identifier
pub record ByInstruction (f : HirFunction) (b : BlockRow) (number identifier : ℕ) : Type 0 where
  pub instruction : InstructionRow
  pub among : ContainsAt (instructions_of f.instructions b) instruction
  pub numbered : instruction.number ≡ number
  pub mentions : ContainsAt (instruction_mentions f.words instruction) identifier

-- the terminal of the block does
pub record ByTerminal (f : HirFunction) (b : BlockRow) (number identifier : ℕ) : Type 0 where
  pub numbered : b.terminal_number ≡ number
  pub mentions : ContainsAt (terminal_operands f.words b) identifier

record Located (f : HirFunction) (x : Mention) : Type 0 where
  position : ℕ
  block : BlockRow
  stands : slice_get f.blocks position ≡ Some block
  by : ByInstruction f block x.number x.identifier ⊎ ByTerminal f block x.number x.identifier

abbrev mention : ℕ → ℕ → ℕ → ℕ → Mention
mention block step number i = record { block = block; step = step; number = number; identifier = i }

module _ (f : HirFunction) where
  step_located : (block step number : ℕ) (is : List ℕ) → ((i : ℕ) → ContainsAt is i → Located f (mention block step number i)) → AllByRecursion (Located f) (map (mention block step number) is)
  step_located block step number is h =
      All-map (Located f) (mention block step number) is
      (All-weaker (ContainsAt is) (λ i. Located f (mention block step number i)) h is (all_has_itself is))

  module _ (k : ℕ) (b : BlockRow) (stands : slice_get f.blocks k ≡ Some b) where
    run_located : (step : ℕ) (rs : List InstructionRow) → AllByRecursion (ContainsAt (instructions_of f.instructions b)) rs → AllByRecursion (Located f) (run_mentions f.words k step rs)
    run_located step [] h = tt
    run_located step (r ∷ rs) h =
        All-append (Located f) (map (mention k step r.number) (instruction_mentions f.words r)) (run_mentions f.words k (step + 1) rs)
        (step_located k step r.number (instruction_mentions f.words r) (λ i m.
        record { position = k; block = b; stands = stands; by = inl (record { instruction = r; among = h.0; numbered = refl; mentions = m }) }))
        (run_located (step + 1) rs h.1)

    block_located : AllByRecursion (Located f) (block_mentions f k b)
    block_located =
        let rs = instructions_of f.instructions b in
        let is = terminal_operands f.words b in
        All-append (Located f) (run_mentions f.words k 0 rs) (map (mention k b.instruction_count b.terminal_number) is)
        (run_located 0 rs (all_has_itself rs))
        (step_located k b.instruction_count b.terminal_number is (λ i m.
        record { position = k; block = b; stands = stands; by = inr (record { numbered = refl; mentions = m }) }))

  from_located : (k : ℕ) (bs : List BlockRow) → ((j p : ℕ) (b : BlockRow) → k + j ≡ p → slice_get bs j ≡ Some b → slice_get f.blocks p ≡ Some b) → AllByRecursion (Located f) (mentions_from f k bs)
  from_located k [] h = tt
  from_located k (b ∷ bs) h =
      All-append (Located f) (block_mentions f k b) (mentions_from f (k + 1) bs)
      (block_located k b (h 0 k b (omega arith) refl))
      (from_located (k + 1) bs (λ j p c e g. h (suc j) p c (omega arith) g))

  located : AllByRecursion (Located f) (mentions f)
  located = from_located 0 f.blocks (λ j p b e g.
      let same : j ≡ p = omega arith in
      subst (λ q. slice_get f.blocks q ≡ Some b) same g)

-- what holds of the number and the identifier of every mention holds of those of a block
all_left : {X : Type 0} (P : X → Type 0) (xs ys : List X) → AllByRecursion P (xs ++ ys) → AllByRecursion P xs
all_left P [] ys h = tt
all_left P (x ∷ xs) ys h = (h.0, all_left P xs ys h.1)

all_right : {X : Type 0} (P : X → Type 0) (xs ys : List X) → AllByRecursion P (xs ++ ys) → AllByRecursion P ys
all_right P [] ys h = h
all_right P (x ∷ xs) ys h = all_right P xs ys h.1

all_unmapped : {X Y : Type 0} (P : Y → Type 0) (g : X → Y) (xs : List X) → AllByRecursion P (map g xs) → AllByRecursion (λ x. P (g x)) xs
all_unmapped P g [] h = tt
all_unmapped P g (x ∷ xs) h = (h.0, all_unmapped P g xs h.1)

module _ (P : ℕ → ℕ → Type 0) (f : HirFunction) where
  abbrev pub Missed : BlockRow → Type 0
  Missed b =
      AllByRecursion (λ r. AllByRecursion (P r.number) (instruction_mentions f.words r)) (instructions_of f.instructions b) ×
      AllByRecursion (P b.terminal_number) (terminal_operands f.words b)

  abbrev of_mention : Mention → Type 0
  of_mention x = P x.number x.identifier

  run_missed : (k step : ℕ) (rs : List InstructionRow) → AllByRecursion of_mention (run_mentions f.words k step rs) → AllByRecursion (λ r. AllByRecursion (P r.number) (instruction_mentions f.words r)) rs
  run_missed k step [] h = tt
  run_missed k step (r ∷ rs) h =
      let here = map (mention k step r.number) (instruction_mentions f.words r) in
      let rest = run_mentions f.words k (step + 1) rs in (
        all_unmapped of_mention (mention k step r.number) (instruction_mentions f.words r) (all_left of_mention here rest h),
        run_missed k (step + 1) rs (all_right of_mention here rest h),
      )

  block_missed : (k : ℕ) (b : BlockRow) → AllByRecursion of_mention (block_mentions f k b) → Missed b
  block_missed k b h =
      let rs = instructions_of f.instructions b in
      let is = terminal_operands f.words b in
      let last = map (mention k b.instruction_count b.terminal_number) is in (
        run_missed k 0 rs (all_left of_mention (run_mentions f.words k 0 rs) last h),
        all_unmapped of_mention (mention k b.instruction_count b.terminal_number) is (all_right of_mention (run_mentions f.words k 0 rs) last h),
      )

  from_missed : (k : ℕ) (bs : List BlockRow) (j : ℕ) (b : BlockRow) → slice_get bs j ≡ Some b → AllByRecursion of_mention (mentions_from f k bs) → Missed b
  from_missed k [] j b e h =
      let no : ◌≡◌ {A = ℕ} 0 1 = cc in
      absurd (omega arith)
  from_missed k (c ∷ bs) zero b e h =
      let same : c ≡ b = cc in
      subst Missed same (block_missed k c (all_left of_mention (block_mentions f k c) (mentions_from f (k + 1) bs) h))
  from_missed k (c ∷ bs) (suc j) b e h = from_missed (k + 1) bs j b e (all_right of_mention (block_mentions f k c) (mentions_from f (k + 1) bs) h)

  pub missed : (k : ℕ) (b : BlockRow) → slice_get f.blocks k ≡ Some b → AllByRecursion of_mention (mentions f) → Missed b
  missed k b e h = from_missed 0 f.blocks k b e h

-- a scope is met at a number, in this block
pub record MetIn (f : HirFunction) (rows : Rows) (scope number : ℕ) : Type 0 where
  pub position : ℕ
  pub block : BlockRow
  pub stands : slice_get f.blocks position ≡ Some block
  pub identifier : ℕ
  pub place : ByInstruction f block number identifier ⊎ ByTerminal f block number identifier
  pub has_scope : identifier_scope rows.identifiers identifier ≡ Some scope
  pub within : contains (scope_range rows.scopes scope) number ≡ true

pub met_in : (f : HirFunction) (rows : Rows) (scope number : ℕ) → Met f rows scope number → MetIn f rows scope number
met_in f rows scope number m =
    let l = all-has (Located f) (mentions f) m.place (located f) m.among in
    let i = m.place.identifier in
    record {
      position = l.position;
      block = l.block;
      stands = l.stands;
      identifier = i;
      place = subst (λ x. ByInstruction f l.block x i ⊎ ByTerminal f l.block x i) m.numbered l.by;
      has_scope = m.has_scope;
      within = m.within;
    }
