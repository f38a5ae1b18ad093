-- A scope that was met by the terminal of a bracket and ends after it ends with the bracket or later.
use Rattle.std.proofs.Common.{◌≡◌, ℕ, ◌+◌, ◌-◌, ◌<◌, ◌≤◌, Bool, true, false, cond, eqb, ltb, leb, ◌⊎◌, List, length, Some, None, Option, sym, refl, ap, ◌∙◌, subst, inl, inr, arith}
use Rattle.std.specs.List.{slice_get}
use Rattle.std.proofs.lemmas.Option.{slice_get_past}
use Rattle.std.proofs.lemmas.List.{length-map, get_or_past}
use Rattle.std.proofs.ByRecursion.{all-has}
use Rattle.std.proofs.lemmas.Bool.{cases_lt, cases_eq, and_parts, leb-true, ltb-true}
use Rattle.react_compiler_hir.specs.declared.rows.BlockRow.{BlockRow}
use Rattle.react_compiler_hir.specs.declared.rows.IdentifierRow.{IdentifierRow}
use Rattle.react_compiler_hir.specs.Function.{HirFunction}
use Rattle.visitors.specs.Mentions.{instructions_of, terminal_fallthrough, block_first_number}
use Rattle.rules.specs.Rows.{Rows, scope_range}
use Rattle.function_laws.specs.Sound.{Numbered}
use Rattle.align_rules.specs.Brackets.{Bracket, first_at, branch, bracket_to, bracket_of, row_bracket, bracket_at}
use Rattle.align_rules.specs.Marks.{open_after}
use Rattle.align_rules.specs.Ranges.{Tracked, tracked, untracked, terminal_reach, opening_reach, left_to, goto_target}
use Rattle.align_rules.specs.Align.{Walk, walk_at_start}
use Rattle.align_laws.specs.Laws.{BracketEnds}
use Rattle.align_laws.proofs.Locating.{ByInstruction, ByTerminal, MetIn, met_in}
use Rattle.align_laws.proofs.Runs.{at, terminal_run, block_run}
use Rattle.align_laws.proofs.Stages.{Step, Stage, stage_step, climb, climb_all, step_alone}
use Rattle.align_laws.proofs.Keeping.{range_left, range_found, accepted, Wide, wide_start, wide_more, wide_end}
use Rattle.align_laws.proofs.Numbering.{before, BlockNumbers, block_numbers_at, before_rises}
use Rattle.align_laws.proofs.Leaving.{gone_block}
use Rattle.align_laws.proofs.Meeting.{Inside, inside_wider, active_block, met_block, stretched_up}

pub nth_known : {X : Type 0} (xs : List X) (k : ℕ) (x : X) → slice_get xs k ≡ Some x → k < length xs
nth_known xs k x e = elim (cases_lt k (length xs)) [
  | inl l ↦ l
  | inr l ↦
      let past = slice_get_past xs k l in
      let no : ◌≡◌ {A = ℕ} 0 1 = cc in
      absurd (omega arith)
]

-- the block that a bracket opens in
pub record Opening (f : HirFunction) (k : ℕ) (x : Bracket) : Type 0 where
  pub block : BlockRow
  pub stands : slice_get f.blocks k ≡ Some block
  pub opens : bracket_of f block ≡ Some x
  pub start : x.start ≡ block.terminal_number
  pub end : x.end ≡ first_at f x.fallthrough

bracket_ends_at : (f : HirFunction) (b : BlockRow) (x : Bracket) (test : Bool) (o : Option ℕ) → cond test None (bracket_to f b o) ≡ Some x → (x.start ≡ b.terminal_number) × (x.end ≡ first_at f x.fallthrough)
bracket_ends_at f b x true o e =
    let no : ◌≡◌ {A = ℕ} 0 1 = cc in
    absurd (omega arith)
bracket_ends_at f b x false None e =
    let no : ◌≡◌ {A = ℕ} 0 1 = cc in
    absurd (omega arith)
bracket_ends_at f b x false (Some k) e =
    let same : record { fallthrough = k; start = b.terminal_number; end = first_at f k } ≡ x = cc in
    subst (λ y. (y.start ≡ b.terminal_number) × (y.end ≡ first_at f y.fallthrough)) same (refl, refl)

pub opening : (f : HirFunction) (k : ℕ) (x : Bracket) → bracket_at f k ≡ Some x → Opening f k x
opening f k x e = (elim (slice_get f.blocks k) as (λ o. slice_get f.blocks k ≡ o → row_bracket f o ≡ Some x → Opening f k x) [
  | None ↦ λ h g.
      let no : ◌≡◌ {A = ℕ} 0 1 = cc in
      absurd (omega arith)
  | Some b ↦ λ h g.
      let shape = bracket_ends_at f b x (eqb b.terminal_kind branch) (terminal_fallthrough f.words b) g in
      record { block = b; stands = h; opens = g; start = shape.0; end = shape.1 }
]) refl e

-- a function whose numbers go on one by one, and one scope in the table
module _ (f : HirFunction) (found : Rows) (n counter : ℕ) (numbered : Numbered f.instructions 0 f.blocks n) (p : ℕ) (known : p < length found.scopes) where
  abbrev from : Walk
  from = walk_at_start f found counter

  abbrev ds : List IdentifierRow
  ds = found.identifiers

  abbrev pub count : ℕ → ℕ
  count k = before f.instructions f.blocks k

  numbers : (k : ℕ) (b : BlockRow) → slice_get f.blocks k ≡ Some b → BlockNumbers f.instructions f.blocks k b
  numbers k b e = block_numbers_at f.instructions n f.blocks k b numbered e

  pub known_in : (w : Walk) → Wide from w → p < length w.scopes
  known_in w h = let long = length-map found.scopes tracked in omega (arith, h.long, long)

  -- what a block makes of the scope
  pub run_here : (k : ℕ) (w v : Walk) (b : BlockRow) → Step f ds k w b v → Wide from w → at v.scopes p ≡ block_run f ds p k b w.marks (at w.scopes p)
  run_here k w v b s h = (step_alone f ds p k w v b s).here (known_in w h)

  pub gone_here : (k : ℕ) (w v : Walk) (b : BlockRow) → slice_get f.blocks k ≡ Some b → Step f ds k w b v → Wide from w → (at w.scopes p).range.end ≤ count k + 1 → (at v.scopes p).range.end ≡ (at w.scopes p).range.end
  gone_here k w v b e s h l =
      let c = numbers k b e in
      let last : count k + 1 ≤ b.terminal_number = omega (arith, c.last, c.next) in
      ap (λ r. r.range.end) (run_here k w v b s h) ∙ (gone_block f ds p k (count k + 1) b w.marks (at w.scopes p) c.first c.least last l).ends

  -- it ended at or before the number e, and so it stays
  record Left (e k : ℕ) (w : Walk) : Type 0 where
    wide : Wide from w
    ended : (at w.scopes p).range.end ≤ e
    past : e ≤ count k

  left_more : (e k : ℕ) (w v : Walk) (b : BlockRow) → slice_get f.blocks k ≡ Some b → Step f ds k w b v → Left e k w → Left e (k + 1) v
  left_more e k w v b g s h =
      let c = numbers k b g in
      let l : (at w.scopes p).range.end ≤ count k + 1 = omega (arith, h.ended, h.past) in
      let same = gone_here k w v b g s h.wide l in
      record {
        wide = wide_more f ds from k w v b g s h.wide;
        ended = omega (arith, h.ended, same);
        past = omega (arith, h.past, c.next);
      }

  pub left_for_good : (e k : ℕ) (w end : Walk) → k ≤ length f.blocks → Stage f ds k w end → Wide from w → (at w.scopes p).range.end ≤ e → e ≤ count k → (at end.scopes p).range.end ≤ e
  left_for_good e k w end l h wide ended past =
      (climb_all f ds (Left e) (left_more e) (length f.blocks - k) k (omega arith) w end h (record { wide = wide; ended = ended; past = past })).ended

  -- met in the block at this position
  module _ (number : ℕ) (met : MetIn f found p number) where
    -- up to its block nothing is asked; then the scope is active, or it ended before the next block
    abbrev pub Known : ℕ → Tracked → Type 0
    Known k r = (k ≤ met.position) ⊎ ((r.active ≡ true) ⊎ (r.range.end ≤ count k))

    inside_found : Inside (at from.scopes p) number
    inside_found =
        let parts = and_parts (leb (scope_range found.scopes p).start number) (ltb number (scope_range found.scopes p).end) met.within in
        let low = leb-true (scope_range found.scopes p).start number parts.0 in
        let high = ltb-true number (scope_range found.scopes p).end parts.1 in
        let same = range_found found.scopes p in
        record {
          low = subst (λ r. r.start ≤ number) same low;
          high = subst (λ r. number < r.end) same high;
        }

    met_here : (k : ℕ) (w v : Walk) (b : BlockRow) → slice_get f.blocks k ≡ Some b → Step f ds k w b v → Wide from w → k ≡ met.position → (at v.scopes p).active ≡ true
    met_here k w v b e s h same =
        let stands : slice_get f.blocks k ≡ Some met.block = ap (slice_get f.blocks) same ∙ met.stands in
        let row : met.block ≡ b = cc in
        let place : ByInstruction f b number met.identifier ⊎ ByTerminal f b number met.identifier = subst (λ c. ByInstruction f c number met.identifier ⊎ ByTerminal f c number met.identifier) row met.place in
        let start : p < length from.scopes = let long = length-map found.scopes tracked in omega (arith, long) in
        let inside = inside_wider (at from.scopes p) (at w.scopes p) number (h.wide p start) inside_found in
        ap (λ r. r.active) (run_here k w v b s h) ∙ met_block f ds p k b w.marks (at w.scopes p) number met.identifier place met.has_scope inside

    known_more : (k : ℕ) (w v : Walk) (b : BlockRow) → slice_get f.blocks k ≡ Some b → Step f ds k w b v → Wide from w → Known k (at w.scopes p) → Known (k + 1) (at v.scopes p)
    known_more k w v b e s h (inl early) = elim (cases_eq k met.position) [
      | inl same ↦ inr (inl (met_here k w v b e s h same))
      | inr other ↦ inl (omega arith)
    ]
    known_more k w v b e s h (inr (inl active)) =
        let c = numbers k b e in
        elim (cases_lt (count k + 1) (at w.scopes p).range.end) [
          | inl l ↦
              let later : block_first_number f.instructions b < (at w.scopes p).range.end = omega (arith, c.first, l) in
              inr (inl (ap (λ r. r.active) (run_here k w v b s h) ∙ active_block f ds p k b w.marks (at w.scopes p) active later))
          | inr l ↦
              let same = gone_here k w v b e s h l in
              inr (inr (omega (arith, same, c.next)))
        ]
    known_more k w v b e s h (inr (inr ended)) =
        let c = numbers k b e in
        let same = gone_here k w v b e s h (omega arith) in
        inr (inr (omega (arith, same, c.next)))

    pub record Followed (k : ℕ) (w : Walk) : Type 0 where
      pub wide : Wide from w
      pub state : Known k (at w.scopes p)

    pub followed_more : (k : ℕ) (w v : Walk) (b : BlockRow) → slice_get f.blocks k ≡ Some b → Step f ds k w b v → Followed k w → Followed (k + 1) v
    followed_more k w v b e s h = record {
      wide = wide_more f ds from k w v b e s h.wide;
      state = known_more k w v b e s h.wide h.state;
    }

    pub followed_start : Followed 0 from
    followed_start = record { wide = wide_start from; state = inl (omega arith) }

    -- its block has only greater numbers than the blocks before
    met_number : count met.position < number
    met_number =
        let c = numbers met.position met.block met.stands in
        elim met.place [
          | inl i ↦
              let l = all-has (λ r. count met.position + 1 ≤ r.number) (instructions_of f.instructions met.block) i.instruction c.least i.among in
              omega (arith, l, i.numbered)
          | inr t ↦ omega (arith, c.last, c.next, t.numbered)
        ]

    pub met_by : (k : ℕ) → number ≤ count k → met.position < k
    met_by k l = elim (cases_lt met.position k) [
      | inl h ↦ h
      | inr h ↦
          let rises = before_rises f.instructions f.blocks (met.position - k) k met.position (omega arith) in
          let more = met_number in
          absurd (omega arith)
    ]

    -- the law, for this scope and a bracket that opens in the block at position k
    ends_with : (end : Walk) → Stage f ds 0 from end → (k : ℕ) (x : Bracket) → bracket_at f k ≡ Some x → number ≤ x.start → x.start < (at end.scopes p).range.end → x.end ≤ (at end.scopes p).range.end
    ends_with end h k x e l g =
        let o = opening f k x e in
        let b = o.block in
        let c = numbers k b o.stands in
        let inner = nth_known f.blocks k b o.stands in
        let here = climb f ds Followed followed_more k 0 k (omega arith) (omega arith) from end h followed_start in
        let w = here.0 in
        let s = stage_step f ds k w end b o.stands here.1 in
        let v = s.0 in
        let next = followed_more k w v b o.stands s.1 here.2 in
        let t : x.start ≡ count (k + 1) = o.start ∙ c.last in
        let wider = (wide_end f ds (length f.blocks - (k + 1)) (k + 1) (omega arith) v end s.2).wide p (known_in v next.wide) in
        let no : (at v.scopes p).range.end ≤ x.start → x.end ≤ (at end.scopes p).range.end = λ ended.
        let over = left_for_good x.start (k + 1) v end (omega arith) s.2 next.wide ended (omega arith) in
        absurd (omega arith) in
        elim next.state [
          | inl early ↦
              let before_it = met_by (k + 1) (omega arith) in
              absurd (omega arith)
          | inr (inl active) ↦
              let reach = terminal_reach f (open_after k w.marks.pending) b in
              let up : reach.up ≡ Some x.end = ap (λ y. (opening_reach y (left_to (open_after k w.marks.pending) (goto_target f.words b))).up) o.opens in
              let run = run_here k w v b s.1 here.2.wide in
              let then_active = sym (ap (λ r. r.active) run) ∙ active in
              let or = stretched_up b.terminal_number reach x.end (terminal_run f ds p k b w.marks (at w.scopes p)) up then_active in
              elim or [
                | inl low ↦ no (omega (arith, low, ap (λ r. r.range.end) run, o.start))
                | inr high ↦ omega (arith, high, ap (λ r. r.range.end) run, wider.end)
              ]
          | inr (inr ended) ↦ no (omega arith)
        ]

pub out_of_table : (f : HirFunction) (found : Rows) (counter p : ℕ) (end : Walk) → Wide (walk_at_start f found counter) end → length found.scopes ≤ p → (at end.scopes p).range.end ≡ 0
out_of_table f found counter p end h l =
    let long = length-map found.scopes tracked in
    ap (λ r. r.range.end) (get_or_past end.scopes p untracked (omega (arith, h.long, long)))

pub bracket_ends : BracketEnds
bracket_ends f found left n counter counter' sound e k x opens p number met l g =
    let a = accepted f found left counter counter' e in
    let end = a.end in
    let same : scope_range left.scopes p ≡ (at end.scopes p).range = sym (ap (λ r. scope_range r.scopes p) a.rows) ∙ range_left end.scopes p in
    let after : x.start < (at end.scopes p).range.end = subst (λ r. x.start < r.end) same g in
    subst (λ r. x.end ≤ r.end) (sym same) (elim (cases_lt p (length found.scopes)) [
      | inl known ↦ ends_with f found n counter sound.numbered p known number (met_in f found p number met) end a.stage k x opens l after
      | inr past ↦
          let wide = wide_end f found.identifiers (length f.blocks) 0 (omega arith) (walk_at_start f found counter) end a.stage in
          let none = out_of_table f found counter p end wide past in
          absurd (omega arith)
    ])
