-- In a bracketed function, a scope that was met before the end of a bracket and ends after it starts with the
-- bracket or earlier.
use Rattle.std.proofs.Common.{◌≡◌, ℕ, ◌+◌, ◌-◌, ◌<◌, ◌≤◌, true, ◌&&◌, ltb, List, length, Some, None, Option, sym, refl, ap, ◌∙◌, subst, inl, inr, arith}
use Rattle.std.specs.List.{slice_get, AllByRecursion}
use Rattle.std.proofs.lemmas.Bool.{cases_lt, and_from, lt-ltb}
use Rattle.react_compiler_hir.specs.declared.rows.BlockRow.{BlockRow}
use Rattle.react_compiler_hir.specs.declared.rows.IdentifierRow.{IdentifierRow}
use Rattle.react_compiler_hir.specs.Function.{HirFunction}
use Rattle.visitors.specs.Mentions.{block_first_number}
use Rattle.rules.specs.Rows.{Rows, scope_range}
use Rattle.function_laws.specs.Sound.{Numbered}
use Rattle.align_rules.specs.Brackets.{Bracket, row_first, first_at, bracket_of, bracket_at}
use Rattle.align_rules.specs.Marks.{closing_at, open_after}
use Rattle.align_rules.specs.Ranges.{Tracked, reaching, entered}
use Rattle.align_rules.specs.Align.{Walk, walk_at_start}
use Rattle.align_rules.specs.Meets.{Bracketed}
use Rattle.align_laws.specs.Laws.{BracketStarts}
use Rattle.align_laws.proofs.Marking.{opened}
use Rattle.align_laws.proofs.Locating.{MetIn, met_in}
use Rattle.align_laws.proofs.Runs.{at}
use Rattle.align_laws.proofs.Widening.{after_entry_wider}
use Rattle.align_laws.proofs.Stages.{Step, Stage, stage_step, climb}
use Rattle.align_laws.proofs.Keeping.{range_left, accepted, wide_end}
use Rattle.align_laws.proofs.Numbering.{before, block_numbers_at}
use Rattle.align_laws.proofs.Nesting.{OpenedBefore, Under, opened_more, under_more, under_closing}
use Rattle.align_laws.proofs.Ends.{nth_known, opening, run_here, known_in, gone_here, left_for_good, Followed, followed_more, followed_start, met_by, out_of_table}

-- an active scope that goes on where a bracket closes reaches down to its terminal
entered_down : (first t : ℕ) (closing : Option ℕ) (r : Tracked) → closing ≡ Some t → r.active ≡ true → first < r.range.end → (entered first closing r).range.start ≤ t
entered_down first t closing r e h l =
    let test : (r.active && ltb first r.range.end) ≡ true = and_from r.active (ltb first r.range.end) h (lt-ltb first r.range.end l) in
    subst (λ b. (reaching b (record { down = closing; up = None }) r.range).start ≤ t) (sym test)
    (subst (λ c. (reaching true (record { down = c; up = None }) r.range).start ≤ t) (sym e) (omega arith))

-- the fallthrough, where it has a first number
closing_block : (f : HirFunction) (k number : ℕ) → number < first_at f k → (b : BlockRow) × (slice_get f.blocks k ≡ Some b) × (first_at f k ≡ block_first_number f.instructions b)
closing_block f k number l = (elim (slice_get f.blocks k) as (λ o. slice_get f.blocks k ≡ o → number < row_first f.instructions o → (b : BlockRow) × (slice_get f.blocks k ≡ Some b) × (first_at f k ≡ block_first_number f.instructions b)) [
  | None ↦ λ e h. absurd (omega arith)
  | Some b ↦ λ e h. (b, e, ap (row_first f.instructions) e)
]) refl l

module _ (f : HirFunction) (found : Rows) (n counter : ℕ) (numbered : Numbered f.instructions 0 f.blocks n) (bracketed : Bracketed f) (p : ℕ) (known : p < length found.scopes) (number : ℕ) (met : MetIn f found p number) where
  abbrev from : Walk
  from = walk_at_start f found counter

  abbrev ds : List IdentifierRow
  ds = found.identifiers

  record Nested (k : ℕ) (w : Walk) : Type 0 where
    followed : Followed f found n counter numbered p known number met k w
    earlier : AllByRecursion (OpenedBefore f k) w.marks.pending

  nested_more : (k : ℕ) (w v : Walk) (b : BlockRow) → slice_get f.blocks k ≡ Some b → Step f ds k w b v → Nested k w → Nested (k + 1) v
  nested_more k w v b e s h = record {
    followed = followed_more f found n counter numbered p known number met k w v b e s h.followed;
    earlier = subst (AllByRecursion (OpenedBefore f (k + 1))) (sym s.pends) (opened_more f k b e w.marks.pending h.earlier);
  }

  -- from the block after that of a bracket to its fallthrough
  module _ (j : ℕ) (x : Bracket) (opens : bracket_at f j ≡ Some x) where
    record Between (k : ℕ) (w : Walk) : Type 0 where
      nested : Nested k w
      after : j < k
      under : k ≤ x.fallthrough → Under x k w.marks.pending

    between_more : (k : ℕ) (w v : Walk) (b : BlockRow) → slice_get f.blocks k ≡ Some b → Step f ds k w b v → Between k w → Between (k + 1) v
    between_more k w v b e s h = record {
      nested = nested_more k w v b e s h.nested;
      after = omega (arith, h.after);
      under = λ l.
          subst (Under x (k + 1)) (sym s.pends)
          (under_more f bracketed j x opens k b e h.after (omega arith) w.marks.pending h.nested.earlier (h.under (omega arith)));
    }

    between_start : (w v : Walk) (b : BlockRow) → slice_get f.blocks j ≡ Some b → bracket_of f b ≡ Some x → Step f ds j w b v → Nested j w → Between (j + 1) v
    between_start w v b e o s h =
        let pends : v.marks.pending ≡ opened (Some x) (open_after j w.marks.pending) = s.pends ∙ ap (λ y. opened y (open_after j w.marks.pending)) o in
        record {
          nested = nested_more j w v b e s h;
          after = omega arith;
          under = λ l. subst (Under x (j + 1)) (sym pends) (inl refl);
        }

    starts_with : (end : Walk) → Stage f ds 0 from end → number < x.end → x.end < (at end.scopes p).range.end → (at end.scopes p).range.start ≤ x.start
    starts_with end h l g =
        let o = opening f j x opens in
        let inner = nth_known f.blocks j o.block o.stands in
        let k = x.fallthrough in
        let c = closing_block f k number (subst (λ e. number < e) o.end l) in
        let b = c.0 in
        let reached = nth_known f.blocks k b c.1 in
        let ahead = bracketed.ahead j x opens in
        let ns = block_numbers_at f.instructions n f.blocks k b numbered c.1 in
        let e : x.end ≡ before f.instructions f.blocks k + 1 = o.end ∙ c.2 ∙ ns.first in
        let first_part = climb f ds Nested nested_more j 0 j (omega arith) (omega arith) from end h (record { followed = followed_start f found n counter numbered p known number met; earlier = tt }) in
        let opened_at = stage_step f ds j first_part.0 end o.block o.stands first_part.1 in
        let start = between_start first_part.0 opened_at.0 o.block o.stands o.opens opened_at.1 first_part.2 in
        let here = climb f ds Between between_more (k - (j + 1)) (j + 1) k (omega arith) (omega arith) opened_at.0 end opened_at.2 start in
        let w = here.0 in
        let followed = here.2.nested.followed in
        let wide = followed.wide in
        let closes = under_closing x w.marks.pending (here.2.under (omega arith)) in
        let s = stage_step f ds k w end b c.1 here.1 in
        let v = s.0 in
        let next = followed_more f found n counter numbered p known number met k w v b c.1 s.1 followed in
        elim followed.state [
          | inl early ↦
              let by = met_by f found n counter numbered p known number met k (omega arith) in
              absurd (omega arith)
          | inr (inl active) ↦ elim (cases_lt x.end (at w.scopes p).range.end) [
            | inl on ↦
                let firsts : block_first_number f.instructions b < (at w.scopes p).range.end = omega (arith, ns.first, e) in
                let down = entered_down (block_first_number f.instructions b) x.start (closing_at k w.marks.pending) (at w.scopes p) closes active firsts in
                let rest = after_entry_wider f ds p k b w.marks (at w.scopes p) in
                let run = ap (λ r. r.range.start) (run_here f found n counter numbered p known k w v b s.1 wide) in
                let last = (wide_end f ds (length f.blocks - (k + 1)) (k + 1) (omega arith) v end s.2).wide p (known_in f found n counter numbered p known v next.wide) in
                omega (arith, down, rest.start, run, last.start)
            | inr off ↦
                let same = gone_here f found n counter numbered p known k w v b c.1 s.1 wide (omega arith) in
                let over = left_for_good f found n counter numbered p known x.end (k + 1) v end (omega arith) s.2 next.wide (omega arith) (omega (arith, ns.next, e)) in
                absurd (omega arith)
          ]
          | inr (inr ended) ↦
              let over = left_for_good f found n counter numbered p known (before f.instructions f.blocks k) k w end (omega arith) here.1 wide ended (omega arith) in
              absurd (omega arith)
        ]

pub bracket_starts : BracketStarts
bracket_starts f found left n counter counter' sound e bracketed j x opens p number met l g =
    let a = accepted f found left counter counter' e in
    let end = a.end in
    let same : scope_range left.scopes p ≡ (at end.scopes p).range = sym (ap (λ r. scope_range r.scopes p) a.rows) ∙ range_left end.scopes p in
    let after : x.end < (at end.scopes p).range.end = subst (λ r. x.end < r.end) same g in
    subst (λ r. r.start ≤ x.start) (sym same) (elim (cases_lt p (length found.scopes)) [
      | inl known ↦ starts_with f found n counter sound.numbered bracketed p known number (met_in f found p number met) j x opens end a.stage l after
      | inr past ↦
          let wide = wide_end f found.identifiers (length f.blocks) 0 (omega arith) (walk_at_start f found counter) end a.stage in
          let none = out_of_table f found counter p end wide past in
          absurd (omega arith)
    ])
