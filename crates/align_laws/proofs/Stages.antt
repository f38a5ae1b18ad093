-- An accepted walk, block by block.
use Rattle.std.proofs.Common.{◌≡◌, ℕ, zero, suc, ◌+◌, ◌<◌, ◌≤◌, List, [], ◌∷◌, length, drop, Some, Ok, sym, refl, subst, suc-add, arith}
use Rattle.std.specs.List.{slice_get}
use Rattle.std.proofs.lemmas.List.{drop_all}
use Rattle.react_compiler_hir.specs.declared.rows.BlockRow.{BlockRow}
use Rattle.react_compiler_hir.specs.declared.rows.IdentifierRow.{IdentifierRow}
use Rattle.react_compiler_hir.specs.Function.{HirFunction}
use Rattle.function_tests.specs.Steps.{walked}
use Rattle.align_rules.specs.Brackets.{bracket_of}
use Rattle.align_rules.specs.Marks.{open_after, block_marked}
use Rattle.align_rules.specs.Ranges.{block_tracked}
use Rattle.align_rules.specs.Align.{Walk, block_aligned}
use Rattle.align_laws.proofs.Accepted.{accepts_ok, then_ok}
use Rattle.align_laws.proofs.Marking.{opened, block_more}
use Rattle.align_laws.proofs.Runs.{Alone, at, block_run, block_alone}

drop_nth : {X : Type 0} (xs : List X) (k : ℕ) (x : X) → slice_get xs k ≡ Some x → drop k xs ≡ x ∷ drop (k + 1) xs
drop_nth [] k x e =
    let no : ◌≡◌ {A = ℕ} 0 1 = cc in
    absurd (omega arith)
drop_nth (y ∷ ys) zero x e = cc
drop_nth (y ∷ ys) (suc k) x e = rw suc-add (drop_nth ys k x e)

nth_some : {X : Type 0} (xs : List X) (k : ℕ) → k < length xs → (x : X) × (slice_get xs k ≡ Some x)
nth_some [] k h = absurd (omega arith)
nth_some (y ∷ ys) zero h = (y, refl)
nth_some (y ∷ ys) (suc k) h = nth_some ys k (omega arith)

module _ (f : HirFunction) (ds : List IdentifierRow) where
  -- what the block at position k makes of a walk
  pub record Step (k : ℕ) (w : Walk) (b : BlockRow) (v : Walk) : Type 0 where
    pub marked : block_marked f k b w.marks ≡ Ok v.marks
    pub ids : w.marks.counter ≤ v.marks.counter
    pub pends : v.marks.pending ≡ opened (bracket_of f b) (open_after k w.marks.pending)
    pub scopes : v.scopes ≡ block_tracked f ds k b w.marks w.scopes

  step_of : (k : ℕ) (w : Walk) (b : BlockRow) (v : Walk) → block_aligned f ds k w b ≡ Ok v → Step k w b v
  step_of k w b v e =
      let h = then_ok (block_marked f k b w.marks) (λ m. Ok (record { marks = m; scopes = block_tracked f ds k b w.marks w.scopes })) v e in
      let made = block_more f k b w.marks in
      let marked = accepts_ok _ (block_marked f k b w.marks) h.0 made h.1 in
      let last = h.2 in
      let same : record { marks = h.0; scopes = block_tracked f ds k b w.marks w.scopes } ≡ v = cc in
      subst (Step k w b) same (record { marked = h.1; ids = marked.ids; pends = marked.pends; scopes = refl })

  -- from this walk, at the entry of the block at position k, the blocks left lead to that one
  abbrev pub Stage : ℕ → Walk → Walk → Type 0
  Stage k w end = walked (block_aligned f ds) k w (drop k f.blocks) ≡ Ok end

  pub stage_step : (k : ℕ) (w end : Walk) (b : BlockRow) → slice_get f.blocks k ≡ Some b → Stage k w end → (v : Walk) × Step k w b v × Stage (k + 1) v end
  stage_step k w end b e h =
      let cut = drop_nth f.blocks k b e in
      let g : walked (block_aligned f ds) k w (b ∷ drop (k + 1) f.blocks) ≡ Ok end = subst (λ l. walked (block_aligned f ds) k w l ≡ Ok end) cut h in
      let s = then_ok (block_aligned f ds k w b) (λ v. walked (block_aligned f ds) (k + 1) v (drop (k + 1) f.blocks)) end g in
      (s.0, step_of k w b s.0 s.1, s.2)

  stage_end : (w end : Walk) → Stage (length f.blocks) w end → w ≡ end
  stage_end w end h =
      let g : walked (block_aligned f ds) (length f.blocks) w [] ≡ Ok end = subst (λ l. walked (block_aligned f ds) (length f.blocks) w l ≡ Ok end) (drop_all (length f.blocks) f.blocks (omega arith)) h in
      cc

  -- what every block hands on holds at a later block, and at the end
  module _ (P : ℕ → Walk → Type 0) (more : (k : ℕ) (w v : Walk) (b : BlockRow) → slice_get f.blocks k ≡ Some b → Step k w b v → P k w → P (k + 1) v) where
    pub climb : (d k j : ℕ) → k + d ≡ j → j ≤ length f.blocks → (w end : Walk) → Stage k w end → P k w → (v : Walk) × Stage j v end × P j v
    climb zero k j e l w end h p =
        let same : k ≡ j = omega arith in
        (w, subst (λ i. Stage i w end) same h, subst (λ i. P i w) same p)
    climb (suc d) k j e l w end h p =
        let known = nth_some f.blocks k (omega arith) in
        let s = stage_step k w end known.0 known.1 h in
        climb d (k + 1) j (omega arith) l s.0 end s.2 (more k w s.0 known.0 known.1 s.1 p)

    pub climb_all : (d k : ℕ) → k + d ≡ length f.blocks → (w end : Walk) → Stage k w end → P k w → P (length f.blocks) end
    climb_all d k e w end h p =
        let c = climb d k (length f.blocks) e (omega arith) w end h p in
        subst (P (length f.blocks)) (stage_end c.0 end c.1) c.2

  -- one scope at one block
  pub step_alone : (p k : ℕ) (w v : Walk) (b : BlockRow) → Step k w b v → Alone p v.scopes (block_run f ds p k b w.marks (at w.scopes p)) (length w.scopes)
  step_alone p k w v b s =
      subst (λ rs. Alone p rs (block_run f ds p k b w.marks (at w.scopes p)) (length w.scopes)) (sym s.scopes)
      (block_alone f ds p k (length w.scopes) b w.marks w.scopes (at w.scopes p) (record { long = refl; here = λ _. refl }))
