-- An accepted align only widens.
use Rattle.std.proofs.Common.{◌≡◌, ℕ, zero, suc, ◌+◌, ◌<◌, ◌≤◌, List, [], ◌∷◌, map, length, Some, Ok, sym, refl, ap, ◌∙◌, subst, inl, inr, arith}
use Rattle.std.specs.List.{slice_get, AllZip}
use Rattle.std.proofs.lemmas.List.{length-map, get_or_past}
use Rattle.std.proofs.lemmas.Bool.{cases_lt}
use Rattle.react_compiler_hir.specs.declared.rows.BlockRow.{BlockRow}
use Rattle.react_compiler_hir.specs.declared.rows.ScopeRow.{ScopeRow}
use Rattle.react_compiler_hir.specs.declared.rows.IdentifierRow.{IdentifierRow}
use Rattle.react_compiler_hir.specs.Function.{HirFunction}
use Rattle.rules.specs.Rows.{Rows, Covers, scope_range}
use Rattle.align_rules.specs.Ranges.{Tracked, tracked, untracked}
use Rattle.align_rules.specs.Align.{Walk, walk_at_start, blocks_aligned, scope_left, synced, rows_left, align_walked}
use Rattle.align_laws.specs.Laws.{IdentifierKept, Widened, AlignOnlyWidens}
use Rattle.align_laws.proofs.Accepted.{then_ok}
use Rattle.align_laws.proofs.Runs.{at, block_run}
use Rattle.align_laws.proofs.Widening.{Wider, wider_same, wider_trans, block_wider}
use Rattle.align_laws.proofs.Stages.{Step, Stage, climb_all, step_alone}

pub range_left : (rs : List Tracked) (p : ℕ) → scope_range (map scope_left rs) p ≡ (at rs p).range
range_left [] p = refl
range_left (r ∷ rs) zero = refl
range_left (r ∷ rs) (suc p) = range_left rs p

pub range_found : (ss : List ScopeRow) (p : ℕ) → scope_range ss p ≡ (at (map tracked ss) p).range
range_found [] p = refl
range_found (s ∷ ss) zero = refl
range_found (s ∷ ss) (suc p) = range_found ss p

-- an accepted align is an accepted walk
pub record Accepted (f : HirFunction) (found left : Rows) (counter counter' : ℕ) : Type 0 where
  pub end : Walk
  pub stage : Stage f found.identifiers 0 (walk_at_start f found counter) end
  pub ids : end.marks.counter ≡ counter'
  pub rows : rows_left found (map scope_left end.scopes) ≡ left

pub accepted : (f : HirFunction) (found left : Rows) (counter counter' : ℕ) → align_walked f found counter ≡ Ok (counter', left) → Accepted f found left counter counter'
accepted f found left counter counter' e =
    let h = then_ok (blocks_aligned f found counter) (λ w. Ok (w.marks.counter, rows_left found (map scope_left w.scopes))) (counter', left) e in
    let last = h.2 in
    let pair : ◌≡◌ {A = ℕ × Rows} (h.0.marks.counter, rows_left found (map scope_left h.0.scopes)) (counter', left) = cc in
    record { end = h.0; stage = h.1; ids = ap (λ x. x.0) pair; rows = ap (λ x. x.1) pair }

-- no scope comes or goes, and each is at least as wide as before
pub record Wide (from w : Walk) : Type 0 where
  pub ids : from.marks.counter ≤ w.marks.counter
  pub long : length w.scopes ≡ length from.scopes
  pub wide : (p : ℕ) → p < length from.scopes → Wider (at from.scopes p) (at w.scopes p)

pub wide_start : (from : Walk) → Wide from from
wide_start from = record { ids = omega arith; long = refl; wide = λ p h. wider_same (at from.scopes p) }

pub wide_more : (f : HirFunction) (ds : List IdentifierRow) (from : Walk) (k : ℕ) (w v : Walk) (b : BlockRow) → slice_get f.blocks k ≡ Some b → Step f ds k w b v → Wide from w → Wide from v
wide_more f ds from k w v b e s h = record {
  ids = omega (arith, h.ids, s.ids);
  long = (step_alone f ds 0 k w v b s).long ∙ h.long;
  wide = λ p l.
      let known : p < length w.scopes = omega (arith, h.long) in
      let run = block_run f ds p k b w.marks (at w.scopes p) in
      wider_trans (at from.scopes p) (at w.scopes p) (at v.scopes p) (h.wide p l)
      (subst (Wider (at w.scopes p)) (sym ((step_alone f ds p k w v b s).here known)) (block_wider f ds p k b w.marks (at w.scopes p)));
}

pub wide_end : (f : HirFunction) (ds : List IdentifierRow) (d k : ℕ) → k + d ≡ length f.blocks → (w end : Walk) → Stage f ds k w end → Wide w end
wide_end f ds d k e w end h = climb_all f ds (λ _ v. Wide w v) (wide_more f ds w) d k e w end h (wide_start w)

each_map : {X : Type 0} (R : X → X → Type 0) (g : X → X) → ((x : X) → R x (g x)) → (xs : List X) → AllZip R xs (map g xs)
each_map R g h [] = tt
each_map R g h (x ∷ xs) = (h x, each_map R g h xs)

kept : (found left : List ScopeRow) (d : IdentifierRow) → IdentifierKept d (synced found left d)
kept found left d = record { range_id = refl; scope = refl; primitive = refl }

range_wider : (from w : Walk) (p : ℕ) → Wide from w → Wider (at from.scopes p) (at w.scopes p)
range_wider from w p h = elim (cases_lt p (length from.scopes)) [
  | inl l ↦ h.wide p l
  | inr l ↦
      let past : length w.scopes ≤ p = omega (arith, h.long) in
      let a = get_or_past from.scopes p untracked l in
      let b = get_or_past w.scopes p untracked past in
      subst (λ r. Wider r (at w.scopes p)) (sym a) (subst (Wider untracked) (sym b) (wider_same untracked))
]

widened : (found : Rows) (f : HirFunction) (counter : ℕ) (end : Walk) → Wide (walk_at_start f found counter) end → Widened found (rows_left found (map scope_left end.scopes))
widened found f counter end h =
    let from = walk_at_start f found counter in
    record {
      scope_count = length-map end.scopes scope_left ∙ h.long ∙ length-map found.scopes tracked;
      identifier_count = length-map found.identifiers (synced found.scopes (map scope_left end.scopes));
      range_ids = λ p.
          ap (λ r. r.id) (range_left end.scopes p) ∙ (range_wider from end p h).id ∙ sym (ap (λ r. r.id) (range_found found.scopes p));
      covers = λ p.
          let a = range_left end.scopes p in
          let b = range_found found.scopes p in
          let c = range_wider from end p h in
          subst (λ r. Covers r (scope_range found.scopes p)) (sym a)
          (subst (Covers (at end.scopes p).range) (sym b) (record { starts = c.start; ends = c.end }));
      identifiers_kept = each_map IdentifierKept (synced found.scopes (map scope_left end.scopes)) (kept found.scopes (map scope_left end.scopes)) found.identifiers;
    }

pub align_only_widens : AlignOnlyWidens
align_only_widens f found left counter counter' e =
    let a = accepted f found left counter counter' e in
    let wide = wide_end f found.identifiers (length f.blocks) 0 (omega arith) (walk_at_start f found counter) a.end a.stage in
    (subst (Widened found) a.rows (widened found f counter a.end wide), omega (arith, wide.ids, a.ids))
