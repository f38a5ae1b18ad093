-- A scope that is met nowhere is as it was.
use Rattle.std.proofs.Common.{◌≡◌, ℕ, zero, suc, ◌<◌, true, List, [], ◌∷◌, map, length, Some, sym, refl, ap, ◌∙◌, subst, inl, inr, arith}
use Rattle.std.specs.List.{slice_get, ContainsAt, AllByRecursion}
use Rattle.std.proofs.ByRecursion.{All-weaker, all_has_itself}
use Rattle.std.proofs.lemmas.List.{get_or_past}
use Rattle.std.proofs.lemmas.Bool.{cases_lt}
use Rattle.react_compiler_hir.specs.declared.rows.MutableRange.{MutableRange}
use Rattle.react_compiler_hir.specs.declared.rows.BlockRow.{BlockRow}
use Rattle.react_compiler_hir.specs.declared.rows.ScopeRow.{ScopeRow}
use Rattle.react_compiler_hir.specs.declared.rows.IdentifierRow.{IdentifierRow}
use Rattle.react_compiler_hir.specs.Function.{HirFunction}
use Rattle.visitors.specs.Mentions.{mentions}
use Rattle.rules.specs.Rows.{Rows, contains, identifier_scope, scope_range}
use Rattle.align_rules.specs.Ranges.{tracked, untracked}
use Rattle.align_rules.specs.Align.{Walk, walk_at_start}
use Rattle.align_rules.specs.Meets.{Met}
use Rattle.align_laws.specs.Laws.{UnmetStay}
use Rattle.align_laws.proofs.Locating.{missed}
use Rattle.align_laws.proofs.Runs.{at}
use Rattle.align_laws.proofs.Stages.{Step, Stage, climb_all, step_alone}
use Rattle.align_laws.proofs.Keeping.{range_left, range_found, accepted, Wide, wide_start, wide_more}
use Rattle.align_laws.proofs.Resting.{Rests, rests_block}

pub rests_start : (ss : List ScopeRow) (p : ℕ) → Rests (at (map tracked ss) p).range (at (map tracked ss) p)
rests_start [] p = record { idle = refl; same = refl }
rests_start (s ∷ ss) zero = record { idle = refl; same = refl }
rests_start (s ∷ ss) (suc p) = rests_start ss p

module _ (f : HirFunction) (found : Rows) (counter p : ℕ) (unmet : (number : ℕ) → Met f found p number → ⊥) where
  abbrev from : Walk
  from = walk_at_start f found counter

  abbrev ds : List IdentifierRow
  ds = found.identifiers

  abbrev was : MutableRange
  was = (at from.scopes p).range

  no_place : AllByRecursion (λ x. identifier_scope ds x.identifier ≡ Some p → contains was x.number ≡ true → ⊥) (mentions f)
  no_place =
      All-weaker (ContainsAt (mentions f)) (λ x. identifier_scope ds x.identifier ≡ Some p → contains was x.number ≡ true → ⊥)
      (λ x h s c. unmet x.number (record {
        place = x;
        among = h;
        numbered = refl;
        has_scope = s;
        within = subst (λ r. contains r x.number ≡ true) (sym (range_found found.scopes p)) c;
      })) (mentions f) (all_has_itself (mentions f))

  record Untouched (w : Walk) : Type 0 where
    wide : Wide from w
    rests : p < length from.scopes → Rests was (at w.scopes p)

  untouched_more : (k : ℕ) (w v : Walk) (b : BlockRow) → slice_get f.blocks k ≡ Some b → Step f ds k w b v → Untouched w → Untouched v
  untouched_more k w v b e s h = record {
    wide = wide_more f ds from k w v b e s h.wide;
    rests = λ l.
        let in_table : p < length w.scopes = omega (arith, h.wide.long) in
        let miss = missed (λ number i. identifier_scope ds i ≡ Some p → contains was number ≡ true → ⊥) f k b e no_place in
        subst (Rests was) (sym ((step_alone f ds p k w v b s).here in_table)) (rests_block was f ds p k b w.marks (at w.scopes p) miss (h.rests l));
  }

  untouched : (end : Walk) → Stage f ds 0 from end → (at end.scopes p).range ≡ was
  untouched end h =
      let u = climb_all f ds (λ _ w. Untouched w) untouched_more (length f.blocks) 0 (omega arith) from end h (record { wide = wide_start from; rests = λ _. rests_start found.scopes p }) in
      elim (cases_lt p (length from.scopes)) [
        | inl l ↦ (u.rests l).same
        | inr l ↦ ap (λ r. r.range) (get_or_past end.scopes p untracked (omega (arith, u.wide.long)) ∙ sym (get_or_past from.scopes p untracked l))
      ]

pub unmet_stay : UnmetStay
unmet_stay f found left counter counter' e p unmet =
    let a = accepted f found left counter counter' e in
    sym (ap (λ r. scope_range r.scopes p) a.rows) ∙ range_left a.end.scopes p ∙
    untouched f found counter p unmet a.end a.stage ∙ sym (range_found found.scopes p)
