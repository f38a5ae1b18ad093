-- The start of a hull is the start of one of its ranges, and so is its end.
use Rattle.std.proofs.Common.{◌≡◌, ℕ, ◌<◌, ◌≤◌, min, max, Bool, true, false, cond, eqb, List, [], ◌∷◌, length, refl, ◌∙◌, inl, inr, arith}
use Rattle.std.specs.List.{range_with_len}
use Rattle.std.proofs.lemmas.Bool.{cases_lt, eq-eqb, eqb-true}
use Rattle.react_compiler_hir.specs.declared.rows.MutableRange.{MutableRange}
use Rattle.react_compiler_hir.specs.declared.rows.ScopeRow.{ScopeRow}
use Rattle.rules.specs.Rows.{scope_range}
use Rattle.disjoint_set.specs.Classes.{In}
use Rattle.merge_rules.specs.Merged.{covering, hull, merged_range}
use Rattle.merge_rules.proofs.Hulls.{counting_below}

-- a scope of the table that has the root p, and whose range has this edge
pub record Edge (ss : List ScopeRow) (root : ℕ → ℕ) (p : ℕ) (side : MutableRange → ℕ) (edge : ℕ) : Type 0 where
  pub scope : ℕ
  pub known : scope < length ss
  pub rooted : root scope ≡ p
  pub is : side (scope_range ss scope) ≡ edge

module _ (ss : List ScopeRow) (root : ℕ → ℕ) (p : ℕ) where
  start_widened : (r : MutableRange) (x : ℕ) → x < length ss → (b : Bool) → eqb (root x) p ≡ b
      → Edge ss root p (λ s. s.start) r.start → Edge ss root p (λ s. s.start) (cond b (covering r (scope_range ss x)) r).start
  start_widened r x h false e edge = edge
  start_widened r x h true e edge = elim (cases_lt r.start (scope_range ss x).start) [
    | inl less ↦ record { scope = edge.scope; known = edge.known; rooted = edge.rooted; is = edge.is ∙ low less }
    | inr more ↦ record { scope = x; known = h; rooted = eqb-true (root x) p e; is = high more }
  ]
    where
      low : r.start < (scope_range ss x).start → r.start ≡ min r.start (scope_range ss x).start
      low less = omega arith

      high : (scope_range ss x).start ≤ r.start → (scope_range ss x).start ≡ min r.start (scope_range ss x).start
      high more = omega arith

  end_widened : (r : MutableRange) (x : ℕ) → x < length ss → (b : Bool) → eqb (root x) p ≡ b
      → Edge ss root p (λ s. s.end) r.end → Edge ss root p (λ s. s.end) (cond b (covering r (scope_range ss x)) r).end
  end_widened r x h false e edge = edge
  end_widened r x h true e edge = elim (cases_lt (scope_range ss x).end r.end) [
    | inl less ↦ record { scope = edge.scope; known = edge.known; rooted = edge.rooted; is = edge.is ∙ high less }
    | inr more ↦ record { scope = x; known = h; rooted = eqb-true (root x) p e; is = low more }
  ]
    where
      high : (scope_range ss x).end < r.end → r.end ≡ max r.end (scope_range ss x).end
      high less = omega arith

      low : r.end ≤ (scope_range ss x).end → (scope_range ss x).end ≡ max r.end (scope_range ss x).end
      low more = omega arith

  hull_start : (r : MutableRange) (qs : List ℕ) → ((q : ℕ) → In q qs → q < length ss) → Edge ss root p (λ s. s.start) r.start → Edge ss root p (λ s. s.start) (hull ss root p r qs).start
  hull_start r [] known edge = edge
  hull_start r (x ∷ qs) known edge =
      hull_start (cond (eqb (root x) p) (covering r (scope_range ss x)) r) qs (λ q m. known q (inr m)) (start_widened r x (known x (inl refl)) (eqb (root x) p) refl edge)

  hull_end : (r : MutableRange) (qs : List ℕ) → ((q : ℕ) → In q qs → q < length ss) → Edge ss root p (λ s. s.end) r.end → Edge ss root p (λ s. s.end) (hull ss root p r qs).end
  hull_end r [] known edge = edge
  hull_end r (x ∷ qs) known edge =
      hull_end (cond (eqb (root x) p) (covering r (scope_range ss x)) r) qs (λ q m. known q (inr m)) (end_widened r x (known x (inl refl)) (eqb (root x) p) refl edge)

  -- the edges of a root's range after the merge
  pub merged_start : p < length ss → root p ≡ p → Edge ss root p (λ s. s.start) (merged_range ss root p).start
  merged_start h own =
      rw (eq-eqb (root p) p own) (hull_start (scope_range ss p) (range_with_len 0 (length ss)) (λ q m. omega (arith, counting_below 0 (length ss) q m)) (record { scope = p; known = h; rooted = own; is = refl }))

  pub merged_end : p < length ss → root p ≡ p → Edge ss root p (λ s. s.end) (merged_range ss root p).end
  merged_end h own =
      rw (eq-eqb (root p) p own) (hull_end (scope_range ss p) (range_with_len 0 (length ss)) (λ q m. omega (arith, counting_below 0 (length ss) q m)) (record { scope = p; known = h; rooted = own; is = refl }))
