-- A hull covers what it is made of, and its start and end are a start and an end of that.
use Rattle.std.proofs.Common.{◌≡◌, ℕ, zero, suc, ◌+◌, ◌<◌, ◌≤◌, Bool, true, false, cond, eqb, List, [], ◌∷◌, sym, refl, ap, ◌∙◌, inl, inr, arith}
use Rattle.std.specs.List.{range_with_len}
use Rattle.std.proofs.lemmas.Bool.{cases_lt, eq-eqb}
use Rattle.react_compiler_hir.specs.declared.rows.MutableRange.{MutableRange}
use Rattle.react_compiler_hir.specs.declared.rows.ScopeRow.{ScopeRow}
use Rattle.rules.specs.Rows.{Covers, scope_range}
use Rattle.disjoint_set.specs.Classes.{In}
use Rattle.merge_rules.specs.Merged.{covering, hull}

pub covers_itself : (r : MutableRange) → Covers r r
covers_itself r = record { starts = omega arith; ends = omega arith }

pub in_counting : (a n q : ℕ) → a ≤ q → q < a + n → In q (range_with_len a n)
in_counting a zero q low high = absurd (omega arith)
in_counting a (suc n) q low high = elim (cases_lt a q) [
  | inl h ↦ inr (in_counting (a + 1) n q (omega arith) (omega arith))
  | inr h ↦ inl (omega arith)
]

pub counting_below : (a n q : ℕ) → In q (range_with_len a n) → q < a + n
counting_below a zero q h = absurd h
counting_below a (suc n) q h = elim h [
  | inl e ↦ omega arith
  | inr m ↦ further (counting_below (a + 1) n q m)
]
  where
    further : q < (a + 1) + n → q < a + suc n
    further h = omega arith

-- widened or not
id_stays : (b : Bool) (r s : MutableRange) → (cond b (covering r s) r).id ≡ r.id
id_stays true r s = refl
id_stays false r s = refl

still_covers : (b : Bool) (r s u : MutableRange) → Covers r s → Covers (cond b (covering r u) r) s
still_covers true r s u c = record { starts = omega arith; ends = omega arith }
still_covers false r s u c = c

module _ (ss : List ScopeRow) (root : ℕ → ℕ) (p : ℕ) where
  pub hull_id : (r : MutableRange) (qs : List ℕ) → (hull ss root p r qs).id ≡ r.id
  hull_id r [] = refl
  hull_id r (q ∷ qs) =
      let b = eqb (root q) p in
      hull_id (cond b (covering r (scope_range ss q)) r) qs ∙ id_stays b r (scope_range ss q)

  pub hull_covers : (r s : MutableRange) (qs : List ℕ) → Covers r s → Covers (hull ss root p r qs) s
  hull_covers r s [] c = c
  hull_covers r s (q ∷ qs) c =
      let b = eqb (root q) p in
      hull_covers (cond b (covering r (scope_range ss q)) r) s qs (still_covers b r s (scope_range ss q) c)

  -- each range of the class
  pub hull_covers_class : (r : MutableRange) (qs : List ℕ) (q : ℕ) → In q qs → root q ≡ p → Covers (hull ss root p r qs) (scope_range ss q)
  hull_covers_class r [] q h e = absurd h
  hull_covers_class r (x ∷ qs) q h e = elim h [
    | inl same ↦ (
        let here : root x ≡ p = ap root (sym same) ∙ e in
        let wide : Covers (cond (eqb (root x) p) (covering r (scope_range ss x)) r) (scope_range ss q) = rw (eq-eqb (root x) p here, same) (record { starts = omega arith; ends = omega arith }) in
        hull_covers (cond (eqb (root x) p) (covering r (scope_range ss x)) r) (scope_range ss q) qs wide)
    | inr later ↦ hull_covers_class (cond (eqb (root x) p) (covering r (scope_range ss x)) r) qs q later e
  ]
