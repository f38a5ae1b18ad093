-- What the law of an order gives: of two entries at most one goes before, and not going before passes on.
use Rattle.std.proofs.Common.{◌≡◌, ℕ, Bool, true, false, not, List, sym, ◌∙◌, inl, inr}
use Rattle.std.proofs.Math.Decide.{ℕ_discrete}
use mathlib.Core.List.{List-discrete}
use Rattle.std.proofs.lemmas.Bool.{cases_Bool, both_ways}

same_or_not : (xs ys : List ℕ) → Dec (xs ≡ ys)
same_or_not = List-discrete ℕ_discrete

-- what the proofs about insertions need of an order
pub record Lawful {X : Type 0} (before : X → X → Bool) : Type 0 where
  pub asymmetric : (x y : X) → before x y ≡ true → before y x ≡ false
  pub passes_on : (x y z : X) → before y x ≡ false → before z y ≡ false → before z x ≡ false

module _ {X : Type 0} (compared : X → List ℕ) (before : X → X → Bool)
    (agree : (x y : X) → compared x ≡ compared y → before x y ≡ false)
    (one : (x y : X) → (compared x ≡ compared y → ⊥) → before x y ≡ not (before y x))
    (transitive : (x y z : X) → before x y ≡ true → before y z ≡ true → before x z ≡ true) where
  at_most_one : (x y : X) → before x y ≡ true → before y x ≡ false
  at_most_one x y h = elim (same_or_not (compared y) (compared x)) [ yes e ↦ agree y x e | no n ↦ one y x n ∙ rw h ]

  -- where neither goes before the other, a third that goes before the one goes before the other
  before_equal : (x y z : X) → compared x ≡ compared y → before z x ≡ true → before z y ≡ true
  before_equal x y z e h = elim (cases_Bool (before z y)) [
    | inl t ↦ t
    | inr f ↦ elim (same_or_not (compared y) (compared z)) [
      | yes s ↦ absurd (both_ways (before z x) (agree z x (sym s ∙ sym e)) h)
      | no n ↦ absurd (both_ways (before y x) (agree y x (sym e)) (transitive y z x (one y z n ∙ rw f) h))
    ]
  ]

  not_before_passes_on : (x y z : X) → before y x ≡ false → before z y ≡ false → before z x ≡ false
  not_before_passes_on x y z yx zy = elim (cases_Bool (before z x)) [
    | inl t ↦ absurd (both_ways (before z y) zy (elim (same_or_not (compared x) (compared y)) [
      | yes e ↦ before_equal x y z e t
      | no n ↦ transitive z x y t (one x y n ∙ rw yx)
    ]))
    | inr f ↦ f
  ]

  pub lawful : Lawful before
  lawful = record { asymmetric = at_most_one; passes_on = not_before_passes_on }
