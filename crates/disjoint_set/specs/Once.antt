-- There is one proof that a list is a forest, since a climb has one length and one end.
use Rattle.std.specs.Prelude.{◌≡◌, ℕ, zero, suc, List, slice_index, refl}
use Rattle.std.proofs.Common.{ap, sym, ◌∙◌}
use Rattle.std.proofs.Props.{props}
use mathlib.Core.HLevel.{Σ_prop_path}
use Rattle.disjoint_set.specs.Forest.{Climb, Forest}

module _ (ps : List ℕ) where
  pub climb_length : (m n i r s : ℕ) → Climb ps m i r → Climb ps n i s → m ≡ n
  climb_length zero zero i r s a b = refl
  climb_length zero (suc n) i r s a b = absurd (b.1 a.1)
  climb_length (suc m) zero i r s a b = absurd (a.1 b.1)
  climb_length (suc m) (suc n) i r s a b = ap suc (climb_length m n (slice_index ps i) r s a.2 b.2)

  climb_one_end : (n i r s : ℕ) → Climb ps n i r → Climb ps n i s → r ≡ s
  climb_one_end zero i r s a b = a.2 ∙ sym b.2
  climb_one_end (suc n) i r s a b = climb_one_end n (slice_index ps i) r s a.2 b.2

  climb_once : (n i r : ℕ) → IsProp (Climb ps n i r)
  climb_once zero i r = hlevel props
  climb_once (suc n) i r = hlevel (props, climb_once n (slice_index ps i) r)

  end_once : (n i : ℕ) → IsProp ((r : ℕ) × Climb ps n i r)
  end_once n i = λ a b. Σ_prop_path (climb_once n i) (climb_one_end n i a.0 b.0 a.1 b.1)

  ends_once : (i : ℕ) → IsProp ((n : ℕ) × ((r : ℕ) × Climb ps n i r))
  ends_once i = λ a b. Σ_prop_path (λ n. end_once n i) (climb_length a.0 b.0 i a.1.0 b.1.0 a.1.1 b.1.1)

  pub forest_once : IsProp (Forest ps)
  forest_once = hlevel (props, ends_once)
