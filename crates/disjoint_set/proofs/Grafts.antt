-- What one write of a root over a parent leaves of the climbs.
use Rattle.std.proofs.Common.{◌≡◌, ℕ, zero, suc, ◌<◌, cond, eqb, ◌≢◌, ◌⊎◌, List, length, get_or, set, sym, refl, ◌∙◌, inl, inr}
use Rattle.std.proofs.lemmas.List.{length-set, get_or-set_same, get_or-set_other}
use Rattle.std.proofs.lemmas.Bool.{cases_eq, eq-eqb, ne_eqb}
use Rattle.disjoint_set.specs.Forest.{Climb, Forest, root}
use Rattle.disjoint_set.proofs.Climbs.{root_is, climb, root_top, root_own}

-- qs has the items of ps, and to is the root of each
pub record Rooted (ps qs : List ℕ) (to : ℕ → ℕ) : Type 0 where
  pub forest : Forest qs
  pub long : length qs ≡ length ps
  pub roots : (j : ℕ) → j < length ps → root qs j ≡ to j

-- a's parent is the root b from now on: what climbed past a climbs to b, and the rest is as it was
module _ (ps : List ℕ) (a b : ℕ) (ha : a < length ps) (hb : b < length ps) (top : get_or ps b 0 ≡ b) (ne : b ≢ a) where
  within : (j : ℕ) → j < length ps → j < length (set ps a b)
  within j h = rw length-set h

  other : (j : ℕ) → j ≢ a → get_or (set ps a b) j 0 ≡ get_or ps j 0
  other j n = get_or-set_other ps a j b 0 n

  grafted_top : Climb (set ps a b) 0 b b
  grafted_top = (within b hb, other b ne ∙ top, refl)

  grafted : Climb (set ps a b) 1 a b
  grafted = let here : get_or (set ps a b) a 0 ≡ b = get_or-set_same ps a b 0 ha in (within a ha, λ z. ne (sym here ∙ z), rw here grafted_top)

  graft : (n j s : ℕ) → Climb ps n j s → ((m : ℕ) × (Climb (set ps a b) m j b × ((k : ℕ) × Climb ps k a s))) ⊎ (Climb (set ps a b) n j s × (s ≢ a))
  graft zero j s c = elim (cases_eq j a) [
    | inl e ↦ inl (1, (rw e grafted, (0, rw e at c)))
    | inr n ↦ inr ((within j c.0, other j n ∙ c.1, c.2), λ z. n (sym c.2 ∙ z))
  ]
  graft (suc m) j s c = elim (cases_eq j a) [
    | inl e ↦ inl (1, (rw e grafted, (suc m, rw e at c)))
    | inr n ↦ elim (graft m (get_or ps j 0) s c.2) [
      | inl h ↦ inl (suc h.0, ((within j c.0, (λ z. c.1 (sym (other j n) ∙ z)), rw (other j n) h.1.0), h.1.1))
      | inr h ↦ inr ((within j c.0, (λ z. c.1 (sym (other j n) ∙ z)), rw (other j n) h.0), h.1)
    ]
  ]

-- a list in which every item climbs to where `to` says
rooted : (ps : List ℕ) (a b : ℕ) (to : ℕ → ℕ) → ((j : ℕ) → j < length ps → (n : ℕ) × Climb (set ps a b) n j (to j)) → Rooted ps (set ps a b) to
rooted ps a b to f =
    record {
      forest = λ j h. (let c = f j (rw length-set at h) in (c.0, (to j, c.1)));
      long = length-set ps a b;
      roots = λ j h. (let c = f j h in root_is (set ps a b) c.0 j (to j) c.1);
    }

module _ (ps : List ℕ) (f : Forest ps) where
  -- an item is hung on its own root
  pub hung_rooted : (i r : ℕ) → i < length ps → r ≡ root ps i → r ≢ i → Rooted ps (set ps i r) (root ps)
  hung_rooted i r h is ne = rooted ps i r (root ps) (λ j hj.
      let top : (get_or ps r 0 ≡ r) × (r < length ps) = rw is (root_top ps f i h) in
      let c = climb ps f j hj in
      elim (graft ps i r h top.1 top.0 ne c.0 j (root ps j) c.1) [
        | inl g ↦ (let e : root ps j ≡ r = sym (root_is ps _ i _ g.1.1.1) ∙ sym is in (g.0, rw e g.1.0))
        | inr g ↦ (c.0, g.0)
      ])

  -- the root a is hung on the root b
  pub linked_rooted : (a b : ℕ) → a < length ps → b < length ps → get_or ps a 0 ≡ a → get_or ps b 0 ≡ b → b ≢ a → Rooted ps (set ps a b) (λ j. cond (eqb (root ps j) a) b (root ps j))
  linked_rooted a b ha hb ta tb ne = rooted ps a b (λ j. cond (eqb (root ps j) a) b (root ps j)) (λ j hj.
      let c = climb ps f j hj in
      elim (graft ps a b ha hb tb ne c.0 j (root ps j) c.1) [
        | inl g ↦ (let e : root ps j ≡ a = sym (root_is ps _ a _ g.1.1.1) ∙ root_own ps f a ha ta in (g.0, rw (eq-eqb (root ps j) a e) g.1.0))
        | inr g ↦ (c.0, rw (ne_eqb (root ps j) a g.1) g.0)
      ])
