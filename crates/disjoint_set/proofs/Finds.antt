-- What a find leaves: every root, and the words that it did not pass.
use Rattle.std.proofs.Common.{◌≡◌, ℕ, zero, suc, ◌<◌, cond, ◌≢◌, List, [], ◌∷◌, length, get_or, set, sym, refl, ap, ◌∙◌, inl, inr, arith}
use Rattle.std.proofs.lemmas.List.{length-set, get_or-set_same, get_or-set_other}
use Rattle.std.proofs.lemmas.Bool.{cases_eq, eq-eqb, ne_eqb}
use Rattle.disjoint_set.specs.Forest.{Climb, Forest, root, passed, height, hung, compressed}
use Rattle.disjoint_set.specs.Classes.{among}
use Rattle.disjoint_set.specs.Laws.{FindHangsWhatItPasses}
use Rattle.disjoint_set.proofs.Climbs.{climb, climb_within, climb_end, root_is, passed_own, passed_more}
use Rattle.disjoint_set.proofs.Grafts.{Rooted, hung_rooted}

pub compressed_own : (ps : List ℕ) (i : ℕ) → get_or ps i 0 ≡ i → compressed ps i ≡ ps
compressed_own ps i e = rw (passed_own ps i e)

-- an item below its root: what a find from its parent says of a find from it
pub record Parent (ps : List ℕ) (i p : ℕ) : Type 0 where
  pub within : p < length ps
  pub same : root ps p ≡ root ps i
  pub lower : height ps p < height ps i
  pub words : compressed ps i ≡ set (compressed ps p) i (root ps p)
  pub apart : root ps p ≢ i

parent_climb : (ps : List ℕ) (n i : ℕ) → Climb ps n i (root ps i) → (get_or ps i 0 ≡ i → ⊥) → Parent ps i (get_or ps i 0)
parent_climb ps zero i c ne = absurd (ne c.1)
parent_climb ps (suc n) i c ne =
    let p = get_or ps i 0 in
    let same : root ps p ≡ root ps i = root_is ps n p (root ps i) c.2 in
    let more : passed ps i ≡ i ∷ passed ps p = passed_more ps n i (root ps i) c in
    record {
      within = climb_within ps n p (root ps i) c.2;
      same = same;
      lower = omega (arith, ap length more);
      words = rw (more, same);
      apart = λ z. ne (rw (sym same ∙ z) at (climb_end ps (suc n) i (root ps i) c).0);
    }

module _ (ps : List ℕ) (f : Forest ps) where
  pub parent : (i : ℕ) → i < length ps → (get_or ps i 0 ≡ i → ⊥) → Parent ps i (get_or ps i 0)
  parent i h ne = let c = climb ps f i h in parent_climb ps c.0 i c.1 ne

  compressed_climb : (n i : ℕ) → Climb ps n i (root ps i) → Rooted ps (compressed ps i) (root ps)
  compressed_climb zero i c = rw (compressed_own ps i c.1) (record { forest = f; long = refl; roots = λ j h. refl })
  compressed_climb (suc n) i c =
      let p = parent_climb ps (suc n) i c c.1 in
      let q = compressed_climb n (get_or ps i 0) (rw (sym p.same) at c.2) in
      let h : i < length (compressed ps (get_or ps i 0)) = omega (arith, q.long, c.0) in
      let is : root ps (get_or ps i 0) ≡ root (compressed ps (get_or ps i 0)) i = p.same ∙ sym (q.roots i c.0) in
      let r = hung_rooted (compressed ps (get_or ps i 0)) q.forest i (root ps (get_or ps i 0)) h is p.apart in
      rw p.words (record { forest = r.forest; long = r.long ∙ q.long; roots = λ j hj. r.roots j (omega (arith, q.long)) ∙ q.roots j hj })

  pub compressed_rooted : (i : ℕ) → i < length ps → Rooted ps (compressed ps i) (root ps)
  compressed_rooted i h = let c = climb ps f i h in compressed_climb c.0 i c.1

  -- a find from an item below its root, after the find from its parent
  pub found : (i r : ℕ) (qs : List ℕ) → i < length ps → (get_or ps i 0 ≡ i → ⊥) → r ≡ root ps (get_or ps i 0) → qs ≡ compressed ps (get_or ps i 0) → (r ≡ root ps i) × (set qs i r ≡ compressed ps i) × Rooted ps (set qs i r) (root ps)
  found i r qs h ne is left =
      let p = parent i h ne in
      let words : set qs i r ≡ compressed ps i = rw (left, is) (sym p.words) in
      (is ∙ p.same, words, rw words (compressed_rooted i h))

length_hung : (ps : List ℕ) (r : ℕ) (xs : List ℕ) → length (hung ps r xs) ≡ length ps
length_hung ps r [] = refl
length_hung ps r (x ∷ xs) = length-set (hung ps r xs) x r ∙ length_hung ps r xs

hung_words : (ps : List ℕ) (r : ℕ) (xs : List ℕ) (j : ℕ) → j < length ps → get_or (hung ps r xs) j 0 ≡ cond (among j xs) r (get_or ps j 0)
hung_words ps r [] j h = refl
hung_words ps r (x ∷ xs) j h = elim (cases_eq j x) [
  | inl e ↦ (let hx : x < length (hung ps r xs) = omega (arith, length_hung ps r xs) in rw (eq-eqb j x e, e) (get_or-set_same (hung ps r xs) x r 0 hx))
  | inr n ↦ rw (ne_eqb j x n) (get_or-set_other (hung ps r xs) x j r 0 n ∙ hung_words ps r xs j h)
]

pub find_hangs : FindHangsWhatItPasses
find_hangs ps i j h = hung_words ps (root ps i) (passed ps i) j h
