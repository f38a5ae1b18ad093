-- Insertions one after the other sort, and keep level entries as they came.
use Rattle.std.proofs.Common.{◌≡◌, Bool, true, false, cond, List, [], ◌∷◌, ◌++◌, filter, sym, refl, ap, ◌∙◌, inl, inr, append_assoc}
use Rattle.std.specs.List.{AllByRecursion}
use Rattle.std.specs.List.Sorted.{IsPermutation}
use Rattle.std.proofs.lemmas.List.{append-nil}
use Rattle.std.proofs.lemmas.List.Sorted.{IsPermutation-refl, IsPermutation-trans}
use Rattle.std.proofs.lemmas.Bool.{cases_Bool, and_parts, not-true, both_ways}
use Rattle.agenda.specs.Order.{before_all, insert, insert_all, Ordered}
use Rattle.agenda.specs.Laws.{level, Sorts}
use Rattle.agenda.proofs.Orders.{Lawful}
use Rattle.agenda.proofs.Insertions.{shuffled_past, all_before, insert_ordered, insert_shuffled}

module _ {X : Type 0} (lt : X → X → Bool) (law : Lawful lt) where
  -- what goes before all of ys is level with none that one of ys is level with
  none_level : (x e : X) (ys : List X) → level lt x e ≡ true → AllByRecursion (λ y. lt e y ≡ true) ys → filter (level lt x) ys ≡ []
  none_level x e [] same h = refl
  none_level x e (y ∷ ys) same h = elim (cases_Bool (level lt x y)) [
    | inl t ↦ (
        let p = and_parts _ _ same in
        let q = and_parts _ _ t in
        absurd (both_ways (lt e y) (law.passes_on y x e (not-true (lt x y) q.0) (not-true (lt e x) p.1)) h.0))
    | inr f ↦ rw f (none_level x e ys same h.1)
  ]

  -- of those level with x, an insertion puts e last
  kept_insert : (x e : X) (ys : List X) → filter (level lt x) (insert lt e ys) ≡ filter (level lt x) ys ++ filter (level lt x) (e ∷ [])
  kept_insert x e [] = refl
  kept_insert x e (y ∷ ys) = elim (cases_Bool (before_all lt e (y ∷ ys))) [
    | inl b ↦ rw b (elim (cases_Bool (level lt x e)) [
      | inl t ↦ rw (t, none_level x e (y ∷ ys) t (all_before lt e (y ∷ ys) b))
      | inr f ↦ rw f (sym (append-nil (filter (level lt x) (y ∷ ys))))
    ])
    | inr b ↦ rw b (elim (cases_Bool (level lt x y)) [
      | inl t ↦ rw t (ap (λ zs. y ∷ zs) (kept_insert x e ys))
      | inr f ↦ rw f (kept_insert x e ys)
    ])
  ]

  kept_insert_all : (x : X) (xs ys : List X) → filter (level lt x) (insert_all lt xs ys) ≡ filter (level lt x) ys ++ filter (level lt x) xs
  kept_insert_all x [] ys = sym (append-nil (filter (level lt x) ys))
  kept_insert_all x (e ∷ xs) ys = kept_insert_all x xs (insert lt e ys) ∙ ap (λ zs. zs ++ filter (level lt x) xs) (kept_insert x e ys) ∙ append_assoc (filter (level lt x) ys) (filter (level lt x) (e ∷ [])) (filter (level lt x) xs) ∙ ap (λ zs. filter (level lt x) ys ++ zs) (kept_cons (level lt x e) (filter (level lt x) xs))
    where
      kept_cons : (b : Bool) (zs : List X) → (cond b (e ∷ []) [] ++ zs) ≡ cond b (e ∷ zs) zs
      kept_cons true zs = refl
      kept_cons false zs = refl

  insert_all_ordered : (xs ys : List X) → Ordered lt ys → Ordered lt (insert_all lt xs ys)
  insert_all_ordered [] ys o = o
  insert_all_ordered (e ∷ xs) ys o = insert_all_ordered xs (insert lt e ys) (insert_ordered lt e law ys o)

  insert_behind : (e : X) (xs ys : List X) → IsPermutation (e ∷ (xs ++ ys)) (xs ++ insert lt e ys)
  insert_behind e [] ys = insert_shuffled lt e ys
  insert_behind e (x ∷ xs) ys = shuffled_past e x (xs ++ ys) (xs ++ insert lt e ys) (insert_behind e xs ys)

  insert_all_shuffled : (xs ys : List X) → IsPermutation (xs ++ ys) (insert_all lt xs ys)
  insert_all_shuffled [] ys = IsPermutation-refl ys
  insert_all_shuffled (e ∷ xs) ys = IsPermutation-trans (e ∷ (xs ++ ys)) (xs ++ insert lt e ys) (insert_all lt xs (insert lt e ys)) (insert_behind e xs ys) (insert_all_shuffled xs (insert lt e ys))

  pub sorts : Sorts lt
  sorts xs = (insert_all_ordered xs [] tt, rw (append-nil xs) at (insert_all_shuffled xs []), λ x. kept_insert_all x xs [])
