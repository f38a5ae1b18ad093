-- An insertion seen from the end of the list; it keeps the order, and brings in one entry.
use Rattle.std.proofs.Common.{◌≡◌, Bool, true, false, List, [], ◌∷◌, ◌++◌, refl, ap, ◌∙◌, inl, inr, arith}
use Rattle.std.specs.List.{AllByRecursion}
use Rattle.std.specs.List.Sorted.{IsPermutation}
use Rattle.std.proofs.Math.Bool.{and-true, and-false}
use Rattle.std.proofs.ByRecursion.{All-weaker}
use Rattle.std.proofs.lemmas.List.Sorted.{IsPermutation-refl, IsPermutation-trans, IsPermutation-cons, IsPermutation-swap}
use Rattle.std.proofs.lemmas.List.Elements.{recursion_from_All}
use Rattle.std.proofs.lemmas.List.Folds.{list_all-append}
use Rattle.std.proofs.lemmas.List.Sums.{AllPass-from_list_all}
use Rattle.std.proofs.lemmas.Bool.{cases_Bool, and_from, both_ways}
use Rattle.agenda.specs.Order.{before_all, insert, Ordered}
use Rattle.agenda.proofs.Orders.{Lawful}

-- an entry goes past the first of a list whose rest it is shuffled into
pub shuffled_past : {X : Type 0} (e y : X) (ys zs : List X) → IsPermutation (e ∷ ys) zs → IsPermutation (e ∷ y ∷ ys) (y ∷ zs)
shuffled_past e y ys zs h = IsPermutation-trans (e ∷ y ∷ ys) (y ∷ e ∷ ys) (y ∷ zs) (IsPermutation-swap (e ∷ y ∷ ys) (y ∷ e ∷ ys) 0 1 (omega arith) (omega arith) refl) (IsPermutation-cons y (e ∷ ys) zs h)

module _ {X : Type 0} (lt : X → X → Bool) (e : X) where
  -- e passes the last entry
  pub insert_passes : (ys : List X) (y : X) → lt e y ≡ true → insert lt e (ys ++ y ∷ []) ≡ insert lt e ys ++ y ∷ []
  insert_passes [] y t = rw t
  insert_passes (z ∷ zs) y t =
      let all : before_all lt e (z ∷ zs ++ y ∷ []) ≡ before_all lt e (z ∷ zs) = list_all-append (lt e) (z ∷ zs) (y ∷ []) ∙ rw t (and-true (before_all lt e (z ∷ zs))) in
      elim (cases_Bool (before_all lt e (z ∷ zs))) [
        | inl b ↦ rw (all, b)
        | inr b ↦ rw (all, b) (ap (λ us. z ∷ us) (insert_passes zs y t))
      ]

  -- e stays behind the last entry
  pub insert_stays : (ys : List X) (y : X) → lt e y ≡ false → insert lt e (ys ++ y ∷ []) ≡ (ys ++ y ∷ []) ++ e ∷ []
  insert_stays [] y f = rw f
  insert_stays (z ∷ zs) y f =
      let none : before_all lt e (z ∷ zs ++ y ∷ []) ≡ false = list_all-append (lt e) (z ∷ zs) (y ∷ []) ∙ rw f (and-false (before_all lt e (z ∷ zs))) in
      rw none (ap (λ us. z ∷ us) (insert_stays zs y f))

  pub all_before : (xs : List X) → before_all lt e xs ≡ true → AllByRecursion (λ y. lt e y ≡ true) xs
  all_before xs h = recursion_from_All (λ y. lt e y ≡ true) xs (AllPass-from_list_all (lt e) xs h)

  all_insert : (P : X → Type 0) (xs : List X) → P e → AllByRecursion P xs → AllByRecursion P (insert lt e xs)
  all_insert P [] p h = (p, h)
  all_insert P (y ∷ ys) p h = elim (cases_Bool (before_all lt e (y ∷ ys))) [ inl t ↦ rw t (p, h) | inr f ↦ rw f (h.0, all_insert P ys p h.1) ]

  pub insert_shuffled : (xs : List X) → IsPermutation (e ∷ xs) (insert lt e xs)
  insert_shuffled [] = IsPermutation-refl (e ∷ [])
  insert_shuffled (y ∷ ys) = elim (cases_Bool (before_all lt e (y ∷ ys))) [
    | inl t ↦ rw t (IsPermutation-refl (e ∷ y ∷ ys))
    | inr f ↦ rw f (shuffled_past e y ys (insert lt e ys) (insert_shuffled ys))
  ]

  module _ (law : Lawful lt) where
    -- what goes before the first goes before all
    before_first : (y : X) (ys : List X) → AllByRecursion (λ z. lt z y ≡ false) ys → lt e y ≡ true → before_all lt e ys ≡ true
    before_first y [] h t = refl
    before_first y (z ∷ zs) h t = elim (cases_Bool (lt e z)) [
      | inl b ↦ and_from (lt e z) (before_all lt e zs) b (before_first y zs h.1 t)
      | inr f ↦ absurd (both_ways (lt e y) (law.passes_on y z e h.0 f) t)
    ]

    not_first : (y : X) (ys : List X) → AllByRecursion (λ z. lt z y ≡ false) ys → before_all lt e (y ∷ ys) ≡ false → lt e y ≡ false
    not_first y ys h f = elim (cases_Bool (lt e y)) [
      | inl t ↦ absurd (both_ways (before_all lt e (y ∷ ys)) f (and_from (lt e y) (before_all lt e ys) t (before_first y ys h t)))
      | inr n ↦ n
    ]

    pub insert_ordered : (xs : List X) → Ordered lt xs → Ordered lt (insert lt e xs)
    insert_ordered [] o = (tt, tt)
    insert_ordered (y ∷ ys) o = elim (cases_Bool (before_all lt e (y ∷ ys))) [
      | inl t ↦ rw t (All-weaker (λ z. lt e z ≡ true) (λ z. lt z e ≡ false) (law.asymmetric e) (y ∷ ys) (all_before (y ∷ ys) t), o)
      | inr f ↦ rw f (all_insert (λ z. lt z y ≡ false) ys (not_first y ys o.0 f) o.0, insert_ordered ys o.1)
    ]
