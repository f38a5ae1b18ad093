-- Membership, and lists in which each element bears a relation to all after it.
use Rattle.std.proofs.Common.{◌≡◌, ℕ, not, eqb, ◌⊎◌, List, [], ◌∷◌, ◌++◌, sym, refl, ◌∙◌, subst, inl, inr}
use Rattle.std.specs.List.{AllByRecursion}
use Rattle.std.proofs.ByRecursion.{All-append, all_kept_by}
use Rattle.std.proofs.lemmas.Bool.{cases_Bool, cases_eq, eq-eqb, ne_eqb}
use Rattle.disjoint_set.specs.Classes.{In}
use Rattle.merge_rules.specs.Replay.{above, without}

-- ---- membership

pub in_left : (x : ℕ) (xs ys : List ℕ) → In x xs → In x (xs ++ ys)
in_left x [] ys h = absurd h
in_left x (y ∷ xs) ys h = elim h [ inl e ↦ inl e | inr m ↦ inr (in_left x xs ys m) ]

pub in_right : (x : ℕ) (xs ys : List ℕ) → In x ys → In x (xs ++ ys)
in_right x [] ys h = h
in_right x (y ∷ xs) ys h = inr (in_right x xs ys h)

pub in_either : (x : ℕ) (xs ys : List ℕ) → In x (xs ++ ys) → In x xs ⊎ In x ys
in_either x [] ys h = inr h
in_either x (y ∷ xs) ys h = elim h [
  | inl e ↦ inl (inl e)
  | inr m ↦ elim (in_either x xs ys m) [ inl l ↦ inl (inr l) | inr r ↦ inr r ]
]

pub all_in : (P : ℕ → Type 0) (xs : List ℕ) (x : ℕ) → AllByRecursion P xs → In x xs → P x
all_in P [] x a h = absurd h
all_in P (y ∷ ys) x a h = elim h [ inl e ↦ subst P (sym e) a.0 | inr m ↦ all_in P ys x a.1 m ]

pub all_from_in : (P : ℕ → Type 0) (xs : List ℕ) → ((x : ℕ) → In x xs → P x) → AllByRecursion P xs
all_from_in P [] h = tt
all_from_in P (x ∷ xs) h = (h x (inl refl), all_from_in P xs (λ y m. h y (inr m)))

-- in a list, and not its first
pub in_rest : (x y : ℕ) (ys : List ℕ) → In x (y ∷ ys) → (x ≡ y → ⊥) → In x ys
in_rest x y ys h ne = elim h [ inl e ↦ absurd (ne e) | inr m ↦ m ]

-- what stays of a stack
pub without_in : (p x : ℕ) (xs : List ℕ) → In x (without p xs) → In x xs × (p ≡ x → ⊥)
without_in p x [] h = absurd h
without_in p x (y ∷ ys) h = elim (cases_eq p y) [
  | inl e ↦ (let later = without_in p x ys (rw (eq-eqb p y e) at h) in (inr later.0, later.1))
  | inr n ↦ elim (stays (rw (ne_eqb p y n) at h)) [
    | inl e ↦ (inl e, λ z. n (z ∙ e))
    | inr m ↦ (let later = without_in p x ys m in (inr later.0, later.1))
  ]
]
  where
    stays : In x (y ∷ without p ys) → (x ≡ y) ⊎ In x (without p ys)
    stays g = g

pub in_without : (p x : ℕ) (xs : List ℕ) → In x xs → (p ≡ x → ⊥) → In x (without p xs)
in_without p x [] h ne = absurd h
in_without p x (y ∷ ys) h ne = elim (cases_eq p y) [
  | inl e ↦ rw (eq-eqb p y e) (in_without p x ys (in_rest x y ys h (λ z. ne (e ∙ sym z))) ne)
  | inr n ↦ rw (ne_eqb p y n) (elim h [ inl e ↦ inl e | inr m ↦ inr (in_without p x ys m ne) ])
]

-- ---- what stands above

pub above_in : (p y : ℕ) (xs : List ℕ) → In y (above p xs) → In p xs × In y xs
above_in p y [] h = absurd h
above_in p y (x ∷ xs) h = elim (cases_eq p x) [
  | inl e ↦ (inl e, inr (rw (eq-eqb p x e) at h))
  | inr n ↦ (let later = above_in p y xs (rw (ne_eqb p x n) at h) in (inr later.0, inr later.1))
]

-- of two on a stack one stands above the other
pub above_or_below : (p q : ℕ) (xs : List ℕ) → In p xs → In q xs → (p ≡ q) ⊎ (In q (above p xs) ⊎ In p (above q xs))
above_or_below p q [] hp hq = absurd hp
above_or_below p q (x ∷ xs) hp hq = elim (cases_eq p x) [
  | inl e ↦ elim hq [
    | inl d ↦ inl (e ∙ sym d)
    | inr m ↦ inr (inl (rw (eq-eqb p x e) m))
  ]
  | inr n ↦ (
      let mp = in_rest p x xs hp n in
      elim (cases_eq q x) [
        | inl d ↦ inr (inr (rw (eq-eqb q x d) mp))
        | inr k ↦ rw (ne_eqb p x n, ne_eqb q x k) (above_or_below p q xs mp (in_rest q x xs hq k))
      ])
]

-- ---- ranked lists

abbrev pub Ranked : (ℕ → ℕ → Type 0) → List ℕ → Type 0
Ranked R [] = Unit {0}
Ranked R (x ∷ xs) = AllByRecursion (R x) xs × Ranked R xs

module _ (R : ℕ → ℕ → Type 0) where
  pub ranked_without : (p : ℕ) (xs : List ℕ) → Ranked R xs → Ranked R (without p xs)
  ranked_without p [] h = tt
  ranked_without p (x ∷ xs) h = elim (cases_Bool (eqb p x)) [
    | inl t ↦ rw t (ranked_without p xs h.1)
    | inr t ↦ rw t (all_kept_by (λ q. not (eqb p q)) (R x) xs h.0, ranked_without p xs h.1)
  ]

  pub ranked_append : (xs ys : List ℕ) → Ranked R xs → Ranked R ys → ((x y : ℕ) → In x xs → In y ys → R x y) → Ranked R (xs ++ ys)
  ranked_append [] ys a b across = b
  ranked_append (x ∷ xs) ys a b across =
      (All-append (R x) xs ys a.0 (all_from_in (R x) ys (λ y m. across x y (inl refl) m)), ranked_append xs ys a.1 b (λ z y m k. across z y (inr m) k))

  pub ranked_above : (p y : ℕ) (xs : List ℕ) → Ranked R xs → In y (above p xs) → R p y
  ranked_above p y [] a h = absurd h
  ranked_above p y (x ∷ xs) a h = elim (cases_eq p x) [
    | inl e ↦ subst (λ z. R z y) (sym e) (all_in (R x) xs y a.0 (rw (eq-eqb p x e) at h))
    | inr n ↦ ranked_above p y xs a.1 (rw (ne_eqb p x n) at h)
  ]

  pub ranked_weaker : (P : ℕ → Type 0) (S : ℕ → ℕ → Type 0) → ((x y : ℕ) → P x → P y → R x y → S x y) → (xs : List ℕ) → AllByRecursion P xs → Ranked R xs → Ranked S xs
  ranked_weaker P S weaker [] a h = tt
  ranked_weaker P S weaker (x ∷ xs) a h =
      (all_from_in (S x) xs (λ y m. weaker x y a.0 (all_in P xs y a.1 m) (all_in (R x) xs y h.0 m)), ranked_weaker P S weaker xs a.1 h.1)
