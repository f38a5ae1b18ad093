-- Joins send scopes to scopes that are joined, and a root is its own root.
use Rattle.std.proofs.Common.{◌≡◌, ℕ, cond, List, [], ◌∷◌, map, refl, ap, ◌∙◌, inl, inr}
use Rattle.std.specs.List.{AllByRecursion}
use Rattle.std.proofs.lemmas.Bool.{cases_Bool, eq-eqb}
use Rattle.disjoint_set.specs.Classes.{among, sent, sent_all}

-- what holds of all that is joined, and of a scope, holds of its root
sent_keeps : (P : ℕ → Type 0) (c : ℕ → ℕ) → ((j : ℕ) → P j → P (c j)) → (xs : List ℕ) → AllByRecursion P xs → (j : ℕ) → P j → P (sent c xs j)
sent_keeps P c keeps [] all j h = keeps j h
sent_keeps P c keeps (x ∷ xs) all j h = elim (cases_Bool (among (c j) (map c (x ∷ xs)))) [
  | inl t ↦ rw t (keeps x all.0)
  | inr t ↦ rw t (keeps j h)
]

pub sent_all_keeps : (P : ℕ → Type 0) (c : ℕ → ℕ) → ((j : ℕ) → P j → P (c j)) → (xss : List (List ℕ)) → AllByRecursion (AllByRecursion P) xss → (j : ℕ) → P j → P (sent_all c xss j)
sent_all_keeps P c keeps [] all j h = keeps j h
sent_all_keeps P c keeps (xs ∷ xss) all j h = sent_all_keeps P (sent c xs) (sent_keeps P c keeps xs all.0) xss all.1 j h

-- where every class has a root, it has one after a join
sent_own : (c : ℕ → ℕ) → ((j : ℕ) → c (c j) ≡ c j) → (xs : List ℕ) (j : ℕ) → sent c xs (sent c xs j) ≡ sent c xs j
sent_own c own [] j = own j
sent_own c own (x ∷ xs) j = elim (cases_Bool (among (c j) (map c (x ∷ xs)))) [
  | inl t ↦ rw (t, own x, eq-eqb (c x) (c x) refl)
  | inr t ↦ (let stays : sent c (x ∷ xs) j ≡ c j = rw t in ap (sent c (x ∷ xs)) stays ∙ ap (λ s. cond (among s (map c (x ∷ xs))) (c x) s) (own j))
]

pub sent_all_own : (c : ℕ → ℕ) → ((j : ℕ) → c (c j) ≡ c j) → (xss : List (List ℕ)) (j : ℕ) → sent_all c xss (sent_all c xss j) ≡ sent_all c xss j
sent_all_own c own [] j = own j
sent_all_own c own (xs ∷ xss) j = sent_all_own (sent c xs) (sent_own c own xs) xss j
