-- Lists read by position: what is found there is the next of what is left.
use Rattle.std.proofs.Common.{◌≡◌, ℕ, zero, suc, ◌+◌, ◌<◌, List, [], ◌∷◌, take, drop, Some, None, sym, refl, ap, ◌∙◌, suc-add, zero-add, arith}
use Rattle.std.specs.List.{slice_get}
use Rattle.std.proofs.lemmas.List.{drop_more}
use Rattle.std.proofs.lemmas.Option.{slice_get_within, get_or_from_slice_get}

pub drop_nth : {X : Type 0} (xs : List X) (i : ℕ) (x : X) → slice_get xs i ≡ Some x → drop i xs ≡ x ∷ drop (i + 1) xs
drop_nth xs i x e =
    drop_more xs i x (slice_get_within xs i x e) ∙ ap (λ y. y ∷ drop (i + 1) xs) (get_or_from_slice_get xs i x x e)

pub drop_none : {X : Type 0} (xs : List X) (i : ℕ) → slice_get xs i ≡ None → drop i xs ≡ []
drop_none [] zero e = refl
drop_none [] (suc i) e = refl
drop_none (y ∷ ys) zero e = let z : ◌≡◌ {A = ℕ} 0 1 = cc in absurd (omega arith)
drop_none (y ∷ ys) (suc i) e = drop_none ys i e

nth_none : {X : Type 0} (i : ℕ) → slice_get {X = X} [] i ≡ None
nth_none zero = refl
nth_none (suc i) = refl

nth_drop : {X : Type 0} (k : ℕ) (xs : List X) (i : ℕ) → slice_get (drop k xs) i ≡ slice_get xs (k + i)
nth_drop zero xs i = rw zero-add
nth_drop (suc k) [] i = nth_none i ∙ sym (nth_none (suc k + i))
nth_drop (suc k) (x ∷ xs) i = rw suc-add (nth_drop k xs i)

nth_take : {X : Type 0} (n : ℕ) (xs : List X) (i : ℕ) → i < n → slice_get (take n xs) i ≡ slice_get xs i
nth_take zero xs i h = absurd (omega arith)
nth_take (suc n) [] i h = refl
nth_take (suc n) (x ∷ xs) zero h = refl
nth_take (suc n) (x ∷ xs) (suc i) h = nth_take n xs i (omega arith)

-- a position of a part is a position of the whole
pub nth_part : {X : Type 0} (xs : List X) (k n i : ℕ) → i < n → slice_get xs (k + i) ≡ slice_get (take n (drop k xs)) i
nth_part xs k n i h = sym (nth_take n (drop k xs) i h ∙ nth_drop k xs i)
