-- An array made by a closure whose calls leave it as it was.
use Rattle.std.proofs.Common.{◌≡◌, ℕ, ◌+◌, ◌<◌, List, map, get_or, zero, suc, subst, ◌∙◌, arith}
use Rattle.std.specs.List.{range_with_len}
use Rattle.std.specs.Array.{IsFromFnResult, IsFromFnResultFrom}
use Rattle.std.proofs.lemmas.List.FromFn.{fill_by_all}
use denote.Param.Members.{Mut, Called}

module _ {F : Type 0} (g : Mut F (ℕ × Unit {0}) ℕ) (f : F) (made : ℕ → ℕ) (pure : (x y : ℕ) (q : F) → Called g f (x, tt) y q → (y ≡ made x) × (q ≡ f)) where
  made_at : (ys : List ℕ) (n i k j : ℕ) → i + k ≡ j → IsFromFnResultFrom g f ys i n → k < n → get_or ys j 0 ≡ made j
  made_at ys zero i k j e each lt = absurd (omega arith)
  made_at ys (suc n) i zero j e (q, y, at, was, rest) lt =
      let here : i ≡ j = omega arith in
      subst (λ m. get_or ys m 0 ≡ made m) here (at.1 0 ∙ (pure i y q was).0)
  made_at ys (suc n) i (suc k) j e (q, y, at, was, rest) lt =
      made_at ys n (i + 1) k j (omega arith) (subst (λ s. IsFromFnResultFrom g s ys (i + 1) n) (pure i y q was).1 rest)
      (omega arith)

  -- what the closure gives at each number, in order
  pub all_made : (ys : List ℕ) (n : ℕ) → IsFromFnResult g f ys n → ys ≡ map made (range_with_len 0 n)
  all_made ys n r = fill_by_all made ys n 0 r.long (λ k lt. made_at ys n 0 k k (omega arith) r.each lt)
