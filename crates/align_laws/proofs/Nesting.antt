-- In a bracketed function the open brackets are nested, so that each is the newest where it closes.
use Rattle.std.proofs.Common.{◌≡◌, ℕ, ◌+◌, ◌<◌, ◌≤◌, Bool, true, false, cond, eqb, ◌⊎◌, List, [], ◌∷◌, Some, None, Option, sym, refl, ap, ◌∙◌, subst, inl, inr, arith}
use Rattle.std.specs.List.{slice_get, AllByRecursion}
use Rattle.std.proofs.ByRecursion.{All-weaker}
use Rattle.std.proofs.lemmas.Bool.{cases_eq, cond-true, cond-false, eq-eqb, ne_eqb}
use Rattle.react_compiler_hir.specs.declared.rows.BlockRow.{BlockRow}
use Rattle.react_compiler_hir.specs.Function.{HirFunction}
use Rattle.align_rules.specs.Brackets.{Bracket, bracket_of, row_bracket, bracket_at}
use Rattle.align_rules.specs.Marks.{closing_at, open_after}
use Rattle.align_rules.specs.Meets.{Bracketed}
use Rattle.align_laws.proofs.Marking.{opened}

-- it opened in a block before position k
abbrev pub OpenedBefore : HirFunction → ℕ → Bracket → Type 0
OpenedBefore f k y = (j : ℕ) × (j < k) × (bracket_at f j ≡ Some y)

-- x is open, and those above it close from block k on, one after the other, and before x does
abbrev pub Under : Bracket → ℕ → List Bracket → Type 0
Under x k [] = ⊥
Under x k (y ∷ ys) = (y ≡ x) ⊎ ((k ≤ y.fallthrough) × (y.fallthrough < x.fallthrough) × Under x (y.fallthrough + 1) ys)

all_either : {X : Type 0} (P : X → Type 0) (b : Bool) (xs ys : List X) → AllByRecursion P xs → AllByRecursion P ys → AllByRecursion P (cond b xs ys)
all_either P true xs ys h k = h
all_either P false xs ys h k = k

all_open : (P : Bracket → Type 0) (k : ℕ) (ys : List Bracket) → AllByRecursion P ys → AllByRecursion P (open_after k ys)
all_open P k [] h = tt
all_open P k (y ∷ ys) h = all_either P (eqb y.fallthrough k) ys (y ∷ ys) h.1 h

module _ (f : HirFunction) (k : ℕ) (b : BlockRow) (stands : slice_get f.blocks k ≡ Some b) where
  older : (ys : List Bracket) → AllByRecursion (OpenedBefore f k) ys → AllByRecursion (OpenedBefore f (k + 1)) ys
  older ys h = All-weaker (OpenedBefore f k) (OpenedBefore f (k + 1)) (λ y g. (g.0, omega (arith, g.1), g.2)) ys h

  all_opened : (o : Option Bracket) (ys : List Bracket) → bracket_of f b ≡ o → AllByRecursion (OpenedBefore f k) ys → AllByRecursion (OpenedBefore f (k + 1)) (opened o ys)
  all_opened None ys e h = older ys h
  all_opened (Some x) ys e h = ((k, omega arith, ap (row_bracket f) stands ∙ e), older ys h)

  pub opened_more : (ys : List Bracket) → AllByRecursion (OpenedBefore f k) ys → AllByRecursion (OpenedBefore f (k + 1)) (opened (bracket_of f b) (open_after k ys))
  opened_more ys h = all_opened (bracket_of f b) (open_after k ys) refl (all_open (OpenedBefore f k) k ys h)

under_open : (x : Bracket) (k : ℕ) (ys : List Bracket) → k < x.fallthrough → Under x k ys → Under x (k + 1) (open_after k ys)
under_open x k [] l h = h
under_open x k (y ∷ ys) l (inl e) =
    let apart : y.fallthrough ≡ k → ⊥ = λ g. let same = ap (λ z. z.fallthrough) e in omega arith in
    subst (Under x (k + 1)) (sym (cond-false (eqb y.fallthrough k) ys (y ∷ ys) (ne_eqb y.fallthrough k apart))) (inl e)
under_open x k (y ∷ ys) l (inr h) = elim (cases_eq y.fallthrough k) [
  | inl e ↦
      subst (Under x (k + 1)) (sym (cond-true (eqb y.fallthrough k) ys (y ∷ ys) (eq-eqb y.fallthrough k e)))
      (subst (λ i. Under x (i + 1) ys) e h.2)
  | inr g ↦
      subst (Under x (k + 1)) (sym (cond-false (eqb y.fallthrough k) ys (y ∷ ys) (ne_eqb y.fallthrough k g)))
      (inr (omega (arith, h.0, g), h.1, h.2))
]

module _ (f : HirFunction) (bracketed : Bracketed f) (j : ℕ) (x : Bracket) (opens : bracket_at f j ≡ Some x) where
  -- a bracket z that opens at k closes before those that are open
  under_push : (k : ℕ) (z : Bracket) (ys : List Bracket) → bracket_at f k ≡ Some z → j < k → k < x.fallthrough → AllByRecursion (OpenedBefore f k) ys → Under x (k + 1) ys → Under x (k + 1) (z ∷ ys)
  under_push k z [] e l m all h = absurd h
  under_push k z (y ∷ ys) e l m all (inl same) =
      inr (omega (arith, bracketed.ahead k z e), bracketed.nested j k x z opens e l m, inl same)
  under_push k z (y ∷ ys) e l m all (inr h) =
      let first = all.0 in
      let inner = bracketed.nested first.0 k y z first.2 e first.1 (omega (arith, h.0)) in
      inr (omega (arith, bracketed.ahead k z e), bracketed.nested j k x z opens e l m, inr (omega arith, h.1, h.2))

  under_opened : (k : ℕ) (b : BlockRow) → slice_get f.blocks k ≡ Some b → j < k → k < x.fallthrough → (o : Option Bracket) → bracket_of f b ≡ o → (ys : List Bracket) → AllByRecursion (OpenedBefore f k) ys → Under x (k + 1) ys → Under x (k + 1) (opened o ys)
  under_opened k b stands l m None e ys all h = h
  under_opened k b stands l m (Some z) e ys all h = under_push k z ys (ap (row_bracket f) stands ∙ e) l m all h

  pub under_more : (k : ℕ) (b : BlockRow) → slice_get f.blocks k ≡ Some b → j < k → k < x.fallthrough → (ys : List Bracket) → AllByRecursion (OpenedBefore f k) ys → Under x k ys → Under x (k + 1) (opened (bracket_of f b) (open_after k ys))
  under_more k b stands l m ys all h =
      under_opened k b stands l m (bracket_of f b) refl (open_after k ys) (all_open (OpenedBefore f k) k ys all) (under_open x k ys m h)

pub under_closing : (x : Bracket) (ys : List Bracket) → Under x x.fallthrough ys → closing_at x.fallthrough ys ≡ Some x.start
under_closing x [] h = absurd h
under_closing x (y ∷ ys) (inl e) =
    cond-true (eqb y.fallthrough x.fallthrough) (Some y.start) None (eq-eqb y.fallthrough x.fallthrough (ap (λ z. z.fallthrough) e)) ∙ ap (λ z. Some z.start) e
under_closing x (y ∷ ys) (inr h) = absurd (omega (arith, h.0, h.1))
