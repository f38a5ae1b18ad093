-- What a replay joins is linked: in every list that it joins, each scope has a link to the first.
use Rattle.std.proofs.Common.{◌≡◌, ℕ, ◌+◌, ◌<◌, ◌≤◌, eqb, List, [], ◌∷◌, ◌++◌, sym, refl, ap, ◌∙◌, subst, inl, inr, arith}
use Rattle.std.specs.List.{AllByRecursion}
use Rattle.std.proofs.ByRecursion.{All-append}
use Rattle.std.proofs.lemmas.Bool.{cases_Bool, eqb-true}
use Rattle.disjoint_set.specs.Classes.{In}
use Rattle.merge_rules.specs.Touched.{Visit}
use Rattle.merge_rules.specs.Replay.{Timetable, Stage, above, without, closing_joins, opening_joins, touching_joins, stack_after, joins_at, stepped, replayed}
use Rattle.merge_laws.proofs.Lists.{all_in, all_from_in, above_in, ranked_above}
use Rattle.merge_laws.proofs.Stacks.{Over, Course, Standing, Closing, closing_first, closing_next, standing_next}

-- the numbers of the visits go on from m, one by one
abbrev pub Follows : ℕ → List Visit → Type 0
Follows m [] = Unit {0}
Follows m (v ∷ vs) = (v.number ≡ m + 1) × Follows (m + 1) vs

-- each has a link to the first
abbrev pub Tied : (ℕ → ℕ → Type 0) → List ℕ → Type 0
Tied Link [] = Unit {0}
Tied Link (x ∷ xs) = AllByRecursion (Link x) xs

-- what makes a link between live scopes
pub record Linking (times : Timetable) (start : ℕ → ℕ) (Lives : ℕ → Type 0) (Touched : ℕ → ℕ → Type 0) (Link : ℕ → ℕ → Type 0) : Type 0 where
  pub crossing : (p q : ℕ) → Lives p → Lives q → start p < start q → start q < times.ending p → times.ending p < times.ending q → Link p q
  pub same : (p q : ℕ) → Lives p → Lives q → start p ≡ start q → times.ending p ≡ times.ending q → Link p q
  pub touching : (p q t : ℕ) → Lives p → Lives q → Touched p t → start q ≤ t → t < times.ending q → Over start times.ending p q → Link p q

module _ (times : Timetable) (start : ℕ → ℕ) (Lives : ℕ → Type 0) (course : Course times start Lives)
    (Touched : ℕ → ℕ → Type 0) (Link : ℕ → ℕ → Type 0) (linking : Linking times start Lives Touched Link) where
  -- what stands above c where c closes crosses c or is equal to it
  closing_link : (t c y : ℕ) (stack cs : List ℕ) → Closing times start Lives t stack (c ∷ cs) → In y (above c stack) → Link c y
  closing_link t c y stack cs s h =
      let c_lives = s.closers.0.0 in
      let ends : times.ending c ≡ t = s.closers.0.1 in
      let on = (above_in c y stack h).1 in
      let begun = s.begun y on in
      elim (s.going y on) [
        | inl far ↦ elim (ranked_above (Over start times.ending) c y stack s.ranked h) [
          | inl later ↦ linking.crossing c y c_lives (s.lives y on) later (omega arith) (omega arith)
          | inr with_it ↦ absurd (let short = with_it.1 in omega arith)
        ]
        | inr near ↦ (let alike : times.ending c ≡ times.ending y = ends ∙ sym near.0 in elim near.1 [
          | inl e ↦ linking.same c y c_lives (s.lives y on) (ap start (sym e)) alike
          | inr m ↦ (
              let back : start y ≤ start c = all_in (λ q. start q ≤ start c) cs y s.closers_ranked.0 m in
              let together : start c ≡ start y = elim (ranked_above (Over start times.ending) c y stack s.ranked h) [
                | inl later ↦ absurd (omega arith)
                | inr with_it ↦ with_it.0
              ] in
              linking.same c y c_lives (s.lives y on) together alike)
        ])
      ]

  closing_tied : (t : ℕ) (stack cs : List ℕ) → Closing times start Lives t stack cs → AllByRecursion (Tied Link) (closing_joins stack cs)
  closing_tied t stack [] s = tt
  closing_tied t stack (c ∷ cs) s =
      (all_from_in (Link c) (above c stack) (λ y h. closing_link t c y stack cs s h), closing_tied t (without c stack) cs (closing_next times start Lives course t c stack cs s))

  opening_tied : (t : ℕ) (ps : List ℕ) → AllByRecursion (λ p. Lives p × (start p ≡ t)) ps → AllByRecursion (Tied Link) (opening_joins times.ending ps)
  opening_tied t [] a = tt
  opening_tied t (p ∷ []) a = tt
  opening_tied t (p ∷ (q ∷ qs)) a =
      let rest = opening_tied t (q ∷ qs) a.1 in
      elim (cases_Bool (eqb (times.ending p) (times.ending q))) [
        | inl e ↦ rw e ((linking.same p q a.0.0 a.1.0.0 (a.0.1 ∙ sym a.1.0.1) (eqb-true (times.ending p) (times.ending q) e), tt), rest)
        | inr n ↦ rw n rest
      ]

  touching_tied : (t : ℕ) (stack ps : List ℕ) → Standing times start Lives t stack → ((p : ℕ) → In p ps → Touched p t) → AllByRecursion (Tied Link) (touching_joins stack ps)
  touching_tied t stack [] s touched = tt
  touching_tied t stack (p ∷ ps) s touched = (
    all_from_in (Link p) (above p stack) (λ y h. (
        let on = above_in p y stack h in
        linking.touching p y t (s.lives p on.0) (s.lives y on.1) (touched p (inl refl)) (s.begun y on.1) (s.going y on.1) (ranked_above (Over start times.ending) p y stack s.ranked h))),
    touching_tied t stack ps s (λ q m. touched q (inr m)),
  )

  joins_tied : (m : ℕ) (stack : List ℕ) (v : Visit) → v.number ≡ m + 1 → Standing times start Lives m stack → ((p : ℕ) → In p v.touched → Touched p v.number) → AllByRecursion (Tied Link) (joins_at times stack v)
  joins_tied m stack v next s touched =
      let t = v.number in
      let closed = closing_joins stack (times.closing t) in
      let opened = opening_joins times.ending (times.opening t) in
      let reached = touching_joins (stack_after times stack t) v.touched in
      All-append (Tied Link) closed (opened ++ reached) (closing_tied t stack (times.closing t) (closing_first times start Lives course m t stack next s))
      (All-append (Tied Link) opened reached
      (opening_tied t (times.opening t) (all_from_in (λ p. Lives p × (start p ≡ t)) (times.opening t) (course.opens t)))
      (touching_tied t (stack_after times stack t) v.touched (standing_next times start Lives course m t stack next s) touched))

  pub replayed_tied : (m : ℕ) (s : Stage) (vs : List Visit) → Follows m vs → Standing times start Lives m s.stack
      → AllByRecursion (λ v. (p : ℕ) → In p v.touched → Touched p v.number) vs → AllByRecursion (Tied Link) s.joins → AllByRecursion (Tied Link) (replayed times s vs).joins
  replayed_tied m s [] follows standing touched tied = tied
  replayed_tied m s (v ∷ vs) follows standing touched tied =
      replayed_tied (m + 1) (stepped times s v) vs follows.1
      (subst (λ t. Standing times start Lives t (stack_after times s.stack v.number)) follows.0 (standing_next times start Lives course m v.number s.stack follows.0 standing))
      touched.1
      (All-append (Tied Link) s.joins (joins_at times s.stack v) tied (joins_tied m s.stack v follows.0 standing touched.0))
