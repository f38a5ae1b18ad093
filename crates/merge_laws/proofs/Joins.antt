-- What is linked is joined: classes that hold together what each list joins hold together what is linked.
use Rattle.std.proofs.Common.{◌≡◌, ℕ, ◌+◌, ◌<◌, ◌≤◌, Bool, true, false, cond, eqb, List, [], ◌∷◌, ◌++◌, sym, refl, ap, ◌∙◌, subst, inl, inr, arith}
use Rattle.std.proofs.lemmas.Bool.{cases_eq, eq-eqb}
use Rattle.disjoint_set.specs.Classes.{In, Together}
use Rattle.merge_rules.specs.Touched.{Visit}
use Rattle.merge_rules.specs.Links.{Any}
use Rattle.merge_rules.specs.Replay.{Timetable, Stage, above, without, closing_joins, opening_joins, touching_joins, stack_after, joins_at, stepped, replayed}
use Rattle.merge_laws.proofs.Lists.{in_rest, all_in, in_without, above_or_below, Ranked, ranked_above}
use Rattle.merge_laws.proofs.Stacks.{Over, Course, Standing, Closing, closing_first, closing_next, standing_next}
use Rattle.merge_laws.proofs.Ties.{Follows}

-- scopes that are together in a list have one class
abbrev pub Respects : (ℕ → ℕ) → List (List ℕ) → Type 0
Respects class xss = (i j : ℕ) → Together xss i j → class i ≡ class j

together_left : (xss yss : List (List ℕ)) (i j : ℕ) → Together xss i j → Together (xss ++ yss) i j
together_left [] yss i j h = absurd h
together_left (xs ∷ xss) yss i j h = elim h [ inl b ↦ inl b | inr l ↦ inr (together_left xss yss i j l) ]

together_right : (xss yss : List (List ℕ)) (i j : ℕ) → Together yss i j → Together (xss ++ yss) i j
together_right [] yss i j h = h
together_right (xs ∷ xss) yss i j h = inr (together_right xss yss i j h)

module _ (class : ℕ → ℕ) where
  respects_left : (xss yss : List (List ℕ)) → Respects class (xss ++ yss) → Respects class xss
  respects_left xss yss r i j h = r i j (together_left xss yss i j h)

  respects_right : (xss yss : List (List ℕ)) → Respects class (xss ++ yss) → Respects class yss
  respects_right xss yss r i j h = r i j (together_right xss yss i j h)

  respects_kept : (b : Bool) (xs : List ℕ) (xss : List (List ℕ)) → Respects class (cond b (xs ∷ xss) xss) → Respects class xss
  respects_kept true xs xss r i j h = r i j (inr h)
  respects_kept false xs xss r i j h = r i j h

  -- ---- opening

  -- those that end with the first are joined to it, neighbour by neighbour
  first_joined : (ending : ℕ → ℕ) (x : ℕ) (xs : List ℕ) → Ranked (λ p q. ending q ≤ ending p) (x ∷ xs) → Respects class (opening_joins ending (x ∷ xs))
      → (q : ℕ) → In q (x ∷ xs) → ending q ≡ ending x → class x ≡ class q
  first_joined ending x [] a r q h e = elim h [ inl d ↦ ap class (sym d) | inr m ↦ absurd m ]
  first_joined ending x (y ∷ ys) a r q h e = elim h [
    | inl d ↦ ap class (sym d)
    | inr m ↦ (
        let down : ending y ≤ ending x = a.0.0 in
        let up : ending q ≤ ending y = below m in
        let level : ending x ≡ ending y = omega arith in
        let both : Respects class ((x ∷ y ∷ []) ∷ opening_joins ending (y ∷ ys)) = rw (eq-eqb (ending x) (ending y) level) at r in
        both x y (inl (inl refl, inr (inl refl))) ∙ first_joined ending y ys a.1 (λ i j t. both i j (inr t)) q m (e ∙ level))
  ]
    where
      below : In q (y ∷ ys) → ending q ≤ ending y
      below (inl d) = let same : ending q ≡ ending y = ap ending d in omega arith
      below (inr k) = all_in (λ z. ending z ≤ ending y) ys q a.1.0 k

  rest_respected : (ending : ℕ → ℕ) (x : ℕ) (xs : List ℕ) → Respects class (opening_joins ending (x ∷ xs)) → Respects class (opening_joins ending xs)
  rest_respected ending x [] r = r
  rest_respected ending x (y ∷ ys) r = respects_kept (eqb (ending x) (ending y)) (x ∷ y ∷ []) (opening_joins ending (y ∷ ys)) r

  opening_joined : (ending : ℕ → ℕ) (xs : List ℕ) → Ranked (λ p q. ending q ≤ ending p) xs → Respects class (opening_joins ending xs)
      → (p q : ℕ) → In p xs → In q xs → ending p ≡ ending q → class p ≡ class q
  opening_joined ending [] a r p q hp hq e = absurd hp
  opening_joined ending (x ∷ xs) a r p q hp hq e = elim hp [
    | inl d ↦ ap class d ∙ first_joined ending x xs a r q hq (sym e ∙ ap ending d)
    | inr mp ↦ elim hq [
      | inl d ↦ sym (first_joined ending x xs a r p (inr mp) (e ∙ ap ending d)) ∙ ap class (sym d)
      | inr mq ↦ opening_joined ending xs a.1 (rest_respected ending x xs r) p q mp mq e
    ]
  ]

  touching_joined : (stack ps : List ℕ) → Respects class (touching_joins stack ps) → (p q : ℕ) → In p ps → In q (above p stack) → class p ≡ class q
  touching_joined stack [] r p q hp hq = absurd hp
  touching_joined stack (x ∷ ps) r p q hp hq = elim hp [
    | inl d ↦ r p q (inl (inl d, inr (subst (λ z. In q (above z stack)) d hq)))
    | inr m ↦ touching_joined stack ps (λ i j t. r i j (inr t)) p q m hq
  ]

  module _ (times : Timetable) (start : ℕ → ℕ) (Lives : ℕ → Type 0) (course : Course times start Lives) where
    -- ---- closing

    closing_joined : (t : ℕ) (stack cs : List ℕ) → Closing times start Lives t stack cs → Respects class (closing_joins stack cs)
        → (p q : ℕ) → In p cs → In p stack → In q stack → t < times.ending q → start p < start q → class p ≡ class q
    closing_joined t stack [] s r p q hc hp hq far later = absurd hc
    closing_joined t stack (c ∷ cs) s r p q hc hp hq far later = elim (cases_eq p c) [
      | inl e ↦ elim (above_or_below p q stack hp hq) [
        | inl d ↦ ap class d
        | inr either ↦ elim either [
          | inl up ↦ r p q (inl (inl e, inr (subst (λ z. In q (above z stack)) e up)))
          | inr down ↦ absurd (elim (ranked_above (Over start times.ending) q p stack s.ranked down) [
            | inl before ↦ omega arith
            | inr with_it ↦ (let same = with_it.0 in omega arith)
          ])
        ]
      ]
      | inr n ↦ closing_joined t (without c stack) cs (closing_next times start Lives course t c stack cs s) (λ i j h. r i j (inr h)) p q
          (in_rest p c cs hc n)
          (in_without c p stack hp (λ z. n (sym z)))
          (in_without c q stack hq (λ z. (let ends : times.ending c ≡ t = s.closers.0.1 in let same : times.ending c ≡ times.ending q = ap times.ending z in omega arith)))
          far later
    ]

    -- ---- the visit at which something is joined

    pub record Moment (Fits : Visit → Type 0) : Type 0 where
      pub visit : Visit
      pub fits : Fits visit
      pub before : ℕ
      pub next : visit.number ≡ before + 1
      pub stack : List ℕ
      pub standing : Standing times start Lives before stack
      pub respected : Respects class (joins_at times stack visit)

    respects_earlier : (s : Stage) (vs : List Visit) → Respects class (replayed times s vs).joins → Respects class s.joins
    respects_earlier s [] r = r
    respects_earlier s (v ∷ vs) r = respects_left s.joins (joins_at times s.stack v) (respects_earlier (stepped times s v) vs r)

    pub moment : (Fits : Visit → Type 0) (m : ℕ) (s : Stage) (vs : List Visit) → Follows m vs → Standing times start Lives m s.stack → Respects class (replayed times s vs).joins → Any Fits vs → Moment Fits
    moment Fits m s [] follows standing r h = absurd h
    moment Fits m s (v ∷ vs) follows standing r h = elim h [
      | inl fits ↦ record {
        visit = v;
        fits = fits;
        before = m;
        next = follows.0;
        stack = s.stack;
        standing = standing;
        respected = respects_right s.joins (joins_at times s.stack v) (respects_earlier (stepped times s v) vs r);
      }
      | inr later ↦ moment Fits (m + 1) (stepped times s v) vs follows.1
          (subst (λ t. Standing times start Lives t (stack_after times s.stack v.number)) follows.0 (standing_next times start Lives course m v.number s.stack follows.0 standing))
          r later
    ]

    module _ (vs : List Visit) (s : Stage) (follows : Follows 0 vs) (empty : Standing times start Lives 0 s.stack) (r : Respects class (replayed times s vs).joins) where
      -- scopes that cross are joined where the first of them ends
      pub crossing_joined : (p q : ℕ) → Lives p → Lives q → start p < start q → start q < times.ending p → times.ending p < times.ending q
          → Any (λ v. v.number ≡ times.ending p) vs → class p ≡ class q
      crossing_joined p q lp lq first within beyond at_end =
          let m = moment (λ v. v.number ≡ times.ending p) 0 s vs follows empty r at_end in
          let t = m.visit.number in
          let here : t ≡ times.ending p = m.fits in
          let next : t ≡ m.before + 1 = m.next in
          let closed = closing_joins m.stack (times.closing t) in
          let rest = opening_joins times.ending (times.opening t) ++ touching_joins (stack_after times m.stack t) m.visit.touched in
          closing_joined t m.stack (times.closing t) (closing_first times start Lives course m.before t m.stack m.next m.standing) (respects_left closed rest m.respected) p q
          (course.closed t p lp (sym here))
          (m.standing.all p lp (omega arith) (omega arith))
          (m.standing.all q lq (omega arith) (omega arith))
          (omega arith) first

      -- scopes with equal ranges are joined where they start
      pub same_joined : (p q : ℕ) → Lives p → Lives q → start p ≡ start q → times.ending p ≡ times.ending q
          → Any (λ v. v.number ≡ start p) vs → class p ≡ class q
      same_joined p q lp lq starts ends at_start =
          let m = moment (λ v. v.number ≡ start p) 0 s vs follows empty r at_start in
          let t = m.visit.number in
          let here : t ≡ start p = m.fits in
          let closed = closing_joins m.stack (times.closing t) in
          let opened = opening_joins times.ending (times.opening t) in
          let touched = touching_joins (stack_after times m.stack t) m.visit.touched in
          opening_joined times.ending (times.opening t) (course.opens_ranked t) (respects_left opened touched (respects_right closed (opened ++ touched) m.respected)) p q
          (course.opened t p lp (sym here)) (course.opened t q lq (sym starts ∙ sym here)) ends

      -- a touched scope is joined with those over which it stands
      pub touching_all_joined : (p q t : ℕ) → Lives p → Lives q → start p ≤ t → t < times.ending p → start q ≤ t → t < times.ending q → Over start times.ending p q
          → Any (λ v. (v.number ≡ t) × In p v.touched) vs → Any (λ v. v.number ≡ start p) vs → class p ≡ class q
      touching_all_joined p q t lp lq p_low p_high q_low q_high over at_touch at_start =
          let m = moment (λ v. (v.number ≡ t) × In p v.touched) 0 s vs follows empty r at_touch in
          let u = m.visit.number in
          let here : u ≡ t = m.fits.0 in
          let stack = stack_after times m.stack u in
          let standing = standing_next times start Lives course m.before u m.stack m.next m.standing in
          let closed = closing_joins m.stack (times.closing u) in
          let opened = opening_joins times.ending (times.opening u) in
          let touched = touching_joins stack m.visit.touched in
          elim (above_or_below p q stack (standing.all p lp (omega arith) (omega arith)) (standing.all q lq (omega arith) (omega arith))) [
            | inl d ↦ ap class d
            | inr either ↦ elim either [
              | inl up ↦ touching_joined stack m.visit.touched (respects_right opened touched (respects_right closed (opened ++ touched) m.respected)) p q m.fits.1 up
              | inr down ↦ level over (ranked_above (Over start times.ending) q p stack standing.ranked down)
            ]
          ]
        where
          level : Over start times.ending p q → Over start times.ending q p → class p ≡ class q
          level (inl a) (inl b) = absurd (omega arith)
          level (inl a) (inr b) = absurd (let e = b.0 in omega arith)
          level (inr a) (inl b) = absurd (let e = a.0 in omega arith)
          level (inr a) (inr b) = same_joined p q lp lq a.0 (let x = a.1 in let y = b.1 in omega arith) at_start
