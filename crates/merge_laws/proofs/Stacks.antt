-- Which scopes stand on the stack of a replay, and in which order.
use Rattle.std.proofs.Common.{◌≡◌, ℕ, ◌+◌, ◌<◌, ◌≤◌, ◌⊎◌, List, [], ◌∷◌, ◌++◌, sym, ap, ◌∙◌, inl, inr, arith}
use Rattle.std.specs.List.{AllByRecursion}
use Rattle.std.proofs.lemmas.Bool.{cases_eq, cases_lt}
use Rattle.disjoint_set.specs.Classes.{In}
use Rattle.merge_rules.specs.Replay.{Timetable, without, closed_stack, stack_after}
use Rattle.merge_laws.proofs.Lists.{in_left, in_right, in_either, in_rest, all_from_in, without_in, in_without, Ranked, ranked_without, ranked_append, ranked_weaker}

-- q starts after p, or with it and ends no later
abbrev pub Over : (ℕ → ℕ) → (ℕ → ℕ) → ℕ → ℕ → Type 0
Over start ending p q = (start p < start q) ⊎ ((start p ≡ start q) × (ending q ≤ ending p))

-- what the laws need of the scopes: those that are live open where they start and close where they end, in order
pub record Course (times : Timetable) (start : ℕ → ℕ) (Lives : ℕ → Type 0) : Type 0 where
  pub opens : (t p : ℕ) → In p (times.opening t) → Lives p × (start p ≡ t)
  pub opened : (t p : ℕ) → Lives p → start p ≡ t → In p (times.opening t)
  pub closes : (t p : ℕ) → In p (times.closing t) → Lives p × (times.ending p ≡ t)
  pub closed : (t p : ℕ) → Lives p → times.ending p ≡ t → In p (times.closing t)
  pub opens_ranked : (t : ℕ) → Ranked (λ p q. times.ending q ≤ times.ending p) (times.opening t)
  pub closes_ranked : (t : ℕ) → Ranked (λ p q. start q ≤ start p) (times.closing t)
  pub filled : (p : ℕ) → Lives p → start p < times.ending p

-- the stack after the number m: the live scopes that contain it, each over those that stand above
pub record Standing (times : Timetable) (start : ℕ → ℕ) (Lives : ℕ → Type 0) (m : ℕ) (stack : List ℕ) : Type 0 where
  pub lives : (p : ℕ) → In p stack → Lives p
  pub begun : (p : ℕ) → In p stack → start p ≤ m
  pub going : (p : ℕ) → In p stack → m < times.ending p
  pub all : (p : ℕ) → Lives p → start p ≤ m → m < times.ending p → In p stack
  pub ranked : Ranked (Over start times.ending) stack

-- the stack at the number t while the scopes cs are still to close
pub record Closing (times : Timetable) (start : ℕ → ℕ) (Lives : ℕ → Type 0) (t : ℕ) (stack cs : List ℕ) : Type 0 where
  pub lives : (p : ℕ) → In p stack → Lives p
  pub begun : (p : ℕ) → In p stack → start p < t
  pub going : (p : ℕ) → In p stack → (t < times.ending p) ⊎ ((times.ending p ≡ t) × In p cs)
  pub all : (p : ℕ) → Lives p → start p < t → t < times.ending p → In p stack
  pub ranked : Ranked (Over start times.ending) stack
  pub closers : AllByRecursion (λ p. Lives p × (times.ending p ≡ t)) cs
  pub closers_ranked : Ranked (λ p q. start q ≤ start p) cs

module _ (times : Timetable) (start : ℕ → ℕ) (Lives : ℕ → Type 0) (course : Course times start Lives) where
  pub closing_first : (m t : ℕ) (stack : List ℕ) → t ≡ m + 1 → Standing times start Lives m stack → Closing times start Lives t stack (times.closing t)
  closing_first m t stack next s =
      record {
        lives = s.lives;
        begun = λ p h. omega (arith, s.begun p h);
        going = λ p h. elim (cases_eq (times.ending p) t) [
          | inl e ↦ inr (e, course.closed t p (s.lives p h) e)
          | inr n ↦ inl (later p (s.going p h) n)
        ];
        all = λ p l b g. s.all p l (omega arith) (omega arith);
        ranked = s.ranked;
        closers = all_from_in (λ p. Lives p × (times.ending p ≡ t)) (times.closing t) (course.closes t);
        closers_ranked = course.closes_ranked t;
      }
    where
      later : (p : ℕ) → m < times.ending p → (times.ending p ≡ t → ⊥) → t < times.ending p
      later p g n = omega arith

  pub closing_next : (t c : ℕ) (stack cs : List ℕ) → Closing times start Lives t stack (c ∷ cs) → Closing times start Lives t (without c stack) cs
  closing_next t c stack cs s =
      record {
        lives = λ p h. s.lives p (without_in c p stack h).0;
        begun = λ p h. s.begun p (without_in c p stack h).0;
        going = λ p h. (let w = without_in c p stack h in elim (s.going p w.0) [
          | inl l ↦ inl l
          | inr e ↦ inr (e.0, in_rest p c cs e.1 (λ z. w.1 (sym z)))
        ]);
        all = λ p l b g. in_without c p stack (s.all p l b g) (λ z. (let e : times.ending c ≡ t = s.closers.0.1 in let d : times.ending c ≡ times.ending p = ap times.ending z in omega arith));
        ranked = ranked_without (Over start times.ending) c stack s.ranked;
        closers = s.closers.1;
        closers_ranked = s.closers_ranked.1;
      }

  closing_last : (t : ℕ) (stack cs : List ℕ) → Closing times start Lives t stack cs → Closing times start Lives t (closed_stack stack cs) []
  closing_last t stack [] s = s
  closing_last t stack (c ∷ cs) s = closing_last t (without c stack) cs (closing_next t c stack cs s)

  opening_done : (t : ℕ) (stack : List ℕ) → Closing times start Lives t stack [] → Standing times start Lives t (stack ++ times.opening t)
  opening_done t stack s =
      record {
        lives = λ p h. elim (in_either p stack (times.opening t) h) [ inl m ↦ s.lives p m | inr m ↦ (course.opens t p m).0 ];
        begun = λ p h. elim (in_either p stack (times.opening t) h) [ inl m ↦ before p (s.begun p m) | inr m ↦ now p (course.opens t p m).1 ];
        going = λ p h. elim (in_either p stack (times.opening t) h) [
          | inl m ↦ elim (s.going p m) [ inl l ↦ l | inr e ↦ absurd e.1 ]
          | inr m ↦ ahead p (course.opens t p m).1 (course.filled p (course.opens t p m).0)
        ];
        all = λ p l b g. elim (cases_lt (start p) t) [
          | inl h ↦ in_left p stack (times.opening t) (s.all p l h g)
          | inr h ↦ in_right p stack (times.opening t) (course.opened t p l (omega arith))
        ];
        ranked = ranked_append (Over start times.ending) stack (times.opening t) s.ranked
            (ranked_weaker (λ p q. times.ending q ≤ times.ending p) (λ p. start p ≡ t) (Over start times.ending) (λ p q a b e. inr (a ∙ sym b, e)) (times.opening t)
            (all_from_in (λ p. start p ≡ t) (times.opening t) (λ p m. (course.opens t p m).1)) (course.opens_ranked t))
            (λ p q m k. inl (across p q (s.begun p m) (course.opens t q k).1));
      }
    where
      before : (p : ℕ) → start p < t → start p ≤ t
      before p h = omega arith

      now : (p : ℕ) → start p ≡ t → start p ≤ t
      now p h = omega arith

      ahead : (p : ℕ) → start p ≡ t → start p < times.ending p → t < times.ending p
      ahead p e h = omega arith

      across : (p q : ℕ) → start p < t → start q ≡ t → start p < start q
      across p q h e = omega arith

  -- from number to number
  pub standing_next : (m t : ℕ) (stack : List ℕ) → t ≡ m + 1 → Standing times start Lives m stack → Standing times start Lives t (stack_after times stack t)
  standing_next m t stack next s = opening_done t (closed_stack stack (times.closing t)) (closing_last t stack (times.closing t) (closing_first m t stack next s))
