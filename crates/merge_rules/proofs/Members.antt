-- What holds of all scopes that open, close or are touched holds of all that is joined.
use Rattle.std.proofs.Common.{ℕ, not, eqb, List, [], ◌∷◌, ◌++◌, inl, inr}
use Rattle.std.specs.List.{AllByRecursion}
use Rattle.std.proofs.ByRecursion.{All-append, all_kept_by}
use Rattle.std.proofs.lemmas.Bool.{cases_Bool}
use Rattle.merge_rules.specs.Touched.{Visit}
use Rattle.merge_rules.specs.Replay.{above, without, closed_stack, closing_joins, opening_joins, touching_joins, stack_after, Timetable, Stage, stepped, replayed}

module _ (P : ℕ → Type 0) where
  all_above : (p : ℕ) (stack : List ℕ) → AllByRecursion P stack → AllByRecursion P (above p stack)
  all_above p [] h = tt
  all_above p (q ∷ qs) h = elim (cases_Bool (eqb p q)) [
    | inl t ↦ rw t h.1
    | inr t ↦ rw t (all_above p qs h.1)
  ]

  all_closed : (stack ps : List ℕ) → AllByRecursion P stack → AllByRecursion P (closed_stack stack ps)
  all_closed stack [] h = h
  all_closed stack (p ∷ ps) h = all_closed (without p stack) ps (all_kept_by (λ q. not (eqb p q)) P stack h)

  all_closing : (stack ps : List ℕ) → AllByRecursion P stack → AllByRecursion P ps → AllByRecursion (AllByRecursion P) (closing_joins stack ps)
  all_closing stack [] h g = tt
  all_closing stack (p ∷ ps) h g =
      ((g.0, all_above p stack h), all_closing (without p stack) ps (all_kept_by (λ q. not (eqb p q)) P stack h) g.1)

  all_opening : (ending : ℕ → ℕ) (ps : List ℕ) → AllByRecursion P ps → AllByRecursion (AllByRecursion P) (opening_joins ending ps)
  all_opening ending [] g = tt
  all_opening ending (p ∷ []) g = tt
  all_opening ending (p ∷ (q ∷ qs)) g =
      let rest = all_opening ending (q ∷ qs) g.1 in
      elim (cases_Bool (eqb (ending p) (ending q))) [
        | inl t ↦ rw t ((g.0, (g.1.0, tt)), rest)
        | inr t ↦ rw t rest
      ]

  all_touching : (stack ps : List ℕ) → AllByRecursion P stack → AllByRecursion P ps → AllByRecursion (AllByRecursion P) (touching_joins stack ps)
  all_touching stack [] h g = tt
  all_touching stack (p ∷ ps) h g = ((g.0, all_above p stack h), all_touching stack ps h g.1)

  -- a stage of which it holds
  pub record Holds (s : Stage) : Type 0 where
    pub stack : AllByRecursion P s.stack
    pub joins : AllByRecursion (AllByRecursion P) s.joins

  module _ (times : Timetable) (opens : (t : ℕ) → AllByRecursion P (times.opening t)) (closes : (t : ℕ) → AllByRecursion P (times.closing t)) where
    stepped_holds : (s : Stage) (v : Visit) → AllByRecursion P v.touched → Holds s → Holds (stepped times s v)
    stepped_holds s v g h =
        let t = v.number in
        let stack : AllByRecursion P (stack_after times s.stack t) = All-append P (closed_stack s.stack (times.closing t)) (times.opening t) (all_closed s.stack (times.closing t) h.stack) (opens t) in
        let closed = closing_joins s.stack (times.closing t) in
        let opened = opening_joins times.ending (times.opening t) in
        let touched = touching_joins (stack_after times s.stack t) v.touched in
        record {
          stack = stack;
          joins = All-append (AllByRecursion P) s.joins (closed ++ (opened ++ touched)) h.joins
              (All-append (AllByRecursion P) closed (opened ++ touched) (all_closing s.stack (times.closing t) h.stack (closes t))
              (All-append (AllByRecursion P) opened touched (all_opening times.ending (times.opening t) (opens t)) (all_touching (stack_after times s.stack t) v.touched stack g)));
        }

    pub replayed_holds : (s : Stage) (vs : List Visit) → AllByRecursion (λ v. AllByRecursion P v.touched) vs → Holds s → Holds (replayed times s vs)
    replayed_holds s [] g h = h
    replayed_holds s (v ∷ vs) g h = replayed_holds (stepped times s v) vs g.1 (stepped_holds s v g.0 h)
