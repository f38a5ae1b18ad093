-- The replay of a function: scopes open and close on a stack, and those that cannot be kept apart are joined.
use Rattle.std.specs.Prelude.{ℕ, cond, not, List, [], ◌∷◌, ◌++◌, map, filter, ◌==◌}
use Rattle.react_compiler_hir.specs.Function.{HirFunction}
use Rattle.rules.specs.Rows.{Rows, scope_range}
use Rattle.disjoint_set.specs.Classes.{sent_all}
use Rattle.merge_rules.specs.Named.{opening_order, closing_order, opening_at, closing_at}
use Rattle.merge_rules.specs.Touched.{Visit, visits}

-- A stack is a list with its top at the end. What stands above p
abbrev pub above : ℕ → List ℕ → List ℕ
above p [] = []
above p (q ∷ qs) = cond (p == q) qs (above p qs)

-- p is joined with all that stands above it
abbrev pub with_above : ℕ → List ℕ → List ℕ
with_above p stack = p ∷ above p stack

abbrev pub without : ℕ → List ℕ → List ℕ
without p stack = filter (λ q. not (p == q)) stack

-- closing some scopes, one after the other: what stays on the stack, and the lists that are joined
abbrev pub closed_stack : List ℕ → List ℕ → List ℕ
closed_stack stack [] = stack
closed_stack stack (p ∷ ps) = closed_stack (without p stack) ps

abbrev pub closing_joins : List ℕ → List ℕ → List (List ℕ)
closing_joins stack [] = []
closing_joins stack (p ∷ ps) = with_above p stack ∷ closing_joins (without p stack) ps

-- opening some scopes: neighbours that end together are joined
abbrev pub opening_joins : (ℕ → ℕ) → List ℕ → List (List ℕ)
opening_joins ending [] = []
opening_joins ending (p ∷ []) = []
opening_joins ending (p ∷ (q ∷ qs)) =
    cond (ending p == ending q) ((p ∷ q ∷ []) ∷ opening_joins ending (q ∷ qs)) (opening_joins ending (q ∷ qs))

-- touching some scopes
abbrev pub touching_joins : List ℕ → List ℕ → List (List ℕ)
touching_joins stack ps = map (λ p. with_above p stack) ps

-- which scopes open and close at a number, in order, and where a scope ends
pub record Timetable : Type 0 where
  pub opening : ℕ → List ℕ
  pub closing : ℕ → List ℕ
  pub ending : ℕ → ℕ

-- what stands on the stack, and the lists joined so far
pub record Stage : Type 0 where
  pub stack : List ℕ
  pub joins : List (List ℕ)

abbrev pub stack_after : Timetable → List ℕ → ℕ → List ℕ
stack_after times stack t = closed_stack stack (times.closing t) ++ times.opening t

-- what is joined at a number: first close, then open, then touch
abbrev pub joins_at : Timetable → List ℕ → Visit → List (List ℕ)
joins_at times stack v =
    closing_joins stack (times.closing v.number) ++
    (opening_joins times.ending (times.opening v.number) ++
    touching_joins (stack_after times stack v.number) v.touched)

abbrev pub stepped : Timetable → Stage → Visit → Stage
stepped times s v =
    record { stack = stack_after times s.stack v.number; joins = s.joins ++ joins_at times s.stack v }

abbrev pub replayed : Timetable → Stage → List Visit → Stage
replayed times s [] = s
replayed times s (v ∷ vs) = replayed times (stepped times s v) vs

abbrev pub outset : Stage
outset = record { stack = []; joins = [] }

-- scopes open and close where their ranges, as found, start and end
abbrev pub timetable : HirFunction → Rows → Timetable
timetable f rows =
    let opens = opening_order f rows in
    let closes = closing_order f rows in
    record { opening = opening_at opens; closing = closing_at closes; ending = λ p. (scope_range rows.scopes p).end }

-- all lists that are joined, in order
abbrev pub joins_of : HirFunction → Rows → List (List ℕ)
joins_of f rows = (replayed (timetable f rows) outset (visits f rows)).joins

-- the root of a scope's class: at the outset each scope is its own, and a join sends each class that it meets to that of its first scope
abbrev pub root_of : HirFunction → Rows → ℕ → ℕ
root_of f rows = let joins = joins_of f rows in sent_all (λ p. p) joins
