-- The visits of a sound function have the numbers 1 to n.
use Rattle.std.proofs.Common.{◌≡◌, ℕ, zero, suc, ◌+◌, ◌<◌, ◌≤◌, true, List, [], ◌∷◌, ◌++◌, map, length, sym, refl, ap, ◌∙◌, subst, inl, inr, arith}
use Rattle.std.specs.List.{range_with_len, AllByRecursion}
use Rattle.std.proofs.lemmas.List.FromFn.{length-range_with_len}
use Rattle.std.proofs.ByRecursion.{All-weaker}
use Rattle.std.proofs.lemmas.Bool.{cases_eq}
use Rattle.react_compiler_hir.specs.declared.rows.BlockRow.{BlockRow}
use Rattle.react_compiler_hir.specs.declared.rows.InstructionRow.{InstructionRow}
use Rattle.react_compiler_hir.specs.Function.{HirFunction}
use Rattle.visitors.specs.Mentions.{instructions_of, block_numbers}
use Rattle.function_laws.specs.Sound.{numbers_of}
use Rattle.rules.specs.Rows.{Rows, contains, scope_range}
use Rattle.disjoint_set.specs.Classes.{In}
use Rattle.merge_rules.specs.Touched.{Visit, instruction_visit, terminal_visit, block_visits, visits_of}
use Rattle.merge_rules.specs.Links.{Any}
use Rattle.merge_laws.proofs.Lists.{all_in}
use Rattle.merge_laws.proofs.Ties.{Follows}

map_append : {X Y : Type 0} (f : X → Y) (xs ys : List X) → map f (xs ++ ys) ≡ map f xs ++ map f ys
map_append f [] ys = refl
map_append f (x ∷ xs) ys = ap (λ zs. f x ∷ zs) (map_append f xs ys)

run_numbers : (f : HirFunction) (rows : Rows) (is : List InstructionRow) → map (λ v. v.number) (map (instruction_visit f.words rows) is) ≡ map (λ r. r.number) is
run_numbers f rows [] = refl
run_numbers f rows (r ∷ rs) = ap (λ ns. r.number ∷ ns) (run_numbers f rows rs)

pub visit_numbers : (f : HirFunction) (rows : Rows) (bs : List BlockRow) → map (λ v. v.number) (visits_of f rows bs) ≡ numbers_of f.instructions bs
visit_numbers f rows [] = refl
visit_numbers f rows (b ∷ bs) =
    let run = map (instruction_visit f.words rows) (instructions_of f.instructions b) in
    let last = terminal_visit f.words rows b in
    let here : map (λ v. v.number) (block_visits f rows b) ≡ block_numbers f.instructions b =
    map_append (λ v. v.number) run (last ∷ []) ∙ ap (λ ns. ns ++ b.terminal_number ∷ []) (run_numbers f rows (instructions_of f.instructions b)) in
    let rest = visit_numbers f rows bs in
    map_append (λ v. v.number) (block_visits f rows b) (visits_of f rows bs) ∙ ap (λ ns. ns ++ map (λ v. v.number) (visits_of f rows bs)) here ∙ ap (λ ns. block_numbers f.instructions b ++ ns) rest

pub follows_from : (m k : ℕ) (vs : List Visit) → map (λ v. v.number) vs ≡ range_with_len (m + 1) k → Follows m vs
follows_from m k [] e = tt
follows_from m zero (v ∷ vs) e = absurd (let z : ◌≡◌ {A = ℕ} 0 1 = cc in omega arith)
follows_from m (suc k) (v ∷ vs) e =
    let first : v.number ≡ m + 1 = cc in
    let rest : map (λ w. w.number) vs ≡ range_with_len (m + 1 + 1) k = cc in
    (first, follows_from (m + 1) k vs rest)

pub visited : (m t : ℕ) (vs : List Visit) → Follows m vs → m < t → t ≤ m + length vs → Any (λ v. v.number ≡ t) vs
visited m t [] follows low high = absurd (omega arith)
visited m t (v ∷ vs) follows low high = elim (cases_eq t (m + 1)) [
  | inl e ↦ inl (follows.0 ∙ sym e)
  | inr n ↦ inr (visited (m + 1) t vs follows.1 (omega arith) (omega arith))
]

-- what a visit of the list touches is touched in the list
pub all_touched : (vs : List Visit) → AllByRecursion (λ v. (p : ℕ) → In p v.touched → Any (λ w. (w.number ≡ v.number) × In p w.touched) vs) vs
all_touched [] = tt
all_touched (v ∷ vs) = (
  (λ p h. inl (refl, h)),
  All-weaker (λ u. (p : ℕ) → In p u.touched → Any (λ w. (w.number ≡ u.number) × In p w.touched) vs)
      (λ u. (p : ℕ) → In p u.touched → Any (λ w. (w.number ≡ u.number) × In p w.touched) (v ∷ vs))
      (λ u later p h. inr (later p h)) vs (all_touched vs),
)

-- where all that visits touch contains their numbers, so does each
pub touched_contains : (rows : Rows) (p t : ℕ) (vs : List Visit) → AllByRecursion (λ v. AllByRecursion (λ q. contains (scope_range rows.scopes q) v.number ≡ true) v.touched) vs
    → Any (λ v. (v.number ≡ t) × In p v.touched) vs → contains (scope_range rows.scopes p) t ≡ true
touched_contains rows p t [] a h = absurd h
touched_contains rows p t (v ∷ vs) a h = elim h [
  | inl here ↦ subst (λ u. contains (scope_range rows.scopes p) u ≡ true) here.0 (all_in (λ q. contains (scope_range rows.scopes q) v.number ≡ true) v.touched p a.0 here.1)
  | inr later ↦ touched_contains rows p t vs a.1 later
]

pub visits_counted : (vs : List Visit) (n : ℕ) → map (λ v. v.number) vs ≡ range_with_len 1 n → length vs ≡ n
visits_counted vs n e = sym (length_numbers vs) ∙ ap length e ∙ length-range_with_len 1 n
  where
    length_numbers : (ws : List Visit) → length (map (λ v. v.number) ws) ≡ length ws
    length_numbers [] = refl
    length_numbers (w ∷ ws) = ap suc (length_numbers ws)
