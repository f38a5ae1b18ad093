-- Brackets and nodes of a function with the numbers 1 to n start at 1 or later, and end at n + 1 or earlier.
use Rattle.std.proofs.Common.{◌≡◌, ℕ, zero, suc, ◌+◌, ◌≤◌, Bool, true, false, cond, ◌&&◌, eqb, List, [], ◌∷◌, length, get_or, replicate, Some, None, Ok, Option, refl, arith}
use Rattle.std.specs.List.{slice_get, AllByRecursion}
use Rattle.std.proofs.ByRecursion.{All-set}
use Rattle.hir_faults.specs.declared.fault.PassFault.TheVariants.{SharedFallthrough, NoRangeId}
use Rattle.react_compiler_hir.specs.declared.rows.BlockRow.{BlockRow}
use Rattle.react_compiler_hir.specs.declared.rows.InstructionRow.{InstructionRow}
use Rattle.react_compiler_hir.specs.Function.{HirFunction}
use Rattle.visitors.specs.Mentions.{block_numbers, terminal_fallthrough, terminal_successors}
use Rattle.function_laws.specs.Sound.{Numbered}
use Rattle.align_rules.specs.Brackets.{Bracket, row_first, first_at, branch, bracket_to, bracket_of}
use Rattle.align_rules.specs.Marks.{Node, Marks, node_at, is_none, value_block, closing_at, open_after, at_terminal, id_taken, bracket_marked, node_for, successor_marked, block_marked}
use Rattle.align_rules.specs.Ranges.{Reach, node_reach, or_else, earliest_to, all_but_newest, left_to, leaving_reach, opening_reach, terminal_reach, goto_target}
use Rattle.align_laws.proofs.Accepted.{Accepts, accepts_then, accepts_unless, accepts_cond, accepts_walked}
use Rattle.align_laws.proofs.Numbering.{before, block_numbers_at}

-- of what there is, if there is something
abbrev pub IfSome : {X : Type 0} → (X → Type 0) → Option X → Type 0
IfSome P None = Unit {0}
IfSome P (Some x) = P x

if_either : {X : Type 0} (P : X → Type 0) (b : Bool) (o q : Option X) → IfSome P o → IfSome P q → IfSome P (cond b o q)
if_either P true o q h k = h
if_either P false o q h k = k

if_getD : {X : Type 0} (P : X → Type 0) (os : List (Option X)) (k : ℕ) → AllByRecursion (IfSome P) os → IfSome P (get_or os k None)
if_getD P [] k h = tt
if_getD P (o ∷ os) zero h = h.0
if_getD P (o ∷ os) (suc k) h = if_getD P os k h.1

all_none : {X : Type 0} (P : X → Type 0) (n : ℕ) → AllByRecursion (IfSome P) (replicate n None)
all_none P zero = tt
all_none P (suc n) = (tt, all_none P n)

module _ (n : ℕ) where
  pub record BracketBound (x : Bracket) : Type 0 where
    pub start : 1 ≤ x.start
    pub end : x.end ≤ n + 1

  pub record NodeBound (x : Node) : Type 0 where
    pub start : 1 ≤ x.start
    pub end : x.end ≤ n + 1

  pub record MarksBound (m : Marks) : Type 0 where
    pub pending : AllByRecursion BracketBound m.pending
    pub nodes : AllByRecursion (IfSome NodeBound) m.nodes

  pub record ReachBound (to : Reach) : Type 0 where
    pub down : IfSome (λ d. 1 ≤ d) to.down
    pub up : IfSome (λ u. u ≤ n + 1) to.up

  -- what a terminal asks
  open_bound : (k : ℕ) (xs : List Bracket) → AllByRecursion BracketBound xs → AllByRecursion BracketBound (open_after k xs)
  open_bound k [] h = tt
  open_bound k (x ∷ xs) h = either (eqb x.fallthrough k)
    where
      either : (b : Bool) → AllByRecursion BracketBound (cond b xs (x ∷ xs))
      either true = h.1
      either false = h

  pub closing_bound : (k : ℕ) (xs : List Bracket) → AllByRecursion BracketBound xs → IfSome (λ t. 1 ≤ t) (closing_at k xs)
  closing_bound k [] h = tt
  closing_bound k (x ∷ xs) h = if_either (λ t. 1 ≤ t) (eqb x.fallthrough k) (Some x.start) None h.0.start tt

  or_bound : (o q : Option Bracket) → IfSome BracketBound o → IfSome BracketBound q → IfSome BracketBound (or_else o q)
  or_bound None q h k = k
  or_bound (Some x) q h k = h

  earliest_bound : (k : ℕ) (xs : List Bracket) → AllByRecursion BracketBound xs → IfSome BracketBound (earliest_to k xs)
  earliest_bound k [] h = tt
  earliest_bound k (x ∷ xs) h =
      or_bound (earliest_to k xs) (cond (eqb x.fallthrough k) (Some x) None) (earliest_bound k xs h.1)
      (if_either BracketBound (eqb x.fallthrough k) (Some x) None h.0 tt)

  older_bound : (xs : List Bracket) → AllByRecursion BracketBound xs → AllByRecursion BracketBound (all_but_newest xs)
  older_bound [] h = tt
  older_bound (x ∷ xs) h = h.1

  left_bound : (xs : List Bracket) (o : Option ℕ) → AllByRecursion BracketBound xs → IfSome BracketBound (left_to xs o)
  left_bound xs None h = tt
  left_bound xs (Some k) h = earliest_bound k (all_but_newest xs) (older_bound xs h)

  leaving_bound : (o : Option Bracket) → IfSome BracketBound o → ReachBound (leaving_reach o)
  leaving_bound None h = record { down = tt; up = tt }
  leaving_bound (Some x) h = record { down = h.start; up = h.end }

  opening_bound : (o q : Option Bracket) → IfSome BracketBound o → IfSome BracketBound q → ReachBound (opening_reach o q)
  opening_bound None q h k = leaving_bound q k
  opening_bound (Some x) q h k = record { down = tt; up = h.end }

  pub node_reach_bound : (o : Option Node) → IfSome NodeBound o → ReachBound (node_reach o)
  node_reach_bound None h = record { down = tt; up = tt }
  node_reach_bound (Some x) h = record { down = h.start; up = h.end }

  pub node_at_bound : (m : Marks) (k : ℕ) → MarksBound m → IfSome NodeBound (node_at m.nodes k)
  node_at_bound m k h = if_getD NodeBound m.nodes k h.nodes

  module _ (f : HirFunction) (first_bound : (k : ℕ) → first_at f k ≤ n + 1) (b : BlockRow) (terminal_bound : 1 ≤ b.terminal_number) where
    bracket_to_bound : (test : Bool) (o : Option ℕ) → IfSome BracketBound (cond test None (bracket_to f b o))
    bracket_to_bound true o = tt
    bracket_to_bound false None = tt
    bracket_to_bound false (Some k) = record { start = terminal_bound; end = first_bound k }

    bracket_bound : IfSome BracketBound (bracket_of f b)
    bracket_bound = bracket_to_bound (eqb b.terminal_kind branch) (terminal_fallthrough f.words b)

    pub terminal_reach_bound : (k : ℕ) (xs : List Bracket) → AllByRecursion BracketBound xs → ReachBound (terminal_reach f (open_after k xs) b)
    terminal_reach_bound k xs h =
        let left = left_to (open_after k xs) (goto_target f.words b) in
        opening_bound (bracket_of f b) left bracket_bound (left_bound (open_after k xs) (goto_target f.words b) (open_bound k xs h))

    id_any : (k c : ℕ) → Accepts (λ d. Unit {0}) (id_taken k b c)
    id_any k c = accepts_unless (λ d. Unit {0}) _ (at_terminal k b NoRangeId) (λ _. Ok (c + 1)) tt

    node_bound : (k c : ℕ) (own : Option Node) (t : Option ℕ) → IfSome NodeBound own → Accepts (λ x. NodeBound x.0) (node_for f k b c own t)
    node_bound k c (Some own) t h = h
    node_bound k c None None h = tt
    node_bound k c None (Some t) h =
        accepts_then (λ d. Unit {0}) (λ x. NodeBound x.0) (id_taken k b c)
        (λ taken. Ok (record { start = b.terminal_number; end = first_at f t }, taken)) (id_any k c)
        (λ d g. record { start = terminal_bound; end = first_bound t })

    bracket_marked_bound : (k : ℕ) (own : Option Node) (m : Marks) (x : Option Bracket) → IfSome NodeBound own → IfSome BracketBound x → MarksBound m → Accepts MarksBound (bracket_marked k b own m x)
    bracket_marked_bound k own m None o g h = h
    bracket_marked_bound k own m (Some x) o g h =
        accepts_then (λ d. Unit {0}) MarksBound (id_taken k b m.counter) _ (id_any k m.counter) (λ d u.
        accepts_unless MarksBound (is_none (node_at m.nodes x.fallthrough)) (at_terminal k b SharedFallthrough) _
        (record { pending = (g, h.pending); nodes = All-set (IfSome NodeBound) m.nodes x.fallthrough own o h.nodes }))

    successor_bound : (k : ℕ) (own : Option Node) → IfSome NodeBound own → (i : ℕ) (m : Marks) (s : ℕ) → MarksBound m → Accepts MarksBound (successor_marked f k b own i m s)
    successor_bound k own o i m s h =
        let t = terminal_fallthrough f.words b in
        accepts_cond MarksBound (value_block f s && is_none (node_at m.nodes s)) _ (Ok m)
        (accepts_then (λ x. NodeBound x.0) MarksBound (node_for f k b m.counter own t) _ (node_bound k m.counter own t o)
        (λ x g. record { pending = h.pending; nodes = All-set (IfSome NodeBound) m.nodes s (Some x.0) g h.nodes })) h

    pub block_marked_bound : (k : ℕ) (m : Marks) → MarksBound m → Accepts MarksBound (block_marked f k b m)
    block_marked_bound k m h =
        let own = node_at m.nodes k in
        let o = node_at_bound m k h in
        let entry : Marks = record { pending = open_after k m.pending; nodes = m.nodes; counter = m.counter } in
        accepts_then MarksBound MarksBound (bracket_marked k b own entry (bracket_of f b)) _
        (bracket_marked_bound k own entry (bracket_of f b) o bracket_bound (record { pending = open_bound k m.pending h.pending; nodes = h.nodes }))
        (λ w g. accepts_walked MarksBound (successor_marked f k b own) (successor_bound k own o) 0 w (terminal_successors f.words b) g)

  pub marks_bound_start : (blocks counter : ℕ) → MarksBound (record { pending = []; nodes = replicate blocks None; counter = counter })
  marks_bound_start blocks counter = record { pending = tt; nodes = all_none NodeBound blocks }

-- numbers before a block are at most those of the function
before_bound : (is : List InstructionRow) (m n : ℕ) (bs : List BlockRow) (k : ℕ) → Numbered is m bs n → m + before is bs k ≤ n
before_bound is m n [] zero h = omega arith
before_bound is m n [] (suc k) h = omega arith
before_bound is m n (b ∷ bs) zero h =
    let rest = before_bound is (m + length (block_numbers is b)) n bs 0 h.1 in
    omega arith
before_bound is m n (b ∷ bs) (suc k) h =
    let rest = before_bound is (m + length (block_numbers is b)) n bs k h.1 in
    omega arith

pub first_at_bound : (f : HirFunction) (n : ℕ) → Numbered f.instructions 0 f.blocks n → (k : ℕ) → first_at f k ≤ n + 1
first_at_bound f n numbered k = (elim (slice_get f.blocks k) as (λ o. slice_get f.blocks k ≡ o → row_first f.instructions o ≤ n + 1) [
  | None ↦ λ e. omega arith
  | Some b ↦ λ e.
      let c = block_numbers_at f.instructions n f.blocks k b numbered e in
      let most = before_bound f.instructions 0 n f.blocks k numbered in
      omega (arith, c.first)
]) refl
