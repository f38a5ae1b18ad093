-- What a block that is accepted notes: ids are only taken, and its bracket joins those that stay open.
use Rattle.std.proofs.Common.{◌≡◌, ℕ, ◌+◌, ◌≤◌, not, ◌&&◌, eqb, List, ◌∷◌, Some, None, Ok, Option, refl, arith}
use Rattle.hir_faults.specs.declared.fault.PassFault.TheVariants.{SharedFallthrough, NoRangeId}
use Rattle.react_compiler_hir.specs.declared.rows.BlockRow.{BlockRow}
use Rattle.react_compiler_hir.specs.Function.{HirFunction}
use Rattle.visitors.specs.Mentions.{terminal_fallthrough, terminal_successors}
use Rattle.align_rules.specs.Brackets.{Bracket, first_at, bracket_of}
use Rattle.align_rules.specs.Marks.{Node, Marks, node_at, is_none, value_block, open_after, at_terminal, id_taken, bracket_marked, node_for, successor_marked, block_marked}
use Rattle.align_laws.proofs.Accepted.{Accepts, accepts_then, accepts_unless, accepts_cond, accepts_walked}

abbrev pub opened : Option Bracket → List Bracket → List Bracket
opened None xs = xs
opened (Some x) xs = x ∷ xs

pub record Marked (counter : ℕ) (pending : List Bracket) (m : Marks) : Type 0 where
  pub ids : counter ≤ m.counter
  pub pends : m.pending ≡ pending

module _ (f : HirFunction) (k : ℕ) (b : BlockRow) where
  id_more : (c : ℕ) → Accepts (λ d. c ≤ d) (id_taken k b c)
  id_more c = accepts_unless (λ d. c ≤ d) (not (eqb c 4294967295)) (at_terminal k b NoRangeId) (λ _. Ok (c + 1)) (omega arith)

  node_more : (c : ℕ) (own : Option Node) (t : Option ℕ) → Accepts (λ x. c ≤ x.1) (node_for f k b c own t)
  node_more c (Some own) t = omega arith
  node_more c None None = tt
  node_more c None (Some t) =
      accepts_then (λ d. c ≤ d) (λ x. c ≤ x.1) (id_taken k b c)
      (λ taken. Ok (record { start = b.terminal_number; end = first_at f t }, taken)) (id_more c) (λ d h. h)

  bracket_more : (own : Option Node) (m : Marks) (x : Option Bracket) → Accepts (Marked m.counter (opened x m.pending)) (bracket_marked k b own m x)
  bracket_more own m None = record { ids = omega arith; pends = refl }
  bracket_more own m (Some x) =
      let P = Marked m.counter (x ∷ m.pending) in
      accepts_then (λ d. m.counter ≤ d) P (id_taken k b m.counter) _ (id_more m.counter) (λ d h.
      accepts_unless P (is_none (node_at m.nodes x.fallthrough)) (at_terminal k b SharedFallthrough) _
      (record { ids = h; pends = refl }))

  successor_more : (own : Option Node) (c : ℕ) (ps : List Bracket) (i : ℕ) (m : Marks) (s : ℕ) → Marked c ps m → Accepts (Marked c ps) (successor_marked f k b own i m s)
  successor_more own c ps i m s h =
      let t = terminal_fallthrough f.words b in
      accepts_cond (Marked c ps) (value_block f s && is_none (node_at m.nodes s)) _ (Ok m)
      (accepts_then (λ x. m.counter ≤ x.1) (Marked c ps) (node_for f k b m.counter own t) _ (node_more m.counter own t)
      (λ x g. record { ids = omega arith; pends = h.pends })) h

  pub block_more : (m : Marks) → Accepts (Marked m.counter (opened (bracket_of f b) (open_after k m.pending))) (block_marked f k b m)
  block_more m =
      let own = node_at m.nodes k in
      let entry : Marks = record { pending = open_after k m.pending; nodes = m.nodes; counter = m.counter } in
      let P = Marked m.counter (opened (bracket_of f b) (open_after k m.pending)) in
      accepts_then P P (bracket_marked k b own entry (bracket_of f b)) _ (bracket_more own entry (bracket_of f b)) (λ w h.
      accepts_walked P (successor_marked f k b own) (successor_more own m.counter _) 0 w (terminal_successors f.words b) h)
