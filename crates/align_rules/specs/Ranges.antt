-- What the align walk does to the range of each scope. No scope looks at another.
use Rattle.std.specs.Prelude.{ℕ, min, max, Bool, false, cond, not, ◌&&◌, ◌||◌, List, [], ◌∷◌, map, Some, None, Option, ◌==◌, nat_lt, slice_index_or, slice_set}
use Rattle.std.specs.List.{slice_get}
use Rattle.react_compiler_hir.specs.declared.rows.MutableRange.{MutableRange}
use Rattle.react_compiler_hir.specs.declared.rows.BlockRow.{BlockRow}
use Rattle.react_compiler_hir.specs.declared.rows.InstructionRow.{InstructionRow}
use Rattle.react_compiler_hir.specs.declared.rows.ScopeRow.{ScopeRow}
use Rattle.react_compiler_hir.specs.declared.rows.IdentifierRow.{IdentifierRow}
use Rattle.react_compiler_hir.specs.Function.{HirFunction}
use Rattle.visitors.specs.Mentions.{instructions_of, instruction_mentions, terminal_operands, terminal_successors, block_first_number}
use Rattle.rules.specs.Rows.{contains, identifier_scope}
use Rattle.align_rules.specs.Brackets.{Bracket, bracket_of}
use Rattle.align_rules.specs.Marks.{Node, Marks, node_at, closing_at, open_after}

-- a scope on the walk: its range so far, whether it is active, and whether any place has made it so yet
pub record Tracked : Type 0 where
  pub range : MutableRange
  pub active : Bool
  pub seen : Bool

abbrev pub tracked : ScopeRow → Tracked
tracked s = record { range = s.range; active = false; seen = false }

-- a start no later than asked, an end no earlier than asked
abbrev pub lowered : Option ℕ → ℕ → ℕ
lowered None n = n
lowered (Some least) n = min n least

abbrev pub raised : Option ℕ → ℕ → ℕ
raised None n = n
raised (Some most) n = max n most

-- how far down and up ranges are to reach
pub record Reach : Type 0 where
  pub down : Option ℕ
  pub up : Option ℕ

abbrev pub nowhere : Reach
nowhere = record { down = None; up = None }

-- a range that reaches so far, where the test holds; a node that runs backward moves each end for itself
abbrev pub only : {X : Type 0} → Bool → Option X → Option X
only test o = cond test o None

abbrev pub reaching : Bool → Reach → MutableRange → MutableRange
reaching test to r = record {
  id = r.id;
  start = lowered (only test to.down) r.start;
  end = raised (only test to.up) r.end;
}

-- at the entry of a block that begins at the number `first`: a scope that has ended is active no more, and
-- where a bracket closes, active scopes reach down to its terminal
abbrev pub stays : ℕ → Tracked → Bool
stays first r = r.active && nat_lt first r.range.end

abbrev pub entered : ℕ → Option ℕ → Tracked → Tracked
entered first closing r = record {
  range = reaching (stays first r) (record { down = closing; up = None }) r.range;
  active = stays first r;
  seen = r.seen;
}

-- at a place with this number that has the scope: it becomes active if its range contains the number, and the
-- first time it then reaches over the node of the block
abbrev pub node_reach : Option Node → Reach
node_reach None = nowhere
node_reach (Some n) = record { down = Some n.start; up = Some n.end }

abbrev pub placed : Option Node → ℕ → Tracked → Tracked
placed own number r = record {
  range = reaching (contains r.range number && not r.seen) (node_reach own) r.range;
  active = r.active || contains r.range number;
  seen = r.seen || contains r.range number;
}

-- at the terminal: active scopes that end after it reach as far as it asks
abbrev pub stretched : ℕ → Reach → Tracked → Tracked
stretched terminal to r = record {
  range = reaching (r.active && nat_lt terminal r.range.end) to r.range;
  active = r.active;
  seen = r.seen;
}

-- the number of Goto
abbrev pub goto : ℕ
goto = 3

abbrev pub goto_target : List ℕ → BlockRow → Option ℕ
goto_target ws b = cond (b.terminal_kind == goto) (slice_get (terminal_successors ws b) 0) None

-- of the brackets that close at the block k, the one that opened first
abbrev pub or_else : {X : Type 0} → Option X → Option X → Option X
or_else None o = o
or_else (Some x) o = Some x

abbrev pub earliest_to : ℕ → List Bracket → Option Bracket
earliest_to k [] = None
earliest_to k (x ∷ xs) = or_else (earliest_to k xs) (cond (x.fallthrough == k) (Some x) None)

abbrev pub all_but_newest : List Bracket → List Bracket
all_but_newest [] = []
all_but_newest (x ∷ xs) = xs

-- a Goto leaves a bracket that is not the newest: the earliest of those that close at its target
abbrev pub left_to : List Bracket → Option ℕ → Option Bracket
left_to pending None = None
left_to pending (Some k) = earliest_to k (all_but_newest pending)

abbrev pub leaving_reach : Option Bracket → Reach
leaving_reach None = nowhere
leaving_reach (Some x) = record { down = Some x.start; up = Some x.end }

-- a terminal that opens a bracket asks for its end, a Goto that leaves one for all of it, and others for nothing
abbrev pub opening_reach : Option Bracket → Option Bracket → Reach
opening_reach (Some x) leaves = record { down = None; up = Some x.end }
opening_reach None leaves = leaving_reach leaves

abbrev pub terminal_reach : HirFunction → List Bracket → BlockRow → Reach
terminal_reach f pending b = opening_reach (bracket_of f b) (left_to pending (goto_target f.words b))

-- stands for a scope that is not in the table
abbrev pub untracked : Tracked
untracked = record { range = record { id = 0; start = 0; end = 0 }; active = false; seen = false }

-- all scopes, by position, beside the identifiers that have them and the node of the block
module _ (ds : List IdentifierRow) (own : Option Node) where
  abbrev pub scope_placed : ℕ → List Tracked → Option ℕ → List Tracked
  scope_placed number rs None = rs
  scope_placed number rs (Some p) = slice_set rs p (placed own number (slice_index_or rs p untracked))

  -- the places with one number
  abbrev pub places_tracked : ℕ → List Tracked → List ℕ → List Tracked
  places_tracked number rs [] = rs
  places_tracked number rs (i ∷ is) = places_tracked number (scope_placed number rs (identifier_scope ds i)) is

  -- those of a run of instructions
  abbrev pub run_tracked : List ℕ → List Tracked → List InstructionRow → List Tracked
  run_tracked ws rs [] = rs
  run_tracked ws rs (x ∷ xs) = run_tracked ws (places_tracked x.number rs (instruction_mentions ws x)) xs

  -- those of a whole block
  abbrev pub block_placed : HirFunction → BlockRow → List Tracked → List Tracked
  block_placed f b rs =
      places_tracked b.terminal_number (run_tracked f.words rs (instructions_of f.instructions b))
      (terminal_operands f.words b)

-- the block at position k, with what was noted before it: its entry, its places, its terminal
abbrev pub block_tracked : HirFunction → List IdentifierRow → ℕ → BlockRow → Marks → List Tracked → List Tracked
block_tracked f ds k b m rs =
    map (stretched b.terminal_number (terminal_reach f (open_after k m.pending) b))
    (block_placed ds (node_at m.nodes k) f b
    (map (entered (block_first_number f.instructions b) (closing_at k m.pending)) rs))
