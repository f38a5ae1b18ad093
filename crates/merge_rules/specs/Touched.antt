-- Which scopes the instructions and terminals of a function touch.
use Rattle.std.specs.Prelude.{ℕ, Bool, false, cond, not, ◌&&◌, ◌||◌, List, [], ◌∷◌, ◌++◌, map, Some, None, filter, Option, ◌==◌}
use Rattle.std.specs.List.{slice_get}
use Rattle.react_compiler_hir.specs.declared.rows.BlockRow.{BlockRow}
use Rattle.react_compiler_hir.specs.declared.rows.InstructionRow.{InstructionRow}
use Rattle.react_compiler_hir.specs.declared.rows.ScopeRow.{ScopeRow}
use Rattle.react_compiler_hir.specs.declared.rows.IdentifierRow.{IdentifierRow}
use Rattle.react_compiler_hir.specs.Rows.{scope_of, primitive_is}
use Rattle.react_compiler_hir.specs.Function.{HirFunction}
use Rattle.visitors.specs.Mentions.{instruction_lvalues, instruction_operands, terminal_operands, instructions_of}
use Rattle.rules.specs.Rows.{Rows, contains, scope_range}
use Rattle.merge_rules.specs.Named.{scopes_of}

-- the kinds of instruction that make a function
abbrev pub object_method : ℕ
object_method = 17

abbrev pub function_expression : ℕ
function_expression = 30

abbrev pub makes_function : InstructionRow → Bool
makes_function r = r.kind == object_method || r.kind == function_expression

abbrev row_primitive : Option IdentifierRow → Bool
row_primitive None = false
row_primitive (Some d) = primitive_is d

abbrev pub is_primitive : List IdentifierRow → ℕ → Bool
is_primitive ds i = row_primitive (slice_get ds i)

-- what an instruction may touch: its operands, then its lvalues; a function that is made touches nothing primitive that it captures
abbrev pub reached : List ℕ → List IdentifierRow → InstructionRow → List ℕ
reached ws ds r =
    cond (makes_function r) (filter (λ i. not (is_primitive ds i)) (instruction_operands ws r)) (instruction_operands ws r) ++
    instruction_lvalues ws r

abbrev pub scope_contains : List ScopeRow → ℕ → Option ℕ → Bool
scope_contains ss t None = false
scope_contains ss t (Some p) = contains (scope_range ss p) t

abbrev pub row_touches : List ScopeRow → ℕ → Option IdentifierRow → Bool
row_touches ss t None = false
row_touches ss t (Some d) = scope_contains ss t (scope_of d) && contains d.mutable_range t

-- whether an identifier touches its scope at a number: both the scope's range and its own mutable range contain it
abbrev pub touches : Rows → ℕ → ℕ → Bool
touches rows t i = row_touches rows.scopes t (slice_get rows.identifiers i)

-- an instruction or a terminal, by its number, and the scopes that it touches
pub record Visit : Type 0 where
  pub number : ℕ
  pub touched : List ℕ

abbrev pub visit : Rows → ℕ → List ℕ → Visit
visit rows t is = record { number = t; touched = scopes_of rows.identifiers (filter (touches rows t) is) }

abbrev pub instruction_visit : List ℕ → Rows → InstructionRow → Visit
instruction_visit ws rows r = visit rows r.number (reached ws rows.identifiers r)

abbrev pub terminal_visit : List ℕ → Rows → BlockRow → Visit
terminal_visit ws rows b = visit rows b.terminal_number (terminal_operands ws b)

abbrev pub block_visits : HirFunction → Rows → BlockRow → List Visit
block_visits f rows b = map (instruction_visit f.words rows) (instructions_of f.instructions b) ++ terminal_visit f.words rows b ∷ []

abbrev pub visits_of : HirFunction → Rows → List BlockRow → List Visit
visits_of f rows [] = []
visits_of f rows (b ∷ bs) = block_visits f rows b ++ visits_of f rows bs

-- all instructions and terminals in walk order
abbrev pub visits : HirFunction → Rows → List Visit
visits f rows = visits_of f rows f.blocks
