-- Seven small functions, and what a merge makes of them.
-- Each is one block with the instructions 1 to 9 and a return at 10. Instruction 1 is a call that reads one identifier of each scope;
-- the others do nothing, except that one may await an identifier. Every other place is an identifier without a scope.
use Rattle.std.specs.Prelude.{◌≡◌, ℕ, ◌+◌, cond, List, [], ◌∷◌, map, length, take, ◌==◌}
use Rattle.std.specs.List.{range_with_len}
use Rattle.react_compiler_hir.specs.declared.rows.MutableRange.{MutableRange}
use Rattle.react_compiler_hir.specs.declared.rows.ScopeRow.{ScopeRow}
use Rattle.react_compiler_hir.specs.declared.rows.IdentifierRow.{IdentifierRow}
use Rattle.react_compiler_hir.specs.declared.rows.InstructionRow.{InstructionRow}
use Rattle.react_compiler_hir.specs.Function.{HirFunction}
use Rattle.rules.specs.Rows.{Rows}
use Rattle.disjoint_set.specs.Classes.{among}
use Rattle.merge_rules.specs.Merged.{Merged, merge_replayed}

infix 70 ◌–◌
-- a start and an end
pub record Span : Type 0 where
  pub start : ℕ
  pub «end» : ℕ

abbrev pub ◌–◌ : ℕ → ℕ → Span
a – b = record { start = a; «end» = b }

-- the scopes, the mutable range of the identifier of each, and the instructions that await identifier 0
pub record Case : Type 0 where
  pub scopes : List Span
  pub mutable : List Span
  pub awaits : List ℕ

abbrev range_of : ℕ → Span → MutableRange
range_of id s = record { id = id; start = s.start; «end» = s.end }

-- range ids: every range has its own
abbrev scope_rows : ℕ → List Span → List ScopeRow
scope_rows id [] = []
scope_rows id (s ∷ ss) = record { range = range_of id s } ∷ scope_rows (id + 1) ss

abbrev identifier_rows : ℕ → List Span → List IdentifierRow
identifier_rows scope [] =
    record { mutable_range = range_of 200 (0 – 0); scope = 4294967295; primitive = 0 } ∷ []
identifier_rows scope (s ∷ ss) =
    record { mutable_range = range_of (100 + scope) s; scope = scope; primitive = 0 } ∷ identifier_rows (scope + 1) ss

abbrev pub case_rows : Case → Rows
case_rows c = record { scopes = scope_rows 0 c.scopes; identifiers = identifier_rows 0 c.mutable }

abbrev instruction : ℕ → ℕ → ℕ → ℕ → InstructionRow
instruction number kind lvalue reads =
    record { number = number; kind = kind; lvalue = lvalue; list_start = 0; target_count = 0; read_count = reads }

-- a call reads the identifiers of all scopes, an await reads the first, and a debugger instruction reads none
abbrev instruction_at : Case → ℕ → InstructionRow
instruction_at c t =
    let bare = length c.scopes in
    cond (t == 1)
    (instruction t 11 bare bare)
    (cond (among t c.awaits) (instruction t 33 bare 1) (instruction t 39 bare 0))

-- the words are the identifiers in order, the one without a scope last: it is what is returned
abbrev pub case_function : Case → HirFunction
case_function c =
    let bare = length c.scopes in
    record {
      blocks =
          record {
            kind = 0;
            first_instruction = 0;
            instruction_count = 9;
            terminal_kind = 2;
            terminal_number = 10;
            list_start = bare;
            operand_count = 1;
            successor_count = 0;
          } ∷ [];
      instructions = map (instruction_at c) (range_with_len 1 9);
      words = range_with_len 0 (bare + 1);
    }

-- what is compared: the count, the roots, the ranges of the scopes, and the scopes and mutable ranges of their identifiers
pub record Outcome : Type 0 where
  pub count : ℕ
  pub roots : List ℕ
  pub ranges : List Span
  pub identifiers : List ℕ
  pub mutable : List Span

abbrev span_of : MutableRange → Span
span_of r = r.start – r.end

abbrev outcome_of : ℕ → Merged → Outcome
outcome_of scopes m =
    record {
      count = m.count;
      roots = m.roots;
      ranges = map (λ s. span_of s.range) m.rows.scopes;
      identifiers = map (λ d. d.scope) (take scopes m.rows.identifiers);
      mutable = map (λ d. span_of d.mutable_range) (take scopes m.rows.identifiers);
    }

abbrev pub outcome : Case → Outcome
outcome c = outcome_of (length c.scopes) (merge_replayed (case_function c) (case_rows c))

-- mutable ranges that contain no number
abbrev still : List Span → List Span
still ss = map (λ s. 0 – 0) ss

abbrev case : List Span → Case
case ss = record { scopes = ss; mutable = still ss; awaits = [] }

-- scope 0 holds scope 1, and the identifier of scope 0, mutable throughout, is read at t
abbrev awaited : ℕ → Case
awaited t = record { scopes = 1 – 7 ∷ 3 – 5 ∷ []; mutable = 1 – 7 ∷ 0 – 0 ∷ []; awaits = t ∷ [] }

pub record Example : Type 0 where
  pub given : Case
  pub answer : Outcome

abbrev pub examples : List Example
examples =
    -- ranges that cross are joined
    record {
      given = case (1 – 5 ∷ 3 – 7 ∷ []);
      answer = record { count = 1; roots = 0 ∷ 0 ∷ []; ranges = 1 – 7 ∷ 3 – 7 ∷ []; identifiers = 0 ∷ 0 ∷ []; mutable = 0 – 0 ∷ 0 – 0 ∷ [] };
    } ∷
    -- one closes where the other opens: they stay apart
    record {
      given = case (1 – 5 ∷ 5 – 7 ∷ []);
      answer = record { count = 0; roots = 0 ∷ 1 ∷ []; ranges = 1 – 5 ∷ 5 – 7 ∷ []; identifiers = 0 ∷ 1 ∷ []; mutable = 0 – 0 ∷ 0 – 0 ∷ [] };
    } ∷
    -- one within the other stays
    record {
      given = case (1 – 7 ∷ 3 – 5 ∷ []);
      answer = record { count = 0; roots = 0 ∷ 1 ∷ []; ranges = 1 – 7 ∷ 3 – 5 ∷ []; identifiers = 0 ∷ 1 ∷ []; mutable = 0 – 0 ∷ 0 – 0 ∷ [] };
    } ∷
    -- unless the outer one is touched while the inner one is open
    record {
      given = awaited 4;
      answer = record { count = 1; roots = 0 ∷ 0 ∷ []; ranges = 1 – 7 ∷ 3 – 5 ∷ []; identifiers = 0 ∷ 0 ∷ []; mutable = 1 – 7 ∷ 0 – 0 ∷ [] };
    } ∷
    -- where the inner one ends it is no longer open
    record {
      given = awaited 5;
      answer = record { count = 0; roots = 0 ∷ 1 ∷ []; ranges = 1 – 7 ∷ 3 – 5 ∷ []; identifiers = 0 ∷ 1 ∷ []; mutable = 1 – 7 ∷ 0 – 0 ∷ [] };
    } ∷
    -- equal ranges are joined
    record {
      given = case (2 – 6 ∷ 2 – 6 ∷ []);
      answer = record { count = 1; roots = 0 ∷ 0 ∷ []; ranges = 2 – 6 ∷ 2 – 6 ∷ []; identifiers = 0 ∷ 0 ∷ []; mutable = 0 – 0 ∷ 0 – 0 ∷ [] };
    } ∷
    -- what is joined gets a range that another scope has already: one pass leaves both
    record {
      given = case (1 – 5 ∷ 3 – 10 ∷ 1 – 10 ∷ []);
      answer = record { count = 1; roots = 0 ∷ 0 ∷ 2 ∷ []; ranges = 1 – 10 ∷ 3 – 10 ∷ 1 – 10 ∷ []; identifiers = 0 ∷ 0 ∷ 2 ∷ []; mutable = 0 – 0 ∷ 0 – 0 ∷ 0 – 0 ∷ [] };
    } ∷
    []

-- a merge of each case gives its answer
abbrev pub ExamplesHold : Type 0
ExamplesHold = map (λ e. outcome e.given) examples ≡ map (λ e. e.answer) examples
