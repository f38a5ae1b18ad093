-- Three small aligns over one If: its two arms go on in one block, and one scope has one lvalue.
use Rattle.std.specs.Prelude.{◌≡◌, ℕ, List, [], ◌∷◌, map, Ok, Result}
use Rattle.hir_faults.specs.declared.fault.Envelope.{Envelope}
use Rattle.hir_faults.specs.declared.fault.Fault.{Fault}
use Rattle.react_compiler_hir.specs.declared.rows.BlockRow.{BlockRow}
use Rattle.react_compiler_hir.specs.declared.rows.InstructionRow.{InstructionRow}
use Rattle.react_compiler_hir.specs.declared.rows.ScopeRow.{ScopeRow}
use Rattle.react_compiler_hir.specs.declared.rows.IdentifierRow.{IdentifierRow}
use Rattle.react_compiler_hir.specs.declared.rows.MutableRange.{MutableRange}
use Rattle.react_compiler_hir.specs.Function.{HirFunction, hir_function}
use Rattle.rules.specs.Rows.{Rows}
use Rattle.align_rules.specs.Align.{align_walked}

-- a block of kind Block: its first instruction and how many; its terminal's kind and number; its list
abbrev block : ℕ → ℕ → ℕ → ℕ → ℕ → ℕ → ℕ → BlockRow
block first instructions terminal number list operands successors = record {
  kind = 0;
  first_instruction = first;
  instruction_count = instructions;
  terminal_kind = terminal;
  terminal_number = number;
  list_start = list;
  operand_count = operands;
  successor_count = successors;
}

-- a Debugger
abbrev debugger : ℕ → ℕ → InstructionRow
debugger number lvalue = record {
  number = number;
  kind = 39;
  lvalue = lvalue;
  list_start = 0;
  target_count = 0;
  read_count = 0;
}

-- block 0 has instruction 1 and an If, 2, to the blocks 1 and 2 and then 3; block 1 has instruction 3 and goes
-- to 3 at 4; block 2 goes there at 5; block 3 returns at 6. The identifiers 0 and 1 are lvalues, 2 is what If
-- and Return read
abbrev pub one_if : HirFunction
one_if = hir_function
    (block 0 1 4 2 0 1 3 ∷ block 1 1 3 4 4 0 1 ∷ block 2 0 3 5 5 0 1 ∷ block 2 0 2 6 6 1 0 ∷ [])
    (debugger 1 0 ∷ debugger 3 1 ∷ [])
    (2 ∷ 1 ∷ 2 ∷ 3 ∷ 3 ∷ 3 ∷ 2 ∷ [])

abbrev range : ℕ → ℕ → ℕ → MutableRange
range id start end = record { id = id; start = start; end = end }

-- an identifier that has scope 0 and shares its range, one that has the scope and a range of its own, and one
-- that has no scope
abbrev sharing : ℕ → ℕ → IdentifierRow
sharing start end = record { mutable_range = range 1 start end; scope = 0; primitive = 0 }

abbrev apart : IdentifierRow
apart = record { mutable_range = range 2 1 2; scope = 0; primitive = 0 }

abbrev without : IdentifierRow
without = record { mutable_range = range 3 0 0; scope = 4294967295; primitive = 0 }

-- the one scope starts and ends so, and is that of the lvalue of instruction 1, or else of 3; the identifier
-- apart stands at no place
abbrev scope_from : ℕ → ℕ → ScopeRow
scope_from start end = record { range = range 1 start end }

abbrev lvalue_of_1 : ℕ → ℕ → Rows
lvalue_of_1 start end = record {
  scopes = scope_from start end ∷ [];
  identifiers = sharing start end ∷ without ∷ without ∷ apart ∷ [];
}

abbrev lvalue_of_3 : ℕ → ℕ → Rows
lvalue_of_3 start end = record {
  scopes = scope_from start end ∷ [];
  identifiers = without ∷ sharing start end ∷ without ∷ apart ∷ [];
}

-- rows as found, and as left
pub record Case : Type 0 where
  pub found : Rows
  pub left : Rows

abbrev pub cases : List Case
cases =
    -- it ends within the If, and is stretched to the end of that
    record { found = lvalue_of_1 1 3; left = lvalue_of_1 1 6 } ∷
    -- it ends before the If
    record { found = lvalue_of_1 1 2; left = lvalue_of_1 1 2 } ∷
    -- it starts within the If and goes on after it
    record { found = lvalue_of_3 3 7; left = lvalue_of_3 2 7 } ∷
    []

-- the bracket of the If takes one id
abbrev pub answers : List (Result (ℕ × Rows) (Envelope Fault))
answers = map (λ c. align_walked one_if c.found 8) cases

abbrev pub expected : List (Result (ℕ × Rows) (Envelope Fault))
expected = map (λ c. Ok (9, c.left)) cases

abbrev pub CasesHold : Type 0
CasesHold = answers ≡ expected
