-- The record format, from bytes to counts, lists and rows. Numbers have their high byte first.
use Rattle.std.specs.Prelude.{ℕ, ◌+◌, ◌*◌, Bool, ◌&&◌, ◌||◌, List, [], ◌∷◌, map, ◌==◌, nat_lt, slice_index}
use Rattle.std.specs.List.{range_with_len}
use Rattle.react_compiler_hir.specs.declared.rows.MutableRange.{MutableRange}
use Rattle.react_compiler_hir.specs.declared.rows.ScopeRow.{ScopeRow}
use Rattle.react_compiler_hir.specs.declared.rows.IdentifierRow.{IdentifierRow}
use Rattle.react_compiler_hir.specs.declared.rows.BlockRow.{BlockRow}
use Rattle.react_compiler_hir.specs.declared.rows.InstructionRow.{InstructionRow}
use Rattle.react_compiler_hir.specs.Function.{HirFunction}
use Rattle.react_compiler_hir.specs.RowWords.{scope_row_of, identifier_of, block_of, instruction_of}
use Rattle.hir_record.specs.declared.counts.Counts.{Counts}

-- a number of two bytes
abbrev pub half : List ℕ → ℕ → ℕ
half bs p = slice_index bs p * 256 + slice_index bs (p + 1)

-- a number of four bytes
abbrev pub word : List ℕ → ℕ → ℕ
word bs p =
    slice_index bs p * 16777216 + slice_index bs (p + 1) * 65536 + slice_index bs (p + 2) * 256 + slice_index bs (p + 3)

-- HIR
abbrev pub has_mark : List ℕ → Bool
has_mark bs = slice_index bs 0 == 72 && slice_index bs 1 == 73 && slice_index bs 2 == 82

abbrev pub version : List ℕ → ℕ
version bs = half bs 3

-- n words or rows, each `width` bytes after the one before
abbrev pub every : {X : Type 0} → (ℕ → X) → ℕ → ℕ → ℕ → List X
every item_at start width n = map (λ i. item_at (start + width * i)) (range_with_len 0 n)

-- n words from a place on
abbrev pub words_from : List ℕ → ℕ → ℕ → List ℕ
words_from bs p n = every (word bs) p 4 n

-- a row of n words at a place, by how words make a row
abbrev pub row_at : {X : Type 0} → (List ℕ → X) → ℕ → List ℕ → ℕ → X
row_at of_words n bs p = of_words (words_from bs p n)

-- the five counts as words, and back
abbrev pub count_words : Counts → List ℕ
count_words c = c.blocks ∷ c.instructions ∷ c.words ∷ c.scopes ∷ c.identifiers ∷ []

abbrev pub counts_of_words : List ℕ → Counts
counts_of_words ws =
    record {
      blocks = slice_index ws 0;
      instructions = slice_index ws 1;
      words = slice_index ws 2;
      scopes = slice_index ws 3;
      identifiers = slice_index ws 4;
    }

abbrev pub counts_at : List ℕ → ℕ → Counts
counts_at bs p = row_at counts_of_words 5 bs p

-- the counts stand after the mark and the version
abbrev pub counts_of : List ℕ → Counts
counts_of bs = counts_at bs 5

abbrev pub over_limit : Counts → Bool
over_limit c =
    nat_lt 1024 c.blocks || nat_lt 16384 c.instructions || nat_lt 65536 c.words || nat_lt 1024 c.scopes ||
    nat_lt 16384 c.identifiers

-- where each part begins: the header has 25 bytes, and a row is as many words as it has fields
abbrev pub blocks_at : ℕ
blocks_at = 25

abbrev pub instructions_at : Counts → ℕ
instructions_at c = blocks_at + 32 * c.blocks

abbrev pub words_at : Counts → ℕ
words_at c = instructions_at c + 24 * c.instructions

abbrev pub scopes_at : Counts → ℕ
scopes_at c = words_at c + 4 * c.words

abbrev pub identifiers_at : Counts → ℕ
identifiers_at c = scopes_at c + 12 * c.scopes

-- how long a record with these counts is
abbrev pub record_length : Counts → ℕ
record_length c = identifiers_at c + 20 * c.identifiers

-- the rows at a place of the bytes; Fields says where each of their fields stands
abbrev pub scope_at : List ℕ → ℕ → ScopeRow
scope_at bs p = row_at scope_row_of 3 bs p

-- a range is all that a scope row has
abbrev pub range_at : List ℕ → ℕ → MutableRange
range_at bs p = (scope_at bs p).range

abbrev pub identifier_at : List ℕ → ℕ → IdentifierRow
identifier_at bs p = row_at identifier_of 5 bs p

abbrev pub block_at : List ℕ → ℕ → BlockRow
block_at bs p = row_at block_of 8 bs p

abbrev pub instruction_at : List ℕ → ℕ → InstructionRow
instruction_at bs p = row_at instruction_of 6 bs p

-- the parts of a record with these counts
abbrev pub function_in : List ℕ → Counts → HirFunction
function_in bs c =
    record {
      blocks = every (block_at bs) blocks_at 32 c.blocks;
      instructions = every (instruction_at bs) (instructions_at c) 24 c.instructions;
      words = every (word bs) (words_at c) 4 c.words;
    }

abbrev pub scopes_in : List ℕ → Counts → List ScopeRow
scopes_in bs c = every (scope_at bs) (scopes_at c) 12 c.scopes

abbrev pub identifiers_in : List ℕ → Counts → List IdentifierRow
identifiers_in bs c = every (identifier_at bs) (identifiers_at c) 20 c.identifiers
