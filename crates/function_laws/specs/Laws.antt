-- The laws of the tests, in words of the function.
use Rattle.std.specs.Prelude.{◌≡◌, ℕ, ◌+◌, List, Some, Ok}
use Rattle.std.specs.List.{slice_get}
use Rattle.react_compiler_hir.specs.declared.rows.BlockRow.{BlockRow}
use Rattle.react_compiler_hir.specs.declared.rows.ScopeRow.{ScopeRow}
use Rattle.react_compiler_hir.specs.declared.rows.IdentifierRow.{IdentifierRow}
use Rattle.react_compiler_hir.specs.Function.{HirFunction}
use Rattle.visitors.specs.Mentions.{block_first_number}
use Rattle.function_tests.specs.declared.memory.Memory.{Memory}
use Rattle.function_tests.specs.Tests.{function_tested}
use Rattle.function_laws.specs.Sound.{Sound}

-- a function that passes the tests is sound
abbrev pub PassingIsSound : Type 0
PassingIsSound =
    (kind : ℕ) (f : HirFunction) (ss : List ScopeRow) (ds : List IdentifierRow) (memory : Memory) (n : ℕ) →
    function_tested kind f ss ds memory ≡ Ok n → Sound f ss ds n

-- a block's first number is one more than the terminal before it; the first block begins at 1
abbrev pub BlocksFollow : Type 0
BlocksFollow =
    (f : HirFunction) (ss : List ScopeRow) (ds : List IdentifierRow) (n : ℕ) → Sound f ss ds n →
    ((b : BlockRow) → slice_get f.blocks 0 ≡ Some b → block_first_number f.instructions b ≡ 1) ×
    ((i : ℕ) (a b : BlockRow) → slice_get f.blocks i ≡ Some a → slice_get f.blocks (i + 1) ≡ Some b →
    block_first_number f.instructions b ≡ a.terminal_number + 1)
