-- What the classes of a merge are, and what it leaves to named roots.
use Rattle.std.specs.Prelude.{◌≡◌, ℕ, ◌<◌, length, Ok, slice_index}
use Rattle.std.specs.List.{AllByRecursion}
use Rattle.react_compiler_hir.specs.Function.{HirFunction}
use Rattle.rules.specs.Rows.{Rows, scope_range}
use Rattle.function_tests.specs.declared.memory.Memory.TheVariants.{Merge}
use Rattle.function_tests.specs.Tests.{function_tested}
use Rattle.function_laws.specs.Sound.{Sound}
use Rattle.merge_rules.specs.Merged.{merge_replayed}
use Rattle.merge_rules.specs.Links.{Crosses, LinkChain, NamedRoot}
use Rattle.merge_rules.specs.Cases.{case_function, case_rows, examples}

-- scopes of the table share a root where a chain of links leads from one to the other, and nowhere else; links are by the rows as found
abbrev pub RootsByChains : Type 0
RootsByChains =
    (f : HirFunction) (rows : Rows) (n : ℕ) → Sound f rows.scopes rows.identifiers n →
    (p q : ℕ) → p < length rows.scopes → q < length rows.scopes →
    (slice_index (merge_replayed f rows).roots p ≡ slice_index (merge_replayed f rows).roots q → LinkChain f rows p q) ×
    (LinkChain f rows p q → slice_index (merge_replayed f rows).roots p ≡ slice_index (merge_replayed f rows).roots q)

-- no two named roots are left with ranges that cross
abbrev pub NamedRootsNeverCross : Type 0
NamedRootsNeverCross =
    (f : HirFunction) (rows : Rows) (n : ℕ) → Sound f rows.scopes rows.identifiers n →
    (p q : ℕ) → NamedRoot f rows p → NamedRoot f rows q →
    Crosses (scope_range (merge_replayed f rows).rows.scopes p) (scope_range (merge_replayed f rows).rows.scopes q) → ⊥

-- the examples pass the tests and have the numbers 1 to 10, so they are sound
abbrev pub ExamplesPass : Type 0
ExamplesPass =
    AllByRecursion (λ e.
    function_tested 2 (case_function e.given) (case_rows e.given).scopes (case_rows e.given).identifiers (Merge 32 3 3 3) ≡ Ok 10)
    examples
