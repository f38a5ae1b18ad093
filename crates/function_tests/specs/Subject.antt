-- What is tested.
use Rattle.std.specs.Prelude.{ℕ, List}
use Rattle.react_compiler_hir.specs.declared.rows.ScopeRow.{ScopeRow}
use Rattle.react_compiler_hir.specs.declared.rows.IdentifierRow.{IdentifierRow}
use Rattle.react_compiler_hir.specs.Function.{HirFunction}

-- a function from a source of this kind, and the two tables beside it
pub record Subject : Type 0 where
  pub kind : ℕ
  pub function : HirFunction
  pub scopes : List ScopeRow
  pub identifiers : List IdentifierRow
