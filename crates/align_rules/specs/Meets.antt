-- Which scopes a function meets, and which functions are bracketed.
use Rattle.std.specs.Prelude.{◌≡◌, ℕ, ◌<◌, true, Some}
use Rattle.std.specs.List.{ContainsAt}
use Rattle.react_compiler_hir.specs.Function.{HirFunction}
use Rattle.visitors.specs.Mentions.{Mention, mentions}
use Rattle.rules.specs.Rows.{Rows, contains, identifier_scope, scope_range}
use Rattle.align_rules.specs.Brackets.{Bracket, bracket_at}

-- the function meets a scope at a number: some place with that number has an identifier of the scope, and the
-- scope's range contains it
pub record Met (f : HirFunction) (rows : Rows) (scope number : ℕ) : Type 0 where
  pub place : Mention
  pub among : ContainsAt (mentions f) place
  pub numbered : place.number ≡ number
  pub has_scope : identifier_scope rows.identifiers place.identifier ≡ Some scope
  pub within : contains (scope_range rows.scopes scope) number ≡ true

-- every bracket closes at a later block, no two close at one block, and one that opens inside another closes
-- before it
pub record Bracketed (f : HirFunction) : Type 0 where
  pub ahead : (k : ℕ) (x : Bracket) → bracket_at f k ≡ Some x → k < x.fallthrough
  pub apart : (j k : ℕ) (x y : Bracket) → bracket_at f j ≡ Some x → bracket_at f k ≡ Some y → x.fallthrough ≡ y.fallthrough → j ≡ k
  pub nested : (j k : ℕ) (x y : Bracket) → bracket_at f j ≡ Some x → bracket_at f k ≡ Some y → j < k → k < x.fallthrough → y.fallthrough < x.fallthrough
