-- What an align keeps, and what it makes of ranges that reach into a bracket.
use Rattle.std.specs.Prelude.{◌≡◌, ℕ, ◌<◌, ◌≤◌, length, Some, Ok}
use Rattle.std.specs.List.{AllZip}
use Rattle.react_compiler_hir.specs.declared.rows.IdentifierRow.{IdentifierRow}
use Rattle.react_compiler_hir.specs.Function.{HirFunction}
use Rattle.rules.specs.Rows.{Rows, Covers, scope_range}
use Rattle.function_laws.specs.Sound.{Sound}
use Rattle.align_rules.specs.Brackets.{Bracket, bracket_at}
use Rattle.align_rules.specs.Align.{align_walked}
use Rattle.align_rules.specs.Meets.{Met, Bracketed}

-- an identifier may start and end elsewhere, and is otherwise the same
pub record IdentifierKept (found left : IdentifierRow) : Type 0 where
  pub range_id : left.mutable_range.id ≡ found.mutable_range.id
  pub scope : left.scope ≡ found.scope
  pub primitive : left.primitive ≡ found.primitive

-- no row comes or goes, and every scope starts no later and ends no earlier than it did
pub record Widened (found left : Rows) : Type 0 where
  pub scope_count : length left.scopes ≡ length found.scopes
  pub identifier_count : length left.identifiers ≡ length found.identifiers
  pub range_ids : (p : ℕ) → (scope_range left.scopes p).id ≡ (scope_range found.scopes p).id
  pub covers : (p : ℕ) → Covers (scope_range left.scopes p) (scope_range found.scopes p)
  pub identifiers_kept : AllZip IdentifierKept found.identifiers left.identifiers

abbrev pub AlignOnlyWidens : Type 0
AlignOnlyWidens =
    (f : HirFunction) (found left : Rows) (counter counter' : ℕ) →
    align_walked f found counter ≡ Ok (counter', left) →
    Widened found left × (counter ≤ counter')

-- a scope that the function meets nowhere keeps its range
abbrev pub UnmetStay : Type 0
UnmetStay =
    (f : HirFunction) (found left : Rows) (counter counter' : ℕ) →
    align_walked f found counter ≡ Ok (counter', left) →
    (scope : ℕ) → ((number : ℕ) → Met f found scope number → ⊥) →
    scope_range left.scopes scope ≡ scope_range found.scopes scope

-- where a function and its tables are sound, they are sound with the rows that an align leaves
abbrev pub AlignKeepsSound : Type 0
AlignKeepsSound =
    (f : HirFunction) (found left : Rows) (n counter counter' : ℕ) →
    Sound f found.scopes found.identifiers n →
    align_walked f found counter ≡ Ok (counter', left) →
    Sound f left.scopes left.identifiers n

-- the function met the scope, as found, up to the terminal of a bracket, and the scope, as left, ends after the
-- terminal: then it ends where the bracket does or later
abbrev pub BracketEnds : Type 0
BracketEnds =
    (f : HirFunction) (found left : Rows) (n counter counter' : ℕ) →
    Sound f found.scopes found.identifiers n →
    align_walked f found counter ≡ Ok (counter', left) →
    (block : ℕ) (bracket : Bracket) → bracket_at f block ≡ Some bracket →
    (scope number : ℕ) → Met f found scope number → number ≤ bracket.start →
    bracket.start < (scope_range left.scopes scope).end →
    bracket.end ≤ (scope_range left.scopes scope).end

-- in a bracketed function, one that was met before the end of a bracket, and ends after that, starts at the
-- terminal or earlier
abbrev pub BracketStarts : Type 0
BracketStarts =
    (f : HirFunction) (found left : Rows) (n counter counter' : ℕ) →
    Sound f found.scopes found.identifiers n →
    align_walked f found counter ≡ Ok (counter', left) →
    Bracketed f →
    (block : ℕ) (bracket : Bracket) → bracket_at f block ≡ Some bracket →
    (scope number : ℕ) → Met f found scope number → number < bracket.end →
    bracket.end < (scope_range left.scopes scope).end →
    (scope_range left.scopes scope).start ≤ bracket.start
