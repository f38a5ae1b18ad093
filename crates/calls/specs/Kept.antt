-- What any list of calls keeps, after each call of it.
use Rattle.std.specs.Prelude.{◌≡◌, ℕ, ◌<◌, ◌≤◌, List, length, Some, Ok, slice_index}
use Rattle.react_compiler_hir.specs.Function.{HirFunction}
use Rattle.rules.specs.Rows.{Rows, Covers, identifier_scope, scope_range}
use Rattle.align_rules.specs.Brackets.{Bracket, bracket_at}
use Rattle.align_rules.specs.Meets.{Met, Bracketed}
use Rattle.merge_rules.specs.Merged.{Merged}
use Rattle.merge_rules.specs.Links.{Crosses, LinkChain, NamedRoot}
use Rattle.calls.specs.Calls.{Call, align, merge, align_answer, merge_answer, after, run}

-- an identifier that had the scope p has a scope whose range covers the one that p had
pub record Covered (outset left : Rows) (i p : ℕ) : Type 0 where
  pub scope : ℕ
  pub has_scope : identifier_scope left.identifiers i ≡ Some scope
  pub in_table : scope < length left.scopes
  pub covers : Covers (scope_range left.scopes scope) (scope_range outset.scopes p)

-- so it is with every identifier that had a scope of the table
abbrev pub AllCovered : Rows → Rows → Type 0
AllCovered outset left =
    (i p : ℕ) → identifier_scope outset.identifiers i ≡ Some p → p < length outset.scopes → Covered outset left i p

-- what an accepted align makes of brackets, from the rows it found to those it left
pub record BracketsHold (f : HirFunction) (found left : Rows) : Type 0 where
  -- a scope that was met up to the terminal does not end between the terminal and the bracket's end
  pub ends : (block : ℕ) (bracket : Bracket) → bracket_at f block ≡ Some bracket →
      (scope number : ℕ) → Met f found scope number → number ≤ bracket.start →
      bracket.start < (scope_range left.scopes scope).end →
      bracket.end ≤ (scope_range left.scopes scope).end
  -- where brackets nest, one that was met inside and goes on behind the bracket does not start inside it
  pub starts : Bracketed f → (block : ℕ) (bracket : Bracket) → bracket_at f block ≡ Some bracket →
      (scope number : ℕ) → Met f found scope number → number < bracket.end →
      bracket.end < (scope_range left.scopes scope).end →
      (scope_range left.scopes scope).start ≤ bracket.start

-- what an accepted merge makes of links, by the rows it found
pub record LinksHold (f : HirFunction) (found : Rows) (merged : Merged) : Type 0 where
  -- one root, exactly where a chain of links joins two scopes
  pub joined : (p q : ℕ) → p < length found.scopes → q < length found.scopes →
      LinkChain f found p q → slice_index merged.roots p ≡ slice_index merged.roots q
  pub chained : (p q : ℕ) → p < length found.scopes → q < length found.scopes →
      slice_index merged.roots p ≡ slice_index merged.roots q → LinkChain f found p q
  -- named roots do not cross, as it left them
  pub apart : (p q : ℕ) → NamedRoot f found p → NamedRoot f found q →
      Crosses (scope_range merged.rows.scopes p) (scope_range merged.rows.scopes q) → ⊥

-- the law of a call on the rows it found: a refused one has none
abbrev pub LawOf : ℕ → HirFunction → Rows → Call → Type 0
LawOf kind f found (align counter words) =
    (counter' : ℕ) (left : Rows) → align_answer kind f found counter words ≡ Ok (counter', left) → BracketsHold f found left
LawOf kind f found (merge words openings closings roots) =
    (merged : Merged) → merge_answer kind f found words openings closings roots ≡ Ok merged → LinksHold f found merged

-- for every function, every rows at the outset and every list of calls, accepted or refused: after one call more every
-- identifier's scope covers what its scope covered at the outset, and the law of that call holds
abbrev pub KeptOverCalls : Type 0
KeptOverCalls =
    (kind : ℕ) (f : HirFunction) (outset : Rows) (calls : List Call) (call : Call) →
    AllCovered outset (after kind f (run kind f outset calls) call) × LawOf kind f (run kind f outset calls) call
