-- Which scopes a function names, and the orders in which they open and close.
use Rattle.std.specs.Prelude.{ℕ, ◌+◌, Bool, cond, List, [], ◌∷◌, map, Some, None, filter, Option, ◌==◌, nat_eq}
use Rattle.react_compiler_hir.specs.declared.rows.MutableRange.{MutableRange}
use Rattle.react_compiler_hir.specs.declared.rows.ScopeRow.{ScopeRow}
use Rattle.react_compiler_hir.specs.declared.rows.IdentifierRow.{IdentifierRow}
use Rattle.react_compiler_hir.specs.Function.{HirFunction}
use Rattle.visitors.specs.Mentions.{mentions}
use Rattle.rules.specs.Rows.{Rows, identifier_scope, scope_range}
use Rattle.disjoint_set.specs.Classes.{among}
use Rattle.agenda.specs.declared.scopes.ScopeEntry.{ScopeEntry}
use Rattle.agenda.specs.Order.{insert_all}
use Rattle.agenda.specs.Scopes.{opens_before, closes_before}

-- in front of a list, if there is one
abbrev pub and_then : Option ℕ → List ℕ → List ℕ
and_then None ps = ps
and_then (Some p) ps = p ∷ ps

-- the scopes of some identifiers, leaving out those that have none
abbrev pub scopes_of : List IdentifierRow → List ℕ → List ℕ
scopes_of ds [] = []
scopes_of ds (i ∷ is) = and_then (identifier_scope ds i) (scopes_of ds is)

-- each once, where it stands first, without those that were met before
abbrev pub once_after : List ℕ → List ℕ → List ℕ
once_after met [] = []
once_after met (p ∷ ps) = cond (among p met) (once_after met ps) (p ∷ once_after (p ∷ met) ps)

-- the identifiers that a function mentions, place after place
abbrev pub mentioned : HirFunction → List ℕ
mentioned f = map (λ m. m.identifier) (mentions f)

-- the scopes of all places, each once, in the order in which they are first named
abbrev pub named_scopes : HirFunction → Rows → List ℕ
named_scopes f rows = once_after [] (scopes_of rows.identifiers (mentioned f))

abbrev pub is_empty : MutableRange → Bool
is_empty r = r.start == r.end

-- an entry for each scope that is not empty, with the number of such scopes before it
abbrev pub entries_from : List ScopeRow → ℕ → List ℕ → List ScopeEntry
entries_from ss k [] = []
entries_from ss k (p ∷ ps) =
    cond (is_empty (scope_range ss p))
    (entries_from ss k ps)
    (record { scope = p; start = (scope_range ss p).start; «end» = (scope_range ss p).end; named = k } ∷ entries_from ss (k + 1) ps)

abbrev pub named_entries : HirFunction → Rows → List ScopeEntry
named_entries f rows = entries_from rows.scopes 0 (named_scopes f rows)

-- the lesser start first, then the greater end, then what is named first
abbrev pub opening_order : HirFunction → Rows → List ScopeEntry
opening_order f rows = insert_all opens_before (named_entries f rows) []

-- the lesser end first, then the greater start, then what is named first
abbrev pub closing_order : HirFunction → Rows → List ScopeEntry
closing_order f rows = insert_all closes_before (named_entries f rows) []

-- those of the entries that start at a number, in their order
abbrev pub opening_at : List ScopeEntry → ℕ → List ℕ
opening_at es t = map (λ e. e.scope) (filter (λ e. nat_eq e.start t) es)

-- those that end at a number
abbrev pub closing_at : List ScopeEntry → ℕ → List ℕ
closing_at es t = map (λ e. e.scope) (filter (λ e. nat_eq e.end t) es)
