-- All that is joined stands in the table of scopes: it has a range that is not empty.
use Rattle.std.proofs.Common.{◌≡◌, ℕ, ◌+◌, ◌<◌, Bool, true, eqb, ltb, leb, List, [], ◌∷◌, map, length, Some, None, filter, Option, refl, inl, inr, arith}
use Rattle.std.specs.List.{AllByRecursion, slice_get}
use Rattle.std.proofs.ByRecursion.{All-append, All-map, all_kept_by, All-weaker}
use Rattle.std.proofs.lemmas.Option.{slice_get_past}
use Rattle.std.proofs.lemmas.Bool.{cases_Bool, cases_lt, and_parts, eqb-false, leb-true, ltb-true}
use Rattle.react_compiler_hir.specs.declared.rows.BlockRow.{BlockRow}
use Rattle.react_compiler_hir.specs.declared.rows.InstructionRow.{InstructionRow}
use Rattle.react_compiler_hir.specs.declared.rows.ScopeRow.{ScopeRow}
use Rattle.react_compiler_hir.specs.declared.rows.IdentifierRow.{IdentifierRow}
use Rattle.react_compiler_hir.specs.Rows.{scope_of}
use Rattle.react_compiler_hir.specs.Function.{HirFunction}
use Rattle.visitors.specs.Mentions.{terminal_operands, instructions_of}
use Rattle.rules.specs.Rows.{Rows, contains, scope_range, identifier_scope}
use Rattle.agenda.specs.declared.scopes.ScopeEntry.{ScopeEntry}
use Rattle.agenda.specs.Order.{before_all, insert, insert_all}
use Rattle.agenda.specs.Scopes.{opens_before, closes_before}
use Rattle.merge_rules.specs.Named.{and_then, is_empty, entries_from, named_scopes, named_entries, opening_order, closing_order}
use Rattle.merge_rules.specs.Touched.{Visit, visit, instruction_visit, terminal_visit, block_visits, visits_of, visits, touches, reached, scope_contains, row_touches}
use Rattle.merge_rules.specs.Replay.{timetable, outset, joins_of}
use Rattle.merge_rules.proofs.Members.{replayed_holds}

-- a scope past the table has an empty range
pub filled_in_table : (ss : List ScopeRow) (p : ℕ) → ((scope_range ss p).start ≡ (scope_range ss p).end → ⊥) → p < length ss
filled_in_table ss p ne = elim (cases_lt p (length ss)) [
  | inl h ↦ h
  | inr h ↦ absurd (ne (rw (slice_get_past ss p h)))
]

containing_in_table : (ss : List ScopeRow) (p t : ℕ) → contains (scope_range ss p) t ≡ true → p < length ss
containing_in_table ss p t e =
    let parts = and_parts (leb (scope_range ss p).start t) (ltb t (scope_range ss p).end) e in
    let low = leb-true (scope_range ss p).start t parts.0 in
    let high = ltb-true t (scope_range ss p).end parts.1 in
    filled_in_table ss p (λ z. omega arith)

module _ (P : ScopeEntry → Type 0) (lt : ScopeEntry → ScopeEntry → Bool) where
  all_insert : (x : ScopeEntry) (ys : List ScopeEntry) → P x → AllByRecursion P ys → AllByRecursion P (insert lt x ys)
  all_insert x [] h g = (h, tt)
  all_insert x (y ∷ ys) h g = elim (cases_Bool (before_all lt x (y ∷ ys))) [
    | inl t ↦ rw t (h, g)
    | inr t ↦ rw t (g.0, all_insert x ys h g.1)
  ]

  pub all_insert_all : (xs ys : List ScopeEntry) → AllByRecursion P xs → AllByRecursion P ys → AllByRecursion P (insert_all lt xs ys)
  all_insert_all [] ys h g = g
  all_insert_all (x ∷ xs) ys h g = all_insert_all xs (insert lt x ys) h.1 (all_insert x ys h.0 g)

entries_in_table : (ss : List ScopeRow) (k : ℕ) (ps : List ℕ) → AllByRecursion (λ e. e.scope < length ss) (entries_from ss k ps)
entries_in_table ss k [] = tt
entries_in_table ss k (p ∷ ps) = elim (cases_Bool (is_empty (scope_range ss p))) [
  | inl t ↦ rw t (entries_in_table ss k ps)
  | inr t ↦ rw t (filled_in_table ss p (eqb-false (scope_range ss p).start (scope_range ss p).end t), entries_in_table ss (k + 1) ps)
]

-- ---- what is touched contains the number at which it is touched

abbrev Holding : List ScopeRow → ℕ → ℕ → Type 0
Holding ss t p = contains (scope_range ss p) t ≡ true

touched_scope : (ss : List ScopeRow) (t : ℕ) (o : Option ℕ) (ps : List ℕ) → scope_contains ss t o ≡ true → AllByRecursion (Holding ss t) ps → AllByRecursion (Holding ss t) (and_then o ps)
touched_scope ss t None ps e h = h
touched_scope ss t (Some p) ps e h = (e, h)

touched_row : (ss : List ScopeRow) (ds : List IdentifierRow) (t i : ℕ) (ps : List ℕ) → row_touches ss t (slice_get ds i) ≡ true → AllByRecursion (Holding ss t) ps → AllByRecursion (Holding ss t) (and_then (identifier_scope ds i) ps)
touched_row ss ds t i ps e h = (elim (slice_get ds i) as (λ o. slice_get ds i ≡ o → AllByRecursion (Holding ss t) (and_then (identifier_scope ds i) ps)) [
  | None ↦ λ is. rw is h
  | Some d ↦ λ is. rw is (touched_scope ss t (scope_of d) ps (and_parts (scope_contains ss t (scope_of d)) (contains d.mutable_range t) (rw is at e)).0 h)
]) refl

touched_holds : (rows : Rows) (t : ℕ) (is : List ℕ) → AllByRecursion (Holding rows.scopes t) (visit rows t is).touched
touched_holds rows t [] = tt
touched_holds rows t (i ∷ is) = elim (cases_Bool (touches rows t i)) [
  | inl e ↦ rw e (touched_row rows.scopes rows.identifiers t i (visit rows t is).touched e (touched_holds rows t is))
  | inr e ↦ rw e (touched_holds rows t is)
]

-- all that a visit touches contains its number
abbrev pub Held : Rows → Visit → Type 0
Held rows v = AllByRecursion (λ p. contains (scope_range rows.scopes p) v.number ≡ true) v.touched

run_held : (f : HirFunction) (rows : Rows) (is : List InstructionRow) → AllByRecursion (Held rows) (map (instruction_visit f.words rows) is)
run_held f rows [] = tt
run_held f rows (r ∷ rs) = (touched_holds rows r.number (reached f.words rows.identifiers r), run_held f rows rs)

pub visits_held : (f : HirFunction) (rows : Rows) (bs : List BlockRow) → AllByRecursion (Held rows) (visits_of f rows bs)
visits_held f rows [] = tt
visits_held f rows (b ∷ bs) =
    let run = map (instruction_visit f.words rows) (instructions_of f.instructions b) in
    let last = terminal_visit f.words rows b in
    All-append (Held rows) (block_visits f rows b) (visits_of f rows bs)
    (All-append (Held rows) run (last ∷ []) (run_held f rows (instructions_of f.instructions b)) (touched_holds rows b.terminal_number (terminal_operands f.words b), tt))
    (visits_held f rows bs)

visits_in_table : (f : HirFunction) (rows : Rows) → AllByRecursion (λ v. AllByRecursion (λ p. p < length rows.scopes) v.touched) (visits f rows)
visits_in_table f rows =
    let known : (v : Visit) → Held rows v → AllByRecursion (λ p. p < length rows.scopes) v.touched =
    λ v. All-weaker (λ p. contains (scope_range rows.scopes p) v.number ≡ true) (λ p. p < length rows.scopes) (λ p. containing_in_table rows.scopes p v.number) v.touched in
    All-weaker (Held rows) (λ v. AllByRecursion (λ p. p < length rows.scopes) v.touched) known (visits f rows) (visits_held f rows f.blocks)

pub joins_in_table : (f : HirFunction) (rows : Rows) → AllByRecursion (AllByRecursion (λ p. p < length rows.scopes)) (joins_of f rows)
joins_in_table f rows =
    let P : ℕ → Type 0 = λ p. p < length rows.scopes in
    let Q : ScopeEntry → Type 0 = λ e. e.scope < length rows.scopes in
    let entries = entries_in_table rows.scopes 0 (named_scopes f rows) in
    let opens = all_insert_all Q opens_before (named_entries f rows) [] entries tt in
    let closes = all_insert_all Q closes_before (named_entries f rows) [] entries tt in
    (replayed_holds P (timetable f rows)
    (λ t. All-map P (λ e. e.scope) (filter (λ e. eqb e.start t) (opening_order f rows)) (all_kept_by (λ e. eqb e.start t) Q (opening_order f rows) opens))
    (λ t. All-map P (λ e. e.scope) (filter (λ e. eqb e.end t) (closing_order f rows)) (all_kept_by (λ e. eqb e.end t) Q (closing_order f rows) closes))
    outset (visits f rows) (visits_in_table f rows) (record { stack = tt; joins = tt })).joins
