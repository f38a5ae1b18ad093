-- An accepted align leaves sound rows where it found such.
use Rattle.std.proofs.Common.{◌≡◌, ℕ, zero, suc, ◌+◌, ◌<◌, ◌≤◌, Bool, true, false, eqb, List, [], ◌∷◌, map, length, Some, None, Option, sym, refl, ap, ◌∙◌, subst, inl, inr, arith}
use Rattle.std.specs.List.{slice_get, AllByRecursion}
use Rattle.std.proofs.ByRecursion.{All-map, All-weaker}
use Rattle.std.proofs.lemmas.List.{length-map}
use Rattle.std.proofs.lemmas.Bool.{cases_lt}
use Rattle.std.proofs.lemmas.Option.{slice_get_past}
use Rattle.react_compiler_hir.specs.declared.rows.BlockRow.{BlockRow}
use Rattle.react_compiler_hir.specs.declared.rows.ScopeRow.{ScopeRow}
use Rattle.react_compiler_hir.specs.declared.rows.IdentifierRow.{IdentifierRow}
use Rattle.react_compiler_hir.specs.Function.{HirFunction}
use Rattle.visitors.specs.Mentions.{instructions_of, mentions}
use Rattle.function_tests.specs.Ranges.{range_sound, names_sound, scope_known}
use Rattle.function_tests.specs.Rows.{instruction_known, block_known}
use Rattle.rules.specs.Rows.{Rows, identifier_scope, scope_range}
use Rattle.function_laws.specs.Sound.{Sound, Numbered}
use Rattle.align_rules.specs.Marks.{block_marked}
use Rattle.align_rules.specs.Ranges.{tracked}
use Rattle.align_rules.specs.Align.{Walk, walk_at_start, scope_left, synced, rows_left}
use Rattle.align_laws.specs.Laws.{AlignKeepsSound}
use Rattle.align_laws.proofs.Accepted.{accepts_ok}
use Rattle.align_laws.proofs.Runs.{at}
use Rattle.align_laws.proofs.Stages.{Step, Stage, climb_all, step_alone}
use Rattle.align_laws.proofs.Keeping.{range_left, range_found, accepted, Wide, wide_start, wide_more, wide_end}
use Rattle.align_laws.proofs.Unmet.{rests_start}
use Rattle.align_laws.proofs.Numbering.{block_numbers_at}
use Rattle.align_laws.proofs.Bounds.{MarksBound, closing_bound, node_at_bound, terminal_reach_bound, block_marked_bound, marks_bound_start, first_at_bound}
use Rattle.align_laws.proofs.Staying.{Stays, stays_sound, stays_block}

-- a scope, if any, has a sound range
abbrev scope_sound : ℕ → List ScopeRow → Option ℕ → Bool
scope_sound n ss None = true
scope_sound n ss (Some p) = range_sound n (scope_range ss p)

names_by_scope : (n : ℕ) (ss : List ScopeRow) (ds : List IdentifierRow) (i : ℕ) → names_sound n ss ds i ≡ scope_sound n ss (identifier_scope ds i)
names_by_scope n ss ds i = (elim (slice_get ds i) as (λ o. slice_get ds i ≡ o → names_sound n ss ds i ≡ scope_sound n ss (identifier_scope ds i)) [
  | None ↦ λ e. rw e
  | Some d ↦ λ e. (elim (eqb d.scope 4294967295) as (λ t. eqb d.scope 4294967295 ≡ t → names_sound n ss ds i ≡ scope_sound n ss (identifier_scope ds i)) [
    | true ↦ λ g. rw (e, g)
    | false ↦ λ g. (elim (slice_get ss d.scope) as (λ o. slice_get ss d.scope ≡ o → names_sound n ss ds i ≡ scope_sound n ss (identifier_scope ds i)) [
      | None ↦ λ h. rw (e, g, h)
      | Some s ↦ λ h. rw (e, g, h)
    ]) refl
  ]) refl
]) refl

synced_scope : (found left : List ScopeRow) (ds : List IdentifierRow) (i : ℕ) → identifier_scope (map (synced found left) ds) i ≡ identifier_scope ds i
synced_scope found left [] i = refl
synced_scope found left (d ∷ ds) zero = refl
synced_scope found left (d ∷ ds) (suc i) = synced_scope found left ds i

module _ (f : HirFunction) (found : Rows) (n counter : ℕ) (numbered : Numbered f.instructions 0 f.blocks n) (p : ℕ) (known : p < length found.scopes) (sound : range_sound n (at (map tracked found.scopes) p).range ≡ true) where
  abbrev from : Walk
  from = walk_at_start f found counter

  abbrev ds : List IdentifierRow
  ds = found.identifiers

  record Keeps (k : ℕ) (w : Walk) : Type 0 where
    wide : Wide from w
    bound : MarksBound n w.marks
    stays : Stays n (at from.scopes p).range sound (at w.scopes p)

  keeps_more : (k : ℕ) (w v : Walk) (b : BlockRow) → slice_get f.blocks k ≡ Some b → Step f ds k w b v → Keeps k w → Keeps (k + 1) v
  keeps_more k w v b e s h =
      let c = block_numbers_at f.instructions n f.blocks k b numbered e in
      let first = first_at_bound f n numbered in
      let terminal : 1 ≤ b.terminal_number = omega (arith, c.last, c.next) in
      let m = w.marks in
      let in_table : p < length w.scopes = let long = length-map found.scopes tracked in omega (arith, h.wide.long, long) in
      record {
        wide = wide_more f ds from k w v b e s h.wide;
        bound = accepts_ok (MarksBound n) (block_marked f k b m) v.marks (block_marked_bound n f first b terminal k m h.bound) s.marked;
        stays = subst (Stays n (at from.scopes p).range sound) (sym ((step_alone f ds p k w v b s).here in_table))
            (stays_block n (at from.scopes p).range sound f ds p k b m (at w.scopes p) (node_at_bound n m k h.bound)
            (closing_bound n k m.pending h.bound.pending) (terminal_reach_bound n f first b terminal k m.pending h.bound.pending) h.stays);
      }

  keeps_start : Keeps 0 from
  keeps_start = record {
    wide = wide_start from;
    bound = marks_bound_start n (length f.blocks) counter;
    stays = inl (rests_start found.scopes p);
  }

  range_kept : (end : Walk) → Stage f ds 0 from end → range_sound n (at end.scopes p).range ≡ true
  range_kept end h =
      stays_sound n (at from.scopes p).range sound (at end.scopes p)
      (climb_all f ds Keeps keeps_more (length f.blocks) 0 (omega arith) from end h keeps_start).stays

module _ (f : HirFunction) (found : Rows) (n counter : ℕ) (sound : Sound f found.scopes found.identifiers n) (end : Walk) (stage : Stage f found.identifiers 0 (walk_at_start f found counter) end) where
  abbrev left : Rows
  left = rows_left found (map scope_left end.scopes)

  wide : Wide (walk_at_start f found counter) end
  wide = wide_end f found.identifiers (length f.blocks) 0 (omega arith) (walk_at_start f found counter) end stage

  scopes_long : length left.scopes ≡ length found.scopes
  scopes_long = length-map end.scopes scope_left ∙ wide.long ∙ length-map found.scopes tracked

  identifiers_long : length left.identifiers ≡ length found.identifiers
  identifiers_long = length-map found.identifiers (synced found.scopes left.scopes)

  range_at_kept : (p : ℕ) → range_sound n (scope_range found.scopes p) ≡ true → range_sound n (scope_range left.scopes p) ≡ true
  range_at_kept p h = elim (cases_lt p (length found.scopes)) [
    | inl known ↦
        subst (λ r. range_sound n r ≡ true) (sym (range_left end.scopes p))
        (range_kept f found n counter sound.numbered p known (subst (λ r. range_sound n r ≡ true) (range_found found.scopes p) h) end stage)
    | inr past ↦ rw (slice_get_past left.scopes p (omega (arith, scopes_long)))
  ]

  scope_kept : (o : Option ℕ) → scope_sound n found.scopes o ≡ true → scope_sound n left.scopes o ≡ true
  scope_kept None h = refl
  scope_kept (Some p) h = range_at_kept p h

  name_kept : (i : ℕ) → names_sound n found.scopes found.identifiers i ≡ true → names_sound n left.scopes left.identifiers i ≡ true
  name_kept i h =
      names_by_scope n left.scopes left.identifiers i ∙
      ap (scope_sound n left.scopes) (synced_scope found.scopes left.scopes found.identifiers i) ∙
      scope_kept (identifier_scope found.identifiers i) (sym (names_by_scope n found.scopes found.identifiers i) ∙ h)

  sound_left : Sound f left.scopes left.identifiers n
  sound_left = record {
    some_block = sound.some_block;
    few_blocks = sound.few_blocks;
    few_instructions = sound.few_instructions;
    few_words = sound.few_words;
    few_scopes = subst (λ l. l ≤ 1024) (sym scopes_long) sound.few_scopes;
    few_identifiers = subst (λ l. l ≤ 16384) (sym identifiers_long) sound.few_identifiers;
    scopes_known = All-map (λ d. scope_known (length left.scopes) d ≡ true) (synced found.scopes left.scopes) found.identifiers
        (subst (λ l. AllByRecursion (λ d. scope_known l d ≡ true) found.identifiers) (sym scopes_long) sound.scopes_known);
    blocks_fit = sound.blocks_fit;
    blocks_known = subst (λ l. AllByRecursion (λ b. block_known f l b ≡ true) f.blocks) (sym identifiers_long) sound.blocks_known;
    instructions_fit = sound.instructions_fit;
    instructions_known = subst (λ l. AllByRecursion (λ b. AllByRecursion (λ r. instruction_known f l r ≡ true) (instructions_of f.instructions b)) f.blocks) (sym identifiers_long) sound.instructions_known;
    numbered = sound.numbered;
    numbers = sound.numbers;
    named_sound = All-weaker (λ m. names_sound n found.scopes found.identifiers m.identifier ≡ true) (λ m. names_sound n left.scopes left.identifiers m.identifier ≡ true)
        (λ m h. name_kept m.identifier h) (mentions f) sound.named_sound;
  }

pub align_keeps_sound : AlignKeepsSound
align_keeps_sound f found left n counter counter' sound e =
    let a = accepted f found left counter counter' e in
    subst (λ r. Sound f r.scopes r.identifiers n) a.rows (sound_left f found n counter sound a.end a.stage)
