-- A merge only widens roots, and moves identifiers only to roots that cover their scopes.
use Rattle.std.proofs.Common.{◌≡◌, ℕ, zero, suc, ◌+◌, ◌<◌, ◌≤◌, Bool, true, false, cond, not, ◌&&◌, eqb, ◌⊎◌, List, [], ◌∷◌, length, get_or, Some, None, Option, sym, refl, ap, ◌∙◌, subst, inl, inr, arith}
use Rattle.std.specs.List.{range_with_len, slice_get}
use Rattle.std.proofs.lemmas.List.FromFn.{get_or-map-range_with_len}
use Rattle.std.proofs.lemmas.Option.{slice_get_past, slice_get-get_or}
use Rattle.std.proofs.lemmas.Bool.{cases_Bool, cases_lt, eq-eqb, ne_eqb, eqb-true, and_parts, or_cases, or_from}
use Rattle.react_compiler_hir.specs.declared.rows.MutableRange.{MutableRange}
use Rattle.react_compiler_hir.specs.declared.rows.ScopeRow.{ScopeRow}
use Rattle.react_compiler_hir.specs.declared.rows.IdentifierRow.{IdentifierRow}
use Rattle.react_compiler_hir.specs.Rows.{scope_of}
use Rattle.react_compiler_hir.specs.Function.{HirFunction}
use Rattle.rules.specs.Rows.{Rows, Covers, scope_range, identifier_scope}
use Rattle.disjoint_set.specs.Classes.{among, In}
use Rattle.merge_rules.specs.Named.{mentioned}
use Rattle.merge_rules.specs.Replay.{joins_of, root_of}
use Rattle.merge_rules.specs.Merged.{merged_range, joined_to, first_joined, moved_to_scope, repointed, merged_identifier, each_from, merged_rows, merge_replayed}
use Rattle.merge_rules.specs.Laws.{WithRoot, Kept, MergeWidens}
use Rattle.merge_rules.proofs.Classes.{sent_all_keeps, sent_all_own}
use Rattle.merge_rules.proofs.Tables.{joins_in_table}
use Rattle.merge_rules.proofs.Hulls.{covers_itself, in_counting, counting_below, hull_id, hull_covers, hull_covers_class}

-- ---- tables changed element by element

length_each_from : {X : Type 0} (change : ℕ → X → X) (k : ℕ) (xs : List X) → length (each_from change k xs) ≡ length xs
length_each_from change k [] = refl
length_each_from change k (x ∷ xs) = ap suc (length_each_from change (k + 1) xs)

-- what stands at a position after the change, by what stood there
abbrev changed : {X : Type 0} → (ℕ → X → X) → ℕ → Option X → Option X
changed change i None = None
changed change i (Some x) = Some (change i x)

nth_each_from : {X : Type 0} (change : ℕ → X → X) (k : ℕ) (xs : List X) (i : ℕ) → slice_get (each_from change k xs) i ≡ changed change (k + i) (slice_get xs i)
nth_each_from change k [] i = refl
nth_each_from change k (x ∷ xs) zero = let same : k ≡ k + zero = omega arith in ap (λ j. Some (change j x)) same
nth_each_from change k (x ∷ xs) (suc i) = let same : (k + 1) + i ≡ k + suc i = omega arith in nth_each_from change (k + 1) xs i ∙ ap (λ j. changed change j (slice_get xs i)) same

-- ---- roots

module _ (f : HirFunction) (rows : Rows) where
  pub root_own : (p : ℕ) → root_of f rows (root_of f rows p) ≡ root_of f rows p
  root_own p = sent_all_own (λ q. q) (λ q. refl) (joins_of f rows) p

  pub root_in_table : (p : ℕ) → p < length rows.scopes → root_of f rows p < length rows.scopes
  root_in_table p h = sent_all_keeps (λ q. q < length rows.scopes) (λ q. q) (λ q g. g) (joins_of f rows) (joins_in_table f rows) p h

  pub roots_are : (p : ℕ) → p < length rows.scopes → get_or (merge_replayed f rows).roots p 0 ≡ root_of f rows p
  roots_are p h = get_or-map-range_with_len (root_of f rows) 0 (length rows.scopes) p p 0 h (omega arith)

-- ---- ranges

merged_covers : (ss : List ScopeRow) (root : ℕ → ℕ) (p : ℕ) → Covers (merged_range ss root p) (scope_range ss p)
merged_covers ss root p = elim (cases_Bool (eqb (root p) p)) [
  | inl t ↦ rw t (hull_covers ss root p (scope_range ss p) (scope_range ss p) (range_with_len 0 (length ss)) (covers_itself (scope_range ss p)))
  | inr t ↦ rw t (covers_itself (scope_range ss p))
]

merged_id : (ss : List ScopeRow) (root : ℕ → ℕ) (p : ℕ) → (merged_range ss root p).id ≡ (scope_range ss p).id
merged_id ss root p = elim (cases_Bool (eqb (root p) p)) [
  | inl t ↦ rw t (hull_id ss root p (scope_range ss p) (range_with_len 0 (length ss)))
  | inr t ↦ rw t
]

-- a root covers its class
pub merged_covers_class : (ss : List ScopeRow) (root : ℕ → ℕ) (p q : ℕ) → root p ≡ p → q < length ss → root q ≡ p → Covers (merged_range ss root p) (scope_range ss q)
merged_covers_class ss root p q own h e =
    rw (eq-eqb (root p) p own) (hull_covers_class ss root p (scope_range ss p) (range_with_len 0 (length ss)) q (in_counting 0 (length ss) q (omega arith) (omega arith)) e)

module _ (root : ℕ → ℕ) (mentions : List ℕ) (rows : Rows) where
  pub range_after : (p : ℕ) → p < length rows.scopes → scope_range (merged_rows root mentions rows).scopes p ≡ merged_range rows.scopes root p
  range_after p h =
      let ss = rows.scopes in
      let change : ℕ → ScopeRow → ScopeRow = λ q s. record { range = merged_range ss root q } in
      let blank : ScopeRow = record { range = scope_range ss p } in
      let there : slice_get ss p ≡ Some (get_or ss p blank) = slice_get-get_or ss p blank h in
      let here : 0 + p ≡ p = omega arith in
      let e : slice_get (merged_rows root mentions rows).scopes p ≡ Some (record { range = merged_range ss root p }) =
      nth_each_from change 0 ss p ∙ ap (λ j. changed change j (slice_get ss p)) here ∙ ap (changed change p) there in
      rw e

  pub range_past : (p : ℕ) → length rows.scopes ≤ p → scope_range (merged_rows root mentions rows).scopes p ≡ scope_range rows.scopes p
  range_past p h =
      let change : ℕ → ScopeRow → ScopeRow = λ q s. record { range = merged_range rows.scopes root q } in
      let far : length (merged_rows root mentions rows).scopes ≤ p = omega (arith, length_each_from change 0 rows.scopes) in
      rw (slice_get_past rows.scopes p h, slice_get_past (merged_rows root mentions rows).scopes p far)

  range_wider : (p : ℕ) → Covers (scope_range (merged_rows root mentions rows).scopes p) (scope_range rows.scopes p)
  range_wider p = elim (cases_lt p (length rows.scopes)) [
    | inl h ↦ subst (λ r. Covers r (scope_range rows.scopes p)) (sym (range_after p h)) (merged_covers rows.scopes root p)
    | inr h ↦ subst (λ r. Covers r (scope_range rows.scopes p)) (sym (range_past p h)) (covers_itself (scope_range rows.scopes p))
  ]

  range_id : (p : ℕ) → (scope_range (merged_rows root mentions rows).scopes p).id ≡ (scope_range rows.scopes p).id
  range_id p = elim (cases_lt p (length rows.scopes)) [
    | inl h ↦ ap (λ r. r.id) (range_after p h) ∙ merged_id rows.scopes root p
    | inr h ↦ ap (λ r. r.id) (range_past p h)
  ]

  -- ---- identifiers

  identifier_after : (i : ℕ) → slice_get (merged_rows root mentions rows).identifiers i ≡ changed (merged_identifier rows.scopes root mentions) i (slice_get rows.identifiers i)
  identifier_after i =
      let here : 0 + i ≡ i = omega arith in
      let change = merged_identifier rows.scopes root mentions in
      nth_each_from change 0 rows.identifiers i ∙ ap (λ j. changed change j (slice_get rows.identifiers i)) here

-- a scope that another is joined to is a root
joined_own : (root : ℕ → ℕ) → ((q : ℕ) → root (root q) ≡ root q) → (p : ℕ) (qs : List ℕ) → joined_to root p qs ≡ true → root p ≡ p
joined_own root own p [] h = absurd (let z : ◌≡◌ {A = ℕ} 0 1 = cc in omega arith)
joined_own root own p (q ∷ qs) h = elim (or_cases (eqb (root q) p && not (eqb q p)) (joined_to root p qs) h) [
  | inl here ↦ (let e = eqb-true (root q) p (and_parts (eqb (root q) p) (not (eqb q p)) here).0 in ap root (sym e) ∙ own q ∙ e)
  | inr later ↦ joined_own root own p qs later
]

-- what the search for a root with a range id finds
record Found (ss : List ScopeRow) (root : ℕ → ℕ) (id : ℕ) (ps : List ℕ) (p : ℕ) : Type 0 where
  pub among : In p ps
  pub shared : (scope_range ss p).id ≡ id
  pub joined : joined_to root p (range_with_len 0 (length ss)) ≡ true

found_root : (ss : List ScopeRow) (root : ℕ → ℕ) (id : ℕ) (ps : List ℕ) (p : ℕ) → first_joined ss root id ps ≡ Some p → Found ss root id ps p
found_root ss root id [] p e = absurd (let z : ◌≡◌ {A = ℕ} 0 1 = cc in omega arith)
found_root ss root id (q ∷ ps) p e =
    let test = eqb (scope_range ss q).id id && joined_to root q (range_with_len 0 (length ss)) in
    elim (cases_Bool test) [
      | inl t ↦ (
          let is : ◌≡◌ {A = Option ℕ} (Some q) (Some p) = rw t at e in
          let same : q ≡ p = cc in
          let parts = and_parts (eqb (scope_range ss q).id id) (joined_to root q (range_with_len 0 (length ss))) t in
          subst (Found ss root id (q ∷ ps)) same (record { among = inl refl; shared = eqb-true (scope_range ss q).id id parts.0; joined = parts.1 }))
      | inr t ↦ (let later = found_root ss root id ps p (rw t at e) in record { among = inr later.among; shared = later.shared; joined = later.joined })
    ]

module _ (f : HirFunction) (rows : Rows) where
  -- a mutable range after the syncing, by the root that was found for it
  synced_range : (r : MutableRange) (o : Option ℕ) → first_joined rows.scopes (root_of f rows) r.id (range_with_len 0 (length rows.scopes)) ≡ o
      → (moved_to_scope rows.scopes (root_of f rows) r o ≡ r) ⊎ WithRoot (merge_replayed f rows).roots rows.scopes (merge_replayed f rows).rows.scopes r (moved_to_scope rows.scopes (root_of f rows) r o)
  synced_range r None e = inl refl
  synced_range r (Some p) e =
      let root = root_of f rows in
      let found = found_root rows.scopes root r.id (range_with_len 0 (length rows.scopes)) p e in
      let known : p < length rows.scopes = omega (arith, counting_below 0 (length rows.scopes) p found.among) in
      let left = range_after root (mentioned f) rows p known in
      inr (record {
        root = p;
        known = known;
        own = roots_are f rows p known ∙ joined_own root (root_own f rows) p (range_with_len 0 (length rows.scopes)) found.joined;
        shared = found.shared;
        starts = sym (ap (λ s. s.start) left);
        ends = sym (ap (λ s. s.end) left);
      })

  synced_id : (r : MutableRange) (o : Option ℕ) → (moved_to_scope rows.scopes (root_of f rows) r o).id ≡ r.id
  synced_id r None = refl
  synced_id r (Some p) = refl

  kept_after : (i : ℕ) (d e : IdentifierRow) → slice_get rows.identifiers i ≡ Some d → slice_get (merge_replayed f rows).rows.identifiers i ≡ Some e
      → Kept (merge_replayed f rows).roots rows.scopes (merge_replayed f rows).rows.scopes d e
  kept_after i d e found left =
      let root = root_of f rows in
      let change = merged_identifier rows.scopes root (mentioned f) in
      let new : slice_get (merge_replayed f rows).rows.identifiers i ≡ Some (change i d) = identifier_after root (mentioned f) rows i ∙ ap (changed change i) found in
      let is : change i d ≡ e = cc in
      let r = d.mutable_range in
      let o = first_joined rows.scopes root r.id (range_with_len 0 (length rows.scopes)) in
      subst (Kept (merge_replayed f rows).roots rows.scopes (merge_replayed f rows).rows.scopes d) is
      (record { id = synced_id r o; primitive = refl; range = synced_range r o refl })

-- ---- the scope of an identifier

-- the word that stands for no scope
abbrev none : ℕ
none = 4294967295

-- a test that chooses no scope or the scope of a word
chosen_some : (b : Bool) (w p : ℕ) → ◌≡◌ {A = Option ℕ} (cond b None (Some w)) (Some p) → (b ≡ false) × (w ≡ p)
chosen_some true w p e = absurd (let z : ◌≡◌ {A = ℕ} 0 1 = cc in omega arith)
chosen_some false w p e = (refl, cc)

not_among : (i : ℕ) (is : List ℕ) → (In i is → ⊥) → among i is ≡ false
not_among i [] out = refl
not_among i (j ∷ is) out = or_from (eqb i j) (among i is) (ne_eqb i j (λ e. out (inl e))) (not_among i is (λ m. out (inr m)))

-- one that has no scope gets none, whether mentioned or not
word_stays : (b : Bool) (root : ℕ → ℕ) (d : IdentifierRow) → scope_of d ≡ None → cond b (repointed root d) d.scope ≡ d.scope
word_stays true root d e = rw e
word_stays false root d e = refl

-- the scope that one with the scope p gets
abbrev scope_after : Bool → (ℕ → ℕ) → ℕ → ℕ
scope_after b root p = cond b (root p) p

word_moves : (b : Bool) (root : ℕ → ℕ) (d : IdentifierRow) (p : ℕ) → scope_of d ≡ Some p → cond b (repointed root d) d.scope ≡ scope_after b root p
word_moves true root d p e = rw e
word_moves false root d p e = (chosen_some (eqb d.scope none) d.scope p e).1

module _ (root : ℕ → ℕ) (mentions : List ℕ) (rows : Rows) where
  bare_after : (i : ℕ) → identifier_scope rows.identifiers i ≡ None → identifier_scope (merged_rows root mentions rows).identifiers i ≡ None
  bare_after i e = (elim (slice_get rows.identifiers i) as (λ o. slice_get rows.identifiers i ≡ o → identifier_scope (merged_rows root mentions rows).identifiers i ≡ None) [
    | None ↦ λ is. rw (identifier_after root mentions rows i ∙ ap (changed (merged_identifier rows.scopes root mentions) i) is)
    | Some d ↦ λ is. (
        let no_scope : scope_of d ≡ None = rw is at e in
        let b = among i mentions in
        rw (identifier_after root mentions rows i ∙ ap (changed (merged_identifier rows.scopes root mentions) i) is, word_stays b root d no_scope) no_scope)
  ]) refl

  unnamed_after : (i : ℕ) → (In i mentions → ⊥) → identifier_scope (merged_rows root mentions rows).identifiers i ≡ identifier_scope rows.identifiers i
  unnamed_after i out = (elim (slice_get rows.identifiers i) as (λ o. slice_get rows.identifiers i ≡ o → identifier_scope (merged_rows root mentions rows).identifiers i ≡ identifier_scope rows.identifiers i) [
    | None ↦ λ is. rw (identifier_after root mentions rows i ∙ ap (changed (merged_identifier rows.scopes root mentions) i) is, is)
    | Some d ↦ λ is. rw (identifier_after root mentions rows i ∙ ap (changed (merged_identifier rows.scopes root mentions) i) is, is, not_among i mentions out)
  ]) refl

  moved_after : (i p : ℕ) → identifier_scope rows.identifiers i ≡ Some p → (scope_after (among i mentions) root p ≡ none → ⊥)
      → identifier_scope (merged_rows root mentions rows).identifiers i ≡ Some (scope_after (among i mentions) root p)
  moved_after i p e known = (elim (slice_get rows.identifiers i) as (λ o. slice_get rows.identifiers i ≡ o → identifier_scope (merged_rows root mentions rows).identifiers i ≡ Some (scope_after (among i mentions) root p)) [
    | None ↦ λ is. absurd (let lost : ◌≡◌ {A = Option ℕ} None (Some p) = rw is at e in let z : ◌≡◌ {A = ℕ} 0 1 = cc in omega arith)
    | Some d ↦ λ is. (
        let scoped : scope_of d ≡ Some p = rw is at e in
        let b = among i mentions in
        rw (identifier_after root mentions rows i ∙ ap (changed (merged_identifier rows.scopes root mentions) i) is, word_moves b root d p scoped, ne_eqb (scope_after b root p) none known))
  ]) refl

-- ---- the law

pub merge_widens : MergeWidens
merge_widens f rows few =
    let root = root_of f rows in
    let ms = mentioned f in
    let left = merged_rows root ms rows in
    record {
      scopes = length_each_from (λ q s. record { range = merged_range rows.scopes root q }) 0 rows.scopes;
      identifiers = length_each_from (merged_identifier rows.scopes root ms) 0 rows.identifiers;
      ids = range_id root ms rows;
      wider = range_wider root ms rows;
      others_stay = λ p h ne. range_after root ms rows p h ∙ stays rows.scopes root p (λ e. ne (roots_are f rows p h ∙ e));
      kept = kept_after f rows;
      bare = bare_after root ms rows;
      unnamed = unnamed_after root ms rows;
      moved = λ i p e h. (
          let b = among i ms in
          let inside : scope_after b root p < length rows.scopes = within b f rows p h in
          record {
            scope = scope_after b root p;
            now = moved_after root ms rows i p e (λ z. omega arith);
            known = inside;
            way = moved_where f rows p h b;
            covers = moved_covers f rows p h b;
          });
    }
  where
    stays : (ss : List ScopeRow) (root : ℕ → ℕ) (p : ℕ) → (root p ≡ p → ⊥) → merged_range ss root p ≡ scope_range ss p
    stays ss root p ne = rw (ne_eqb (root p) p ne)

    within : (b : Bool) (f : HirFunction) (rows : Rows) (p : ℕ) → p < length rows.scopes → scope_after b (root_of f rows) p < length rows.scopes
    within true f rows p h = root_in_table f rows p h
    within false f rows p h = h

    moved_where : (f : HirFunction) (rows : Rows) (p : ℕ) → p < length rows.scopes → (b : Bool) → (scope_after b (root_of f rows) p ≡ p) ⊎ (scope_after b (root_of f rows) p ≡ get_or (merge_replayed f rows).roots p 0)
    moved_where f rows p h true = inr (sym (roots_are f rows p h))
    moved_where f rows p h false = inl refl

    moved_covers : (f : HirFunction) (rows : Rows) (p : ℕ) → p < length rows.scopes → (b : Bool) → Covers (scope_range (merge_replayed f rows).rows.scopes (scope_after b (root_of f rows) p)) (scope_range rows.scopes p)
    moved_covers f rows p h true =
        subst (λ r. Covers r (scope_range rows.scopes p)) (sym (range_after (root_of f rows) (mentioned f) rows (root_of f rows p) (root_in_table f rows p h)))
        (merged_covers_class rows.scopes (root_of f rows) (root_of f rows p) p (root_own f rows p) h refl)
    moved_covers f rows p h false = range_wider (root_of f rows) (mentioned f) rows p
