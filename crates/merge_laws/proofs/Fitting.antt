-- The scopes of a sound function run as the laws need it.
use Rattle.std.proofs.Common.{◌≡◌, ℕ, ◌<◌, ◌≤◌, Bool, true, eqb, ltb, leb, [], map, filter, sym, ◌∙◌, inl, arith}
use Rattle.std.specs.List.{range_with_len, AllByRecursion}
use Rattle.std.proofs.ByRecursion.{All-map, All-weaker}
use Rattle.std.proofs.lemmas.Bool.{and_parts, and_from, eq-eqb, eqb-true, leb-true, ltb-true, le-leb, lt-ltb}
use Rattle.react_compiler_hir.specs.declared.rows.MutableRange.{MutableRange}
use Rattle.react_compiler_hir.specs.Function.{HirFunction}
use Rattle.function_laws.specs.Sound.{Sound}
use Rattle.rules.specs.Rows.{Rows, contains, scope_range}
use Rattle.disjoint_set.specs.Classes.{In}
use Rattle.agenda.specs.declared.scopes.ScopeEntry.{ScopeEntry}
use Rattle.agenda.specs.Scopes.{opens_before, closes_before}
use Rattle.agenda.proofs.Sorting.{sorts}
use Rattle.merge_rules.specs.Named.{named_scopes, named_entries, opening_order, closing_order, opening_at, closing_at}
use Rattle.merge_rules.specs.Touched.{visits}
use Rattle.merge_rules.specs.Replay.{timetable}
use Rattle.merge_rules.specs.Links.{Any, Touched, Live, Linked}
use Rattle.merge_rules.specs.Links.Link.{crossing, same, touching}
use Rattle.merge_rules.proofs.Tables.{all_insert_all, visits_held}
use Rattle.merge_laws.proofs.Lists.{all_in, Ranked}
use Rattle.merge_laws.proofs.Orders.{opens_lawful, closes_lawful, opens_ends, closes_starts}
use Rattle.merge_laws.proofs.Entries.{any_insert_all, any_weaker, kept_scope, kept_all, kept_ranked, Of, all_entries, For, any_entry}
use Rattle.merge_laws.proofs.Numbers.{visit_numbers, follows_from, visited, visits_counted, touched_contains}
use Rattle.merge_laws.proofs.Ranges.{Within, named_within}
use Rattle.merge_laws.proofs.Stacks.{Course, Standing}
use Rattle.merge_laws.proofs.Ties.{Follows, Linking}

pub contains_parts : (r : MutableRange) (t : ℕ) → contains r t ≡ true → (r.start ≤ t) × (t < r.end)
contains_parts r t e = let parts = and_parts (leb r.start t) (ltb t r.end) e in (leb-true r.start t parts.0, ltb-true t r.end parts.1)

module _ (f : HirFunction) (rows : Rows) where
  abbrev pub starting : ℕ → ℕ
  starting p = (scope_range rows.scopes p).start

  abbrev pub ending : ℕ → ℕ
  ending p = (scope_range rows.scopes p).end

  abbrev Entry : ScopeEntry → Type 0
  Entry e = Of rows.scopes (named_scopes f rows) e

  entries : AllByRecursion Entry (named_entries f rows)
  entries = all_entries rows.scopes (named_scopes f rows) (named_scopes f rows) 0 (λ p h. h)

  entry_lives : (e : ScopeEntry) → Entry e → Live f rows e.scope
  entry_lives e o = record { named = o.among; filled = o.filled }

  entry_of : (p : ℕ) → Live f rows p → Any (For rows.scopes p) (named_entries f rows)
  entry_of p l = any_entry rows.scopes p (named_scopes f rows) 0 l.named l.filled

  -- ---- opening

  opening_entries : AllByRecursion Entry (opening_order f rows)
  opening_entries = all_insert_all Entry opens_before (named_entries f rows) [] entries tt

  all_opening : (t : ℕ) → AllByRecursion (λ p. Live f rows p × (starting p ≡ t)) (opening_at (opening_order f rows) t)
  all_opening t =
      let test : ScopeEntry → Bool = λ e. eqb e.start t in
      let kept = filter test (opening_order f rows) in
      All-map (λ p. Live f rows p × (starting p ≡ t)) (λ e. e.scope) kept
      (All-weaker (λ e. Entry e × (test e ≡ true)) (λ e. Live f rows e.scope × (starting e.scope ≡ t))
      (λ e h. (entry_lives e h.0, sym h.0.starts ∙ eqb-true e.start t h.1)) kept (kept_all Entry test (opening_order f rows) opening_entries))

  in_opening : (t p : ℕ) → Live f rows p → starting p ≡ t → In p (opening_at (opening_order f rows) t)
  in_opening t p l e =
      kept_scope (λ x. eqb x.start t) p (opening_order f rows)
      (any_weaker (For rows.scopes p) (λ x. (x.scope ≡ p) × (eqb x.start t ≡ true)) (λ x h. (h.scope, eq-eqb x.start t (h.starts ∙ e))) (opening_order f rows)
      (any_insert_all (For rows.scopes p) opens_before (named_entries f rows) [] (inl (entry_of p l))))

  opening_ranked : (t : ℕ) → Ranked (λ p q. ending q ≤ ending p) (opening_at (opening_order f rows) t)
  opening_ranked t =
      kept_ranked opens_before (λ e. eqb e.start t) Entry (λ p q. ending q ≤ ending p)
      (λ x y h g before. (
      let together : x.start ≡ y.start = eqb-true x.start t h.1 ∙ sym (eqb-true y.start t g.1) in
      let ends = opens_ends x y together before in
      let ex = h.0.ends in
      let ey = g.0.ends in
      omega arith))
      (opening_order f rows) opening_entries (sorts opens_before opens_lawful (named_entries f rows)).0

  -- ---- closing

  closing_entries : AllByRecursion Entry (closing_order f rows)
  closing_entries = all_insert_all Entry closes_before (named_entries f rows) [] entries tt

  all_closing : (t : ℕ) → AllByRecursion (λ p. Live f rows p × (ending p ≡ t)) (closing_at (closing_order f rows) t)
  all_closing t =
      let test : ScopeEntry → Bool = λ e. eqb e.end t in
      let kept = filter test (closing_order f rows) in
      All-map (λ p. Live f rows p × (ending p ≡ t)) (λ e. e.scope) kept
      (All-weaker (λ e. Entry e × (test e ≡ true)) (λ e. Live f rows e.scope × (ending e.scope ≡ t))
      (λ e h. (entry_lives e h.0, sym h.0.ends ∙ eqb-true e.end t h.1)) kept (kept_all Entry test (closing_order f rows) closing_entries))

  in_closing : (t p : ℕ) → Live f rows p → ending p ≡ t → In p (closing_at (closing_order f rows) t)
  in_closing t p l e =
      kept_scope (λ x. eqb x.end t) p (closing_order f rows)
      (any_weaker (For rows.scopes p) (λ x. (x.scope ≡ p) × (eqb x.end t ≡ true)) (λ x h. (h.scope, eq-eqb x.end t (h.ends ∙ e))) (closing_order f rows)
      (any_insert_all (For rows.scopes p) closes_before (named_entries f rows) [] (inl (entry_of p l))))

  closing_ranked : (t : ℕ) → Ranked (λ p q. starting q ≤ starting p) (closing_at (closing_order f rows) t)
  closing_ranked t =
      kept_ranked closes_before (λ e. eqb e.end t) Entry (λ p q. starting q ≤ starting p)
      (λ x y h g before. (
      let together : x.end ≡ y.end = eqb-true x.end t h.1 ∙ sym (eqb-true y.end t g.1) in
      let starts = closes_starts x y together before in
      let sx = h.0.starts in
      let sy = g.0.starts in
      omega arith))
      (closing_order f rows) closing_entries (sorts closes_before closes_lawful (named_entries f rows)).0

  -- ---- links

  pub linking : Linking (timetable f rows) starting (Live f rows) (Touched f rows) (Linked f rows)
  linking =
      record {
        crossing = λ p q lp lq first within beyond. record { left = lp; right = lq; link = inl (crossing (record { first = first; within = within; beyond = beyond })) };
        same = λ p q lp lq starts ends. record { left = lp; right = lq; link = inl (same (record { starts = starts; ends = ends })) };
        touching = λ p q t lp lq touched low high over. record {
          left = lp;
          right = lq;
          link = inl (touching t touched (and_from (leb (starting q) t) (ltb t (ending q)) (le-leb (starting q) t low) (lt-ltb t (ending q) high)) over);
        };
      }

  -- ---- a sound function

  module _ (n : ℕ) (sound : Sound f rows.scopes rows.identifiers n) where
    pub live_within : (p : ℕ) → Live f rows p → Within n (scope_range rows.scopes p)
    live_within p l = named_within f rows n sound p l.named l.filled

    pub course : Course (timetable f rows) starting (Live f rows)
    course =
        record {
          opens = λ t p h. all_in (λ q. Live f rows q × (starting q ≡ t)) (opening_at (opening_order f rows) t) p (all_opening t) h;
          opened = in_opening;
          closes = λ t p h. all_in (λ q. Live f rows q × (ending q ≡ t)) (closing_at (closing_order f rows) t) p (all_closing t) h;
          closed = in_closing;
          opens_ranked = opening_ranked;
          closes_ranked = closing_ranked;
          filled = λ p l. (live_within p l).filled;
        }

    -- nothing stands on the stack before the first number
    pub nothing_stands : Standing (timetable f rows) starting (Live f rows) 0 []
    nothing_stands =
        record {
          lives = λ p h. absurd h;
          begun = λ p h. absurd h;
          going = λ p h. absurd h;
          all = λ p l b g. absurd (let low = (live_within p l).low in omega arith);
          ranked = tt;
        }

    numbered : map (λ v. v.number) (visits f rows) ≡ range_with_len 1 n
    numbered = visit_numbers f rows f.blocks ∙ sound.numbers

    pub visits_follow : Follows 0 (visits f rows)
    visits_follow = follows_from 0 n (visits f rows) numbered

    pub number_visited : (t : ℕ) → 1 ≤ t → t ≤ n → Any (λ v. v.number ≡ t) (visits f rows)
    number_visited t low high = visited 0 t (visits f rows) visits_follow (omega arith) (omega (arith, visits_counted (visits f rows) n numbered))

    -- a touched scope contains the number
    pub touched_inside : (p t : ℕ) → Touched f rows p t → (starting p ≤ t) × (t < ending p)
    touched_inside p t h = contains_parts (scope_range rows.scopes p) t (touched_contains rows p t (visits f rows) (visits_held f rows f.blocks) h)
