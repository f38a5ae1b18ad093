-- A chain of links leads from one scope to another if, and only if, they share their root.
use Rattle.std.proofs.Common.{◌≡◌, ℕ, ◌<◌, List, [], ◌∷◌, sym, refl, ◌∙◌, subst, inl, inr, arith}
use Rattle.std.specs.List.{AllByRecursion}
use Rattle.react_compiler_hir.specs.Function.{HirFunction}
use Rattle.function_laws.specs.Sound.{Sound}
use Rattle.rules.specs.Rows.{Rows, scope_range}
use Rattle.disjoint_set.specs.Classes.{In, Together, Step, Chain}
use Rattle.disjoint_set.specs.Classes.Chain.{start, on}
use Rattle.disjoint_set.proofs.Chains.{chain_sent, sent_chain}
use Rattle.merge_rules.specs.Touched.{visits}
use Rattle.merge_rules.specs.Replay.{timetable, outset, joins_of, root_of}
use Rattle.merge_rules.specs.Links.{Any, Touched, Live, Link, Linked, LinkChain}
use Rattle.merge_rules.specs.Links.Link.{crossing, same, touching}
use Rattle.merge_rules.proofs.Widening.{roots_are}
use Rattle.merge_laws.specs.Laws.{RootsByChains}
use Rattle.merge_laws.proofs.Lists.{all_in}
use Rattle.merge_laws.proofs.Ties.{Tied, replayed_tied}
use Rattle.merge_laws.proofs.Joins.{Respects, crossing_joined, same_joined, touching_all_joined}
use Rattle.merge_laws.proofs.Numbers.{all_touched}
use Rattle.merge_laws.proofs.Fitting.{contains_parts, starting, ending, linking, live_within, course, nothing_stands, visits_follow, number_visited, touched_inside}

-- ---- chains

pub chain_append : (R : ℕ → ℕ → Type 0) (i j k : ℕ) → Chain R i j → Chain R j k → Chain R i k
chain_append R i j k a start = a
chain_append R i j k a (on {j = m} b s) = on (chain_append R i j m a b) s

chain_mapped : (R S : ℕ → ℕ → Type 0) → ((i j : ℕ) → R i j → Chain S i j) → (i j : ℕ) → Chain R i j → Chain S i j
chain_mapped R S step i j start = start
chain_mapped R S step i k (on {j} c s) = chain_append S i j k (chain_mapped R S step i j c) (step j k s)

-- ---- from one root to a chain

module _ (f : HirFunction) (rows : Rows) where
  pub linked_back : (p q : ℕ) → Linked f rows p q → Linked f rows q p
  linked_back p q l = record { left = l.right; right = l.left; link = elim l.link [ inl a ↦ inr a | inr b ↦ inl b ] }

  -- to the first of a list that is tied, and from it
  to_first : (x : ℕ) (xs : List ℕ) → Tied (Linked f rows) (x ∷ xs) → (i : ℕ) → In i (x ∷ xs) → LinkChain f rows i x × LinkChain f rows x i
  to_first x xs tied i h = elim h [
    | inl e ↦ (subst (λ z. LinkChain f rows z x) (sym e) start, subst (λ z. LinkChain f rows x z) (sym e) start)
    | inr m ↦ (let l = all_in (Linked f rows x) xs i tied m in (on start (linked_back x i l), on start l))
  ]

  together_chain : (xss : List (List ℕ)) → AllByRecursion (Tied (Linked f rows)) xss → (i j : ℕ) → Together xss i j → LinkChain f rows i j
  together_chain [] a i j h = absurd h
  together_chain ([] ∷ xss) a i j h = elim h [ inl both ↦ absurd both.0 | inr later ↦ together_chain xss a.1 i j later ]
  together_chain ((x ∷ xs) ∷ xss) a i j h = elim h [
    | inl both ↦ chain_append (Linked f rows) i x j (to_first x xs a.0 i both.0).0 (to_first x xs a.0 j both.1).1
    | inr later ↦ together_chain xss a.1 i j later
  ]

  step_chain : (xss : List (List ℕ)) → AllByRecursion (Tied (Linked f rows)) xss → (i j : ℕ) → Step (λ p. p) xss i j → LinkChain f rows i j
  step_chain xss a i j (inl e) = subst (λ z. LinkChain f rows i z) e start
  step_chain xss a i j (inr t) = together_chain xss a i j t

  module _ (n : ℕ) (sound : Sound f rows.scopes rows.identifiers n) where
    joins_tied : AllByRecursion (Tied (Linked f rows)) (joins_of f rows)
    joins_tied =
        replayed_tied (timetable f rows) (starting f rows) (Live f rows) (course f rows n sound) (λ p t. Touched f rows p t) (Linked f rows) (linking f rows) 0 outset (visits f rows)
        (visits_follow f rows n sound) (nothing_stands f rows n sound) (all_touched (visits f rows)) tt

    pub root_chain : (p q : ℕ) → root_of f rows p ≡ root_of f rows q → LinkChain f rows p q
    root_chain p q e =
        chain_mapped (Step (λ i. i) (joins_of f rows)) (Linked f rows) (step_chain (joins_of f rows) joins_tied) p q (sent_chain (λ i. i) (joins_of f rows) p q e)

    -- ---- from a chain to one root

    respected : Respects (root_of f rows) (joins_of f rows)
    respected i j t = chain_sent (λ p. p) (joins_of f rows) i j (on start (inr t))

    -- the numbers where live scopes start, and where one ends before another, are visited
    start_visited : (p : ℕ) → Live f rows p → Any (λ v. v.number ≡ starting f rows p) (visits f rows)
    start_visited p l = let w = live_within f rows n sound p l in number_visited f rows n sound (starting f rows p) w.low (omega arith)

    end_visited : (p q : ℕ) → Live f rows p → Live f rows q → ending f rows p < ending f rows q → Any (λ v. v.number ≡ ending f rows p) (visits f rows)
    end_visited p q lp lq h =
        let wp = live_within f rows n sound p lp in
        let wq = live_within f rows n sound q lq in
        number_visited f rows n sound (ending f rows p) (omega arith) (omega arith)

    link_root : (p q : ℕ) → Live f rows p → Live f rows q → Link f rows p q → root_of f rows p ≡ root_of f rows q
    link_root p q lp lq (crossing c) =
        crossing_joined (root_of f rows) (timetable f rows) (starting f rows) (Live f rows) (course f rows n sound) (visits f rows) outset (visits_follow f rows n sound) (nothing_stands f rows n sound) respected
        p q lp lq c.first c.within c.beyond (end_visited p q lp lq c.beyond)
    link_root p q lp lq (same s) =
        same_joined (root_of f rows) (timetable f rows) (starting f rows) (Live f rows) (course f rows n sound) (visits f rows) outset (visits_follow f rows n sound) (nothing_stands f rows n sound) respected
        p q lp lq s.starts s.ends (start_visited p lp)
    link_root p q lp lq (touching t touched inside over) =
        let here = touched_inside f rows n sound p t touched in
        let there = contains_parts (scope_range rows.scopes q) t inside in
        touching_all_joined (root_of f rows) (timetable f rows) (starting f rows) (Live f rows) (course f rows n sound) (visits f rows) outset (visits_follow f rows n sound) (nothing_stands f rows n sound) respected
        p q t lp lq here.0 here.1 there.0 there.1 over touched (start_visited p lp)

    pub linked_root : (p q : ℕ) → Linked f rows p q → root_of f rows p ≡ root_of f rows q
    linked_root p q l = elim l.link [
      | inl a ↦ link_root p q l.left l.right a
      | inr b ↦ sym (link_root q p l.right l.left b)
    ]

    pub chain_root : (p q : ℕ) → LinkChain f rows p q → root_of f rows p ≡ root_of f rows q
    chain_root p q start = refl
    chain_root p q (on {j} c l) = chain_root p j c ∙ linked_root j q l

pub roots_by_chains : RootsByChains
roots_by_chains f rows n sound p q hp hq =
    let at_p = roots_are f rows p hp in
    let at_q = roots_are f rows q hq in
    ((λ e. root_chain f rows n sound p q (sym at_p ∙ e ∙ at_q)), (λ c. at_p ∙ chain_root f rows n sound p q c ∙ sym at_q))
