-- The ranges of named roots do not cross.
use Rattle.std.proofs.Common.{◌≡◌, ℕ, ◌<◌, ◌≤◌, List, length, sym, ap, ◌∙◌, subst₂, inl, inr, arith}
use Rattle.std.proofs.lemmas.Bool.{cases_lt}
use Rattle.react_compiler_hir.specs.declared.rows.ScopeRow.{ScopeRow}
use Rattle.react_compiler_hir.specs.Function.{HirFunction}
use Rattle.function_laws.specs.Sound.{Sound}
use Rattle.rules.specs.Rows.{Rows, Covers, scope_range}
use Rattle.disjoint_set.specs.Classes.{In, Chain}
use Rattle.disjoint_set.specs.Classes.Chain.{start, on}
use Rattle.merge_rules.specs.Named.{named_scopes, mentioned}
use Rattle.merge_rules.specs.Replay.{root_of}
use Rattle.merge_rules.specs.Merged.{merged_range, merge_replayed}
use Rattle.merge_rules.specs.Links.{Crosses, Live, Link, Linked, LinkChain}
use Rattle.merge_rules.specs.Links.Link.{crossing, same, touching}
use Rattle.merge_rules.proofs.Tables.{filled_in_table}
use Rattle.merge_rules.proofs.Widening.{roots_are, range_after, merged_covers_class, merge_widens}
use Rattle.merge_laws.specs.Laws.{NamedRootsNeverCross}
use Rattle.merge_laws.proofs.Hulls.{merged_start, merged_end}
use Rattle.merge_laws.proofs.Fitting.{contains_parts, starting, ending, live_within, touched_inside}
use Rattle.merge_laws.proofs.Chains.{root_chain, linked_root, chain_root}

-- ---- chains of ranges that overlap

-- what the argument needs of links: they join live ranges that have a number in common, and live ranges that cross are linked
pub record Overlapping (start ending : ℕ → ℕ) (Lives : ℕ → Type 0) (Link : ℕ → ℕ → Type 0) : Type 0 where
  pub lives : (p q : ℕ) → Link p q → Lives p × Lives q
  pub overlap : (p q : ℕ) → Link p q → (m : ℕ) × (start p ≤ m) × (m < ending p) × (start q ≤ m) × (m < ending q)
  pub crossing : (p q : ℕ) → Lives p → Lives q → start p < start q → start q < ending p → ending p < ending q → Link p q

module _ (begin ending : ℕ → ℕ) (Lives : ℕ → Type 0) (Link : ℕ → ℕ → Type 0) (laws : Overlapping begin ending Lives Link) where
  -- a chain from before b to past b has a range around b
  around : (b x y : ℕ) → Chain Link x y → begin x < b → b < ending y → (v : ℕ) × Chain Link x v × (begin v < b) × (b < ending v)
  around b x y start low high = (x, start, low, high)
  around b x y (on {j} c l) low high = elim (cases_lt (begin y) b) [
    | inl before ↦ (y, on c l, before, high)
    | inr after ↦ around b x j c low (reaches (laws.overlap j y l) after)
  ]
    where
      reaches : (m : ℕ) × (begin j ≤ m) × (m < ending j) × (begin y ≤ m) × (m < ending y) → b ≤ begin y → b < ending j
      reaches o after = let a = o.2 in let d = o.3 in omega arith

  -- a chain of ranges that end before v does, none linked with v, does not get into v from before it
  stays_before : (b v x y : ℕ) → Lives v → b < ending v → ((z : ℕ) → Chain Link x z → Lives z → ending z ≤ b) → ((z : ℕ) → Chain Link x z → Link z v → ⊥)
      → ending x ≤ begin v → Chain Link x y → ending y ≤ begin v
  stays_before b v x y lv past short apart before start = before
  stays_before b v x y lv past short apart before (on {j} c l) =
      let at_j = stays_before b v x j lv past short apart before c in
      let ly = (laws.lives j y l).1 in
      elim (cases_lt (begin v) (ending y)) [
        | inr outside ↦ outside
        | inl inside ↦ elim (cases_lt (begin y) (begin v)) [
          | inl crosses ↦ absurd (apart y (on c l) (laws.crossing y v ly lv crosses inside (ends (short y (on c l) ly))))
          | inr within ↦ absurd (gap (laws.overlap j y l) at_j within)
        ]
      ]
    where
      ends : ending y ≤ b → ending y < ending v
      ends h = omega arith

      gap : (m : ℕ) × (begin j ≤ m) × (m < ending j) × (begin y ≤ m) × (m < ending y) → ending j ≤ begin v → begin v ≤ begin y → ⊥
      gap o h g = let a = o.2 in let d = o.3 in omega arith

  -- two chains whose ranges cross as a whole have a link from one to the other
  chains_meet : (b c x y u w : ℕ) → Chain Link x y → Chain Link u w → begin x < c → c ≡ begin u → c < b → b ≡ ending y → b < ending w
      → ((z : ℕ) → Chain Link x z → begin z < ending z → Lives z) → ((z : ℕ) → Chain Link x z → Lives z → ending z ≤ b)
      → ((z : ℕ) → Chain Link u z → begin z < ending z → Lives z) → ((z : ℕ) → Chain Link u z → Lives z → c ≤ begin z)
      → ((z v : ℕ) → Chain Link x z → Chain Link u v → Link z v → ⊥) → ⊥
  chains_meet b c x y u w xy uw first c_is within b_is beyond x_lives x_ends u_lives u_starts apart =
      let (v, uv, low, high) = around b u w uw (omega arith) beyond in
      let lv = u_lives v uv (omega arith) in
      let at_least_lem = u_starts v uv lv in
      let before : ending x ≤ begin v = elim (cases_lt (begin v) (ending x)) [
        | inr outside ↦ outside
        | inl inside ↦ (let lx = x_lives x start (omega arith) in absurd (apart x v start uv (laws.crossing x v lx lv (omega arith) inside (ends (x_ends x start lx) high))))
      ] in
      let out = stays_before b v x y lv high x_ends (λ z xz. apart z v xz uv) before xy in
      omega arith
    where
      ends : {v : ℕ} → ending x ≤ b → b < ending v → ending x < ending v
      ends h g = omega arith

-- ---- links overlap

-- a number that both ranges contain
abbrev Common : HirFunction → Rows → ℕ → ℕ → Type 0
Common f rows p q = (m : ℕ) × (starting f rows p ≤ m) × (m < ending f rows p) × (starting f rows q ≤ m) × (m < ending f rows q)

module _ (f : HirFunction) (rows : Rows) (n : ℕ) (sound : Sound f rows.scopes rows.identifiers n) where
  link_overlaps : (p q : ℕ) → Live f rows p → Live f rows q → Link f rows p q → Common f rows p q
  link_overlaps p q lp lq (crossing c) =
      let a = c.first in
      let b = c.within in
      let d = c.beyond in
      (starting f rows q, omega arith, b, omega arith, omega arith)
  link_overlaps p q lp lq (same s) =
      let w = (live_within f rows n sound p lp).filled in
      let a = s.starts in
      let b = s.ends in
      (starting f rows p, omega arith, w, omega arith, omega arith)
  link_overlaps p q lp lq (touching t touched inside over) =
      let here = touched_inside f rows n sound p t touched in
      let there = contains_parts (scope_range rows.scopes q) t inside in
      (t, here.0, here.1, there.0, there.1)

  linked_overlaps : (p q : ℕ) → Linked f rows p q → Common f rows p q
  linked_overlaps p q l = elim l.link [
    | inl a ↦ link_overlaps p q l.left l.right a
    | inr b ↦ (let o = link_overlaps q p l.right l.left b in (o.0, o.3, o.4, o.1, o.2))
  ]

  overlapping : Overlapping (starting f rows) (ending f rows) (Live f rows) (Linked f rows)
  overlapping =
      record {
        lives = λ p q l. (l.left, l.right);
        overlap = linked_overlaps;
        crossing = λ p q lp lq a b d. record { left = lp; right = lq; link = inl (crossing (record { first = a; within = b; beyond = d })) };
      }

  -- ---- the class of a named root

  last_lives : (p x : ℕ) → In p (named_scopes f rows) → starting f rows x < ending f rows x → LinkChain f rows p x → Live f rows x
  last_lives p x named filled start = record { named = named; filled = λ z. omega arith }
  last_lives p x named filled (on c l) = l.right

  -- a scope that is not empty and has a named root is live
  member_lives : (p x : ℕ) → In p (named_scopes f rows) → root_of f rows p ≡ root_of f rows x → starting f rows x < ending f rows x → Live f rows x
  member_lives p x named same_root filled = last_lives p x named filled (root_chain f rows n sound p x same_root)

  -- the root's range covers it
  member_within : (p x : ℕ) → root_of f rows p ≡ p → root_of f rows x ≡ p → Live f rows x → Covers (merged_range rows.scopes (root_of f rows) p) (scope_range rows.scopes x)
  member_within p x own e l = merged_covers_class rows.scopes (root_of f rows) p x own (filled_in_table rows.scopes x l.filled) e

  roots_apart : (p q : ℕ) → p < length rows.scopes → q < length rows.scopes → root_of f rows p ≡ p → root_of f rows q ≡ q → In p (named_scopes f rows) → In q (named_scopes f rows)
      → Crosses (merged_range rows.scopes (root_of f rows) p) (merged_range rows.scopes (root_of f rows) q) → ⊥
  roots_apart p q hp hq own_p own_q named_p named_q crosses =
      let ss = rows.scopes in
      let root = root_of f rows in
      let x = merged_start ss root p hp own_p in
      let y = merged_end ss root p hp own_p in
      let u = merged_start ss root q hq own_q in
      let w = merged_end ss root q hq own_q in
      meet x.scope y.scope u.scope w.scope x.rooted y.rooted u.rooted w.rooted x.is y.is u.is w.is
    where
      reached : (x z r : ℕ) → root_of f rows x ≡ r → LinkChain f rows x z → root_of f rows z ≡ r
      reached x z r e c = sym (chain_root f rows n sound x z c) ∙ e

      differ : p ≡ q → ⊥
      differ e = let first = crosses.first in let z : (merged_range rows.scopes (root_of f rows) p).start ≡ (merged_range rows.scopes (root_of f rows) q).start = ap (λ r. (merged_range rows.scopes (root_of f rows) r).start) e in omega arith

      meet : (x y u w : ℕ) → root_of f rows x ≡ p → root_of f rows y ≡ p → root_of f rows u ≡ q → root_of f rows w ≡ q
          → starting f rows x ≡ (merged_range rows.scopes (root_of f rows) p).start → ending f rows y ≡ (merged_range rows.scopes (root_of f rows) p).end
          → starting f rows u ≡ (merged_range rows.scopes (root_of f rows) q).start → ending f rows w ≡ (merged_range rows.scopes (root_of f rows) q).end → ⊥
      meet x y u w rx ry ru rw' x_is y_is u_is w_is =
          let first = crosses.first in
          let beyond = crosses.beyond in
          chains_meet (starting f rows) (ending f rows) (Live f rows) (Linked f rows) overlapping
          (merged_range rows.scopes (root_of f rows) p).end (merged_range rows.scopes (root_of f rows) q).start x y u w
          (root_chain f rows n sound x y (rx ∙ sym ry)) (root_chain f rows n sound u w (ru ∙ sym rw'))
          (omega arith) (sym u_is) crosses.within (sym y_is) (omega arith)
          (λ z c filled. member_lives p z named_p (own_p ∙ sym (reached x z p rx c)) filled)
          (λ z c l. (member_within p z own_p (reached x z p rx c) l).ends)
          (λ z c filled. member_lives q z named_q (own_q ∙ sym (reached u z q ru c)) filled)
          (λ z c l. (member_within q z own_q (reached u z q ru c) l).starts)
          (λ z v cz cv l. differ (sym (reached x z p rx cz) ∙ linked_root f rows n sound z v l ∙ reached u v q ru cv))

-- a scope with a range that is not empty is in the table
known : (ss : List ScopeRow) (p : ℕ) → (scope_range ss p).start < (scope_range ss p).end → p < length ss
known ss p h = filled_in_table ss p (λ z. omega arith)

pub named_roots_never_cross : NamedRootsNeverCross
named_roots_never_cross f rows n sound p q root_p root_q crosses =
    let left = (merge_replayed f rows).rows.scopes in
    let same_length : length left ≡ length rows.scopes = (merge_widens f rows (omega (arith, sound.few_scopes))).scopes in
    let first = crosses.first in
    let within = crosses.within in
    let beyond = crosses.beyond in
    let hp : p < length rows.scopes = omega (arith, known left p (omega arith)) in
    let hq : q < length rows.scopes = omega (arith, known left q (omega arith)) in
    let at_p = range_after (root_of f rows) (mentioned f) rows p hp in
    let at_q = range_after (root_of f rows) (mentioned f) rows q hq in
    roots_apart f rows n sound p q hp hq (sym (roots_are f rows p hp) ∙ root_p.own) (sym (roots_are f rows q hq) ∙ root_q.own) root_p.named root_q.named
    (subst₂ Crosses at_p at_q crosses)
