-- When two scopes cannot be kept apart, in words of their ranges.
use Rattle.std.specs.Prelude.{◌≡◌, ℕ, ◌<◌, ◌≤◌, true, ◌⊎◌, List, [], ◌∷◌, slice_index_or}
use Rattle.react_compiler_hir.specs.declared.rows.MutableRange.{MutableRange}
use Rattle.react_compiler_hir.specs.Function.{HirFunction}
use Rattle.rules.specs.Rows.{Rows, contains, scope_range}
use Rattle.disjoint_set.specs.Classes.{In, Chain}
use Rattle.merge_rules.specs.Named.{named_scopes}
use Rattle.merge_rules.specs.Touched.{visits}
use Rattle.merge_rules.specs.Merged.{merge_replayed}

-- one of the elements is such
abbrev pub Any : {X : Type 0} → (X → Type 0) → List X → Type 0
Any P [] = ⊥
Any P (x ∷ xs) = P x ⊎ Any P xs

-- r starts first, s starts within r and ends after it
pub record Crosses (r s : MutableRange) : Type 0 where
  pub first : r.start < s.start
  pub within : s.start < r.end
  pub beyond : r.end < s.end

pub record Same (r s : MutableRange) : Type 0 where
  pub starts : r.start ≡ s.start
  pub ends : r.end ≡ s.end

-- s starts after r, or with it and ends no later
abbrev pub Inner : MutableRange → MutableRange → Type 0
Inner r s = (r.start < s.start) ⊎ ((r.start ≡ s.start) × (s.end ≤ r.end))

-- p is touched by what has the number t
abbrev pub Touched : HirFunction → Rows → ℕ → ℕ → Type 0
Touched f rows p t = Any (λ v. (v.number ≡ t) × In p v.touched) (visits f rows)

-- a scope that the function names and that is not empty
pub record Live (f : HirFunction) (rows : Rows) (p : ℕ) : Type 0 where
  pub named : In p (named_scopes f rows)
  pub filled : (scope_range rows.scopes p).start ≡ (scope_range rows.scopes p).end → ⊥

-- why p and q are to be one scope
pub data Link (f : HirFunction) (rows : Rows) (p q : ℕ) : Type 0 where
  crossing : Crosses (scope_range rows.scopes p) (scope_range rows.scopes q) → Link f rows p q
  same : Same (scope_range rows.scopes p) (scope_range rows.scopes q) → Link f rows p q
  touching : (t : ℕ) → Touched f rows p t → contains (scope_range rows.scopes q) t ≡ true
      → Inner (scope_range rows.scopes p) (scope_range rows.scopes q) → Link f rows p q

-- two named scopes, not empty, with a link from one to the other
pub record Linked (f : HirFunction) (rows : Rows) (p q : ℕ) : Type 0 where
  pub left : Live f rows p
  pub right : Live f rows q
  pub link : Link f rows p q ⊎ Link f rows q p

-- from link to link, each by a scope that it shares with the one before
abbrev pub LinkChain : HirFunction → Rows → ℕ → ℕ → Type 0
LinkChain f rows p q = Chain (Linked f rows) p q

-- a scope that the function names and that heads its class
pub record NamedRoot (f : HirFunction) (rows : Rows) (p : ℕ) : Type 0 where
  pub named : In p (named_scopes f rows)
  pub own : slice_index_or (merge_replayed f rows).roots p 0 ≡ p
