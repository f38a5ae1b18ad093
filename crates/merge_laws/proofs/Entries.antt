-- The scopes that open or close at a number are the live ones that start or end there, in order.
use Rattle.std.proofs.Common.{◌≡◌, ℕ, ◌+◌, Bool, true, false, ◌⊎◌, List, [], ◌∷◌, map, filter, sym, refl, inl, inr}
use Rattle.std.specs.List.{AllByRecursion}
use Rattle.std.proofs.ByRecursion.{all_kept_by, kept_by_passes}
use Rattle.std.proofs.lemmas.Bool.{cases_Bool, ne_eqb, eqb-false}
use Rattle.react_compiler_hir.specs.declared.rows.ScopeRow.{ScopeRow}
use Rattle.rules.specs.Rows.{scope_range}
use Rattle.disjoint_set.specs.Classes.{In}
use Rattle.agenda.specs.declared.scopes.ScopeEntry.{ScopeEntry}
use Rattle.agenda.specs.Order.{before_all, insert, insert_all, Ordered}
use Rattle.merge_rules.specs.Named.{is_empty, entries_from}
use Rattle.merge_rules.specs.Links.{Any}
use Rattle.merge_laws.proofs.Lists.{Ranked}

-- ---- lists of entries

module _ (P : ScopeEntry → Type 0) (lt : ScopeEntry → ScopeEntry → Bool) where
  any_insert : (x : ScopeEntry) (ys : List ScopeEntry) → P x ⊎ Any P ys → Any P (insert lt x ys)
  any_insert x [] h = elim h [ inl here ↦ inl here | inr none ↦ absurd none ]
  any_insert x (y ∷ ys) h = elim (cases_Bool (before_all lt x (y ∷ ys))) [
    | inl t ↦ rw t h
    | inr t ↦ rw t (elim h [
      | inl here ↦ inr (any_insert x ys (inl here))
      | inr there ↦ elim there [ inl first ↦ inl first | inr later ↦ inr (any_insert x ys (inr later)) ]
    ])
  ]

  pub any_insert_all : (xs ys : List ScopeEntry) → Any P xs ⊎ Any P ys → Any P (insert_all lt xs ys)
  any_insert_all [] ys h = elim h [ inl none ↦ absurd none | inr there ↦ there ]
  any_insert_all (x ∷ xs) ys h = elim h [
    | inl here ↦ elim here [
      | inl first ↦ any_insert_all xs (insert lt x ys) (inr (any_insert x ys (inl first)))
      | inr later ↦ any_insert_all xs (insert lt x ys) (inl later)
    ]
    | inr there ↦ any_insert_all xs (insert lt x ys) (inr (any_insert x ys (inr there)))
  ]

pub any_weaker : {X : Type 0} (P Q : X → Type 0) → ((x : X) → P x → Q x) → (xs : List X) → Any P xs → Any Q xs
any_weaker P Q weaker [] h = h
any_weaker P Q weaker (x ∷ xs) h = elim h [ inl here ↦ inl (weaker x here) | inr later ↦ inr (any_weaker P Q weaker xs later) ]

-- one that passes the test is among the scopes of those kept
pub kept_scope : (test : ScopeEntry → Bool) (p : ℕ) (es : List ScopeEntry) → Any (λ e. (e.scope ≡ p) × (test e ≡ true)) es → In p (map (λ e. e.scope) (filter test es))
kept_scope test p [] h = absurd h
kept_scope test p (e ∷ es) h = elim h [
  | inl here ↦ rw here.1 (inl (sym here.0))
  | inr later ↦ elim (cases_Bool (test e)) [
    | inl t ↦ rw t (inr (kept_scope test p es later))
    | inr t ↦ rw t (kept_scope test p es later)
  ]
]

ordered_kept : (lt : ScopeEntry → ScopeEntry → Bool) (test : ScopeEntry → Bool) (es : List ScopeEntry) → Ordered lt es → Ordered lt (filter test es)
ordered_kept lt test [] h = tt
ordered_kept lt test (e ∷ es) h = elim (cases_Bool (test e)) [
  | inl t ↦ rw t (all_kept_by test (λ y. lt y e ≡ false) es h.0, ordered_kept lt test es h.1)
  | inr t ↦ rw t (ordered_kept lt test es h.1)
]

-- a relation that the order of two entries gives of their scopes
ordered_ranked : (lt : ScopeEntry → ScopeEntry → Bool) (P : ScopeEntry → Type 0) (R : ℕ → ℕ → Type 0) → ((x y : ScopeEntry) → P x → P y → lt y x ≡ false → R x.scope y.scope)
    → (es : List ScopeEntry) → AllByRecursion P es → Ordered lt es → Ranked R (map (λ e. e.scope) es)
ordered_ranked lt P R gives [] a h = tt
ordered_ranked lt P R gives (e ∷ es) a h = (over es a.1 h.0, ordered_ranked lt P R gives es a.1 h.1)
  where
    over : (ys : List ScopeEntry) → AllByRecursion P ys → AllByRecursion (λ y. lt y e ≡ false) ys → AllByRecursion (R e.scope) (map (λ y. y.scope) ys)
    over [] b g = tt
    over (y ∷ ys) b g = (gives e y a.0 b.0 g.0, over ys b.1 g.1)

all_both : {X : Type 0} (P Q : X → Type 0) (xs : List X) → AllByRecursion P xs → AllByRecursion Q xs → AllByRecursion (λ x. P x × Q x) xs
all_both P Q [] a b = tt
all_both P Q (x ∷ xs) a b = ((a.0, b.0), all_both P Q xs a.1 b.1)

-- what holds of the entries kept by a test, with the test
pub kept_all : (P : ScopeEntry → Type 0) (test : ScopeEntry → Bool) (es : List ScopeEntry) → AllByRecursion P es → AllByRecursion (λ e. P e × (test e ≡ true)) (filter test es)
kept_all P test es a = all_both P (λ e. test e ≡ true) (filter test es) (all_kept_by test P es a) (kept_by_passes test es)

pub kept_ranked : (lt : ScopeEntry → ScopeEntry → Bool) (test : ScopeEntry → Bool) (P : ScopeEntry → Type 0) (R : ℕ → ℕ → Type 0)
    → ((x y : ScopeEntry) → P x × (test x ≡ true) → P y × (test y ≡ true) → lt y x ≡ false → R x.scope y.scope)
    → (es : List ScopeEntry) → AllByRecursion P es → Ordered lt es → Ranked R (map (λ e. e.scope) (filter test es))
kept_ranked lt test P R gives es a h = ordered_ranked lt (λ e. P e × (test e ≡ true)) R gives (filter test es) (kept_all P test es a) (ordered_kept lt test es h)

-- ---- the entries of scopes

-- an entry of one of the scopes that is not empty, with its start and end
pub record Of (ss : List ScopeRow) (ps : List ℕ) (e : ScopeEntry) : Type 0 where
  pub among : In e.scope ps
  pub filled : (scope_range ss e.scope).start ≡ (scope_range ss e.scope).end → ⊥
  pub starts : e.start ≡ (scope_range ss e.scope).start
  pub ends : e.end ≡ (scope_range ss e.scope).end

pub all_entries : (ss : List ScopeRow) (all ps : List ℕ) (k : ℕ) → ((p : ℕ) → In p ps → In p all) → AllByRecursion (Of ss all) (entries_from ss k ps)
all_entries ss all [] k within = tt
all_entries ss all (p ∷ ps) k within = elim (cases_Bool (is_empty (scope_range ss p))) [
  | inl t ↦ rw t (all_entries ss all ps k (λ q h. within q (inr h)))
  | inr t ↦ rw t (
    record { among = within p (inl refl); filled = eqb-false (scope_range ss p).start (scope_range ss p).end t; starts = refl; ends = refl },
    all_entries ss all ps (k + 1) (λ q h. within q (inr h)),
  )
]

-- the entry of a scope
pub record For (ss : List ScopeRow) (p : ℕ) (e : ScopeEntry) : Type 0 where
  pub scope : e.scope ≡ p
  pub starts : e.start ≡ (scope_range ss p).start
  pub ends : e.end ≡ (scope_range ss p).end

pub any_entry : (ss : List ScopeRow) (p : ℕ) (ps : List ℕ) (k : ℕ) → In p ps → ((scope_range ss p).start ≡ (scope_range ss p).end → ⊥) → Any (For ss p) (entries_from ss k ps)
any_entry ss p [] k h filled = absurd h
any_entry ss p (q ∷ ps) k h filled = elim h [
  | inl e ↦ (
      let open_range : is_empty (scope_range ss q) ≡ false = ne_eqb (scope_range ss q).start (scope_range ss q).end (λ z. filled (rw e z)) in
      rw open_range (inl (record { scope = sym e; starts = rw e refl; ends = rw e refl })))
  | inr m ↦ elim (cases_Bool (is_empty (scope_range ss q))) [
    | inl t ↦ rw t (any_entry ss p ps k m filled)
    | inr t ↦ rw t (inr (any_entry ss p ps (k + 1) m filled))
  ]
]
