-- Climbs: one end, one length, and none as long as the list.
use Rattle.std.proofs.Common.{◌≡◌, ℕ, zero, suc, ◌+◌, ◌-◌, ◌<◌, ◌≤◌, cond, eqb, List, [], ◌∷◌, length, get_or, sym, refl, ap, ◌∙◌, subst, inl, inr, suc-add, zero-add, arith}
use Rattle.std.proofs.lemmas.List.FromFn.{length-range_with_len, get_or-range_with_len}
use Rattle.std.proofs.lemmas.List.{ext_get_or}
use Rattle.std.proofs.lemmas.Bool.{cases_eq, eq-eqb, ne_eqb}
use Rattle.disjoint_set.specs.Forest.{up, Climb, Forest, root, apart, below, passed, height}
use Rattle.disjoint_set.specs.Once.{climb_length}
use Rattle.disjoint_set.specs.Laws.{ClimbEndsAtRoot}

-- n + 1 numbers that differ do not fit below n
pigeon : (m n : ℕ) (f : ℕ → ℕ) → ((k : ℕ) → k ≤ n → f k < m) → ((j k : ℕ) → j ≤ n → k ≤ n → f j ≡ f k → j ≡ k) → n < m
pigeon zero n f low differ = absurd (omega (arith, low 0 (omega arith)))
pigeon (suc m) zero f low differ = omega arith
pigeon (suc m) (suc n) f low differ =
    let last : f (suc n) < suc m = low (suc n) (omega arith) in
    let g : ℕ → ℕ = λ k. cond (eqb (f k) m) (f (suc n)) (f k) in
    let lower : (k : ℕ) → k ≤ n → g k < m = λ k h. elim (cases_eq (f k) m) [
      | inl e ↦ rw (eq-eqb (f k) m e) (let ne : f (suc n) ≡ m → ⊥ = λ q. let z : k ≡ suc n = differ k (suc n) (omega arith) (omega arith) (e ∙ sym q) in omega arith in omega arith)
      | inr ne ↦ rw (ne_eqb (f k) m ne) (omega (arith, low k (omega arith)))
    ] in
    let still : (j k : ℕ) → j ≤ n → k ≤ n → g j ≡ g k → j ≡ k = λ j k hj hk e. elim (cases_eq (f j) m) [
      | inl ej ↦ elim (cases_eq (f k) m) [ inl ek ↦ differ j k (omega arith) (omega arith) (ej ∙ sym ek) | inr nk ↦ (let w : suc n ≡ k = differ (suc n) k (omega arith) (omega arith) (rw (eq-eqb (f j) m ej, ne_eqb (f k) m nk) at e) in omega arith) ]
      | inr nj ↦ elim (cases_eq (f k) m) [ inl ek ↦ (let w : j ≡ suc n = differ j (suc n) (omega arith) (omega arith) (rw (ne_eqb (f j) m nj, eq-eqb (f k) m ek) at e) in omega arith) | inr nk ↦ differ j k (omega arith) (omega arith) (rw (ne_eqb (f j) m nj, ne_eqb (f k) m nk) at e) ]
    ] in
    omega (arith, pigeon m n g lower still)

module _ (ps : List ℕ) where
  pub climb_within : (n i r : ℕ) → Climb ps n i r → i < length ps
  climb_within zero i r a = a.0
  climb_within (suc n) i r a = a.0

  -- what is k parents up from i has k parents less to climb
  climb_up : (k n i r : ℕ) → Climb ps (k + n) i r → Climb ps n (up ps k i) r
  climb_up zero n i r a = rw zero-add at a
  climb_up (suc k) n i r a = climb_up k n (get_or ps i 0) r (rw suc-add at a).2

  -- a climb ends at a root
  pub climb_end : (n i r : ℕ) → Climb ps n i r → (get_or ps r 0 ≡ r) × (r < length ps)
  climb_end zero i r a = rw a.2 (a.1, a.0)
  climb_end (suc n) i r a = climb_end n (get_or ps i 0) r a.2

  up_still : (k r : ℕ) → get_or ps r 0 ≡ r → up ps k r ≡ r
  up_still zero r e = refl
  up_still (suc k) r e = rw e (up_still k r e)

  up_far : (n k i r : ℕ) → Climb ps n i r → n ≤ k → up ps k i ≡ r
  up_far zero k i r a h = rw a.2 (up_still k i a.1)
  up_far (suc n) zero i r a h = absurd (omega arith)
  up_far (suc n) (suc k) i r a h = up_far n k (get_or ps i 0) r a.2 (omega arith)

  -- no climb is as long as the list
  climb_short : (n i r : ℕ) → Climb ps n i r → n < length ps
  climb_short n i r a =
      let at : (k : ℕ) → k ≤ n → Climb ps (n - k) (up ps k i) r = λ k h. climb_up k (n - k) i r (let e : k + (n - k) ≡ n = omega arith in rw e a) in
      pigeon (length ps) n (λ k. up ps k i) (λ k h. climb_within (n - k) (up ps k i) r (at k h))
      (λ j k hj hk e. omega (arith, climb_length ps (n - j) (n - k) (up ps k i) r r (rw e at (at j hj)) (at k hk)))

  pub root_is : (n i r : ℕ) → Climb ps n i r → root ps i ≡ r
  root_is n i r c = up_far n (length ps) i r c (omega (arith, climb_short n i r c))

  below_own : (k i : ℕ) → get_or ps i 0 ≡ i → below ps k i ≡ []
  below_own zero i e = refl
  below_own (suc k) i e = rw (eq-eqb (get_or ps i 0) i e)

  below_enough : (n k m i r : ℕ) → Climb ps n i r → n ≤ k → n ≤ m → below ps k i ≡ below ps m i
  below_enough zero k m i r a hk hm = below_own k i a.1 ∙ sym (below_own m i a.1)
  below_enough (suc n) zero m i r a hk hm = absurd (omega arith)
  below_enough (suc n) (suc k) zero i r a hk hm = absurd (omega arith)
  below_enough (suc n) (suc k) (suc m) i r a hk hm = rw (ne_eqb (get_or ps i 0) i a.1) (ap (λ xs. i ∷ xs) (below_enough n k m (get_or ps i 0) r a.2 (omega arith) (omega arith)))

  below_more : (n k i r : ℕ) → Climb ps (suc n) i r → n < k → below ps k i ≡ i ∷ below ps k (get_or ps i 0)
  below_more n zero i r a h = absurd (omega arith)
  below_more n (suc k) i r a h = rw (ne_eqb (get_or ps i 0) i a.1) (ap (λ xs. i ∷ xs) (below_enough n k (suc k) (get_or ps i 0) r a.2 (omega arith) (omega arith)))

  pub passed_own : (i : ℕ) → get_or ps i 0 ≡ i → passed ps i ≡ []
  passed_own i e = below_own (length ps) i e

  pub passed_more : (n i r : ℕ) → Climb ps (suc n) i r → passed ps i ≡ i ∷ passed ps (get_or ps i 0)
  passed_more n i r c = below_more n (length ps) i r c (omega (arith, climb_short (suc n) i r c))

  climb_height : (n i r : ℕ) → Climb ps n i r → height ps i ≡ n
  climb_height zero i r c = ap length (passed_own i c.1)
  climb_height (suc n) i r c = ap length (passed_more n i r c) ∙ ap suc (climb_height n (get_or ps i 0) r c.2)

module _ (ps : List ℕ) (f : Forest ps) where
  pub climb : (i : ℕ) → i < length ps → (n : ℕ) × Climb ps n i (root ps i)
  climb i h = let c = f i h in (c.0, subst (Climb ps c.0 i) (sym (root_is ps c.0 i c.1.0 c.1.1)) c.1.1)

  pub root_top : (i : ℕ) → i < length ps → (get_or ps (root ps i) 0 ≡ root ps i) × (root ps i < length ps)
  root_top i h = let c = climb i h in climb_end ps c.0 i (root ps i) c.1

  pub root_own : (i : ℕ) → i < length ps → get_or ps i 0 ≡ i → root ps i ≡ i
  root_own i h e = root_is ps 0 i i (h, e, refl)

pub climb_ends : ClimbEndsAtRoot
climb_ends ps f i h =
    let c = climb ps f i h in
    let e = climb_height ps c.0 i (root ps i) c.1 in
    (rw e c.1, omega (arith, e, climb_short ps c.0 i (root ps i) c.1))

-- items that are apart have no climb
pub apart_own : (n i : ℕ) → i < n → Climb (apart n) 0 i i
apart_own n i h = (rw (length-range_with_len 0 n) h, get_or-range_with_len 0 n i 0 h ∙ zero-add i, refl)

pub apart_forest : (n : ℕ) → Forest (apart n)
apart_forest n i h = (0, (i, apart_own n i (rw (length-range_with_len 0 n) at h)))

-- words that are each their own place
pub apart_is : (ps : List ℕ) (n : ℕ) → length ps ≡ n → ((k : ℕ) → k < n → get_or ps k 0 ≡ k) → ps ≡ apart n
apart_is ps n long own = ext_get_or 0 ps (apart n) (long ∙ sym (length-range_with_len 0 n)) (λ i h. own i (omega (arith, long)) ∙ sym (get_or-range_with_len 0 n i 0 (omega (arith, long)) ∙ zero-add i))
