-- What a union leaves: each class that the items meet goes to the root of the first.
use Rattle.std.proofs.Common.{◌≡◌, ℕ, ◌+◌, ◌<◌, ◌≤◌, Bool, cond, ◌||◌, eqb, ◌≢◌, List, [], ◌∷◌, map, length, get_or, drop, set, sym, refl, ap, ◌∙◌, inl, inr, arith}
use Rattle.std.specs.List.{AllByRecursion}
use Rattle.std.proofs.ByRecursion.{All-weaker}
use Rattle.std.proofs.lemmas.List.{set-get_or, at_drop_more, at_drop_all}
use Rattle.std.proofs.lemmas.Bool.{cases_eq, eq-eqb, ne_eqb}
use Rattle.std.proofs.lemmas.Bool.Decides.{nat_tests}
use Rattle.disjoint_set.specs.Forest.{Forest, root, compressed}
use Rattle.disjoint_set.specs.Joins.{attached, attached_all, joined}
use Rattle.disjoint_set.specs.Classes.{among, sent}
use Rattle.disjoint_set.proofs.Climbs.{root_top, root_own}
use Rattle.disjoint_set.proofs.Grafts.{Rooted, linked_rooted}
use Rattle.disjoint_set.proofs.Finds.{compressed_rooted}

-- functions that agree below n map items below n alike
pub map_agree : (c d : ℕ → ℕ) (n : ℕ) → ((i : ℕ) → i < n → c i ≡ d i) → (xs : List ℕ) → AllByRecursion (λ x. x < n) xs → map c xs ≡ map d xs
map_agree c d n same [] w = refl
map_agree c d n same (x ∷ xs) w = let hd = same x w.0 in let tl = map_agree c d n same xs w.1 in cc

-- q's class goes to t: an item of another class s meets the same items as before
among_moved : (c : ℕ → ℕ) (q t s : ℕ) → s ≢ q → s ≢ t → (xs : List ℕ) → among s (map (λ y. cond (eqb (c y) q) t (c y)) xs) ≡ among s (map c xs)
among_moved c q t s nq nt [] = refl
among_moved c q t s nq nt (x ∷ xs) = elim (cases_eq (c x) q) [
  | inl e ↦ (let ne : s ≢ c x = λ z. nq (z ∙ e) in rw (eq-eqb (c x) q e, ne_eqb s t nt, ne_eqb s (c x) ne) (among_moved c q t s nq nt xs))
  | inr n ↦ rw (ne_eqb (c x) q n) (ap (λ b. eqb s (c x) || b) (among_moved c q t s nq nt xs))
]

cond_same : (b : Bool) (t : ℕ) → cond b t t ≡ t
cond_same b t = grind arith

-- first q's class goes to t, then the classes of xs do
sent_more : (c : ℕ → ℕ) (q t : ℕ) (xs : List ℕ) (j : ℕ) → let d : ℕ → ℕ = λ y. cond (eqb (c y) q) t (c y) in cond (among (d j) (map d xs)) t (d j) ≡ cond (eqb (c j) q || among (c j) (map c xs)) t (c j)
sent_more c q t xs j = elim (cases_eq (c j) q) [
  | inl e ↦ rw (eq-eqb (c j) q e) (cond_same (among t (map (λ y. cond (eqb (c y) q) t (c y)) xs)) t)
  | inr n ↦ rw (ne_eqb (c j) q n) (elim (cases_eq (c j) t) [
    | inl e ↦ rw e (cond_same (among t (map (λ y. cond (eqb (c y) q) t (c y)) xs)) t ∙ sym (cond_same (among t (map c xs)) t))
    | inr m ↦ ap (λ b. cond b t (c j)) (among_moved c q t (c j) n m xs)
  ])
]

module _ (ps : List ℕ) (f : Forest ps) (t : ℕ) (ht : t < length ps) (own : root ps t ≡ t) where
  -- t is a root after a find too
  found_top : (x : ℕ) → x < length ps → (get_or (compressed ps x) t 0 ≡ t) × (t < length (compressed ps x))
  found_top x hx =
      let q = compressed_rooted ps f x hx in
      let h : t < length (compressed ps x) = omega (arith, q.long) in
      let e : root (compressed ps x) t ≡ t = q.roots t ht ∙ own in
      rw e at (root_top (compressed ps x) q.forest t h)

  -- x's own root after its find
  found_root : (x : ℕ) → x < length ps → (get_or (compressed ps x) (root ps x) 0 ≡ root ps x) × (root ps x < length (compressed ps x))
  found_root x hx =
      let q = compressed_rooted ps f x hx in
      let e : root (compressed ps x) x ≡ root ps x = q.roots x hx in
      rw e at (root_top (compressed ps x) q.forest x (omega (arith, q.long)))

  -- where x's root is t already, nothing is hung
  pub attached_left : (x : ℕ) → x < length ps → root ps x ≡ t → attached ps t x ≡ compressed ps x
  attached_left x hx e = ap (λ r. set (compressed ps x) r t) e ∙ ap (set (compressed ps x) t) (sym (found_top x hx).0) ∙ set-get_or (compressed ps x) t 0

  pub attached_rooted : (x : ℕ) → x < length ps → Rooted ps (attached ps t x) (λ j. cond (eqb (root ps j) (root ps x)) t (root ps j))
  attached_rooted x hx =
      let q = compressed_rooted ps f x hx in
      elim (cases_eq (root ps x) t) [
        | inl e ↦ rw (attached_left x hx e) (record { forest = q.forest; long = q.long; roots = λ j hj. q.roots j hj ∙ moved_home (root ps j) (root ps x) t e })
        | inr ne ↦ (
            let top = found_top x hx in
            let r = found_root x hx in
            let apart : t ≢ root ps x = λ z. ne (sym z) in
            let l = linked_rooted (compressed ps x) q.forest (root ps x) t r.1 top.1 r.0 top.0 apart in
            record { forest = l.forest; long = l.long ∙ q.long; roots = λ j hj. l.roots j (omega (arith, q.long)) ∙ ap (λ z. cond (eqb z (root ps x)) t z) (q.roots j hj) })
      ]
    where
      moved_home : (s q u : ℕ) → q ≡ u → s ≡ cond (eqb s q) u s
      moved_home s q u e = grind (arith, nat_tests)

  pub attached_own : (x : ℕ) → x < length ps → root (attached ps t x) t ≡ t
  attached_own x hx = (attached_rooted x hx).roots t ht ∙ rw own (cond_same (eqb t (root ps x)) t)

within_still : (ps qs xs : List ℕ) → length qs ≡ length ps → AllByRecursion (λ x. x < length ps) xs → AllByRecursion (λ x. x < length qs) xs
within_still ps qs xs e w = All-weaker (λ x. x < length ps) (λ x. x < length qs) (λ x h. omega (arith, e)) xs w

-- where each item goes when the classes of the items go to the root t
abbrev sent_to : (ℕ → ℕ) → ℕ → List ℕ → ℕ → ℕ
sent_to class t xs j = cond (among (class j) (map class xs)) t (class j)

sent_to_agree : (c d : ℕ → ℕ) (n t : ℕ) → ((i : ℕ) → i < n → c i ≡ d i) → (xs : List ℕ) → AllByRecursion (λ x. x < n) xs → (j : ℕ) → j < n → sent_to c t xs j ≡ sent_to d t xs j
sent_to_agree c d n t same xs w j h = rw (same j h, map_agree c d n same xs w)

attached_all_rooted : (ps : List ℕ) (t : ℕ) (xs : List ℕ) → Forest ps → t < length ps → root ps t ≡ t → AllByRecursion (λ x. x < length ps) xs → Rooted ps (attached_all ps t xs) (sent_to (root ps) t xs)
attached_all_rooted ps t [] f ht own w = record { forest = f; long = refl; roots = λ j h. refl }
attached_all_rooted ps t (x ∷ xs) f ht own w =
    let a = attached_rooted ps f t ht own x w.0 in
    let qs = attached ps t x in
    let r = attached_all_rooted qs t xs a.forest (omega (arith, a.long)) (attached_own ps f t ht own x w.0) (within_still ps qs xs a.long w.1) in
    record {
      forest = r.forest;
      long = r.long ∙ a.long;
      roots = λ j h. r.roots j (omega (arith, a.long)) ∙ sent_to_agree (root qs) (λ y. cond (eqb (root ps y) (root ps x)) t (root ps y)) (length ps) t a.roots xs w.1 j h ∙ sent_more (root ps) (root ps x) t xs j;
    }

pub joined_rooted : (ps xs : List ℕ) → Forest ps → AllByRecursion (λ x. x < length ps) xs → Rooted ps (joined ps xs) (sent (root ps) xs)
joined_rooted ps [] f w = record { forest = f; long = refl; roots = λ j h. refl }
joined_rooted ps (x ∷ xs) f w =
    let q = compressed_rooted ps f x w.0 in
    let qs = compressed ps x in
    let t = root ps x in
    let top = root_top ps f x w.0 in
    let own : root qs t ≡ t = q.roots t top.1 ∙ root_own ps f t top.1 top.0 in
    let r = attached_all_rooted qs t xs q.forest (omega (arith, q.long, top.1)) own (within_still ps qs xs q.long w.1) in
    record {
      forest = r.forest;
      long = r.long ∙ q.long;
      roots = λ j h. r.roots j (omega (arith, q.long)) ∙ sent_to_agree (root qs) (root ps) (length ps) t q.roots xs w.1 j h ∙ first_too (root ps j) t (among (root ps j) (map (root ps) xs));
    }
  where
    first_too : (s t : ℕ) (b : Bool) → cond b t s ≡ cond (eqb s t || b) t s
    first_too s t b = grind (arith, nat_tests)

-- k items of xs are attached to the root t: es were the words before, and ps are the words now
pub record Attaching (es xs : List ℕ) (k t : ℕ) (ps : List ℕ) : Type 0 where
  pub words : attached_all ps t (drop k xs) ≡ attached_all es t xs
  pub long : length ps ≡ length es
  pub within : t < length ps
  pub own : root ps t ≡ t

-- qs are the words after a find of x in ps
pub attaching_none : (ps qs xs : List ℕ) (x t : ℕ) → Forest ps → x < length ps → t ≡ root ps x → qs ≡ compressed ps x → Attaching qs xs 0 t qs
attaching_none ps qs xs x t f h is left =
    let top = root_top ps f x h in
    let q = compressed_rooted ps f x h in
    rw (left, is) (record { words = refl; long = refl; within = omega (arith, q.long, top.1); own = q.roots (root ps x) top.1 ∙ root_own ps f (root ps x) top.1 top.0 })

module _ (es xs : List ℕ) (k t : ℕ) (ps : List ℕ) (inv : Attaching es xs k t ps) where
  pub attaching_more : (qs : List ℕ) → k < length xs → qs ≡ attached ps t (get_or xs k 0) → root qs t ≡ t → length qs ≡ length ps → Attaching es xs (k + 1) t qs
  attaching_more qs h e own len =
      let step : attached_all ps t (drop k xs) ≡ attached_all (attached ps t (get_or xs k 0)) t (drop (k + 1) xs) = at_drop_more (attached_all ps t) xs k 0 h in
      record { words = rw e (sym step ∙ inv.words); long = len ∙ inv.long; within = omega (arith, inv.within, len); own = own }

  pub attaching_all : length xs ≤ k → ps ≡ attached_all es t xs
  attaching_all h = sym (at_drop_all (attached_all ps t) xs k h) ∙ inv.words
