-- Two items have one class after some unions exactly when a chain joins them.
use Rattle.std.proofs.Common.{◌≡◌, ℕ, ◌<◌, true, cond, eqb, List, [], ◌∷◌, map, length, sym, refl, ap, ◌∙◌, inl, inr, arith}
use Rattle.std.specs.List.{AllByRecursion}
use Rattle.std.proofs.lemmas.Bool.{cases_Bool, eq-eqb, eqb-true, or_cases, or_left, or_right}
use Rattle.disjoint_set.specs.Forest.{Forest, root}
use Rattle.disjoint_set.specs.Joins.{joined, joined_all}
use Rattle.disjoint_set.specs.Classes.{among, sent, sent_all, In, Together, Step, Chain}
use Rattle.disjoint_set.specs.Classes.Chain.{start, on}
use Rattle.disjoint_set.specs.Laws.{OneRootExactlyByChains}
use Rattle.disjoint_set.proofs.Unions.{map_agree, joined_rooted}

-- ---- from a chain to one class

-- items of one class go to one class
sent_alike : (c : ℕ → ℕ) (xs : List ℕ) (i j : ℕ) → c i ≡ c j → sent c xs i ≡ sent c xs j
sent_alike c [] i j e = e
sent_alike c (x ∷ xs) i j e = ap (λ s. cond (among s (map c (x ∷ xs))) (c x) s) e

sent_all_alike : (c : ℕ → ℕ) (xss : List (List ℕ)) (i j : ℕ) → c i ≡ c j → sent_all c xss i ≡ sent_all c xss j
sent_all_alike c [] i j e = e
sent_all_alike c (xs ∷ xss) i j e = sent_all_alike (sent c xs) xss i j (sent_alike c xs i j e)

in_among : (c : ℕ → ℕ) (i : ℕ) (xs : List ℕ) → In i xs → among (c i) (map c xs) ≡ true
in_among c i [] h = absurd h
in_among c i (x ∷ xs) h = elim h [
  | inl e ↦ or_left (eqb (c i) (c x)) (among (c i) (map c xs)) (eq-eqb (c i) (c x) (ap c e))
  | inr m ↦ or_right (eqb (c i) (c x)) (among (c i) (map c xs)) (in_among c i xs m)
]

-- the items of a list go to one class
sent_together : (c : ℕ → ℕ) (xs : List ℕ) (i j : ℕ) → In i xs → In j xs → sent c xs i ≡ sent c xs j
sent_together c [] i j hi hj = absurd hi
sent_together c (x ∷ xs) i j hi hj = rw (in_among c i (x ∷ xs) hi, in_among c j (x ∷ xs) hj)

together_sent : (c : ℕ → ℕ) (xss : List (List ℕ)) (i j : ℕ) → Together xss i j → sent_all c xss i ≡ sent_all c xss j
together_sent c [] i j h = absurd h
together_sent c (xs ∷ xss) i j h = elim h [
  | inl both ↦ sent_all_alike (sent c xs) xss i j (sent_together c xs i j both.0 both.1)
  | inr later ↦ together_sent (sent c xs) xss i j later
]

pub chain_sent : (c : ℕ → ℕ) (xss : List (List ℕ)) (i j : ℕ) → Chain (Step c xss) i j → sent_all c xss i ≡ sent_all c xss j
chain_sent c xss i j start = refl
chain_sent c xss i k (on {j} h s) = chain_sent c xss i j h ∙ elim s [ inl e ↦ sent_all_alike c xss j k e | inr t ↦ together_sent c xss j k t ]

-- ---- from one class to a chain

chain_append : (R : ℕ → ℕ → Type 0) (i j k : ℕ) → Chain R i j → Chain R j k → Chain R i k
chain_append R i j k a start = a
chain_append R i j k a (on {j = m} b s) = on (chain_append R i j m a b) s

among_in : (c : ℕ → ℕ) (s : ℕ) (xs : List ℕ) → among s (map c xs) ≡ true → (y : ℕ) × (In y xs) × (s ≡ c y)
among_in c s [] h = absurd (let z : ◌≡◌ {A = ℕ} 0 1 = cc in omega arith)
among_in c s (x ∷ xs) h = elim (or_cases (eqb s (c x)) (among s (map c xs)) h) [
  | inl e ↦ (x, inl refl, eqb-true s (c x) e)
  | inr m ↦ (let y = among_in c s xs m in (y.0, inr y.1, y.2))
]

-- an item whose class a union sends to that of m is joined to m both ways
record Sender (c : ℕ → ℕ) (xs : List ℕ) (xss : List (List ℕ)) (k : ℕ) : Type 0 where
  pub m : ℕ
  pub is : sent c xs k ≡ c m
  pub there : Chain (Step c (xs ∷ xss)) k m
  pub back : Chain (Step c (xs ∷ xss)) m k

sender : (c : ℕ → ℕ) (xs : List ℕ) (xss : List (List ℕ)) (k : ℕ) → Sender c xs xss k
sender c [] xss k = record { m = k; is = refl; there = start; back = start }
sender c (x ∷ xs) xss k = elim (cases_Bool (among (c k) (map c (x ∷ xs)))) [
  | inl t ↦ (
      let y = among_in c (c k) (x ∷ xs) t in
      record {
        m = x;
        is = rw t;
        there = on (on start (inl y.2)) (inr (inl (y.1, inl refl)));
        back = on (on start (inr (inl (inl refl, y.1)))) (inl (sym y.2));
      })
  | inr f ↦ record { m = k; is = rw f; there = start; back = start }
]

step_chain : (c : ℕ → ℕ) (xs : List ℕ) (xss : List (List ℕ)) (i j : ℕ) → Step (sent c xs) xss i j → Chain (Step c (xs ∷ xss)) i j
step_chain c xs xss i j (inr t) = on start (inr (inr t))
step_chain c xs xss i j (inl e) =
    let a = sender c xs xss i in
    let b = sender c xs xss j in
    chain_append (Step c (xs ∷ xss)) i b.m j (on a.there (inl (sym a.is ∙ e ∙ b.is))) b.back

chain_earlier : (c : ℕ → ℕ) (xs : List ℕ) (xss : List (List ℕ)) (i j : ℕ) → Chain (Step (sent c xs) xss) i j → Chain (Step c (xs ∷ xss)) i j
chain_earlier c xs xss i j start = start
chain_earlier c xs xss i k (on {j} h s) = chain_append (Step c (xs ∷ xss)) i j k (chain_earlier c xs xss i j h) (step_chain c xs xss j k s)

pub sent_chain : (c : ℕ → ℕ) (xss : List (List ℕ)) (i j : ℕ) → sent_all c xss i ≡ sent_all c xss j → Chain (Step c xss) i j
sent_chain c [] i j e = on start (inl e)
sent_chain c (xs ∷ xss) i j e = chain_earlier c xs xss i j (sent_chain (sent c xs) xss i j e)

-- ---- classes are roots

sent_agree : (c d : ℕ → ℕ) (n : ℕ) → ((i : ℕ) → i < n → c i ≡ d i) → (xs : List ℕ) → AllByRecursion (λ x. x < n) xs → (j : ℕ) → j < n → sent c xs j ≡ sent d xs j
sent_agree c d n same [] w j h = same j h
sent_agree c d n same (x ∷ xs) w j h = let at_j = same j h in let at_x = same x w.0 in let rest = map_agree c d n same xs w.1 in cc

sent_all_agree : (c d : ℕ → ℕ) (n : ℕ) → ((i : ℕ) → i < n → c i ≡ d i) → (xss : List (List ℕ)) → AllByRecursion (AllByRecursion (λ x. x < n)) xss → (j : ℕ) → j < n → sent_all c xss j ≡ sent_all d xss j
sent_all_agree c d n same [] w j h = same j h
sent_all_agree c d n same (xs ∷ xss) w j h = sent_all_agree (sent c xs) (sent d xs) n (sent_agree c d n same xs w.0) xss w.1 j h

pub joined_all_roots : (ps : List ℕ) (xss : List (List ℕ)) → Forest ps → AllByRecursion (AllByRecursion (λ x. x < length ps)) xss → (j : ℕ) → j < length ps → root (joined_all ps xss) j ≡ sent_all (root ps) xss j
joined_all_roots ps [] f w j h = refl
joined_all_roots ps (xs ∷ xss) f w j h =
    let r = joined_rooted ps xs f w.0 in
    let w' : AllByRecursion (AllByRecursion (λ x. x < length (joined ps xs))) xss = rw r.long w.1 in
    joined_all_roots (joined ps xs) xss r.forest w' j (omega (arith, r.long)) ∙ sent_all_agree (root (joined ps xs)) (sent (root ps) xs) (length ps) r.roots xss w.1 j h

pub one_root_by_chains : OneRootExactlyByChains
one_root_by_chains ps xss f w i j hi hj =
    let at_i = joined_all_roots ps xss f w i hi in
    let at_j = joined_all_roots ps xss f w j hj in
    ((λ e. sent_chain (root ps) xss i j (sym at_i ∙ e ∙ at_j)), (λ c. at_i ∙ chain_sent (root ps) xss i j c ∙ sym at_j))
