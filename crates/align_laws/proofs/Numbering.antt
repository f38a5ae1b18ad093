-- The numbers of a block in a function whose numbers go on one by one.
use Rattle.std.proofs.Common.{◌≡◌, ℕ, zero, suc, ◌+◌, ◌<◌, ◌≤◌, List, [], ◌∷◌, ◌++◌, map, length, Some, refl, ap, subst, suc-add, arith}
use Rattle.std.specs.List.{range_with_len, slice_get, AllByRecursion}
use Rattle.std.proofs.ByRecursion.{All-weaker}
use Rattle.std.proofs.lemmas.List.{length-append, length-map}
use Rattle.react_compiler_hir.specs.declared.rows.BlockRow.{BlockRow}
use Rattle.react_compiler_hir.specs.declared.rows.InstructionRow.{InstructionRow}
use Rattle.visitors.specs.Mentions.{instructions_of, block_numbers, block_first_number}
use Rattle.function_laws.specs.Sound.{Numbered}

module _ (is : List InstructionRow) where
  -- how many numbers stand before the block at position k
  abbrev pub before : List BlockRow → ℕ → ℕ
  before bs zero = 0
  before [] (suc k) = 0
  before (b ∷ bs) (suc k) = length (block_numbers is b) + before bs k

  before_next : (bs : List BlockRow) (k : ℕ) (b : BlockRow) → slice_get bs k ≡ Some b → before bs (k + 1) ≡ before bs k + length (block_numbers is b)
  before_next [] k b e =
      let no : ◌≡◌ {A = ℕ} 0 1 = cc in
      absurd (omega arith)
  before_next (c ∷ bs) zero b e =
      let same : c ≡ b = cc in
      let long : length (block_numbers is c) ≡ length (block_numbers is b) = ap (λ d. length (block_numbers is d)) same in
      omega arith
  before_next (c ∷ bs) (suc k) b e =
      let more = before_next bs k b e in
      rw suc-add (omega arith)

  numbered_at : (m n : ℕ) (bs : List BlockRow) (k : ℕ) (b : BlockRow) → Numbered is m bs n → slice_get bs k ≡ Some b → block_numbers is b ≡ range_with_len (m + before bs k + 1) (length (block_numbers is b))
  numbered_at m n [] k b h e =
      let no : ◌≡◌ {A = ℕ} 0 1 = cc in
      absurd (omega arith)
  numbered_at m n (c ∷ bs) zero b h e =
      let same : c ≡ b = cc in
      let start : m + 1 ≡ m + 0 + 1 = omega arith in
      subst (λ d. block_numbers is d ≡ range_with_len (m + 0 + 1) (length (block_numbers is d))) same
      (subst (λ a. block_numbers is c ≡ range_with_len a (length (block_numbers is c))) start h.0)
  numbered_at m n (c ∷ bs) (suc k) b h e =
      let more = numbered_at (m + length (block_numbers is c)) n bs k b h.1 e in
      let start : m + length (block_numbers is c) + before bs k + 1 ≡ m + (length (block_numbers is c) + before bs k) + 1 = omega arith in
      subst (λ a. block_numbers is b ≡ range_with_len a (length (block_numbers is b))) start more

-- numbers that go on from a
pub record RunFrom (a : ℕ) (rs : List InstructionRow) (terminal : ℕ) : Type 0 where
  pub least : AllByRecursion (λ r. a ≤ r.number) rs
  pub last : terminal ≡ a + length rs

run_from : (a : ℕ) (rs : List InstructionRow) (t : ℕ) → map (λ r. r.number) rs ++ t ∷ [] ≡ range_with_len a (length (map (λ r. r.number) rs ++ t ∷ [])) → RunFrom a rs t
run_from a [] t e =
    let here : t ≡ a = cc in
    record { least = tt; last = omega arith }
run_from a (r ∷ rs) t e =
    let here : r.number ≡ a = cc in
    let rest : map (λ x. x.number) rs ++ t ∷ [] ≡ range_with_len (a + 1) (length (map (λ x. x.number) rs ++ t ∷ [])) = cc in
    let more = run_from (a + 1) rs t rest in
    record {
      least = (omega arith, All-weaker (λ x. a + 1 ≤ x.number) (λ x. a ≤ x.number) (λ x h. omega arith) rs more.least);
      last = omega (arith, more.last);
    }

first_here : (is : List InstructionRow) (b : BlockRow) (a : ℕ) → block_numbers is b ≡ range_with_len a (length (block_numbers is b)) → block_first_number is b ≡ a
first_here is b a e = (elim (instructions_of is b) as (λ rs. instructions_of is b ≡ rs → block_first_number is b ≡ a) [
  | [] ↦ λ h. let from : b.terminal_number ∷ [] ≡ range_with_len a 1 = rw h at e in rw h (cc)
  | r ∷ rs ↦ λ h. let from = rw h at e in let here : r.number ≡ a = cc in rw h here
]) refl

-- the block at position k has the numbers after those before it
pub record BlockNumbers (is : List InstructionRow) (bs : List BlockRow) (k : ℕ) (b : BlockRow) : Type 0 where
  pub first : block_first_number is b ≡ before is bs k + 1
  pub least : AllByRecursion (λ r. before is bs k + 1 ≤ r.number) (instructions_of is b)
  pub last : b.terminal_number ≡ before is bs (k + 1)
  pub next : before is bs k < before is bs (k + 1)

pub block_numbers_at : (is : List InstructionRow) (n : ℕ) (bs : List BlockRow) (k : ℕ) (b : BlockRow) → Numbered is 0 bs n → slice_get bs k ≡ Some b → BlockNumbers is bs k b
block_numbers_at is n bs k b h e =
    let start : 0 + before is bs k + 1 ≡ before is bs k + 1 = omega arith in
    let all : block_numbers is b ≡ range_with_len (before is bs k + 1) (length (block_numbers is b)) = subst (λ a. block_numbers is b ≡ range_with_len a (length (block_numbers is b))) start (numbered_at is 0 n bs k b h e) in
    let run = run_from (before is bs k + 1) (instructions_of is b) b.terminal_number all in
    let next = before_next is bs k b e in
    let long = length-append (map (λ r. r.number) (instructions_of is b)) (b.terminal_number ∷ []) in
    let many = length-map (instructions_of is b) (λ r. r.number) in
    record {
      first = first_here is b (before is bs k + 1) all;
      least = run.least;
      last = omega (arith, run.last, next, long, many);
      next = omega (arith, next, long, many);
    }

-- a later block has more numbers before it
pub before_rises : (is : List InstructionRow) (bs : List BlockRow) (d k j : ℕ) → k + d ≡ j → before is bs k ≤ before is bs j
before_rises is bs d zero j e = omega arith
before_rises is [] d (suc k) zero e = absurd (omega arith)
before_rises is [] d (suc k) (suc j) e = omega arith
before_rises is (b ∷ bs) d (suc k) zero e = absurd (omega arith)
before_rises is (b ∷ bs) d (suc k) (suc j) e =
    let more = before_rises is bs d k j (omega arith) in
    omega arith
