-- Numbers that go on one by one: those of a walk that passes the tests, and those of the whole function.
use Rattle.std.proofs.Common.{◌≡◌, ℕ, zero, suc, ◌+◌, List, [], ◌∷◌, ◌++◌, map, length, Ok, refl, ap, add-zero, suc-add, zero-add, arith, length-append}
use Rattle.std.specs.List.{range_with_len}
use Rattle.std.proofs.lemmas.List.{length-map, length_push}
use Rattle.react_compiler_hir.specs.declared.rows.BlockRow.{BlockRow}
use Rattle.react_compiler_hir.specs.declared.rows.InstructionRow.{InstructionRow}
use Rattle.react_compiler_hir.specs.Function.{HirFunction}
use Rattle.visitors.specs.Mentions.{instructions_of, block_numbers}
use Rattle.function_tests.specs.Steps.{walked}
use Rattle.function_tests.specs.Walks.{instruction_tested, block_walked}
use Rattle.function_laws.specs.Sound.{Numbered, numbers_of}
use Rattle.function_laws.proofs.Passed.{then_passed}
use Rattle.function_laws.proofs.Walked.{instruction_passed, block_passed}

pub counting_append : (a m n : ℕ) → range_with_len a (m + n) ≡ range_with_len a m ++ range_with_len (a + m) n
counting_append a zero n = simp (zero-add, add-zero)
counting_append a (suc m) n =
    let e : a + 1 + m ≡ a + suc m = omega arith in
    rw (suc-add, ← e) (ap (λ v. a ∷ v) (counting_append (a + 1) m n))

-- numbers that go on from m, followed by numbers that go on from their last
pub counting_joined : (m : ℕ) (xs ys : List ℕ) → xs ≡ range_with_len (m + 1) (length xs) → ys ≡ range_with_len (m + length xs + 1) (length ys) → xs ++ ys ≡ range_with_len (m + 1) (length (xs ++ ys))
counting_joined m xs ys p q =
    let e : m + 1 + length xs ≡ m + length xs + 1 = omega arith in
    let split = counting_append (m + 1) (length xs) (length ys) in
    let l = length-append xs ys in
    cc

module _ (kind : ℕ) (f : HirFunction) (identifiers : ℕ) where
  run_numbered : (block step m k : ℕ) (rs : List InstructionRow) → walked (instruction_tested kind f identifiers block) step m rs ≡ Ok k → (map (λ r. r.number) rs ≡ range_with_len (m + 1) (length rs)) × (k ≡ m + length rs)
  run_numbered block step m k [] e =
      let h : k ≡ m = cc in
      (refl, omega arith)
  run_numbered block step m k (r ∷ rs) e =
      let w = then_passed (instruction_tested kind f identifiers block step m r) (λ l. walked (instruction_tested kind f identifiers block) (step + 1) l rs) k e in
      let p = instruction_passed kind f identifiers block step m w.0 r w.1 in
      let rest = run_numbered block (step + 1) w.0 k rs w.2 in
      let here = p.next in
      let walks = p.walks in
      let numbers = rest.0 in
      let walk = rest.1 in
      (cc, omega arith)

  block_numbered : (block m k : ℕ) (b : BlockRow) → block_walked kind f identifiers block m b ≡ Ok k → (block_numbers f.instructions b ≡ range_with_len (m + 1) (length (block_numbers f.instructions b))) × (k ≡ m + length (block_numbers f.instructions b))
  block_numbered block m k b e =
      let numbers = map (λ r. r.number) (instructions_of f.instructions b) in
      let w = block_passed kind f identifiers block m k b e in
      let run = run_numbered block 0 m w.0 (instructions_of f.instructions b) w.1.run in
      let l : length numbers ≡ length (instructions_of f.instructions b) = length-map (instructions_of f.instructions b) (λ r. r.number) in
      let front : numbers ≡ range_with_len (m + 1) (length numbers) = rw l run.0 in
      let last : b.terminal_number ≡ m + length numbers + 1 = omega (arith, w.1.next, run.1) in (
        counting_joined m numbers (b.terminal_number ∷ []) front (ap (λ t. t ∷ []) last),
        simp length_push (omega (arith, w.1.walks, run.1)),
      )

  -- a walk that passes goes on number by number
  pub blocks_numbered : (block m n : ℕ) (bs : List BlockRow) → walked (block_walked kind f identifiers) block m bs ≡ Ok n → Numbered f.instructions m bs n
  blocks_numbered block m n [] e = cc
  blocks_numbered block m n (b ∷ bs) e =
      let w = then_passed (block_walked kind f identifiers block m b) (λ l. walked (block_walked kind f identifiers) (block + 1) l bs) n e in
      let p = block_numbered block m w.0 b w.1 in
      (p.0, rw p.1 at (blocks_numbered (block + 1) w.0 n bs w.2))

-- blocks that go on from m to n have the numbers from m + 1 to n
pub numbers_counted : (is : List InstructionRow) (m n : ℕ) (bs : List BlockRow) → Numbered is m bs n → (numbers_of is bs ≡ range_with_len (m + 1) (length (numbers_of is bs))) × (m + length (numbers_of is bs) ≡ n)
numbers_counted is m n [] h = (refl, omega arith)
numbers_counted is m n (b ∷ bs) h =
    let here = block_numbers is b in
    let rest = numbers_counted is (m + length here) n bs h.1 in (
      counting_joined m here (numbers_of is bs) h.0 rest.0,
      omega (arith, length-append here (numbers_of is bs), rest.1),
    )
