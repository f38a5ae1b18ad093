-- Where a block's numbers begin and end, and that each block begins after the one before it.
use Rattle.std.proofs.Common.{◌≡◌, ℕ, zero, suc, ◌+◌, List, [], ◌∷◌, ◌++◌, map, length, get_or, Some, refl, ap, ◌∙◌, add-one, arith}
use Rattle.std.specs.List.{range_with_len, slice_get}
use Rattle.std.proofs.lemmas.List.{length_push, get_or_push}
use Rattle.std.proofs.lemmas.List.FromFn.{get_or-range_with_len}
use Rattle.react_compiler_hir.specs.declared.rows.BlockRow.{BlockRow}
use Rattle.react_compiler_hir.specs.declared.rows.InstructionRow.{InstructionRow}
use Rattle.visitors.specs.Mentions.{first_of, instructions_of, block_numbers, block_first_number}
use Rattle.function_laws.specs.Sound.{Numbered}

first_counted : (rs : List InstructionRow) (terminal a n : ℕ) → map (λ r. r.number) rs ++ terminal ∷ [] ≡ range_with_len a (suc n) → first_of rs terminal ≡ a
first_counted [] terminal a n e = cc
first_counted (r ∷ rs) terminal a n e = cc

last_counted : (xs : List ℕ) (x a : ℕ) → xs ++ x ∷ [] ≡ range_with_len a (length (xs ++ x ∷ [])) → x ≡ a + length xs
last_counted xs x a e =
    let l = length_push xs x in
    let at = get_or_push xs x 0 (length xs) refl in
    let count = get_or-range_with_len a (length (xs ++ x ∷ [])) (length xs) 0 (omega arith) in
    let same = ap (λ v. get_or v (length xs) 0) e in
    cc

module _ (is : List InstructionRow) (m : ℕ) (b : BlockRow) (counted : block_numbers is b ≡ range_with_len (m + 1) (length (block_numbers is b))) where
  pub block_begins : block_first_number is b ≡ m + 1
  block_begins =
      let numbers = map (λ r. r.number) (instructions_of is b) in
      let l : length (block_numbers is b) ≡ suc (length numbers) = length_push numbers b.terminal_number ∙ add-one (length numbers) in
      first_counted (instructions_of is b) b.terminal_number (m + 1) (length numbers) (rw l at counted)

  pub block_ends : b.terminal_number ≡ m + length (block_numbers is b)
  block_ends =
      let numbers = map (λ r. r.number) (instructions_of is b) in
      let l = length_push numbers b.terminal_number in
      let last = last_counted numbers b.terminal_number (m + 1) counted in
      omega arith

-- the first of the blocks that go on from m begins at m + 1
pub first_begins : (is : List InstructionRow) (m n : ℕ) (bs : List BlockRow) (b : BlockRow) → Numbered is m bs n → slice_get bs 0 ≡ Some b → block_first_number is b ≡ m + 1
first_begins is m n [] b h e = let z : ◌≡◌ {A = ℕ} 0 1 = cc in absurd (omega arith)
first_begins is m n (x ∷ xs) b h e =
    let same : x ≡ b = cc in
    rw same at (block_begins is m x h.0)

pub next_begins : (is : List InstructionRow) (m n : ℕ) (bs : List BlockRow) (i : ℕ) (a b : BlockRow) → Numbered is m bs n → slice_get bs i ≡ Some a → slice_get bs (suc i) ≡ Some b → block_first_number is b ≡ a.terminal_number + 1
next_begins is m n [] i a b h e g = let z : ◌≡◌ {A = ℕ} 0 1 = cc in absurd (omega arith)
next_begins is m n (x ∷ xs) zero a b h e g =
    let same : x ≡ a = cc in
    let ends = rw same at (block_ends is m x h.0) in
    let begins = first_begins is (m + length (block_numbers is x)) n xs b h.1 g in
    cc
next_begins is m n (x ∷ xs) (suc i) a b h e g = next_begins is (m + length (block_numbers is x)) n xs i a b h.1 e g
