-- Rows at equal distances in a record's bytes, by position, and a table filled with them.
use Rattle.std.proofs.Common.{◌≡◌, ℕ, ◌+◌, ◌*◌, ◌<◌, ◌≤◌, List, [], ◌∷◌, ◌++◌, length, get_or, drop, set, Some, None, sym, ap, ◌∙◌, arith, add-zero}
use Rattle.std.specs.List.{slice_get}
use Rattle.std.proofs.lemmas.List.{drop_more, drop_all, append_assoc, append-nil, set_at}
use Rattle.std.proofs.lemmas.Option.{slice_get-get_or, slice_get_past}
use Rattle.std.proofs.lemmas.List.FromFn.{length-map-range_with_len, get_or-map-range_with_len, map-range_with_len_more}
use Rattle.react_compiler_hir.specs.RowWords.{word_of}
use Rattle.hir_record.specs.Format.{every, word, row_at}
use Rattle.hir_record.specs.Load.{over_first}

module _ {X : Type 0} (item_at : ℕ → X) (start width : ℕ) where
  pub length_every : (n : ℕ) → length (every item_at start width n) ≡ n
  length_every n = length-map-range_with_len (λ i. item_at (start + width * i)) 0 n

  pub nth_every : (n i : ℕ) → i < n → slice_get (every item_at start width n) i ≡ Some (item_at (start + width * i))
  nth_every n i h =
      let k : i < length (every item_at start width n) = omega (arith, length_every n) in
      slice_get-get_or _ i (item_at 0) k ∙
      ap Some (get_or-map-range_with_len (λ j. item_at (start + width * j)) 0 n i i (item_at 0) h (omega arith))

  pub nth_every_past : (n i : ℕ) → n ≤ i → slice_get (every item_at start width n) i ≡ None
  nth_every_past n i h = slice_get_past (every item_at start width n) i (omega (arith, length_every n))

  -- the row after those that are filled
  pub fill_more : (i : ℕ) (old now : List X) (row : X) → i < length old → now ≡ over_first (every item_at start width i) old → row ≡ item_at (start + width * i) → set now i row ≡ over_first (every item_at start width (i + 1)) old
  fill_more i old now row h is here =
      let done = every item_at start width i in
      let x = item_at (start + width * i) in
      let rest = drop (i + 1) old in
      let more = map-range_with_len_more (λ j. item_at (start + width * j)) 0 i i (omega arith) in
      let was : now ≡ done ++ get_or old i x ∷ rest =
      is ∙ ap (λ n. done ++ drop n old) (length_every i) ∙ ap (λ t. done ++ t) (drop_more old i x h) in
      let last : over_first (every item_at start width (i + 1)) old ≡ done ++ x ∷ rest =
      ap (λ n. every item_at start width (i + 1) ++ drop n old) (length_every (i + 1)) ∙
      ap (λ t. t ++ rest) more ∙ append_assoc done (x ∷ []) rest in
      ap (λ r. set now i r) here ∙ ap (λ l. set l i x) was ∙
      set_at done (get_or old i x) rest x i (length_every i) ∙ sym last

  -- when all are filled, nothing is left of the old rows
  pub filled : (n : ℕ) (old : List X) → length old ≤ n → over_first (every item_at start width n) old ≡ every item_at start width n
  filled n old h =
      let done = every item_at start width n in
      ap (λ t. done ++ t) (drop_all (length done) old (omega (arith, length_every n))) ∙ append-nil done

-- a row of one word is that word
pub every_word : (bs : List ℕ) (start n : ℕ) → every (row_at word_of 1 bs) start 4 n ≡ every (word bs) start 4 n
every_word bs start n = simp add-zero
