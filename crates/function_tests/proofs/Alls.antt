-- A loop that tests each element and stops at the first that fails.
use Rattle.std.proofs.Common.{◌≡◌, ℕ, ◌+◌, ◌<◌, ◌≤◌, Bool, true, false, List, length, take, drop, Some, None, sym, ◌∙◌, arith, length-take}
use Rattle.std.specs.List.{slice_get}
use Rattle.std.proofs.lemmas.List.{drop_all}
use Rattle.visitors.proofs.Positions.{drop_nth, drop_none, nth_part}
use Rattle.std.specs.List.{list_all}

module _ {X : Type 0} (test : X → Bool) (xs : List X) (i : ℕ) (rest : list_all test (drop i xs) ≡ list_all test xs) where
  all_more : (x : X) → slice_get xs i ≡ Some x → test x ≡ true → list_all test (drop (i + 1) xs) ≡ list_all test xs
  all_more x found holds = rw holds at (rw (drop_nth xs i x found) at rest)

  all_failed : (x : X) → slice_get xs i ≡ Some x → test x ≡ false → false ≡ list_all test xs
  all_failed x found fails = rw fails at (rw (drop_nth xs i x found) at rest)

  all_ended : slice_get xs i ≡ None → true ≡ list_all test xs
  all_ended none = rw (drop_none xs i none) at rest

  all_passed : length xs ≤ i → true ≡ list_all test xs
  all_passed past = rw (drop_all i xs past) at rest

-- the same over a part of a list, which is read by the positions of the whole
module _ {X : Type 0} (test : X → Bool) (xs : List X) (k n i : ℕ) (rest : list_all test (drop i (take n (drop k xs))) ≡ list_all test (take n (drop k xs))) where
  pub part_more : (x : X) → i < n → Some x ≡ slice_get xs (k + i) → test x ≡ true → list_all test (drop (i + 1) (take n (drop k xs))) ≡ list_all test (take n (drop k xs))
  part_more x h found holds =
      all_more test (take n (drop k xs)) i rest x (sym (found ∙ nth_part xs k n i h)) holds

  pub part_failed : (x : X) → i < n → Some x ≡ slice_get xs (k + i) → test x ≡ false → false ≡ list_all test (take n (drop k xs))
  part_failed x h found fails =
      all_failed test (take n (drop k xs)) i rest x (sym (found ∙ nth_part xs k n i h)) fails

  pub part_ended : i < n → None ≡ slice_get xs (k + i) → true ≡ list_all test (take n (drop k xs))
  part_ended h none = all_ended test (take n (drop k xs)) i rest (sym (none ∙ nth_part xs k n i h))

  pub part_passed : n ≤ i → true ≡ list_all test (take n (drop k xs))
  part_passed past = all_passed test (take n (drop k xs)) i rest (simp length-take (omega arith))
