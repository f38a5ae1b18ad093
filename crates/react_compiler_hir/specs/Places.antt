-- A list is what stands at each of its places, in order.
use Rattle.std.specs.Prelude.{◌≡◌, ℕ, List, length, map, slice_index, refl}
use Rattle.std.proofs.Common.{sym}
use Rattle.std.specs.List.{range_with_len}
use Rattle.std.proofs.lemmas.List.FromFn.{fill_by_all}

pub by_places : (n : ℕ) (ws : List ℕ) → length ws ≡ n → map (slice_index ws) (range_with_len 0 n) ≡ ws
by_places n ws long = sym (fill_by_all (slice_index ws) ws n 0 long (λ k lt. refl))
