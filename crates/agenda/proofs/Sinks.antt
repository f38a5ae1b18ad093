-- How an entry comes down from the end of the rows to its place.
use Rattle.std.proofs.Common.{◌≡◌, ℕ, suc, ◌+◌, ◌-◌, ◌<◌, ◌≤◌, Bool, true, false, List, [], ◌∷◌, ◌++◌, length, get_or, take, drop, set, sym, refl, ap, ◌∙◌, append_assoc, arith}
use Rattle.std.proofs.Math.Seq.{take-set-lt}
use Rattle.std.proofs.lemmas.List.{append-nil, take_more, take-take, length-take, length-set, drop-append-le, take-set-le, drop_all, set_split}
use Rattle.agenda.specs.Order.{insert}
use Rattle.agenda.proofs.Insertions.{insert_passes, insert_stays}

-- e comes down to place i, no further than h: was is what the rows held up to n, and xs is what they hold now
pub record Sinking {X : Type 0} (lt : X → X → Bool) (e : X) (h n : ℕ) (was xs : List X) (i : ℕ) : Type 0 where
  pub low : h ≤ i
  pub high : i ≤ n
  pub room : n < length xs
  pub long : length xs ≡ length was
  pub goes : insert lt e (drop h (take i xs)) ++ drop (i + 1) (take (n + 1) xs) ≡ insert lt e (drop h (take n was))

module _ {X : Type 0} (xs : List X) where
  none_left : (k : ℕ) → drop k (take k xs) ≡ []
  none_left k = drop_all k (take k xs) (simp length-take (omega arith))

  -- the rows from h on, once the one at i is written
  written : (h i n : ℕ) (a : X) → h ≤ i → i ≤ n → n < length xs → drop h (take (n + 1) (set xs i a)) ≡ drop h (take i xs) ++ a ∷ drop (i + 1) (take (n + 1) xs)
  written h i n a low high room =
      let here : i < n + 1 = omega arith in
      let next : suc i ≡ i + 1 = omega arith in
      let within : i < length (take (n + 1) xs) = simp length-take (omega arith) in
      let le : h ≤ length (take i xs) = simp length-take (omega arith) in
      rw (take-set-lt (n + 1) xs i a here, set_split (take (n + 1) xs) i a within, next, take-take i (n + 1) xs (omega arith))
      (drop-append-le h (take i xs) (a ∷ drop (i + 1) (take (n + 1) xs)) le)

  last_row : (h m : ℕ) (d : X) → h ≤ m → m < length xs → drop h (take (m + 1) xs) ≡ drop h (take m xs) ++ get_or xs m d ∷ []
  last_row h m d low within =
      let le : h ≤ length (take m xs) = simp length-take (omega arith) in
      rw (take_more xs m d within) (drop-append-le h (take m xs) (get_or xs m d ∷ []) le)

module _ {X : Type 0} (lt : X → X → Bool) (e : X) (h n : ℕ) (was : List X) where
  pub sink_none : h ≤ n → n < length was → Sinking lt e h n was was n
  sink_none low room =
      record { low = low; high = omega arith; room = room; long = refl; goes = rw (none_left was (n + 1)) (append-nil (insert lt e (drop h (take n was)))) }

  pub sink_step : (xs : List X) (i : ℕ) (d : X) → h < i → Sinking lt e h n was xs i → true ≡ lt e (get_or xs (i - 1) d) → Sinking lt e h n was (set xs (i - 1 + 1) (get_or xs (i - 1) d)) (i - 1)
  sink_step xs i d some s passes =
      let m = i - 1 in
      let a = get_or xs m d in
      let is : i ≡ m + 1 = omega arith in
      let t = rw is at s in
      record {
        low = omega arith;
        high = omega (arith, t.high);
        room = simp length-set t.room;
        long = length-set xs (m + 1) a ∙ t.long;
        goes = rw (take-set-le m xs (m + 1) a (omega arith), written xs (m + 1) (m + 1) n a (omega arith) t.high t.room, none_left xs (m + 1), ← t.goes, last_row xs h m d (omega arith) (omega (arith, t.high, t.room)), insert_passes lt e (drop h (take m xs)) a (sym passes), append_assoc);
      }

  -- at its place the entry stays behind all that is left
  sink_all : (xs : List X) (i : ℕ) → Sinking lt e h n was xs i → insert lt e (drop h (take i xs)) ≡ drop h (take i xs) ++ e ∷ [] → drop h (take (n + 1) (set xs i e)) ≡ insert lt e (drop h (take n was))
  sink_all xs i s here = rw (written xs h i n e s.low s.high s.room, ← s.goes, here, append_assoc)

  pub sink_bottom : (xs : List X) (i : ℕ) → i ≤ h → Sinking lt e h n was xs i → drop h (take (n + 1) (set xs i e)) ≡ insert lt e (drop h (take n was))
  sink_bottom xs i down s = sink_all xs i s (let z : i ≡ h = omega (arith, s.low) in rw (z, none_left xs h))

  pub sink_found : (xs : List X) (i : ℕ) (d : X) → h < i → Sinking lt e h n was xs i → false ≡ lt e (get_or xs (i - 1) d) → drop h (take (n + 1) (set xs i e)) ≡ insert lt e (drop h (take n was))
  sink_found xs i d some s stays =
      let is : i ≡ i - 1 + 1 = omega arith in
      let below : drop h (take i xs) ≡ drop h (take (i - 1) xs) ++ get_or xs (i - 1) d ∷ [] = ap (λ k. drop h (take k xs)) is ∙ last_row xs h (i - 1) d (omega arith) (omega (arith, s.high, s.room)) in
      sink_all xs i s (rw (below, insert_stays lt e (drop h (take (i - 1) xs)) (get_or xs (i - 1) d) (sym stays)))
