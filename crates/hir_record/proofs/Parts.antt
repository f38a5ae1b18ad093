-- The parts of a record's bytes.
use Rattle.std.proofs.Common.{◌≡◌, ℕ, ◌-◌, ◌≤◌, List, length, get_or, take, drop}
use Rattle.std.proofs.lemmas.List.{take_rest, get_or-drop}
use Rattle.std.proofs.lemmas.Bool.{le-ltb, eq-eqb}
use Rattle.hir_record.specs.Format.{version, counts_at, counts_of}
use Rattle.hir_record.specs.Check.{counted, checked}

-- the counts are read from what follows the mark and the version
pub counts_of_rest : (bs : List ℕ) → counts_at (take (length bs - 5) (drop 5 bs)) 0 ≡ counts_of bs
counts_of_rest bs = simp (take_rest, get_or-drop)

-- behind a good header only the counts are left to test
pub checked_counts : (bs : List ℕ) → 25 ≤ length bs → get_or bs 0 0 ≡ 72 → get_or bs 1 0 ≡ 73 → get_or bs 2 0 ≡ 82 → version bs ≡ 1 → checked bs ≡ counted (length bs) (counts_of bs)
checked_counts bs long h i r v =
    rw (le-ltb (length bs) 25 long, eq-eqb (get_or bs 0 0) 72 h, eq-eqb (get_or bs 1 0) 73 i, eq-eqb (get_or bs 2 0) 82 r, eq-eqb (version bs) 1 v)
