-- How many parts of one sort a row may have.
use Rattle.std.specs.Prelude.{ℕ, Bool, ◌&&◌, ◌==◌, nat_le}
use Rattle.visitors.specs.declared.arity.Arity.{Arity}
use Rattle.visitors.specs.declared.arity.Arity.TheVariants.{Exactly, AtLeast, Between, UpToSuccessors}

-- whether a row with so many successors may have so many parts
abbrev pub allows : Arity → ℕ → ℕ → Bool
allows (Exactly n) successors parts = parts == n
allows (AtLeast n) successors parts = nat_le n parts
allows (Between least most) successors parts = nat_le least parts && nat_le parts most
allows UpToSuccessors successors parts = nat_le 1 parts && nat_le parts successors
