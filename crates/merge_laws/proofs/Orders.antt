-- The opening order and the closing order are orders, and what they say of scopes that start, or end, together.
use Rattle.std.proofs.Common.{◌≡◌, ◌≤◌, true, false, arith}
use Rattle.std.proofs.lemmas.Bool.Decides.{nat_tests}
use Rattle.agenda.specs.declared.scopes.ScopeEntry.{ScopeEntry}
use Rattle.agenda.specs.Scopes.{opens_before, closes_before}
use Rattle.agenda.proofs.Orders.{Lawful}

opens_asymmetric : (x y : ScopeEntry) → opens_before x y ≡ true → opens_before y x ≡ false
opens_asymmetric x y h = grind (arith, nat_tests)

opens_passes_on : (x y z : ScopeEntry) → opens_before y x ≡ false → opens_before z y ≡ false → opens_before z x ≡ false
opens_passes_on x y z h g = grind (arith, nat_tests)

pub opens_lawful : Lawful opens_before
opens_lawful = record { asymmetric = opens_asymmetric; passes_on = opens_passes_on }

closes_asymmetric : (x y : ScopeEntry) → closes_before x y ≡ true → closes_before y x ≡ false
closes_asymmetric x y h = grind (arith, nat_tests)

closes_passes_on : (x y z : ScopeEntry) → closes_before y x ≡ false → closes_before z y ≡ false → closes_before z x ≡ false
closes_passes_on x y z h g = grind (arith, nat_tests)

pub closes_lawful : Lawful closes_before
closes_lawful = record { asymmetric = closes_asymmetric; passes_on = closes_passes_on }

-- of two that start together, the later in the order ends no later
pub opens_ends : (x y : ScopeEntry) → x.start ≡ y.start → opens_before y x ≡ false → y.end ≤ x.end
opens_ends x y e h = grind (arith, nat_tests)

-- of two that end together, the later in the order starts no later
pub closes_starts : (x y : ScopeEntry) → x.end ≡ y.end → closes_before y x ≡ false → y.start ≤ x.start
closes_starts x y e h = grind (arith, nat_tests)
