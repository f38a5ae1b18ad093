-- The orders in which scopes open and close.
use Rattle.std.specs.Prelude.{ℕ, Bool, cond, List, [], ◌∷◌, ◌==◌, nat_lt}
use Rattle.agenda.specs.declared.scopes.ScopeEntry.{ScopeEntry}

-- what cleared rows hold
abbrev pub zero_entry : ScopeEntry
zero_entry = record { scope = 0; start = 0; «end» = 0; named = 0 }

abbrev pub opening_numbers : ScopeEntry → List ℕ
opening_numbers x = x.start ∷ x.end ∷ x.named ∷ []

-- the earlier start; of equal starts the later end, and of equal ranges what was named earlier
abbrev pub opens_before : ScopeEntry → ScopeEntry → Bool
opens_before x y =
    cond (x.start == y.start) (cond (x.end == y.end) (nat_lt x.named y.named) (nat_lt y.end x.end)) (nat_lt x.start y.start)

abbrev pub closing_numbers : ScopeEntry → List ℕ
closing_numbers x = x.end ∷ x.start ∷ x.named ∷ []

-- the earlier end; of equal ends the later start, and of equal ranges what was named earlier
abbrev pub closes_before : ScopeEntry → ScopeEntry → Bool
closes_before x y =
    cond (x.end == y.end) (cond (x.start == y.start) (nat_lt x.named y.named) (nat_lt y.start x.start)) (nat_lt x.end y.end)
