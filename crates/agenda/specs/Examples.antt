-- Four scopes, added in the order in which they are named, and the order in which they open and close.
use Rattle.std.specs.Prelude.{◌≡◌, [], ◌∷◌}
use Rattle.agenda.specs.declared.scopes.ScopeEntry.{ScopeEntry}
use Rattle.agenda.specs.Order.{insert_all}
use Rattle.agenda.specs.Scopes.{opens_before, closes_before}

abbrev pub a : ScopeEntry
a = record { scope = 7; start = 3; «end» = 6; named = 0 }

abbrev pub b : ScopeEntry
b = record { scope = 5; start = 1; «end» = 6; named = 1 }

abbrev pub c : ScopeEntry
c = record { scope = 8; start = 1; «end» = 9; named = 2 }

abbrev pub d : ScopeEntry
d = record { scope = 2; start = 1; «end» = 6; named = 3 }

-- c starts with b and d and ends later, d is named after b, and a starts last
abbrev pub OpeningExample : Type 0
OpeningExample = insert_all opens_before (a ∷ b ∷ c ∷ d ∷ []) [] ≡ c ∷ b ∷ d ∷ a ∷ []

-- a ends with b and d and starts later, d is named after b, and c ends last
abbrev pub ClosingExample : Type 0
ClosingExample = insert_all closes_before (a ∷ b ∷ c ∷ d ∷ []) [] ≡ a ∷ b ∷ d ∷ c ∷ []
