-- Words and rows as the bytes of a record.
use Rattle.std.specs.Prelude.{ℕ, ◌/◌, ◌%◌, List, [], ◌∷◌}
use Rattle.std.specs.List.{flat_map}

-- the four bytes of a word, the high byte first
abbrev pub word_bytes : ℕ → List ℕ
word_bytes w = (w / 16777216 % 256) ∷ (w / 65536 % 256) ∷ (w / 256 % 256) ∷ (w % 256) ∷ []

abbrev pub bytes : List ℕ → List ℕ
bytes ws = flat_map word_bytes ws

-- rows in order, each by its words
abbrev pub rows : {X : Type 0} → (X → List ℕ) → List X → List ℕ
rows words_of xs = flat_map (λ x. bytes (words_of x)) xs

-- HIR, then the version 1 in two bytes
abbrev pub opening : List ℕ
opening = 72 ∷ 73 ∷ 82 ∷ 0 ∷ 1 ∷ []
