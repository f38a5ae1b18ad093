-- The record of a listing: the opening and the counts, then the five lists.
use Rattle.std.specs.Prelude.{ℕ, List, [], ◌∷◌, ◌++◌, vec_items, vec_len}
use Rattle.react_compiler_hir.specs.RowWords.{scope_words, identifier_words, block_words, instruction_words}
use Rattle.record_encoding.specs.declared.encode.Listing.{Listing}
use Rattle.record_encoding.specs.Encoding.{opening, bytes, rows}

abbrev pub counts_of : Listing → List ℕ
counts_of l =
    vec_len l.blocks ∷ vec_len l.instructions ∷ vec_len l.words ∷ vec_len l.scopes ∷ vec_len l.identifiers ∷ []

-- the bytes before the lists
abbrev pub header_of : Listing → List ℕ
header_of l = opening ++ bytes (counts_of l)

-- what stands after `front` when the lists are appended to it, in their order
abbrev pub lists_of : List ℕ → Listing → List ℕ
lists_of front l =
    front ++ rows block_words (vec_items l.blocks) ++ rows instruction_words (vec_items l.instructions) ++
    bytes (vec_items l.words) ++ rows scope_words (vec_items l.scopes) ++ rows identifier_words (vec_items l.identifiers)

abbrev pub record_of : Listing → List ℕ
record_of l = lists_of (header_of l) l
