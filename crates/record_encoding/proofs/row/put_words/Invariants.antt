use Rattle.std.proofs.Common.{◌≡◌, ◌++◌, take, vec_items}
use Rattle.record_encoding.specs.Encoding.{bytes}
use Rattle.record_encoding.proofs.row.put_words.Given as goal

abbrev pub invariant-loop-word : goal.invariant-loop-word
invariant-loop-word l =
    vec_items l.out ≡ vec_items l.initial.out ++ bytes (take l.word-index l.words)
