-- Why five lists make no record, as the bytes that `{}` prints.
use Rattle.std.specs.Prelude.{ℕ, List, codes}
use Rattle.record_encoding.specs.declared.error.EncodeError.{EncodeError}
use Rattle.record_encoding.specs.declared.error.EncodeError.TheVariants.{Memory, TooMany}

abbrev pub encode_error_text : EncodeError → List ℕ
encode_error_text Memory = codes "out of memory"
encode_error_text TooMany = codes "a list has too many rows"
