-- Where each field of a row stands: the first word at the row's place, each further one four bytes on.
use Rattle.std.specs.Prelude.{◌≡◌, ℕ, ◌+◌, List}
use Rattle.hir_record.specs.Format.{word, counts_at, range_at, scope_at, identifier_at, block_at, instruction_at}

pub record FieldsAt (bs : List ℕ) (p : ℕ) : Type 0 where
  pub counts : counts_at bs p ≡ record {
    blocks = word bs p;
    instructions = word bs (p + 4);
    words = word bs (p + 8);
    scopes = word bs (p + 12);
    identifiers = word bs (p + 16);
  }
  pub range : range_at bs p ≡ record { id = word bs p; start = word bs (p + 4); end = word bs (p + 8) }
  pub scope : scope_at bs p ≡ record { range = range_at bs p }
  pub identifier : identifier_at bs p ≡ record {
    mutable_range = range_at bs p;
    scope = word bs (p + 12);
    primitive = word bs (p + 16);
  }
  pub block : block_at bs p ≡ record {
    kind = word bs p;
    first_instruction = word bs (p + 4);
    instruction_count = word bs (p + 8);
    terminal_kind = word bs (p + 12);
    terminal_number = word bs (p + 16);
    list_start = word bs (p + 20);
    operand_count = word bs (p + 24);
    successor_count = word bs (p + 28);
  }
  pub instruction : instruction_at bs p ≡ record {
    number = word bs p;
    kind = word bs (p + 4);
    lvalue = word bs (p + 8);
    list_start = word bs (p + 12);
    target_count = word bs (p + 16);
    read_count = word bs (p + 20);
  }

-- of every bytes, at every place
abbrev pub FieldsFollow : Type 0
FieldsFollow = (bs : List ℕ) (p : ℕ) → FieldsAt bs p
