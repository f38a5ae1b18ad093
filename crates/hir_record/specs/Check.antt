-- What check answers: the counts, or what the first failing test gives.
use Rattle.std.specs.Prelude.{ℕ, Bool, cond, not, List, length, Ok, Err, Result, ◌==◌, nat_lt}
use Rattle.hir_faults.specs.declared.fault.Envelope.{Envelope}
use Rattle.hir_faults.specs.declared.fault.RecordFault.{RecordFault}
use Rattle.hir_faults.specs.declared.fault.RecordFault.TheVariants.{TooShort, NoMark, UnknownVersion, OverLimit, WrongLength}
use Rattle.hir_faults.specs.Faults.{record_faulted}
use Rattle.hir_record.specs.declared.counts.Counts.{Counts}
use Rattle.hir_record.specs.Format.{has_mark, version, counts_of, over_limit, record_length}

-- the fault where the test is true, else what the later tests answer
abbrev refused_if : {X : Type 0} → Bool → RecordFault → Result X (Envelope RecordFault) → Result X (Envelope RecordFault)
refused_if test f later = cond test (Err (record_faulted f)) later

-- the last two tests, of the counts and the number of bytes
abbrev pub counted : ℕ → Counts → Result Counts (Envelope RecordFault)
counted bytes c =
    refused_if (over_limit c) OverLimit (refused_if (not (bytes == record_length c)) WrongLength (Ok c))

abbrev pub checked : List ℕ → Result Counts (Envelope RecordFault)
checked bs =
    refused_if (nat_lt (length bs) 25) TooShort
    (refused_if (not (has_mark bs)) NoMark
    (refused_if (not (version bs == 1)) UnknownVersion (counted (length bs) (counts_of bs))))
