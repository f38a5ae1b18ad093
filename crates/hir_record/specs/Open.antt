-- What an opened record tells.
use Rattle.std.specs.Prelude.{ℕ, List, [], Ok, Err, Result}
use Rattle.react_compiler_hir.specs.Function.{HirFunction}
use Rattle.hir_record.specs.declared.counts.Counts.{Counts}
use Rattle.hir_record.specs.declared.source.RecordSource.{RecordSource}
use Rattle.hir_record.specs.Format.{function_in}
use Rattle.hir_record.specs.Check.{checked}

abbrev pub no_function : HirFunction
no_function = record { blocks = []; instructions = []; words = [] }

abbrev answered : {E : Type 0} → List ℕ → Result Counts E → HirFunction
answered bs (Ok c) = function_in bs c
answered bs (Err e) = no_function

-- the record's own lists, or three empty ones where check refuses
abbrev pub opened : List ℕ → HirFunction
opened bs = answered bs (checked bs)

-- what a record source tells, by its bytes and its counts
abbrev pub told : RecordSource → HirFunction
told s = function_in s.bytes.now s.counts
