-- What the layers are called, and what each fault means, as the bytes that `{}` prints.
use Rattle.std.specs.Prelude.{ℕ, List, codes}
use Rattle.hir_faults.specs.declared.fault.Layer.{Layer}
use Rattle.hir_faults.specs.declared.fault.Layer.TheVariants as layer
use Rattle.hir_faults.specs.declared.fault.RecordFault.{RecordFault}
use Rattle.hir_faults.specs.declared.fault.RecordFault.TheVariants as record_fault
use Rattle.hir_faults.specs.declared.fault.FunctionFault.{FunctionFault}
use Rattle.hir_faults.specs.declared.fault.Reason.{Reason}
use Rattle.hir_faults.specs.declared.fault.Reason.TheVariants as reason
use Rattle.hir_faults.specs.declared.fault.PassFault.{PassFault}
use Rattle.hir_faults.specs.declared.fault.PassFault.TheVariants as pass_fault
use Rattle.hir_faults.specs.declared.fault.Fault.{Fault}
use Rattle.hir_faults.specs.declared.fault.Fault.TheVariants as any

abbrev pub layer_text : Layer → List ℕ
layer_text layer.Record = codes "record"
layer_text layer.Function = codes "function"
layer_text layer.Pass = codes "pass"

abbrev pub record_meaning : RecordFault → List ℕ
record_meaning record_fault.TooShort = codes "a record has at least 25 bytes"
record_meaning record_fault.NoMark = codes "a record begins with the bytes HIR"
record_meaning record_fault.UnknownVersion = codes "the record's version is not 1"
record_meaning record_fault.OverLimit = codes "a count of the record is over its limit"
record_meaning record_fault.WrongLength = codes "the record is not as long as its counts make it"

abbrev pub reason_meaning : Reason → List ℕ
reason_meaning reason.OverLimit = codes "a list or table is over its limit"
reason_meaning reason.NoBlock = codes "the function has no block"
reason_meaning reason.OutOfRange = codes "a field, run, list or part count is out of its range"
reason_meaning reason.NotInTable = codes "an identifier, scope or successor is not in its table"
reason_meaning reason.OutOfOrder = codes "the numbers do not go 1, 2, 3 along the walk"
reason_meaning reason.BadScopeRange = codes "a named scope runs backward or leaves the function"

-- the kind number of the source is not printed
abbrev pub function_meaning : FunctionFault → List ℕ
function_meaning f = reason_meaning f.reason

abbrev pub pass_meaning : PassFault → List ℕ
pass_meaning pass_fault.TooLittleMemory = codes "the memory given is too small"
pass_meaning pass_fault.SharedFallthrough = codes "the fallthrough of a bracket has a node already"
pass_meaning pass_fault.NoFallthrough = codes "a new node is due and the terminal has no fallthrough"
pass_meaning pass_fault.NoRangeId = codes "no range id is left"

abbrev pub fault_meaning : Fault → List ℕ
fault_meaning (any.Record f) = record_meaning f
fault_meaning (any.Function f) = function_meaning f
fault_meaning (any.Pass f) = pass_meaning f
