-- The numbers of the faults, their layers, and how one travels up.
use Rattle.std.specs.Prelude.{ℕ, Some, None, Option}
use Rattle.hir_faults.specs.declared.fault.Layer.{Layer}
use Rattle.hir_faults.specs.declared.fault.Layer.TheVariants as layer
use Rattle.hir_faults.specs.declared.fault.Place.{Place}
use Rattle.hir_faults.specs.declared.fault.Envelope.{Envelope}
use Rattle.hir_faults.specs.declared.fault.RecordFault.{RecordFault}
use Rattle.hir_faults.specs.declared.fault.RecordFault.TheVariants as record_fault
use Rattle.hir_faults.specs.declared.fault.FunctionFault.{FunctionFault}
use Rattle.hir_faults.specs.declared.fault.Reason.{Reason}
use Rattle.hir_faults.specs.declared.fault.Reason.TheVariants as reason
use Rattle.hir_faults.specs.declared.fault.PassFault.{PassFault}
use Rattle.hir_faults.specs.declared.fault.PassFault.TheVariants as pass_fault
use Rattle.hir_faults.specs.declared.fault.Fault.{Fault}
use Rattle.hir_faults.specs.declared.fault.Fault.TheVariants as any

abbrev pub layer_number : Layer → ℕ
layer_number layer.Record = 1
layer_number layer.Function = 2
layer_number layer.Pass = 3

abbrev pub record_number : RecordFault → ℕ
record_number record_fault.TooShort = 1
record_number record_fault.NoMark = 2
record_number record_fault.UnknownVersion = 3
record_number record_fault.OverLimit = 4
record_number record_fault.WrongLength = 5

abbrev pub reason_number : Reason → ℕ
reason_number reason.OverLimit = 4
reason_number reason.NoBlock = 7
reason_number reason.OutOfRange = 8
reason_number reason.NotInTable = 9
reason_number reason.OutOfOrder = 10
reason_number reason.BadScopeRange = 11

abbrev pub function_number : FunctionFault → ℕ
function_number f = reason_number f.reason

abbrev pub pass_number : PassFault → ℕ
pass_number pass_fault.TooLittleMemory = 6
pass_number pass_fault.SharedFallthrough = 12
pass_number pass_fault.NoFallthrough = 13
pass_number pass_fault.NoRangeId = 14

abbrev pub fault_number : Fault → ℕ
fault_number (any.Record f) = record_number f
fault_number (any.Function f) = function_number f
fault_number (any.Pass f) = pass_number f

-- a function fault repeats the kind number of its source
abbrev pub because : ℕ → Reason → FunctionFault
because source r = record { source = source; reason = r }

abbrev pub fault_source : Fault → Option ℕ
fault_source (any.Record f) = None
fault_source (any.Function f) = Some f.source
fault_source (any.Pass f) = None

-- a fault in the envelope of its layer
abbrev pub enveloped : {F : Type 0} → Layer → Option Place → F → Envelope F
enveloped l p f = record { layer = l; place = p; fault = f }

-- a record fault has no place
abbrev pub record_faulted : RecordFault → Envelope RecordFault
record_faulted f = enveloped layer.Record None f

abbrev pub function_faulted : Option Place → FunctionFault → Envelope FunctionFault
function_faulted p f = enveloped layer.Function p f

abbrev pub pass_faulted : Option Place → PassFault → Envelope PassFault
pass_faulted p f = enveloped layer.Pass p f

-- the same envelope around the fault as one of any layer
abbrev pub around : {F : Type 0} → (F → Fault) → Envelope F → Envelope Fault
around f e = record { layer = e.layer; place = e.place; fault = f e.fault }

abbrev pub of_record : Envelope RecordFault → Envelope Fault
of_record e = around any.Record e

abbrev pub of_function : Envelope FunctionFault → Envelope Fault
of_function e = around any.Function e

abbrev pub of_pass : Envelope PassFault → Envelope Fault
of_pass e = around any.Pass e
