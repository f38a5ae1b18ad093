-- Tests in a row: the first fault is the answer.
use Rattle.std.specs.Prelude.{ℕ, ◌+◌, Bool, cond, List, [], ◌∷◌, Some, None, Ok, Err, Result}
use Rattle.hir_faults.specs.declared.fault.Envelope.{Envelope}
use Rattle.hir_faults.specs.declared.fault.Fault.{Fault}
use Rattle.hir_faults.specs.declared.fault.FunctionFault.{FunctionFault}
use Rattle.hir_faults.specs.declared.fault.PassFault.TheVariants.{TooLittleMemory}
use Rattle.hir_faults.specs.Faults.{of_function, function_faulted, of_pass, pass_faulted}

-- what follows, where this step gives no fault
abbrev pub then : {X Y E : Type 0} → Result X E → (X → Result Y E) → Result Y E
then (Ok x) next = next x
then (Err e) next = Err e

-- no fault where the test holds
abbrev pub unless : Bool → Envelope Fault → Result (Unit {0}) (Envelope Fault)
unless holds fault = cond holds (Ok tt) (Err fault)

-- a function fault at a step of a block, and one that has no place
abbrev pub at_step : ℕ → ℕ → FunctionFault → Envelope Fault
at_step block step f = of_function (function_faulted (Some (record { block = block; step = step })) f)

abbrev pub nowhere : FunctionFault → Envelope Fault
nowhere f = of_function (function_faulted None f)

abbrev pub too_little_memory : Envelope Fault
too_little_memory = of_pass (pass_faulted None TooLittleMemory)

-- each element tested in turn, with its position from i on; a test takes what the one before answered
abbrev pub walked : {X M E : Type 0} → (ℕ → M → X → Result M E) → ℕ → M → List X → Result M E
walked test i m [] = Ok m
walked test i m (x ∷ xs) = then (test i m x) (λ k. walked test (i + 1) k xs)
