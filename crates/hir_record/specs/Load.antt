-- What load answers, and the rows that it leaves.
use Rattle.std.specs.Prelude.{ℕ, cond, ◌||◌, List, ◌++◌, length, drop, None, Ok, Err, Result, nat_lt}
use Rattle.hir_faults.specs.declared.fault.Envelope.{Envelope}
use Rattle.hir_faults.specs.declared.fault.Fault.{Fault}
use Rattle.hir_faults.specs.declared.fault.RecordFault.{RecordFault}
use Rattle.hir_faults.specs.declared.fault.PassFault.TheVariants.{TooLittleMemory}
use Rattle.react_compiler_hir.specs.declared.rows.ScopeRow.{ScopeRow}
use Rattle.react_compiler_hir.specs.declared.rows.IdentifierRow.{IdentifierRow}
use Rattle.hir_faults.specs.Faults.{of_record, of_pass, pass_faulted}
use Rattle.hir_record.specs.declared.counts.Counts.{Counts}
use Rattle.hir_record.specs.Format.{scopes_in, identifiers_in}
use Rattle.hir_record.specs.Check.{checked}

-- a table with too few rows is refused after all that check refuses
abbrev pub fitting : ℕ → ℕ → Counts → Result Counts (Envelope Fault)
fitting scopes identifiers c =
    cond (nat_lt scopes c.scopes || nat_lt identifiers c.identifiers) (Err (of_pass (pass_faulted None TooLittleMemory)))
    (Ok c)

abbrev then_fitting : ℕ → ℕ → Result Counts (Envelope RecordFault) → Result Counts (Envelope Fault)
then_fitting scopes identifiers (Ok c) = fitting scopes identifiers c
then_fitting scopes identifiers (Err e) = Err (of_record e)

-- the answer, by the bytes and the lengths of the two tables
abbrev pub loaded : List ℕ → ℕ → ℕ → Result Counts (Envelope Fault)
loaded bs scopes identifiers = then_fitting scopes identifiers (checked bs)

-- the first rows of a table are new, and the further ones stay
abbrev pub over_first : {X : Type 0} → List X → List X → List X
over_first new old = new ++ drop (length new) old

-- a refusal leaves every row
abbrev filled : {X E : Type 0} → Result Counts E → (Counts → List X) → List X → List X
filled (Ok c) new old = over_first (new c) old
filled (Err e) new old = old

-- the tables after a load, by the bytes and the tables before it
abbrev pub scopes_after : List ℕ → List ScopeRow → List IdentifierRow → List ScopeRow
scopes_after bs ss ds = filled (loaded bs (length ss) (length ds)) (scopes_in bs) ss

abbrev pub identifiers_after : List ℕ → List ScopeRow → List IdentifierRow → List IdentifierRow
identifiers_after bs ss ds = filled (loaded bs (length ss) (length ds)) (identifiers_in bs) ds
