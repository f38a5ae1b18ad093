-- What holds of an answer, if it is no fault.
use Rattle.std.proofs.Common.{◌≡◌, ℕ, ◌+◌, Bool, true, false, cond, List, [], ◌∷◌, Ok, Err, Result, subst, arith}
use Rattle.hir_faults.specs.declared.fault.Envelope.{Envelope}
use Rattle.hir_faults.specs.declared.fault.Fault.{Fault}
use Rattle.function_tests.specs.Steps.{then, unless, walked}

abbrev pub Accepts : {X E : Type 0} → (X → Type 0) → Result X E → Type 0
Accepts P (Ok x) = P x
Accepts P (Err e) = Unit {0}

pub accepts_ok : {X E : Type 0} (P : X → Type 0) (r : Result X E) (x : X) → Accepts P r → r ≡ Ok x → P x
accepts_ok P r x h e = subst (Accepts P) e h

pub accepts_then : {X Y E : Type 0} (P : X → Type 0) (Q : Y → Type 0) (r : Result X E) (next : X → Result Y E) → Accepts P r → ((x : X) → P x → Accepts Q (next x)) → Accepts Q (then r next)
accepts_then P Q (Ok x) next h k = k x h
accepts_then P Q (Err e) next h k = tt

pub accepts_unless : {Y : Type 0} (Q : Y → Type 0) (holds : Bool) (fault : Envelope Fault) (next : Unit {0} → Result Y (Envelope Fault)) → Accepts Q (next tt) → Accepts Q (then (unless holds fault) next)
accepts_unless Q true fault next h = h
accepts_unless Q false fault next h = tt

pub accepts_cond : {X E : Type 0} (P : X → Type 0) (b : Bool) (r s : Result X E) → Accepts P r → Accepts P s → Accepts P (cond b r s)
accepts_cond P true r s h k = h
accepts_cond P false r s h k = k

pub accepts_walked : {X M E : Type 0} (P : M → Type 0) (step : ℕ → M → X → Result M E) → ((i : ℕ) (m : M) (x : X) → P m → Accepts P (step i m x)) → (i : ℕ) (m : M) (xs : List X) → P m → Accepts P (walked step i m xs)
accepts_walked P step more i m [] h = h
accepts_walked P step more i m (x ∷ xs) h =
    accepts_then P P (step i m x) (λ k. walked step (i + 1) k xs) (more i m x h) (λ k g. accepts_walked P step more (i + 1) k xs g)

-- the way of an accepted answer through a step before it
pub then_ok : {X Y E : Type 0} (r : Result X E) (next : X → Result Y E) (y : Y) → then r next ≡ Ok y → (x : X) × (r ≡ Ok x) × (next x ≡ Ok y)
then_ok (Ok x) next y e = (x, (cc), e)
then_ok {Y} {E} (Err e) next y h =
    let no : ◌≡◌ {A = ℕ} 0 1 = cc in
    absurd (omega arith)
