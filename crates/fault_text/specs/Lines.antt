-- The lines of a fault and their parts, as the bytes that `{}` prints.
use Rattle.std.specs.Prelude.{ℕ, List, ◌++◌, Some, None, Option, codes, decimal}
use Rattle.std.specs.Option.{option_map}
use Rattle.hir_faults.specs.Faults.{fault_number, fault_source, layer_number}
use Rattle.hir_faults.specs.Meanings.{fault_meaning, layer_text}
use Rattle.hir_faults.specs.declared.fault.Place.{Place}
use Rattle.hir_faults.specs.declared.fault.Envelope.{Envelope}
use Rattle.hir_faults.specs.declared.fault.Fault.{Fault}

-- a number that may be absent
abbrev pub number_or_dash : Option ℕ → List ℕ
number_or_dash None = codes "-"
number_or_dash (Some n) = decimal n

-- the kind number of the source, or nothing
abbrev pub source_part : Option ℕ → List ℕ
source_part None = codes ""
source_part (Some kind) = codes ", source kind " ++ decimal kind

abbrev pub place_part : Option Place → List ℕ
place_part None = codes ", no place"
place_part (Some p) = codes ", block " ++ (decimal p.block ++ (codes ", step " ++ decimal p.step))

-- `fault N: MEANING (LAYER layer, source kind K, block B, step S)`
abbrev pub fault_line : Envelope Fault → List ℕ
fault_line e =
    codes "fault " ++ (decimal (fault_number e.fault)
    ++ (codes ": " ++ (fault_meaning e.fault
    ++ (codes " (" ++ (layer_text e.layer
    ++ (codes " layer" ++ (source_part (fault_source e.fault)
    ++ (place_part e.place ++ codes ")"))))))))

-- `fault NUMBER LAYER BLOCK STEP KIND`, with - for what is absent
abbrev pub plain_fault : Envelope Fault → List ℕ
plain_fault e =
    codes "fault " ++ (decimal (fault_number e.fault)
    ++ (codes " " ++ (decimal (layer_number e.layer)
    ++ (codes " " ++ (number_or_dash (option_map (λ p. p.block) e.place)
    ++ (codes " " ++ (number_or_dash (option_map (λ p. p.step) e.place)
    ++ (codes " " ++ number_or_dash (fault_source e.fault)))))))))
