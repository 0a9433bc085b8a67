-- The number that each fault of a roll is told by, and the values that come with it.
use Rattle.transcript.specs.Told.{alone, told_fault}
use Rattle.roll.specs.Told.{refusal_told}
use Rattle.report.specs.declared.fault.RollFault.{RollFault}
use Rattle.report.specs.declared.fault.RollFault.TheVariants.{Refused, Faulted}
use Rattle.report.specs.declared.fault.RollTold.{RollTold}

-- a refusal of the container with its entry, or a page with all that its fault tells
abbrev pub fault_told : RollFault → RollTold
fault_told (Refused e) =
    record { told = alone (refusal_told e).number; entry = (refusal_told e).entry; page = 0 }
fault_told (Faulted n f) = record { told = told_fault f; entry = 0; page = n }
