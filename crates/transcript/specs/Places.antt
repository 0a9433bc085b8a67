-- A fault and its place.
use Rattle.conversion.specs.declared.Fault.{Fault}
use Rattle.transcript.specs.declared.answers.FaultAt.{FaultAt}
use Rattle.transcript.specs.declared.answers.Place.{Place}

abbrev pub placed : Fault → Place → FaultAt
placed f p = record { fault = f; offset = p.offset; done = p.done }
