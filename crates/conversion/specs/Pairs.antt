-- Two sets, as what they mean.
use Rattle.charset.specs.declared.CharacterSet.{Ghosts}
use Rattle.charset.specs.Meaning.{Meaning}
use Rattle.charset.specs.Sets.{set_of}
use Rattle.conversion.specs.declared.met.MetCodings.{MetCodings}
use Rattle.conversion.specs.declared.two_sets.TwoSets.{TwoSets}
use Rattle.conversion.specs.Met.{Right}

module _ {S T : Type 0} (g : Ghosts S) (h : Ghosts T) where
  -- the codings that were met are right for these sets
  abbrev pub IsRightFor : TwoSets S T → MetCodings → Type 0
  IsRightFor p met = Right (set_of g p.source) (set_of h p.target) met

abbrev pub source : {S T : Type 0} → Ghosts S → TwoSets S T → Meaning
source g p = set_of g p.source

abbrev pub target : {S T : Type 0} → Ghosts T → TwoSets S T → Meaning
target h p = set_of h p.target
