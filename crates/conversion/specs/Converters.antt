-- A converter, as its two sets.
use Rattle.std.specs.Prelude.{◌≡◌}
use Rattle.charset.specs.declared.CharacterSet.{Ghosts}
use Rattle.charset.specs.Meaning.{Meaning}
use Rattle.charset.specs.Sets.{set_of}
use Rattle.conversion.specs.declared.converter.Converter.{Converter}

module _ {S T : Type 0} {g : Ghosts S} {h : Ghosts T} where
  abbrev pub source : Converter S T g h → Meaning
  source c = set_of g c.sets.source

  abbrev pub target : Converter S T g h → Meaning
  target c = set_of h c.sets.target

  abbrev pub SameSets : (old new : Converter S T g h) → Type 0
  SameSets old new = (new.sets.source ≡ old.sets.source) × (new.sets.target ≡ old.sets.target)
