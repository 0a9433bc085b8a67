-- An implementation of a character set as its meaning.
use Rattle.charset.specs.declared.CharacterSet.{Ghosts}
use Rattle.charset.specs.Meaning.{Meaning, meaning_of}

-- what the implementation says that x means
abbrev pub set_of : {X : Type 0} → Ghosts X → X → Meaning
set_of g x = meaning_of g.codings g.openings g.causes g.write_causes x
