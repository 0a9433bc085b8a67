-- The number that each refusal of a roll is told by, and the value that comes with it.
use Rattle.roll.specs.declared.refusal.RollRefusal.{RollRefusal}
use Rattle.roll.specs.declared.refusal.RollRefusal.TheVariants.{WrongSize, NoMark, WrongIndex}
use Rattle.roll.specs.declared.refusal.RollRefusal.TheVariants.{BadEntry, WrongTotal, NoSuchPage}
use Rattle.roll.specs.declared.refusal.RefusalTold.{RefusalTold}

abbrev pub refusal_told : RollRefusal → RefusalTold
refusal_told WrongSize = record { number = 14; entry = 0 }
refusal_told NoMark = record { number = 15; entry = 0 }
refusal_told WrongIndex = record { number = 16; entry = 0 }
refusal_told (BadEntry e) = record { number = 17; entry = e }
refusal_told WrongTotal = record { number = 18; entry = 0 }
refusal_told NoSuchPage = record { number = 19; entry = 0 }
