-- The number of each cause of the layers' own, and its refusal.
use Rattle.std.specs.Prelude.{ℕ}
use Rattle.charset.specs.declared.SetRefusal.{SetRefusal}
use Rattle.layers.specs.declared.cause.Cause.{Cause}
use Rattle.layers.specs.declared.cause.Cause.TheVariants.{OddParity, NotShifted, TooLong, NotListed}
use Rattle.layers.specs.Depth.{own}

abbrev pub number_of : Cause → ℕ
number_of OddParity = 34
number_of NotShifted = 35
number_of TooLong = 36
number_of NotListed = 37

abbrev pub refusal : Cause → SetRefusal
refusal c = own (number_of c)
