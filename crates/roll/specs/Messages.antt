-- What is said of a page that a roll cannot hold.
use Rattle.std.specs.Prelude.{ℕ, List, codes}
use Rattle.roll.specs.declared.pack_refusal.PackRefusal.{PackRefusal}
use Rattle.roll.specs.declared.pack_refusal.PackRefusal.TheVariants.{FormTooHigh, TooManyPages}
use Rattle.roll.specs.declared.pack_refusal.PackRefusal.TheVariants.{TooLong, NoMemory}

abbrev pub message : PackRefusal → List ℕ
message FormTooHigh = codes "a form is a number from 0 to 7"
message TooManyPages = codes "a roll has at most 1024 pages"
message TooLong = codes "a roll has at most 1048576 bytes"
message NoMemory = codes "out of memory"
