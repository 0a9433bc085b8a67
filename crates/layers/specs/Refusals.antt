-- The number and the value that each refusal of a list is told by.
use Rattle.std.specs.Prelude.{ℕ, Some, None, Option}
use Rattle.layers.specs.declared.list.ListRefusal.{ListRefusal}
use Rattle.layers.specs.declared.list.ListRefusal.TheVariants.{TooMany, NotIncreasing, Missing}
use Rattle.layers.specs.declared.list.ListRefusal.TheVariants.{NoCoding, NoMemory}

pub record Told : Type 0 where
  pub number : ℕ
  pub value : Option ℕ

abbrev pub list_told : ListRefusal → Told
list_told TooMany = record { number = 10; value = None }
list_told (NotIncreasing i) = record { number = 11; value = Some i }
list_told (Missing c) = record { number = 12; value = Some c }
list_told (NoCoding c) = record { number = 13; value = Some c }
list_told NoMemory = record { number = 0; value = None }
