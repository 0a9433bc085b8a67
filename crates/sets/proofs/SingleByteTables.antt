-- The upper halves are one to one, by a test over the whole of each that antt computes.
use Rattle.std.proofs.Common.{◌≡◌, true, refl}
use Rattle.sets.specs.Search.{first_from}
use Rattle.sets.specs.Columns.{one_to_one}
use Rattle.sets.specs.SingleByteTables.{iso8859_16, sami}

pub iso8859_16_once : one_to_one iso8859_16 ≡ true
unfolding one_to_one first_from iso8859_16
iso8859_16_once = refl

pub sami_once : one_to_one sami ≡ true
unfolding one_to_one first_from sami
sami_once = refl
