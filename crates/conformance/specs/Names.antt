-- The sets by the names that vectors use, and the known differences as they are printed.
use Rattle.std.specs.Prelude.{◌≡◌, ℕ, List, Ok, Err, codes, Result}
use Rattle.conformance.specs.declared.known.Known.{Known}
use Rattle.conformance.specs.declared.known.Known.TheVariants as known
use Rattle.conformance.specs.declared.vector.NotAVector.{NotAVector}
use Rattle.conformance.specs.declared.vector.Set.{Set}
use Rattle.conformance.specs.declared.vector.Set.TheVariants as set

abbrev pub name_of : Set → List ℕ
name_of set.Iso6937 = codes "6937"
name_of set.Iso8859v16 = codes "8859-16"
name_of set.Sami = codes "sami"
name_of set.Utf8 = codes "utf-8"

-- s is the name of this set, or of none
abbrev pub Named : List ℕ → Result Set NotAVector → Type 0
Named s (Ok set) = s ≡ name_of set
Named s (Err e) = (set : Set) → s ≡ name_of set → ⊥

abbrev pub name_of_known : Known → List ℕ
name_of_known known.Control = codes "control"
name_of_known known.Window = codes "columns 8 and 9"
name_of_known known.Bar = codes "horizontal bar"
name_of_known known.Stroke = codes "d with stroke"
name_of_known known.SmallG = codes "small g"
name_of_known known.Waits = codes "waits"
name_of_known known.Tags = codes "tags"
