-- The four layers, each a set made from a set.
use Rattle.std.specs.Prelude.{ℕ, ◌+◌, ◌-◌, ◌%◌, Bool, true, false, cond, ◌&&◌}
use Rattle.std.specs.Prelude.{List, [], ◌∷◌, Some, None, Option, is_none, is_err, ◌==◌}
use Rattle.std.specs.Prelude.{count_ones, nat_le, nat_lt, slice_index_or}
use Rattle.std.specs.Option.{option_or}
use Rattle.charset.specs.Meaning.{Meaning}
use Rattle.charset.specs.Answers.{reading, writing}
use Rattle.layers.specs.declared.recoding.moves.Move.{Move}
use Rattle.layers.specs.declared.recoding.moves.Move.TheVariants.{Emit, Hold}
use Rattle.layers.specs.declared.recoding.moves.WrittenByte.{WrittenByte}
use Rattle.layers.specs.declared.recoding.moves.WrittenByte.TheVariants.{One, Two}
use Rattle.layers.specs.declared.cause.Cause.TheVariants.{OddParity, NotShifted, NotListed}
use Rattle.layers.specs.CharacterList.{on_list}
use Rattle.layers.specs.Causes.{number_of, refusal}
use Rattle.layers.specs.Depth.{up, over}
use Rattle.layers.specs.Recoding.{Recoding, recoded}

-- Parity: a byte under 80 with an odd number of ones gets 80 added
abbrev pub even : ℕ → Bool
even x = count_ones x % 2 == 0

abbrev pub parity_step : Bool → ℕ → Option Move
parity_step true x = None
parity_step false x = cond (nat_lt x 256 && even x) (Some (Emit (x % 128))) None

abbrev pub parity_form : ℕ → Option WrittenByte
parity_form b = cond (nat_lt b 128) (Some (One (cond (even b) b (b + 128)))) None

abbrev pub parity_bytes : Recoding
parity_bytes = record { step = parity_step; form = parity_form; fault = number_of OddParity }

abbrev pub parity : Meaning → Meaning
parity = recoded parity_bytes

-- Shift: a byte from A0 to FF is 19 and that byte less 80, and one below 80 other than 19 stays
abbrev pub shift_step : Bool → ℕ → Option Move
shift_step false x = cond (nat_lt x 0x80) (cond (x == 0x19) (Some Hold) (Some (Emit x))) None
shift_step true x = cond (nat_le 0x20 x && nat_lt x 0x80) (Some (Emit (x + 0x80))) None

abbrev pub shift_form : ℕ → Option WrittenByte
shift_form b =
    cond (nat_lt b 0x80) (cond (b == 0x19) None (Some (One b)))
    (cond (nat_le 0xa0 b && nat_lt b 0x100) (Some (Two 0x19 (b - 0x80))) None)

abbrev pub shift_bytes : Recoding
shift_bytes = record { step = shift_step; form = shift_form; fault = number_of NotShifted }

abbrev pub shift : Meaning → Meaning
shift = recoded shift_bytes

-- Subrepertoire: the characters on a list
abbrev pub kept : List ℕ → Option ℕ → Option ℕ
kept ds None = None
kept ds (Some c) = cond (on_list ds c) (Some c) None

abbrev pub sub : List ℕ → Meaning → Meaning
sub ds m = record {
  codings = record {
    character = λ s. kept ds (m.codings.character s);
    string = λ c. cond (on_list ds c) (m.codings.string c) None;
  };
  openings = m.openings;
  causes = λ s. over (reading m s) (refusal NotListed);
  write_causes = λ c. over (writing m c) (refusal NotListed);
}

-- Controls: of those that are chosen, each that the set below refuses alone and does not write
-- chosen is a choice of 00 to 1F, by number
abbrev pub added : List Bool → Meaning → ℕ → Bool
added chosen m c =
    (nat_lt c 0x20 && slice_index_or chosen c false) &&
    (is_err (reading m (c ∷ [])) && is_none (m.codings.string c))

abbrev pub control : List Bool → Meaning → List ℕ → Option ℕ
control chosen m [] = None
control chosen m (c ∷ []) = cond (added chosen m c) (Some c) None
control chosen m (c ∷ d ∷ s) = None

abbrev pub controls : List Bool → Meaning → Meaning
controls chosen m = record {
  codings = record {
    character = λ s. option_or (m.codings.character s) (control chosen m s);
    string = λ c. cond (added chosen m c) (Some (c ∷ [])) (m.codings.string c);
  };
  openings = m.openings;
  causes = λ s. up (m.causes s);
  write_causes = λ c. up (m.write_causes c);
}
