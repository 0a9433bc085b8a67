-- Worked examples.
use Rattle.std.specs.Prelude.{◌≡◌, ℕ, true, [], ◌∷◌, Some, Ok, Err, replicate}
use Rattle.charset.specs.declared.Reading.TheVariants.{Found, Open}
use Rattle.charset.specs.Meaning.{Meaning}
use Rattle.charset.specs.Answers.{ReadAnswer, Reads, Writes}
use Rattle.sets.specs.Iso6937.{iso6937}
use Rattle.sets.specs.Utf8.{utf8}
use Rattle.layers.specs.CharacterList.{required}
use Rattle.examples.specs.Odd.{odd}
use Rattle.layers.specs.Layers.{parity, shift, sub, controls}

-- the refusal with this cause, and so many layers above the one that refused
abbrev pub refused : (cause depth : ℕ) → ReadAnswer
refused n d = Err (record { cause = n; depth = d })

-- a set cannot write c, with this cause, and so many layers above the one that says so
abbrev pub CannotWrite : Meaning → (c cause depth : ℕ) → Type 0
CannotWrite m c n d = Writes m c (Err (record { cause = n; depth = d }))

-- the controls, all chosen, over a set; and the 74 characters of every list below them
abbrev pub with_controls : Meaning → Meaning
with_controls m = controls (replicate 32 true) m

abbrev pub with_both : Meaning → Meaning
with_both m = with_controls (sub required m)

pub record WriteExamples : Type 0 where
  -- parity over ISO/IEC 6937: e with acute, C2 65 below
  pub parity_e_acute : CannotWrite (parity iso6937) 0xe9 34 0
  -- the 74 characters over ISO/IEC 6937: e with acute, and a character that it does not have
  pub unlisted_e_acute : CannotWrite (sub required iso6937) 0xe9 37 0
  pub unlisted_one : CannotWrite (sub required iso6937) 0x4e00 38 1
  -- shift over UTF-8: a byte 19; three bytes that take six; and a byte 80 behind three that do
  pub shift_itself : CannotWrite (shift utf8) 0x19 35 0
  pub six_bytes : CannotWrite (shift utf8) 0x820 36 0
  pub forbidden_first : CannotWrite (shift utf8) 0x20800 35 0
  -- three layers, as those of 7-bit text with parity
  pub three_deep : CannotWrite (parity (with_controls (shift iso6937))) 0x4e00 38 3
  -- four layers, parity at the top, which has none of its own over seven bits: shift's causes (a
  -- byte 19 alone is open in shift, so that control is not added), the list's, and UTF-8's for a
  -- surrogate
  pub parity_shift : CannotWrite (parity (with_both (shift utf8))) 0x19 35 3
  pub parity_long : CannotWrite (parity (with_both (shift utf8))) 0x820 36 3
  pub parity_list : CannotWrite (parity (with_both (shift utf8))) 0x21 37 2
  pub parity_set : CannotWrite (parity (with_both (shift utf8))) 0xd800 38 4
  -- shift at the top: its own cause for a control that is added, the list's, parity's, and that of
  -- ISO/IEC 6937
  pub shift_control : CannotWrite (shift (with_both (parity iso6937))) 0x19 35 0
  pub shift_list : CannotWrite (shift (with_both (parity iso6937))) 0x21 37 2
  pub shift_parity : CannotWrite (shift (with_both (parity iso6937))) 0xe9 34 3
  pub shift_set : CannotWrite (shift (with_both (parity iso6937))) 0x4e00 38 4
  -- the list at the top: its own, and shift's from below; controls at the top: all from below
  pub list_itself : CannotWrite (sub required (with_controls (parity (shift utf8)))) 0x21 37 0
  pub list_shift : CannotWrite (sub required (with_controls (parity (shift utf8)))) 0x820 36 3
  pub controls_list : CannotWrite (with_both (parity (shift utf8))) 0x21 37 1
  pub controls_shift : CannotWrite (with_both (parity (shift utf8))) 0x85 35 3
  -- a set whose cause of writing is as deep as can be
  pub deepest : CannotWrite (parity odd) 0x42 78 255

pub record SetExamples : Type 0 where
  -- ISO/IEC 6937: e with acute, an acute alone, an acute before a full stop, a position not in use,
  -- capital eth
  pub e_acute : Reads iso6937 (0xc2 ∷ 0x65 ∷ []) (Ok (Found 0xe9 2))
  pub acute_open : Reads iso6937 (0xc2 ∷ []) (Ok Open)
  pub acute_stop : Reads iso6937 (0xc2 ∷ 0x2e ∷ []) (refused 32 0)
  pub unused : Reads iso6937 (0xe5 ∷ []) (refused 31 0)
  pub no_eth : CannotWrite iso6937 0xd0 38 0
  -- shift over ISO/IEC 6937: e with acute in seven bits, and two shifts in a row
  pub shifted_e_acute : Reads (shift iso6937) (0x19 ∷ 0x42 ∷ 0x65 ∷ []) (Ok (Found 0xe9 3))
  pub two_shifts : Reads (shift iso6937) (0x19 ∷ 0x19 ∷ []) (refused 35 0)
  -- parity over that: the same with parity, a byte with an odd number of ones, and two shifts one
  -- layer down
  pub parity_e_acute : (parity (shift iso6937)).codings.string 0xe9
      ≡ Some (0x99 ∷ 0x42 ∷ 0x65 ∷ [])
  pub odd_byte : Reads (parity (shift iso6937)) (0x19 ∷ []) (refused 34 0)
  pub two_shifts_below : Reads (parity (shift iso6937)) (0x99 ∷ 0x99 ∷ []) (refused 35 1)
  -- shift over UTF-8: open after four bytes
  pub open_after_four : Reads (shift utf8) (0x19 ∷ 0x62 ∷ 0x19 ∷ 0x20 ∷ []) (refused 36 0)
  -- why characters cannot be written
  pub of_writing : WriteExamples
