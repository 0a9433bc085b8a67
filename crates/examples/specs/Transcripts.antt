-- Worked examples of transcripts.
use Rattle.std.specs.Prelude.{◌≡◌, [], ◌∷◌, Ok, Err}
use Rattle.sets.specs.Iso6937.{iso6937}
use Rattle.sets.specs.SingleByte.{single_byte}
use Rattle.sets.specs.SingleByteTables.{iso8859_16}
use Rattle.conversion.specs.declared.Fault.TheVariants.{Unwritten, Unfinished}
use Rattle.transcript.specs.declared.answers.FaultAt.{FaultAt}
use Rattle.transcript.specs.declared.answers.Refusal.TheVariants.{Faulted, Standing}
use Rattle.transcript.specs.declared.answers.State.TheVariants.{Open}
use Rattle.transcript.specs.declared.answers.State.TheVariants as state
use Rattle.transcript.specs.declared.TheConstants.{LONGEST_SECTOR, LONGEST_OUTPUT, LONGEST_SOURCE}
use Rattle.layers.specs.declared.list.TheConstants.{MOST_CHARACTERS, LAST_CHARACTER}
use Rattle.roll.specs.declared.TheConstants.{SMALLEST_ROLL, LARGEST_ROLL, MOST_PAGES, LAST_FORM}
use Rattle.report.specs.declared.TheConstants.{LONGEST_INPUT}
use Rattle.transcript.specs.Told.{told}
use Rattle.transcript.specs.Calls.{done, fault_at}
use Rattle.transcript.specs.Uses.{start, offer, close, Use}
use Rattle.examples.specs.SetsAndLayers.{SetExamples}

-- ISO/IEC 8859-16 does not have s with cedilla: one byte taken and written before it, 38 at depth 0
abbrev pub no_cedilla_there : FaultAt
no_cedilla_there = fault_at (Unwritten 0x15f (record { cause = 38; depth = 0 })) 1 1 1

pub record WorkedExamples : Type 0 where
  -- how many bytes a sector, an output and a source may have
  pub transcript_limits :
      (LONGEST_SECTOR ≡ 4096) × (LONGEST_OUTPUT ≡ 65536) × (LONGEST_SOURCE ≡ 4294967296)
  -- how many characters a list may have, and up to which
  pub list_limits : (MOST_CHARACTERS ≡ 512) × (LAST_CHARACTER ≡ 0x10ffff)
  -- how many bytes and pages a roll may have, its last form, and how many bytes of it are read
  pub roll_limits : (SMALLEST_ROLL ≡ 16) × (LARGEST_ROLL ≡ 1048576) × (MOST_PAGES ≡ 1024)
      × (LAST_FORM ≡ 7) × (LONGEST_INPUT ≡ 65536)
  pub of_sets_and_layers : SetExamples
  -- ISO/IEC 6937 into ISO/IEC 8859-16: an acute in one sector is held, and with its letter in the
  -- next it is written
  pub acute_held : Use iso6937 (single_byte iso8859_16)
      (offer (0xc2 ∷ []) (0 ∷ []) (Ok (done 1 0)) (0 ∷ []) ∷ (start ∷ []))
      (record { state = Open; taken = 1; characters = 0; written = 0; held = 0xc2 ∷ [] })
  pub letter_next : Use iso6937 (single_byte iso8859_16)
      (offer (0x65 ∷ []) (0 ∷ []) (Ok (done 1 1)) (0xe9 ∷ [])
      ∷ (offer (0xc2 ∷ []) (0 ∷ []) (Ok (done 1 0)) (0 ∷ []) ∷ (start ∷ [])))
      (record { state = Open; taken = 2; characters = 1; written = 1; held = [] })
  -- a letter, then s with cedilla, which the target set does not have: 7 at offset 1
  pub no_cedilla : Use iso6937 (single_byte iso8859_16)
      (offer (0x41 ∷ 0xcb ∷ 0x73 ∷ []) (0 ∷ 0 ∷ [])
      (Err (Faulted no_cedilla_there)) (0x41 ∷ 0 ∷ []) ∷ (start ∷ []))
      (record {
        state = state.Faulted no_cedilla_there;
        taken = 1;
        characters = 1;
        written = 1;
        held = [];
      })
  -- an acute, then a closing: 9 at offset 0
  pub acute_closed : Use iso6937 (single_byte iso8859_16)
      (close (Err (Faulted (fault_at Unfinished 0 0 0)))
      ∷ (offer (0xc2 ∷ []) (0 ∷ []) (Ok (done 1 0)) (0 ∷ []) ∷ (start ∷ [])))
      (record {
        state = state.Faulted (fault_at Unfinished 0 0 0);
        taken = 1;
        characters = 0;
        written = 0;
        held = 0xc2 ∷ [];
      })
  pub numbers : ((told (Faulted no_cedilla_there)).number ≡ 7)
      × ((told (Faulted no_cedilla_there)).cause ≡ 38)
      × ((told (Faulted no_cedilla_there)).depth ≡ 0)
      × ((told (Faulted (fault_at Unfinished 0 0 0))).number ≡ 9)
  -- and the same inside a 4
  pub standing : ((told (Standing no_cedilla_there)).number ≡ 4)
      × ((told (Standing no_cedilla_there)).standing ≡ 7)
      × ((told (Standing no_cedilla_there)).cause ≡ 38)
      × ((told (Standing no_cedilla_there)).depth ≡ 0)
