-- The worked examples, by computing.
use Rattle.std.proofs.Common.{◌≡◌, ℕ, ◌≤◌, List, [], ◌∷◌, ◌++◌, length, Ok}
use Rattle.std.proofs.Common.{Err, refl, arith}
use Rattle.charset.specs.declared.Reading.TheVariants as reading
use Rattle.charset.specs.Answers.{Reads, reading}
use Rattle.charset.specs.Meaning.{Meaning}
use Rattle.charset.specs.Decoding.{Spells}
use Rattle.sets.specs.Search.{first_from}
use Rattle.sets.specs.Iso6937Table.{supplementary, diacritics}
use Rattle.sets.specs.Iso6937.{iso6937}
use Rattle.sets.specs.Laws.Iso6937.{iso6937_laws}
use Rattle.sets.specs.SingleByte.{single_byte}
use Rattle.sets.specs.SingleByteTables.{iso8859_16}
use Rattle.conversion.specs.declared.Pause.TheVariants as pause
use Rattle.conversion.specs.Stops.{End, Stops, Reaches}
use Rattle.transcript.specs.declared.answers.Refusal.TheVariants.{Faulted}
use Rattle.transcript.specs.declared.answers.State.TheVariants.{Open}
use Rattle.transcript.specs.declared.answers.State.TheVariants as state
use Rattle.transcript.specs.Calls.{done}
use Rattle.transcript.specs.Uses.{start, offer, Use, made, call}
use Rattle.examples.proofs.ShownSets.{by_reading}
use Rattle.examples.proofs.ShownSets.{set_examples}
use Rattle.examples.specs.Transcripts.{no_cedilla_there, WorkedExamples}

-- ISO/IEC 6937 into ISO/IEC 8859-16
abbrev latin : Meaning
latin = single_byte iso8859_16

cedilla_read : Reads iso6937 (0xcb ∷ 0x73 ∷ []) (Ok (reading.Found 0x15f 2))
unfolding reading supplementary diacritics first_from
cedilla_read = by_reading iso6937_laws (0xcb ∷ 0x73 ∷ []) (Ok (reading.Found 0x15f 2)) refl

-- an end behind some characters
abbrev reaching : (input : List ℕ) (room : ℕ) (e : End) (chars source target rest : List ℕ)
    → Spells iso6937 chars source → Spells latin chars target → input ≡ source ++ rest
    → length target ≤ room → Stops iso6937 latin rest (length target) room e
    → Reaches iso6937 latin input room e chars source target
reaching input room e chars source target rest a b c d f =
    record { rest = rest; leads = record { from = a; into = b; begins = c; fits = d }; stops = f }

acute_offered : Use iso6937 latin (offer (0xc2 ∷ []) (0 ∷ []) (Ok (done 1 0)) (0 ∷ [])
    ∷ (start ∷ []))
    (record { state = Open; taken = 1; characters = 0; written = 0; held = 0xc2 ∷ [] })
acute_offered = call made (record {
  chars = [];
  source = [];
  target = [];
  end = Ok pause.Open;
  reaches =
      reaching (0xc2 ∷ []) 1 (Ok pause.Open) [] [] [] (0xc2 ∷ []) refl refl refl (omega arith)
      set_examples.acute_open;
  answer = refl;
  left = refl;
  next = refl;
})

letter_offered : Use iso6937 latin (offer (0x65 ∷ []) (0 ∷ []) (Ok (done 1 1)) (0xe9 ∷ [])
    ∷ (offer (0xc2 ∷ []) (0 ∷ []) (Ok (done 1 0)) (0 ∷ []) ∷ (start ∷ [])))
    (record { state = Open; taken = 2; characters = 1; written = 1; held = [] })
unfolding supplementary diacritics first_from iso8859_16
letter_offered = call acute_offered (record {
  chars = 0xe9 ∷ [];
  source = 0xc2 ∷ 0x65 ∷ [];
  target = 0xe9 ∷ [];
  end = Ok pause.Open;
  reaches =
      reaching (0xc2 ∷ 0x65 ∷ []) 1 (Ok pause.Open) (0xe9 ∷ []) (0xc2 ∷ 0x65 ∷ [])
      (0xe9 ∷ []) []
      (0xc2 ∷ 0x65 ∷ [], [], refl, refl, refl) (0xe9 ∷ [], [], refl, refl, refl) refl
      (omega arith)
      iso6937_laws.empty_opens;
  answer = refl;
  left = refl;
  next = refl;
})

cedilla_offered : Use iso6937 latin
    (offer (0x41 ∷ 0xcb ∷ 0x73 ∷ []) (0 ∷ 0 ∷ [])
    (Err (Faulted no_cedilla_there))
    (0x41 ∷ 0 ∷ []) ∷ (start ∷ []))
    (record {
      state = state.Faulted no_cedilla_there;
      taken = 1;
      characters = 1;
      written = 1;
      held = [];
    })
unfolding supplementary diacritics first_from iso8859_16
cedilla_offered = call made (record {
  chars = 0x41 ∷ [];
  source = 0x41 ∷ [];
  target = 0x41 ∷ [];
  end = Err no_cedilla_there.fault;
  reaches =
      reaching (0x41 ∷ 0xcb ∷ 0x73 ∷ []) 2 (Err no_cedilla_there.fault) (0x41 ∷ [])
      (0x41 ∷ [])
      (0x41 ∷ []) (0xcb ∷ 0x73 ∷ []) (0x41 ∷ [], [], refl, refl, refl)
      (0x41 ∷ [], [], refl, refl, refl) refl (omega arith) (2, cedilla_read, (refl, refl));
  answer = refl;
  left = refl;
  next = refl;
})

pub worked_examples : WorkedExamples
worked_examples = record {
  transcript_limits = (refl, refl, refl);
  list_limits = (refl, refl);
  roll_limits = (refl, refl, refl, refl, refl);
  of_sets_and_layers = set_examples;
  acute_held = acute_offered;
  letter_next = letter_offered;
  no_cedilla = cedilla_offered;
  acute_closed = call acute_offered (refl, refl);
  numbers = (refl, refl, refl, refl);
  standing = (refl, refl, refl, refl);
}
