-- The worked examples, by computing.
use Rattle.std.proofs.Common.{◌≡◌, ℕ, List, [], ◌∷◌, Ok, Err, refl}
use lib.Count.{ones}
use Rattle.charset.specs.declared.Reading.TheVariants.{Found, Open}
use Rattle.charset.specs.Answers.{ReadAnswer, Reads, reading}
use Rattle.charset.specs.Meaning.{Meaning, Laws}
use Rattle.charset.proofs.FrontLemmas.{reading_reads}
use Rattle.sets.specs.declared.cause.Cause.TheVariants.{NotInUse, NoPair}
use Rattle.sets.specs.Causes.{refusal}
use Rattle.sets.specs.Search.{first_from}
use Rattle.sets.specs.Iso6937Table.{supplementary, diacritics}
use Rattle.sets.specs.Laws.Iso6937.{iso6937_laws}
use Rattle.sets.specs.Laws.Utf8.{utf8_laws}
use Rattle.layers.specs.CharacterList.{required}
use Rattle.layers.specs.Depth.{own, up}
use Rattle.layers.specs.Laws.LayersKeep.{shift_laws, parity_laws}
use Rattle.examples.specs.SetsAndLayers.{WriteExamples, SetExamples}

pub by_reading : {m : Meaning} → Laws m → (s : List ℕ) (r : ReadAnswer) → reading m s ≡ r
    → Reads m s r
by_reading l s r e = rw (← e) (reading_reads l s)

write_examples : WriteExamples
unfolding reading supplementary diacritics first_from ones required
write_examples = record {
  parity_e_acute = (refl, refl);
  unlisted_e_acute = (refl, refl);
  unlisted_one = (refl, refl);
  shift_itself = (refl, refl);
  six_bytes = (refl, refl);
  forbidden_first = (refl, refl);
  three_deep = (refl, refl);
  parity_shift = (refl, refl);
  parity_long = (refl, refl);
  parity_list = (refl, refl);
  parity_set = (refl, refl);
  shift_control = (refl, refl);
  shift_list = (refl, refl);
  shift_parity = (refl, refl);
  shift_set = (refl, refl);
  list_itself = (refl, refl);
  list_shift = (refl, refl);
  controls_list = (refl, refl);
  controls_shift = (refl, refl);
  deepest = (refl, refl);
}

pub set_examples : SetExamples
unfolding reading supplementary diacritics first_from ones
set_examples = record {
  e_acute = by_reading iso6937_laws (0xc2 ∷ 0x65 ∷ []) (Ok (Found 0xe9 2)) refl;
  acute_open = by_reading iso6937_laws (0xc2 ∷ []) (Ok Open) refl;
  acute_stop = by_reading iso6937_laws (0xc2 ∷ 0x2e ∷ []) (Err (refusal NoPair)) refl;
  unused = by_reading iso6937_laws (0xe5 ∷ []) (Err (refusal NotInUse)) refl;
  no_eth = (refl, refl);
  shifted_e_acute =
      by_reading (shift_laws iso6937_laws) (0x19 ∷ 0x42 ∷ 0x65 ∷ []) (Ok (Found 0xe9 3)) refl;
  two_shifts = by_reading (shift_laws iso6937_laws) (0x19 ∷ 0x19 ∷ []) (Err (own 35)) refl;
  parity_e_acute = refl;
  odd_byte = by_reading (parity_laws (shift_laws iso6937_laws)) (0x19 ∷ []) (Err (own 34)) refl;
  two_shifts_below =
      by_reading (parity_laws (shift_laws iso6937_laws)) (0x99 ∷ 0x99 ∷ []) (Err (up (own 35)))
      refl;
  open_after_four =
      by_reading (shift_laws utf8_laws) (0x19 ∷ 0x62 ∷ 0x19 ∷ 0x20 ∷ []) (Err (own 36))
      refl;
  of_writing = write_examples;
}
