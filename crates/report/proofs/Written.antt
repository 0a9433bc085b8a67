-- Every character of every form has a coding in UTF-8.
use Rattle.std.proofs.Common.{◌≡◌, ℕ, true, List, [], ◌∷◌, take, drop, Some, None}
use Rattle.std.proofs.Common.{Ok, Err, Option, Result, length, sym, refl, ◌∙◌, subst, inl}
use Rattle.std.proofs.Common.{inr, arith}
use Rattle.std.proofs.lemmas.Option.{none-some}
use Rattle.charset.specs.Meaning.{Meaning, Codes, Laws}
use Rattle.sets.specs.Iso6937.{iso6937}
use Rattle.sets.specs.SingleByte.{single_byte}
use Rattle.sets.specs.SingleByteTables.{iso8859_16, sami}
use Rattle.sets.specs.Utf8.{utf8}
use Rattle.sets.specs.Laws.Columns.{all_low, low_at}
use Rattle.sets.specs.Laws.Iso6937.{iso6937_laws, low_character}
use Rattle.sets.specs.Laws.SingleByte.{single_byte_laws}
use Rattle.sets.proofs.SingleByteTables.{iso8859_16_once, sami_once}
use Rattle.sets.specs.Laws.Utf8.{utf8_laws, low_written}
use Rattle.layers.specs.CharacterList.{required}
use Rattle.layers.specs.Layers.{parity, shift, sub, controls}
use Rattle.layers.specs.Laws.LayersKeep.{shift_laws, sub_laws, controls_laws}
use Rattle.layers.proofs.Wording.{parity_meaning, shift_meaning}
use Rattle.layers.proofs.MoreWording.{sub_meaning, controls_meaning}
use Rattle.conversion.specs.declared.Fault.{Fault}
use Rattle.conversion.specs.declared.Fault.TheVariants.{Unwritten}
use Rattle.conversion.specs.Transcribed.{Ends}
use Rattle.transcript.specs.declared.transcription.Failure.{Failure}
use Rattle.transcript.specs.declared.transcription.Failure.TheVariants.{NoMemory, TooLong, Faulted}
use Rattle.transcript.specs.Carried.{fault_told_in, Transcribes}
use Rattle.roll.specs.declared.page.Form.{Form}
use Rattle.roll.specs.declared.page.Form.TheVariants.{EightBit, SevenBit, SevenBitParity, Latin10}
use Rattle.roll.specs.declared.page.Form.TheVariants.{Sami, Unicode, Basic}
use Rattle.forms.specs.FormSets.{form_set}
use Rattle.forms.specs.PageControls.{page_controls}
use Rattle.report.specs.Texts.{AlwaysWritten}

abbrev InUtf8 : ℕ → Type 0
InUtf8 c = (v : List ℕ) × (utf8.codings.string c ≡ Some v)

abbrev AllInUtf8 : Meaning → Type 0
AllInUtf8 m = (s : List ℕ) (c : ℕ) → Codes m s c → InUtf8 c

table_written : (columns : List (List ℕ)) → all_low columns ≡ true
    → AllInUtf8 (single_byte columns)
table_written columns ok [] c e = cc
table_written columns ok (a ∷ b ∷ s) c e = cc
table_written columns ok (b ∷ []) c e = low_written c (low_at columns ok b c e)

latin_low : all_low iso8859_16 ≡ true
unfolding iso8859_16
latin_low = refl

sami_low : all_low sami ≡ true
unfolding sami
sami_low = refl

-- the layers add no character but controls
controls_written : (m : Meaning) → Laws m → AllInUtf8 m → AllInUtf8 (controls page_controls m)
controls_written m l h s c e = elim ((controls_meaning page_controls m l).codes s c e) [
  | inl k ↦ h s c k
  | inr k ↦ low_written c (omega (arith, k.1.control))
]

shift_written : (m : Meaning) → Laws m → AllInUtf8 m → AllInUtf8 (shift m)
shift_written m l h s c e = let k = (shift_meaning m l).codes s c e in h k.0 c k.2

parity_written : (m : Meaning) → Laws m → AllInUtf8 m → AllInUtf8 (parity m)
parity_written m l h s c e = let k = (parity_meaning m l).codes s c e in h k.0 c k.2

sub_written : (ds : List ℕ) (m : Meaning) → Laws m → AllInUtf8 m → AllInUtf8 (sub ds m)
sub_written ds m l h s c e = h s c ((sub_meaning ds m l).codes s c e).0

iso_written : AllInUtf8 iso6937
iso_written s c e = low_written c (low_character s c e)

form_written : (f : Form) → AllInUtf8 (form_set f)
form_written EightBit = controls_written iso6937 iso6937_laws iso_written
form_written SevenBit =
    controls_written (shift iso6937) (shift_laws iso6937_laws)
    (shift_written iso6937 iso6937_laws iso_written)
form_written SevenBitParity =
    parity_written (controls page_controls (shift iso6937))
    (controls_laws page_controls (shift_laws iso6937_laws))
    (controls_written (shift iso6937) (shift_laws iso6937_laws)
    (shift_written iso6937 iso6937_laws iso_written))
form_written Latin10 =
    controls_written (single_byte iso8859_16) (single_byte_laws iso8859_16 iso8859_16_once)
    (table_written iso8859_16 latin_low)
form_written Sami =
    controls_written (single_byte sami) (single_byte_laws sami sami_once)
    (table_written sami sami_low)
form_written Unicode = λ s c e. (s, utf8_laws.read s c e)
form_written Basic =
    controls_written (sub required iso6937) (sub_laws required iso6937_laws)
    (sub_written required iso6937 iso6937_laws iso_written)

ends_written : (m : Meaning) → AllInUtf8 m → (rest : List ℕ) (stop : Option Fault)
    → Ends m utf8 rest stop → AlwaysWritten stop
ends_written m all rest stop h c q e =
    let k : Ends m utf8 rest (Some (Unwritten c q)) = subst (Ends m utf8 rest) e h in
    none-some _ (sym k.2.0 ∙ (all (take k.0 rest) c k.1.1).1)

pub always_written : (f : Form) (bytes text : List ℕ) (n : ℕ) (r : Result (Unit {0}) Failure)
    → Transcribes (form_set f) utf8 bytes text n r → AlwaysWritten (fault_told_in r)
always_written f bytes text n (Ok u) h =
    ends_written (form_set f) (form_written f) (drop (length bytes) bytes) None
    h.the_transcription.transcribed.ends
always_written f bytes text n (Err NoMemory) h = λ c q e. cc
always_written f bytes text n (Err TooLong) h = λ c q e. cc
always_written f bytes text n (Err (Faulted p)) h =
    ends_written (form_set f) (form_written f) (drop p.offset bytes) (Some p.fault)
    h.the_transcription.transcribed.ends
