-- The text of a page.
use Rattle.std.specs.Prelude.{◌≡◌, ℕ, ◌<◌, ◌≤◌, ◌⊎◌, List, [], length}
use Rattle.std.specs.Prelude.{Some, None, Ok, Err, vec_items, Option, Result, ◌≢◌}
use Rattle.transcript.specs.declared.TheConstants.{LONGEST_SOURCE}
use Rattle.charset.specs.declared.SetRefusal.{SetRefusal}
use Rattle.sets.specs.Utf8.{utf8}
use Rattle.conversion.specs.declared.Fault.{Fault}
use Rattle.conversion.specs.declared.Fault.TheVariants.{Unwritten}
use Rattle.transcript.specs.declared.transcription.Failure.{Failure}
use Rattle.transcript.specs.declared.transcription.Failure.TheVariants.{NoMemory, TooLong}
use Rattle.transcript.specs.declared.transcription.Failure.TheVariants as failure
use Rattle.transcript.specs.declared.transcription.Transcription.{Transcription}
use Rattle.transcript.specs.Carried.{Outcome, IsTranscription}
use Rattle.roll.specs.declared.refusal.RollRefusal.TheVariants.{WrongSize}
use Rattle.report.specs.declared.fault.RollFault.{RollFault}
use Rattle.report.specs.declared.fault.RollFault.TheVariants.{Refused, Faulted}
use Rattle.roll.specs.declared.page.Form.{Form}
use Rattle.roll.specs.declared.page.Page.{Page}
use Rattle.roll.specs.declared.page.Page.TheVariants.{Text, Picture}
use Rattle.report.specs.declared.text.PageFailure.{PageFailure}
use Rattle.report.specs.declared.text.PageFailure.TheVariants as page
use Rattle.report.specs.declared.text.PageText.{PageText}
use Rattle.forms.specs.FormSets.{form_set}

-- no character was met that has no coding in UTF-8
abbrev pub AlwaysWritten : Option Fault → Type 0
AlwaysWritten stop = (c : ℕ) (q : SetRefusal) → stop ≢ Some (Unwritten c q)

-- an outcome as the roll's, with the page number
abbrev pub on_page : ℕ → Outcome → Result (Unit {0}) RollFault
on_page n (Ok u) = Ok tt
on_page n (Err f) = Err (Faulted n f)

-- a failure as that of a page, with the page number
abbrev pub page_failure : ℕ → Failure → PageFailure
page_failure n NoMemory = page.NoMemory
page_failure n TooLong = page.Fault (Refused WrongSize)
page_failure n (failure.Faulted f) = page.Fault (Faulted n f)

-- a page's form; a picture has none
abbrev pub page_form : Page → Option Form
page_form (Text f part at) = Some f
page_form (Picture part at) = None

-- a page of text is transcribed by its form into UTF-8, unless it is longer than a source may be,
-- and so than any roll; a picture has no text
abbrev pub IsFormText : ℕ → Form → (part text : List ℕ) → (characters : ℕ)
    → Result (Unit {0}) RollFault → Type 0
IsFormText n f part text characters r =
    ((length part ≤ LONGEST_SOURCE) × (o : Outcome)
    × IsTranscription (form_set f) utf8 part text characters o × (r ≡ on_page n o))
    ⊎ ((LONGEST_SOURCE < length part) × (text ≡ []) × (characters ≡ 0)
    × (r ≡ Err (Refused WrongSize)))

abbrev pub IsPageText : ℕ → Page → (text : List ℕ) → (characters : ℕ)
    → Result (Unit {0}) RollFault → Type 0
IsPageText n (Text f part at) text characters r = IsFormText n f part.now text characters r
IsPageText n (Picture part at) text characters r = (text ≡ []) × (characters ≡ 0)
    × (r ≡ Ok tt)

abbrev pub IsTextOf : ℕ → Page → PageText → Type 0
IsTextOf n page t = IsPageText n page (vec_items t.text) t.characters t.outcome

-- the answer to a page: all of it or a fault is told, with its text; and where memory is wanting
-- nothing is said of that
abbrev pub TranscribesPage : ℕ → Page → Transcription → Result (Unit {0}) PageFailure
    → Type 0
TranscribesPage n p t (Ok u) = IsPageText n p (vec_items t.text) t.characters (Ok tt)
TranscribesPage n p t (Err page.NoMemory) = Unit {0}
TranscribesPage n p t (Err (page.Fault f)) = IsPageText n p (vec_items t.text) t.characters (Err f)
