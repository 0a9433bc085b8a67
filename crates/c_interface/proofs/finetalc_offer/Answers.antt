use Rattle.forms.proofs.FormLaws.{form_laws}
use Rattle.forms.specs.FormSets.{form_set}
use Rattle.transcript.proofs.Back.{transcription_law}
use Rattle.c_interface.proofs.OneTranscript.{one_transcript}
use Rattle.c_interface.proofs.finetalc_offer.Goals as goal

pub returns-clause-one_transcript : goal.returns-clause-one_transcript
returns-clause-one_transcript c = one_transcript

pub returns-clause-its_law : goal.returns-clause-its_law
returns-clause-its_law c =
    λ f g s k. transcription_law (form_set f) (form_set g) (form_laws f) (form_laws g)
