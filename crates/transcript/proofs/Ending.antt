-- The end of a text: its last offer faulted, or all is taken and the transcript is closed.
use Rattle.std.proofs.Common.{◌≡◌, ℕ, ◌+◌, ◌-◌, List, [], ◌∷◌, ◌++◌}
use Rattle.std.proofs.Common.{length, Some, None, Ok, Err, sym, refl, ap, ◌∙◌, subst, inl}
use Rattle.std.proofs.Common.{inr, arith, length-append, append-nil}
use Rattle.charset.specs.Meaning.{Meaning, Laws}
use Rattle.charset.specs.Decoding.{Spells}
use Rattle.conversion.specs.declared.Fault.TheVariants.{Unfinished}
use Rattle.transcript.specs.declared.answers.FaultAt.{FaultAt}
use Rattle.transcript.specs.declared.answers.Refusal.TheVariants as refusal
use Rattle.transcript.specs.declared.answers.State.TheVariants.{Open}
use Rattle.transcript.specs.Calls.{Snapshot, CloseAnswer, unfinished, status_of, ClosedOn}
use Rattle.transcript.specs.Uses.{close, status, Step, call, taken_in, written_in}
use Rattle.transcript.specs.Law.{StandsOn}
use Rattle.transcript.proofs.Keeping.{stands}
use Rattle.conversion.specs.Transcribed.{Ends, Transcribed, TheTranscription}
use Rattle.transcript.specs.Carried.{Outcome, fault_in, offset_in, refused_by, CarriedOut}
use Rattle.conversion.proofs.Once.{the_transcription}
use Rattle.transcript.proofs.Along.{Along, up_to}
use Rattle.transcript.proofs.Sectors.{Stopped}

-- what is promised of a text and its outcome
abbrev pub Promised : Meaning → Meaning → (bytes text : List ℕ) → ℕ → Outcome → Type 0
Promised S T bytes text count o =
    TheTranscription S T bytes text count (offset_in bytes o) (fault_in o)
    × CarriedOut S T bytes text count o

-- what a closing comes to
abbrev ClosesTo : Meaning → Meaning → (bytes text : List ℕ) → ℕ → CloseAnswer → Type 0
ClosesTo S T bytes text count (Ok u) = Transcribed S T bytes text count (length bytes) None
ClosesTo S T bytes text count (Err q) =
    (f : FaultAt) × (q ≡ refusal.Faulted f)
    × Transcribed S T bytes text count f.offset (Some f.fault)

module _ (S T : Meaning) (l : Laws S) (bytes text : List ℕ) where
  pub after_fault : (f : FaultAt) (t : Snapshot) → Stopped S T bytes text f t
      → Promised S T bytes text t.characters (Err f)
  after_fault f t h = (
    the_transcription S T l h.transcribed,
    record {
      offers = h.offers;
      events = status (status_of t) ∷ h.offers;
      last = t;
      told = status_of t;
      used = call h.used (refl, refl);
      fed = h.fed;
      in_pieces = h.in_pieces;
      taken_or_faulted = h.answered;
      ended = inl (f, refl, h.state_is, refl);
      text_is = h.text_is;
      characters_is = refl;
    },
  )

  module _ (rest : List ℕ) (s : Snapshot) (along : Along S T bytes text rest s)
      (all : rest ≡ [])
    where
      before : StandsOn S T (taken_in along.offers) (written_in along.offers) s
      before = stands S T l along.used

      taken_all : taken_in along.offers ≡ bytes
      taken_all =
          sym (along.parts ∙ ap (λ z. taken_in along.offers ++ z) all
          ∙ append-nil (taken_in along.offers))

      whole : bytes ≡ before.decodes.spelt ++ s.held
      whole = sym taken_all ∙ before.decodes.parts

      -- up to the held bytes the text is transcribed
      ends_at : (offset : ℕ) (stop : _) → length before.decodes.spelt ≡ offset
          → Ends S T s.held stop
          → Transcribed S T bytes text s.characters offset stop
      ends_at offset stop size e =
          up_to S T bytes text before.decodes.spelt s.held before.chars s.characters offset stop
          whole
          size before.counts_characters before.decodes.spells
          (subst (λ z. Spells T before.chars z) (sym along.text_is) before.writes) e

      closes : (t : Snapshot) (r : CloseAnswer) → Step S T s (close r) t
          → ClosesTo S T bytes text t.characters r
      closes t r st = go s.held refl r (subst (λ z. ClosedOn z s.held s r t) along.going st)
        where
          size : length bytes ≡ length before.decodes.spelt + length s.held
          size = ap length whole ∙ length-append before.decodes.spelt s.held

          count : s.taken ≡ length bytes
          count = before.counts_taken ∙ ap length taken_all

          go : (h : List ℕ) → s.held ≡ h → (r : CloseAnswer) → ClosedOn Open h s r t
              → ClosesTo S T bytes text t.characters r
          go [] e (Ok u) c =
              rw c.1 (ends_at (length bytes) None (omega (arith, size, ap length e)) e)
          go [] e (Err q) c = let x = c.0 in cc
          go (b ∷ bs) e (Ok u) c = let x = c.0 in cc
          go (b ∷ bs) e (Err q) c =
              let same : q ≡ refusal.Faulted (unfinished s) = (let x = c.0 in cc) in (
                unfinished s,
                same,
                rw c.1 (ends_at (s.taken - length s.held) (Some Unfinished)
                    (omega (arith, size, count))
                    (before.decodes.opens, omega (arith, ap length e))),
              )

      pub after_closing : (t : Snapshot) (r : CloseAnswer) (o : Outcome) → Step S T s (close r) t
          → r ≡ refused_by o → Promised S T bytes text t.characters o
      after_closing t r o st e =
          let step : Step S T s (close (refused_by o)) t =
          subst (λ z. Step S T s (close z) t) e st in (
            the_transcription S T l (by_outcome o (closes t (refused_by o) step)),
            record {
              offers = along.offers;
              events = status (status_of t) ∷ (close (refused_by o) ∷ along.offers);
              last = t;
              told = status_of t;
              used = call (call along.used step) (refl, refl);
              fed = along.fed;
              in_pieces = along.in_pieces;
              taken_or_faulted = along.answered;
              ended = inr (taken_all, refl);
              text_is = along.text_is;
              characters_is = refl;
            },
          )
        where
          by_outcome : (o : Outcome) → ClosesTo S T bytes text t.characters (refused_by o)
              → Transcribed S T bytes text t.characters (offset_in bytes o) (fault_in o)
          by_outcome (Ok u) h = h
          by_outcome (Err f) h =
              let same : h.0 ≡ f = (let x = h.1 in cc) in
              subst (λ z. Transcribed S T bytes text t.characters z.offset (Some z.fault)) same h.2
