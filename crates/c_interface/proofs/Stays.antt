-- What a record keeps of a transcript after a call: an opening is held, and the transcript is in a
-- state in which one can be.
use Rattle.std.proofs.Common.{◌≡◌, ℕ, List, [], ◌∷◌, Some, None, Ok, Err, Option}
use Rattle.std.proofs.Common.{refl, sym, subst}
use Rattle.charset.specs.Meaning.{Meaning, IsOpening, Laws}
use Rattle.conversion.specs.declared.Fault.TheVariants.{Unread, Unwritten, Unfinished}
use Rattle.conversion.specs.declared.Pause.TheVariants as pause
use Rattle.conversion.specs.Stops.{End, Stops}
use Rattle.transcript.specs.declared.answers.State.{State}
use Rattle.transcript.specs.declared.answers.State.TheVariants.{Open, Faulted, Closed}
use Rattle.transcript.specs.Calls.{Snapshot, OfferAnswer, CloseAnswer, unless_any, holds}
use Rattle.transcript.specs.Calls.{state_after, refused, OfferedIf, Offered, ClosedOn}
use Rattle.transcript.specs.declared.progress.Progress.{Progress}
use Rattle.transcript.specs.Snapshots.{snapshot}
use Rattle.forms.specs.FormSets.{form_set}
use Rattle.forms.proofs.FormLaws.{form_laws}
use Rattle.c_interface.specs.declared.form_transcript.FormTranscript.{FormTranscript}
use Rattle.c_interface.specs.FormTranscripts.{CanBeKept}
use Rattle.c_interface.specs.Records.{CanBeIn}

-- such a transcript from a set
pub record Sound (S : Meaning) (s : Snapshot) : Type 0 where
  pub opening : IsOpening S s.held
  pub can_be : CanBeIn s.state

module _ (S T : Meaning) (l : Laws S) where
  unless_any_opens : (chars held : List ℕ) → IsOpening S held
      → IsOpening S (unless_any chars held)
  unless_any_opens [] held o = o
  unless_any_opens (c ∷ cs) held o = l.empty_opens

  holds_opening : (e : End) (held chars rest : List ℕ) (used room : ℕ) → IsOpening S held
      → Stops S T rest used room e → IsOpening S (holds e held chars rest)
  holds_opening (Ok pause.Open) held chars rest used room o st = st
  holds_opening (Ok pause.Full) held chars rest used room o st = unless_any_opens chars held o
  holds_opening (Err f) held chars rest used room o st = unless_any_opens chars held o

  can_be_after : (e : End) (rest : List ℕ) (used room o n w : ℕ) → Stops S T rest used room e
      → CanBeIn (state_after e o n w)
  can_be_after (Ok p) rest used room o n w st = tt
  can_be_after (Err (Unread q)) rest used room o n w st = tt
  can_be_after (Err (Unwritten c q)) rest used room o n w st = l.characters _ c st.1.1
  can_be_after (Err Unfinished) rest used room o n w st = absurd st

  module _ (s t : Snapshot) (h : Sound S s) where
    offered_if : (q : Option _) (sector out : List ℕ) (r : OfferAnswer) (after : List ℕ)
        → OfferedIf q S T s sector out r after t → Sound S t
    offered_if (Some q) sector out r after w = subst (Sound S) (sym w.2) h
    offered_if None sector out r after w =
        let stops = w.reaches.stops in
        subst (Sound S) (sym w.next) (record {
          opening = holds_opening w.end s.held w.chars w.reaches.rest _ _ h.opening stops;
          can_be = can_be_after w.end w.reaches.rest _ _ _ _ _ stops;
        })

    pub after_offer : (sector out : List ℕ) (r : OfferAnswer) (after : List ℕ)
        → Offered S T s sector out r after t → Sound S t
    after_offer sector out r after w =
        offered_if (refused s.state s.taken sector out) sector out r after w

    closed_on : (p : State) (held : List ℕ) (r : CloseAnswer) → ClosedOn p held s r t
        → Sound S t
    closed_on Open [] r w = rw w.1 (record { opening = h.opening; can_be = tt })
    closed_on Open (b ∷ bs) r w = rw w.1 (record { opening = h.opening; can_be = refl })
    closed_on (Faulted f) held r w = rw w.1 h
    closed_on Closed held r w = rw w.1 h

    pub after_close : (r : CloseAnswer) → ClosedOn s.state s.held s r t → Sound S t
    after_close r w = closed_on s.state s.held r w

-- a transcript that a record can keep, between sets that mean those of its forms, is one still when
-- a call has taken it further
module _ (k : FormTranscript) (S T : Meaning) (from : S ≡ form_set k.source) (s t : Snapshot)
    (come : s ≡ snapshot k.progress) (kept : CanBeKept k) (p : Progress) (now : snapshot p ≡ t)
  where
    laws : Laws S
    laws = rw from (form_laws k.source)

    before : Sound S s
    before = rw (from, come) (record { opening = kept.opening; can_be = kept.can_be })

    after_it : Sound S t
        → CanBeKept (record { source = k.source; target = k.target; progress = p })
    after_it h =
        let there = subst (λ m. Sound m (snapshot p)) from (subst (Sound S) (sym now) h) in
        record { opening = there.opening; can_be = there.can_be }

    pub offer_kept : (sector out : List ℕ) (r : OfferAnswer) (after : List ℕ)
        → Offered S T s sector out r after t
        → CanBeKept (record { source = k.source; target = k.target; progress = p })
    offer_kept sector out r after w =
        after_it (after_offer S T laws s t before sector out r after w)

    pub close_kept : (r : CloseAnswer) → ClosedOn s.state s.held s r t
        → CanBeKept (record { source = k.source; target = k.target; progress = p })
    close_kept r w = after_it (after_close S T laws s t before r w)

-- a closing that is accepted
pub closed_so : (s t : Snapshot) (p : Progress) → snapshot p ≡ t → (r : CloseAnswer)
    → r ≡ Ok tt → ClosedOn s.state s.held s r t
    → ClosedOn s.state s.held s (Ok tt) (snapshot p)
closed_so s t p now r e w =
    subst (λ x. ClosedOn s.state s.held s x (snapshot p)) e
    (subst (ClosedOn s.state s.held s r) (sym now) w)
