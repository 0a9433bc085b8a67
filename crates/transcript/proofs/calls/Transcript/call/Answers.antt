-- At an offer, the call as it is seen at the return computes once the call is rewritten to its
-- case.
use Rattle.std.proofs.Common.{◌≡◌, ℕ, ◌⊎◌, List, Ok, Err, Result, sym, refl, ap}
use Rattle.std.proofs.Common.{subst, rules, inl, inr}
use Rattle.std.specs.Borrow.{Bor, MutBor}
use Rattle.std.specs.Result.{MatchResult}
use Rattle.std.proofs.lemmas.Result.{MatchResult-weaker}
use Rattle.charset.specs.Meaning.{Meaning}
use Rattle.charset.specs.Sets.{set_of}
use Rattle.transcript.specs.declared.answers.Answer.{Answer}
use Rattle.transcript.specs.declared.answers.Answer.TheVariants as answer
use Rattle.transcript.specs.declared.answers.Refusal.{Refusal}
use Rattle.transcript.specs.declared.answers.Refusal.TheVariants.{AlreadyClosed, Standing}
use Rattle.transcript.specs.declared.answers.State.TheVariants.{Open}
use Rattle.transcript.specs.declared.calls.Call.{Call}
use Rattle.transcript.specs.declared.calls.Call.TheVariants as call
use Rattle.transcript.specs.Calls.{Snapshot, OfferAnswer, CloseAnswer, limits, OfferedIf, refused}
use Rattle.transcript.specs.Calls.{ClosedOn}
use Rattle.transcript.specs.Snapshots.{snapshot}
use Rattle.transcript.specs.Uses.{start, offer, status, Step}
use Rattle.transcript.specs.Called.{offered, closed}
use Rattle.transcript.proofs.Stepping.{steps, closes, offers}
use Rattle.transcript.proofs.calls.Transcript.call.Goals as goal

-- an offer or a closing
abbrev OfferOrClose : Call → Type 0
OfferOrClose call.Start = ⊥
OfferOrClose (call.Offer i o) = Unit {0}
OfferOrClose call.Close = Unit {0}
OfferOrClose call.Status = ⊥

by_call : (z : Call) → OfferOrClose z
    → ((i : Bor (List ℕ)) × (o : MutBor (List ℕ)) × (z ≡ call.Offer i o))
    ⊎ (z ≡ call.Close)
by_call call.Start w = absurd w
by_call (call.Offer i o) w = inl (i, o, refl)
by_call call.Close w = inr refl
by_call call.Status w = absurd w

pub returns-in_default-Start : goal.returns-in_default-Start
returns-in_default-Start g c =
    let is : c.args.call ≡ call.Start = search rules in
    rw is (record {
      event = start;
      is_event = (refl, refl);
      steps = steps _ _ start (search rules) (search rules);
    })

pub returns-in_default-Status : goal.returns-in_default-Status
returns-in_default-Status g c =
    let is : c.args.call ≡ call.Status = search rules in
    rw is (record {
      event = status c.status.result;
      is_event = (c.status.result, refl, refl);
      steps = steps _ _ (status c.status.result) (search rules) (c.status.ensures, refl);
    })

pub returns-in-Closed-Offer : goal.returns-in-Closed-Offer
returns-in-Closed-Offer g c =
    elim (by_call c.args.call (search rules)) [
      | inl w ↦ rw w.2 (offers _ _ _ _ _ (Err AlreadyClosed) _ refl (search rules)
          (rw c.in-Closed-Offer.is-0 (refl, search rules, refl)))
      | inr w ↦ rw w (closes _ _ _ (Err AlreadyClosed) _ refl (search rules)
          (rw c.in-Closed-Offer.is-0 (refl, refl)))
    ]

pub returns-in-Faulted-Offer : goal.returns-in-Faulted-Offer
returns-in-Faulted-Offer g c =
    elim (by_call c.args.call (search rules)) [
      | inl w ↦ rw w.2 (offers _ _ _ _ _ (Err (Standing c.in-Faulted-Offer.fault)) _ refl
          (search rules) (rw c.in-Faulted-Offer.is-0 (refl, refl, refl)))
      | inr w ↦ rw w (closes _ _ _ (Err (Standing c.in-Faulted-Offer.fault)) _ refl
          (search rules) (rw c.in-Faulted-Offer.is-0 (refl, refl)))
    ]

-- the closing of an open transcript
closed_open : (s t : Snapshot) (r : CloseAnswer) → s.state ≡ Open → ClosedOn Open s.held s r t
    → ClosedOn s.state s.held s r t
closed_open s t r e h = subst (λ z. ClosedOn z s.held s r t) (sym e) h

pub returns-in_ok-finish-in-Open-Close : goal.returns-in_ok-finish-in-Open-Close
returns-in_ok-finish-in-Open-Close g c =
    rw c.in-Open-Close.is-1 (closes _ _ _ c.finish.result _
    (sym (ap closed c.in_ok-finish-in-Open-Close.was)) (search rules)
    (closed_open (snapshot c.args.self.now.progress) (snapshot c.finish.new.self) c.finish.result
    c.in-Open-Close.is-0 c.finish.ensures))

pub returns-in_err-finish-in-Open-Close : goal.returns-in_err-finish-in-Open-Close
returns-in_err-finish-in-Open-Close g c =
    rw c.in-Open-Close.is-1 (closes _ _ _ c.finish.result _
    (rw c.in_err-finish-in-Open-Close.was (search rules)) (search rules)
    (closed_open (snapshot c.args.self.now.progress) (snapshot c.finish.new.self) c.finish.result
    c.in-Open-Close.is-0 c.finish.ensures))

-- the work of an open transcript is the step of an offer
offered_open : (S T : Meaning) (s t : Snapshot) (i o q p : List ℕ) (a : OfferAnswer)
    → s.state ≡ Open → OfferedIf (limits s.taken i q) S T s i q a p t
    → q ≡ o → Step S T s (offer i o a p) t
offered_open S T s t i o q p a e h f =
    subst (λ z. OfferedIf (refused z s.taken i o) S T s i o a p t) (sym e)
    (subst (λ z. OfferedIf (limits s.taken i z) S T s i z a p t) f h)

-- what a call that succeeds makes of the answer of an offer
made : (a : OfferAnswer) (r : Result Answer Refusal)
    → MatchResult a (λ d. r ≡ Ok (answer.Offered d)) (λ q. r ≡ Err q) → r ≡ offered a
made (Ok d) r h = h
made (Err q) r h = h

pub returns-in-Open-Offer : goal.returns-in-Open-Offer
returns-in-Open-Offer g c =
    let m = c.args.self.now in
    let x = g.S.CharacterSet in let y = g.T.CharacterSet in
    rw c.in-Open-Offer.is-1 (offers _ _ _ _ _ c.feed.result _
    (made c.feed.result c.map.result (MatchResult-weaker c.feed.result c.map.ensures.cases
    (λ x p. search rules) (λ y p. p))) (search rules)
    (offered_open (set_of x m.converter.sets.source) (set_of y m.converter.sets.target)
    (snapshot m.progress) (snapshot c.feed.new.self.progress) c.in-Open-Offer.sector.now
    c.in-Open-Offer.output.now _ c.feed.new.output c.feed.result c.in-Open-Offer.is-0
    c.feed.ensures.offered (search rules)))
