-- One call, with its buffers, as an event of a use.
use Rattle.std.specs.Prelude.{◌≡◌, ℕ, ◌⊎◌, List, [], Ok, Err, Result}
use Rattle.std.proofs.Common.{inl, inr}
use Rattle.std.specs.Borrow.{Bor, MutBor}
use Rattle.transcript.specs.declared.answers.Answer.{Answer}
use Rattle.transcript.specs.declared.answers.Answer.TheVariants as answer
use Rattle.transcript.specs.declared.answers.Refusal.{Refusal}
use Rattle.transcript.specs.declared.answers.Status.{Status}
use Rattle.transcript.specs.declared.calls.Call.{Call}
use Rattle.transcript.specs.declared.calls.Call.TheVariants as call
use Rattle.transcript.specs.Calls.{OfferAnswer, CloseAnswer}
use Rattle.transcript.specs.Uses.{Event, start, offer, close, status}

-- a call as it is seen at the return: its cases in order, as a sum
abbrev pub Returned : Type 0
Returned = Unit {0}
    ⊎ ((Bor (List ℕ) × (MutBor (List ℕ) × Unit {0})) ⊎ (Unit {0} ⊎ (Unit {0} ⊎ ⊥)))

-- what the output of an offer, the second of its buffers, holds at the return
abbrev pub output_after : Returned → List ℕ
output_after (inl u) = []
output_after (inr (inl o)) = o.1.0.now
output_after (inr (inr u)) = []

-- the answers of the calls as answers of one type
abbrev pub offered : OfferAnswer → Result Answer Refusal
offered (Ok d) = Ok (answer.Offered d)
offered (Err q) = Err q

abbrev pub closed : CloseAnswer → Result Answer Refusal
closed (Ok u) = Ok answer.Closed
closed (Err q) = Err q

-- the call with its buffers and its answer is that event
abbrev pub IsEvent : Call → Returned → Result Answer Refusal → Event → Type 0
IsEvent call.Start g r e = (e ≡ start) × (r ≡ Ok answer.Started)
IsEvent (call.Offer i o) g r e =
    (a : OfferAnswer) × (e ≡ offer i.now o.now a (output_after g)) × (r ≡ offered a)
IsEvent call.Close g r e = (a : CloseAnswer) × (e ≡ close a) × (r ≡ closed a)
IsEvent call.Status g r e = (a : Status) × (e ≡ status a) × (r ≡ Ok (answer.Told a))
