-- A step between the same sets is a call more of every use.
use Rattle.std.proofs.Common.{◌≡◌, ℕ, List, ◌∷◌, drop, Some, None, Option, Result}
use Rattle.std.proofs.Common.{ap, ◌∙◌, refl, sym, length, subst₂}
use Rattle.std.specs.Borrow.{Bor, MutBor}
use lib.Seq.{drop-append_seam}
use Rattle.charset.specs.declared.CharacterSet.{Ghosts}
use Rattle.charset.specs.Meaning.{Meaning}
use Rattle.charset.specs.Sets.{set_of}
use Rattle.transcript.specs.declared.answers.Answer.{Answer}
use Rattle.transcript.specs.declared.answers.Refusal.{Refusal}
use Rattle.transcript.specs.declared.calls.Call.TheVariants as call
use Rattle.transcript.specs.declared.calls.Transcript.{Transcript}
use Rattle.transcript.specs.Calls.{Snapshot, OfferAnswer, CloseAnswer, refused, takes, offset_of}
use Rattle.transcript.specs.Calls.{OfferedIf}
use Rattle.transcript.specs.Uses.{Event, start, offer, close, status, Step, Use, wrote}
use Rattle.transcript.specs.Uses as uses
use Rattle.transcript.specs.Uses.{OutputStays}
use Rattle.transcript.specs.Transcripts.{source_set, target_set, come_to, SameSets, Steps, Calls}
use Rattle.transcript.specs.Called.{Returned, output_after, offered, closed}
use Rattle.transcript.proofs.Keeping.{answer_took}

pub output_stays : (S T : Meaning) (s t : Snapshot) (e : Event) → Step S T s e t → OutputStays e
output_stays S T s t start st = tt
output_stays S T s t (offer sector out r after) st =
    go (refused s.state s.taken sector out) st
  where
    go : (o : Option Refusal) → OfferedIf o S T s sector out r after t
        → drop (wrote r) after ≡ drop (wrote r) out
    go (Some q) p = ap (λ x. drop (wrote r) x) p.1
    go None w =
        let n = length w.target in
        let z : wrote r ≡ n =
        ap wrote w.answer
        ∙ (answer_took w.end (offset_of s w.source) (takes w.end s.held sector w.source) n).1 in
        ap (λ n. drop n after) z ∙ ap (λ x. drop n x) w.left
        ∙ drop-append_seam w.target (drop n out) ∙ ap (λ n. drop n out) (sym z)
output_stays S T s t (close r) st = tt
output_stays S T s t (status r) st = tt

module _ {S T : Type 0} {g : Ghosts S} {h : Ghosts T} where
  pub steps : (old new : Transcript S T g h) (e : Event) → SameSets old new
      → Step (source_set old) (target_set old) (come_to old) e (come_to new) → Steps old e new
  steps old new e same st = record {
    same_sets = same;
    step = st;
    goes_on = λ past u.
        subst₂ (λ x y. Use (set_of g x) (set_of h y) (e ∷ past) (come_to new))
        (sym same.source)
        (sym same.target) (uses.call {e = e} u st);
    output_stays = output_stays (source_set old) (target_set old) (come_to old) (come_to new) e st;
  }

  -- a step at a closing, and at an offer, as the call's one value
  pub closes : (old new : Transcript S T g h) (u : Returned) (a : CloseAnswer)
      (r : Result Answer Refusal) → r ≡ closed a → SameSets old new
      → Step (source_set old) (target_set old) (come_to old) (close a) (come_to new)
      → Calls old call.Close new u r
  closes old new u a r e same st = record {
    event = close a;
    is_event = (a, refl, e);
    steps = steps old new (close a) same st;
  }

  pub offers : (old new : Transcript S T g h) (i : Bor (List ℕ)) (o : MutBor (List ℕ))
      (u : Returned) (a : OfferAnswer) (r : Result Answer Refusal) → r ≡ offered a
      → SameSets old new → Step (source_set old) (target_set old) (come_to old)
      (offer i.now o.now a (output_after u)) (come_to new)
      → Calls old (call.Offer i o) new u r
  offers old new i o u a r e same st = record {
    event = offer i.now o.now a (output_after u);
    is_event = (a, refl, e);
    steps = steps old new (offer i.now o.now a (output_after u)) same st;
  }
