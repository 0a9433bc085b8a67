-- Offers of a text, sector after sector, and what they come to.
use Rattle.std.proofs.Common.{◌≡◌, ℕ, ◌+◌, ◌≤◌, List, [], ◌∷◌, ◌++◌}
use Rattle.std.proofs.Common.{length, take, drop, Some, None, Ok, Err, Option, sym, refl, ap}
use Rattle.std.proofs.Common.{◌∙◌, subst, arith, length-append, take_at, drop_at}
use Rattle.std.proofs.lemmas.Bool.Decides.{nat_tests}
use Rattle.charset.specs.declared.Reading.TheVariants.{Found}
use Rattle.charset.specs.Meaning.{Meaning, Laws}
use Rattle.charset.proofs.FrontLemmas.{reads_on}
use Rattle.charset.specs.Decoding.{Spells}
use Rattle.conversion.specs.declared.Fault.{Fault}
use Rattle.conversion.specs.declared.Fault.TheVariants.{Unread, Unwritten, Unfinished}
use Rattle.conversion.specs.Stops.{Stops}
use Rattle.transcript.specs.declared.answers.State.TheVariants.{Open}
use Rattle.transcript.specs.Calls.{Snapshot, fresh, limits}
use Rattle.transcript.specs.Uses.{Event, start, Use, made, taken_in, written_in}
use Rattle.transcript.specs.Law.{Feeds}
use Rattle.conversion.specs.Transcribed.{Ends, Transcribed}
use Rattle.transcript.specs.Carried.{InPieces, AllTakenOrFaulted}

-- the bytes before the rest are offered and taken, and their text is written
pub record Along (S T : Meaning) (bytes text rest : List ℕ) (s : Snapshot) : Type 0 where
  pub offers : List Event
  pub used : Use S T offers s
  pub fed : Feeds bytes offers
  pub in_pieces : InPieces bytes offers
  pub answered : AllTakenOrFaulted offers
  pub going : s.state ≡ Open
  pub parts : bytes ≡ taken_in offers ++ rest
  pub text_is : text ≡ written_in offers

pub along_none : (S T : Meaning) (bytes : List ℕ) (s : Snapshot) → s ≡ fresh
    → Along S T bytes [] bytes s
along_none S T bytes s e =
    rw e (record {
      offers = start ∷ [];
      used = made;
      fed = refl;
      in_pieces = tt;
      answered = tt;
      going =
          refl;
      parts = refl;
      text_is = refl;
    })

-- within the limits
pub within : (taken : ℕ) (sector out : List ℕ) → length sector ≤ 4096
    → length out ≤ 65536 → taken + length sector ≤ 4294967296
    → limits taken sector out ≡ None
within taken sector out a b c = grind (arith, nat_tests)

-- a text that is spelt up to an offset, and ends there
pub up_to : (S T : Meaning) (bytes text spelt rest chars : List ℕ) (count offset : ℕ)
    (stop : Option Fault) → bytes ≡ spelt ++ rest → length spelt ≡ offset
    → count ≡ length chars
    → Spells S chars spelt → Spells T chars text → Ends S T rest stop
    → Transcribed S T bytes text count offset stop
up_to S T bytes text spelt rest chars count offset stop whole size counted from into e = record {
  chars = chars;
  counted = counted;
  inside = omega (arith, ap length whole ∙ length-append spelt rest);
  from =
      subst (λ z. Spells S chars z)
      (sym (ap (take offset) whole ∙ take_at spelt rest offset size))
      from;
  into = into;
  ends =
      subst (λ z. Ends S T z stop)
      (sym (ap (drop offset) whole ∙ drop_at spelt rest offset size))
      e;
}

module _ {S : Meaning} (T : Meaning) (l : Laws S) where
  -- where an offer faults, the text ends
  pub ends_on : (f : Fault) (rest more : List ℕ) (used room : ℕ)
      → Stops S T rest used room (Err f) → Ends S T (rest ++ more) (Some f)
  ends_on (Unread q) rest more used room h = reads_on l rest more (Err q) (λ e. cc) h
  ends_on (Unwritten c q) rest more used room h =
      (h.0, reads_on l rest more (Ok (Found c h.0)) (λ e. cc) h.1, h.2)
  ends_on Unfinished rest more used room h = absurd h
