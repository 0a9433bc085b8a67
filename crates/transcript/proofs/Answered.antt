-- Every offer has an answer, and one only.
use Rattle.std.proofs.Common.{◌≡◌, ℕ, zero, suc, ◌+◌, ◌<◌, ◌≤◌, ◌⊎◌}
use Rattle.std.proofs.Common.{List, [], ◌∷◌, ◌++◌, length, take, drop, Some, None, Ok}
use Rattle.std.proofs.Common.{Err, Option, sym, refl, ◌∙◌, inl, inr, arith, length-drop}
use Rattle.std.proofs.Common.{length-take}
use Rattle.std.proofs.lemmas.Bool.{cases_lt}
use Rattle.charset.specs.declared.Reading.TheVariants as reading
use Rattle.charset.specs.Meaning.{Meaning, Laws}
use Rattle.charset.specs.Answers.{ReadAnswer, Reads, reading}
use Rattle.charset.proofs.FrontLemmas.{reading_reads}
use Rattle.conversion.specs.declared.Fault.TheVariants.{Unread, Unwritten}
use Rattle.conversion.specs.declared.Pause.TheVariants.{Open, Full}
use Rattle.conversion.specs.Stops.{End, Leads, Stops, Reaches}
use Rattle.conversion.proofs.Leading.{leads_none, leads_more, one_rest, one_end}
use Rattle.transcript.specs.declared.answers.Refusal.{Refusal}
use Rattle.transcript.specs.Calls.{Snapshot, OfferAnswer, refused, Worked, Offered, OfferedIf}
use Rattle.transcript.specs.Law.{OneOutcome}

module _ (S T : Meaning) (l : Laws S) where
  -- characters that fit come to an end, or one more fits
  abbrev Reached : List ℕ → ℕ → Type 0
  Reached input room =
      (k : End) × (chars source target : List ℕ) × Reaches S T input room k chars source target

  abbrev Further : List ℕ → ℕ → ℕ → Type 0
  Further input room n =
      (chars source target rest : List ℕ) × Leads S T input room chars source target rest
      × (length rest < n)

  turn : (input cs source target rest : List ℕ) (room : ℕ)
      → Leads S T input room cs source target rest
      → Reached input room ⊎ Further input room (length rest)
  turn input cs source target rest room h = by_reading (reading S rest) (reading_reads l rest)
    where
      stopped : (k : End) → Stops S T rest (length target) room k
          → Reached input room ⊎ Further input room (length rest)
      stopped k st = inl (k, cs, source, target, record { rest = rest; leads = h; stops = st })

      by_coding : (c n : ℕ) → Reads S rest (Ok (reading.Found c n)) → (o : Option (List ℕ))
          → T.codings.string c ≡ o → Reached input room ⊎ Further input room (length rest)
      by_coding c n r None e = stopped (Err (Unwritten c (T.write_causes c))) (n, r, (e, refl))
      by_coding c n r (Some v) e = elim (cases_lt room (length target + length v)) [
        | inl g ↦ stopped (Ok Full) (c, n, v, r, e, g)
        | inr g ↦ inr (
          cs ++ c ∷ [],
          source ++ take n rest,
          target ++ v,
          drop n rest,
          leads_more S T l input cs source target rest v room c n h r e g,
          rw (length-drop n rest)
              (omega (arith, r.0, l.sized (take n rest) c r.1, length-take n rest)),
        )
      ]

      by_reading : (r : ReadAnswer) → Reads S rest r
          → Reached input room ⊎ Further input room (length rest)
      by_reading (Ok reading.Open) r = stopped (Ok Open) r
      by_reading (Ok (reading.Found c n)) r = by_coding c n r (T.codings.string c) refl
      by_reading (Err q) r = stopped (Err (Unread q)) r

  reached : (fuel : ℕ) (input cs source target rest : List ℕ) (room : ℕ)
      → length rest ≤ fuel → Leads S T input room cs source target rest → Reached input room
  reached zero input cs source target rest room small h =
      elim (turn input cs source target rest room h) [
        | inl g ↦ g
        | inr g ↦ absurd (omega (arith, g.5))
      ]
  reached (suc fuel) input cs source target rest room small h =
      elim (turn input cs source target rest room h) [
        | inl g ↦ g
        | inr g ↦ reached fuel input g.0 g.1 g.2 g.3 room (omega (arith, g.5)) g.4
      ]

  answered : (s : Snapshot) (sector out : List ℕ)
      → (r : OfferAnswer) × (after : List ℕ) × (t : Snapshot)
      × Offered S T s sector out r after t
  answered s sector out = go (refused s.state s.taken sector out)
    where
      worked : Reached (s.held ++ sector) (length out)
          → (r : OfferAnswer) × (after : List ℕ) × (t : Snapshot)
          × Worked S T s sector out r after t
      worked g = (
        _,
        _,
        _,
        record {
          chars = g.1;
          source = g.2;
          target = g.3;
          end = g.0;
          reaches =
              g.4;
          answer = refl;
          left = refl;
          next = refl;
        },
      )

      go : (o : Option Refusal) → (r : OfferAnswer) × (after : List ℕ) × (t : Snapshot)
          × OfferedIf o S T s sector out r after t
      go (Some q) = (Err q, out, s, (refl, refl, refl))
      go None =
          worked (reached (length (s.held ++ sector)) (s.held ++ sector) [] [] [] (s.held ++ sector)
          (length out) (omega arith) (leads_none S T l (s.held ++ sector) (length out)))

  one_answer : (s t t' : Snapshot) (sector out after after' : List ℕ) (r r' : OfferAnswer)
      → Offered S T s sector out r after t → Offered S T s sector out r' after' t'
      → (r ≡ r') × (after ≡ after') × (t ≡ t')
  one_answer s t t' sector out after after' r r' p q = go (refused s.state s.taken sector out) p q
    where
      go : (o : Option Refusal) → OfferedIf o S T s sector out r after t
          → OfferedIf o S T s sector out r' after' t'
          → (r ≡ r') × (after ≡ after') × (t ≡ t')
      go (Some x) p q = (p.0 ∙ sym q.0, p.1 ∙ sym q.1, p.2 ∙ sym q.2)
      go None p q =
          let one = one_end S T l (s.held ++ sector) p.chars p.source p.target q.chars q.source
          q.target (length out) p.end q.end p.reaches q.reaches in
          let rests = (one_rest S T l (s.held ++ sector) p.chars p.source p.target q.chars q.source
          q.target (length out) p.end q.end p.reaches q.reaches).1 in
          let c = one.0 in let f = one.1 in let w = one.2 in let k = one.3 in (
            p.answer ∙ rw (f, w, k) (sym q.answer),
            p.left ∙ rw w (sym q.left),
            p.next
                ∙ rw (c, f, w, k, rests) (sym q.next),
          )

  pub one_outcome : (s : Snapshot) (sector out : List ℕ) → OneOutcome S T s sector out
  one_outcome s sector out =
      let a = answered s sector out in
      record {
        answer = a.0;
        out_after = a.1;
        after = a.2;
        step = a.3;
        only =
            λ r o t h. one_answer s t a.2 sector out o a.1 r a.0 h a.3;
      }
