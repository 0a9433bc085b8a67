-- Characters that lead on, one more and some more, and that they lead to one end only.
use Rattle.std.proofs.Common.{◌≡◌, ℕ, ◌+◌, ◌≤◌, cond, ltb, List, [], ◌∷◌}
use Rattle.std.proofs.Common.{◌++◌, length, take, drop, Some, None, Ok, Err, Option, sym, refl}
use Rattle.std.proofs.Common.{ap, ◌∙◌, inl, inr, append_assoc, append-nil, arith}
use Rattle.std.proofs.Common.{length-append, take-append-drop}
use lib.Seq.{take-append_seam}
use Rattle.std.proofs.lemmas.Bool.{lt-ltb, le-ltb}
use Rattle.charset.specs.declared.Reading.TheVariants.{Found, Open}
use Rattle.charset.specs.declared.SetRefusal.{SetRefusal}
use Rattle.charset.specs.Meaning.{Meaning, Codes, Laws}
use Rattle.charset.specs.Answers.{ReadAnswer, Reads, reading}
use Rattle.charset.specs.Decoding.{Spells}
use Rattle.charset.proofs.FrontLemmas.{reading_is}
use Rattle.charset.proofs.Spelling.{spells_append, spells_split, spells_one, fronts}
use Rattle.conversion.specs.declared.Fault.TheVariants.{Unread, Unwritten, Unfinished}
use Rattle.conversion.specs.declared.Pause.TheVariants as pause
use Rattle.conversion.specs.Stops.{End, Leads, Stops, Reaches}

-- what happens next: a coding is written, or there is an end
data Outcome : Type 0 where
  writes : List ℕ → Outcome
  halts : End → Outcome

abbrev coded_outcome : ℕ → SetRefusal → Option (List ℕ) → ℕ → ℕ → Outcome
coded_outcome c q None used room = halts (Err (Unwritten c q))
coded_outcome c q (Some v) used room =
    cond (ltb room (used + length v)) (halts (Ok pause.Full)) (writes v)

abbrev outcome : Meaning → ReadAnswer → ℕ → ℕ → Outcome
outcome T (Ok (Found c n)) used room =
    coded_outcome c (T.write_causes c) (T.codings.string c) used room
outcome T (Ok Open) used room = halts (Ok pause.Open)
outcome T (Err q) used room = halts (Err (Unread q))

module _ (S T : Meaning) (l : Laws S) where
  pub leads_none : (input : List ℕ) (room : ℕ) → Leads S T input room [] [] [] input
  leads_none input room = record { from = refl; into = refl; begins = refl; fits = omega arith }

  -- one more character that fits
  pub leads_more : (input cs source target rest v : List ℕ) (room c n : ℕ)
      → Leads S T input room cs source target rest → Reads S rest (Ok (Found c n))
      → T.codings.string c ≡ Some v → length target + length v ≤ room
      → Leads S T input room (cs ++ c ∷ []) (source ++ take n rest) (target ++ v) (drop n rest)
  leads_more input cs source target rest v room c n h r k fits = record {
    from =
        spells_append S cs (c ∷ []) source (take n rest) h.from
        (take n rest, [], l.read _ c r.1, sym (append-nil _), refl);
    into = spells_append T cs (c ∷ []) target v h.into (v, [], k, sym (append-nil v), refl);
    begins =
        h.begins ∙ ap (λ t. source ++ t) (sym (take-append-drop n rest))
        ∙ sym (append_assoc source (take n rest) (drop n rest));
    fits = rw (length-append target v) fits;
  }

  -- characters that fit and then some more
  pub leads_on : (input cs source target rest ds source' target' rest' : List ℕ)
      (room room' : ℕ) → Leads S T input room cs source target rest
      → Leads S T rest room' ds source' target' rest' → length target + room' ≤ room
      → Leads S T input room (cs ++ ds) (source ++ source') (target ++ target') rest'
  leads_on input cs source target rest ds source' target' rest' room room' h k less = record {
    from = spells_append S cs ds source source' h.from k.from;
    into = spells_append T cs ds target target' h.into k.into;
    begins = h.begins ∙ ap (λ t. source ++ t) k.begins
        ∙ sym (append_assoc source source' rest');
    fits = rw (length-append target target') (omega (arith, k.fits));
  }

  stops_outcome : (rest : List ℕ) (used room : ℕ) (k : End) → Stops S T rest used room k
      → outcome T (reading S rest) used room ≡ halts k
  stops_outcome rest used room (Ok pause.Open) h = rw (reading_is l rest (Ok Open) h)
  stops_outcome rest used room (Ok pause.Full) h =
      rw (reading_is l rest (Ok (Found h.0 h.1)) h.3, h.4, lt-ltb _ _ h.5)
  stops_outcome rest used room (Err (Unwritten c q)) h =
      rw (reading_is l rest (Ok (Found c h.0)) h.1, h.2.0, h.2.1)
  stops_outcome rest used room (Err (Unread q)) h = rw (reading_is l rest (Err q) h)
  stops_outcome rest used room (Err Unfinished) h = absurd h

  writes_outcome : (a b : List ℕ) (c : ℕ) (v : List ℕ) (used room : ℕ) → Codes S a c
      → T.codings.string c ≡ Some v → used + length v ≤ room
      → outcome T (reading S (a ++ b)) used room ≡ writes v
  writes_outcome a b c v used room h k fits =
      rw (
        reading_is l (a ++ b) (Ok (Found c (length a)))
            (rw (length-append a b) (omega arith), rw (take-append_seam a b) h),
        k,
        le-ltb room (used + length v) fits,
      )

  -- behind characters that lead to an end no more characters fit
  no_further : (es e cs ds source target rest source' target' rest' input : List ℕ) (room : ℕ)
      (k : End) → ds ≡ cs ++ es → Spells S es e → rest ≡ e ++ rest'
      → Leads S T input room cs source target rest → Stops S T rest (length target) room k
      → Leads S T input room ds source' target' rest' → (cs ≡ ds) × (rest ≡ rest')
  no_further [] e cs ds source target rest source' target' rest' input room k g p f h s h' =
      (sym (g ∙ append-nil cs), f ∙ ap (λ t. t ++ rest') p)
  no_further (c ∷ es) e cs ds source target rest source' target' rest' input room k g p f h s h' =
      let parts = spells_split T cs (c ∷ es) target' (rw (← g) h'.into) in
      let same : target ≡ parts.0 = spells_one T cs target parts.0 h.into parts.2 in
      let v = parts.3 in
      let size : length target + length v.0 ≤ room =
      omega (
        arith,
        h'.fits,
        rw (parts.4, v.3, length-append, length-append, ← same) at
            h'.fits,
      ) in
      let e : writes v.0 ≡ halts k = sym
      (writes_outcome p.0 (p.1 ++ rest') c v.0 (length target) room (l.written c _ p.2) v.2 size)
      ∙ ap (λ t. outcome T (reading S t) (length target) room)
      (sym (f ∙ ap (λ t. t ++ rest') p.3 ∙ append_assoc p.0 p.1 rest'))
      ∙ stops_outcome rest (length target) room k s in
      cc

  -- characters that fit lead to one end
  pub one_rest : (input cs source target ds source' target' : List ℕ) (room : ℕ) (j k : End)
      → (p : Reaches S T input room j cs source target)
      (q : Reaches S T input room k ds source' target') → (cs ≡ ds) × (p.rest ≡ q.rest)
  one_rest input cs source target ds source' target' room j k p q =
      elim (fronts l cs ds source source' p.rest q.rest p.leads.from q.leads.from
      (sym p.leads.begins ∙ q.leads.begins)) [
        | inl g ↦ no_further g.0 g.1 cs ds source target p.rest source' target' q.rest input room
            j
            g.2 g.3 g.4 p.leads p.stops q.leads
        | inr g ↦ let n =
            no_further g.0 g.1 ds cs source' target' q.rest source target p.rest input room k g.2
            g.3 g.4 q.leads q.stops p.leads in (sym n.0, sym n.1)
      ]

  pub one_end : (input cs source target ds source' target' : List ℕ) (room : ℕ) (j k : End)
      → Reaches S T input room j cs source target → Reaches S T input room k ds source' target'
      → (cs ≡ ds) × (source ≡ source') × (target ≡ target') × (j ≡ k)
  one_end input cs source target ds source' target' room j k p q =
      let go = one_rest input cs source target ds source' target' room j k p q in
      let t : target ≡ target' = spells_one T ds target target' (rw (← go.0) p.leads.into)
      q.leads.into in (
        go.0,
        spells_one S ds source source' (rw (← go.0) p.leads.from) q.leads.from,
        t,
        let e : halts j ≡ halts k = sym (stops_outcome p.rest (length target) room j p.stops)
            ∙ rw (go.1, t) (stops_outcome q.rest (length target') room k q.stops) in cc,
      )
