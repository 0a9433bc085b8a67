-- What was written reads back, and the law of every transcript.
use Rattle.std.proofs.Common.{◌≡◌, ℕ, ◌+◌, ◌≤◌, Bool, true, false, cond, ltb}
use Rattle.std.proofs.Common.{List, [], ◌∷◌, ◌++◌, length, take, drop, Some, None, Ok}
use Rattle.std.proofs.Common.{Err, sym, refl, ap, ◌∙◌, subst, inl, inr, append_assoc}
use Rattle.std.proofs.Common.{append-nil, arith, length-append, take-append-drop, length-take}
use lib.Seq.{take-append_seam}
use Rattle.std.proofs.lemmas.Bool.{both_ways, ltb-true}
use Rattle.std.proofs.lemmas.List.{nil_from_length}
use Rattle.std.proofs.lemmas.Option.{none-some}
use Rattle.charset.specs.declared.SetRefusal.{SetRefusal}
use Rattle.charset.specs.declared.Reading.TheVariants as reading
use Rattle.charset.specs.Meaning.{Meaning, Laws}
use Rattle.charset.specs.Answers.{Reads}
use Rattle.charset.specs.Decoding.{Spells}
use Rattle.charset.proofs.Spelling.{spells_append, spells_split, spells_one, fronts, same_coding}
use Rattle.charset.proofs.FrontLemmas.{reads_on}
use Rattle.conversion.specs.declared.Fault.TheVariants.{Unread, Unwritten, Unfinished}
use Rattle.conversion.specs.declared.Pause.TheVariants as pause
use Rattle.conversion.specs.Stops.{End, Stops}
use Rattle.transcript.specs.declared.answers.State.TheVariants.{Open}
use Rattle.transcript.specs.declared.answers.Refusal.TheVariants as refusal
use Rattle.transcript.specs.Calls.{Snapshot, OfferAnswer, limits, refused, takes, answers}
use Rattle.transcript.specs.Calls.{state_after, offset_of, OfferedIf}
use Rattle.transcript.specs.Uses.{Event, start, offer, close, status, Step, Use, made, call}
use Rattle.transcript.specs.Uses.{taken_in, written_in}
use Rattle.transcript.specs.Law.{StandsOn, StatusTells, Feeds, Faultless, AllFaultless, GoesBack}
use Rattle.transcript.specs.Law.{TranscriptionLaw}
use Rattle.transcript.proofs.Keeping.{stands, regroup_more}
use Rattle.transcript.proofs.Exact.{offers_exactly, closes_exactly}
use Rattle.transcript.proofs.Stepping.{output_stays}
use Rattle.transcript.proofs.Answered.{one_outcome}

-- what is left of whole characters, all with codings in T too
abbrev Tail : Meaning → Meaning → List ℕ → Type 0
Tail S T s = (es e : List ℕ) × Spells S es s × Spells T es e

-- the end is no fault
abbrev Harmless : End → Type 0
Harmless (Ok p) = Unit {0}
Harmless (Err f) = ⊥

module _ (S T : Meaning) (l : Laws S) where
  no_char : (es e rest more : List ℕ) (c n : ℕ) → Spells S es (rest ++ more) → Spells T es e
      → Reads S rest (Ok (reading.Found c n)) → T.codings.string c ≡ None → ⊥
  no_char [] e rest more c n p q h k =
      omega (
        arith,
        h.0,
        ap length p,
        length-append rest more,
        l.sized (take n rest) c h.1,
        length-take n rest,
      )
  no_char (d ∷ es) e rest more c n p q h k =
      let e' : take n rest ++ (drop n rest ++ more) ≡ p.0 ++ p.1 =
      sym (append_assoc (take n rest) (drop n rest) more)
      ∙ ap (λ t. t ++ more) (take-append-drop n rest) ∙ p.3 in
      let same = same_coding l (take n rest) p.0 (drop n rest ++ more) p.1 c d h.1
      (l.written d _ p.2) e' in
      none-some q.0 (sym k ∙ rw same.1 q.2)

  no_bad : (es rest more : List ℕ) (q : SetRefusal) → Spells S es (rest ++ more)
      → Reads S rest (Err q) → ⊥
  no_bad [] rest more q p h =
      both_ways _ (reads_on l rest more (Err q) (λ e. cc) h).0.1 (rw p l.empty_opens)
  no_bad (d ∷ es) rest more q p h =
      (reads_on l rest more (Err q) (λ e. cc) h).0.0 (length p.0) d
      (rw (p.3, take-append_seam p.0 p.1) (l.written d _ p.2))

  -- whole characters, all with codings in T too, lead to no fault
  harmless : (k : End) (es e rest more : List ℕ) (used room : ℕ) → Spells S es (rest ++ more)
      → Spells T es e → Stops S T rest used room k → Harmless k
  harmless (Ok pause.Open) es e rest more used room p q h = tt
  harmless (Ok pause.Full) es e rest more used room p q h = tt
  harmless (Err (Unwritten c x)) es e rest more used room p q h =
      no_char es e rest more c h.0 p q h.1 h.2.0
  harmless (Err (Unread x)) es e rest more used room p q h = no_bad es rest more x p h
  harmless (Err Unfinished) es e rest more used room p q h = h

  -- w is characters in codings of S, which T codes too; what is behind its first characters is such
  tail : (cs ds a w v p : List ℕ) → Spells S cs w → Spells T cs v → Spells S ds a
      → w ≡ a ++ p → Tail S T p
  tail cs ds a w v p h k g e = elim (fronts l ds cs a w p [] g h (sym e ∙ sym (append-nil w))) [
    | inl f ↦ (
      f.0,
      (spells_split T ds f.0 v (rw (← f.2) k)).1,
      rw (f.4, append-nil) f.3,
      (spells_split T ds f.0 v (rw (← f.2) k)).3,
    )
    | inr f ↦
        ([], [], nil_from_length p (omega (arith, ap length f.4, length-append f.1 p)), refl)
  ]

  module _ (cs w v : List ℕ) (h : Spells S cs w) (k : Spells T cs v)
      (small : length w ≤ 4294967296)
    where
      goes_on : (t : Snapshot) (sector out : List ℕ) (r : OfferAnswer) (after : List ℕ)
          (x : End)
          (o n y : ℕ) → Harmless x → r ≡ answers x o n y → t.state ≡ state_after x o n y
          → Faultless (offer sector out r after) × (t.state ≡ Open)
      goes_on t sector out r after (Ok pause.Open) o n y g a p = (inl (rw a), p)
      goes_on t sector out r after (Ok pause.Full) o n y g a p = (inr (inl (rw a)), p)
      goes_on t sector out r after (Err f) o n y g a p = absurd g

      one_offer : (bytes outs sector more out after : List ℕ) (s t : Snapshot) (r : OfferAnswer)
          → s.state ≡ Open → StandsOn S T bytes outs s → w ≡ bytes ++ (sector ++ more)
          → (a b c : Bool) → ltb 4294967296 (s.taken + length sector) ≡ c
          → OfferedIf (cond a (Some refusal.SectorTooLong)
          (cond b (Some refusal.OutputTooLong) (cond c (Some refusal.SourceTooLong) None))) S T s
          sector out r after t
          → Faultless (offer sector out r after) × (t.state ≡ Open)
      one_offer bytes outs sector more out after s t r p st e true b c f g =
          (inr (inr (inl (rw g.0))), ap (λ z. z.state) g.2 ∙ p)
      one_offer bytes outs sector more out after s t r p st e false true c f g =
          (inr (inr (inr (rw g.0))), ap (λ z. z.state) g.2 ∙ p)
      one_offer bytes outs sector more out after s t r p st e false false true f g =
          absurd (omega (
            arith,
            ltb-true _ _ f,
            st.counts_taken,
            rw (length-append bytes (sector ++ more), length-append sector more) at (ap length e),
          ))
      one_offer bytes outs sector more out after s t r p st e false false false f g =
          let m = st.decodes in
          let lead = g.reaches.leads in
          let rest = g.reaches.rest in
          let joined : w ≡ (m.spelt ++ g.source) ++ (rest ++ more) =
          e ∙ regroup_more bytes m.spelt s.held sector g.source rest m.parts lead.begins more in
          let left = tail cs (st.chars ++ g.chars) (m.spelt ++ g.source) w v (rest ++ more) h k
          (spells_append S st.chars g.chars m.spelt g.source m.spells lead.from) joined in
          goes_on t sector out r after g.end (offset_of s g.source)
          (takes g.end s.held sector g.source) (length g.target)
          (harmless g.end left.0 left.1 rest more (length g.target) (length out) left.2 left.3
          g.reaches.stops) g.answer (ap (λ z. z.state) g.next)

      fed : {again : List Event} {u : Snapshot} → Use S T again u → Feeds w again
          → (u.state ≡ Open) × AllFaultless again
      fed made f = (refl, (tt, tt))
      fed (call {past} {s} {t} {e} u p) f = go e p f (fed u)
        where
          go : (e : Event) → Step S T s e t → Feeds w (e ∷ past)
              → (Feeds w past → (s.state ≡ Open) × AllFaultless past)
              → (t.state ≡ Open) × AllFaultless (e ∷ past)
          go start p f ih = (ap (λ z. z.state) p, (tt, rw f tt))
          go (offer sector out r after) p f ih =
              let i = ih f.1 in
              let step : OfferedIf (limits s.taken sector out) S T s sector out r after t =
              subst (λ q. OfferedIf (refused q s.taken sector out) S T s sector out r after t) i.0
              p in
              let g = one_offer (taken_in past) (written_in past) sector f.0.0 out after s t r i.0
              (stands S T l u) f.0.1
              (ltb 4096 (length sector)) (ltb 65536 (length out))
              (ltb 4294967296 (s.taken + length sector)) refl step in
              (g.1, (g.0, i.1))
          go (close r) p f ih = absurd f
          go (status r) p f ih = let i = ih f in (ap (λ z. z.state) p.1 ∙ i.0, (tt, i.1))

      -- once all is taken, nothing is held and the same characters are written
      all_taken : {again : List Event} {u : Snapshot} → Use S T again u → taken_in again ≡ w
          → (u.held ≡ []) × (written_in again ≡ v)
      all_taken {again} {u} run e =
          let st = stands S T l run in
          let one = st.only cs []
          (record {
            spelt = w;
            spells = h;
            parts = e ∙ sym (append-nil w);
            opens =
                l.empty_opens;
          }) in
          (sym one.1, spells_one T cs (written_in again) v (rw one.0 st.writes) k)

pub goes_back : (S T : Meaning) → Laws S → Laws T → GoesBack S T
goes_back S T l k past again u ended back =
    let m = (stands S T l ended.used).decodes in
    let chars = (stands S T l ended.used).chars in
    let writes = (stands S T l ended.used).writes in
    let empty : ended.last.held ≡ [] =
    (closes_exactly S T l ended.last (Ok tt) (record {
      past = past;
      after = ended.closed;
      used = ended.used;
      is_open = ended.is_open;
      step = ended.closes;
    })).0 refl in
    let g = fed T S k chars (written_in past) m.spelt writes m.spells ended.not_too_long back.used
    back.fed in record {
      no_fault = g.1;
      once_all_taken = λ e.
          let all = all_taken T S k chars (written_in past) m.spelt writes m.spells
          ended.not_too_long back.used e in record {
            closes = λ r v c. (closes_exactly T S k u r (record {
              past = again;
              after = v;
              used = back.used;
              is_open = g.0;
              step = c;
            })).1 all.0;
            writes_back =
                all.1 ∙ sym (m.parts ∙ ap (λ z. m.spelt ++ z) empty ∙ append-nil m.spelt);
          };
    }

pub status_tells : (S T : Meaning) → Laws S → StatusTells S T
status_tells S T l past r chars held asked =
    let st = stands S T l asked.used in
    let one = st.only chars held asked.decodes in
    rw asked.step.0 (record {
      taken_is = st.counts_taken;
      written_is = st.counts_written;
      held_is = ap length (sym one.1);
      characters_is = st.counts_characters ∙ ap length (sym one.0);
    })

pub transcription_law : (S T : Meaning) → Laws S → Laws T → TranscriptionLaw S T
transcription_law S T l k = record {
  every_use = λ past s run. stands S T l run;
  status_tells = status_tells S T l;
  every_offer = offers_exactly S T l;
  output_stays = λ s t e st. output_stays S T s t e st;
  one_outcome = one_outcome S T l;
  closes_exactly = closes_exactly S T l;
  there_and_back = goes_back S T l k;
}
