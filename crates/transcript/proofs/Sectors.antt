-- One sector more: the text goes on, or ends in a fault, and the output is never too small.
use Rattle.std.proofs.Common.{◌≡◌, ℕ, ◌+◌, ◌<◌, ◌≤◌, min, ◌⊎◌, List}
use Rattle.std.proofs.Common.{◌∷◌, ◌++◌, length, take, Some, None, Ok, Err, Result, sym}
use Rattle.std.proofs.Common.{refl, ap, ◌∙◌, subst, inl, inr, append_assoc, arith}
use Rattle.std.proofs.Common.{length-append, length-take}
use lib.Seq.{take-append_seam, take-length}
use Rattle.std.proofs.lemmas.List.{take_min}
use Rattle.charset.specs.Meaning.{Meaning, Laws}
use Rattle.charset.specs.Decoding.{Spells}
use Rattle.charset.proofs.Spelling.{spells_append}
use Rattle.conversion.specs.declared.Fault.{Fault}
use Rattle.conversion.specs.declared.Pause.TheVariants as pause
use Rattle.conversion.specs.Stops.{End, Reaches}
use Rattle.transcript.specs.declared.answers.Done.{Done}
use Rattle.transcript.specs.declared.answers.FaultAt.{FaultAt}
use Rattle.transcript.specs.declared.answers.Refusal.{Refusal}
use Rattle.transcript.specs.declared.answers.Refusal.TheVariants as refusal
use Rattle.transcript.specs.declared.answers.State.TheVariants.{Faulted}
use Rattle.transcript.specs.Calls.{Snapshot, OfferAnswer, refused, takes, answers, state_after}
use Rattle.transcript.specs.Calls.{offset_of, done, fault_at, Worked, OfferedIf}
use Rattle.transcript.specs.Uses.{Event, offer, Step, Use, call, wrote, taken_in, written_in}
use Rattle.transcript.specs.Law.{Feeds, StandsOn}
use Rattle.transcript.proofs.Counting.{spelt_size}
use Rattle.transcript.proofs.Keeping.{stands, regroup_more}
use Rattle.conversion.specs.Transcribed.{Transcribed}
use Rattle.transcript.specs.Carried.{refused_by, TakenOrFaulted, AllTakenOrFaulted, NextPiece}
use Rattle.transcript.specs.Carried.{InPieces}
use Rattle.transcript.proofs.Along.{Along, up_to, within, ends_on}

-- a last offer met a fault
pub record Stopped (S T : Meaning) (bytes text : List ℕ) (f : FaultAt) (t : Snapshot) : Type 0
  where
    pub offers : List Event
    pub used : Use S T offers t
    pub fed : Feeds bytes offers
    pub in_pieces : InPieces bytes offers
    pub answered : AllTakenOrFaulted offers
    pub state_is : t.state ≡ Faulted f
    pub text_is : text ≡ written_in offers
    pub transcribed : Transcribed S T bytes text t.characters f.offset (Some f.fault)

-- what an offer comes to
abbrev pub ComesTo : Meaning → Meaning → (bytes text after more : List ℕ) → Snapshot
    → Result Done FaultAt → Type 0
ComesTo S T bytes text after more t (Ok d) = Along S T bytes (text ++ take d.written after) more t
ComesTo S T bytes text after more t (Err f) =
    Stopped S T bytes (text ++ take f.done.written after) f t

-- the end that an answer comes of
ok_end : (e : End) (d : Done) (o n w : ℕ) → Ok d ≡ answers e o n w
    → (e ≡ Ok pause.Open) × (d ≡ done n w)
ok_end (Ok pause.Open) d o n w h = (refl, cc)
ok_end (Ok pause.Full) d o n w h = cc
ok_end (Err f) d o n w h = cc

err_end : (e : End) (q : Refusal) (o n w : ℕ) → Err q ≡ answers e o n w
    → (e ≡ Ok pause.Full)
    ⊎ ((f : Fault) × (e ≡ Err f) × (q ≡ refusal.Faulted (fault_at f o n w)))
err_end (Ok pause.Open) q o n w h = cc
err_end (Ok pause.Full) q o n w h = inl refl
err_end (Err f) q o n w h = inr (f, refl, cc)

module _ (S T : Meaning) (l : Laws S) (k : Laws T) (bytes text rest : List ℕ) (s t : Snapshot)
    (sector more out after : List ℕ) (along : Along S T bytes text rest s)
    (parts : rest ≡ sector ++ more) (size : length sector ≡ min 4096 (length rest))
    (some_left : 0 < length rest) (room : length out ≡ 16396)
    (small : length bytes ≤ 4294967296) where
  before : StandsOn S T (taken_in along.offers) (written_in along.offers) s
  before = stands S T l along.used

  whole : bytes ≡ taken_in along.offers ++ (sector ++ more)
  whole = along.parts ∙ ap (λ z. taken_in along.offers ++ z) parts

  few : length sector ≤ 4096
  few = omega (arith, size)

  next_piece : NextPiece bytes (taken_in along.offers) sector
  next_piece = record {
    rest = rest;
    parts = along.parts;
    some_left = some_left;
    piece =
        sym (take-append_seam sector more) ∙ ap (λ z. take (length sector) z) (sym parts)
        ∙ ap (λ n. take n rest) size ∙ take_min 4096 rest;
  }

  long : length bytes ≡ s.taken + (length sector + length more)
  long =
      ap length whole ∙ length-append (taken_in along.offers) (sector ++ more)
      ∙ rw (before.counts_taken, length-append sector more) refl

  works : (r : OfferAnswer) → Step S T s (offer sector out r after) t
      → Worked S T s sector out r after t
  works r st =
      let fits : s.taken + length sector ≤ 4294967296 = omega (arith, long) in
      let e : refused s.state s.taken sector out ≡ None =
      rw along.going (within s.taken sector out few (omega arith) fits) in
      subst (λ o. OfferedIf o S T s sector out r after t) e st

  held_few : length s.held ≤ 3
  held_few = l.opening_sized s.held before.decodes.opens

  feeds : (r : OfferAnswer) → Feeds bytes (offer sector out r after ∷ along.offers)
  feeds r = ((more, whole), along.fed)

  -- a character takes at most four bytes, and has at least one
  never_full : (chars source target : List ℕ)
      → Reaches S T (s.held ++ sector) (length out) (Ok pause.Full) chars source target → ⊥
  never_full chars source target h =
      let from = spelt_size l chars source h.leads.from in
      let into = spelt_size k chars target h.leads.into in
      let st = h.stops in
      let one = l.sized (take st.1 h.rest) st.0 st.3.1 in
      let last = k.sized st.2 st.0 (k.written st.0 st.2 st.4) in
      let sum = sym (length-append s.held sector) ∙ ap length h.leads.begins
      ∙ length-append source h.rest in
      omega (arith, from.0, into.1, one.0, last.1, st.5, length-take st.1 h.rest, held_few, sum)

  -- the bytes of the text, by what is spelt before and in the offer
  split : (chars source target : List ℕ) (e : End)
      (h : Reaches S T (s.held ++ sector) (length out) e chars source target)
      → bytes ≡ (before.decodes.spelt ++ source) ++ (h.rest ++ more)
  split chars source target e h =
      whole ∙ regroup_more (taken_in along.offers) before.decodes.spelt s.held sector source
      h.rest
      before.decodes.parts h.leads.begins more

  spelt_long : (source : List ℕ)
      → length (before.decodes.spelt ++ source) ≡ offset_of s source
  spelt_long source =
      let a = length-append before.decodes.spelt source in
      let b = before.counts_taken ∙ ap length before.decodes.parts
      ∙ length-append before.decodes.spelt s.held in
      omega arith

  fault_ends : (f : Fault) (chars source target : List ℕ) (count : ℕ)
      → Reaches S T (s.held ++ sector) (length out) (Err f) chars source target
      → count ≡ s.characters + length chars
      → Transcribed S T bytes (text ++ target) count (offset_of s source) (Some f)
  fault_ends f chars source target count h c =
      up_to S T bytes (text ++ target) (before.decodes.spelt ++ source) (h.rest ++ more)
      (before.chars ++ chars) count (offset_of s source) (Some f)
      (split chars source target (Err f) h) (spelt_long source)
      (c ∙ ap (λ n. n + length chars) before.counts_characters
      ∙ sym (length-append before.chars chars))
      (spells_append S before.chars chars before.decodes.spelt source before.decodes.spells
      h.leads.from)
      (subst (λ z. Spells T (before.chars ++ chars) (z ++ target)) (sym along.text_is)
      (spells_append T before.chars chars (written_in along.offers) target before.writes
      h.leads.into))
      (ends_on T l f h.rest more (length target) (length out) h.stops)

  -- the text so far, with what the offer wrote
  text_more : (r : OfferAnswer) (n : ℕ) → wrote r ≡ n
      → text ++ take n after ≡ written_in (offer sector out r after ∷ along.offers)
  text_more r n e =
      ap (λ z. z ++ take n after) along.text_is
      ∙ ap (λ z. written_in along.offers ++ take z after) (sym e)

  goes_on : (d : Done) → Step S T s (offer sector out (Ok d) after) t
      → Worked S T s sector out (Ok d) after t → ComesTo S T bytes text after more t (Ok d)
  goes_on d st w =
      let end = ok_end w.end d (offset_of s w.source) (takes w.end s.held sector w.source)
      (length w.target) w.answer in
      let all : d.taken ≡ length sector =
      ap (λ z. z.taken) end.1 ∙ ap (λ z. takes z s.held sector w.source) end.0 in
      let taken : take d.taken sector ≡ sector = ap (λ n. take n sector) all
      ∙ take-length sector in
      record {
        offers = offer sector out (Ok d) after ∷ along.offers;
        used = call along.used st;
        fed = feeds (Ok d);
        in_pieces = (next_piece, along.in_pieces);
        answered = (tt, along.answered);
        going =
            ap (λ z. z.state) w.next ∙ ap (λ z. state_after z (offset_of s w.source)
            (takes w.end s.held sector w.source) (length w.target)) end.0;
        parts =
            whole ∙ sym (append_assoc (taken_in along.offers) sector more)
            ∙ ap (λ z. (taken_in along.offers ++ z) ++ more) (sym taken);
        text_is = text_more (Ok d) d.written refl;
      }

  faults : (q : Refusal) → Step S T s (offer sector out (Err q) after) t
      → (w : Worked S T s sector out (Err q) after t) → (f : Fault) → w.end ≡ Err f
      → (p : FaultAt)
      → p ≡ fault_at f (offset_of s w.source) (takes w.end s.held sector w.source)
      (length w.target)
      → q ≡ refusal.Faulted p → ComesTo S T bytes text after more t (Err p)
  faults q st w f e p g h =
      let put : take (length w.target) after ≡ w.target =
      ap (take (length w.target)) w.left ∙ take-append_seam w.target _ in
      rw g (record {
        offers = offer sector out (Err q) after ∷ along.offers;
        used = call along.used st;
        fed = feeds (Err q);
        in_pieces = (next_piece, along.in_pieces);
        answered = (subst (λ z. TakenOrFaulted (Err z)) (sym h) tt, along.answered);
        state_is =
            ap (λ z. z.state) w.next ∙ ap (λ z. state_after z (offset_of s w.source)
            (takes w.end s.held sector w.source) (length w.target)) e;
        text_is =
            text_more (Err q) (length w.target)
            (ap (λ z. wrote (Err z)) (h ∙ ap refusal.Faulted g));
        transcribed =
            subst (λ z. Transcribed S T bytes (text ++ z) t.characters (offset_of s w.source)
            (Some f)) (sym put)
            (fault_ends f w.chars w.source w.target t.characters
            (subst (λ z. Reaches S T (s.held ++ sector) (length out) z w.chars w.source
            w.target) e w.reaches) (ap (λ z. z.characters) w.next));
      })

  pub comes_to : (r : OfferAnswer) → Step S T s (offer sector out r after) t
      → (m : Result Done FaultAt) × (r ≡ refused_by m) × ComesTo S T bytes text after more t m
  comes_to (Ok d) st = (Ok d, refl, goes_on d st (works (Ok d) st))
  comes_to (Err q) st =
      let w = works (Err q) st in
      elim (err_end w.end q (offset_of s w.source) (takes w.end s.held sector w.source)
      (length w.target) w.answer) [
        | inl e ↦ absurd (never_full w.chars w.source w.target
            (subst (λ z. Reaches S T (s.held ++ sector) (length out) z w.chars w.source w.target) e
            w.reaches))
        | inr g ↦
            let p = fault_at g.0 (offset_of s w.source) (takes w.end s.held sector w.source)
            (length w.target) in
            (Err p, ap Err g.2, faults q st w g.0 g.1 p refl g.2)
      ]
