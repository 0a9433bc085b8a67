-- That the causes of writing change nothing but what a 7 says: with these causes left out, a use is
-- a use between the sets with theirs left out, and of that there is one only.
use Rattle.std.proofs.Common.{◌≡◌, ℕ, ◌+◌, Bool, true, false, cond, List, [], ◌∷◌}
use Rattle.std.proofs.Common.{◌++◌, length, map, Some, None, Ok, Err, sym, refl, ap, ◌∙◌}
use Rattle.std.proofs.Common.{subst₂, lit<, ltb}
use Rattle.charset.specs.Meaning.{Meaning, Laws}
use Rattle.charset.specs.Decoding.{Spells}
use Rattle.conversion.specs.declared.Fault.{Fault}
use Rattle.conversion.specs.declared.Fault.TheVariants.{Unread, Unwritten, Unfinished}
use Rattle.conversion.specs.declared.Pause.TheVariants as pause
use Rattle.conversion.specs.Stops.{End, Stops, Reaches}
use Rattle.transcript.specs.declared.answers.FaultAt.{FaultAt}
use Rattle.transcript.specs.declared.answers.Refusal.{Refusal}
use Rattle.transcript.specs.declared.answers.Refusal.TheVariants as refusal
use Rattle.transcript.specs.declared.answers.State.{State}
use Rattle.transcript.specs.declared.answers.State.TheVariants.{Open, Faulted, Closed}
use Rattle.transcript.specs.declared.answers.Told.{Told}
use Rattle.transcript.specs.Told.{told_fault}
use Rattle.transcript.specs.Calls.{Snapshot, fresh, OfferAnswer, CloseAnswer, refused, takes}
use Rattle.transcript.specs.Calls.{holds, status_of}
use Rattle.transcript.specs.Calls.{answers, state_after, offset_of, Worked, OfferedIf, ClosedOn}
use Rattle.transcript.specs.Uses.{Event, start, offer, close, status, Step, Use, made, call, took}
use Rattle.transcript.specs.Uses.{wrote, taken_in, written_in}
use Rattle.transcript.specs.SameBytes.{SameButForWriteCauses, Asked, to_start, to_offer, to_close}
use Rattle.transcript.specs.SameBytes.{to_tell, asked, SameCalls, bare_fault, bare_at, bare_state}
use Rattle.transcript.specs.SameBytes.{bare_refusal, bare_answer, bare_status, bare_event}
use Rattle.transcript.specs.SameBytes.{bare_snapshot, TellSame, SameUse, SameBytes}
use Rattle.transcript.proofs.Answered.{one_outcome}

-- ---- a set without its causes of writing

abbrev pub bare : Meaning → Meaning
bare m = record m { write_causes = λ c. record { cause = 0; depth = 0 } }

bare_laws : {m : Meaning} → Laws m → Laws (bare m)
bare_laws l = record {
  written = l.written;
  read = l.read;
  sized = l.sized;
  bytes = l.bytes;
  characters = l.characters;
  empty_opens = l.empty_opens;
  opening_sized = l.opening_sized;
  opening_bytes = l.opening_bytes;
  coding_alone = l.coding_alone;
  coding_begins = l.coding_begins;
  opening_begins = l.opening_begins;
  opening_bare = l.opening_bare;
  cause_sized = l.cause_sized;
  cause_stays = l.cause_stays;
  write_cause_sized = λ c h. (lit< tt, lit< tt);
}

pub same_bare : {m n : Meaning} → SameButForWriteCauses m n → bare m ≡ bare n
same_bare {m} {n} h =
    (λ i. record {
      codings = h.codings i;
      openings = h.openings i;
      causes = h.causes i;
      write_causes = λ c. record { cause = 0; depth = 0 };
    })

spells_bare : (m : Meaning) (cs s : List ℕ) → Spells m cs s → Spells (bare m) cs s
spells_bare m [] s h = h
spells_bare m (c ∷ cs) s h = (h.0, h.1, h.2, h.3, spells_bare m cs h.1 h.4)

-- ---- a use without the causes that come with 7

abbrev bare_end : End → End
bare_end (Ok p) = Ok p
bare_end (Err f) = Err (bare_fault f)

takes_bare : (k : End) (held sector source : List ℕ)
    → takes k held sector source ≡ takes (bare_end k) held sector source
takes_bare (Ok pause.Open) held sector source = refl
takes_bare (Ok pause.Full) held sector source = refl
takes_bare (Err f) held sector source = refl

holds_bare : (k : End) (held chars rest : List ℕ)
    → holds k held chars rest ≡ holds (bare_end k) held chars rest
holds_bare (Ok pause.Open) held chars rest = refl
holds_bare (Ok pause.Full) held chars rest = refl
holds_bare (Err f) held chars rest = refl

answers_bare : (k : End) (o n w : ℕ)
    → bare_answer (answers k o n w) ≡ answers (bare_end k) o n w
answers_bare (Ok pause.Open) o n w = refl
answers_bare (Ok pause.Full) o n w = refl
answers_bare (Err f) o n w = refl

state_bare : (k : End) (o n w : ℕ)
    → bare_state (state_after k o n w) ≡ state_after (bare_end k) o n w
state_bare (Ok p) o n w = refl
state_bare (Err f) o n w = refl

module _ (S T : Meaning) where
  stops_bare : (rest : List ℕ) (used room : ℕ) (k : End) → Stops S T rest used room k
      → Stops (bare S) (bare T) rest used room (bare_end k)
  stops_bare rest used room (Ok pause.Open) h = h
  stops_bare rest used room (Ok pause.Full) h = h
  stops_bare rest used room (Err (Unread q)) h = h
  stops_bare rest used room (Err (Unwritten c q)) h = (h.0, h.1, (h.2.0, refl))
  stops_bare rest used room (Err Unfinished) h = h

  abbrev reaches_bare : (input : List ℕ) (room : ℕ) (k : End) (cs source target : List ℕ)
      → Reaches S T input room k cs source target
      → Reaches (bare S) (bare T) input room (bare_end k) cs source target
  reaches_bare input room k cs source target h = record {
    rest = h.rest;
    leads = record {
      from = spells_bare S cs source h.leads.from;
      into = spells_bare T cs target h.leads.into;
      begins = h.leads.begins;
      fits = h.leads.fits;
    };
    stops = stops_bare h.rest (length target) room k h.stops;
  }

  worked_bare : (s : Snapshot) (sector out : List ℕ) (r : OfferAnswer) (after : List ℕ)
      (t : Snapshot) → Worked S T s sector out r after t
      → Worked (bare S) (bare T) (bare_snapshot s) sector out (bare_answer r) after
      (bare_snapshot t)
  worked_bare s sector out r after t w =
      let o = offset_of s w.source in
      let n = takes w.end s.held sector w.source in
      let m = length w.target in
      let taking = takes_bare w.end s.held sector w.source in
      record {
        chars = w.chars;
        source = w.source;
        target = w.target;
        end = bare_end w.end;
        reaches =
            reaches_bare (s.held ++ sector) (length out) w.end w.chars w.source w.target w.reaches;
        answer =
            ap bare_answer w.answer ∙ answers_bare w.end o n m
            ∙ ap (λ z. answers (bare_end w.end) o z m) taking;
        left = w.left;
        next =
            ap bare_snapshot w.next
            ∙ rw (
              state_bare w.end o n m,
              taking,
              holds_bare w.end s.held w.chars w.reaches.rest,
            ) refl;
      }

  module _ (s : Snapshot) (sector out : List ℕ) (r : OfferAnswer) (after : List ℕ)
      (t : Snapshot)
    where
      refused_bare : (q : Refusal) → OfferedIf (Some q) S T s sector out r after t
          → OfferedIf (Some (bare_refusal q)) (bare S) (bare T) (bare_snapshot s) sector out
          (bare_answer r) after (bare_snapshot t)
      refused_bare q h = (ap bare_answer h.0, h.1, ap bare_snapshot h.2)

      open_bare : (a b c : Bool)
          → OfferedIf (cond a (Some refusal.SectorTooLong)
          (cond b (Some refusal.OutputTooLong) (cond c (Some refusal.SourceTooLong) None)))
          S T s sector out r after t
          → OfferedIf (cond a (Some refusal.SectorTooLong)
          (cond b (Some refusal.OutputTooLong) (cond c (Some refusal.SourceTooLong) None)))
          (bare S) (bare T) (bare_snapshot s) sector out (bare_answer r) after (bare_snapshot t)
      open_bare true b c h = refused_bare refusal.SectorTooLong h
      open_bare false true c h = refused_bare refusal.OutputTooLong h
      open_bare false false true h = refused_bare refusal.SourceTooLong h
      open_bare false false false h = worked_bare s sector out r after t h

      offered_bare : (q : State)
          → OfferedIf (refused q s.taken sector out) S T s sector out r after t
          → OfferedIf (refused (bare_state q) s.taken sector out) (bare S) (bare T)
          (bare_snapshot s) sector out (bare_answer r) after (bare_snapshot t)
      offered_bare Open h =
          open_bare (ltb 4096 (length sector)) (ltb 65536 (length out))
          (ltb 4294967296 (s.taken + length sector)) h
      offered_bare (Faulted f) h = refused_bare (refusal.Standing f) h
      offered_bare Closed h = refused_bare refusal.AlreadyClosed h

  closed_bare : (s t : Snapshot) (r : CloseAnswer) (q : State) (held : List ℕ)
      → ClosedOn q held s r t
      → ClosedOn (bare_state q) held (bare_snapshot s) (bare_answer r) (bare_snapshot t)
  closed_bare s t r Open [] h = (ap bare_answer h.0, ap bare_snapshot h.1)
  closed_bare s t r Open (b ∷ bs) h = (ap bare_answer h.0, ap bare_snapshot h.1)
  closed_bare s t r (Faulted f) held h = (ap bare_answer h.0, ap bare_snapshot h.1)
  closed_bare s t r Closed held h = (ap bare_answer h.0, ap bare_snapshot h.1)

  step_bare : (s t : Snapshot) (e : Event) → Step S T s e t
      → Step (bare S) (bare T) (bare_snapshot s) (bare_event e) (bare_snapshot t)
  step_bare s t start h = ap bare_snapshot h
  step_bare s t (offer sector out r after) h = offered_bare s sector out r after t s.state h
  step_bare s t (close r) h = closed_bare s t r s.state s.held h
  step_bare s t (status r) h = (ap bare_status h.0, ap bare_snapshot h.1)

  use_bare : {past : List Event} {s : Snapshot} → Use S T past s
      → Use (bare S) (bare T) (map bare_event past) (bare_snapshot s)
  use_bare made = made
  use_bare (call {past} {s} {t} {e} u p) = call (use_bare u) (step_bare s t e p)

-- ---- one use by the same calls

module _ (S T : Meaning) (l : Laws S) where
  no_use : {past : List Event} {s : Snapshot} → Use S T past s → past ≡ [] → ⊥
  no_use made e = cc
  no_use (call u p) e = cc

  closed_once : (s t t' : Snapshot) (r r' : CloseAnswer) (q : State) (held : List ℕ)
      → ClosedOn q held s r t → ClosedOn q held s r' t' → (r ≡ r') × (t ≡ t')
  closed_once s t t' r r' Open [] h k = (h.0 ∙ sym k.0, h.1 ∙ sym k.1)
  closed_once s t t' r r' Open (b ∷ bs) h k = (h.0 ∙ sym k.0, h.1 ∙ sym k.1)
  closed_once s t t' r r' (Faulted f) held h k = (h.0 ∙ sym k.0, h.1 ∙ sym k.1)
  closed_once s t t' r r' Closed held h k = (h.0 ∙ sym k.0, h.1 ∙ sym k.1)

  offered_once : (s t t' : Snapshot) (sector out after after' : List ℕ) (r r' : OfferAnswer)
      → Step S T s (offer sector out r after) t → Step S T s (offer sector out r' after') t'
      → (offer sector out r after ≡ offer sector out r' after') × (t ≡ t')
  offered_once s t t' sector out after after' r r' h k =
      let one = one_outcome S T l s sector out in
      let a = one.only r after t h in
      let b = one.only r' after' t' k in
      let answer : r ≡ r' = a.0 ∙ sym b.0 in
      let output : after ≡ after' = a.1 ∙ sym b.1 in
      ((λ i. offer sector out (answer i) (output i)), a.2 ∙ sym b.2)

  step_once : (s t t' : Snapshot) (e e' : Event) → asked e ≡ asked e' → Step S T s e t
      → Step S T s e' t' → (e ≡ e') × (t ≡ t')
  step_once s t t' start start a h k = (refl, h ∙ sym k)
  step_once s t t' start (offer sector' out' r' after') a h k = cc
  step_once s t t' start (close r') a h k = cc
  step_once s t t' start (status r') a h k = cc
  step_once s t t' (offer sector out r after) start a h k = cc
  step_once s t t' (offer sector out r after) (offer sector' out' r' after') a h k =
      let one : sector' ≡ sector = cc in
      let two : out' ≡ out = cc in
      rw (one, two) (offered_once s t t' sector out after after' r r' h (rw (one, two) at k))
  step_once s t t' (offer sector out r after) (close r') a h k = cc
  step_once s t t' (offer sector out r after) (status r') a h k = cc
  step_once s t t' (close r) start a h k = cc
  step_once s t t' (close r) (offer sector' out' r' after') a h k = cc
  step_once s t t' (close r) (close r') a h k =
      let one = closed_once s t t' r r' s.state s.held h k in (ap close one.0, one.1)
  step_once s t t' (close r) (status r') a h k = cc
  step_once s t t' (status r) start a h k = cc
  step_once s t t' (status r) (offer sector' out' r' after') a h k = cc
  step_once s t t' (status r) (close r') a h k = cc
  step_once s t t' (status r) (status r') a h k =
      (ap status (h.0 ∙ sym k.0), h.1 ∙ sym k.1)

  alone : (a b : Asked) (past : List Event) → a ∷ [] ≡ b ∷ map asked past → past ≡ []
  alone a b [] e = refl
  alone a b (d ∷ past) e = cc

  used_once : {past past' : List Event} {s s' : Snapshot} → Use S T past s → Use S T past' s'
      → SameCalls past past' → (past ≡ past') × (s ≡ s')
  used_once made made e = (refl, refl)
  used_once made (call {past = q} {e = d} u' p') e =
      absurd (no_use u' (alone to_start (asked d) q e))
  used_once (call {past = q} {e = d} u p) made e =
      absurd (no_use u (alone to_start (asked d) q (sym e)))
  used_once (call {past = q} {s} {t} {e} u p) (call {past = q'} {s = s'} {t = t'} {e = e'} u' p')
      same =
      let head : asked e ≡ asked e' = cc in
      let tail : map asked q ≡ map asked q' = cc in
      let i = used_once u u' tail in
      let one = step_once s t t' e e' head p (rw (sym i.1) at p') in
      ((λ j. one.0 j ∷ i.0 j), one.1)

-- ---- what is the same with and without the causes

asked_bare : (past : List Event) → map asked (map bare_event past) ≡ map asked past
asked_bare [] = refl
asked_bare (e ∷ past) = go e (asked_bare past)
  where
    go : (e : Event) → map asked (map bare_event past) ≡ map asked past
        → asked (bare_event e) ∷ map asked (map bare_event past) ≡ asked e ∷ map asked past
    go start h = ap {B = List Asked} (λ z. asked start ∷ z) h
    go (offer sector out r after) h = ap {B = List Asked} (λ z. to_offer sector out ∷ z) h
    go (close r) h = ap {B = List Asked} (λ z. to_close ∷ z) h
    go (status r) h = ap {B = List Asked} (λ z. to_tell ∷ z) h

did_bare : (r : OfferAnswer)
    → (took (bare_answer r) ≡ took r) × (wrote (bare_answer r) ≡ wrote r)
did_bare (Ok d) = (refl, refl)
did_bare (Err refusal.SectorTooLong) = (refl, refl)
did_bare (Err refusal.OutputTooLong) = (refl, refl)
did_bare (Err refusal.SourceTooLong) = (refl, refl)
did_bare (Err (refusal.Standing f)) = (refl, refl)
did_bare (Err refusal.AlreadyClosed) = (refl, refl)
did_bare (Err (refusal.Faulted f)) = (refl, refl)
did_bare (Err (refusal.Full d)) = (refl, refl)

bytes_bare : (past : List Event)
    → (taken_in (map bare_event past) ≡ taken_in past)
    × (written_in (map bare_event past) ≡ written_in past)
bytes_bare [] = (refl, refl)
bytes_bare (start ∷ past) = (refl, refl)
bytes_bare (offer sector out r after ∷ past) =
    let more = bytes_bare past in
    let d = did_bare r in
    (rw (more.0, d.0) refl, rw (more.1, d.1) refl)
bytes_bare (close r ∷ past) = bytes_bare past
bytes_bare (status r ∷ past) = bytes_bare past

same_but : (t u : Told) → u ≡ record t { cause = u.cause; depth = u.depth } → TellSame t u
same_but t u e = record {
  number = sym (ap (λ z. z.number) e);
  offset = sym (ap (λ z. z.offset) e);
  character = sym (ap (λ z. z.character) e);
  taken = sym (ap (λ z. z.taken) e);
  written = sym (ap (λ z. z.written) e);
}

told_bare : (f : FaultAt) → TellSame (told_fault f) (told_fault (bare_at f))
told_bare f = same_but (told_fault f) (told_fault (bare_at f)) (go f.fault refl)
  where
    go : (x : Fault) → f.fault ≡ x
        → told_fault (bare_at f) ≡ record (told_fault f) {
          cause = (told_fault (bare_at f)).cause;
          depth = (told_fault (bare_at f)).depth;
        }
    go (Unread q) e = rw e refl
    go (Unwritten c q) e = rw e refl
    go Unfinished e = rw e refl

tell_same : (t u v w : Told) → TellSame t u → u ≡ v → TellSame w v → TellSame t w
tell_same t u v w h e k = record {
  number = h.number ∙ ap (λ z. z.number) e ∙ sym k.number;
  offset = h.offset ∙ ap (λ z. z.offset) e ∙ sym k.offset;
  character = h.character ∙ ap (λ z. z.character) e ∙ sym k.character;
  taken = h.taken ∙ ap (λ z. z.taken) e ∙ sym k.taken;
  written = h.written ∙ ap (λ z. z.written) e ∙ sym k.written;
}

same_fault : (p : State) (f : FaultAt) → bare_state p ≡ Faulted (bare_at f)
    → (g : FaultAt) × (p ≡ Faulted g) × TellSame (told_fault f) (told_fault g)
same_fault Open f e = cc
same_fault (Faulted g) f e =
    let same : bare_at f ≡ bare_at g = cc in (
      g,
      refl,
      tell_same _ _ _ _ (told_bare f) (ap told_fault same) (told_bare g),
    )
same_fault Closed f e = cc

-- two uses by the same calls
module _ (S T : Meaning) (l : Laws S) (S' T' : Meaning) (from : SameButForWriteCauses S S')
    (into : SameButForWriteCauses T T') {past past' : List Event} {s s' : Snapshot}
    (u : Use S T past s) (u' : Use S' T' past' s') (same : SameCalls past past')
  where
    same_use : SameUse past past' s s'
    same_use =
        let other = subst₂ (λ x y. Use x y (map bare_event past') (bare_snapshot s'))
        (sym (same_bare from)) (sym (same_bare into)) (use_bare S' T' u') in
        let calls : SameCalls (map bare_event past) (map bare_event past') =
        asked_bare past ∙ same ∙ sym (asked_bare past') in
        let once = used_once (bare S) (bare T) (bare_laws l) (use_bare S T u) other calls in
        let one = bytes_bare past in
        let two = bytes_bare past' in
        record {
          taken = sym one.0 ∙ ap taken_in once.0 ∙ two.0;
          written = sym one.1 ∙ ap written_in once.0 ∙ two.1;
          held = ap (λ z. z.held) once.1;
          fault = λ f e. same_fault s'.state f
              (sym (ap (λ z. z.state) once.1) ∙ ap bare_state e);
          answers = once.0;
          come_to = once.1;
        }

-- ---- the same calls are a use

module _ (S T : Meaning) (l : Laws S) where
  some_closing : (s : Snapshot) (q : State) (held : List ℕ)
      → (r : CloseAnswer) × (t : Snapshot) × ClosedOn q held s r t
  some_closing s Open [] = (_, _, (refl, refl))
  some_closing s Open (b ∷ bs) = (_, _, (refl, refl))
  some_closing s (Faulted f) held = (_, _, (refl, refl))
  some_closing s Closed held = (_, _, (refl, refl))

  some_step : (s : Snapshot) (e : Event)
      → (d : Event) × (t : Snapshot) × (asked e ≡ asked d) × Step S T s d t
  some_step s start = (start, fresh, refl, refl)
  some_step s (offer sector out r after) =
      let o = one_outcome S T l s sector out in
      (offer sector out o.answer o.out_after, o.after, refl, o.step)
  some_step s (close r) =
      let c = some_closing s s.state s.held in (close c.0, c.1, refl, c.2)
  some_step s (status r) = (status (status_of s), s, refl, (refl, refl))

  some_use : (S' T' : Meaning) {past : List Event} {s : Snapshot} → Use S' T' past s
      → (past' : List Event) × (s' : Snapshot) × Use S T past' s' × SameCalls past past'
  some_use S' T' made = (start ∷ [], fresh, made, refl)
  some_use S' T' (call {e = e} u p) =
      let i = some_use S' T' u in
      let d = some_step i.1 e in
      (d.0 ∷ i.0, d.1, call i.2 d.3, (λ j. d.2 j ∷ i.3 j))

pub same_bytes : (S T : Meaning) → Laws S → SameBytes S T
same_bytes S T l S' T' past s k from into u =
    let i = some_use S' T' k S T u in
    record {
      past' = i.0;
      s' = i.1;
      used = i.2;
      same_calls = i.3;
      only = λ q v w same. used_once S' T' k w i.2 (sym same ∙ i.3);
      same = same_use S T l S' T' from into u i.2 i.3;
    }
