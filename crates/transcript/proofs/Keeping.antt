-- After every call the bytes taken and written are the same characters.
use Rattle.std.proofs.Common.{◌≡◌, ℕ, ◌+◌, ◌-◌, ◌<◌, ◌≤◌, List, []}
use Rattle.std.proofs.Common.{◌∷◌, ◌++◌, length, take, Some, None, Ok, Err, Option, sym}
use Rattle.std.proofs.Common.{refl, ap, ◌∙◌, append_assoc, append-nil, arith, length-append}
use Rattle.std.proofs.Common.{length-take-le}
use lib.Seq.{take-append_seam, take-append-add, take-length}
use Rattle.std.proofs.lemmas.Bool.Decides.{nat_tests}
use Rattle.charset.specs.Meaning.{Meaning, IsOpening, Laws}
use Rattle.charset.specs.Decoding.{Spells, Decodes}
use Rattle.charset.proofs.FrontLemmas.{opening_passed}
use Rattle.charset.proofs.Spelling.{spells_append, decodes_once}
use Rattle.conversion.specs.declared.Pause.TheVariants as pause
use Rattle.conversion.specs.Stops.{End, Leads, Stops}
use Rattle.transcript.specs.declared.answers.State.{State}
use Rattle.transcript.specs.declared.answers.State.TheVariants.{Open, Faulted, Closed}
use Rattle.transcript.specs.declared.answers.Refusal.{Refusal}
use Rattle.transcript.specs.Calls.{Snapshot, fresh, with_state, OfferAnswer, CloseAnswer, refused}
use Rattle.transcript.specs.Calls.{takes, unless_any, holds, answers, offset_of, state_after}
use Rattle.transcript.specs.Calls.{OfferedIf, ClosedOn}
use Rattle.transcript.specs.Uses.{Event, start, offer, close, status, Step, Use, made, call, took}
use Rattle.transcript.specs.Uses.{wrote, taken_in, written_in}
use Rattle.transcript.specs.Law.{StandsOn, Stands}

-- the part of the sector that goes with held bytes
pub taken_part : (held sector source rest : List ℕ) → held ++ sector ≡ source ++ rest
    → length held ≤ length source
    → held ++ take (length source - length held) sector ≡ source
taken_part held sector source rest e h =
    let n_is : length held + (length source - length held) ≡ length source = omega arith in
    sym (take-append-add held sector (length source - length held))
    ∙ rw (n_is, e) (take-append_seam source rest)

-- bytes that are spelt but for what is held, and a part that goes with it
module _ (bytes spelt held part source rest : List ℕ) (p : bytes ≡ spelt ++ held)
    (e : held ++ part ≡ source ++ rest) where
  pub regroup : bytes ++ part ≡ (spelt ++ source) ++ rest
  regroup =
      ap (λ t. t ++ part) p ∙ append_assoc spelt held part ∙ ap (λ t. spelt ++ t) e
      ∙ sym (append_assoc spelt source rest)

  pub regroup_more : (more : List ℕ)
      → bytes ++ (part ++ more) ≡ (spelt ++ source) ++ (rest ++ more)
  regroup_more more =
      sym (append_assoc bytes part more) ∙ ap (λ t. t ++ more) regroup
      ∙ append_assoc (spelt ++ source) rest more

-- what an answer tells taken and written
pub answer_took : (k : End) (o n w : ℕ)
    → (took (answers k o n w) ≡ n) × (wrote (answers k o n w) ≡ w)
answer_took (Ok pause.Open) o n w = (refl, refl)
answer_took (Ok pause.Full) o n w = (refl, refl)
answer_took (Err f) o n w = (refl, refl)

-- a refused offer tells nothing taken
abbrev Nothing : Refusal → Type 0
Nothing q = (took (Err q) ≡ 0) × (wrote (Err q) ≡ 0)

refusal_tells : (p : State) (n : ℕ) (sector out : List ℕ) (q : Refusal)
    → refused p n sector out ≡ Some q → Nothing q
refusal_tells Open n sector out q e = grind (arith, nat_tests)
refusal_tells (Faulted f) n sector out q e = grind arith
refusal_tells Closed n sector out q e = grind arith

module _ (S T : Meaning) (l : Laws S) where
  abbrev stands_by : (bytes out : List ℕ) (s : Snapshot) (cs : List ℕ)
      → Decodes S bytes cs s.held → Spells T cs out → s.taken ≡ length bytes
      → s.written ≡ length out → s.characters ≡ length cs → StandsOn S T bytes out s
  stands_by bytes out s cs m w a b c = record {
    chars = cs;
    decodes = m;
    only = λ ds h k. decodes_once l bytes ds cs h s.held k m;
    writes = w;
    counts_taken = a;
    counts_written = b;
    counts_characters = c;
  }

  fresh_stands : StandsOn S T [] [] fresh
  fresh_stands =
      stands_by [] [] fresh []
      (record { spelt = []; spells = refl; parts = refl; opens = l.empty_opens }) refl refl refl
      refl

  in_state : (bytes out : List ℕ) (s : Snapshot) (p : State) → StandsOn S T bytes out s
      → StandsOn S T bytes out (with_state s p)
  in_state bytes out s p h =
      stands_by bytes out (with_state s p) h.chars h.decodes h.writes h.counts_taken
      h.counts_written h.counts_characters

  closing : (bytes out : List ℕ) (s t : Snapshot) (r : CloseAnswer) (p : State) (held : List ℕ)
      → ClosedOn p held s r t → StandsOn S T bytes out s → StandsOn S T bytes out t
  closing bytes out s t r Open [] c h = rw c.1 (in_state bytes out s _ h)
  closing bytes out s t r Open (b ∷ bs) c h = rw c.1 (in_state bytes out s _ h)
  closing bytes out s t r (Faulted f) held c h = rw c.1 h
  closing bytes out s t r Closed held c h = rw c.1 h

  -- the first character read is longer than what was held
  pub source_longer : (held sector chars source rest : List ℕ) (c : ℕ) → IsOpening S held
      → Spells S (c ∷ chars) source → held ++ sector ≡ source ++ rest
      → length held < length source
  source_longer held sector chars source rest c o p e =
      let long = opening_passed l held sector c (length p.0) o
      (rw (e, p.3, append_assoc, take-append_seam) (l.written c _ p.2)) in
      rw (p.3, length-append) (omega arith)

  abbrev next : Snapshot → State → ℕ → (chars target held : List ℕ) → Snapshot
  next s p n chars target held =
      record {
        state = p;
        taken = s.taken + n;
        characters = s.characters + length chars;
        written =
            s.written + length target;
        held = held;
      }

  -- the characters of an offer go behind those of the earlier ones
  grown : (bytes out : List ℕ) (s : Snapshot) (p : State) (n : ℕ)
      (sector chars source target held' : List ℕ) → StandsOn S T bytes out s
      → Spells S chars source → Spells T chars target → n ≤ length sector
      → s.held ++ take n sector ≡ source ++ held' → IsOpening S held'
      → StandsOn S T (bytes ++ take n sector) (out ++ target) (next s p n chars target held')
  grown bytes out s p n sector chars source target held' h from into size e o =
      let m = h.decodes in
      stands_by (bytes ++ take n sector) (out ++ target) (next s p n chars target held')
      (h.chars ++ chars)
      (record {
        spelt = m.spelt ++ source;
        spells = spells_append S h.chars chars m.spelt source m.spells from;
        parts = regroup bytes m.spelt s.held (take n sector) source held' m.parts e;
        opens = o;
      })
      (spells_append T h.chars chars out target h.writes into)
      (rw (h.counts_taken, length-append, length-take-le n sector size))
      (rw (h.counts_written, length-append))
      (rw (h.counts_characters, length-append))

  -- an offer that something stopped takes the bytes of its characters
  part : (bytes out : List ℕ) (s : Snapshot) (p : State)
      (sector chars source target rest : List ℕ) → StandsOn S T bytes out s
      → Spells S chars source → Spells T chars target → s.held ++ sector ≡ source ++ rest
      → StandsOn S T (bytes ++ take (length source - length s.held) sector) (out ++ target)
      (next s p (length source - length s.held) chars target (unless_any chars s.held))
  part bytes out s p sector [] source target rest h from into e =
      let n_is : length source - length s.held ≡ 0 = rw from (omega arith) in
      rw n_is (grown bytes out s p 0 sector [] source target s.held h from into (omega arith)
      (rw (from, append-nil)) h.decodes.opens)
  part bytes out s p sector (c ∷ chars) source target rest h from into e =
      let long = source_longer s.held sector chars source rest c h.decodes.opens from e in
      let sizes : length s.held + length sector ≡ length source + length rest =
      sym (length-append s.held sector) ∙ ap length e ∙ length-append source rest in
      grown bytes out s p (length source - length s.held) sector (c ∷ chars) source target [] h
      from
      into (omega arith)
      (taken_part s.held sector source rest e (omega arith) ∙ sym (append-nil source))
      l.empty_opens

  by_end : (bytes out : List ℕ) (s : Snapshot) (p : State)
      (sector chars source target rest : List ℕ) (room : ℕ) (k : End)
      → StandsOn S T bytes out s
      → Leads S T (s.held ++ sector) room chars source target rest
      → Stops S T rest (length target) room k
      → StandsOn S T (bytes ++ take (takes k s.held sector source) sector) (out ++ target)
      (next s p (takes k s.held sector source) chars target (holds k s.held chars rest))
  by_end bytes out s p sector chars source target rest room (Ok pause.Open) h g st =
      grown bytes out s p (length sector) sector chars source target rest h g.from g.into
      (omega arith) (ap (λ t. s.held ++ t) (take-length sector) ∙ g.begins) st
  by_end bytes out s p sector chars source target rest room (Ok pause.Full) h g st =
      part bytes out s p sector chars source target rest h g.from g.into g.begins
  by_end bytes out s p sector chars source target rest room (Err f) h g st =
      part bytes out s p sector chars source target rest h g.from g.into g.begins

  offering : (bytes out : List ℕ) (s t : Snapshot) (sector buffer : List ℕ) (r : OfferAnswer)
      (buffer' : List ℕ) (o : Option Refusal) → refused s.state s.taken sector buffer ≡ o
      → OfferedIf o S T s sector buffer r buffer' t → StandsOn S T bytes out s
      → StandsOn S T (bytes ++ take (took r) sector) (out ++ take (wrote r) buffer') t
  offering bytes out s t sector buffer r buffer' (Some q) e w h =
      let z = refusal_tells s.state s.taken sector buffer q e in
      rw (w.0, z.0, z.1, append-nil bytes, append-nil out, w.2) h
  offering bytes out s t sector buffer r buffer' None e w h =
      let n = takes w.end s.held sector w.source in
      let z = answer_took w.end (offset_of s w.source) n (length w.target) in
      let p = state_after w.end (offset_of s w.source) n (length w.target) in
      let g = by_end bytes out s p sector w.chars w.source w.target w.reaches.rest (length buffer)
      w.end h w.reaches.leads w.reaches.stops in
      rw (w.answer, z.0, z.1, w.left, take-append_seam, w.next) g

  stepping : (past : List Event) (s t : Snapshot) (e : Event) → Step S T s e t
      → Stands S T past s → Stands S T (e ∷ past) t
  stepping past s t start p h = rw p fresh_stands
  stepping past s t (offer sector buffer r buffer') p h =
      offering (taken_in past) (written_in past) s t sector buffer r buffer'
      (refused s.state s.taken sector buffer) refl p h
  stepping past s t (close r) p h =
      closing (taken_in past) (written_in past) s t r s.state s.held p h
  stepping past s t (status r) p h = rw p.1 h

  pub stands : {past : List Event} {s : Snapshot} → Use S T past s → Stands S T past s
  stands made = fresh_stands
  stands (call {past} {s} {t} {e} u p) = stepping past s t e p (stands u)
