-- A text has one transcription.
use Rattle.std.proofs.Common.{◌≡◌, ℕ, ◌+◌, ◌≤◌, List, [], ◌∷◌, length}
use Rattle.std.proofs.Common.{take, drop, Some, None, Ok, Err, Option, sym, refl, ap, ◌∙◌}
use Rattle.std.proofs.Common.{arith, take-append-drop, length-take-le}
use Rattle.charset.specs.Meaning.{Meaning, Laws}
use Rattle.conversion.specs.declared.Fault.{Fault}
use Rattle.conversion.specs.declared.Fault.TheVariants.{Unread, Unwritten, Unfinished}
use Rattle.conversion.specs.declared.Pause.TheVariants.{Open}
use Rattle.conversion.specs.Stops.{End, Stops, Reaches}
use Rattle.conversion.proofs.Leading.{one_end}
use Rattle.conversion.specs.Transcribed.{Ends, Transcribed, TheTranscription}

-- the end at which a conversion stands where a text ends
abbrev as_end : Option Fault → End
as_end None = Ok Open
as_end (Some (Unread q)) = Err (Unread q)
as_end (Some (Unwritten c q)) = Err (Unwritten c q)
as_end (Some Unfinished) = Ok Open

-- and back
abbrev as_stop : List ℕ → End → Option Fault
as_stop [] (Ok p) = None
as_stop (b ∷ s) (Ok p) = Some Unfinished
as_stop s (Err f) = Some f

module _ (S T : Meaning) (l : Laws S) where
  stop_back : (rest : List ℕ) (stop : Option Fault) → Ends S T rest stop
      → as_stop rest (as_end stop) ≡ stop
  stop_back rest None h = rw h refl
  stop_back rest (Some (Unread q)) h = refl
  stop_back rest (Some (Unwritten c q)) h = refl
  stop_back [] (Some Unfinished) h = absurd (omega (arith, h.1))
  stop_back (b ∷ s) (Some Unfinished) h = refl

  stops : (rest : List ℕ) (used room : ℕ) (stop : Option Fault) → Ends S T rest stop
      → Stops S T rest used room (as_end stop)
  stops rest used room None h = rw h l.empty_opens
  stops rest used room (Some (Unread q)) h = h
  stops rest used room (Some (Unwritten c q)) h = h
  stops rest used room (Some Unfinished) h = h.0

  reaches : {bytes t : List ℕ} {n i : ℕ} {stop : Option Fault}
      (p : Transcribed S T bytes t n i stop) (room : ℕ) → length t ≤ room
      → Reaches S T bytes room (as_end stop) p.chars (take i bytes) t
  reaches {bytes} {t} {n} {i} {stop} p room fits = record {
    rest = drop i bytes;
    leads =
        record {
          from = p.from;
          into = p.into;
          begins = sym (take-append-drop i bytes);
          fits =
              fits;
        };
    stops = stops (drop i bytes) (length t) room stop p.ends;
  }

  one_transcript : {bytes t u : List ℕ} {n m i j : ℕ} {a b : Option Fault}
      → Transcribed S T bytes t n i a → Transcribed S T bytes u m j b
      → (t ≡ u) × (n ≡ m) × (i ≡ j) × (a ≡ b)
  one_transcript {bytes} {t} {u} {n} {m} {i} {j} {a} {b} p q =
      let room = length t + length u in
      let e = one_end S T l bytes p.chars (take i bytes) t q.chars (take j bytes) u room (as_end a)
      (as_end b) (reaches p room (omega arith)) (reaches q room (omega arith)) in
      let offset : i ≡ j = sym (length-take-le i bytes p.inside) ∙ ap length e.1
      ∙ length-take-le j bytes q.inside in (
        e.2,
        p.counted ∙ ap length e.0 ∙ sym q.counted,
        offset,
        sym (stop_back (drop i bytes) a p.ends)
            ∙ rw (offset, e.3) (stop_back (drop j bytes) b q.ends),
      )

  pub the_transcription : {bytes text : List ℕ} {count offset : ℕ} {stop : Option Fault}
      → Transcribed S T bytes text count offset stop
      → TheTranscription S T bytes text count offset stop
  the_transcription h = record { transcribed = h; only = λ t n o s k. one_transcript k h }
