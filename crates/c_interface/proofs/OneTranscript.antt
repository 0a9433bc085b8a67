-- A record keeps one transcript: its forms and what it has come to can be read back from the
-- numbers.
use Rattle.std.proofs.Common.{◌≡◌, ℕ, ◌-◌, length, take, replicate, cond, ◌==◌}
use Rattle.std.proofs.Common.{refl, sym, ap, ◌∙◌}
use Rattle.std.proofs.Math.Seq.{take-append_seam}
use Rattle.charset.specs.declared.SetRefusal.{SetRefusal}
use Rattle.conversion.specs.declared.Fault.{Fault}
use Rattle.conversion.specs.declared.Fault.TheVariants.{Unread, Unwritten, Unfinished}
use Rattle.transcript.specs.declared.answers.Done.{Done}
use Rattle.transcript.specs.declared.answers.FaultAt.{FaultAt}
use Rattle.transcript.specs.declared.answers.State.{State}
use Rattle.transcript.specs.declared.answers.State.TheVariants.{Open, Faulted, Closed}
use Rattle.transcript.specs.declared.answers.Told.{Told}
use Rattle.roll.specs.declared.page.Form.{Form}
use Rattle.roll.proofs.FormNumbers.{same_form}
use Rattle.transcript.specs.Calls.{Snapshot}
use Rattle.c_interface.specs.declared.record.TranscriptRecord.{TranscriptRecord}
use Rattle.c_interface.specs.Records.{fault_record, state_number, state_fault, Keeps, OneTranscript}

fault_of : Told → Fault
fault_of t =
    let q : SetRefusal = record { cause = t.cause; depth = t.depth } in
    cond (t.number == 6) (Unread q) (cond (t.number == 7) (Unwritten t.character q) Unfinished)

fault_at : Told → FaultAt
fault_at t =
    record {
      fault = fault_of t;
      offset = t.offset;
      done = record { taken = t.taken; written = t.written };
    }

fault_back : (x : Fault) (o : ℕ) (d : Done)
    → fault_at (fault_record (record { fault = x; offset = o; done = d })) ≡
    record { fault = x; offset = o; done = d }
unfolding fault_at fault_of
fault_back (Unread q) o d = refl
fault_back (Unwritten c q) o d = refl
fault_back Unfinished o d = refl

state_of : ℕ → Told → State
state_of n t = cond (n == 0) Open (cond (n == 1) (Faulted (fault_at t)) Closed)

state_back : (s : State) → state_of (state_number s) (state_fault s) ≡ s
unfolding state_of
state_back Open = refl
state_back (Faulted f) = ap Faulted (fault_back f.fault f.offset f.done)
state_back Closed = refl

snapshot_of : TranscriptRecord → Snapshot
snapshot_of r = record {
  state = state_of r.status.state r.status.fault;
  taken = r.status.taken;
  characters = r.status.characters;
  written = r.status.written;
  held = take r.status.held r.bytes;
}

snapshot_back : (r : TranscriptRecord) (f g : Form) (s : Snapshot) → Keeps r f g s
    → snapshot_of r ≡ s
unfolding snapshot_of
snapshot_back r f g s k =
    ap snapshot_of k.numbers
    ∙ (λ i. record {
      state = state_back s.state i;
      taken = s.taken;
      characters = s.characters;
      written = s.written;
      held = take-append_seam s.held (replicate (4 - length s.held) 0) i;
    })

pub one_transcript : OneTranscript
one_transcript r f g f' g' s s' k k' = (
  same_form f f' (sym (ap (λ z. z.source) k.numbers) ∙ ap (λ z. z.source) k'.numbers),
  same_form g g' (sym (ap (λ z. z.target) k.numbers) ∙ ap (λ z. z.target) k'.numbers),
  sym (snapshot_back r f g s k) ∙ snapshot_back r f' g' s' k',
)
