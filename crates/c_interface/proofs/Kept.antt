-- What a record keeps, from its numbers.
use Rattle.std.proofs.Common.{◌≡◌, ℕ, ◌≤◌, Bool, true, false, List, length, take}
use Rattle.std.proofs.Common.{take_all, min, arith, refl, sym, ap, subst, ◌∙◌}
use Rattle.std.specs.Bool.{then_some}
use Rattle.std.specs.Option.{MatchOption}
use Rattle.std.proofs.Math.Seq.{take-append_seam}
use Rattle.std.proofs.Math.Nat.{min-eq_left}
use Rattle.charset.specs.Meaning.{IsOpening}
use Rattle.charset.specs.Padding.{padded}
use Rattle.transcript.specs.declared.answers.Status.{Status}
use Rattle.roll.specs.declared.page.Form.{Form}
use Rattle.roll.specs.Forms.{form_number}
use Rattle.roll.proofs.FormNumbers.{same_form}
use Rattle.forms.specs.FormSets.{form_set}
use Rattle.forms.proofs.FormLaws.{form_laws}
use Rattle.transcript.specs.Calls.{Snapshot, status_of}
use Rattle.transcript.specs.Snapshots.{snapshot, Counts, told_with}
use Rattle.transcript.specs.declared.progress.Progress.{Progress}
use Rattle.c_interface.specs.declared.record.TranscriptRecord.{TranscriptRecord}
use Rattle.c_interface.specs.Records.{status_record, record_of, CanBeIn, Keeps}
use Rattle.c_interface.specs.Records.{NoStatus, NoTranscript}

pub without_status : {r : TranscriptRecord} → NoStatus r.status → NoTranscript r
without_status n f g s k =
    n (status_of s) (record { numbers = ap (λ z. z.status) k.numbers; can_be = k.can_be })

abbrev pub first_places : Status → TranscriptRecord → List ℕ
first_places u r = take 4 (take (min u.held 4) r.bytes)

-- where a record keeps a transcript, its status is that of the transcript, and its first places are
-- the held bytes
module _ (r : TranscriptRecord) (u : Status) (e : r.status ≡ status_record u) (f g : Form)
    (s : Snapshot) (k : Keeps r f g s) where
  same : status_record u ≡ status_record (status_of s)
  same = sym e ∙ ap (λ z. z.status) k.numbers

  few : length s.held ≤ 4
  few = let three = (form_laws f).opening_sized s.held k.opening in omega arith

  held_first : first_places u r ≡ s.held
  held_first =
      rw (
        ap (λ z. z.held) same,
        min-eq_left few,
        ap (λ z. z.bytes) k.numbers,
        take-append_seam s.held _,
      ) (take_all 4 s.held few)

  pub no_progress : (h : List ℕ) → h ≡ first_places u r
      → (u.held ≡ length h → Counts (told_with u h) → ⊥) → ⊥
  no_progress h b n =
      let held = b ∙ held_first in
      n (ap (λ z. z.held) same ∙ sym (ap length held)) (record {
        read_least =
            rw (held, ap (λ z. z.characters) same, ap (λ z. z.taken) same) k.counts.read_least;
        read_most =
            rw (held, ap (λ z. z.characters) same, ap (λ z. z.taken) same) k.counts.read_most;
        written_least =
            rw (ap (λ z. z.written) same, ap (λ z. z.characters) same) k.counts.written_least;
        written_most =
            rw (ap (λ z. z.written) same, ap (λ z. z.characters) same) k.counts.written_most;
        limit = rw (ap (λ z. z.taken) same) k.counts.limit;
      })

  pub opens : (source : Form) → r.source ≡ form_number source → (h : List ℕ)
      → h ≡ first_places u r → IsOpening (form_set source) h
  opens source m h b =
      rw (b ∙ held_first, same_form source f (sym m ∙ ap (λ z. z.source) k.numbers)) k.opening

  pub same_places : (h : List ℕ) → h ≡ first_places u r → padded h ≡ r.bytes
  same_places h b = ap padded (b ∙ held_first) ∙ sym (ap (λ z. z.bytes) k.numbers)

module _ (r : TranscriptRecord) (f g : Form) (p : Progress) (u : Status) (h : List ℕ)
    (e : r.status ≡ status_record u) (q : u.held ≡ length h)
    (come : snapshot p ≡ told_with u h)
  where
    same_status : u ≡ status_of (told_with u h)
    same_status =
        λ i. record {
          taken = u.taken;
          characters = u.characters;
          written = u.written;
          held = q i;
          state = u.state;
        }

    pub keeps : r.source ≡ form_number f → r.target ≡ form_number g → padded h ≡ r.bytes
        → IsOpening (form_set f) h → CanBeIn u.state → Keeps r f g (snapshot p)
    keeps a b w opening can_be = record {
      numbers =
          subst (λ s. r ≡ record_of f g s) (sym come)
          (λ i. record {
            status = (e ∙ ap status_record same_status) i;
            source = a i;
            target = b i;
            bytes = sym w i;
          });
      counts =
          record {
            read_least = p.read_least;
            read_most = p.read_most;
            written_least = p.written_least;
            written_most = p.written_most;
            limit = p.limited;
          };
      opening = rw (ap (λ s. s.held) come) opening;
      can_be = rw (ap (λ s. s.state) come) can_be;
    }

pub if_so : {K R : Type 0} (Q : K → Type 0) (b : Bool) (x : K) → (b ≡ true → Q x)
    → (b ≡ false → R) → MatchOption (then_some b x) R Q
if_so Q true x y n = y refl
if_so Q false x y n = n refl
