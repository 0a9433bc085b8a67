-- Fronts of strings, and that the first four bytes of a string decide how it advances.
use Rattle.std.proofs.Common.{◌≡◌, ℕ, ◌-◌, ◌≤◌, List, ◌++◌, length, take}
use Rattle.std.proofs.Common.{drop, Ok, Err, Result, sym, ◌∙◌, arith, length-take, take_all}
use Rattle.std.proofs.lemmas.List.{take_rest}
use Rattle.charset.specs.declared.Reading.TheVariants.{Found, Open}
use Rattle.charset.specs.Meaning.{Meaning, Laws}
use Rattle.charset.specs.Answers.{ReadAnswer, Reads}
use Rattle.charset.proofs.FrontLemmas.{four_bytes_decide}
use Rattle.charset.proofs.Places.{drop_behind}
use Rattle.conversion.specs.declared.Fault.{Fault}
use Rattle.conversion.specs.declared.Fault.TheVariants.{Unread, Unwritten, Unfinished}
use Rattle.conversion.specs.declared.Pause.TheVariants as pause
use Rattle.conversion.specs.declared.Advance.{Advance}
use Rattle.conversion.specs.declared.Advance.TheVariants.{Written, Paused}
use Rattle.conversion.specs.Stops.{End, Stops}
use Rattle.conversion.specs.Advances.{Advances}

-- the bytes from a place behind the first on
pub behind : (first sector : List ℕ) (at : ℕ) → length first ≤ at
    → take (length sector - (at - length first)) (drop (at - length first) sector) ≡ drop at
    (first ++ sector)
behind first sector at h =
    take_rest sector (at - length first) ∙ sym (drop_behind first sector at h)

module _ {S : Meaning} (T : Meaning) (l : Laws S) (s : List ℕ) where
  reads_four : (r : ReadAnswer) → Reads S (take 4 s) r → Reads S s r
  reads_four r h =
      four_bytes_decide l (take 4 s) r h s
      (sym (take_all 4 (take 4 s) (rw (length-take 4 s) (omega arith))))

  stops_four : (used room : ℕ) (k : End) → Stops S T (take 4 s) used room k
      → Stops S T s used room k
  stops_four used room (Ok pause.Open) h = reads_four (Ok Open) h
  stops_four used room (Ok pause.Full) h =
      (h.0, h.1, h.2, reads_four (Ok (Found h.0 h.1)) h.3, h.4, h.5)
  stops_four used room (Err (Unwritten c q)) h = (h.0, reads_four (Ok (Found c h.0)) h.1, h.2)
  stops_four used room (Err (Unread q)) h = reads_four (Err q) h
  stops_four used room (Err Unfinished) h = h

  pub advances_four : (out out' : List ℕ) (r : Result Advance Fault)
      → Advances S T (take 4 s) out out' r
      → Advances S T s out out' r
  advances_four out out' (Ok (Written n w)) h =
      (h.0, h.1, reads_four (Ok (Found h.0 n)) h.2, h.3, h.4, h.5, h.6)
  advances_four out out' (Ok (Paused p)) h = (stops_four 0 (length out) (Ok p) h.0, h.1)
  advances_four out out' (Err f) h = (stops_four 0 (length out) (Err f) h.0, h.1)
