use Rattle.std.proofs.Common.{◌≡◌, ℕ, ◌<◌, take, true}
use Rattle.forms.specs.FormSets.{form_set}
use Rattle.report.proofs.explain.refused_bytes.Given as goal

abbrev pub invariant-loop-len : goal.invariant-loop-len
invariant-loop-len l =
    (0 < l.len)
    × ((k : ℕ) → 0 < k → k < l.len → (form_set l.form).openings (take k l.bytes) ≡ true)
