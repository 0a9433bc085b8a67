use Rattle.std.proofs.Common.{rules, ◌≡◌, Bool, true, false, Ok, refl}
use Rattle.charset.specs.declared.Reading.TheVariants.{Open}
use Rattle.charset.proofs.FrontLemmas.{one_reading}
use Rattle.forms.specs.Laws.Chosen.{chosen_laws}
use Rattle.forms.proofs.is_opening.Goals as goal
use Rattle.forms.proofs.is_opening.Goals.{in_default-via-in-Ok+in_default}
use Rattle.forms.proofs.is_opening.Goals.{in_default-via-in_default}

not_true : (b : Bool) → (b ≡ true → ⊥) → false ≡ b
not_true true n = absurd (n refl)
not_true false n = refl

pub returns-in_default : goal.returns-in_default
returns-in_default c =
    let no : c.read.result ≡ Ok Open → ⊥ = λ same.
    elim c.in_default.branch [
      | in_default-via-in-Ok+in_default w ↦ search rules
      | in_default-via-in_default w ↦ search rules
    ] in
    rw (← c.without_list.ensures.openings)
    (not_true _ (λ o. no (one_reading (chosen_laws c.without_list.result) c.args.bytes.now
    c.read.result (Ok Open) c.read.ensures o)))
