use Rattle.roll.specs.Forms.{form_number}
use Rattle.std.proofs.Common.{◌≡◌, rules, refl, sym, ◌∙◌}
use Rattle.std.proofs.lemmas.Bool.{false≢true}
use Rattle.std.proofs.lemmas.Bool.Decides.{Decides-eqb}
use Rattle.std.proofs.lemmas.Slice.Eq.{slice_eq-Decides}
use Rattle.c_interface.specs.FormTranscripts.{KeepsTranscript}
use Rattle.c_interface.proofs.Kept.{without_status, no_progress, opens, same_places, keeps, if_so}
use Rattle.c_interface.proofs.form_transcript.FormTranscript.of.Goals as goal

pub returns-in_err-status : goal.returns-in_err-status
returns-in_err-status c = rw c.from_residual-in_err-status.ensures (without_status (search rules))

pub returns-in_err-progress : goal.returns-in_err-progress
returns-in_err-progress c =
    let first = c.followed_by-held.ensures ∙ rw (c.empty.ensures, c.min.ensures) refl in
    rw c.from_residual-in_err-progress.ensures
    (λ f g s k.
    no_progress c.args.kept.now c.in_ok-status.status c.in_ok-status.ensures.numbers f g
    s k
    c.followed_by-held.result first c.in_err-progress.ensures)

pub returns : goal.returns
returns c =
    let come = c.in_ok-progress.ensures in
    let equal = slice_eq-Decides Decides-eqb c.places.result c.args.kept.now.bytes c.eq.result
    c.eq.ensures in
    rw c.then_some.ensures
    (if_so (KeepsTranscript c.args.kept.now) c.eq.result _
    (λ y. keeps c.args.kept.now c.in_ok-source.source c.in_ok-target.target
    c.in_ok-progress.progress c.in_ok-status.status c.followed_by-held.result
    c.in_ok-status.ensures.numbers come.0 come.1
    (search rules) (search rules) (rw (← c.places.ensures) (equal.0 y)) (search rules)
    c.in_ok-status.ensures.can_be)
    (λ n f g s k. false≢true
    (sym n ∙ equal.1 (c.places.ensures ∙ same_places c.args.kept.now c.in_ok-status.status
    c.in_ok-status.ensures.numbers f g s k c.followed_by-held.result
    (c.followed_by-held.ensures ∙ rw (c.empty.ensures, c.min.ensures) refl)))))

pub returns-then-not-is_opening : goal.returns-then-not-is_opening
returns-then-not-is_opening c =
    let numbered : c.args.kept.now.source ≡ form_number c.in_ok-source.source = search rules in
    let first = c.followed_by-held.ensures ∙ rw (c.empty.ensures, c.min.ensures) refl in
    λ f g s k. false≢true
    (c.if-not-is_opening.ensures ∙ rw c.as_bytes.ensures.bytes
    (opens c.args.kept.now c.in_ok-status.status c.in_ok-status.ensures.numbers f g s k
    c.in_ok-source.source numbered c.followed_by-held.result first))
