use Rattle.std.proofs.Common.{◌≡◌, Some, None, Err, sym, ap, ◌∙◌, refl, rules}
use Rattle.layers.specs.declared.cause.Cause.TheVariants.{TooLong}
use Rattle.layers.specs.Causes.{refusal}
use Rattle.layers.specs.Recoding.{at_most_four}
use Rattle.layers.proofs.RecodedWrites.{made_more, made_whole}
use Rattle.layers.proofs.recoded.recode.Goals as goal

pub loop-byte-preserved : goal.loop-byte-preserved
loop-byte-preserved g c =
    let form : c.form.result ≡ Some c.in_ok-written.written = search rules in
    made_more _ c.args.bytes.now c.loop-byte.byte-index c.loop-byte.front c.loop-byte.invariant
    c.loop-byte-test.true c.in_ok-written.written c.append-front.result
    (sym c.form.ensures ∙ form) c.append-front.ensures

pub returns-in_err-ok_or : goal.returns-in_err-ok_or
returns-in_err-ok_or g c =
    let all = made_whole _ c.args.bytes.now c.loop-byte.byte-index c.loop-byte.front
    c.loop-byte.invariant c.loop-byte-test.false in
    let none : c.loop-byte.front ≡ None = search rules in
    let told : c.from_residual-in_err-ok_or.result ≡ Err (refusal TooLong) = search rules in
    rw told (
      ap at_most_four all ∙ sym c.loop-byte.invariant.kept ∙ none,
      rw all refl,
    )

pub returns : goal.returns
returns g c =
    let all = made_whole _ c.args.bytes.now c.loop-byte.byte-index c.loop-byte.front
    c.loop-byte.invariant c.loop-byte-test.false in
    let some : c.loop-byte.front ≡ Some c.in_ok-ok_or.field-0 = search rules in
    ap at_most_four all ∙ sym c.loop-byte.invariant.kept ∙ some
