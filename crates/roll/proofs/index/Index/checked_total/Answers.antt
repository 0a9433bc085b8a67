use Rattle.std.proofs.Common.{◌≡◌, ◌+◌, refl, below_more, arith}
use Rattle.std.proofs.lemmas.Result.{err_from_is_err_and}
use Rattle.roll.specs.Format.{page_count}
use Rattle.roll.proofs.Chain.{first_bad, sums}
use Rattle.roll.proofs.index.Index.checked_total.Goals as goal

pub returns-in_err-end : goal.returns-in_err-end
returns-in_err-end c =
    let l = c.loop-place in
    let b = c.args.self.now.bytes.now in
    let e = c.in_err-end.ensures in
    let p = err_from_is_err_and c.from_residual.result c.from_residual.ensures.1 in
    rw (p.1, p.2, e.1) (l.place + 1, refl, first_bad b l.place (omega arith) l.invariant.1 e.0)

pub loop-place-preserved : goal.loop-place-preserved
loop-place-preserved c =
    let l = c.loop-place in
    let e = c.in_ok-end.ensures in
    (e.1, below_more _ l.place l.invariant.1 e.0)

pub returns : goal.returns
returns c =
    let l = c.loop-place in
    let b = c.args.self.now.bytes.now in
    let k : l.place ≡ page_count b = omega arith in
    let z = sums b l.place l.end k l.invariant.0 l.invariant.1 in
    (λ e. grind (arith, e), z.0, z.1)
