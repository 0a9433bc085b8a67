use Rattle.std.proofs.Common.{rules, OnOk, Ok, Err, Result, ◌∙◌, ap, sym, arith}
use Rattle.conformance.specs.declared.run.Stretch.{Stretch}
use Rattle.conformance.specs.declared.vector.Vector.{Vector}
use Rattle.conformance.proofs.Holding.{next_held, all_held}
use Rattle.conformance.proofs.Count.hold.Goals.{in-Some, in_default+in_ok-add}
use Rattle.conformance.proofs.Count.hold.Goals as goal

on_ok : {X E : Type 0} (r : Result X E) {P : Type 0} → P → OnOk r P
on_ok (Ok x) p = p
on_ok (Err e) p = tt

pub followed_by-requires-clause-one_vector : goal.followed_by-requires-clause-one_vector
followed_by-requires-clause-one_vector c =
    c.in_ok-next.ensures.alone.0 ∙ sym c.loop-number.invariant.1

pub followed_by-requires-clause-behind : goal.followed_by-requires-clause-behind
followed_by-requires-clause-behind c =
    omega (arith, c.loop-number.invariant.2, c.in_ok-next.ensures.alone.1)

pub followed_by-requires-clause-follows : goal.followed_by-requires-clause-follows
followed_by-requires-clause-follows c =
    omega (arith, c.loop-number.invariant.3, c.in_ok-next.ensures.alone.1)

abbrev its_vector : Stretch → Vector
its_vector run = run.vector.now

pub loop-number-preserved : goal.loop-number-preserved
loop-number-preserved c = (
  next_held c.args.vector.now c.loop-number.number c.loop-number.invariant.0
      (c.in_ok-next.next.ours, c.in_ok-next.ensures.told, c.in_ok-next.ensures.accounted),
  elim c.match-followed_by.branch [
    | in-Some w ↦ ap its_vector w.run-is ∙ (w.in-Some.ensures.0 ∙ c.loop-number.invariant.1)
    | in_default+in_ok-add w ↦ ap its_vector w.run-is ∙ c.in_ok-next.ensures.alone.0
  ],
  elim c.match-followed_by.branch [
    | in-Some w ↦ search rules
    | in_default+in_ok-add w ↦ search rules
  ],
  elim c.match-followed_by.branch [
    | in-Some w ↦ search rules
    | in_default+in_ok-add w ↦ search rules
  ],
)

pub returns : goal.returns
returns c =
    on_ok c.add-2.result (elim c.loop-number-test.branch [
      | goal.else-loop-number-test w ↦ all_held c.args.vector.now c.loop-number.number
          c.loop-number.invariant.0 w.loop-number-test.false
      | goal.then-loop-number-test+in_ok-next+else-number-number-end w ↦
          all_held c.args.vector.now _
          (next_held c.args.vector.now c.loop-number.number c.loop-number.invariant.0
          (w.in_ok-next.next.ours, w.in_ok-next.ensures.told, w.in_ok-next.ensures.accounted))
          (search rules)
    ])
