use Rattle.std.proofs.Common.{◌≡◌, ◌+◌, ◌≤◌}
use Rattle.conformance.proofs.Holding.{HeldBelow}
use Rattle.conformance.proofs.Count.hold.Given as goal

abbrev pub invariant-loop-number : goal.invariant-loop-number
invariant-loop-number l =
    HeldBelow l.vector l.number × (l.run.vector.now ≡ l.vector) × (l.run.from ≤ l.number)
    × (l.number ≤ l.run.to + 1)
