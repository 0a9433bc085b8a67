use Rattle.std.proofs.Common.{◌≡◌}
use Rattle.roll.specs.Format.{starts}
use Rattle.roll.proofs.Chain.{HoldBelow}
use Rattle.roll.proofs.index.Index.checked_total.Given as goal

abbrev pub invariant-loop-place : goal.invariant-loop-place
invariant-loop-place l =
    (l.end ≡ starts l.self.bytes.now l.place) × HoldBelow l.self.bytes.now l.place
