use Rattle.std.proofs.Common.{◌≡◌, vec_items}
use Rattle.roll.specs.EachPage.{source}
use Rattle.roll.specs.Rolls.{bytes_of}
use Rattle.report.specs.InOrder.{InOrder}
use Rattle.report.specs.Refused.{PageJudged}
use Rattle.report.proofs.refused.page_faults.Given as goal

abbrev pub invariant-loop-number : goal.invariant-loop-number
invariant-loop-number l =
    (source l.number-iterator ≡ bytes_of l.roll)
    × InOrder (PageJudged (bytes_of l.roll)) l.number-iterator.past (vec_items l.faults)
