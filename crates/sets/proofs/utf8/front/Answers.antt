use Rattle.std.proofs.Common.{sym}
use Rattle.sets.proofs.Utf8Reads.{bad_first, bad_second, bad_third, bad_fourth}
use Rattle.sets.proofs.utf8.front.Goals as goal

pub returns-in-len1-up-2 : goal.returns-in-len1-up-2
returns-in-len1-up-2 c = (
  bad_first c.args.bytes.now c.in-len1-up.len_at_least c.if-a-lt128.false
      (sym c.if-not-is_lead.ensures),
  c.into.ensures,
)

pub returns-in-len2-up : goal.returns-in-len2-up
returns-in-len2-up c = (
  bad_second c.args.bytes.now c.in-len2-up.len_at_least (sym c.if-not-is_lead.ensures)
      (sym c.if-not-is_second.ensures),
  c.into-in-len2-up.ensures,
)

pub returns-in-len3-up : goal.returns-in-len3-up
returns-in-len3-up c = (
  bad_third c.args.bytes.now c.in-len3-up.len_at_least (sym c.if-not-is_lead.ensures)
      c.if-a-lt224.false (sym c.if-not-is_second.ensures) (sym c.if-not-is_tail.ensures),
  c.into-in-len3-up.ensures,
)

pub returns-in-len4-up : goal.returns-in-len4-up
returns-in-len4-up c = (
  bad_fourth c.args.bytes.now c.in-len4-up.len_at_least (sym c.if-not-is_lead.ensures)
      c.if-a-lt240.false (sym c.if-not-is_second.ensures) (sym c.if-not-is_tail.ensures)
      (sym c.if-not-is_tail-2.ensures),
  c.into-in-len4-up.ensures,
)
