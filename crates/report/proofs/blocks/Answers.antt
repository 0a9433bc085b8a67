use Rattle.std.proofs.Common.{◌≡◌, ◌++◌, vec_items, ◌∙◌, subst, rules}
use Rattle.roll.specs.Pages.{PartAt}
use Rattle.roll.specs.Rolls.{bytes_of}
use Rattle.report.specs.Reports.{PageBlock, PageWritten}
use Rattle.report.proofs.OneMore.{one_more}
use Rattle.report.proofs.blocks.Goals as goal

pub loop-number-preserved : goal.loop-number-preserved
loop-number-preserved c =
    let longer : vec_items c.extend_from_slice.new.self ≡ vec_items c.loop-number.out
    ++ vec_items c.in_ok-block.block = search rules in
    let l = c.loop-number in
    let page = c.in-Some.page in
    let s = c.in-Some.ensures.steps in
    let same = l.invariant.0 in
    let place = l.number-iterator.past in
    let part = subst (λ b. PartAt b place page) same s.1.3 in
    let shown = subst (λ z. PageBlock z page (vec_items c.in_ok-block.block)) (s.1.2 ∙ s.1.1)
    c.in_ok-block.ensures in (
      s.0 ∙ same,
      one_more (PageWritten (bytes_of c.args.roll.now)) place c.next.new.self.past (vec_items l.out)
          (vec_items c.in_ok-block.block) (vec_items c.extend_from_slice.new.self) l.invariant.1
          (page, part, shown) longer s.1.1,
    )
