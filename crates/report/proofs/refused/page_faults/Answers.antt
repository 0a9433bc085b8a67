use Rattle.std.proofs.Common.{◌≡◌, ◌+◌, ◌++◌, vec_items, ◌∙◌, subst, rules}
use Rattle.std.proofs.Common.{refl}
use Rattle.roll.specs.Pages.{PartAt}
use Rattle.roll.specs.Rolls.{bytes_of}
use Rattle.report.specs.Lines.{block_of}
use Rattle.report.specs.Texts.{page_form, IsTextOf}
use Rattle.report.specs.Reports.{PageBlock}
use Rattle.report.specs.Refused.{PageJudged, faults_of}
use Rattle.report.proofs.OneMore.{one_more}
use Rattle.report.proofs.refused.page_faults.Goals.{in-Err+in_ok-push, in_default}
use Rattle.report.proofs.refused.page_faults.Goals as goal

pub loop-number-preserved : goal.loop-number-preserved
loop-number-preserved c =
    let l = c.loop-number in
    let read = c.in_ok-read.read in
    let longer : vec_items c.match-read.faults ≡ vec_items l.faults ++ faults_of read.outcome =
    elim c.match-read.branch [
      | in-Err+in_ok-push w ↦ search rules
      | in_default w ↦ search rules
    ] in
    let page = c.in-Some.page in
    let s = c.in-Some.ensures.steps in
    let same = l.invariant.0 in
    let place = l.number-iterator.past in
    let part = subst (λ b. PartAt b place page) same s.1.3 in
    let text = subst (λ z. IsTextOf z page read) (s.1.2 ∙ s.1.1) c.in_ok-read.ensures.text in
    let block = block_of (vec_items read.text) (place + 1) (page_form page) read.characters
    read.outcome in
    let shown : PageBlock (place + 1) page block = record {
      text = vec_items read.text;
      characters = read.characters;
      outcome = read.outcome;
      transcribed = text;
      written = refl;
    } in (
      s.0 ∙ same,
      one_more (PageJudged (bytes_of c.args.roll.now)) place c.next.new.self.past
          (vec_items l.faults) (faults_of read.outcome) (vec_items c.match-read.faults)
          l.invariant.1 (page, part, block, shown, refl) longer s.1.1,
    )
