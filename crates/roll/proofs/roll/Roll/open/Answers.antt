use Rattle.std.proofs.Common.{sym, ◌∙◌, arith}
use Rattle.std.proofs.lemmas.Result.{err_from_is_err_and}
use Rattle.roll.specs.Format.{Marked}
use Rattle.roll.specs.Opened.Refuses.{wrong_size, no_mark, wrong_index, bad_entry, wrong_total}
use Rattle.roll.proofs.Chain.{covers}
use Rattle.roll.proofs.roll.Roll.open.Goals as goal

pub invariant_of-result : goal.invariant_of-result
invariant_of-result c =
    let h = c.in_ok-total.ensures in
    let i = c.word_at-start.ensures in
    let n = c.word_at-count.ensures in
    record {
      accepted = record {
        sized = (omega arith, omega arith);
        marked = sym c.word_at.ensures ∙ c.if-word_at-ne-MARK.false;
        indexed = (omega (arith, n), omega (arith, n, i));
        no_pages_no_bytes = h.0;
        entries = h.1;
        totalled = sym c.word_at-2.ensures ∙ (c.if-word_at-total.false ∙ h.2);
        covered = covers c.args.bytes.now h.0 h.1;
      };
    }

pub returns-then-len-lt-SMALLEST_ROLL-clause-refused
    : goal.returns-then-len-lt-SMALLEST_ROLL-clause-refused
returns-then-len-lt-SMALLEST_ROLL-clause-refused c = wrong_size (λ s. grind (arith, s))

pub returns-then-word_at-ne-MARK-clause-refused : goal.returns-then-word_at-ne-MARK-clause-refused
returns-then-word_at-ne-MARK-clause-refused c =
    no_mark (omega arith, omega arith) (λ m. grind (arith, m))

pub returns-then-count-gt-MOST_PAGES-clause-refused
    : goal.returns-then-count-gt-MOST_PAGES-clause-refused
returns-then-count-gt-MOST_PAGES-clause-refused c =
    wrong_index (omega arith, omega arith) (cc) (λ i. grind (arith, i))

pub returns-in_err-total-clause-refused : goal.returns-in_err-total-clause-refused
returns-in_err-total-clause-refused c =
    let e = c.in_err-total.ensures in
    let p = err_from_is_err_and c.from_residual.result c.from_residual.ensures.1 in
    let marked : Marked c.args.bytes.now = cc in
    rw (p.1, p.2, e.1)
    (bad_entry e.0 (omega arith, omega arith) marked (omega arith, omega arith) e.2)

pub returns-then-word_at-total-clause-refused : goal.returns-then-word_at-total-clause-refused
returns-then-word_at-total-clause-refused c =
    let h = c.in_ok-total.ensures in
    wrong_total (omega arith, omega arith) (cc) (omega arith, omega arith) h.0 h.1
    (λ t. c.if-word_at-total.true (c.word_at-2.ensures ∙ (t ∙ sym h.2)))
