use Rattle.std.proofs.Common.{◌≡◌, ℕ, ◌≤◌, List, length, take, ap, refl, sym}
use Rattle.std.proofs.Common.{◌∙◌, arith, length-take-le}
use Rattle.charset.specs.Laws.Padding.{size_back}
use Rattle.charset.proofs.Places.{padded_more, view_more, four_of}
use Rattle.charset.proofs.front.Front.followed_by.Goals as goal

size : (more part : List ℕ) (k : ℕ) → part ≡ take k more → k ≤ length more
    → length part ≡ k
size more part k h fits = ap length h ∙ length-take-le k more fits

pub invariant_of-result : goal.invariant_of-result
invariant_of-result c =
    let k = c.min-len.ensures in
    rw c.from-start.ensures
    (padded_more c.self.inside.bytes c.copy_from_slice.new.self c.self.inside.len _ c.min-len.result
    c.self.invariant
    (size c.args.more.now _ _ c.copy_from_slice.ensures.after (omega (arith, k))) (omega arith)
    (omega (arith, k, c.from-start.ensures, c.self.invariant.few)))

pub returns : goal.returns
returns c =
    let k = c.min-len.ensures in
    rw c.from-start.ensures
    (view_more c.self.inside.bytes c.copy_from_slice.new.self c.self.inside.len _ c.min-len.result
    c.self.invariant
    (size c.args.more.now _ _ c.copy_from_slice.ensures.after (omega (arith, k))) (omega arith)
    (omega (arith, k, c.from-start.ensures, c.self.invariant.few))
    ∙ rw (c.self.view_is, c.copy_from_slice.ensures.after)
    (four_of c.args.self c.args.more.now c.self.inside.len c.min-len.result
    (sym (ap length c.self.view_is) ∙ size_back _ _ c.self.invariant) c.self.invariant.few
    (k ∙ rw c.from-start.ensures refl)))
