use Rattle.std.proofs.Common.{◌≡◌, ℕ, ◌-◌, ◌≤◌, List, [], ◌++◌, length, take}
use Rattle.std.proofs.Common.{drop, min, ◌∙◌}
use Rattle.charset.proofs.Places.{window}
use Rattle.charset.proofs.front.Front.window.Goals as goal

of_parts : (self first more empty one two : List ℕ) (at n k : ℕ) → first ≡ self
    → length first ≤ 4 → n ≡ min at (length first) → k ≡ min (at - n) (length more)
    → empty ≡ [] → one ≡ take 4 (empty ++ take (length first - n) (drop n first))
    → two ≡ take 4 (one ++ take (length more - k) (drop k more))
    → two ≡ take 4 (drop at (self ++ more))
of_parts self first more empty one two at n k f few start behind e o t =
    t ∙ rw (o, e, ← f) (window first more at n k few start behind)

pub returns : goal.returns
returns c =
    of_parts c.args.self c.as_bytes-first.result.now c.args.more.now c.empty.result
    c.followed_by.result _ c.args.at c.min-start.result c.min-behind.result
    c.as_bytes-first.ensures.bytes c.as_bytes-first.ensures.few c.min-start.ensures
    c.min-behind.ensures c.empty.ensures c.followed_by.ensures c.followed_by-2.ensures
