use Rattle.std.proofs.Common.{◌≡◌, ℕ, ◌-◌, ◌≤◌, List, ◌++◌, length, take}
use Rattle.std.proofs.Common.{drop, subst}
use Rattle.charset.specs.Sets.{set_of}
use Rattle.charset.specs.Meaning.{Meaning}
use Rattle.conversion.specs.Runs.{ByteForByte}
use Rattle.conversion.proofs.Windows.{behind}
use Rattle.conversion.proofs.two_sets.TwoSets.plain_at.Goals as goal

seen : (S T : Meaning) (held sector out out' : List ℕ) (at n b : ℕ) → b ≡ length held
    → b ≤ at
    → ByteForByte S T (take (length sector - (at - b)) (drop (at - b) sector)) out out' n
    → ByteForByte S T (drop at (held ++ sector)) out out' n
seen S T held sector out out' at n b e h far =
    let same : take (length sector - (at - b)) (drop (at - b) sector) ≡ drop at (held ++ sector) =
    rw e (behind held sector at (rw e at h)) in
    subst (λ z. ByteForByte S T z out out' n) same far

pub returns : goal.returns
returns g c =
    seen (set_of g.S.CharacterSet c.args.self.now.source)
    (set_of g.T.CharacterSet c.args.self.now.target) c.args.held c.args.sector.now
    c.args.output.now c.copy_plain.new.output
    c.args.at c.copy_plain.result c.len-behind.result c.len-behind.ensures.value
    c.if-at-behind.false c.copy_plain.ensures
