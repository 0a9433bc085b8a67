use Rattle.std.proofs.Common.{◌≡◌, ℕ, ◌-◌, ◌≤◌, List, ◌++◌, length, take}
use Rattle.std.proofs.Common.{drop, Result, ◌∙◌}
use Rattle.charset.specs.Meaning.{Meaning, Laws}
use Rattle.charset.specs.Sets.{set_of}
use Rattle.conversion.specs.declared.Fault.{Fault}
use Rattle.conversion.specs.declared.Advance.{Advance}
use Rattle.conversion.specs.Advances.{Advances}
use Rattle.conversion.proofs.Windows.{behind, advances_four}
use Rattle.conversion.proofs.two_sets.TwoSets.one_at.Goals as goal

among : (S T : Meaning) → Laws S → (held sector view out out' : List ℕ) (at : ℕ)
    (r : Result Advance Fault) → view ≡ take 4 (drop at (held ++ sector))
    → Advances S T view out out' r
    → Advances S T (drop at (held ++ sector)) out out' r
among S T l held sector view out out' at r v st =
    advances_four T l (drop at (held ++ sector)) out out' r (rw v at st)

after : (S T : Meaning) (held bytes sector out out' : List ℕ) (at : ℕ)
    (r : Result Advance Fault) → bytes ≡ held → length bytes ≤ at
    → Advances S T (take (length sector - (at - length bytes)) (drop (at - length bytes) sector))
    out out' r
    → Advances S T (drop at (held ++ sector)) out out' r
after S T held bytes sector out out' at r b h st =
    let seen : take (length sector - (at - length bytes)) (drop (at - length bytes) sector) ≡ drop
    at (held ++ sector) = rw b (behind held sector at (rw b at h)) in
    rw seen at st

pub returns-then-at-bytes-clause-advances : goal.returns-then-at-bytes-clause-advances
returns-then-at-bytes-clause-advances g c =
    let t = g.T.CharacterSet in let y = c.args.self.now.target in
    among _ (set_of t y) (g.met.S.CharacterSet.lawful c.args.self.now.source) c.args.held
    c.args.sector.now c.as_bytes.result.now
    c.args.output.now c.convert_one.new.output c.args.at c.convert_one.result
    (c.as_bytes.ensures.bytes ∙ c.window-window.ensures) c.convert_one.ensures.advances

pub returns-else-at-bytes-clause-advances : goal.returns-else-at-bytes-clause-advances
returns-else-at-bytes-clause-advances g c =
    let s = g.S.CharacterSet in let x = c.args.self.now.source in
    let t = g.T.CharacterSet in let y = c.args.self.now.target in
    after (set_of s x) (set_of t y) c.args.held c.as_bytes-bytes.result.now c.args.sector.now
    c.args.output.now c.convert_one-else-at-bytes.new.output c.args.at
    c.convert_one-else-at-bytes.result c.as_bytes-bytes.ensures.bytes c.if-at-bytes.false
    c.convert_one-else-at-bytes.ensures.advances
