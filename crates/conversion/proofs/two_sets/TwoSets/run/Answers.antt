use Rattle.std.proofs.Common.{◌≡◌, ℕ, ◌+◌, ◌-◌, ◌≤◌, List, ◌++◌, length}
use Rattle.std.proofs.Common.{take, drop, Ok, Err, refl, Result, subst, arith, rules}
use mathlib.Core.Path.{subst₃}
use borrow.Rule.Slice.PartMut.{put_mid}
use Rattle.charset.specs.Meaning.{Meaning, Laws}
use Rattle.conversion.specs.declared.Fault.{Fault}
use Rattle.conversion.specs.declared.Advance.{Advance}
use Rattle.conversion.specs.declared.Advance.TheVariants.{Written, Paused}
use Rattle.conversion.specs.declared.Pause.{Pause}
use Rattle.conversion.specs.Advances.{Advances}
use Rattle.conversion.specs.Runs.{Far, ByteForByte, Runs}
use Rattle.conversion.proofs.Turns.{far_join, far_more, far_ends}
use Rattle.conversion.proofs.two_sets.TwoSets.run.Goals as goal

-- the part of the output behind what was written, and the output with other bytes in that part
abbrev part : ℕ → List ℕ → List ℕ
part put o = take (length o - put) (drop put o)

abbrev after : ℕ → List ℕ → List ℕ → List ℕ
after put o last = put_mid put (length o - put) o last

module _ {S T : Meaning} (l : Laws S) (held sector out o : List ℕ) {count at put : ℕ}
    (far : Far S T (held ++ sector) out o count at put) where
  copied : (last : List ℕ) (n : ℕ)
      → ByteForByte S T (drop at (held ++ sector)) (part put o) last n
      → Far S T (held ++ sector) out (after put o last) (count + n) (at + n) (put + n)
  copied last n more =
      far_join S T l (held ++ sector) out o count at put far (after put o last) last n more refl

  -- where there are none
  still : (last : List ℕ) (n : ℕ) → n ≤ 0
      → ByteForByte S T (drop at (held ++ sector)) (part put o) last n
      → Far S T (held ++ sector) out (after put o last) count at put
  still last n none more =
      subst₃ (λ x y z. Far S T (held ++ sector) out (after put o last) x y z)
      (omega (arith, none))
      (omega (arith, none)) (omega (arith, none)) (copied last n more)

module _ {S T : Meaning} (l : Laws S) (held sector out o last : List ℕ) {count at put : ℕ}
    (far : Far S T (held ++ sector) out o count at put) where
  more : (n k : ℕ) {x : Advance} → x ≡ Written n k
      → Advances S T (drop at (held ++ sector)) (part put o) last (Ok x)
      → Far S T (held ++ sector) out (after put o last) (count + 1) (at + n) (put + k)
  more n k e s =
      far_more S T l (held ++ sector) out o count at put far _ last n k
      (subst (λ z. Advances S T (drop at (held ++ sector)) (part put o) last (Ok z)) e s) refl

  ends : (p : Pause) {x : Advance} → x ≡ Paused p
      → Advances S T (drop at (held ++ sector)) (part put o) last (Ok x)
      → Runs S T (held ++ sector) out (after put o last)
      (record { characters = count; read = at; written = put }) (Ok p)
  ends p e s =
      let w = subst (λ z. Advances S T (drop at (held ++ sector)) (part put o) last (Ok z)) e s in
      far_ends S T l (held ++ sector) out o count at put far (Ok p) _ last w.0 w.1 refl

  fails : (f : Fault) {r : Result Pause Fault} → r ≡ Err f
      → Advances S T (drop at (held ++ sector)) (part put o) last (Err f)
      → Runs S T (held ++ sector) out (after put o last)
      (record { characters = count; read = at; written = put }) r
  fails f e w =
      rw e (far_ends S T l (held ++ sector) out o count at put far (Err f) _ last w.0 w.1 refl)

pub turns-preserved-then-copied-gt0 : goal.turns-preserved-then-copied-gt0
turns-preserved-then-copied-gt0 g c = (
  c.turns.invariant.0,
  copied (g.met.S.CharacterSet.lawful c.args.self.now.source) c.args.held c.args.sector.now
      c.args.output.now c.turns.output c.turns.invariant.1 c.plain_at-copied.new.output
      c.plain_at-copied.result c.plain_at-copied.ensures,
)

pub turns-preserved : goal.turns-preserved
turns-preserved g c =
    let l = g.met.S.CharacterSet.lawful c.args.self.now.source in (
      c.in_ok-read.ensures.right,
      more l c.args.held c.args.sector.now c.args.output.now _ c.one_at.new.output
          (still l c.args.held c.args.sector.now c.args.output.now c.turns.output
          c.turns.invariant.1
          c.plain_at-copied.new.output c.plain_at-copied.result c.if-copied-gt0.false
          c.plain_at-copied.ensures)
          _ _ c.in-Written.is c.in_ok-read.ensures.advances,
    )

pub returns-in-Paused-clause-runs : goal.returns-in-Paused-clause-runs
returns-in-Paused-clause-runs g c =
    let l = g.met.S.CharacterSet.lawful c.args.self.now.source in
    ends l c.args.held c.args.sector.now c.args.output.now _ c.one_at.new.output
    (still l c.args.held c.args.sector.now c.args.output.now c.turns.output c.turns.invariant.1
    c.plain_at-copied.new.output c.plain_at-copied.result c.if-copied-gt0.false
    c.plain_at-copied.ensures)
    _ c.in-Paused.is c.in_ok-read.ensures.advances

pub returns-in_err-read-clause-runs : goal.returns-in_err-read-clause-runs
returns-in_err-read-clause-runs g c =
    let l = g.met.S.CharacterSet.lawful c.args.self.now.source in
    fails l c.args.held c.args.sector.now c.args.output.now _ c.one_at.new.output
    (still l c.args.held c.args.sector.now c.args.output.now c.turns.output c.turns.invariant.1
    c.plain_at-copied.new.output c.plain_at-copied.result c.if-copied-gt0.false
    c.plain_at-copied.ensures)
    c.in_err-read.field-0.0 (search rules) c.in_err-read.ensures.advances
