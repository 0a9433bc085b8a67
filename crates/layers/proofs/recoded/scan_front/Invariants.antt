use Rattle.std.proofs.Common.{◌≡◌, ◌≤◌, false, ◌++◌, length, drop}
use Rattle.layers.specs.Recoding.{below, ends}
use Rattle.layers.proofs.recoded.scan_front.Given as goal

-- the first bytes stand for the bytes below so far, and the others for what follows
abbrev pub invariant-loop-byte : goal.invariant-loop-byte
invariant-loop-byte g l =
    let r = g.F.ByteForm.recoding l.form in
    record {
      few : length l.below ≤ l.byte-index;
      stands : below r false l.byte-items ≡ l.below
          ++ below r l.held (drop l.byte-index l.byte-items);
      goes_on : ends r false l.byte-items ≡ ends r l.held (drop l.byte-index l.byte-items);
    }
