use Rattle.layers.proofs.RecodedWrites.{Made}
use Rattle.layers.proofs.recoded.recode.Given as goal

abbrev pub invariant-loop-byte : goal.invariant-loop-byte
invariant-loop-byte g l = Made (g.F.ByteForm.recoding l.form) l.bytes l.byte-index l.front
