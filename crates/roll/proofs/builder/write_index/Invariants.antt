use Rattle.std.proofs.Common.{◌≡◌, ◌+◌, ◌≤◌, ◌++◌, drop, sum_by}
use Rattle.roll.specs.declared.TheConstants.{LARGEST_ROLL}
use Rattle.roll.specs.Built.{index_of}
use Rattle.roll.proofs.builder.write_index.Given as goal

abbrev pub invariant-loop-entry : goal.invariant-loop-entry
invariant-loop-entry l = record {
  fits : l.offset + sum_by (λ e. e.size) (drop l.entry-index l.entries) ≤ LARGEST_ROLL;
  written : l.roll.items ++ index_of l.offset (drop l.entry-index l.entries)
      ≡ l.initial.roll.items
      ++ index_of 0 l.entries;
}
