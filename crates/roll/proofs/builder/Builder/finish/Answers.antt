use Rattle.std.proofs.Common.{◌≡◌, length, ap, sym, subst, ◌∙◌, rules}
use Rattle.roll.specs.Packed.{packed}
use Rattle.roll.specs.RollOf.{IsRollOf}
use Rattle.roll.proofs.Built.{packed-pages_in, fits_roll}
use Rattle.roll.proofs.Packed.{packed_is_roll}
use Rattle.roll.proofs.builder.Builder.finish.Goals as goal

pub returns-clause-roll : goal.returns-clause-roll
returns-clause-roll c =
    let b = c.self.inside in
    let p = packed-pages_in b.entries.items b.bytes.items c.self.invariant.adds_up in
    let total : c.len-total.result ≡ length b.bytes.items = search rules in
    let count : c.len.result ≡ length b.entries.items = search rules in
    rw (
      c.in_ok-write_trailer.ensures,
      c.in_ok-write_index.ensures,
      c.deref.ensures.value,
      total,
      count,
    )
    (sym p ∙ ap packed c.self.view_is)

pub returns-clause-opens : goal.returns-clause-opens
returns-clause-opens c =
    let b = c.self.inside in
    let fits = fits_roll b.entries.items b.bytes.items c.args.self c.self.invariant
    c.self.view_is in
    subst (IsRollOf c.args.self) (sym (returns-clause-roll c)) (packed_is_roll c.args.self fits)
