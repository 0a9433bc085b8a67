use Rattle.std.proofs.Common.{◌≡◌, ◌≤◌, [], ◌∷◌, ◌++◌, length, arith, sym}
use Rattle.std.proofs.Common.{ap, ◌∙◌, rules}
use Rattle.std.proofs.lemmas.Grind.{common_steps}
use Rattle.std.proofs.lemmas.List.Elements.{All-push}
use Rattle.roll.specs.declared.TheConstants.{LAST_FORM}
use Rattle.roll.proofs.Built.{length-pages_in, pages_joined-pages_in}
use Rattle.roll.specs.Packed.{pages_joined}
use Rattle.roll.proofs.builder.Builder.with_page.Goals as goal

pub invariant_of-result : goal.invariant_of-result
invariant_of-result c =
    let b = c.self.inside in
    let count : length c.args.self ≡ length b.entries.items =
    ap length (sym c.self.view_is) ∙ length-pages_in b.entries.items b.bytes.items in
    let size : pages_joined c.args.self ≡ b.bytes.items =
    ap pages_joined (sym c.self.view_is) ∙ pages_joined-pages_in b.entries.items b.bytes.items
    c.self.invariant.adds_up in
    let pushed : c.push.new.self.items ≡ b.entries.items
    ++ record { form = c.args.form; size = length c.args.page.now } ∷ [] = search rules in
    rw (pushed, c.in_ok-extend_from_slice.ensures.items) (record {
      few = grind (arith, common_steps);
      adds_up = grind (arith, common_steps);
      short = grind (arith, common_steps);
      forms =
          All-push (λ e. e.form ≤ LAST_FORM) b.entries.items _ c.self.invariant.forms
          c.if-form-gt-LAST_FORM.false;
    })
