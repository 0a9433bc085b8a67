use Rattle.std.proofs.Common.{inl, inr, sym, ap, ◌∙◌, take}
use Rattle.conversion.specs.Becomes.{becomes}
use Rattle.conversion.proofs.CodingsMet.{right_besides, one, two, three}
use Rattle.conversion.proofs.met.MetCodings.keep.Goals as goal

pub returns-in-2-len2-up : goal.returns-in-2-len2-up
returns-in-2-len2-up c S T right becoming = (
  right.0,
  λ s v k.
      let front = ap (λ n. take n c.args.input.now) c.in-2-len2-up.is-0
      ∙ two c.args.input.now c.in-2-len2-up.len_at_least in
      elim k [
        | inl p ↦ right_besides S T c.args.self.now.pairs.kept c.place.result _ c.args.coding
            (sym (ap (becomes S T) front) ∙ becoming) (λ s v k. right.1 s v (inl k)) s v
            (rw (← c.keep.ensures) p)
        | inr p ↦ right.1 s v (inr p)
      ],
)

pub returns-in-3-len3-up : goal.returns-in-3-len3-up
returns-in-3-len3-up c S T right becoming = (
  right.0,
  λ s v k.
      let front = ap (λ n. take n c.args.input.now) c.in-3-len3-up.is-0
      ∙ three c.args.input.now c.in-3-len3-up.len_at_least in
      elim k [
        | inl p ↦ right.1 s v (inl p)
        | inr p ↦ right_besides S T c.args.self.now.triples.kept c.place-in-3-len3-up.result _
            c.args.coding (sym (ap (becomes S T) front) ∙ becoming)
            (λ s v k. right.1 s v (inr k)) s v
            (rw (← c.keep-in-3-len3-up.ensures) p)
      ],
)

pub returns-in-1-len1-up : goal.returns-in-1-len1-up
returns-in-1-len1-up c S T right becoming =
    let front = ap (λ n. take n c.args.input.now) c.in-1-len1-up.is-0
    ∙ one c.args.input.now c.in-1-len1-up.len_at_least in
    c.keep_single.ensures S T right (sym (ap (becomes S T) front) ∙ becoming)
