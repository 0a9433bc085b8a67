use Rattle.std.proofs.Common.{◌≡◌, vec_items, sym, subst}
use Rattle.layers.specs.CharacterList.{required, Sound}
use Rattle.layers.proofs.Required.{required_sound}
use Rattle.layers.proofs.list.CharacterList.new.Goals as goal

pub invariant_of-result : goal.invariant_of-result
unfolding required
invariant_of-result c =
    let same : vec_items c.in_ok-characters.characters ≡ required =
    c.in_ok-characters.ensures.items_if_clones_equal (λ x y e. e) in
    subst Sound (sym same) required_sound

pub returns : goal.returns
unfolding required
returns c =
    let same : vec_items c.in_ok-characters.characters ≡ required =
    c.in_ok-characters.ensures.items_if_clones_equal (λ x y e. e) in
    record { characters = same; sound = subst Sound (sym same) required_sound }
