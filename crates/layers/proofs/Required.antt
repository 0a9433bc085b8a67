-- The required characters, by tests that antt computes.
use Rattle.std.proofs.Common.{◌≡◌, true, length, refl, arith}
use Rattle.std.proofs.lemmas.Bool.{agree_below_at}
use Rattle.layers.specs.CharacterList.{required, rises_at, Rising, Sound}

pub required_length : length required ≡ 74
unfolding required
required_length = refl

pub required_rising : Rising required
unfolding required
required_rising i h =
    agree_below_at (rises_at required) (λ _. true) 74 i refl (omega (arith, required_length))

pub required_sound : Sound required
required_sound = (omega (arith, required_length), required_rising, λ c h. h)
