-- What the library writes for `{:04X}`.
use Rattle.std.proofs.Common.{◌≡◌, ℕ, ◌-◌, ◌^◌, true, false, [], arith}
use Rattle.std.proofs.lemmas.Grind.{common_steps}
use Rattle.std.specs.Fmt.{digits, padded_integral, format_spec, char_count}
use Rattle.conformance.specs.Texts.{hex_of}

pub padded_is_hex_of : (width n : ℕ)
    → padded_integral (format_spec 32 0 4 width (2 ^ 64 - 1)) false [] (digits 16 true n)
    ≡ hex_of width n
unfolding padded_integral char_count
padded_is_hex_of width n = grind (arith, common_steps)
