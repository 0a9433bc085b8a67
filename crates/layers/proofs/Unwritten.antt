-- Why a form of bytes cannot write a character.
use Rattle.std.proofs.Common.{◌≡◌, ℕ, ◌<◌, ◌⊎◌, List, [], ◌∷◌, ◌++◌}
use Rattle.std.proofs.Common.{length, Some, None, Err, Option, sym, refl, ap, inl, inr}
use Rattle.std.proofs.lemmas.Bool.{cases_lt, le-leb, lt-leb}
use Rattle.std.proofs.lemmas.Option.{none-some}
use Rattle.charset.specs.Strings.{AreBytes}
use Rattle.charset.specs.Meaning.{Meaning, HasNoCoding}
use Rattle.charset.specs.Answers.{Writes}
use Rattle.layers.specs.declared.recoding.moves.WrittenByte.{WrittenByte}
use Rattle.layers.specs.declared.recoding.moves.WrittenByte.TheVariants.{One, Two}
use Rattle.layers.specs.declared.cause.Cause.TheVariants.{TooLong}
use Rattle.layers.specs.Causes.{refusal}
use Rattle.layers.specs.Depth.{own, up}
use Rattle.layers.specs.Recoding.{Recoding, before, in_form, at_most_four, coding_of, recoded}
use Rattle.layers.proofs.RecodedWrites.{before_none}

pub byte_at : (p rest : List ℕ) (x : ℕ) → AreBytes (p ++ x ∷ rest) → x < 0x100
byte_at [] rest x h = h.0
byte_at (y ∷ p) rest x h = byte_at p rest x h.1

-- a byte of t has no form; and t has such a byte, or is too long in its form
abbrev FormlessIn : Recoding → List ℕ → Type 0
FormlessIn r t = (p rest : List ℕ) × (b : ℕ) × (t ≡ p ++ b ∷ rest) × (r.form b ≡ None)

abbrev NotWritten : Recoding → List ℕ → Type 0
NotWritten r t =
    FormlessIn r t ⊎ ((s : List ℕ) × (in_form r t ≡ Some s) × (4 < length s))

module _ (r : Recoding) where
  -- it has none exactly where the string has none
  formless : (t : List ℕ) → in_form r t ≡ None → FormlessIn r t
  formless [] e = cc
  formless (b ∷ t) e = go (r.form b) refl (in_form r t) (formless t) e
    where
      go : (f : Option WrittenByte) → r.form b ≡ f → (o : Option (List ℕ))
          → (o ≡ None → FormlessIn r t) → before f o ≡ None → FormlessIn r (b ∷ t)
      go None h o g e = ([], t, b, refl, h)
      go (Some f) h None g e =
          let i = g refl in (b ∷ i.0, i.1, i.2, ap {B = List ℕ} (λ z. b ∷ z) i.3, i.4)
      go (Some (One x)) h (Some u) g e = cc
      go (Some (Two x y)) h (Some u) g e = cc

  no_form : (p rest : List ℕ) (b : ℕ) → r.form b ≡ None
      → in_form r (p ++ b ∷ rest) ≡ None
  no_form [] rest b h = rw h (before_none (in_form r rest))
  no_form (x ∷ p) rest b h = rw (no_form p rest b h) refl

  module _ (m : Meaning) (c : ℕ) where
    pub passes_up : HasNoCoding m c → Writes (recoded r m) c (Err (up (m.write_causes c)))
    passes_up e = (rw e refl, rw e refl)

    pub own_fault : (p rest : List ℕ) (b : ℕ) → m.codings.string c ≡ Some (p ++ b ∷ rest)
        → r.form b ≡ None → Writes (recoded r m) c (Err (own r.fault))
    own_fault p rest b e h =
        let none = no_form p rest b h in (rw (e, none) refl, rw (e, none) refl)

    pub own_length : (t s : List ℕ) → m.codings.string c ≡ Some t → in_form r t ≡ Some s
        → 4 < length s → Writes (recoded r m) c (Err (refusal TooLong))
    own_length t s e f h = (rw (e, f, lt-leb (length s) 4 h) refl, rw (e, f) refl)

    -- it has no coding below, or one with a byte that has no form, or one that is too long
    pub nothing_else : HasNoCoding (recoded r m) c
        → HasNoCoding m c
        ⊎ ((t : List ℕ) × (m.codings.string c ≡ Some t) × NotWritten r t)
    nothing_else h = go (m.codings.string c) refl h
      where
        by_form : (t : List ℕ) (o : Option (List ℕ)) → in_form r t ≡ o
            → at_most_four o ≡ None → NotWritten r t
        by_form t None f e = inl (formless t f)
        by_form t (Some s) f e = elim (cases_lt 4 (length s)) [
          | inl g ↦ inr (s, f, g)
          | inr g ↦ let some : Some s ≡ None = rw (le-leb (length s) 4 g) at e in
              absurd (none-some s (sym some))
        ]

        go : (o : Option (List ℕ)) → m.codings.string c ≡ o → coding_of r o ≡ None
            → HasNoCoding m c
            ⊎ ((t : List ℕ) × (m.codings.string c ≡ Some t) × NotWritten r t)
        go None e h = inl e
        go (Some t) e h = inr (t, e, by_form t (in_form r t) refl h)
