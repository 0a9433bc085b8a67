-- A set under another form of its bytes: each byte below is written as one or two bytes here.
use Rattle.std.specs.Prelude.{◌≡◌, ℕ, ◌<◌, Bool, true, false, cond, not, ◌&&◌, List}
use Rattle.std.specs.Prelude.{[], ◌∷◌, length, take, Some, None, Option, ◌≢◌, nat_le}
use Rattle.std.specs.Prelude.{option_and_then}
use Rattle.charset.specs.declared.SetRefusal.{SetRefusal}
use Rattle.charset.specs.Meaning.{Meaning}
use Rattle.charset.specs.Answers.{reading, writing}
use Rattle.layers.specs.declared.recoding.moves.Move.{Move}
use Rattle.layers.specs.declared.recoding.moves.Move.TheVariants.{Emit, Hold}
use Rattle.layers.specs.declared.recoding.moves.WrittenByte.{WrittenByte}
use Rattle.layers.specs.declared.recoding.moves.WrittenByte.TheVariants.{One, Two}
use Rattle.layers.specs.declared.cause.Cause.TheVariants.{TooLong}
use Rattle.layers.specs.Causes.{number_of}
use Rattle.layers.specs.Depth.{own, over}

-- how a string ends: between bytes below, within one, or after a byte that cannot stand there
pub data End : Type 0 where
  clean pending broken : End

-- how bytes are read one by one, after a held byte (true) or not; how a byte below is written; and
-- the cause of a wrong byte
pub record Recoding : Type 0 where
  pub step : Bool → ℕ → Option Move
  pub form : ℕ → Option WrittenByte
  pub fault : ℕ

-- what a step puts in front of the bytes below, and how the string goes on after it
abbrev pub put : Option Move → (Bool → List ℕ) → List ℕ
put (Some (Emit b)) f = b ∷ f false
put (Some Hold) f = f true
put None f = []

abbrev pub stop : Option Move → (Bool → End) → End
stop (Some (Emit b)) f = f false
stop (Some Hold) f = f true
stop None f = broken

-- the bytes below that the good front of s stands for, and how it ends
abbrev pub below : Recoding → Bool → List ℕ → List ℕ
below r p [] = []
below r p (x ∷ s) = put (r.step p x) (λ q. below r q s)

abbrev pub ends : Recoding → Bool → List ℕ → End
ends r p [] = cond p pending clean
ends r p (x ∷ s) = stop (r.step p x) (λ q. ends r q s)

-- a byte in its form before a string in its form, if both have one
abbrev pub before : Option WrittenByte → Option (List ℕ) → Option (List ℕ)
before f None = None
before (Some (One x)) (Some s) = Some (x ∷ s)
before (Some (Two x y)) (Some s) = Some (x ∷ y ∷ s)
before None (Some s) = None

-- a string below as it is written here, if each of its bytes can be
abbrev pub in_form : Recoding → List ℕ → Option (List ℕ)
in_form r [] = Some []
in_form r (b ∷ t) = before (r.form b) (in_form r t)

abbrev pub is_clean : End → Bool
is_clean clean = true
is_clean pending = false
is_clean broken = false

abbrev pub is_broken : End → Bool
is_broken clean = false
is_broken pending = false
is_broken broken = true

-- a string, if it has at most four bytes
abbrev pub at_most_four : Option (List ℕ) → Option (List ℕ)
at_most_four None = None
at_most_four (Some s) = cond (nat_le (length s) 4) (Some s) None

-- a coding below as a coding here
abbrev pub coding_of : Recoding → Option (List ℕ) → Option (List ℕ)
coding_of r None = None
coding_of r (Some t) = at_most_four (in_form r t)

-- the cause of four bytes or fewer: the one from below, or that of a wrong byte, or still open
abbrev pub scan_cause : Recoding → Meaning → List ℕ → SetRefusal
scan_cause r m s =
    over (reading m (below r false s))
    (own (cond (is_broken (ends r false s)) r.fault (number_of TooLong)))

-- why a coding below has none here, by its form; asked only where it has none: a byte of it cannot
-- be written, which goes first, or it takes more than four bytes
abbrev pub form_cause : Recoding → Option (List ℕ) → ℕ
form_cause r None = r.fault
form_cause r (Some s) = number_of TooLong

-- the cause of a character: the one from below, or why its coding below has none here
abbrev pub write_cause : Recoding → Meaning → ℕ → SetRefusal
write_cause r m c =
    over (writing m c) (own (form_cause r (option_and_then (in_form r) (m.codings.string c))))

-- the set below, its bytes in that form
abbrev pub recoded : Recoding → Meaning → Meaning
recoded r m = record {
  codings = record {
    character =
        λ s. cond (nat_le (length s) 4 && is_clean (ends r false s))
        (m.codings.character (below r false s)) None;
    string = λ c. coding_of r (m.codings.string c);
  };
  openings =
      λ s. nat_le (length s) 3 && (not (is_broken (ends r false s)) && m.openings
      (below r false s));
  causes = λ s. scan_cause r m (take 4 s);
  write_causes = write_cause r m;
}

-- what the bytes' two directions must agree on
pub record Agrees (r : Recoding) : Type 0 where
  pub one_step : (b x : ℕ) → r.form b ≡ Some (One x) → r.step false x ≡ Some (Emit b)
  pub two_steps : (b x y : ℕ) → r.form b ≡ Some (Two x y)
      → (r.step false x ≡ Some Hold) × (r.step true y ≡ Some (Emit b))
  pub step_one : (b x : ℕ) → r.step false x ≡ Some (Emit b) → r.form b ≡ Some (One x)
  pub step_two : (b x y : ℕ) → r.step false x ≡ Some Hold → r.step true y ≡ Some (Emit b)
      → r.form b ≡ Some (Two x y)
  pub no_third : (x : ℕ) → r.step true x ≢ Some Hold
  pub first_byte : (p : Bool) (x b : ℕ) → r.step p x ≡ Some (Emit b) → x < 256
  pub held_byte : (x : ℕ) → r.step false x ≡ Some Hold → x < 256
  pub small_fault : r.fault < 256
