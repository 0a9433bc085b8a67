-- Writing bytes below one by one.
use Rattle.std.proofs.Common.{◌≡◌, ℕ, ◌+◌, ◌<◌, ◌≤◌, List, [], ◌∷◌}
use Rattle.std.proofs.Common.{◌++◌, length, get_or, drop, Some, None, Option, option_and_then}
use Rattle.std.proofs.Common.{sym, refl, ap, ◌∙◌, inl, inr, append_assoc, append-nil}
use Rattle.std.proofs.Common.{add-one, arith, length-append, drop_of_length-le, drop-cons}
use Rattle.std.proofs.lemmas.Bool.{cases_lt, lt-ltb, le-ltb, le-leb, lt-leb}
use Rattle.charset.specs.Strings.{with_byte}
use Rattle.layers.specs.declared.recoding.moves.WrittenByte.{WrittenByte}
use Rattle.layers.specs.declared.recoding.moves.WrittenByte.TheVariants.{One, Two}
use Rattle.layers.specs.Recoding.{Recoding, before, in_form, at_most_four}
use Rattle.layers.specs.Scans.{extended_if}

-- u, then what may follow
abbrev pub ahead : List ℕ → Option (List ℕ) → Option (List ℕ)
ahead u None = None
ahead u (Some v) = Some (u ++ v)

ahead_both : (u v : List ℕ) (o : Option (List ℕ)) → ahead u (ahead v o) ≡ ahead (u ++ v) o
ahead_both u v None = refl
ahead_both u v (Some w) = ap Some (sym (append_assoc u v w))

-- the bytes that a byte below is written in
abbrev bytes_of : WrittenByte → List ℕ
bytes_of (One x) = x ∷ []
bytes_of (Two x y) = x ∷ y ∷ []

before_some : (f : WrittenByte) (o : Option (List ℕ))
    → before (Some f) o ≡ ahead (bytes_of f) o
before_some (One x) None = refl
before_some (One x) (Some v) = refl
before_some (Two x y) None = refl
before_some (Two x y) (Some v) = refl

pub before_none : (o : Option (List ℕ)) → before None o ≡ None
before_none None = refl
before_none (Some v) = refl

-- one more byte behind at most four
one_more : (u : List ℕ) (x : ℕ)
    → option_and_then (λ w. with_byte w x) (at_most_four (Some u))
    ≡ at_most_four (Some (u ++ x ∷ []))
one_more u x =
    let size : length (u ++ x ∷ []) ≡ length u + 1 = length-append u (x ∷ []) in
    elim (cases_lt (length u) 4) [
      | inl h ↦ rw (
        le-leb (length u) 4 (omega (arith, h)),
        lt-ltb (length u) 4 h,
        le-leb (length (u ++ x ∷ [])) 4 (omega (arith, h, size)),
      ) refl
      | inr h ↦ elim (cases_lt 4 (length u)) [
        | inl g ↦ rw (
          lt-leb (length u) 4 g,
          lt-leb (length (u ++ x ∷ [])) 4 (omega (arith, g, size)),
        ) refl
        | inr g ↦ rw (
          le-leb (length u) 4 g,
          le-ltb (length u) 4 h,
          lt-leb (length (u ++ x ∷ [])) 4 (omega (arith, h, size)),
        ) refl
      ]
    ]

then_then : {X Y Z : Type 0} (f : X → Option Y) (g : Y → Option Z) (o : Option X)
    → option_and_then (λ x. option_and_then g (f x)) o
    ≡ option_and_then g (option_and_then f o)
then_then f g None = refl
then_then f g (Some x) = refl

extends : (u : List ℕ) (f : WrittenByte)
    → extended_if (at_most_four (Some u)) f ≡ at_most_four (Some (u ++ bytes_of f))
extends u (One x) = one_more u x
extends u (Two x y) =
    then_then (λ w. with_byte w x) (λ w. with_byte w y) (at_most_four (Some u))
    ∙ ap (option_and_then (λ w. with_byte w y)) (one_more u x)
    ∙ one_more (u ++ x ∷ []) y
    ∙ ap (λ z. at_most_four (Some z)) (append_assoc u (x ∷ []) (y ∷ []))

-- the bytes before i have forms, together u, and o is u if these are at most four bytes
pub record Made (r : Recoding) (t : List ℕ) (i : ℕ) (o : Option (List ℕ)) : Type 0 where
  pub u : List ℕ
  pub whole : in_form r t ≡ ahead u (in_form r (drop i t))
  pub kept : o ≡ at_most_four (Some u)

module _ (r : Recoding) (t : List ℕ) (i : ℕ) (o : Option (List ℕ)) (made : Made r t i o) where
  module _ (h : i < length t) where
    here : in_form r (drop i t) ≡ before (r.form (get_or t i 0)) (in_form r (drop (i + 1) t))
    here = ap (in_form r) (drop-cons t i 0 h) ∙ rw (add-one i) refl

    pub made_more : (f : WrittenByte) (p : Option (List ℕ)) → r.form (get_or t i 0) ≡ Some f
        → p ≡ extended_if o f → Made r t (i + 1) p
    made_more f p k e =
        let rest = in_form r (drop (i + 1) t) in
        record {
          u = made.u ++ bytes_of f;
          whole =
              made.whole ∙ ap (ahead made.u) (rw (here, k) (before_some f rest))
              ∙ ahead_both made.u (bytes_of f) rest;
          kept = e ∙ ap (λ z. extended_if z f) made.kept ∙ extends made.u f;
        }

    pub made_fails : r.form (get_or t i 0) ≡ None → in_form r t ≡ None
    made_fails k =
        let rest = in_form r (drop (i + 1) t) in
        let none : in_form r (drop i t) ≡ None = rw (here, k) (before_none rest) in
        made.whole ∙ rw none refl

  pub made_whole : length t ≤ i → in_form r t ≡ Some made.u
  made_whole h =
      let none : drop i t ≡ [] = drop_of_length-le t h in
      made.whole ∙ rw none (ap Some (append-nil made.u))
