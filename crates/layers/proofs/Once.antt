-- Numbers are refused on one ground only.
use Rattle.std.proofs.Common.{◌≡◌, ℕ, ◌<◌, ◌≤◌, true, false, ◌⊎◌, List}
use Rattle.std.proofs.Common.{length, None, sym, ◌∙◌, inl, inr, arith}
use Rattle.std.proofs.lemmas.Bool.{cases_order, both_ways}
use Rattle.charset.specs.Meaning.{Codings}
use Rattle.layers.specs.CharacterList.{required, rises_at, on_list, Rising, Complete}
use Rattle.layers.specs.Refusals.{Told}
use Rattle.layers.specs.Filled.{FirstNotRising, FirstMissing, FirstUncoded, IsNotIncreasing}
use Rattle.layers.specs.Filled.{Lacking, WithoutCoding, Acceptable, Ground, OneAnswer}

-- there is one smallest number only
smallest : (P : ℕ → Type 0) (i j : ℕ) → P i → P j
    → ((k : ℕ) → k < i → P k → ⊥) → ((k : ℕ) → k < j → P k → ⊥) → i ≡ j
smallest P i j p q f g =
    elim (cases_order i j) [
      | inl e ↦ e
      | inr o ↦ elim o
          [ inl h ↦ absurd (g i h p) | inr h ↦ absurd (f j h q) ]
    ]

module _ (k : Codings) (xs : List ℕ) where
  falls_once : (i j : ℕ) → FirstNotRising xs i → FirstNotRising xs j → i ≡ j
  falls_once i j p q =
      smallest (λ n. rises_at xs n ≡ false) i j p.here q.here
      (λ n h f. both_ways (rises_at xs n) f (p.before n h))
      (λ n h f. both_ways (rises_at xs n) f (q.before n h))

  missing_once : (c d : ℕ) → FirstMissing xs c → FirstMissing xs d → c ≡ d
  missing_once c d p q =
      smallest (λ n. (on_list required n ≡ true) × (on_list xs n ≡ false)) c d
      (p.needed, p.absent)
      (q.needed, q.absent)
      (λ n h f. both_ways (on_list xs n) f.1 (p.before n f.0 h))
      (λ n h f. both_ways (on_list xs n) f.1 (q.before n f.0 h))

  uncoded_once : (c d : ℕ) → FirstUncoded k xs c → FirstUncoded k xs d → c ≡ d
  uncoded_once c d p q =
      smallest (λ n. (on_list xs n ≡ true) × (k.string n ≡ None)) c d (p.listed, p.uncoded)
      (q.listed, q.uncoded) (λ n h f. p.before n f.0 h f.1) (λ n h f. q.before n f.0 h f.1)

  -- what the grounds that come later have in common
  short : (t : Told) → IsNotIncreasing xs t ⊎ (Lacking xs t ⊎ WithoutCoding k xs t)
      → length xs ≤ 512
  short t (inl a) = a.2
  short t (inr (inl b)) = b.2
  short t (inr (inr c)) = c.2.0

  rising : (t : Told) → Lacking xs t ⊎ WithoutCoding k xs t → Rising xs
  rising t (inl b) = b.3
  rising t (inr c) = c.2.1

  never_falls : (i : ℕ) → FirstNotRising xs i → Rising xs → ⊥
  never_falls i p up = both_ways (rises_at xs i) p.here (up i p.inside)

  never_missing : (c : ℕ) → FirstMissing xs c → Complete xs → ⊥
  never_missing c p all = both_ways (on_list xs c) p.absent (all c p.needed)

  one_of_two : (t u : Told) → Lacking xs t ⊎ WithoutCoding k xs t
      → Lacking xs u ⊎ WithoutCoding k xs u → t ≡ u
  one_of_two t u (inl a) (inl b) = let e = missing_once a.0 b.0 a.4 b.4 in a.1 ∙ rw e (sym b.1)
  one_of_two t u (inl a) (inr b) = absurd (never_missing a.0 a.4 b.2.2)
  one_of_two t u (inr a) (inl b) = absurd (never_missing b.0 b.4 a.2.2)
  one_of_two t u (inr a) (inr b) = let e = uncoded_once a.0 b.0 a.3 b.3 in a.1 ∙ rw e (sym b.1)

  one_of_three : (t u : Told) → IsNotIncreasing xs t ⊎ (Lacking xs t ⊎ WithoutCoding k xs t)
      → IsNotIncreasing xs u ⊎ (Lacking xs u ⊎ WithoutCoding k xs u) → t ≡ u
  one_of_three t u (inl a) (inl b) = let e = falls_once a.0 b.0 a.3 b.3 in a.1 ∙ rw e (sym b.1)
  one_of_three t u (inl a) (inr b) = absurd (never_falls a.0 a.3 (rising u b))
  one_of_three t u (inr a) (inl b) = absurd (never_falls b.0 b.3 (rising t a))
  one_of_three t u (inr a) (inr b) = one_of_two t u a b

  one_of_four : (t u : Told) → Ground k xs t → Ground k xs u → t ≡ u
  one_of_four t u (inl a) (inl b) = a.0 ∙ sym b.0
  one_of_four t u (inl a) (inr b) = absurd (omega (arith, a.1, short u b))
  one_of_four t u (inr a) (inl b) = absurd (omega (arith, b.1, short t a))
  one_of_four t u (inr a) (inr b) = one_of_three t u a b

  fits_not : Acceptable k xs → (t : Told) → Ground k xs t → ⊥
  fits_not f t (inl a) = omega (arith, a.1, f.sound.0)
  fits_not f t (inr (inl b)) = never_falls b.0 b.3 f.sound.1
  fits_not f t (inr (inr (inl c))) = never_missing c.0 c.4 f.sound.2
  fits_not f t (inr (inr (inr d))) = f.coded d.0 d.3.listed d.3.uncoded

  pub one_answer : OneAnswer k xs
  one_answer = record { fit = fits_not; only = one_of_four }
