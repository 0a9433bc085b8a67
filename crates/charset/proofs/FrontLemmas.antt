-- What the laws give of codings in front, and of reading.
use Rattle.std.proofs.Common.{◌≡◌, ℕ, zero, suc, ◌+◌, ◌<◌, ◌≤◌, min, Bool}
use Rattle.std.proofs.Common.{true, false, List, [], ◌∷◌, ◌++◌, length, take, Some, None}
use Rattle.std.proofs.Common.{Ok, Err, Option, sym, refl, ap, ◌∙◌, inl, inr, arith}
use Rattle.std.proofs.Common.{length-take, length-take-le, take_all, take-take}
use native.Mathlib.Nat.{zero-min, min-zero, suc-min-suc}
use lib.Seq.{take-append-le, take-append_seam}
use Rattle.std.specs.Option.{is_none}
use Rattle.std.proofs.lemmas.Option.{none-some}
use Rattle.std.proofs.lemmas.List.{take_min}
use Rattle.std.proofs.lemmas.Bool.{cases_lt, cases_order, both_ways, false_from_ne_true}
use Rattle.charset.specs.declared.Reading.TheVariants.{Found, Open}
use Rattle.charset.specs.Meaning.{Meaning, Codes, IsOpening, NoFront, Unreadable, Laws}
use Rattle.charset.specs.Answers.{ReadAnswer, Reads, found_or, without_coding, look, reading}
use Rattle.charset.specs.Answers.{OnlyAnswer, FourBytesDecide, WriteAnswer, Writes, writing}

-- an option of no value
pub no_value : {A : Type 0} (o : Option A) → is_none o ≡ true → o ≡ None
no_value None e = refl
no_value (Some x) e = cc

-- writing answers what the meaning says
pub writing_is : (m : Meaning) (c : ℕ) (r : WriteAnswer) → Writes m c r → writing m c ≡ r
writing_is m c (Ok s) h = rw h refl
writing_is m c (Err q) h = rw (h.0, h.1) refl

-- a beginning of a beginning is a beginning
pub take-take_min : {A : Type 0} (j n : ℕ) (s : List A) → take j (take n s) ≡ take (min j n) s
take-take_min zero n s = rw zero-min
take-take_min (suc j) zero s = rw min-zero
take-take_min (suc j) (suc n) [] = rw suc-min-suc
take-take_min (suc j) (suc n) (x ∷ s) = rw (suc-min-suc, take-take_min j n s)

take_all_of : {A : Type 0} (j n : ℕ) (s : List A) → n ≤ j → take j (take n s) ≡ take n s
take_all_of j n s h = take_all j (take n s) (rw (length-take n s) (omega arith))

-- where proper beginnings of codings are openings, and openings begin with no coding, no coding
-- begins another
pub alone : (m : Meaning) → ((s : List ℕ) (c n : ℕ) → Codes m s c → n < length s
    → IsOpening m (take n s)) → ((s : List ℕ) → IsOpening m s → NoFront m s)
    → (s : List ℕ) (c d n : ℕ) → Codes m s c → Codes m (take n s) d → take n s ≡ s
alone m begins bare s c d n h k = elim (cases_lt n (length s)) [
  | inl g ↦ absurd
      (bare (take n s) (begins s c n h g) n d (rw (take_all_of n n s (omega arith)) k))
  | inr g ↦ take_all n s g
]

-- openings that begin with openings, none of them a coding, begin with no coding
pub no_front_by : (m : Meaning)
    → ((s : List ℕ) (n : ℕ) → IsOpening m s → IsOpening m (take n s))
    → ((s : List ℕ) (c : ℕ) → IsOpening m s → Codes m s c → ⊥) → (s : List ℕ)
    → IsOpening m s → NoFront m s
no_front_by m begins bare s o n c p = bare (take n s) c (begins s n o) p

module _ {m : Meaning} (l : Laws m) where
  bare : (s : List ℕ) (c : ℕ) → Codes m s c → IsOpening m s → ⊥
  bare s c p o = l.opening_bare s o (length s) c (rw (take_all (length s) s (omega arith)) p)

  not_before : (s : List ℕ) (i j c d : ℕ) → j ≤ length s → i < j → Codes m (take i s) c
      → Codes m (take j s) d → ⊥
  not_before s i j c d hj h p q =
      bare (take i s) c p (rw (take-take i j s (omega arith)) at
      (l.coding_begins (take j s) d i q (rw (length-take-le j s hj) h)))

  -- a coding does not begin another
  pub same_size : (s : List ℕ) (i j c d : ℕ) → i ≤ length s → j ≤ length s
      → Codes m (take i s) c → Codes m (take j s) d → i ≡ j
  same_size s i j c d hi hj p q = elim (cases_order i j) [
    | inl e ↦ e
    | inr (inl h) ↦ absurd (not_before s i j c d hj h p q)
    | inr (inr h) ↦ absurd (not_before s j i d c hi h q p)
  ]

  without_coding_reads : (s : List ℕ) (b : Bool) → m.openings s ≡ b → NoFront m s
      → Reads m s (without_coding m s)
  without_coding_reads s true e h = rw e e
  without_coding_reads s false e h = rw e ((h, e), refl)

  look_reads : (s : List ℕ) (k n : ℕ) → n + k ≡ 5
      → ((j c : ℕ) → j < n → Codes m (take j s) c → ⊥) → Reads m s (look m s n k)
  look_reads s zero n e none_yet = without_coding_reads s (m.openings s) refl never
    where
      never : NoFront m s
      never j c p = elim (cases_lt j n) [
        | inl h ↦ none_yet j c h p
        | inr h ↦ elim (cases_lt (length s) n) [
          | inl g ↦ none_yet (length s) c g
              (rw (take_all (length s) s (omega arith)) (rw (take_all j s (omega arith)) at p))
          | inr g ↦ omega (arith, l.sized (take j s) c p, length-take j s)
        ]
      ]
  look_reads s (suc k) n e none_yet =
      go (m.codings.character (take n s)) refl (look_reads s k (suc n))
    where
      go : (o : Option ℕ) → m.codings.character (take n s) ≡ o
          → (suc n + k ≡ 5 → ((j c : ℕ) → j < suc n → Codes m (take j s) c → ⊥)
          → Reads m s (look m s (suc n) k)) → Reads m s (found_or o n (look m s (suc n) k))
      go None f more = more (omega arith) (λ j c h p. elim (cases_lt j n) [
        | inl g ↦ none_yet j c g p
        | inr g ↦ let j_is : j ≡ n = omega arith in none-some _ (sym f ∙ (rw j_is at p))
      ])
      go (Some c) f more = elim (cases_lt (length s) n) [
        | inl g ↦ absurd
            (none_yet (length s) c g (rw (take_all (length s) s (omega arith))
            (rw (take_all n s (omega arith)) at f)))
        | inr g ↦ (g, f)
      ]

  -- reading answers what the meaning says
  pub reading_reads : (s : List ℕ) → Reads m s (reading m s)
  unfolding reading
  reading_reads s =
      look_reads s 4 1 refl (λ j c h p. omega (arith, l.sized (take j s) c p, length-take j s))

  -- and nothing else
  pub one_reading : (s : List ℕ) (r t : ReadAnswer) → Reads m s r → Reads m s t → r ≡ t
  one_reading s (Ok (Found c n)) (Ok (Found d k)) p q =
      let e = same_size s n k c d p.0 q.0 p.1 q.1 in
      let p' : m.codings.character (take k s) ≡ Some c = rw e at p.1 in
      let z : m.codings.character (take k s) ≡ Some d = q.1 in
      cc
  one_reading s (Ok (Found c n)) (Ok Open) p q = absurd (l.opening_bare s q n c p.1)
  one_reading s (Ok (Found c n)) (Err y) p q = absurd (q.0.0 n c p.1)
  one_reading s (Ok Open) (Ok (Found d k)) p q = absurd (l.opening_bare s p k d q.1)
  one_reading s (Ok Open) (Ok Open) p q = refl
  one_reading s (Ok Open) (Err y) p q = absurd (both_ways _ q.0.1 p)
  one_reading s (Err x) (Ok (Found d k)) p q = absurd (p.0.0 k d q.1)
  one_reading s (Err x) (Ok Open) p q = absurd (both_ways _ p.0.1 q)
  one_reading s (Err x) (Err y) p q = ap Err (p.1 ∙ sym q.1)

  pub reading_is : (s : List ℕ) (r : ReadAnswer) → Reads m s r → reading m s ≡ r
  reading_is s r h = one_reading s (reading m s) r (reading_reads s) h

  no_front_begins : (s : List ℕ) (n : ℕ) → NoFront m s → NoFront m (take n s)
  no_front_begins s n h j c p = h (min j n) c (rw take-take_min at p)

  -- reading looks at four bytes at most
  pub reading_four : (s : List ℕ) (n : ℕ) → 4 ≤ n → reading m (take n s) ≡ reading m s
  reading_four s n four = reading_is (take n s) (reading m s) (go (reading m s) (reading_reads s))
    where
      go : (r : ReadAnswer) → Reads m s r → Reads m (take n s) r
      go (Ok (Found c k)) h =
          let small : k ≤ 4 = omega (arith, l.sized (take k s) c h.1, length-take-le k s h.0) in
          (rw (length-take n s) (omega (arith, h.0)), rw (take-take k n s (omega arith)) h.1)
      go (Ok Open) h = rw (take_all n s (omega (arith, l.opening_sized s h))) h
      go (Err q) h =
          let bad : Unreadable m (take n s) = (
            no_front_begins s n h.0.0,
            elim (cases_lt (length s) n) [
              | inl g ↦ rw (take_all n s (omega arith)) h.0.1
              | inr g ↦ false_from_ne_true _
                  (λ o. omega (arith, l.opening_sized (take n s) o, length-take-le n s g))
            ],
          ) in
          (bad, h.1 ∙ l.cause_stays s n bad)

  -- a coding in front of an opening and more is longer than the opening
  pub opening_passed : (held more : List ℕ) (c n : ℕ) → IsOpening m held
      → Codes m (take n (held ++ more)) c → length held < n
  opening_passed held more c n o p = elim (cases_lt (length held) n) [
    | inl h ↦ h
    | inr h ↦ absurd (l.opening_bare held o n c (rw (take-append-le n held more h) at p))
  ]

  -- what has a cause has it whatever follows
  pub bad_grows : (s : List ℕ) (n : ℕ) → Unreadable m (take n s) → Unreadable m s
  bad_grows s n h = (never, false_from_ne_true _ (λ o. both_ways _ h.1 (l.opening_begins s n o)))
    where
      never : NoFront m s
      never j c p = elim (cases_lt n (length (take j s))) [
        | inl g ↦ both_ways _ h.1 (rw (take-take n j s (omega (arith, length-take j s))) at
            (l.coding_begins (take j s) c n p g))
        | inr g ↦ h.0 (length (take j s)) c
            (rw (take-take (length (take j s)) n s g, length-take j s, take_min j s) p)
      ]

  -- an answer other than "more is needed" stays whatever follows
  pub answer_grows : (s : List ℕ) (n : ℕ) (r : ReadAnswer) → (r ≡ Ok Open → ⊥)
      → Reads m (take n s) r → Reads m s r
  answer_grows s n (Ok (Found c k)) d h =
      let k_fits : k ≤ min n (length s) = rw (← length-take n s) h.0 in
      (omega arith, rw (← take-take k n s (omega arith)) h.1)
  answer_grows s n (Ok Open) d h = absurd (d refl)
  answer_grows s n (Err q) d h = (bad_grows s n h.0, h.1 ∙ sym (l.cause_stays s n h.0))

  pub reads_on : (s more : List ℕ) (r : ReadAnswer) → (r ≡ Ok Open → ⊥) → Reads m s r
      → Reads m (s ++ more) r
  reads_on s more r d h = answer_grows (s ++ more) (length s) r d (rw (take-append_seam s more) h)

  pub reading_bad : (s : List ℕ) → Unreadable m s → reading m s ≡ Err (m.causes s)
  reading_bad s h = reading_is s (Err (m.causes s)) (h, refl)

  pub only_answer : (s : List ℕ) (r : ReadAnswer) → Reads m s r → OnlyAnswer m s r
  only_answer s r h a k = one_reading s a r k h

  pub four_bytes_decide : (s : List ℕ) (r : ReadAnswer) → Reads m s r → FourBytesDecide m s r
  four_bytes_decide s r h t e =
      let same : reading m t ≡ r = sym (reading_four t 4 (omega arith)) ∙ ap (reading m) e
      ∙ reading_four s 4 (omega arith) ∙ reading_is s r h in
      rw (← same) (reading_reads t)

  -- after an opening, a byte that makes neither a coding nor an opening leaves nothing to read
  pub unreadable_here : (s : List ℕ) (n : ℕ) → IsOpening m (take n s)
      → m.codings.character (take (suc n) s) ≡ None → m.openings (take (suc n) s) ≡ false
      → Unreadable m s
  unreadable_here s n o none shut = bad_grows s (suc n) (never, shut)
    where
      never : NoFront m (take (suc n) s)
      never j c p = elim (cases_lt n j) [
        | inl h ↦ none-some _ (sym none ∙ (rw (take_all_of j (suc n) s h) at p))
        | inr h ↦ l.opening_bare (take n s) o j c
            (rw (take-take j n s h) (rw (take-take j (suc n) s (omega arith)) at p))
      ]
