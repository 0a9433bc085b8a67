-- What a layer reads, from what the set below reads.
use Rattle.std.proofs.Common.{◌≡◌, ℕ, zero, suc, ◌≤◌, Bool, true, false, cond}
use Rattle.std.proofs.Common.{◌⊎◌, List, [], ◌∷◌, length, take, Ok, Err, refl, ap, inl}
use Rattle.std.proofs.Common.{inr, arith, length-take, take_all, take-take}
use Rattle.std.proofs.lemmas.Bool.{cases_lt, both_ways, false_from_ne_true}
use Rattle.std.proofs.lemmas.List.{take_min}
use Rattle.charset.specs.declared.SetRefusal.{SetRefusal}
use Rattle.charset.specs.declared.Reading.TheVariants.{Found, Open}
use Rattle.charset.specs.Meaning.{Meaning, Codes, IsOpening, Unreadable, Laws}
use Rattle.charset.specs.Answers.{ReadAnswer, Reads, reading}
use Rattle.layers.specs.Depth.{own, up}
use Rattle.layers.specs.Recoding.{Recoding, clean, below, ends, is_broken, recoded, Agrees}
use Rattle.layers.specs.CharacterList.{on_list}
use Rattle.layers.specs.Layers.{sub, added, controls}
use Rattle.charset.proofs.FrontLemmas.{reading_is}
use Rattle.layers.specs.Laws.Recode.{codes_parts, codes_from, opens_parts, opens_from, below_take}
use Rattle.layers.specs.Laws.LayersKeep.{kept_parts, control_parts, from_below, new}

abbrev pub sub_read : List ℕ → ReadAnswer → ReadAnswer
sub_read ds (Ok (Found c n)) = cond (on_list ds c) (Ok (Found c n)) (Err (own 37))
sub_read ds (Ok Open) = (Ok Open)
sub_read ds (Err q) = Err (up q)

-- a coding in front, at whatever length it is taken
front_reads : {m : Meaning} → Laws m → (s : List ℕ) (j d : ℕ) → Codes m (take j s) d
    → reading m s ≡ Ok (Found d (length (take j s)))
front_reads l s j d p =
    reading_is l s (Ok (Found d (length (take j s))))
    (rw (length-take j s) (omega arith), rw (length-take j s, take_min j s) p)

pub reads_sub : (ds : List ℕ) {m : Meaning} (l : Laws m) (s : List ℕ) (r : ReadAnswer)
    → Reads m s r → Reads (sub ds m) s (sub_read ds r)
reads_sub ds {m} l s r h = go r (reading_is l s r h) h
  where
    off : (c n : ℕ) → reading m s ≡ Ok (Found c n) → Reads m s (Ok (Found c n))
        → (b : Bool) → on_list ds c ≡ b
        → Reads (sub ds m) s (cond b (Ok (Found c n)) (Err (own 37)))
    off c n e h true k = (h.0, rw (h.1, k))
    off c n e h false k = (
      (
        λ j d p.
            let g = kept_parts ds l (take j s) d p in
            let f = front_reads l s j d g.1 in
            let same : c ≡ d = cc in
            both_ways _ (rw same at k) g.0,
        false_from_ne_true _ (λ o. l.opening_bare s o n c h.1),
      ),
      rw e,
    )

    go : (r : ReadAnswer) → reading m s ≡ r → Reads m s r
        → Reads (sub ds m) s (sub_read ds r)
    go (Ok (Found c n)) e h = off c n e h (on_list ds c) refl
    go (Ok Open) e h = h
    go (Err q) e h = ((λ j d p. h.0.0 j d (kept_parts ds l (take j s) d p).1, h.0.1), rw e)

pub sub_answer : (ds : List ℕ) {m : Meaning} (l : Laws m) (s : List ℕ) (r t : ReadAnswer)
    → Reads m s r → t ≡ sub_read ds r → Reads (sub ds m) s t
sub_answer ds l s r t h e = rw e (reads_sub ds l s r h)

abbrev pub control_read : List Bool → Meaning → List ℕ → ReadAnswer → ReadAnswer
control_read cs m s (Ok (Found c n)) = Ok (Found c n)
control_read cs m s (Ok Open) = (Ok Open)
control_read cs m [] (Err q) = Err (up q)
control_read cs m (c ∷ s) (Err q) = cond (added cs m c) (Ok (Found c 1)) (Err (up q))

pub reads_controls : (cs : List Bool) {m : Meaning} (l : Laws m) (s : List ℕ) (r : ReadAnswer)
    → Reads m s r → Reads (controls cs m) s (control_read cs m s r)
reads_controls cs {m} l s r h = go s r h
  where
    alone : (j c d : ℕ) (s : List ℕ) → take j (c ∷ s) ≡ d ∷ [] → c ≡ d
    alone zero c d s e = cc
    alone (suc j) c d s e = cc

    maybe : (c : ℕ) (s : List ℕ) (q : SetRefusal) → Unreadable m (c ∷ s)
        → q ≡ m.causes (c ∷ s) → (b : Bool) → added cs m c ≡ b
        → Reads (controls cs m) (c ∷ s) (cond b (Ok (Found c 1)) (Err (up q)))
    maybe c s q h e true k = (omega arith, new cs l c k)
    maybe c s q h e false k = (
      (
        λ j d p. elim (control_parts cs l (take j (c ∷ s)) d p) [
          | inl g ↦ h.0 j d g
          | inr g ↦ both_ways _ k (rw (alone j c d s g.0) g.1)
        ],
        h.1,
      ),
      ap up e,
    )

    go : (s : List ℕ) (r : ReadAnswer) → Reads m s r
        → Reads (controls cs m) s (control_read cs m s r)
    go s (Ok (Found c n)) h = (h.0, from_below cs l (take n s) c h.1)
    go s (Ok Open) h = h
    go [] (Err q) h = absurd (both_ways _ h.0.1 l.empty_opens)
    go (c ∷ s) (Err q) h = maybe c s q h.0 h.1 (added cs m c) refl

pub control_answer : (cs : List Bool) {m : Meaning} (l : Laws m) (s : List ℕ) (r t : ReadAnswer)
    → Reads m s r → t ≡ control_read cs m s r → Reads (controls cs m) s t
control_answer cs l s r t h e = rw e (reads_controls cs l s r h)

-- under another form of bytes, from what is read below of the first four
module _ (r : Recoding) (m : Meaning) (a : Agrees r) (l : Laws m) where
  pub reads_found : (s : List ℕ) (c n : ℕ) → n ≤ length s → n ≤ 4
      → ends r false (take n s) ≡ clean → Codes m (below r false (take n s)) c
      → Reads (recoded r m) s (Ok (Found c n))
  reads_found s c n h k e p =
      (h, codes_from r m (take n s) c (rw (length-take n s) (omega arith)) e p)

  pub reads_open : (s : List ℕ) → length s ≤ 3 → is_broken (ends r false s) ≡ false
      → IsOpening m (below r false s) → Reads (recoded r m) s (Ok Open)
  reads_open s h e o = opens_from r m s h e o

  -- a coding in front is one below of the first four bytes
  front_below : (s : List ℕ) (n c : ℕ) → Codes (recoded r m) (take n s) c
      → (k : ℕ) × Codes m (take k (below r false (take 4 s))) c
  front_below s n c p =
      let h = codes_parts r m (take n s) c p in
      let short : take n (take 4 s) ≡ take n s =
      elim (cases_lt 4 n) [
        | inl g ↦ rw (take_all 4 s (omega (arith, h.0, length-take n s)))
        | inr g ↦ take-take n 4 s g
      ] in (
        length (below r false (take n s)),
        rw (← short, ← below_take r (take 4 s) false n, short) h.2,
      )

  pub reads_refused : (s : List ℕ) (q : SetRefusal) → Reads m (below r false (take 4 s)) (Err q)
      → Reads (recoded r m) s (Err (up q))
  reads_refused s q b = (
    (
      λ n c p. let g = front_below s n c p in b.0.0 g.0 c g.1,
      false_from_ne_true _ (λ o. let h = opens_parts r m s o in
          both_ways _ b.0.1 (rw (take_all 4 s (omega arith)) h.2)),
    ),
    rw (reading_is l (below r false (take 4 s)) (Err q) b),
  )

  pub reads_own : (s : List ℕ) (n : ℕ) → IsOpening m (below r false (take 4 s))
      → (is_broken (ends r false (take 4 s)) ≡ true) ⊎ (4 ≤ length s)
      → n ≡ cond (is_broken (ends r false (take 4 s))) r.fault 36
      → Reads (recoded r m) s (Err (own n))
  reads_own s n o d e = (
    (
      λ k c p. let g = front_below s k c p in
          l.opening_bare (below r false (take 4 s)) o g.0 c g.1,
      false_from_ne_true _ (λ o. let h = opens_parts r m s o in elim d [
        | inl e ↦ both_ways _ h.1 (rw (take_all 4 s (omega arith)) at e)
        | inr g ↦ omega arith
      ]),
    ),
    rw (e, reading_is l (below r false (take 4 s)) (Ok Open) o),
  )
