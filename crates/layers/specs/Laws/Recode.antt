-- A set under another form of bytes keeps the laws.
use Rattle.std.specs.Prelude.{◌≡◌, ℕ, zero, suc, ◌<◌, ◌≤◌, Bool, true, false}
use Rattle.std.specs.Prelude.{cond, ◌&&◌, ◌⊎◌, List, [], ◌∷◌, length, take, Some}
use Rattle.std.specs.Prelude.{None, Ok, Err, Option, Result, option_and_then, nat_le, refl}
use Rattle.std.specs.Prelude.{◌≢◌}
use Rattle.std.proofs.Common.{sym, ap, ◌∙◌, inl, inr, arith, length-take, take_all, take-take}
use Rattle.std.proofs.Common.{lit<}
use Rattle.std.proofs.lemmas.Bool.{cases_lt, both_ways, leb-true, le-leb, and_parts, not-true}
use Rattle.std.proofs.lemmas.Bool.{cond_both}
use Rattle.charset.specs.declared.SetRefusal.{SetRefusal}
use Rattle.charset.specs.Strings.{AreBytes}
use Rattle.charset.specs.Meaning.{Meaning, Codes, IsOpening, NoFront, Unreadable}
use Rattle.charset.specs.Meaning.{IsTwoBytes, Laws}
use Rattle.charset.specs.Answers.{Reads, reading, coded_or, writing}
use Rattle.layers.specs.declared.recoding.moves.Move.{Move}
use Rattle.layers.specs.declared.recoding.moves.Move.TheVariants.{Emit, Hold}
use Rattle.layers.specs.declared.recoding.moves.WrittenByte.{WrittenByte}
use Rattle.layers.specs.declared.recoding.moves.WrittenByte.TheVariants.{One, Two}
use Rattle.layers.specs.Depth.{own, over}
use Rattle.layers.specs.Recoding.{End, clean, pending, broken, Recoding, put, stop, below, ends}
use Rattle.layers.specs.Recoding.{before, in_form, is_clean, is_broken, at_most_four, coding_of}
use Rattle.layers.specs.Recoding.{scan_cause, form_cause, recoded, Agrees}
use Rattle.charset.proofs.FrontLemmas.{reading_reads, reading_is, reading_bad, answer_grows, alone}

-- the three ways in which a scan ends are apart
pub no_pb : pending ≢ broken
no_pb e = cc

pub no_cb : clean ≢ broken
no_cb e = cc

pub no_pc : pending ≢ clean
no_pc e = cc

abbrev pub RefusesInTwoBytes : {X : Type 0} → Result X SetRefusal → Type 0
RefusesInTwoBytes r = (x : SetRefusal) → r ≡ Err x → IsTwoBytes x

-- a cause from below, or the layer's own, is two bytes
pub over_small : {X : Type 0} (r : Result X SetRefusal) (q : SetRefusal)
    → RefusesInTwoBytes r → IsTwoBytes q → IsTwoBytes (over r q)
over_small (Ok y) q small own = own
over_small (Err x) q small own = ((small x refl).0, omega arith)

pub reads_small : {m : Meaning} → Laws m → (t : List ℕ) → RefusesInTwoBytes (reading m t)
reads_small {m} l t x e =
    let h : Reads m t (Err x) = rw e at (reading_reads l t) in rw h.1 (l.cause_sized t h.0)

pub writes_small : {m : Meaning} → Laws m → (c : ℕ) → RefusesInTwoBytes (writing m c)
writes_small {m} l c x e = go (m.codings.string c) refl e
  where
    go : (o : Option (List ℕ)) → m.codings.string c ≡ o
        → coded_or (m.write_causes c) o ≡ Err x → IsTwoBytes x
    go None none e = let same : m.write_causes c ≡ x = cc in
        rw (← same) (l.write_cause_sized c none)
    go (Some s) some e = cc

module _ (r : Recoding) where
  -- a beginning stands for a beginning
  pub below_take : (s : List ℕ) (p : Bool) (n : ℕ)
      → below r p (take n s) ≡ take (length (below r p (take n s))) (below r p s)
  below_take s p zero = refl
  below_take [] p (suc n) = refl
  below_take (x ∷ s) p (suc n) = go (r.step p x) (λ q. below_take s q n)
    where
      go : (v : Option Move) → ((q : Bool) → below r q (take n s) ≡ take
          (length (below r q (take n s))) (below r q s))
          → put v (λ q. below r q (take n s))
          ≡ take (length (put v (λ q. below r q (take n s))))
          (put v (λ q. below r q s))
      go (Some (Emit b)) h = ap {B = List ℕ} (λ t. b ∷ t) (h false)
      go (Some Hold) h = h true
      go None h = refl

  -- what is broken stays broken, and stands for no more
  pub broken_take : (s : List ℕ) (p : Bool) (n : ℕ) → ends r p (take n s) ≡ broken
      → (below r p (take n s) ≡ below r p s) × (ends r p s ≡ broken)
  broken_take s true zero e = cc
  broken_take s false zero e = cc
  broken_take [] p (suc n) e = (refl, e)
  broken_take (x ∷ s) p (suc n) e = go (r.step p x) (λ q. broken_take s q n) e
    where
      go : (v : Option Move) → ((q : Bool) → ends r q (take n s) ≡ broken
          → (below r q (take n s) ≡ below r q s) × (ends r q s ≡ broken))
          → stop v (λ q. ends r q (take n s)) ≡ broken
          → (put v (λ q. below r q (take n s)) ≡ put v (λ q. below r q s))
          × (stop v (λ q. ends r q s) ≡ broken)
      go (Some (Emit b)) h k = (ap {B = List ℕ} (λ t. b ∷ t) (h false k).0, (h false k).1)
      go (Some Hold) h k = h true k
      go None h k = (refl, refl)

  -- a clean string with bytes to come stands for more
  clean_more : (s : List ℕ) → ends r true s ≡ clean → 0 < length (below r true s)
  clean_more [] e = cc
  clean_more (x ∷ s) e = go (r.step true x) (clean_more s) e
    where
      go : (v : Option Move) → (ends r true s ≡ clean → 0 < length (below r true s))
          → stop v (λ q. ends r q s) ≡ clean → 0 < length (put v (λ q. below r q s))
      go (Some (Emit b)) h k = omega arith
      go (Some Hold) h k = h k
      go None h k = cc

  clean_some : (s : List ℕ) (p : Bool) → ends r p s ≡ clean → 0 < length s
      → 0 < length (below r p s)
  clean_some s true e h = clean_more s e
  clean_some [] false e h = h
  clean_some (x ∷ s) false e h = go (r.step false x) e
    where
      go : (v : Option Move) → stop v (λ q. ends r q s) ≡ clean
          → 0 < length (put v (λ q. below r q s))
      go (Some (Emit b)) k = omega arith
      go (Some Hold) k = clean_more s k
      go None k = cc

  pub below_strict : (s : List ℕ) (p : Bool) (n : ℕ) → ends r p s ≡ clean → n < length s
      → length (below r p (take n s)) < length (below r p s)
  below_strict s p zero e h = clean_some s p e h
  below_strict [] p (suc n) e h = omega arith
  below_strict (x ∷ s) p (suc n) e h =
      go (r.step p x) (λ q k. below_strict s q n k (omega arith)) e
    where
      go : (v : Option Move) → ((q : Bool) → ends r q s ≡ clean
          → length (below r q (take n s)) < length (below r q s))
          → stop v (λ q. ends r q s) ≡ clean
          → length (put v (λ q. below r q (take n s))) < length (put v (λ q. below r q s))
      go (Some (Emit b)) f k = omega (arith, f false k)
      go (Some Hold) f k = f true k
      go None f k = cc

  -- each beginning below, if not empty, is what a clean beginning stands for
  pub below_front : (s : List ℕ) (p : Bool) (k : ℕ) → k < length (below r p s)
      → (n : ℕ) × (n ≤ length s) × (ends r p (take n s) ≡ clean)
      × (below r p (take n s) ≡ take (suc k) (below r p s))
  below_front [] p k h = absurd (omega arith)
  below_front (x ∷ s) p k h =
      let g = go (r.step p x) k (below_front s) h in (suc g.0, omega (arith, g.1), g.2, g.3)
    where
      go : (v : Option Move) (k : ℕ) → ((q : Bool) (j : ℕ) → j < length (below r q s)
          → (n : ℕ) × (n ≤ length s) × (ends r q (take n s) ≡ clean)
          × (below r q (take n s) ≡ take (suc j) (below r q s)))
          → k < length (put v (λ q. below r q s))
          → (n : ℕ) × (n ≤ length s) × (stop v (λ q. ends r q (take n s)) ≡ clean)
          × (put v (λ q. below r q (take n s)) ≡ take (suc k) (put v (λ q. below r q s)))
      go (Some (Emit b)) zero f h = (0, omega arith, refl, refl)
      go (Some (Emit b)) (suc k) f h =
          let g = f false k (omega arith) in (g.0, g.1, g.2, ap {B = List ℕ} (λ t. b ∷ t) g.3)
      go (Some Hold) k f h = f true k h
      go None k f h = absurd (omega arith)

module _ {r : Recoding} (a : Agrees r) where
  pub in_form_reads : (t s : List ℕ) → in_form r t ≡ Some s
      → (ends r false s ≡ clean) × (below r false s ≡ t)
  in_form_reads [] s e = let e' : [] ≡ s = cc in rw (← e') (refl, refl)
  in_form_reads (b ∷ t) s e = go (r.form b) refl (in_form r t) (in_form_reads t) e
    where
      go : (f : Option WrittenByte) → r.form b ≡ f → (o : Option (List ℕ))
          → ((u : List ℕ) → o ≡ Some u
          → (ends r false u ≡ clean) × (below r false u ≡ t))
          → before f o ≡ Some s
          → (ends r false s ≡ clean) × (below r false s ≡ b ∷ t)
      go f h None g e = cc
      go (Some (One x)) h (Some u) g e =
          let e' : x ∷ u ≡ s = cc in let g' = g u refl in
          rw (← e', a.one_step b x h, g'.0, g'.1) (refl, refl)
      go (Some (Two x y)) h (Some u) g e =
          let e' : x ∷ y ∷ u ≡ s = cc in let g' = g u refl in let st = a.two_steps b x y h in
          rw (← e', st.0, st.1, g'.0, g'.1) (refl, refl)
      go None h (Some u) g e = cc

  pub reads_in_form : (s : List ℕ) → ends r false s ≡ clean
      → in_form r (below r false s) ≡ Some s
  reads_in_form [] e = refl
  reads_in_form (x ∷ []) e = go (r.step false x) refl e
    where
      go : (v : Option Move) → r.step false x ≡ v → stop v (λ q. ends r q []) ≡ clean
          → in_form r (put v (λ q. below r q [])) ≡ Some (x ∷ [])
      go (Some (Emit b)) h e = rw (a.step_one b x h)
      go (Some Hold) h e = cc
      go None h e = cc
  reads_in_form (x ∷ y ∷ s) e =
      go (r.step false x) refl (reads_in_form (y ∷ s)) (reads_in_form s) e
    where
      snd : (v : Option Move) → r.step true y ≡ v → r.step false x ≡ Some Hold
          → (ends r false s ≡ clean → in_form r (below r false s) ≡ Some s)
          → stop v (λ q. ends r q s) ≡ clean
          → in_form r (put v (λ q. below r q s)) ≡ Some (x ∷ y ∷ s)
      snd (Some (Emit b)) h k f e = rw (a.step_two b x y k h, f e)
      snd (Some Hold) h k f e = absurd (a.no_third y h)
      snd None h k f e = cc

      go : (v : Option Move) → r.step false x ≡ v
          → (ends r false (y ∷ s) ≡ clean
          → in_form r (below r false (y ∷ s)) ≡ Some (y ∷ s))
          → (ends r false s ≡ clean → in_form r (below r false s) ≡ Some s)
          → stop v (λ q. ends r q (y ∷ s)) ≡ clean
          → in_form r (put v (λ q. below r q (y ∷ s))) ≡ Some (x ∷ y ∷ s)
      go (Some (Emit b)) h f g e = rw (a.step_one b x h, f e)
      go (Some Hold) h f g e = snd (r.step true y) refl h g e
      go None h f g e = cc

  pub unbroken_bytes : (s : List ℕ) (p : Bool) → is_broken (ends r p s) ≡ false → AreBytes s
  unbroken_bytes [] p e = tt
  unbroken_bytes (x ∷ s) p e = go p (r.step p x) refl (unbroken_bytes s) e
    where
      go : (p : Bool) (v : Option Move) → r.step p x ≡ v
          → ((q : Bool) → is_broken (ends r q s) ≡ false → AreBytes s)
          → is_broken (stop v (λ q. ends r q s)) ≡ false
          → (x < 256) × AreBytes s
      go p (Some (Emit b)) h f e = (a.first_byte p x b h, f false e)
      go false (Some Hold) h f e = (a.held_byte x h, f true e)
      go true (Some Hold) h f e = absurd (a.no_third x h)
      go p None h f e = absurd (both_ways true e refl)

module _ (r : Recoding) (m : Meaning) where
  pub codes_parts : (s : List ℕ) (c : ℕ) → Codes (recoded r m) s c
      → (length s ≤ 4) × (ends r false s ≡ clean) × Codes m (below r false s) c
  codes_parts s c p = go (nat_le (length s) 4) refl (ends r false s) refl p
    where
      go : (b : Bool) → nat_le (length s) 4 ≡ b → (e : End) → ends r false s ≡ e
          → cond (b && is_clean e) (m.codings.character (below r false s)) None ≡ Some c
          → (length s ≤ 4) × (ends r false s ≡ clean) × Codes m (below r false s) c
      go false h e k p = cc
      go true h clean k p = (leb-true _ _ h, k, p)
      go true h pending k p = cc
      go true h broken k p = cc

  pub codes_from : (s : List ℕ) (c : ℕ) → length s ≤ 4 → ends r false s ≡ clean
      → Codes m (below r false s) c → Codes (recoded r m) s c
  codes_from s c h e p = rw (le-leb (length s) 4 h, e) p

  pub opens_parts : (s : List ℕ) → IsOpening (recoded r m) s
      → (length s ≤ 3) × (is_broken (ends r false s) ≡ false)
      × IsOpening m (below r false s)
  opens_parts s p =
      let h = and_parts _ _ p in
      let g = and_parts _ _ h.1 in
      (leb-true _ _ h.0, not-true _ g.0, g.1)

  pub opens_from : (s : List ℕ) → length s ≤ 3 → is_broken (ends r false s) ≡ false
      → IsOpening m (below r false s) → IsOpening (recoded r m) s
  opens_from s h e p = rw (le-leb (length s) 3 h, e) p

  unbroken_take : (s : List ℕ) (n : ℕ) → is_broken (ends r false s) ≡ false
      → is_broken (ends r false (take n s)) ≡ false
  unbroken_take s n h = go (ends r false (take n s)) refl
    where
      go : (e : End) → ends r false (take n s) ≡ e → is_broken e ≡ false
      go clean k = refl
      go pending k = refl
      go broken k = rw (broken_take r s false n k).1 at h

  module _ (a : Agrees r) (l : Laws m) where
    written' : (c : ℕ) (s : List ℕ) → coding_of r (m.codings.string c) ≡ Some s
        → Codes (recoded r m) s c
    written' c s p = go (m.codings.string c) refl p
      where
        gone : (t : List ℕ) → m.codings.string c ≡ Some t → (o : Option (List ℕ))
            → in_form r t ≡ o → at_most_four o ≡ Some s → Codes (recoded r m) s c
        gone t k None h e = cc
        gone t k (Some u) h e = last (nat_le (length u) 4) refl e
          where
            last : (b : Bool) → nat_le (length u) 4 ≡ b → cond b (Some u) None ≡ Some s
                → Codes (recoded r m) s c
            last false f e = cc
            last true f e =
                let same : u ≡ s = cc in
                let g = in_form_reads a t u h in
                rw (← same) (codes_from u c (leb-true _ _ f) g.0 (rw g.1 (l.written c t k)))

        go : (o : Option (List ℕ)) → m.codings.string c ≡ o → coding_of r o ≡ Some s
            → Codes (recoded r m) s c
        go None k e = cc
        go (Some t) k e = gone t k (in_form r t) refl e

    read' : (s : List ℕ) (c : ℕ) → Codes (recoded r m) s c
        → coding_of r (m.codings.string c) ≡ Some s
    read' s c p =
        let h = codes_parts s c p in rw (
          l.read _ c h.2,
          reads_in_form a s h.1,
          le-leb (length s) 4 h.0,
        )

    begins : (s : List ℕ) (n : ℕ) → IsOpening m (take (length (below r false (take n s)))
        (below r false s)) → IsOpening m (below r false (take n s))
    begins s n o = rw (below_take r s false n) o

    pub no_front : (s : List ℕ) → length s ≤ 4 → NoFront (recoded r m) s
        → NoFront m (below r false s)
    no_front s h f k c p = go k p (cases_lt k (length (below r false s)))
      where
        at : (k : ℕ) → k < length (below r false s)
            → Codes m (take (suc k) (below r false s)) c → ⊥
        at k g p =
            let q = below_front r s false k g in
            f q.0 c (codes_from (take q.0 s) c (rw (length-take q.0 s) (omega arith)) q.2
            (rw q.3 p))

        full : (t : List ℕ) → below r false s ≡ t → Codes m t c → ⊥
        full [] e p = omega (arith, l.sized [] c p)
        full (b ∷ t) e p =
            at (length t) (rw e (omega arith)) (rw (e, take_all (length t) t (omega arith)) p)

        go : (k : ℕ) → Codes m (take k (below r false s)) c
            → (k < length (below r false s)) ⊎ (length (below r false s) ≤ k) → ⊥
        go zero p d = omega (arith, l.sized [] c p)
        go (suc k) p (inl g) = at k (omega arith) p
        go (suc k) p (inr g) =
            full (below r false s) refl (rw (take_all (suc k) (below r false s) g) at p)

    some_size : (s : List ℕ) (c : ℕ) → Codes m (below r false s) c → 0 < length s
    some_size [] c p = absurd (omega (arith, l.sized [] c p))
    some_size (x ∷ s) c p = omega arith

    -- the front of at most four bytes decides
    stays : (s : List ℕ) (n : ℕ) → n < 4 → Unreadable (recoded r m) (take n s)
        → scan_cause r m s ≡ scan_cause r m (take n s)
    stays s n small bad = go (ends r false (take n s)) refl
      where
        better : is_broken (ends r false (take n s)) ≡ false
            → scan_cause r m s ≡ scan_cause r m (take n s)
        better e =
            let short : length (take n s) ≤ 3 = rw (length-take n s) (omega arith) in
            let no_open : m.openings (below r false (take n s)) ≡ false =
            rw (le-leb _ 3 short, e) at bad.1 in
            let worse : Unreadable m (below r false (take n s)) =
            (no_front (take n s) (omega arith) bad.0, no_open) in
            let q = m.causes (below r false (take n s)) in
            let g = answer_grows l (below r false s) (length (below r false (take n s))) (Err q)
            (λ z. cc) (rw (← below_take r s false n) (worse, refl)) in
            rw (
              reading_bad l (below r false (take n s)) worse,
              reading_is l (below r false s) (Err q) g,
            )

        go : (e : End) → ends r false (take n s) ≡ e
            → scan_cause r m s ≡ scan_cause r m (take n s)
        go clean k = better (rw k)
        go pending k = better (rw k)
        go broken k = let b = broken_take r s false n k in rw (b.0, b.1, k)

    begins_open : (s : List ℕ) (c n : ℕ) → Codes (recoded r m) s c → n < length s
        → IsOpening (recoded r m) (take n s)
    begins_open s c n p g = let h = codes_parts s c p in
        opens_from (take n s) (rw (length-take n s) (omega arith)) (unbroken_take s n (rw h.1))
        (begins s n (l.coding_begins _ c _ h.2 (below_strict r s false n h.1 g)))

    open_bare : (s : List ℕ) → IsOpening (recoded r m) s → NoFront (recoded r m) s
    open_bare s o n c p =
        l.opening_bare _ (opens_parts s o).2 (length (below r false (take n s))) c
        (rw (← below_take r s false n) (codes_parts (take n s) c p).2)

    small : (f : Option (List ℕ)) → IsTwoBytes (own (form_cause r f))
    small None = (a.small_fault, lit< tt)
    small (Some s) = (lit< tt, lit< tt)

    pub recoded_laws : Laws (recoded r m)
    recoded_laws = record {
      written = written';
      read = read';
      sized = λ s c p. let h = codes_parts s c p in (some_size s c h.2, h.0);
      bytes = λ s c p. unbroken_bytes a s false (rw (codes_parts s c p).1);
      characters = λ s c p. l.characters _ c (codes_parts s c p).2;
      empty_opens = l.empty_opens;
      opening_sized = λ s o. (opens_parts s o).0;
      opening_bytes = λ s o. unbroken_bytes a s false (opens_parts s o).1;
      coding_alone = alone (recoded r m) begins_open open_bare;
      coding_begins = begins_open;
      opening_begins = λ s n o. let h = opens_parts s o in
          opens_from (take n s) (rw (length-take n s) (omega arith)) (unbroken_take s n h.1)
          (begins s n (l.opening_begins _ _ h.2));
      opening_bare = open_bare;
      cause_sized =
          λ s h. over_small (reading m _) _ (reads_small l _)
          (cond_both _ r.fault 36 (λ n. n < 256) (λ _. a.small_fault) (λ _. lit< tt), lit< tt);
      cause_stays = λ s n h. elim (cases_lt n 4) [
        | inl g ↦ let e : take n (take 4 s) ≡ take n s = take-take n 4 s (omega arith) in
            stays (take 4 s) n g (rw e h) ∙ ap (scan_cause r m)
            (e ∙ sym (take_all 4 (take n s) (rw (length-take n s) (omega arith))))
        | inr g ↦ ap (scan_cause r m) (sym (take-take 4 n s g))
      ];
      write_cause_sized = λ c h. over_small (writing m c) _ (writes_small l c)
          (small (option_and_then (in_form r) (m.codings.string c)));
    }
