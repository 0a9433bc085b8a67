-- The layers' meanings in plain words.
use Rattle.std.proofs.Common.{◌≡◌, ℕ, suc, ◌+◌, ◌-◌, ◌%◌, ◌<◌, ◌≤◌}
use Rattle.std.proofs.Common.{Bool, true, false, cond, ◌⊎◌, List, [], ◌∷◌, ◌++◌}
use Rattle.std.proofs.Common.{map, length, take, Some, None, Ok, Err, Option, sym, refl, ap}
use Rattle.std.proofs.Common.{◌∙◌, subst, inl, inr, append-nil, arith, length-append}
use Rattle.std.proofs.Common.{take_all}
use lib.ListN.{length-map}
use lib.Seq.{take-append_seam}
use lib.Count.{ones}
use Rattle.std.proofs.lemmas.Bool.{cases_lt, both_ways}
use Rattle.std.proofs.lemmas.Bool.Decides.{nat_tests}
use Rattle.charset.specs.declared.Reading.TheVariants.{Open}
use Rattle.charset.specs.Meaning.{Meaning, Codes, IsOpening, Unreadable, Laws}
use Rattle.layers.specs.declared.recoding.moves.Move.{Move}
use Rattle.layers.specs.declared.recoding.moves.Move.TheVariants.{Emit, Hold}
use Rattle.layers.specs.declared.recoding.moves.WrittenByte.{WrittenByte}
use Rattle.layers.specs.declared.recoding.moves.WrittenByte.TheVariants.{One, Two}
use Rattle.layers.specs.Depth.{own, up}
use Rattle.layers.specs.Recoding.{End, clean, pending, broken, Recoding, put, stop, below, ends}
use Rattle.layers.specs.Recoding.{before, in_form, is_broken, recoded, Agrees}
use Rattle.layers.specs.Layers.{parity_form, parity_bytes, parity, shift_form, shift_step}
use Rattle.layers.specs.Layers.{shift_bytes, shift}
use Rattle.layers.specs.Words.{in_parity, InParity, Shifts, BeginsShifted, CannotFollow}
use Rattle.layers.specs.Words.{ParityMeaning, ShiftMeaning}
use Rattle.charset.proofs.FrontLemmas.{reading_is, opening_passed, reads_on}
use Rattle.charset.proofs.Places.{four}
use Rattle.layers.specs.Laws.Recode.{codes_parts, codes_from, opens_parts, opens_from}
use Rattle.layers.specs.Laws.Recode.{in_form_reads, reads_in_form}
use Rattle.layers.specs.Laws.LayersKeep.{parity_agrees, shift_agrees, parity_laws, shift_laws}
use Rattle.layers.proofs.Faults.{first_fault}
use Rattle.layers.proofs.Unwritten.{byte_at, passes_up, own_fault, own_length, nothing_else}

-- Parity: a byte's form is that byte with its parity
parity_in_form : (t s : List ℕ) → InParity t s → in_form parity_bytes t ≡ Some s
parity_in_form [] s h = ap Some (sym h.1)
parity_in_form (b ∷ t) s h =
    let f : parity_form b ≡ Some (One (in_parity b)) =
    (let small = h.0.0 in grind (arith, nat_tests)) in
    rw (f, parity_in_form t (map in_parity t) (h.0.1, refl)) (ap Some (sym h.1))

in_form_parity : (t s : List ℕ) → in_form parity_bytes t ≡ Some s → InParity t s
in_form_parity [] s e = (tt, cc)
in_form_parity (b ∷ t) s e = go (cases_lt b 0x80) (in_form parity_bytes t) (in_form_parity t) e
  where
    go : (b < 0x80) ⊎ (0x80 ≤ b) → (o : Option (List ℕ))
        → ((u : List ℕ) → o ≡ Some u → InParity t u)
        → before (parity_form b) o ≡ Some s → InParity (b ∷ t) s
    go d None f e = cc
    go (inl h) (Some u) f e =
        let k : parity_form b ≡ Some (One (in_parity b)) = grind (arith, nat_tests) in
        let e' : Some (in_parity b ∷ u) ≡ Some s = rw k at e in
        let s_is : in_parity b ∷ u ≡ s = cc in
        ((h, (f u refl).0), sym s_is ∙ ap {B = List ℕ} (λ z. in_parity b ∷ z) (f u refl).1)
    go (inr h) (Some u) f e =
        let k : parity_form b ≡ None = grind (arith, nat_tests) in
        let e' : None ≡ Some s = rw k at e in
        cc

-- Shift
plain_form : (b : ℕ) → b < 0x80 → (b ≡ 0x19 → ⊥) → shift_form b ≡ Some (One b)
plain_form b h k = grind (arith, nat_tests)

upper_form : (b : ℕ) → 0xa0 ≤ b → b < 0x100 → shift_form b ≡ Some (Two 0x19 (b - 0x80))
upper_form b h k = grind (arith, nat_tests)

shifts_in_form : (t s : List ℕ) → Shifts t s → in_form shift_bytes t ≡ Some s
shifts_in_form [] s h = ap Some (sym h)
shifts_in_form (b ∷ t) s h = go (shifts_in_form t h.0 h.1) h.2
  where
    go : in_form shift_bytes t ≡ Some h.0
        → ((b < 0x80) × (b ≡ 0x19 → ⊥) × (s ≡ b ∷ h.0))
        ⊎ ((0xa0 ≤ b) × (b < 0x100) × (s ≡ 0x19 ∷ (b - 0x80) ∷ h.0))
        → before (shift_form b) (in_form shift_bytes t) ≡ Some s
    go ih (inl k) = rw (plain_form b k.0 k.1, ih, k.2)
    go ih (inr k) = rw (upper_form b k.0 k.1, ih, k.2)

in_form_shifts : (t s : List ℕ) → in_form shift_bytes t ≡ Some s → Shifts t s
in_form_shifts [] s e = cc
in_form_shifts (b ∷ t) s e = go (shift_form b) refl (in_form shift_bytes t) (in_form_shifts t) e
  where
    go : (f : Option WrittenByte) → shift_form b ≡ f → (o : Option (List ℕ))
        → ((u : List ℕ) → o ≡ Some u → Shifts t u) → before f o ≡ Some s
        → Shifts (b ∷ t) s
    go f h None g e = cc
    go (Some (One x)) h (Some u) g e =
        let k : (b < 0x80) × (b ≡ 0x19 → ⊥) × (b ≡ x) =
        (grind (arith, nat_tests), (λ z. grind (arith, nat_tests)), grind (arith, nat_tests)) in
        let s_is : x ∷ u ≡ s = cc in
        (u, g u refl, inl (k.0, k.1, rw k.2 (sym s_is)))
    go (Some (Two x y)) h (Some u) g e =
        let k : (0xa0 ≤ b) × (b < 0x100) × (0x19 ≡ x) × (b - 0x80 ≡ y) = (
          grind (arith, nat_tests),
          grind (arith, nat_tests),
          grind (arith, nat_tests),
          grind (arith, nat_tests),
        ) in
        let s_is : x ∷ y ∷ u ≡ s = cc in
        (u, g u refl, inr (k.0, k.1, rw (k.2, k.3) (sym s_is)))
    go None h (Some u) g e = cc

-- a form's codings and openings, by the strings that it shifts
module _ {r : Recoding} (a : Agrees r) (m : Meaning) where
  form_codes : (s : List ℕ) (c : ℕ) → Codes (recoded r m) s c
      → (t : List ℕ) × (in_form r t ≡ Some s) × Codes m t c × (length s ≤ 4)
  form_codes s c p =
      let h = codes_parts r m s c p in (below r false s, reads_in_form a s h.1, h.2, h.0)

  form_coded : (s t : List ℕ) (c : ℕ) → in_form r t ≡ Some s → Codes m t c
      → length s ≤ 4 → Codes (recoded r m) s c
  form_coded s t c e p h = let g = in_form_reads a t s e in codes_from r m s c h g.0 (rw g.1 p)

  -- a pending string is a clean one and a byte that is held
  abbrev Split : List ℕ → List ℕ → Type 0
  Split s t =
      (p : List ℕ) × (h : ℕ) × (s ≡ p ++ h ∷ []) × (r.step false h ≡ Some Hold)
      × (in_form r t ≡ Some p)

  pending_split : (s : List ℕ) → ends r false s ≡ pending → Split s (below r false s)
  pending_split [] e = cc
  pending_split (x ∷ []) e = go (r.step false x) refl e
    where
      go : (v : Option Move) → r.step false x ≡ v → stop v (λ q. ends r q []) ≡ pending
          → Split (x ∷ []) (put v (λ q. below r q []))
      go (Some (Emit b)) k e = cc
      go (Some Hold) k e = ([], x, refl, k, refl)
      go None k e = cc
  pending_split (x ∷ y ∷ s) e =
      go (r.step false x) refl (pending_split (y ∷ s)) (pending_split s) e
    where
      snd : (v : Option Move) → r.step true y ≡ v → r.step false x ≡ Some Hold
          → (ends r false s ≡ pending → Split s (below r false s))
          → stop v (λ q. ends r q s) ≡ pending
          → Split (x ∷ y ∷ s) (put v (λ q. below r q s))
      snd (Some (Emit b)) k f g e =
          let i = g e in (
            x ∷ y ∷ i.0,
            i.1,
            ap {B = List ℕ} (λ z. x ∷ y ∷ z) i.2,
            i.3,
            rw (a.step_two b x y f k, i.4),
          )
      snd (Some Hold) k f g e = absurd (a.no_third y k)
      snd None k f g e = cc

      go : (v : Option Move) → r.step false x ≡ v
          → (ends r false (y ∷ s) ≡ pending → Split (y ∷ s) (below r false (y ∷ s)))
          → (ends r false s ≡ pending → Split s (below r false s))
          → stop v (λ q. ends r q (y ∷ s)) ≡ pending
          → Split (x ∷ y ∷ s) (put v (λ q. below r q (y ∷ s)))
      go (Some (Emit b)) k f g e =
          let i = f e in (
            x ∷ i.0,
            i.1,
            ap {B = List ℕ} (λ z. x ∷ z) i.2,
            i.3,
            rw (a.step_one b x k, i.4),
          )
      go (Some Hold) k f g e = snd (r.step true y) refl k g e
      go None k f g e = cc

  -- what follows a string that is clean, or that holds a byte
  join : (h : Bool) (p : List ℕ) (q : Bool) (s : List ℕ) → ends r q p ≡ cond h pending clean
      → (ends r q (p ++ s) ≡ ends r h s) × (below r q (p ++ s) ≡ below r q p ++ below r h s)
  join false [] false s e = (refl, refl)
  join true [] true s e = (refl, refl)
  join false [] true s e = cc
  join true [] false s e = cc
  join h (x ∷ p) q s e = go (r.step q x) (λ z. join h p z s) e
    where
      unbroken : (h : Bool) → cond h pending clean ≡ broken → ⊥
      unbroken true e = cc
      unbroken false e = cc

      go : (v : Option Move)
          → ((z : Bool) → ends r z p ≡ cond h pending clean
          → (ends r z (p ++ s) ≡ ends r h s)
          × (below r z (p ++ s) ≡ below r z p ++ below r h s))
          → stop v (λ z. ends r z p) ≡ cond h pending clean
          → (stop v (λ z. ends r z (p ++ s)) ≡ ends r h s)
          × (put v (λ z. below r z (p ++ s)) ≡ put v (λ z. below r z p) ++ below r h s)
      go (Some (Emit b)) f e = ((f false e).0, ap {B = List ℕ} (λ z. b ∷ z) (f false e).1)
      go (Some Hold) f e = f true e
      go None f e = absurd (unbroken h (sym e))

  -- an opening is a string that shifts an opening below, with or without one more held byte
  form_opens : (s : List ℕ) → IsOpening (recoded r m) s
      → (length s ≤ 3)
      × ((t : List ℕ) × IsOpening m t × ((in_form r t ≡ Some s) ⊎ Split s t))
  form_opens s o =
      let h = opens_parts r m s o in (h.0, (below r false s, h.2, go (ends r false s) refl h.1))
    where
      go : (e : End) → ends r false s ≡ e → is_broken e ≡ false
          → (in_form r (below r false s) ≡ Some s) ⊎ Split s (below r false s)
      go clean e k = inl (reads_in_form a s e)
      go pending e k = inr (pending_split s e)
      go broken e k = absurd (both_ways true k refl)

  -- how such a string ends, and what it stands for
  form_ends : (s t : List ℕ) → (in_form r t ≡ Some s) ⊎ Split s t
      → (is_broken (ends r false s) ≡ false) × (below r false s ≡ t)
  form_ends s t (inl e) = let g = in_form_reads a t s e in (rw g.0, g.1)
  form_ends s t (inr i) =
      let g = in_form_reads a t i.0 i.4 in
      let j = join false i.0 false (i.1 ∷ []) g.0 in
      rw (i.2, j.0, j.1, i.3, append-nil) (refl, g.1)

  form_opened : (s t : List ℕ) → length s ≤ 3 → IsOpening m t
      → (in_form r t ≡ Some s) ⊎ Split s t → IsOpening (recoded r m) s
  form_opened s t h o d = let g = form_ends s t d in opens_from r m s h g.0 (rw g.1 o)

  -- what a wrong byte does
  wrong_join : (p : List ℕ) (q : Bool) (x : ℕ) (s : List ℕ)
      → (ends r q p ≡ clean → r.step false x ≡ None)
      → (ends r q p ≡ pending → r.step true x ≡ None)
      → (ends r q (p ++ x ∷ s) ≡ broken) × (below r q (p ++ x ∷ s) ≡ below r q p)
  wrong_join [] false x s f g = rw (f refl) (refl, refl)
  wrong_join [] true x s f g = rw (g refl) (refl, refl)
  wrong_join (y ∷ p) q x s f g = go (r.step q y) (λ z. wrong_join p z x s) f g
    where
      go : (v : Option Move) → ((z : Bool) → (ends r z p ≡ clean → r.step false x ≡ None)
          → (ends r z p ≡ pending → r.step true x ≡ None)
          → (ends r z (p ++ x ∷ s) ≡ broken) × (below r z (p ++ x ∷ s) ≡ below r z p))
          → (stop v (λ z. ends r z p) ≡ clean → r.step false x ≡ None)
          → (stop v (λ z. ends r z p) ≡ pending → r.step true x ≡ None)
          → (stop v (λ z. ends r z (p ++ x ∷ s)) ≡ broken)
          × (put v (λ z. below r z (p ++ x ∷ s)) ≡ put v (λ z. below r z p))
      go (Some (Emit b)) i f g =
          ((i false f g).0, ap {B = List ℕ} (λ z. b ∷ z) (i false f g).1)
      go (Some Hold) i f g = i true f g
      go None i f g = (refl, refl)

  module _ (l : Laws m) where
    own_cause : (p rest : List ℕ) (x : ℕ) → IsOpening (recoded r m) p
        → (ends r false p ≡ clean → r.step false x ≡ None)
        → (ends r false p ≡ pending → r.step true x ≡ None)
        → (recoded r m).causes (p ++ x ∷ rest) ≡ own r.fault
    own_cause p rest x o f g =
        let h = opens_parts r m p o in
        let e : take 4 (p ++ x ∷ rest) ≡ p ++ x ∷ take (3 - length p) rest =
        four p (x ∷ rest) (omega arith)
        ∙ ap (λ n. p ++ take n (x ∷ rest))
        (let k : 4 - length p ≡ suc (3 - length p) = omega arith in k) in
        let w = wrong_join p false x (take (3 - length p) rest) f g in
        rw (e, w.0, w.1, reading_is l (below r false p) (Ok Open) h.2)

    long_cause : (s t rest : List ℕ) → length s ≡ 4 → IsOpening m t
        → (in_form r t ≡ Some s) ⊎ Split s t → (recoded r m).causes (s ++ rest) ≡ own 36
    long_cause s t rest h o d =
        let g = form_ends s t d in
        let e : take 4 (s ++ rest) ≡ s = rw (← h) (take-append_seam s rest) in
        rw (e, g.0, g.1, reading_is l t (Ok Open) o)

    below_cause : (s t rest : List ℕ) → length s ≤ 4 → Unreadable m t
        → in_form r t ≡ Some s → (recoded r m).causes (s ++ rest) ≡ up (m.causes t)
    below_cause s t rest h b e =
        let g = in_form_reads a t s e in
        let more = below r false (take (4 - length s) rest) in
        let j : below r false (s ++ take (4 - length s) rest) ≡ t ++ more =
        (join false s false (take (4 - length s) rest) g.0).1 ∙ ap (λ z. z ++ more) g.1 in
        rw (
          four s rest h,
          j,
          reading_is l (t ++ more) (Err (m.causes t))
              (reads_on l t more (Err (m.causes t)) (λ z. cc) (b, refl)),
        )

    -- what is wrong with a byte after an opening
    abbrev Fault : List ℕ → ℕ → Type 0
    Fault p x =
        ((h : Bool) × (ends r false p ≡ cond h pending clean) × (r.step h x ≡ None))
        ⊎ (((length p ≡ 3) × (t : List ℕ) × IsOpening m t
        × ((in_form r t ≡ Some (p ++ x ∷ [])) ⊎ Split (p ++ x ∷ []) t))
        ⊎ ((t : List ℕ) × (in_form r t ≡ Some (p ++ x ∷ [])) × Unreadable m t))

    fault : (p : List ℕ) (x : ℕ) → IsOpening (recoded r m) p
        → Unreadable (recoded r m) (p ++ x ∷ []) → Fault p x
    fault p x o u = go (ends r false p) refl
      where
        s : List ℕ
        s = p ++ x ∷ []

        known : (length p ≤ 3) × (is_broken (ends r false p) ≡ false)
            × IsOpening m (below r false p)
        known = opens_parts r m p o

        size : length s ≡ length p + 1
        size = length-append p (x ∷ [])

        waits : is_broken (ends r false s) ≡ false → IsOpening m (below r false s)
            → length p ≡ 3
        waits e b = elim (cases_lt (length p) 3) [
          | inl h ↦ absurd (both_ways _ u.1 (opens_from r m s (omega (arith, size)) e b))
          | inr h ↦ omega (arith, known.0)
        ]

        emitted : (h : Bool) (b : ℕ) → ends r false p ≡ cond h pending clean
            → r.step h x ≡ Some (Emit b) → Fault p x
        emitted h b e k = decide (m.openings (below r false s)) refl
          where
            j : (ends r false s ≡ ends r h (x ∷ []))
                × (below r false s ≡ below r false p ++ below r h (x ∷ []))
            j = join h p false (x ∷ []) e

            ended : ends r false s ≡ clean
            ended = j.0 ∙ (rw k refl)

            longer : below r false s ≡ below r false p ++ b ∷ []
            longer = j.1 ∙ (rw k refl)

            bare : (n c : ℕ) → Codes m (take n (below r false s)) c → ⊥
            bare n c q =
                let over = opening_passed l (below r false p) (b ∷ []) c n known.2
                (rw longer at q) in
                let sized : length (below r false s) ≡ length (below r false p) + 1 =
                ap length longer ∙ length-append (below r false p) (b ∷ []) in
                let q' : Codes m (below r false s) c =
                subst (λ z. Codes m z c) (take_all n (below r false s) (omega arith)) q in
                u.0 (length s) c (subst (λ z. Codes (recoded r m) z c)
                (sym (take_all (length s) s (omega arith)))
                (codes_from r m s c (omega (arith, size, known.0)) ended q'))

            decide : (o : Bool) → m.openings (below r false s) ≡ o → Fault p x
            decide true z =
                inr (inl (
                  waits (rw ended refl) z,
                  below r false s,
                  z,
                  inl (reads_in_form a s ended),
                ))
            decide false z = inr (inr (below r false s, reads_in_form a s ended, (bare, z)))

        held : ends r false p ≡ clean → r.step false x ≡ Some Hold → Fault p x
        held e k =
            let j = join false p false (x ∷ []) e in
            let ended : ends r false s ≡ pending = j.0 ∙ (rw k refl) in
            let same : below r false s ≡ below r false p = j.1 ∙ (rw (k, append-nil) refl) in
            let z : IsOpening m (below r false s) = rw same known.2 in
            inr (inl (waits (rw ended refl) z, below r false s, z, inr (pending_split s ended)))

        go : (e : End) → ends r false p ≡ e → Fault p x
        go clean e = step (r.step false x) refl
          where
            step : (v : Option Move) → r.step false x ≡ v → Fault p x
            step (Some (Emit b)) k = emitted false b e k
            step (Some Hold) k = held e k
            step None k = inl (false, e, k)
        go pending e = step (r.step true x) refl
          where
            step : (v : Option Move) → r.step true x ≡ v → Fault p x
            step (Some (Emit b)) k = emitted true b e k
            step (Some Hold) k = absurd (a.no_third x k)
            step None k = inl (true, e, k)
        go broken e = absurd (both_ways true (rw e at known.1) refl)

pub parity_meaning : (m : Meaning) → Laws m → ParityMeaning m
parity_meaning m l = record {
  codes = λ s c p. let h = form_codes parity_agrees m s c p in
      (h.0, in_form_parity h.0 s h.1, h.2);
  coded_by =
      λ s t c h p. form_coded parity_agrees m s t c (parity_in_form t s h) p
      (rw (h.1, length-map) (l.sized t c p).1);
  opens =
      λ s o. let h = form_opens parity_agrees m s o in (
        h.1.0,
        elim h.1.2 [ inl e ↦ in_form_parity _ s e | inr i ↦ absurd (never_held i.1 i.3) ],
        h.1.1,
      );
  opened_by =
      λ s t h o. form_opened parity_agrees m s t (rw (h.1, length-map) (l.opening_sized t o)) o
      (inl (parity_in_form t s h));
  odd_parity = λ p rest x o k. own_cause parity_agrees m l p rest x o (λ _. odd x k) (λ _. refl);
  cause_below =
      λ s t rest h b d. below_cause parity_agrees m l s t rest h b (parity_in_form t s d);
  causes_only = λ s b u.
      let f = first_fault (parity m) (parity_laws l).empty_opens s u in (
        f.0,
        f.1,
        f.2,
        f.3,
        f.4,
        kind f.0 f.2 (byte_at f.0 f.1 f.2 (rw f.3 at b))
            (fault parity_agrees m l f.0 f.2 f.4 f.5),
      );
  unwritten_below = passes_up parity_bytes m;
  eight_bits = λ c h.
      own_fault parity_bytes m c h.0 h.1 h.2 (l.read _ c h.3) (eight_formless h.2 h.4);
  write_causes_only = λ c h. elim (nothing_else parity_bytes m c h) [
    | inl e ↦ inl e
    | inr w ↦ elim w.2 [
      | inl f ↦ inr (
        f.0,
        f.1,
        f.2,
        subst (λ z. Codes m z c) f.3 (l.written c w.0 w.1),
        formless_eight f.2 f.4,
      )
      | inr f ↦ absurd (omega (
        arith,
        f.2,
        ap length (in_form_parity w.0 f.0 f.1).1,
        length-map w.0 in_parity,
        (l.sized w.0 c (l.written c w.0 w.1)).1,
      ))
    ]
  ];
}
  where
    odd : (x : ℕ) → ones x % 2 ≡ 1 → parity_bytes.step false x ≡ None
    odd x e = grind (arith, nat_tests)

    never_held : (x : ℕ) → parity_bytes.step false x ≡ Some Hold → ⊥
    never_held x e = grind (arith, nat_tests)

    eight_formless : (b : ℕ) → 0x80 ≤ b → parity_form b ≡ None
    eight_formless b h = grind (arith, nat_tests)

    formless_eight : (b : ℕ) → parity_form b ≡ None → 0x80 ≤ b
    formless_eight b e = grind (arith, nat_tests)

    wrong_odd : (x : ℕ) → x < 0x100 → parity_bytes.step false x ≡ None → ones x % 2 ≡ 1
    wrong_odd x h e = grind (arith, nat_tests)

    kind : (p : List ℕ) (x : ℕ) → x < 0x100 → Fault parity_agrees m l p x
        → (ones x % 2 ≡ 1) ⊎ ((t : List ℕ) × InParity t (p ++ x ∷ []) × Unreadable m t)
    kind p x h (inl (true, e, k)) =
        let i = pending_split parity_agrees m p e in absurd (never_held i.1 i.3)
    kind p x h (inl (false, e, k)) = inl (wrong_odd x h k)
    kind p x h (inr (inl (three, t, o, inl e))) =
        let g : length (p ++ x ∷ []) ≡ length t =
        ap length (in_form_parity t (p ++ x ∷ []) e).1 ∙ length-map t in_parity in
        absurd (omega (arith, l.opening_sized t o, length-append p (x ∷ [])))
    kind p x h (inr (inl (three, t, o, inr i))) = absurd (never_held i.1 i.3)
    kind p x h (inr (inr (t, e, u))) = inr (t, in_form_parity t (p ++ x ∷ []) e, u)

held_is : (x : ℕ) → shift_step false x ≡ Some Hold → x ≡ 0x19
held_is x e = grind (arith, nat_tests)

no_high : (q : Bool) (x : ℕ) → 0x80 ≤ x → shift_step q x ≡ None
no_high false x h = grind (arith, nat_tests)
no_high true x h = grind (arith, nat_tests)

no_low : (x : ℕ) → x < 0x20 → shift_step true x ≡ None
no_low x h = grind (arith, nat_tests)

pub shift_meaning : (m : Meaning) → Laws m → ShiftMeaning m
shift_meaning m l = record {
  codes =
      λ s c p. let h = form_codes shift_agrees m s c p in
      (h.0, in_form_shifts h.0 s h.1, h.2, h.3);
  coded_by = λ s t c h p k. form_coded shift_agrees m s t c (shifts_in_form t s h) p k;
  opens =
      λ s o. let h = form_opens shift_agrees m s o in
      (h.0, (h.1.0, h.1.1, as_words s h.1.0 h.1.2));
  opened_by = λ s t h o d. form_opened shift_agrees m s t h o (as_form s t d);
  not_shifted =
      λ p rest x o d. own_cause shift_agrees m l p rest x o (cannot false p x d) (cannot' p x d);
  too_long = λ s t rest h o d. long_cause shift_agrees m l s t rest h o (as_form s t d);
  cause_below = λ s t rest h b d. below_cause shift_agrees m l s t rest h b (shifts_in_form t s d);
  causes_only =
      λ s u. let f = first_fault (shift m) (shift_laws l).empty_opens s u in
      (f.0, f.1, f.2, f.3, f.4, kind f.0 f.2 (fault shift_agrees m l f.0 f.2 f.4 f.5));
  unwritten_below = passes_up shift_bytes m;
  forbidden_byte = λ c h.
      own_fault shift_bytes m c h.0 h.1 h.2 (l.read _ c h.3) (forbidden_formless h.2 h.4);
  shifts_too_long = λ c h.
      own_length shift_bytes m c h.0 h.1 (l.read _ c h.2) (shifts_in_form h.0 h.1 h.3) h.4;
  write_causes_only = λ c h. elim (nothing_else shift_bytes m c h) [
    | inl e ↦ inl e
    | inr w ↦ let p = l.written c w.0 w.1 in elim w.2 [
      | inl f ↦ let q = subst (λ z. Codes m z c) f.3 p in inr (inl (
        f.0,
        f.1,
        f.2,
        q,
        formless_forbidden f.2 (byte_at f.0 f.1 f.2 (l.bytes _ c q)) f.4,
      ))
      | inr f ↦ inr (inr (w.0, f.0, p, in_form_shifts w.0 f.0 f.1, f.2))
    ]
  ];
}
  where
    forbidden_formless : (b : ℕ) → (b ≡ 0x19) ⊎ ((0x80 ≤ b) × (b < 0xa0))
        → shift_form b ≡ None
    forbidden_formless b (inl e) = grind (arith, nat_tests)
    forbidden_formless b (inr h) = grind (arith, nat_tests)

    formless_forbidden : (b : ℕ) → b < 0x100 → shift_form b ≡ None
        → (b ≡ 0x19) ⊎ ((0x80 ≤ b) × (b < 0xa0))
    formless_forbidden b h e = elim (cases_lt b 0x80) [
      | inl g ↦ inl (grind (arith, nat_tests))
      | inr g ↦ inr (g, grind (arith, nat_tests))
    ]

    as_words : (s t : List ℕ) → (in_form shift_bytes t ≡ Some s) ⊎ Split shift_agrees m s t
        → BeginsShifted t s
    as_words s t (inl e) = inl (in_form_shifts t s e)
    as_words s t (inr i) =
        inr (i.0, i.2 ∙ ap (λ x. i.0 ++ x ∷ []) (held_is i.1 i.3), in_form_shifts t i.0 i.4)

    wrong_high : (x : ℕ) → shift_step false x ≡ None → 0x80 ≤ x
    wrong_high x e = grind (arith, nat_tests)

    wrong_second : (x : ℕ) → shift_step true x ≡ None → (x < 0x20) ⊎ (0x80 ≤ x)
    wrong_second x e =
        elim (cases_lt x 0x20) [ inl h ↦ inl h | inr h ↦ inr (grind (arith, nat_tests)) ]

    kind : (p : List ℕ) (x : ℕ) → Fault shift_agrees m l p x
        → CannotFollow p x
        ⊎ (((length p ≡ 3) × (t : List ℕ) × IsOpening m t
        × BeginsShifted t (p ++ x ∷ []))
        ⊎ ((t : List ℕ) × Shifts t (p ++ x ∷ []) × Unreadable m t))
    kind p x (inl (false, e, k)) = inl (inl (wrong_high x k))
    kind p x (inl (true, e, k)) = elim (wrong_second x k) [
      | inl h ↦ let i =
          pending_split shift_agrees m p e in
          inl (inr (
            i.0,
            below shift_bytes false p,
            i.2 ∙ ap (λ y. i.0 ++ y ∷ []) (held_is i.1 i.3),
            in_form_shifts (below shift_bytes false p) i.0 i.4,
            h,
          ))
      | inr h ↦ inl (inl h)
    ]
    kind p x (inr (inl (three, t, o, d))) = inr (inl (three, t, o, as_words (p ++ x ∷ []) t d))
    kind p x (inr (inr (t, e, u))) = inr (inr (t, in_form_shifts t (p ++ x ∷ []) e, u))

    as_form : (s t : List ℕ) → BeginsShifted t s
        → (in_form shift_bytes t ≡ Some s) ⊎ Split shift_agrees m s t
    as_form s t (inl h) = inl (shifts_in_form t s h)
    as_form s t (inr h) = inr (h.0, 0x19, h.1, refl, shifts_in_form t h.0 h.2)

    cannot : (b : Bool) (p : List ℕ) (x : ℕ) → CannotFollow p x
        → ends shift_bytes false p ≡ clean → shift_step false x ≡ None
    cannot b p x (inl h) e = no_high false x h
    cannot b p x (inr h) e =
        let g = in_form_reads shift_agrees h.1 h.0 (shifts_in_form h.1 h.0 h.3) in
        let k : pending ≡ clean = sym (join shift_agrees m false h.0 false (0x19 ∷ []) g.0).0
        ∙ ap (ends shift_bytes false) (sym h.2) ∙ e in
        cc

    cannot' : (p : List ℕ) (x : ℕ) → CannotFollow p x → ends shift_bytes false p ≡ pending
        → shift_step true x ≡ None
    cannot' p x (inl h) e = no_high true x h
    cannot' p x (inr h) e = no_low x h.4
