-- What a scan of the front and a reading of it below say of the whole.
use Rattle.std.proofs.Common.{◌≡◌, ℕ, zero, suc, ◌+◌, ◌≤◌, min, nat_le, Bool}
use Rattle.std.proofs.Common.{true, false, cond, List, [], ◌∷◌, length, take, Some, None, Ok}
use Rattle.std.proofs.Common.{Err, Option, sym, refl, ◌∙◌, inl, inr, arith, length-take}
use Rattle.std.proofs.Common.{length-take-le, take-take, take_all}
use Rattle.std.proofs.lemmas.Bool.{leb-true}
use Rattle.std.proofs.lemmas.Bool.Decides.{nat_tests}
use Rattle.std.proofs.lemmas.List.Sums.{sum_by-cons}
use Rattle.charset.specs.declared.Reading.TheVariants.{Found, Open}
use Rattle.charset.specs.Meaning.{Meaning, IsOpening, Laws}
use Rattle.charset.specs.Answers.{ReadAnswer, Reads}
use Rattle.layers.specs.declared.recoding.moves.WrittenByte.{WrittenByte}
use Rattle.layers.specs.declared.recoding.moves.WrittenByte.TheVariants.{One, Two}
use Rattle.layers.specs.declared.recoded.scan.Scan.{Scan}
use Rattle.layers.specs.Depth.{own, up}
use Rattle.layers.specs.Recoding.{Recoding, Agrees, before, in_form, below, ends, is_broken}
use Rattle.layers.specs.Recoding.{recoded}
use Rattle.layers.specs.Scans.{Scans, form_size, size_of}
use Rattle.layers.specs.Laws.Recode.{below_front, reads_in_form}
use Rattle.layers.proofs.LayerReads.{reads_found, reads_open, reads_refused, reads_own}

pub in_form_size : (r : Recoding) (t u : List ℕ) → in_form r t ≡ Some u
    → length u ≡ size_of r t
in_form_size r [] u e = let same : [] ≡ u = cc in rw (← same) refl
in_form_size r (b ∷ t) u e =
    go (r.form b) (in_form r t) (in_form_size r t) e
    ∙ sym (sum_by-cons (λ x. form_size (r.form x)) b t)
  where
    go : (f : Option WrittenByte) (o : Option (List ℕ))
        → ((v : List ℕ) → o ≡ Some v → length v ≡ size_of r t) → before f o ≡ Some u
        → length u ≡ form_size f + size_of r t
    go f None h e = cc
    go (Some (One x)) (Some v) h e =
        let same : x ∷ v ≡ u = cc in rw (← same) (omega (arith, h v refl))
    go (Some (Two x y)) (Some v) h e =
        let same : x ∷ y ∷ v ≡ u = cc in rw (← same) (omega (arith, h v refl))
    go None (Some v) h e = cc

module _ (r : Recoding) (m : Meaning) (a : Agrees r) (l : Laws m) (s : List ℕ) where
  sized_found : (c k n : ℕ) → Reads m (below r false (take 4 s)) (Ok (Found c k))
      → n ≡ size_of r (take k (below r false (take 4 s)))
      → Reads (recoded r m) s (Ok (Found c n))
  sized_found c zero n h e = absurd (omega (arith, l.sized [] c h.1))
  sized_found c (suc j) n h e =
      let q = below_front r (take 4 s) false j h.0 in
      let four : q.0 ≤ min 4 (length s) = rw (← length-take 4 s) q.1 in
      let same : take q.0 (take 4 s) ≡ take q.0 s = take-take q.0 4 s (omega arith) in
      let clean_here = rw same at q.2 in
      let below_here : below r false (take q.0 s) ≡ take (suc j) (below r false (take 4 s)) =
      rw same at q.3 in
      let back : in_form r (take (suc j) (below r false (take 4 s))) ≡ Some (take q.0 s) =
      rw (← below_here) (reads_in_form a (take q.0 s) clean_here) in
      let length_is = in_form_size r (take (suc j) (below r false (take 4 s))) (take q.0 s) back in
      let n_is : n ≡ q.0 = e ∙ sym length_is ∙ length-take-le q.0 s (omega arith) in
      rw n_is (reads_found r m a l s c q.0 (omega arith) (omega arith) clean_here
      (rw below_here h.1))

  at_four : (b : Bool) → nat_le 4 (length s) ≡ b
      → is_broken (ends r false (take 4 s)) ≡ false → IsOpening m (below r false (take 4 s))
      → Reads (recoded r m) s (cond b (Err (own 36)) (Ok Open))
  at_four true h e o = reads_own r m a l s 36 o (inr (leb-true 4 (length s) h)) (rw e refl)
  at_four false h e o =
      let short : length s ≤ 3 = grind (arith, nat_tests) in
      let whole : take 4 s ≡ s = take_all 4 s (omega arith) in
      reads_open r m a l s short (rw whole at e) (rw whole at o)

-- what is read, by the scan of the front and the answer to reading below what it stands for
abbrev pub recoded_read : Recoding → List ℕ → Scan → ReadAnswer → ReadAnswer
recoded_read r s scan (Ok (Found c k)) = Ok (Found c (size_of r (take k scan.below)))
recoded_read r s scan (Ok Open) =
    cond scan.broken (Err (own r.fault)) (cond (nat_le 4 (length s)) (Err (own 36)) (Ok Open))
recoded_read r s scan (Err q) = Err (up q)

pub recoded_answer : {r : Recoding} {m : Meaning} → Agrees r → Laws m
    → {s : List ℕ} {scan : Scan} → Scans r s scan → {u : List ℕ} → u ≡ scan.below
    → (x : ReadAnswer) → Reads m u x → {t : ReadAnswer} → t ≡ recoded_read r s scan x
    → Reads (recoded r m) s t
recoded_answer {r} {m} a l {s} {scan} ok same x h e = rw e (go x (rw (same, ok.stands) at h))
  where
    open_here : (b : Bool) → scan.broken ≡ b → IsOpening m (below r false (take 4 s))
        → Reads (recoded r m) s (cond b (Err (own r.fault))
        (cond (nat_le 4 (length s)) (Err (own 36)) (Ok Open)))
    open_here true f o =
        let g : is_broken (ends r false (take 4 s)) ≡ true = sym ok.breaks ∙ f in
        reads_own r m a l s r.fault o (inl g) (rw g refl)
    open_here false f o = at_four r m a l s (nat_le 4 (length s)) refl (sym ok.breaks ∙ f) o

    go : (x : ReadAnswer) → Reads m (below r false (take 4 s)) x
        → Reads (recoded r m) s (recoded_read r s scan x)
    go (Ok (Found c k)) h =
        sized_found r m a l s c k (size_of r (take k scan.below)) h (rw ok.stands refl)
    go (Ok Open) h = open_here scan.broken refl h
    go (Err q) h = reads_refused r m a l s q h
