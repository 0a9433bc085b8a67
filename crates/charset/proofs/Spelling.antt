-- Characters in codings can be taken apart in one way.
use Rattle.std.proofs.Common.{◌≡◌, ℕ, ◌⊎◌, List, [], ◌∷◌, ◌++◌, length}
use Rattle.std.proofs.Common.{take, Some, sym, refl, ap, ◌∙◌, inl, inr, append_assoc}
use Rattle.std.proofs.Common.{append-nil, arith, length-append}
use mathlib.Core.List.{append_cancel_left}
use lib.Seq.{take-append_seam}
use Rattle.charset.specs.Meaning.{Meaning, Codes, IsOpening, Laws}
use Rattle.charset.specs.Decoding.{Spells, DecodesOnce}
use Rattle.charset.proofs.FrontLemmas.{same_size}

module _ (m : Meaning) where
  pub spells_append : (cs ds a b : List ℕ) → Spells m cs a → Spells m ds b
      → Spells m (cs ++ ds) (a ++ b)
  spells_append [] ds a b p q = rw p q
  spells_append (c ∷ cs) ds a b p q = (
    p.0,
    p.1 ++ b,
    p.2,
    ap (λ s. s ++ b) p.3 ∙ append_assoc p.0 p.1 b,
    spells_append cs ds p.1 b p.4 q,
  )

  pub spells_split : (cs ds s : List ℕ) → Spells m (cs ++ ds) s
      → (a b : List ℕ) × Spells m cs a × Spells m ds b × (s ≡ a ++ b)
  spells_split [] ds s p = ([], s, refl, p, refl)
  spells_split (c ∷ cs) ds s p =
      let h = spells_split cs ds p.1 p.4 in (
        p.0 ++ h.0,
        h.1,
        (p.0, h.0, p.2, refl, h.2),
        h.3,
        p.3 ∙ ap (λ t. p.0 ++ t) h.4
            ∙ sym (append_assoc p.0 h.0 h.1),
      )

  pub spells_one : (cs a b : List ℕ) → Spells m cs a → Spells m cs b → a ≡ b
  spells_one [] a b p q = p ∙ sym q
  spells_one (c ∷ cs) a b p q =
      let e = p.2 in let f = q.2 in
      let same : p.0 ≡ q.0 = cc in
      p.3 ∙ rw (same, spells_one cs p.1 q.1 p.4 q.4) (sym q.3)

module _ {m : Meaning} (l : Laws m) where
  pub same_coding : (x y p q : List ℕ) (c d : ℕ) → Codes m x c → Codes m y d
      → x ++ p ≡ y ++ q → (x ≡ y) × (c ≡ d)
  same_coding x y p q c d h k e =
      let at_x : take (length x) (x ++ p) ≡ x = take-append_seam x p in
      let at_y : take (length y) (x ++ p) ≡ y = rw e (take-append_seam y q) in
      let size = same_size l (x ++ p) (length x) (length y) c d
      (rw (length-append x p) (omega arith)) (rw (e, length-append y q) (omega arith))
      (rw at_x h) (rw at_y k) in
      let same : x ≡ y = sym at_x ∙ ap (λ n. take n (x ++ p)) size ∙ at_y in
      let h' : m.codings.character y ≡ Some c = rw same at h in
      (same, cc)

  -- of two lists of characters in codings in front of the same bytes, one goes on where the other
  -- ends
  pub fronts : (cs ds a b p q : List ℕ) → Spells m cs a → Spells m ds b → a ++ p ≡ b ++ q
      → ((es e : List ℕ) × (ds ≡ cs ++ es) × Spells m es e × (p ≡ e ++ q))
      ⊎ ((es e : List ℕ) × (cs ≡ ds ++ es) × Spells m es e × (q ≡ e ++ p))
  fronts [] ds a b p q h k e = inl (ds, b, refl, k, rw h at e)
  fronts (c ∷ cs) [] a b p q h k e = inr (c ∷ cs, a, refl, h, sym (rw k at e))
  fronts (c ∷ cs) (d ∷ ds) a b p q h k e =
      let e' : h.0 ++ (h.1 ++ p) ≡ k.0 ++ (k.1 ++ q) =
      sym (append_assoc h.0 h.1 p) ∙ ap (λ s. s ++ p) (sym h.3) ∙ e ∙ ap (λ s. s ++ q) k.3
      ∙ append_assoc k.0 k.1 q in
      let same = same_coding h.0 k.0 (h.1 ++ p) (k.1 ++ q) c d (l.written c _ h.2)
      (l.written d _ k.2) e' in
      let e'' : h.1 ++ p ≡ k.1 ++ q = append_cancel_left h.0 (h.1 ++ p) (k.1 ++ q)
      (e' ∙ ap (λ s. s ++ (k.1 ++ q)) (sym same.0)) in
      elim (fronts cs ds h.1 k.1 p q h.4 k.4 e'') [
        | inl g ↦ inl (g.0, g.1, rw (same.1, g.2) refl, g.3, g.4)
        | inr g ↦ inr (g.0, g.1, rw (same.1, g.2) refl, g.3, g.4)
      ]

  -- an opening has no characters in front
  nothing_more : (es e cs ds h k : List ℕ) → ds ≡ cs ++ es → Spells m es e → h ≡ e ++ k
      → IsOpening m h → (cs ≡ ds) × (h ≡ k)
  nothing_more [] e cs ds h k g p f o = (sym (g ∙ append-nil cs), f ∙ ap (λ t. t ++ k) p)
  nothing_more (c ∷ es) e cs ds h k g p f o =
      absurd (l.opening_bare h o (length p.0) c
      (rw (f, p.3, append_assoc, take-append_seam) (l.written c _ p.2)))

  pub decodes_once : DecodesOnce m
  decodes_once s cs ds h k p q =
      elim (fronts cs ds p.spelt q.spelt h k p.spells q.spells (sym p.parts ∙ q.parts)) [
        | inl g ↦ nothing_more g.0 g.1 cs ds h k g.2 g.3 g.4 p.opens
        | inr g ↦ let n = nothing_more g.0 g.1 ds cs k h g.2 g.3 g.4 q.opens in (sym n.0, sym n.1)
      ]
