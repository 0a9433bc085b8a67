-- A string in four places with more bytes behind, and the front of a string that begins among held
-- bytes.
use Rattle.std.proofs.Common.{◌≡◌, ℕ, ◌+◌, ◌-◌, ◌≤◌, List, ◌++◌, length}
use Rattle.std.proofs.Common.{take, drop, replicate, sym, ap, ◌∙◌, arith, length-drop}
use Rattle.std.proofs.Common.{length-take-le, drop-drop, min, inl, inr}
use borrow.Rule.Slice.PartMut.{put_mid, same_len_mid}
use Rattle.std.proofs.lemmas.Slice.{take-put_mid, drop-put_mid}
use lib.Seq.{take-append-add, drop-append-le, drop-append-add}
use Rattle.std.proofs.lemmas.List.{drop-replicate, take_min, drop_min, drop_all, take_rest}
use Rattle.std.proofs.lemmas.List.{take_all}
use Rattle.std.proofs.lemmas.Bool.{cases_lt}
use Rattle.charset.specs.Padding.{Padded}

module _ (places m : List ℕ) (n j k : ℕ) (h : Padded places n) (size : length m ≡ k)
    (part : j ≡ k) (fits : n + k ≤ 4) where
  pub view_more : take (n + k) (put_mid n j places m) ≡ take n places ++ m
  view_more = take-put_mid n j places m (n + k) (omega arith) (omega (arith, h.four))

  pub padded_more : Padded (put_mid n j places m) (n + k)
  padded_more = record {
    few = fits;
    four =
        same_len_mid n j places m (size ∙ sym part ∙ sym
        (length-take-le j (drop n places) (omega (arith, h.four, length-drop n places))))
        ∙ h.four;
    zeros =
        drop-put_mid n j places m (n + k) (omega arith) (omega (arith, h.four)) (size ∙ sym part)
        ∙ sym (drop-drop k n places) ∙ ap (drop k) h.zeros ∙ drop-replicate k (4 - n) 0
        ∙ ap (λ z. replicate z 0) (omega arith);
  }

-- four bytes of a string and more
pub four : (s more : List ℕ) → length s ≤ 4
    → take 4 (s ++ more) ≡ s ++ take (4 - length s) more
four s more h =
    let e : length s + (4 - length s) ≡ 4 = omega arith in
    ap (λ n. take n (s ++ more)) (sym e) ∙ take-append-add s more (4 - length s)

-- as many bytes more as four places have room for
pub four_of : (s more : List ℕ) (n k : ℕ) → length s ≡ n → n ≤ 4
    → k ≡ min (4 - n) (length more) → s ++ take k more ≡ take 4 (s ++ more)
four_of s more n k size few least =
    rw (least, take_min (4 - n) more, ← size) (sym (four s more (omega arith)))

-- from a place behind the first of two strings on
pub drop_behind : (s more : List ℕ) (at : ℕ) → length s ≤ at
    → drop at (s ++ more) ≡ drop (at - length s) more
drop_behind s more at h =
    let e : length s + (at - length s) ≡ at = omega arith in
    ap (λ n. drop n (s ++ more)) (sym e) ∙ drop-append-add s more (at - length s)

-- from a place on in two strings
drop_both : (s more : List ℕ) (at n : ℕ) → n ≡ min at (length s)
    → drop at (s ++ more) ≡ drop n s ++ drop (at - n) more
drop_both s more at n least = elim (cases_lt at (length s)) [
  | inl g ↦ let e : n ≡ at =
      omega arith in let z : at - n ≡ 0 = omega arith in
      rw (z, e) (drop-append-le at s more (omega arith))
  | inr g ↦ let e : n ≡ length s =
      omega arith in rw (e, drop_all (length s) s (omega arith)) (drop_behind s more at g)
]

pub window : (s more : List ℕ) (at n k : ℕ) → length s ≤ 4 → n ≡ min at (length s)
    → k ≡ min (at - n) (length more)
    → take 4 (take 4 (take (length s - n) (drop n s)) ++ take (length more - k) (drop k more)) ≡
    take 4 (drop at (s ++ more))
window s more at n k few start behind =
    ap (λ z. take 4 (take 4 z ++ take (length more - k) (drop k more))) (take_rest s n)
    ∙ ap (λ z. take 4 (z ++ take (length more - k) (drop k more)))
    (take_all 4 (drop n s) (rw (length-drop n s) (omega arith)))
    ∙ ap (λ z. take 4 (drop n s ++ z))
    (take_rest more k ∙ ap (λ z. drop z more) behind ∙ drop_min (at - n) more)
    ∙ ap (take 4) (sym (drop_both s more at n start))
