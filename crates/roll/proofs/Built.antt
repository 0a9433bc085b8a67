-- The pages that a builder holds.
use Rattle.std.proofs.Common.{◌≡◌, ℕ, ◌+◌, ◌≤◌, List, [], ◌∷◌, ◌++◌}
use Rattle.std.proofs.Common.{length, take, drop, sum_by, refl, sym, ap, subst, append_assoc}
use Rattle.std.proofs.Common.{arith}
use Rattle.std.specs.Prelude.{All}
use Rattle.std.proofs.lemmas.List.Elements.{All-nil, All-cons, All-head, All-tail}
use Rattle.std.proofs.lemmas.Grind.{common_steps}
use Rattle.std.proofs.lemmas.List.{take-append-drop, take-append-le, drop-append-le}
use Rattle.roll.specs.declared.TheConstants.{LAST_FORM}
use Rattle.roll.specs.declared.builder.NewEntry.{NewEntry}
use Rattle.roll.specs.Packed.{PackedPage, pages_joined, index_from, trailer_of, packed}
use Rattle.roll.specs.Packed.{FitsRoll}
use Rattle.roll.specs.Built.{pages_in, index_of, IsBuilt}

abbrev AddUp : List NewEntry → List ℕ → Type 0
AddUp es bs = sum_by (λ e. e.size) es ≡ length bs

rest_adds_up : (e : NewEntry) (es : List NewEntry) (bs : List ℕ) → AddUp (e ∷ es) bs
    → AddUp es (drop e.size bs)
rest_adds_up e es bs h = grind (arith, common_steps)

first_fits : (e : NewEntry) (es : List NewEntry) (bs : List ℕ) → AddUp (e ∷ es) bs
    → e.size ≤ length bs
first_fits e es bs h = grind (arith, common_steps)

pub length-pages_in : (es : List NewEntry) (bs : List ℕ) → length (pages_in es bs) ≡ length es
length-pages_in [] bs = grind (arith, common_steps)
length-pages_in (e ∷ es) bs = grind (arith, common_steps, length-pages_in es (drop e.size bs))

pub pages_joined-pages_in : (es : List NewEntry) (bs : List ℕ) → AddUp es bs
    → pages_joined (pages_in es bs) ≡ bs
pages_joined-pages_in [] bs h = grind (arith, common_steps)
pages_joined-pages_in (e ∷ es) bs h =
    rw (pages_joined-pages_in es (drop e.size bs) (rest_adds_up e es bs h))
    (take-append-drop e.size bs)

pub pages_in_push : (es : List NewEntry) (bs : List ℕ) (e : NewEntry) (page : List ℕ)
    → AddUp es bs
    → e.size ≡ length page → pages_in (es ++ e ∷ []) (bs ++ page) ≡ pages_in es bs
    ++ record { form = e.form; bytes = page } ∷ []
pages_in_push [] bs e page h k =
    let t : take e.size (bs ++ page) ≡ page = grind (arith, common_steps) in
    ap (λ z. record { form = e.form; bytes = z } ∷ []) t
pages_in_push (x ∷ es) bs e page h k =
    let f = first_fits x es bs h in
    rw (take-append-le x.size bs page f, drop-append-le x.size bs page f)
    (ap (λ z. record { form = x.form; bytes = take x.size bs } ∷ z)
    (pages_in_push es (drop x.size bs) e page (rest_adds_up x es bs h) k))

pub index_from-pages_in : (o : ℕ) (es : List NewEntry) (bs : List ℕ) → AddUp es bs
    → index_from o (pages_in es bs) ≡ index_of o es
index_from-pages_in o [] bs h = grind (arith, common_steps)
index_from-pages_in o (e ∷ es) bs h =
    let t : length (take e.size bs) ≡ e.size = grind (arith, common_steps, first_fits e es bs h)
    in
    rw (t, index_from-pages_in (o + e.size) es (drop e.size bs) (rest_adds_up e es bs h)) refl

pub packed-pages_in : (es : List NewEntry) (bs : List ℕ) → AddUp es bs
    → packed (pages_in es bs) ≡ (bs ++ index_of 0 es) ++ trailer_of (length bs) (length es)
packed-pages_in es bs h =
    rw (pages_joined-pages_in es bs h, index_from-pages_in 0 es bs h, length-pages_in es bs)
    (sym (append_assoc bs (index_of 0 es) (trailer_of (length bs) (length es))))

forms-pages_in : (es : List NewEntry) (bs : List ℕ) → All (λ e. e.form ≤ LAST_FORM) es
    → All (λ p. p.form ≤ LAST_FORM) (pages_in es bs)
forms-pages_in [] bs h = All-nil (λ p. p.form ≤ LAST_FORM)
forms-pages_in (e ∷ es) bs h =
    All-cons (λ p. p.form ≤ LAST_FORM) _ _ (All-head (λ x. x.form ≤ LAST_FORM) e es h)
    (forms-pages_in es (drop e.size bs) (All-tail (λ x. x.form ≤ LAST_FORM) e es h))

-- a roll can hold the pages that a builder holds
pub fits_roll : (es : List NewEntry) (bs : List ℕ) (ps : List PackedPage) → IsBuilt es bs
    → pages_in es bs ≡ ps → FitsRoll ps
fits_roll es bs ps h e =
    subst FitsRoll e (record {
      few = omega (arith, length-pages_in es bs, h.few);
      short = rw (pages_joined-pages_in es bs h.adds_up, length-pages_in es bs) h.short;
      forms = forms-pages_in es bs h.forms;
    })

pub ruleset the_pages = (length-pages_in, pages_joined-pages_in, index_from-pages_in, fits_roll)
