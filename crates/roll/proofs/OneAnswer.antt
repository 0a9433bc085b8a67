-- Bytes have one answer, since each refusal says which rules hold and which does not.
use Rattle.std.proofs.Common.{◌≡◌, ℕ, zero, suc, List, refl, ap, arith}
use Rattle.std.proofs.Common.{inl, inr}
use Rattle.std.proofs.lemmas.Bool.{cases_order}
use Rattle.roll.specs.declared.refusal.RefusalTold.{RefusalTold}
use Rattle.roll.specs.declared.refusal.RollRefusal.TheVariants.{BadEntry}
use Rattle.roll.specs.Format.{NoPagesNoBytes, EntriesHold}
use Rattle.roll.specs.Told.{refusal_told}
use Rattle.roll.specs.Opened.{FirstBad, Refuses, Accepted, OneAnswer}
use Rattle.roll.specs.Opened.Refuses.{wrong_size, no_mark, wrong_index, bad_entry, wrong_total}

module _ (b : List ℕ) where
  -- an entry that breaks a rule is not one of entries that keep the rules
  bad_here : (k : ℕ) → FirstBad b k → NoPagesNoBytes b → ¬ EntriesHold b
  bad_here zero h none all = h.1 (none h.0)
  bad_here (suc k) h none all = absurd (cc (all k h.0))

  first_bad_one : (k n : ℕ) → FirstBad b k → FirstBad b n → k ≡ n
  first_bad_one zero zero h i = refl
  first_bad_one zero (suc n) h i = absurd (omega (arith, h.0, i.0))
  first_bad_one (suc k) zero h i = absurd (omega (arith, h.0, i.0))
  first_bad_one (suc k) (suc n) h i =
      elim (cases_order k n) [
        | inl same ↦ ap suc same
        | inr (inl less) ↦ absurd (cc (h.2, i.1 k less))
        | inr (inr more) ↦ absurd (cc (i.2, h.1 n more))
      ]

  one_refusal : (t u : RefusalTold) → Refuses b t → Refuses b u → t ≡ u
  one_refusal _ _ (wrong_size _) (wrong_size _) = refl
  one_refusal _ _ (wrong_size broken) (no_mark held _) = absurd (broken held)
  one_refusal _ _ (wrong_size broken) (wrong_index held _ _) = absurd (broken held)
  one_refusal _ _ (wrong_size broken) (bad_entry _ held _ _ _) = absurd (broken held)
  one_refusal _ _ (wrong_size broken) (wrong_total held _ _ _ _ _) = absurd (broken held)
  one_refusal _ _ (no_mark held _) (wrong_size broken) = absurd (broken held)
  one_refusal _ _ (no_mark _ _) (no_mark _ _) = refl
  one_refusal _ _ (no_mark _ broken) (wrong_index _ held _) = absurd (broken held)
  one_refusal _ _ (no_mark _ broken) (bad_entry _ _ held _ _) = absurd (broken held)
  one_refusal _ _ (no_mark _ broken) (wrong_total _ held _ _ _ _) = absurd (broken held)
  one_refusal _ _ (wrong_index held _ _) (wrong_size broken) = absurd (broken held)
  one_refusal _ _ (wrong_index _ held _) (no_mark _ broken) = absurd (broken held)
  one_refusal _ _ (wrong_index _ _ _) (wrong_index _ _ _) = refl
  one_refusal _ _ (wrong_index _ _ broken) (bad_entry _ _ _ held _) = absurd (broken held)
  one_refusal _ _ (wrong_index _ _ broken) (wrong_total _ _ held _ _ _) = absurd (broken held)
  one_refusal _ _ (bad_entry _ held _ _ _) (wrong_size broken) = absurd (broken held)
  one_refusal _ _ (bad_entry _ _ held _ _) (no_mark _ broken) = absurd (broken held)
  one_refusal _ _ (bad_entry _ _ _ held _) (wrong_index _ _ broken) = absurd (broken held)
  one_refusal _ _ (bad_entry k _ _ _ h) (bad_entry n _ _ _ i) =
      ap (λ m. refusal_told (BadEntry m)) (first_bad_one k n h i)
  one_refusal _ _ (bad_entry k _ _ _ h) (wrong_total _ _ _ none all _) =
      absurd (bad_here k h none all)
  one_refusal _ _ (wrong_total held _ _ _ _ _) (wrong_size broken) = absurd (broken held)
  one_refusal _ _ (wrong_total _ held _ _ _ _) (no_mark _ broken) = absurd (broken held)
  one_refusal _ _ (wrong_total _ _ held _ _ _) (wrong_index _ _ broken) = absurd (broken held)
  one_refusal _ _ (wrong_total _ _ _ none all _) (bad_entry k _ _ _ h) =
      absurd (bad_here k h none all)
  one_refusal _ _ (wrong_total _ _ _ _ _ _) (wrong_total _ _ _ _ _ _) = refl

  not_both : (t : RefusalTold) → Refuses b t → ¬ Accepted b
  not_both _ (wrong_size n) a = n a.sized
  not_both _ (no_mark s n) a = n a.marked
  not_both _ (wrong_index s m n) a = n a.indexed
  not_both _ (bad_entry k s m i h) a = bad_here k h a.no_pages_no_bytes a.entries
  not_both _ (wrong_total s m i none all n) a = n a.totalled

pub one_answer : (b : List ℕ) → OneAnswer b
one_answer b = record { one_refusal = one_refusal b; not_both = not_both b }
