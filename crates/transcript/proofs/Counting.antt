-- A run of characters as the work of an offer.
use Rattle.std.proofs.Common.{◌≡◌, ℕ, ◌*◌, ◌≤◌, List, [], ◌∷◌, ◌++◌}
use Rattle.std.proofs.Common.{length, drop, None, Ok, sym, refl, ap, ◌∙◌, subst, arith}
use Rattle.std.proofs.Common.{length-append}
use lib.Seq.{drop-append_seam}
use Rattle.std.proofs.lemmas.Bool.Decides.{nat_tests}
use Rattle.charset.specs.Meaning.{Meaning, Laws}
use Rattle.charset.specs.Decoding.{Spells}
use Rattle.conversion.specs.declared.Pause.TheVariants as pause
use Rattle.conversion.specs.declared.Run.{Run}
use Rattle.conversion.specs.Stops.{End, Stops}
use Rattle.conversion.specs.Runs.{Runs}
use Rattle.transcript.specs.Calls.{Snapshot, OfferAnswer, limits, Worked, OfferedIf}
use Rattle.transcript.specs.Snapshots.{Possible, Settles}

-- a character has one to four bytes
pub spelt_size : {m : Meaning} → Laws m → (cs s : List ℕ) → Spells m cs s
    → (length cs ≤ length s) × (length s ≤ 4 * length cs)
spelt_size l [] s p = rw p (omega arith, omega arith)
spelt_size l (c ∷ cs) s p =
    let one = l.sized p.0 c (l.written c p.0 p.2) in
    let more = spelt_size l cs p.1 p.4 in
    let size = ap length p.3 ∙ length-append p.0 p.1 in
    (omega (arith, one.0, more.0, size), omega (arith, one.1, more.1, size))

module _ (S T : Meaning) (l : Laws S) (k : Laws T) (s : Snapshot) (sector out after : List ℕ)
    (run : Run) (end : End) (h : Runs S T (s.held ++ sector) out after run end) where
  rest_is : drop run.read (s.held ++ sector) ≡ h.reaches.rest
  rest_is = rw (h.read, h.reaches.leads.begins) (drop-append_seam h.source h.reaches.rest)

  opening_short : (e : End) → e ≡ Ok pause.Open → (rest : List ℕ) (used room : ℕ)
      → Stops S T rest used room e → length rest ≤ 3
  opening_short e f rest used room st = l.opening_sized rest (subst (Stops S T rest used room) f st)

  pub possible : limits s.taken sector out ≡ None → Possible s sector run end
  possible e =
      let from = spelt_size l h.chars h.source h.reaches.leads.from in
      let into = spelt_size k h.chars h.target h.reaches.leads.into in
      let c = h.characters in let r = h.read in let w = h.written in
      let whole = sym (length-append s.held sector) ∙ ap length h.reaches.leads.begins
      ∙ length-append h.source h.reaches.rest in
      record {
        within = omega arith;
        one_byte_each = omega (arith, from.0);
        four_bytes_each = omega (arith, from.1);
        one_written_each = omega (arith, into.0);
        four_written_each = omega (arith, into.1);
        opening =
            λ o. rw rest_is (opening_short end o h.reaches.rest (length h.target) (length out)
            h.reaches.stops);
        limit = grind (arith, nat_tests);
      }

  worked : (r : OfferAnswer) (t : Snapshot) → Settles s sector run end r t
      → Worked S T s sector out r after t
  worked r t st =
      let done = st.by_lists h.chars h.source h.target h.characters h.read h.written in
      record {
        chars = h.chars;
        source = h.source;
        target = h.target;
        end = end;
        reaches = h.reaches;
        answer = done.0;
        left = h.left;
        next = done.1 ∙ rw rest_is refl;
      }

  pub offered_open : limits s.taken sector out ≡ None → (r : OfferAnswer) (t : Snapshot)
      → Settles s sector run end r t
      → OfferedIf (limits s.taken sector out) S T s sector out r after t
  offered_open e r t st =
      subst (λ o. OfferedIf o S T s sector out r after t) (sym e) (worked r t st)
