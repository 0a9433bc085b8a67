-- An offer tells of an end exactly when characters that fit lead to it, and a closing is accepted
-- exactly when nothing is held.
use Rattle.std.proofs.Common.{◌≡◌, ◌≢◌, ◌↔◌, ℕ, ◌+◌, ◌-◌, List, []}
use Rattle.std.proofs.Common.{◌∷◌, ◌++◌, length, take, None, Ok, Err, inl, inr, refl}
use Rattle.std.proofs.Common.{sym, ap, ◌∙◌, subst, arith, length-append}
use lib.Seq.{take-append_seam}
use Rattle.charset.specs.Meaning.{Meaning, IsOpening, Laws}
use Rattle.conversion.specs.declared.Fault.TheVariants.{Unread, Unwritten, Unfinished}
use Rattle.conversion.specs.declared.Pause.TheVariants as pause
use Rattle.conversion.specs.Stops.{End, Leads, Stops, Reaches}
use Rattle.conversion.proofs.Leading.{one_end}
use Rattle.transcript.specs.declared.answers.State.{State}
use Rattle.transcript.specs.declared.answers.State.TheVariants.{Open, Faulted, Closed}
use Rattle.transcript.specs.Calls.{Snapshot, OfferAnswer, refused, takes, unless_any, holds}
use Rattle.transcript.specs.Calls.{answers, state_after, offset_of, Worked, OfferedIf, ClosedOn}
use Rattle.transcript.specs.Uses.{took, wrote}
use Rattle.transcript.specs.Law.{told_of, LeadsTo, TellsOf, LeavesState, TakesAndWritesJust}
use Rattle.transcript.specs.Law.{StopsAt, ComesTo, TellsExactly, OffersExactly, ClosesExactly}
use Rattle.transcript.proofs.Keeping.{answer_took, source_longer, taken_part, stands}

-- the end that a number tells of
at_seven : (k : End) (o n w : ℕ) → (told_of (answers k o n w)).number ≡ 7
    → k ≡ Err (Unwritten (told_of (answers k o n w)).character
    (record {
      cause = (told_of (answers k o n w)).cause;
      depth =
          (told_of (answers k o n w)).depth;
    }))
at_seven (Ok pause.Open) o n w e = cc
at_seven (Ok pause.Full) o n w e = cc
at_seven (Err (Unread q)) o n w e = cc
at_seven (Err (Unwritten c q)) o n w e = refl
at_seven (Err Unfinished) o n w e = cc

at_six : (k : End) (o n w : ℕ) → (told_of (answers k o n w)).number ≡ 6
    → k ≡ Err (Unread
    (record {
      cause = (told_of (answers k o n w)).cause;
      depth =
          (told_of (answers k o n w)).depth;
    }))
at_six (Ok pause.Open) o n w e = cc
at_six (Ok pause.Full) o n w e = cc
at_six (Err (Unread q)) o n w e = refl
at_six (Err (Unwritten c q)) o n w e = cc
at_six (Err Unfinished) o n w e = cc

at_eight : (k : End) (o n w : ℕ) → (told_of (answers k o n w)).number ≡ 8
    → k ≡ Ok pause.Full
at_eight (Ok pause.Open) o n w e = cc
at_eight (Ok pause.Full) o n w e = refl
at_eight (Err (Unread q)) o n w e = cc
at_eight (Err (Unwritten c q)) o n w e = cc
at_eight (Err Unfinished) o n w e = cc

unless_none : (chars held : List ℕ) → chars ≡ [] → unless_any chars held ≡ held
unless_none [] held e = refl
unless_none (c ∷ cs) held e = cc

unless_some : (chars held : List ℕ) → chars ≢ [] → unless_any chars held ≡ []
unless_some [] held e = absurd (e refl)
unless_some (c ∷ cs) held e = refl

module _ (S T : Meaning) (l : Laws S) where
  takes_all : (k : End) (o n w used room : ℕ) (held sector source rest : List ℕ)
      → Stops S T rest used room k → ((told_of (answers k o n w)).number ≡ 6 → ⊥)
      → ((told_of (answers k o n w)).number ≡ 7 → ⊥)
      → ((told_of (answers k o n w)).number ≡ 8 → ⊥)
      → ((told_of (answers k o n w)).number ≡ 0)
      × (takes k held sector source ≡ length sector)
  takes_all (Ok pause.Open) o n w used room held sector source rest st a b c = (refl, refl)
  takes_all (Ok pause.Full) o n w used room held sector source rest st a b c = absurd (c refl)
  takes_all (Err (Unread q)) o n w used room held sector source rest st a b c = absurd (a refl)
  takes_all (Err (Unwritten x q)) o n w used room held sector source rest st a b c = absurd (b refl)
  takes_all (Err Unfinished) o n w used room held sector source rest st a b c = absurd st

  -- an offer at which characters lead to an end
  module _ (s t : Snapshot) (sector out : List ℕ) (r : OfferAnswer) (after : List ℕ)
      (opens : IsOpening S s.held) where
    -- it takes and writes just these characters
    just : (chars source target rest : List ℕ) (room : ℕ)
        → Leads S T (s.held ++ sector) room chars source target rest
        → took r ≡ length source - length s.held → wrote r ≡ length target
        → take (length target) after ≡ target
        → TakesAndWritesJust S T s sector out r after t chars source target
    just [] source target rest room h a b w =
        let none : took r ≡ 0 = a ∙ rw h.from (omega arith) in
        record {
          takes = inr (refl, none);
          taken_of_sector = omega (arith, none);
          writes = ap (λ n. take n after) b ∙ w;
          written_is = b;
        }
    just (c ∷ cs) source target rest room h a b w =
        let long = source_longer S T l s.held sector cs source rest c opens h.from h.begins in
        let sizes : length s.held + length sector ≡ length source + length rest =
        sym (length-append s.held sector) ∙ ap length h.begins ∙ length-append source rest in
        record {
          takes = inl (ap (λ n. s.held ++ take n sector) a
              ∙ taken_part s.held sector source rest h.begins (omega arith));
          taken_of_sector = omega (arith, a);
          writes = ap (λ n. take n after) b ∙ w;
          written_is = b;
        }

    stops_at : (k : End) (chars source target rest : List ℕ) (room : ℕ)
        → Leads S T (s.held ++ sector) room chars source target rest
        → took r ≡ length source - length s.held → wrote r ≡ length target
        → take (length target) after ≡ target → t.held ≡ unless_any chars s.held
        → TellsOf k (offset_of s source) (told_of r) → LeavesState k r t.state
        → StopsAt S T s sector out r after t k chars source target
    stops_at k chars source target rest room h a b w held tells state = record {
      tells = tells;
      takes_and_writes_just_these = just chars source target rest room h a b w;
      state = state;
      holds_as_before = λ e. held ∙ unless_none chars s.held e;
      holds_nothing = λ e. held ∙ unless_some chars s.held e;
    }

    by_end : (k : End) (chars source target : List ℕ)
        → (h : Reaches S T (s.held ++ sector) (length out) k chars source target)
        → r ≡ answers k (offset_of s source) (takes k s.held sector source) (length target)
        → take (length target) after ≡ target
        → t.state ≡ state_after k (offset_of s source) (takes k s.held sector source)
        (length target)
        → t.held ≡ holds k s.held chars h.rest
        → ComesTo S T s sector out r after t k chars source target
    by_end (Ok pause.Open) chars source target h a w p q =
        rw a (record {
          tells = refl;
          takes_all = refl;
          writes = w;
          written_is = refl;
          state = p;
          holds_the_rest = h.leads.begins ∙ ap (λ z. source ++ z) (sym q);
        })
    by_end (Ok pause.Full) chars source target h a w p q =
        stops_at (Ok pause.Full) chars source target h.rest (length out) h.leads (ap took a)
        (ap wrote a) w q (rw a refl) p
    by_end (Err (Unread x)) chars source target h a w p q =
        stops_at (Err (Unread x)) chars source target h.rest (length out) h.leads (ap took a)
        (ap wrote a) w q (rw a (refl, refl, refl, refl)) (_, refl, a, p)
    by_end (Err (Unwritten c x)) chars source target h a w p q =
        stops_at (Err (Unwritten c x)) chars source target h.rest (length out) h.leads (ap took a)
        (ap wrote a) w q (rw a (refl, refl, refl, refl, refl)) (_, refl, a, p)
    by_end (Err Unfinished) chars source target h a w p q = absurd h.stops

    -- the end and the characters are the only ones
    moved : (j k : End) (cs chars a source b target : List ℕ) → k ≡ j → chars ≡ cs
        → source ≡ a → target ≡ b
        → ComesTo S T s sector out r after t k chars source target
        → ComesTo S T s sector out r after t j cs a b
    moved j k cs chars a source b target e f g i h =
        subst (λ z. ComesTo S T s sector out r after t z cs a b) e
        (subst (λ z. ComesTo S T s sector out r after t k z a b) f
        (subst (λ z. ComesTo S T s sector out r after t k chars z b) g
        (subst (λ z. ComesTo S T s sector out r after t k chars source z) i h)))

    exactly : Worked S T s sector out r after t → TellsExactly S T s sector out r after t
    exactly w =
        let o = offset_of s w.source in
        let n = takes w.end s.held sector w.source in
        let m = length w.target in
        let leads : (k : End) → w.end ≡ k → LeadsTo S T (s.held ++ sector) (length out) k =
        λ k e. (
          w.chars,
          w.source,
          w.target,
          subst (λ j. Reaches S T (s.held ++ sector) (length out) j w.chars w.source w.target) e
              w.reaches,
        ) in
        record {
          seven = λ e. leads _ (rw w.answer (at_seven w.end o n m (rw w.answer at e)));
          six = λ e. leads _ (rw w.answer (at_six w.end o n m (rw w.answer at e)));
          eight = λ e. leads _ (at_eight w.end o n m (rw w.answer at e));
          comes_to = λ j cs a b g.
              let one = one_end S T l (s.held ++ sector) w.chars w.source w.target cs a b
              (length out) w.end j w.reaches g in
              moved j w.end cs w.chars a w.source b w.target one.3 one.0 one.1 one.2
              (by_end w.end w.chars w.source w.target w.reaches w.answer
              (rw w.left (take-append_seam w.target _)) (ap (λ z. z.state) w.next)
              (ap (λ z. z.held) w.next));
          otherwise = λ x.
              let all = takes_all w.end o n m m (length out) s.held sector w.source
              w.reaches.rest w.reaches.stops (rw w.answer at x.not_six)
              (rw w.answer at x.not_seven) (rw w.answer at x.not_eight) in
              (rw w.answer all.0, ap took w.answer ∙ (answer_took w.end o n m).0 ∙ all.1);
        }

  pub offers_exactly : OffersExactly S T
  offers_exactly s sector out r after t made =
      let e : refused s.state s.taken sector out ≡ None = rw made.is_open made.within_limits in
      exactly s t sector out r after (stands S T l made.used).decodes.opens
      (subst (λ o. OfferedIf o S T s sector out r after t) e made.step)

  pub closes_exactly : ClosesExactly S T
  closes_exactly s r made = go s.state s.held refl made.is_open made.step
    where
      go : (q : State) (h : List ℕ) → s.held ≡ h → q ≡ Open
          → ClosedOn q h s r made.after → (r ≡ Ok tt) ↔ (s.held ≡ [])
      go Open [] e q c = (λ _. e, λ _. c.0)
      go Open (b ∷ bs) e q c = (λ k. let x = c.0 in cc, λ k. cc)
      go (Faulted f) h e q c = cc
      go Closed h e q c = cc
