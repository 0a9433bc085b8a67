use Rattle.std.proofs.Common.{◌≡◌, ℕ, ◌<◌, ◌≤◌, min, List, ◌++◌, length}
use Rattle.std.proofs.Common.{take, Ok, Err, Result, vec_items, sym, refl, ap, ◌∙◌, subst}
use Rattle.std.proofs.Common.{subst₂, rules}
use Rattle.std.specs.Result.{MatchResult, IsErrAnd}
use Rattle.std.specs.Slice.Iter.{chunks_rest}
use Rattle.std.proofs.lemmas.List.{nil_from_length}
use Rattle.std.proofs.lemmas.Result.{err_from_is_err_and, MatchResult-weaker}
use Rattle.charset.specs.Meaning.{Meaning, Laws}
use Rattle.charset.specs.Sets.{set_of}
use Rattle.transcript.specs.declared.answers.Done.{Done}
use Rattle.transcript.specs.declared.answers.FaultAt.{FaultAt}
use Rattle.transcript.specs.declared.answers.Refusal.{Refusal}
use Rattle.transcript.specs.declared.answers.Refusal.TheVariants.{Faulted}
use Rattle.transcript.specs.declared.transcription.Failure.{Failure}
use Rattle.transcript.specs.declared.transcription.Failure.TheVariants as failure
use Rattle.transcript.specs.Calls.{Snapshot, OfferAnswer}
use Rattle.transcript.specs.Snapshots.{snapshot}
use Rattle.transcript.specs.Uses.{offer, close, Step}
use Rattle.transcript.proofs.Along.{Along, along_none}
use Rattle.transcript.specs.Carried.{Outcome, refused_by, Transcribes}
use Rattle.transcript.proofs.Sectors.{ComesTo, comes_to}
use Rattle.transcript.proofs.Ending.{Promised, after_fault, after_closing}
use Rattle.transcript.proofs.transcription.offer_all.Given.{Over}
use Rattle.transcript.proofs.transcription.offer_all.Goals as goal
use Rattle.transcript.proofs.transcription.offer_all.Goals.{After-offer, After-close}

-- what is left of an answer where its fault is taken out of its refusal
mapped : {X : Type 0} {L : Refusal → FaultAt → Type 0} (a : Result X Refusal)
    (r : Result X FaultAt) → MatchResult a (λ x. r ≡ Ok x) (λ q. IsErrAnd r (L q))
    → ((q : Refusal) (f : FaultAt) → L q f → q ≡ Faulted f) → a ≡ refused_by r
mapped (Ok x) r h k = rw h refl
mapped (Err q) r h k =
    let f = err_from_is_err_and r h in ap Err (k q f.0 f.2) ∙ sym (ap refused_by f.1)

only_faulted : {X : Type 0} (r : Result X Refusal) (m : Result X FaultAt) (q : Refusal)
    → r ≡ refused_by m → r ≡ Err q → (f : FaultAt) × (q ≡ Faulted f)
only_faulted r (Ok x) q e h = cc
only_faulted r (Err f) q e h = (f, cc)

one_answer : {X : Type 0} (m n : Result X FaultAt) → refused_by m ≡ refused_by n → m ≡ n
one_answer (Ok x) (Ok y) e = cc
one_answer (Ok x) (Err g) e = cc
one_answer (Err f) (Ok y) e = cc
one_answer (Err f) (Err g) e = let same : f ≡ g = cc in ap Err same

-- what an offer did, by its answer
abbrev done_in : Result Done FaultAt → Done
done_in (Ok d) = d
done_in (Err f) = f.done

unwrapped : (m n : Result Done FaultAt) (d : Done)
    → MatchResult m (λ x. d ≡ x) (λ f. d ≡ f.done) → m ≡ n → d ≡ done_in n
unwrapped (Ok x) n d h e = h ∙ ap done_in e
unwrapped (Err f) n d h e = h ∙ ap done_in e

-- an outcome as the answer that tells it
abbrev answer_of : Outcome → Result (Unit {0}) Failure
answer_of (Ok u) = Ok u
answer_of (Err f) = Err (failure.Faulted f)

answered : (S T : Meaning) (bytes text : List ℕ) (n : ℕ) (o : Outcome)
    {r : Result (Unit {0}) Failure} → r ≡ answer_of o → Promised S T bytes text n o
    → Transcribes S T bytes text n r
answered S T bytes text n (Ok u) e h =
    rw e (record { the_transcription = h.0; carried_out = h.1 })
answered S T bytes text n (Err f) e h =
    rw e (record { the_transcription = h.0; carried_out = h.1 })

-- what the offer of a sector comes to, at the sets that the transcript had at first
comes : {A B : Type 0} (f : A → Meaning) (h : B → Meaning) {x x' : A} {y y' : B} → Laws (f x')
    → Laws (h y') → (bytes text rest sector more : List ℕ) (s t : Snapshot)
    (out after : List ℕ) (r : OfferAnswer) → x ≡ x' → y ≡ y'
    → Along (f x') (h y') bytes text rest s → rest ≡ sector ++ more
    → length sector ≡ min 4096 (length rest) → 0 < length rest → length bytes ≤ 4294967296
    → length out ≡ 16396 → Step (f x) (h y) s (offer sector out r after) t
    → (m : Result Done FaultAt) × (r ≡ refused_by m)
    × ComesTo (f x') (h y') bytes text after more t m
comes f h l k bytes text rest sector more s t out after r p q along parts size some small room st =
    comes_to (f _) (h _) l k bytes text rest s t sector more out after along parts size some room
    small r
    (subst₂ (λ x y. Step (f x) (h y) s (offer sector out r after) t) p q st)

abbrev Comes : (g : Over) → After-offer g → Result Done FaultAt → Type 0
Comes g c m =
    ComesTo (set_of g.S.CharacterSet c.args.transcript.now.converter.sets.source)
    (set_of g.T.CharacterSet c.args.transcript.now.converter.sets.target)
    c.args.bytes.now (vec_items c.loop-sector.text) c.offer.new.output (chunks_rest c.next.new.self)
    (snapshot c.offer.new.self.progress) m

at_offer : (g : Over) (c : After-offer g)
    → (m : Result Done FaultAt) × (c.offer.result ≡ refused_by m) × Comes g c m
at_offer g c =
    let m = g.S.CharacterSet in let n = g.T.CharacterSet in
    let sets = c.args.transcript.now.converter.sets in
    let i = c.loop-sector.invariant in
    let steps = c.in-Some.ensures.steps in
    comes (λ x. set_of m x) (λ y. set_of n y)
    (g.met.S.CharacterSet.lawful sets.source)
    (g.met.T.CharacterSet.lawful sets.target)
    c.args.bytes.now (vec_items c.loop-sector.text) _ c.in-Some.sector.now
    (chunks_rest c.next.new.self) (snapshot c.loop-sector.transcript.progress)
    (snapshot c.offer.new.self.progress) c.loop-sector.output c.offer.new.output
    c.offer.result i.3 i.4 i.6 steps.1.0
    (steps.1.1 ∙ ap (λ n. min n (length (chunks_rest c.loop-sector.sector-iterator))) i.2)
    steps.1.2 c.requires.short i.5 c.offer.ensures.step

-- the same, as the answer with its fault taken out says
comes_out : (g : Over) (c : After-offer g) (r k : Result Done FaultAt)
    → c.offer.result ≡ refused_by r → r ≡ k → Comes g c k
comes_out g c r k e f =
    let w = at_offer g c in subst (Comes g c) (one_answer w.0 r (sym w.1 ∙ e) ∙ f) w.2

-- what the closing comes to
closes_to : (g : Over) (c : After-close g) (o : Outcome) → c.close.result ≡ refused_by o
    → Promised (set_of g.S.CharacterSet c.args.transcript.now.converter.sets.source)
    (set_of g.T.CharacterSet c.args.transcript.now.converter.sets.target)
    c.args.bytes.now (vec_items c.loop-sector.text) c.close.new.self.progress.characters o
closes_to g c o e =
    let m = g.S.CharacterSet in let n = g.T.CharacterSet in
    let sets = c.args.transcript.now.converter.sets in
    let i = c.loop-sector.invariant in
    after_closing (set_of m sets.source) (set_of n sets.target)
    (g.met.S.CharacterSet.lawful sets.source) c.args.bytes.now (vec_items c.loop-sector.text)
    (chunks_rest c.loop-sector.sector-iterator) (snapshot c.loop-sector.transcript.progress) i.6
    (nil_from_length _ c.in-None.ensures.steps.1.0) (snapshot c.close.new.self.progress)
    c.close.result o
    (subst₂ (λ x y. Step (set_of m x) (set_of n y) (snapshot c.loop-sector.transcript.progress)
    (close c.close.result) (snapshot c.close.new.self.progress)) i.3 i.4 c.close.ensures.step) e

pub loop-sector-init : goal.loop-sector-init
loop-sector-init g c =
    let it : chunks_rest c.into_iter-sector-iterator.result ≡ c.args.bytes.now = search rules in (
      search rules,
      tt,
      search rules,
      refl,
      refl,
      refl,
      rw (c.requires.no_text, it) (along_none _ _ _ _ c.requires.fresh),
    )

pub map_err-offered-requires : goal.map_err-offered-requires
map_err-offered-requires g c =
    let w = at_offer g (goal.at.map_err-offered-requires g c).After-offer in
    λ e h. only_faulted c.offer.result w.0 e w.1 h

pub loop-sector-preserved : goal.loop-sector-preserved
loop-sector-preserved g c =
    let i = c.loop-sector.invariant in
    let sets = c.offer.ensures.same_sets in
    let answer : Result Done FaultAt = Ok c.in_ok-offered.field-0 in
    let did : c.unwrap_or_else-written.result ≡ c.in_ok-offered.field-0 =
    unwrapped c.map_err-offered.result answer c.unwrap_or_else-written.result
    (MatchResult-weaker c.map_err-offered.result c.unwrap_or_else-written.ensures
    (λ x p. search rules) (λ f p. search rules)) c.in_ok-offered.was in
    let longer : vec_items c.extend_from_slice.new.self ≡ vec_items c.loop-sector.text
    ++ take c.in_ok-offered.field-0.written c.offer.new.output =
    c.in_ok-extend_from_slice.ensures.items
    ∙ ap (λ d. vec_items c.loop-sector.text ++ take d.written c.offer.new.output) did in
    let all = comes_out g (goal.at.loop-sector-preserved g c).After-offer c.map_err-offered.result
    answer (mapped c.offer.result c.map_err-offered.result c.map_err-offered.ensures.cases
    (λ q f p. p)) c.in_ok-offered.was in (
      search rules,
      tt,
      c.in-Some.ensures.steps.0 ∙ i.2,
      sets.source ∙ i.3,
      sets.target ∙ i.4,
      search rules,
      rw longer all,
    )

pub returns-in_err-offered-clause-transcribed : goal.returns-in_err-offered-clause-transcribed
returns-in_err-offered-clause-transcribed g c =
    let f = c.in_err-offered.field-0.0 in
    let sets = c.args.transcript.now.converter.sets in
    let answer : Result Done FaultAt = Err f in
    let did : c.unwrap_or_else-written.result ≡ f.done =
    unwrapped c.map_err-offered.result answer c.unwrap_or_else-written.result
    (MatchResult-weaker c.map_err-offered.result c.unwrap_or_else-written.ensures
    (λ x p. search rules) (λ f p. search rules)) c.in_err-offered.was in
    let longer : vec_items c.extend_from_slice.new.self ≡ vec_items c.loop-sector.text
    ++ take f.done.written c.offer.new.output =
    c.in_ok-extend_from_slice.ensures.items
    ∙ ap (λ d. vec_items c.loop-sector.text ++ take d.written c.offer.new.output) did in
    let stopped = comes_out g
    (goal.at.returns-in_err-offered-clause-transcribed g c).After-offer c.map_err-offered.result
    answer (mapped c.offer.result c.map_err-offered.result c.map_err-offered.ensures.cases
    (λ q f p. p)) c.in_err-offered.was in
    answered (set_of g.S.CharacterSet sets.source) (set_of g.T.CharacterSet sets.target)
    c.args.bytes.now _ _ (Err f) (search rules)
    (after_fault _ _ (g.met.S.CharacterSet.lawful sets.source) c.args.bytes.now
    (vec_items c.extend_from_slice.new.self) f (snapshot c.offer.new.self.progress)
    (rw longer stopped))

pub returns-in_err-map_err-clause-transcribed : goal.returns-in_err-map_err-clause-transcribed
returns-in_err-map_err-clause-transcribed g c =
    let sets = c.args.transcript.now.converter.sets in
    let outcome : Outcome = Err c.in_err-map_err.field-0.0 in
    answered (set_of g.S.CharacterSet sets.source) (set_of g.T.CharacterSet sets.target)
    c.args.bytes.now _ _ outcome (search rules)
    (closes_to g (goal.at.returns-in_err-map_err-clause-transcribed g c).After-close outcome
    (mapped c.close.result c.map_err.result c.map_err.ensures.cases (λ q f p. p)
    ∙ ap refused_by c.in_err-map_err.was))

pub returns-clause-transcribed : goal.returns-clause-transcribed
returns-clause-transcribed g c =
    let sets = c.args.transcript.now.converter.sets in
    let outcome : Outcome = Ok tt in
    answered (set_of g.S.CharacterSet sets.source) (set_of g.T.CharacterSet sets.target)
    c.args.bytes.now _ _ outcome refl
    (closes_to g (goal.at.returns-clause-transcribed g c).After-close outcome
    (mapped c.close.result c.map_err.result c.map_err.ensures.cases (λ q f p. p)
    ∙ ap refused_by c.in_ok-map_err.was))
