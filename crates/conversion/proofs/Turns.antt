-- One turn of a conversion, on lists.
use Rattle.std.proofs.Common.{◌≡◌, ℕ, ◌+◌, ◌-◌, ◌<◌, ◌≤◌, List, []}
use Rattle.std.proofs.Common.{◌∷◌, ◌++◌, length, take, drop, Ok, Err, sym, refl, ap}
use Rattle.std.proofs.Common.{◌∙◌, append_assoc, append-nil, arith, length-append}
use Rattle.std.proofs.Common.{length-drop, take-append-drop, length-take, length-take-le}
use Rattle.std.proofs.Common.{drop-drop, take_at, take-add, drop_at, slice_index_or, slice_set}
use Rattle.std.proofs.Common.{Some, subst}
use lib.Seq.{take-append-add, drop-append-add}
use mathlib.Core.Path.{subst₃}
use borrow.Rule.Slice.PartMut.{put_mid, post_of, put_same}
use Rattle.std.proofs.lemmas.List.{take_rest, drop_all, drop_more, set_at}
use Rattle.charset.specs.declared.Reading.TheVariants.{Found}
use Rattle.charset.specs.Meaning.{Meaning, Laws}
use Rattle.charset.specs.Answers.{Reads}
use Rattle.conversion.specs.declared.Fault.TheVariants.{Unread, Unwritten, Unfinished}
use Rattle.conversion.specs.declared.Pause.TheVariants as pause
use Rattle.conversion.specs.declared.Advance.TheVariants.{Written}
use Rattle.conversion.specs.Stops.{End, Leads, Stops}
use Rattle.conversion.specs.Advances.{Advances}
use Rattle.conversion.specs.Runs.{Far, ByteForByte, Runs}
use Rattle.conversion.specs.Plain.{plain_byte}
use Rattle.conversion.proofs.Leading.{leads_none, leads_more, leads_on}
use Rattle.conversion.proofs.PlainBytes.{plain_parts}

-- what a write to the end part leaves
put_end : (o last : List ℕ) (put : ℕ) → put ≤ length o
    → put_mid put (length o - put) o last ≡ take put o ++ last
put_end o last put h =
    let e : post_of put (length o - put) o ≡ [] =
    drop_all (length o - put) (drop put o) (simp length-drop (omega arith)) in
    ap (λ z. take put o ++ (last ++ z)) e ∙ ap (λ z. take put o ++ z) (append-nil last)

pub far_none : (S T : Meaning) → Laws S → (input out : List ℕ) → Far S T input out out 0 0 0
far_none S T l input out =
    record {
      chars = [];
      counted = refl;
      few = omega arith;
      inside = omega arith;
      room =
          omega arith;
      leads = leads_none S T l input (length out);
      rest = refl;
      size = refl;
    }

module _ (S T : Meaning) (l : Laws S) (input out o : List ℕ) (count at put : ℕ)
    (far : Far S T input out o count at put) where
  pub found_size : (c n : ℕ) → Reads S (drop at input) (Ok (Found c n))
      → (0 < n) × (at + n ≤ length input)
  found_size c n r =
      let inside = far.inside in (
        omega (arith, l.sized (take n (drop at input)) c r.1, length-take n (drop at input)),
        omega (arith, r.0, length-drop at input),
      )

  -- one more character, written behind what was written
  pub far_on : (o' v : List ℕ) (c n : ℕ) → Reads S (drop at input) (Ok (Found c n))
      → T.codings.string c ≡ Some v → put + length v ≤ length out
      → o' ≡ (take put o ++ v) ++ drop (length v) (drop put o)
      → Far S T input out o' (count + 1) (at + n) (put + length v)
  far_on o' v c n r t room' at_o =
      let inside = far.inside in let same = far.size in let counted = far.counted in let few =
      far.few in let into = far.room in
      let found = found_size c n r in
      let long : length (take put o) ≡ put = length-take-le put o (omega arith) in
      let size' : length (take put o ++ v) ≡ put + length v =
      length-append (take put o) v ∙ rw long in
      let lead = leads_more S T l input far.chars (take at input) (take put o) (drop at input) v
      (length out) c n far.leads r t (rw long room') in
      let taken : take put o ++ v ≡ take (put + length v) o' =
      sym (ap (take (put + length v)) at_o
      ∙ take_at (take put o ++ v) _ (put + length v) size') in
      record {
        chars = far.chars ++ c ∷ [];
        counted = rw (length-append far.chars (c ∷ [])) (omega arith);
        few = omega (arith, found.0);
        inside = found.1;
        room = room';
        leads =
            subst₃ (λ x y z. Leads S T input (length out) (far.chars ++ c ∷ []) x y z)
            (sym (take-add at n input)) taken (drop-drop n at input) lead;
        rest =
            ap (drop (put + length v)) at_o ∙ drop_at (take put o ++ v) _ (put + length v) size'
            ∙ ap (drop (length v)) far.rest ∙ drop-drop (length v) put out;
        size = ap length at_o ∙ rw (length-append, size', length-drop, length-drop) (omega arith);
      }

  pub far_more : (o' last : List ℕ) (n k : ℕ)
      → Advances S T (drop at input) (take (length o - put) (drop put o)) last (Ok (Written n k))
      → o' ≡ put_mid put (length o - put) o last
      → Far S T input out o' (count + 1) (at + n) (put + k)
  far_more o' last n k s o'-is =
      let c = s.0 in let v = s.1 in
      let room' : length v ≤ length o - put = rw (take_rest o put, length-drop) at s.5 in
      let into = far.room in let same = far.size in
      let at_o : o' ≡ (take put o ++ v) ++ drop (length v) (drop put o) =
      o'-is ∙ put_end o last put (omega arith)
      ∙ ap (λ z. take put o ++ z) (s.6 ∙ ap (λ z. v ++ drop (length v) z) (take_rest o put))
      ∙ sym (append_assoc (take put o) v _) in
      subst (λ z. Far S T input out o' (count + 1) (at + n) (put + z)) (sym s.4)
      (far_on o' v c n s.2 s.3 (omega arith) at_o)

  -- one more byte that stands alone in both sets
  pub far_plain : (t : ℕ) → at < length input → put < length o
      → plain_byte S T (slice_index_or input at 0) ≡ Some t
      → Far S T input out (slice_set o put t) (count + 1) (at + 1) (put + 1)
  far_plain t left free h =
      let p = plain_parts S T (slice_index_or input at 0) t h in
      let into = far.room in let same = far.size in
      let front : take 1 (drop at input) ≡ slice_index_or input at 0 ∷ [] =
      ap (take 1) (drop_more input at 0 left) in
      let reads : Reads S (drop at input) (Ok (Found p.0 1)) =
      (rw (length-drop at input) (omega arith), ap S.codings.character front ∙ p.1) in
      let split : o ≡ take put o ++ (slice_index_or o put 0 ∷ drop (put + 1) o) =
      sym (take-append-drop put o) ∙ ap (λ z. take put o ++ z) (drop_more o put 0 free) in
      let at_o : slice_set o put t ≡ (take put o ++ (t ∷ [])) ++ drop 1 (drop put o) =
      ap (λ z. slice_set z put t) split
      ∙ set_at (take put o) (slice_index_or o put 0) (drop (put + 1) o) t put
      (length-take-le put o (omega arith))
      ∙ ap (λ z. take put o ++ (t ∷ z)) (sym (drop-drop 1 put o))
      ∙ sym (append_assoc (take put o) (t ∷ []) _) in
      far_on (slice_set o put t) (t ∷ []) p.0 1 reads p.2 (omega arith) at_o

  -- characters that were read and written behind them
  pub far_join : (o' last : List ℕ) (n : ℕ)
      → ByteForByte S T (drop at input) (take (length o - put) (drop put o)) last n
      → o' ≡ put_mid put (length o - put) o last
      → Far S T input out o' (count + n) (at + n) (put + n)
  far_join o' last n more o'-is =
      let into = far.room in let same = far.size in let inside = far.inside in let counted =
      far.counted in let few = far.few in
      let part : length (take (length o - put) (drop put o)) ≡ length o - put =
      rw (take_rest o put, length-drop) refl in
      let less : n ≤ length o - put = rw part at more.room in
      let left : n ≤ length input - at = rw (length-drop at input) at more.inside in
      let long : length (take put o) ≡ put = length-take-le put o (omega arith) in
      let whole : o' ≡ take put o ++ last = o'-is ∙ put_end o last put (omega arith) in
      let size' : length last ≡ length o - put = more.size ∙ part in
      let lead = leads_on S T l input far.chars (take at input) (take put o) (drop at input)
      more.chars (take n (drop at input)) (take n last) (drop n (drop at input)) (length out) _
      far.leads more.leads
      (rw (long, part) (omega arith)) in
      let front : take put o ++ take n last ≡ take (put + n) o' =
      sym (ap (take (put + n)) whole ∙ ap (λ z. take (z + n) (take put o ++ last)) (sym long)
      ∙ take-append-add (take put o) last n) in
      record {
        chars = far.chars ++ more.chars;
        counted = rw (length-append far.chars more.chars) (omega (arith, more.counted));
        few = omega arith;
        inside = omega (arith, left);
        room = omega (arith, less);
        leads =
            subst₃ (λ x y z. Leads S T input (length out) (far.chars ++ more.chars) x y z)
            (sym (take-add at n input)) front (drop-drop n at input) lead;
        rest =
            ap (drop (put + n)) whole ∙ ap (λ z. drop (z + n) (take put o ++ last)) (sym long)
            ∙ drop-append-add (take put o) last n ∙ more.rest
            ∙ ap (drop n) (take_rest o put ∙ far.rest) ∙ drop-drop n put out;
        size = ap length whole ∙ rw (length-append, long, size') (omega arith);
      }

  -- an end with room for so many bytes less is the same end with so many bytes used
  used : (k : End) → Stops S T (drop at input) 0 (length (take (length o - put) (drop put o))) k
      → Stops S T (drop at input) put (length out) k
  used (Ok pause.Open) h = h
  used (Ok pause.Full) h =
      let into = far.room in let same = far.size in
      let less : length o - put < 0 + length h.2 = rw (take_rest o put, length-drop) at h.5 in
      (h.0, h.1, h.2, h.3, h.4, omega arith)
  used (Err (Unwritten c q)) h = h
  used (Err (Unread q)) h = h
  used (Err Unfinished) h = h

  -- a write that left the part as it was, and an end
  pub far_ends : (k : End) (o' last : List ℕ)
      → Stops S T (drop at input) 0 (length (take (length o - put) (drop put o))) k
      → last ≡ take (length o - put) (drop put o) → o' ≡ put_mid put (length o - put) o last
      → Runs S T input out o' (record { characters = count; read = at; written = put }) k
  far_ends k o' last s e o'-is =
      let into = far.room in let inside = far.inside in let same = far.size in
      let back : o' ≡ o = o'-is ∙ ap (put_mid put (length o - put) o) e
      ∙ put_same put (length o - put) o in
      let long : length (take put o) ≡ put = length-take-le put o (omega arith) in
      record {
        chars = far.chars;
        source = take at input;
        target = take put o;
        reaches = record { rest = drop at input; leads = far.leads; stops = rw long (used k s) };
        left =
            back ∙ sym (take-append-drop put o)
            ∙ ap (λ z. take put o ++ z) (far.rest ∙ ap (λ n. drop n out) (sym long));
        characters = far.counted;
        read = sym (length-take-le at input inside);
        written = sym long;
      }
