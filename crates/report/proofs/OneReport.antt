-- No input has two reports.
use Rattle.std.proofs.Common.{◌≡◌, ℕ, zero, suc, ◌+◌, List, [], ◌∷◌, ◌++◌}
use Rattle.std.proofs.Common.{Some, None, Ok, Err, Option, Result, refl, sym, ap, ◌∙◌, inl}
use Rattle.std.proofs.Common.{inr, arith}
use Rattle.conversion.specs.declared.Fault.{Fault}
use Rattle.conversion.specs.declared.Fault.TheVariants.{Unread, Unwritten, Unfinished}
use Rattle.roll.specs.declared.page.Form.{Form}
use Rattle.roll.specs.declared.page.Page.{Page}
use Rattle.roll.specs.declared.page.Page.TheVariants.{Text, Picture}
use Rattle.roll.specs.declared.refusal.RefusalTold.{RefusalTold}
use Rattle.roll.specs.Format.{page_count}
use Rattle.roll.specs.Pages.{PartAt}
use Rattle.roll.proofs.FormNumbers.{same_form, form_not_0}
use Rattle.roll.proofs.OneAnswer.{one_answer}
use Rattle.transcript.specs.declared.answers.Done.{Done}
use Rattle.transcript.specs.declared.answers.Told.{Told}
use Rattle.transcript.specs.Told.{with_fault}
use Rattle.transcript.specs.Carried.{Outcome, fault_in, offset_in}
use Rattle.report.specs.declared.fault.RollFault.{RollFault}
use Rattle.report.specs.Lines.{line_of, block_of}
use Rattle.report.specs.Texts.{on_page, IsFormText}
use Rattle.report.specs.Reports.{PageBlock, PagesWritten, number_line, InputRefused, OneReport}

-- the number and the offset of a fault that is told
told_number : (t : Told) (o : ℕ) (d : Done) (x : Fault)
    → (with_fault t o d x).number ≡ t.number
told_number t o d (Unread q) = refl
told_number t o d (Unwritten c q) = refl
told_number t o d Unfinished = refl

told_offset : (t : Told) (o : ℕ) (d : Done) (x : Fault) → (with_fault t o d x).offset ≡ o
told_offset t o d (Unread q) = refl
told_offset t o d (Unwritten c q) = refl
told_offset t o d Unfinished = refl

-- the line tells of an outcome just its fault and its offset
same_line : (n c : ℕ) (form : Option Form) (bytes : List ℕ) (o p : Outcome)
    → fault_in o ≡ fault_in p → offset_in bytes o ≡ offset_in bytes p
    → line_of n form c (on_page n o) ≡ line_of n form c (on_page n p)
same_line n c form bytes (Ok u) (Ok v) e h = refl
same_line n c form bytes (Ok u) (Err f) e h = cc
same_line n c form bytes (Err f) (Ok v) e h = cc
same_line n c form bytes (Err f) (Err g) e h =
    let same : f.fault ≡ g.fault = cc in
    rw (
      told_number _ f.offset f.done f.fault,
      told_offset _ f.offset f.done f.fault,
      told_number _ g.offset g.done g.fault,
      told_offset _ g.offset g.done g.fault,
      same,
      h,
    ) refl

-- equal parts make equal blocks
same_block : (n : ℕ) (form : Option Form) {text text' : List ℕ} {c c' : ℕ}
    {r r' : Result (Unit {0}) RollFault} → text ≡ text' → c ≡ c' → r ≡ r'
    → block_of text n form c r ≡ block_of text' n form c' r'
same_block n form e h k = λ i. block_of (e i) n form (h i) (k i)

form_once : (n : ℕ) (f : Form) (s text text' : List ℕ) (c c' : ℕ)
    (r r' : Result (Unit {0}) RollFault)
    → IsFormText n f s text c r → IsFormText n f s text' c' r'
    → block_of text n (Some f) c r ≡ block_of text' n (Some f) c' r'
form_once n f s text text' c c' r r' (inl a) (inl b) =
    let u = a.2.the_transcription.only text' c' (offset_in s b.1) (fault_in b.1)
    b.2.the_transcription.transcribed in
    same_block n (Some f) (sym u.0) (sym u.1) a.3
    ∙ ap (λ l. text' ++ (0x0a ∷ l ++ (0x0a ∷ [])))
    (same_line n c' (Some f) s a.1 b.1 (sym u.3) (sym u.2))
    ∙ ap (λ z. block_of text' n (Some f) c' z) (sym b.3)
form_once n f s text text' c c' r r' (inl a) (inr b) = absurd (omega arith)
form_once n f s text text' c c' r r' (inr a) (inl b) = absurd (omega arith)
form_once n f s text text' c c' r r' (inr a) (inr b) =
    same_block n (Some f) (a.1 ∙ sym b.1) (a.2 ∙ sym b.2) (a.3 ∙ sym b.3)

page_once : (b : List ℕ) (k n : ℕ) (p q : Page) (x y : List ℕ) → PartAt b k p
    → PartAt b k q → PageBlock n p x → PageBlock n q y → x ≡ y
page_once b k n (Text f part at) (Text g part' at') x y h i u v =
    let same : g ≡ f = same_form g f (sym i.0 ∙ h.0) in
    let bytes : part'.now ≡ part.now = i.1 ∙ sym h.1 in
    let w : IsFormText n f part.now v.text v.characters v.outcome =
    rw (← same, ← bytes) v.transcribed in
    u.written
    ∙ form_once n f part.now u.text v.text u.characters v.characters u.outcome v.outcome
    u.transcribed w
    ∙ ap (λ z. block_of v.text n (Some z) v.characters v.outcome) (sym same)
    ∙ sym v.written
page_once b k n (Text f part at) (Picture part' at') x y h i u v =
    absurd (omega (arith, form_not_0 f, h.0, i.0))
page_once b k n (Picture part at) (Text g part' at') x y h i u v =
    absurd (omega (arith, form_not_0 g, h.0, i.0))
page_once b k n (Picture part at) (Picture part' at') x y h i u v =
    u.written
    ∙ same_block n None (u.transcribed.0 ∙ sym v.transcribed.0)
    (u.transcribed.1 ∙ sym v.transcribed.1) (u.transcribed.2 ∙ sym v.transcribed.2)
    ∙ sym v.written

pages_once : (b : List ℕ) (n : ℕ) (out out' : List ℕ) → PagesWritten b n out
    → PagesWritten b n out' → out ≡ out'
pages_once b zero out out' h i = h ∙ sym i
pages_once b (suc k) out out' h i =
    let front : h.0 ≡ i.0 = pages_once b k h.0 i.0 h.2 i.2 in
    let block : h.1 ≡ i.1 =
    page_once b k (k + 1) h.3.0 i.3.0 h.1 i.1 h.3.1 i.3.1 h.3.2 i.3.2 in
    rw (h.4, i.4, front, block) refl

refused_once : (b : List ℕ) (t u : RefusalTold) → InputRefused b t → InputRefused b u
    → t ≡ u
refused_once b t u (inl h) (inl i) = h.1 ∙ sym i.1
refused_once b t u (inl h) (inr i) = absurd (omega arith)
refused_once b t u (inr h) (inl i) = absurd (omega arith)
refused_once b t u (inr h) (inr i) = (one_answer b).one_refusal t u h.1 i.1

pub one_report : (b : List ℕ) → OneReport b
one_report b out out' (inl h) (inl i) =
    h.2 ∙ ap (λ t. number_line t.number) (refused_once b h.0 i.0 h.1 i.1)
    ∙ sym i.2
one_report b out out' (inl (t, inl h, w)) (inr i) = absurd (omega arith)
one_report b out out' (inl (t, inr h, w)) (inr i) =
    absurd ((one_answer b).not_both t h.1 i.1)
one_report b out out' (inr h) (inl (t, inl i, w)) = absurd (omega arith)
one_report b out out' (inr h) (inl (t, inr i, w)) =
    absurd ((one_answer b).not_both t i.1 h.1)
one_report b out out' (inr h) (inr i) = pages_once b (page_count b) out out' h.2 i.2
