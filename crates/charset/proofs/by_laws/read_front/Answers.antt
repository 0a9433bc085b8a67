use Rattle.std.proofs.Common.{ℕ, List}
use Rattle.charset.specs.Meaning.{Meaning, Laws}
use Rattle.charset.specs.Answers.{ReadAnswer, Reads}
use Rattle.charset.specs.Decoding.{ReadByLaws}
use Rattle.charset.proofs.FrontLemmas.{only_answer, four_bytes_decide}
use Rattle.charset.proofs.Spelling.{decodes_once}
use Rattle.charset.proofs.by_laws.read_front.Goals as goal

by_laws : (m : Meaning) → Laws m → (s : List ℕ) (r : ReadAnswer) → Reads m s r
    → ReadByLaws m s r
by_laws m l s r h =
    record {
      reads = h;
      only_answer = only_answer l s r h;
      four_bytes_decide =
          four_bytes_decide l s r h;
      decodes_once = decodes_once l;
    }

pub returns : goal.returns
returns g c =
    by_laws _ (g.met.S.CharacterSet.lawful c.args.set.now) c.args.bytes.now c.read.result
    c.read.ensures
