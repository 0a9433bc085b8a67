use Rattle.std.proofs.Common.{◌≡◌, Ok, Err, rules}
use Rattle.charset.specs.declared.Reading.TheVariants.{Found}
use Rattle.layers.proofs.RecodedReads.{recoded_read, recoded_answer}
use Rattle.layers.proofs.recoded.RecodedCharacterSet.read.Goals as goal

pub returns-in_err-character : goal.returns-in_err-character
returns-in_err-character g c =
    let e : c.from_residual.result ≡ recoded_read (g.F.ByteForm.recoding c.args.self.now.form)
    c.args.bytes.now c.scan_front-scan.result c.read.result = search rules in
    recoded_answer (g.met.F.ByteForm.agrees c.args.self.now.form)
    (g.met.S.CharacterSet.lawful c.args.self.now.below) c.scan_front-scan.ensures
    c.as_bytes-below.ensures.bytes c.read.result c.read.ensures e

pub returns-in-Found : goal.returns-in-Found
returns-in-Found g c =
    let e : Ok (Found c.in-Found.character c.written_size.result) ≡ recoded_read
    (g.F.ByteForm.recoding c.args.self.now.form) c.args.bytes.now c.scan_front-scan.result
    c.read.result = search rules in
    recoded_answer (g.met.F.ByteForm.agrees c.args.self.now.form)
    (g.met.S.CharacterSet.lawful c.args.self.now.below) c.scan_front-scan.ensures
    c.as_bytes-below.ensures.bytes c.read.result c.read.ensures e

pub returns-in-Open : goal.returns-in-Open
returns-in-Open g c =
    let e : Err c.fault.result ≡ recoded_read (g.F.ByteForm.recoding c.args.self.now.form)
    c.args.bytes.now c.scan_front-scan.result c.read.result = search rules in
    recoded_answer (g.met.F.ByteForm.agrees c.args.self.now.form)
    (g.met.S.CharacterSet.lawful c.args.self.now.below) c.scan_front-scan.ensures
    c.as_bytes-below.ensures.bytes c.read.result c.read.ensures e

pub returns-in-Open-2 : goal.returns-in-Open-2
returns-in-Open-2 g c =
    let e : Err c.into.result ≡ recoded_read (g.F.ByteForm.recoding c.args.self.now.form)
    c.args.bytes.now c.scan_front-scan.result c.read.result = search rules in
    recoded_answer (g.met.F.ByteForm.agrees c.args.self.now.form)
    (g.met.S.CharacterSet.lawful c.args.self.now.below) c.scan_front-scan.ensures
    c.as_bytes-below.ensures.bytes c.read.result c.read.ensures e
