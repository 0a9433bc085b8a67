use Rattle.std.proofs.Common.{vec_items, rules}
use Rattle.report.proofs.Written.{always_written}
use Rattle.report.proofs.text.form_text.Goals as goal

pub returns-clause-always_written : goal.returns-clause-always_written
returns-clause-always_written c =
    always_written c.args.form c.args.bytes.now (vec_items c.transcribe.new.into.text)
    c.transcribe.new.into.characters c.transcribe.result (search rules)
