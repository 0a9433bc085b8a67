use Rattle.report.proofs.OneReport.{one_report}
use Rattle.report.proofs.report.Goals as goal

pub returns-in-Ok-clause-one_report : goal.returns-in-Ok-clause-one_report
returns-in-Ok-clause-one_report c = one_report c.args.input.now

pub returns-in-Err-clause-one_report : goal.returns-in-Err-clause-one_report
returns-in-Err-clause-one_report c = one_report c.args.input.now
