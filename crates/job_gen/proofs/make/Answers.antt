use Rattle.std.proofs.Common.{◌∙◌, sym}
use Rattle.job_gen.proofs.DataLines.{data_text-append}
use Rattle.job_gen.proofs.make.Goals as goal

pub returns-clause-data_file : goal.returns-clause-data_file
returns-clause-data_file c = c.in_ok-of.ensures ∙ c.as_bytes.ensures.value ∙ c.in_ok-records.ensures.ok ∙ sym (data_text-append c.args.n)
