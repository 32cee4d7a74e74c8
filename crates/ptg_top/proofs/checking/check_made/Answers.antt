use Rattle.std.proofs.Common.{◌∙◌}
use Rattle.ptg_top.proofs.Summed.{made_denoted}
use Rattle.ptg_top.proofs.checking.check_made.Goals as goal

-- the two texts are those of the made job
pub returns-clause-denotes : goal.returns-clause-denotes
returns-clause-denotes c =
    made_denoted c.args.rows c.bytes.result.now c.bytes-2.result.now c.in_ok-job.job
    (c.bytes.ensures ∙ c.in_ok-jdf.ensures.jdf) (c.bytes-2.ensures ∙ c.in_ok-jdf.ensures.data_file)
    c.in_ok-job.ensures.found
