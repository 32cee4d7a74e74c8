use Rattle.std.proofs.Common.{sym, subst, ap, ◌∙◌}
use Rattle.job_stages.specs.declared.verdict.JobVerdict.TheVariants.{Consistent}
use Rattle.job_stages.specs.Verdict.{TextsDenote}
use Rattle.job_stages.proofs.Judged.{consistent_in}
use Rattle.job_stages.proofs.judging.job_of_texts.Goals as goal

pub returns-in-Consistent-clause-found : goal.returns-in-Consistent-clause-found
returns-in-Consistent-clause-found c =
    subst (TextsDenote c.args.jdf_text.now c.args.data_text.now) c.in-Consistent.is c.in_ok-matched.ensures.found

pub returns-in-Consistent-clause-only : goal.returns-in-Consistent-clause-only
returns-in-Consistent-clause-only c P given h =
    ap consistent_in (sym c.in-Consistent.is ∙ c.in_ok-matched.ensures.only (Consistent P given) h)

-- no other verdict is a consistent job
pub returns : goal.returns
returns c =
    record { found = tt; only = λ P given h. absurd (c.in_default.not-Consistent P given (c.in_ok-matched.ensures.only (Consistent P given) h)); fit = tt }
