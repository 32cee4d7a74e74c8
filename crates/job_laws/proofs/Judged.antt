-- A fault of the JDF's text is the verdict, whatever the data's text is. The data of a consistent plan fit it.
use Rattle.std.proofs.Common.{sym, subst, inl, inr}
use Rattle.plan_data.specs.Fit.{DataFit}
use Rattle.job_laws.specs.Laws.{JdfIsJudgedAlone, DataFitPlan}
use Rattle.job_stages.proofs.CallerLemmas.{texts_once}

pub judged_alone : JdfIsJudgedAlone
judged_alone jdf_text data_text v w h k = sym (texts_once jdf_text data_text v w (inl h) k)

pub data_fit : DataFitPlan
data_fit jdf_text data_text P given (inl (f, first, e)) = absurd cc
data_fit jdf_text data_text P given (inr (inl (J, f, tree, first, e))) = absurd cc
data_fit jdf_text data_text P given (inr (inr (job, read, h))) = subst (DataFit P) (sym h.2) h.0.plan.fit
