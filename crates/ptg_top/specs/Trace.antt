-- What `trace` denotes: the text of the tasks that run, in an order in which they may run.
-- Carried by: `ptg_main` (`CommandDenotes`); law `top_laws::one_job`.
-- Tested by: `trace.txt`.
use Rattle.std.specs.Prelude.{◌≡◌, List}
use Rattle.ptg_base.specs.Task.{Task}
use Rattle.coll_data.specs.Data.{Data}
use Rattle.plan_core.specs.declared.plan.Plan.{Plan}
use Rattle.flow_meaning.specs.Order.{IsWholeOrder}
use Rattle.trace_core.specs.Text.{trace_text}
use Rattle.ptg_top.specs.declared.verdict.Finding.TheVariants.{Trace}
use Rattle.ptg_top.specs.Denotation as verdicts
use Rattle.ptg_top.specs.Denotation.{Denotation}

-- a verdict of `trace` on a consistent job: the text of a whole order, whichever it is
abbrev pub IsTraced : Plan → Data → Denotation → Type 0
IsTraced P given v =
    (tasks : List Task) × IsWholeOrder P given tasks × (v ≡ verdicts.Ran P (Trace (trace_text P tasks)))
