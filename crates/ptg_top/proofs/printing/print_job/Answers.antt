use Rattle.std.proofs.Common.{ℕ, List, length, sym, ◌∙◌, ap, subst}
use Rattle.dep_iter.specs.Tasks.{all_tasks}
use Rattle.dep_iter.specs.Consistent.{all_in}
use Rattle.plan_core.specs.NamesByNumber.{class_name}
use Rattle.report_text.specs.Printed.{consistent_text}
use Rattle.report_text.specs.Puts.{PrintsText}
use Rattle.report_text.specs.Refusal.{inconsistent_line}
use Rattle.ptg_top.specs.JobText.{job_text}
use Rattle.ptg_top.proofs.printing.print_job.Goals as goal

-- the names are those of the plan's class and flow
pub returns-in-Inconsistent : goal.returns-in-Inconsistent
returns-in-Inconsistent g c =
    let Printed : List ℕ → Type 0 = λ t. PrintsText g.O.Sink.bytes g.O.Sink.faults c.refusal-in-Inconsistent.result
    c.args.out.now c.refusal-in-Inconsistent.new.sink t in
    let P = c.in-Inconsistent.plan in
    let f = c.in-Inconsistent.fault in
    let line =
    ap (λ (k : List ℕ). inconsistent_line f k c.flow_name-flow.result.now) c.class_name-class.ensures
    ∙ (ap (λ (k : List ℕ). inconsistent_line f (class_name P f.class) k) c.flow_name-flow.ensures ∙ sym (ap job_text c.in-Inconsistent.is)) in
    subst Printed line c.refusal-in-Inconsistent.ensures

-- the counts are those of the plan
pub returns-in-Consistent : goal.returns-in-Consistent
returns-in-Consistent g c =
    let Printed : List ℕ → Type 0 = λ t. PrintsText g.O.Sink.bytes g.O.Sink.faults c.consistent.result c.args.out.now c.consistent.new.sink t in
    let P = c.in-Consistent.matched in
    let line =
    ap (λ (n : ℕ). consistent_text n c.edges.result c.writes.result) c.tasks.ensures
    ∙ (ap (λ (n : ℕ). consistent_text (length (all_tasks P)) n c.writes.result) c.edges.ensures
    ∙ (ap (λ (n : ℕ). consistent_text (length (all_tasks P)) (length (all_in P)) n) c.writes.ensures ∙ sym (ap job_text c.in-Consistent.is))) in
    subst Printed line c.consistent.ensures
