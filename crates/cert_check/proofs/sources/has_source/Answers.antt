use Rattle.std.proofs.Common.{◌↔◌, List, IsTrue, subst}
use Rattle.ptg_base.specs.Lists.{IsIn}
use Rattle.ptg_base.specs.Task.{Task}
use Rattle.cert_check.proofs.FarTasks.{sources-links}
use Rattle.cert_check.proofs.sources.has_source.Goals as goal

pub returns : goal.returns
returns c =
    let at = c.args.at.now in
    let w = rw (c.flows.ensures.flows, at.are_locals) at (c.any_flow_names.ensures 0) in
    let is_source = λ (l : List Task). IsTrue c.any_flow_names.result ↔ IsIn c.args.source.now l in
    subst is_source (sources-links at.plan.now at.task.now) w
