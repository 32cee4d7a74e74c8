use Rattle.std.proofs.Common.{rules, tests, ap, ◌∙◌}
use Rattle.std.proofs.lemmas.Iterator.Consumers.{YieldsList-from_filter, YieldsList-from_first, reduce_from_yields_List}
use Rattle.dep_iter.specs.Tasks.{all_tasks}
use Rattle.chain_cert.specs.Finding.{is_left}
use Rattle.chain_cert.proofs.Leasts.{lesser, least_where}
use Rattle.chain_cert.proofs.leftover.least_task_left.Goals as goal

pub returns : goal.returns
returns c =
    let all = all_tasks c.args.m.now in
    let test = is_left c.args.table.now.entries in
    let is = c.filter.ensures.source ∙ c.all_tasks.ensures ∙ ap all_tasks c.plan.ensures.same in
    least_where test all c.min.result
    (reduce_from_yields_List lesser c.filter.result c.min.result c.min.ensures.ran
    (YieldsList-from_filter _ test (YieldsList-from_first (λ t. t) (λ left. left) all is) c.filter.ensures.closure (λ x b q k. search (rules, tests))))
