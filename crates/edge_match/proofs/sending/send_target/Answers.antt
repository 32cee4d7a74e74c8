use Rattle.std.proofs.Common.{ℤ, List, map}
use Rattle.std.proofs.lemmas.List.{length-map}
use Rattle.ptg_base.specs.declared.edge.Item.TheVariants as item
use Rattle.list_lemmas.proofs.Joins.{map-map}
use Rattle.dep_iter.specs.Arguments.{combinations}
use Rattle.dep_iter.specs.Edges.{edge}
use Rattle.dep_iter.specs.Tasks.{task}
use Rattle.edge_match.proofs.sending.send_target.Goals as goal

pub returns-in-Task : goal.returns-in-Task
returns-in-Task c = λ t n.
    let mk = λ (ps : List ℤ). edge t n (task c.in-Task.field-0 ps) c.in-Task.field-1 in
    let all = combinations c.in-Task.args c.args.env.now in
    let count = rw (c.as_slice.ensures, ← length-map all mk) at c.combination_count.ensures in
    rw (c.in-Task.is, ← map-map item.Edge mk all) (c.add_edges.ensures c.args.plan.now.colls (map mk all) count)
