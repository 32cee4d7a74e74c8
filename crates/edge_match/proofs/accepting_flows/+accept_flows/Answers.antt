use Rattle.std.proofs.Common.{suc, drop, false, add-one, arith}
use Rattle.std.specs.Cmp.{second_so, unsigned_Decides}
use Rattle.list_lemmas.proofs.Truth.{on_true_weaker}
use Rattle.list_lemmas.proofs.Places.{drop_from, passes_at}
use Rattle.term_core.specs.Kinds.{is_data}
use Rattle.term_core.specs.declared.direction.Direction.TheVariants.{In}
use Rattle.dep_iter.specs.Tasks.{flows_of}
use Rattle.dep_iter.specs.Well.{are_well, is_well_flow}
use Rattle.dep_iter.proofs.CallerLemmas.{before-no_dependences}
use Rattle.edge_match.specs.Flows.{HasSoundSource}
use Rattle.edge_match.proofs.SentItems.{sent_nothing}
use Rattle.edge_match.proofs.TaskFlows.{source-is}
use Rattle.edge_match.proofs.Walking.{accepts_more}
use Rattle.edge_match.proofs.accepting_flows.+accept_flows.Goals as goal

pub send_all-requires : goal.send_all-requires
send_all-requires m c =
    let task = c.args.task.now in
    let env = task.locals.now in
    let f = c.in-Some.flow.now in
    let flows = flows_of task.plan.now task.task.now in
    let well = passes_at (is_well_flow env) flows c.args.number f c.requires c.in-Some.ensures.found.1 in
    rw c.as_slice.ensures (second_so (are_well (is_data f.kind) env f.ins) (are_well false env f.outs) well)

pub invariant_of-at-clause-nothing : goal.invariant_of-at-clause-nothing
invariant_of-at-clause-nothing m c = λ same.
    let task = c.args.task.now in
    let sent = rw c.as_slice.ensures at (c.if-not-send_all.ensures task.task.now c.args.number) in
    let count = (unsigned_Decides c.items.result c.items-before.result).0 same in
    let after = c.items.ensures in
    let before = c.items-before.ensures in
    sent_nothing task.plan.now.colls c.args.tally.now.outs c.send_all.new.outs _ sent (omega arith)

pub returns : goal.returns
returns m c =
    let task = c.args.task.now in
    let P = task.plan.now in
    let t = task.task.now in
    let env = task.locals.now in
    let n = c.args.number in
    let f = c.in-Some.flow.now in
    let here = c.in-Some.ensures.found.1 in
    let took = c.if-not-take_from.ensures in
    let source : HasSoundSource P t env n f = rw (source-is P t n f env task.are_locals here) took.source in
    let taken = rw (before-no_dependences In P t n) at took.taken in
    let sent = rw c.as_slice.ensures at (c.if-not-send_all.ensures t n) in
    let tally = c.accept_flows.new.tally in
    let others = drop (suc n) (flows_of P t) in
    rw (drop_from (flows_of P t) n f here)
    (on_true_weaker c.accept_flows.result
    (accepts_more P t env c.args.tally.now _ tally n f others source taken sent)
    (rw add-one at c.accept_flows.ensures))
