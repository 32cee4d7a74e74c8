use Rattle.std.proofs.Common.{IfSome, ap, subst, sym, ◌∙◌}
use Rattle.plan_data.specs.Fit.{DataFit}
use Rattle.dep_iter.specs.Consistent.{IsConsistent}
use Rattle.dep_shard.specs.Content.{Takes}
use Rattle.flow_meaning.proofs.CallerLemmas.{it_ends}
use Rattle.shard_meaning.proofs.CallerLemmas.{claim_inputs}
use Rattle.rank_core.proofs.Happening.{fed}
use Rattle.rank_core.specs.World.{rank_of}
use Rattle.rank_core.specs.Keeping.{idle_moment}
use Rattle.rank_core.specs.RunningTasks.{before, data_of, plan_of, task_of}
use Rattle.rank_core.proofs.Parts.{claim_holds}
use Rattle.rank_core.proofs.running.begin.Goals as goal
use Rattle.flow_meaning.specs.Backward.{MayRun}

pub invariant_of-start : goal.invariant_of-start
invariant_of-start c =
    let v = c.args.at.now in
    let h = c.requires.runs in
    record {
      consistent = subst IsConsistent (sym h.plan_is) h.consistent;
      fit = subst (λ p. DataFit p (data_of v)) (sym h.plan_is) h.fit;
    }

pub run-requires-clause-inputs : goal.run-requires-clause-inputs
run-requires-clause-inputs c =
    let v = c.args.at.now in
    let h = c.requires.runs in
    let takes = subst (λ o. IfSome o (λ tiles. Takes c.args.shard.now c.take_ready.new.self (task_of v) tiles))
    c.unwrap-arrivals.ensures c.take_ready.ensures.some in
    subst (λ p. MayRun p c.args.at.now.given.now (task_of c.args.at.now) c.unwrap-arrivals.result)
    (sym c.requires.runs.plan_is) (record {
      runs = it_ends (plan_of v) (data_of v) h.consistent (before v).machine h.sound.state (task_of v)
          (fed (plan_of v) (data_of v) h.consistent v.ranks (before v) h.sound (task_of v) h.may);
      inputs = claim_inputs (plan_of v) (data_of v) (rank_of (plan_of v) v.ranks) v.rank
          (idle_moment (before v).machine) c.args.shard.now c.requires.holds h.consistent h.sound.state
          c.take_ready.new.self (task_of v) c.unwrap-arrivals.result takes;
    })

pub returns-clause-holds : goal.returns-clause-holds
returns-clause-holds c =
    let v = c.args.at.now in
    let takes = subst (λ o. IfSome o (λ tiles. Takes c.args.shard.now c.take_ready.new.self (task_of v) tiles))
    c.unwrap-arrivals.ensures c.take_ready.ensures.some in
    claim_holds v c.requires.runs c.args.shard.now c.take_ready.new.self c.unwrap-arrivals.result c.requires.holds takes
