use Rattle.std.proofs.Common.{◌≡◌, ◌<◌, length, ap, sym, ◌∙◌, subst, arith}
use Rattle.flow_meaning.specs.Machine.{MayClaim}
use Rattle.shard_meaning.specs.Share.{IsShardOf}
use Rattle.rank_core.specs.Sound.{IsSoundWorld}
use Rattle.rank_core.specs.World.{after_run, rank_of}
use Rattle.rank_core.specs.declared.running_task.RunningTask.{RunningTask}
use Rattle.rank_core.specs.Keeping.{idle_moment}
use Rattle.rank_core.specs.Views.{WorldView}
use Rattle.rank_core.specs.RunningTasks.{IsRunningTask}
use Rattle.shard_meaning.proofs.CallerLemmas.{home_below}
use Rattle.rank_core.proofs.Ran.{ran, refused}
use Rattle.rank_core.proofs.world.World.run_ready.Goals as goal

pub run_at-requires-clause-within : goal.run_at-requires-clause-within
run_at-requires-clause-within c =
    let i = c.self.inside in
    let k = c.self.invariant in
    let count : c.len.result ≡ length i.ranks.items = c.len.ensures ∙ i.ranks.ok.0 in
    let is : c.args.rank ≡ rank_of i.matched.now (length i.ranks.items) c.args.task.now.task.now = subst
    (λ (w : WorldView). c.args.rank ≡ rank_of w.plan w.ranks c.args.task.now.task.now) (sym c.self.view_is)
    c.requires.rank in
    subst (λ n. n < length i.ranks.items) (sym is) (home_below i.matched.now (length i.ranks.items)
    c.args.task.now.task.now k.some_ranks)

pub run_at-requires-clause-holds : goal.run_at-requires-clause-holds
run_at-requires-clause-holds c = λ y at.
    let i = c.self.inside in
    let k = c.self.invariant in
    let count : c.len.result ≡ length i.ranks.items = c.len.ensures ∙ i.ranks.ok.0 in
    let is : c.args.rank ≡ rank_of i.matched.now (length i.ranks.items) c.args.task.now.task.now = subst
    (λ (w : WorldView). c.args.rank ≡ rank_of w.plan w.ranks c.args.task.now.task.now) (sym c.self.view_is)
    c.requires.rank in
    subst (λ r. IsShardOf i.matched.now i.given (rank_of i.matched.now r) c.args.rank
    (idle_moment i.history.state.machine) y) (sym count) (k.shares c.args.rank y at)

pub invariant_of-self : goal.invariant_of-self
invariant_of-self c =
    let i = c.self.inside in
    let k = c.self.invariant in
    let count : c.len.result ≡ length i.ranks.items = c.len.ensures ∙ i.ranks.ok.0 in
    let is : c.args.rank ≡ rank_of i.matched.now (length i.ranks.items) c.args.task.now.task.now = subst
    (λ (w : WorldView). c.args.rank ≡ rank_of w.plan w.ranks c.args.task.now.task.now) (sym c.self.view_is)
    c.requires.rank in
    let v : RunningTask = record {
      matched = i.matched;
      given = record { ref_ptr = c.args.task.ref_ptr; now = i.given };
      history = record { ref_ptr = c.args.task.ref_ptr; now = i.history };
      ranks = c.len.result;
      task = c.args.task;
      rank = c.args.rank;
    } in
    let h : IsRunningTask (record {
      matched = i.matched;
      given = record
          { ref_ptr = c.args.task.ref_ptr; now = i.given };
      history = record
          { ref_ptr = c.args.task.ref_ptr; now = i.history };
      ranks = c.len.result;
      task = c.args.task;
      rank = c.args.rank;
    }) = record {
      consistent = k.consistent;
      fit = k.fit;
      well = c.data_are_well_made.ensures;
      some_ranks = omega (arith, count, k.some_ranks);
      ranks_at_most = omega (arith, count, k.ranks_at_most);
      sound = subst (λ r. IsSoundWorld i.matched.now i.given r i.history.state) (sym count) k.sound;
      may = subst (λ (w : WorldView). MayClaim w.plan w.state.machine c.args.task.now.task.now) (sym c.self.view_is)
          c.requires.may;
      plan_is = subst (λ (w : WorldView). c.args.task.now.plan.now ≡ w.plan) (sym c.self.view_is) c.requires.plan;
      rank_is = is ∙ ap (λ r. rank_of i.matched.now r c.args.task.now.task.now) (sym count);
    } in
    let e = c.in_err-run_at.ensures in
    refused v h i.ranks.items count i.bench i.mail k c.run_at.new.ranks.items e.count e.others c.run_at.new.bench
    e.bench c.run_at.new.mail e.same e.kept

pub invariant_of-self-2 : goal.invariant_of-self-2
invariant_of-self-2 c =
    let i = c.self.inside in
    let k = c.self.invariant in
    let count : c.len.result ≡ length i.ranks.items = c.len.ensures ∙ i.ranks.ok.0 in
    let is : c.args.rank ≡ rank_of i.matched.now (length i.ranks.items) c.args.task.now.task.now = subst
    (λ (w : WorldView). c.args.rank ≡ rank_of w.plan w.ranks c.args.task.now.task.now) (sym c.self.view_is)
    c.requires.rank in
    let v : RunningTask = record {
      matched = i.matched;
      given = record { ref_ptr = c.args.task.ref_ptr; now = i.given };
      history = record { ref_ptr = c.args.task.ref_ptr; now = i.history };
      ranks = c.len.result;
      task = c.args.task;
      rank = c.args.rank;
    } in
    let h : IsRunningTask (record {
      matched = i.matched;
      given = record
          { ref_ptr = c.args.task.ref_ptr; now = i.given };
      history = record
          { ref_ptr = c.args.task.ref_ptr; now = i.history };
      ranks = c.len.result;
      task = c.args.task;
      rank = c.args.rank;
    }) = record {
      consistent = k.consistent;
      fit = k.fit;
      well = c.data_are_well_made.ensures;
      some_ranks = omega (arith, count, k.some_ranks);
      ranks_at_most = omega (arith, count, k.ranks_at_most);
      sound = subst (λ r. IsSoundWorld i.matched.now i.given r i.history.state) (sym count) k.sound;
      may = subst (λ (w : WorldView). MayClaim w.plan w.state.machine c.args.task.now.task.now) (sym c.self.view_is)
          c.requires.may;
      plan_is = subst (λ (w : WorldView). c.args.task.now.plan.now ≡ w.plan) (sym c.self.view_is) c.requires.plan;
      rank_is = is ∙ ap (λ r. rank_of i.matched.now r c.args.task.now.task.now) (sym count);
    } in
    let e = c.in_ok-run_at.ensures in
    let again : c.len-2.result ≡ c.len.result = c.len-2.ensures ∙ c.run_at.new.ranks.ok.0 ∙ e.count ∙ sym count in
    ran v h i.ranks.items count i.bench i.mail k c.run_at.new.ranks.items e.count e.others c.run_at.new.bench e.bench
    c.run_at.new.mail c.with_run-self-inside.result.state
    (c.with_run-self-inside.ensures ∙ ap (λ r. after_run i.matched.now i.given r i.history.state
    c.args.task.now.task.now) again) e.holds e.mail

pub returns-clause-sound : goal.returns-clause-sound
returns-clause-sound c =
    let i = c.self.inside in
    let k = c.self.invariant in
    let count : c.len.result ≡ length i.ranks.items = c.len.ensures ∙ i.ranks.ok.0 in
    let is : c.args.rank ≡ rank_of i.matched.now (length i.ranks.items) c.args.task.now.task.now = subst
    (λ (w : WorldView). c.args.rank ≡ rank_of w.plan w.ranks c.args.task.now.task.now) (sym c.self.view_is)
    c.requires.rank in
    let v : RunningTask = record {
      matched = i.matched;
      given = record { ref_ptr = c.args.task.ref_ptr; now = i.given };
      history = record { ref_ptr = c.args.task.ref_ptr; now = i.history };
      ranks = c.len.result;
      task = c.args.task;
      rank = c.args.rank;
    } in
    let h : IsRunningTask (record {
      matched = i.matched;
      given = record
          { ref_ptr = c.args.task.ref_ptr; now = i.given };
      history = record
          { ref_ptr = c.args.task.ref_ptr; now = i.history };
      ranks = c.len.result;
      task = c.args.task;
      rank = c.args.rank;
    }) = record {
      consistent = k.consistent;
      fit = k.fit;
      well = c.data_are_well_made.ensures;
      some_ranks = omega (arith, count, k.some_ranks);
      ranks_at_most = omega (arith, count, k.ranks_at_most);
      sound = subst (λ r. IsSoundWorld i.matched.now i.given r i.history.state) (sym count) k.sound;
      may = subst (λ (w : WorldView). MayClaim w.plan w.state.machine c.args.task.now.task.now) (sym c.self.view_is)
          c.requires.may;
      plan_is = subst (λ (w : WorldView). c.args.task.now.plan.now ≡ w.plan) (sym c.self.view_is) c.requires.plan;
      rank_is = is ∙ ap (λ r. rank_of i.matched.now r c.args.task.now.task.now) (sym count);
    } in
    let e = c.in_ok-run_at.ensures in
    let again : c.len-2.result ≡ c.len.result = c.len-2.ensures ∙ c.run_at.new.ranks.ok.0 ∙ e.count ∙ sym count in
    (ran v h i.ranks.items count i.bench i.mail k c.run_at.new.ranks.items e.count e.others c.run_at.new.bench e.bench
    c.run_at.new.mail c.with_run-self-inside.result.state
    (c.with_run-self-inside.ensures ∙ ap (λ r. after_run i.matched.now i.given r i.history.state
    c.args.task.now.task.now) again) e.holds e.mail).sound
