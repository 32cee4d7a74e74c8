use Rattle.std.proofs.Common.{◌≡◌, length, ap, sym, ◌∙◌, subst, refl, inl, inr, arith}
use Rattle.ptg_base.specs.Lists.{IsIn}
use Rattle.dep_iter.specs.Items.{write_backs}
use Rattle.dep_table.specs.Needs.{AddsTiles, write_tiles}
use Rattle.flow_meaning.proofs.CallerLemmas.{write_from}
use Rattle.dep_table.proofs.NeedsSteps.{WritesLeft, all_left, no_write, write_less}
use Rattle.dep_table.proofs.needs.Needs.add_writes.Goals as goal

pub loop-write-init : goal.loop-write-init
loop-write-init c =
    let P = c.args.at.now.plan.now in
    let all = c.into_iter-write-iterator.result in
    let are : all ≡ write_backs P c.args.at.now.task.now =
    c.into_iter-write-iterator.ensures.into_iter_gives ∙ c.write_backs-write-items.ensures in
    record {
      can_next = tt;
      is_finite = tt;
      from = λ w i. write_from P c.args.at.now.task.now w (subst (IsIn w) are i);
      left = all_left (write_tiles P all) (length all) c.args.self.now;
    }

pub add_write-requires-clause-from : goal.add_write-requires-clause-from
add_write-requires-clause-from c = c.loop-write.invariant.from c.in-Some.write
    (subst (λ l. IsIn c.in-Some.write l) (sym c.in-Some.ensures.steps) (inl refl))

pub add_write-requires-clause-types : goal.add_write-requires-clause-types
add_write-requires-clause-types c = c.loop-write.invariant.left.types ∙ c.requires.types

pub add_write-requires-clause-tiles : goal.add_write-requires-clause-tiles
add_write-requires-clause-tiles c = λ d.
    let P = c.args.at.now.plan.now in
    let all = c.into_iter-write-iterator.result in
    let are : all ≡ write_backs P c.args.at.now.task.now =
    c.into_iter-write-iterator.ensures.into_iter_gives ∙ c.write_backs-write-items.ensures in
    let w = subst (λ l. WritesLeft P l all c.args.self.now c.loop-write.self) c.in-Some.ensures.steps
    c.loop-write.invariant.left in
    omega (arith, c.requires.tiles d, ap (λ l. write_tiles P l d) are, w.tiles d)

pub add_write-requires-clause-places : goal.add_write-requires-clause-places
add_write-requires-clause-places c =
    let P = c.args.at.now.plan.now in
    let all = c.into_iter-write-iterator.result in
    let are : all ≡ write_backs P c.args.at.now.task.now =
    c.into_iter-write-iterator.ensures.into_iter_gives ∙ c.write_backs-write-items.ensures in
    let w = subst (λ l. WritesLeft P l all c.args.self.now c.loop-write.self) c.in-Some.ensures.steps
    c.loop-write.invariant.left in
    omega (arith, c.requires.places, ap length are, w.writes)

pub loop-write-preserved : goal.loop-write-preserved
loop-write-preserved c =
    let P = c.args.at.now.plan.now in
    let all = c.into_iter-write-iterator.result in
    let w = subst (λ l. WritesLeft P l all c.args.self.now c.loop-write.self) c.in-Some.ensures.steps
    c.loop-write.invariant.left in
    record {
      can_next = tt;
      is_finite = tt;
      from = λ e i. c.loop-write.invariant.from e (subst (λ l. IsIn e l) (sym c.in-Some.ensures.steps) (inr i));
      left = write_less P all c.next.new.self c.in-Some.write c.args.self.now c.loop-write.self c.add_write.new.self w
          c.add_write.ensures;
    }

pub returns : goal.returns
returns c =
    let P = c.args.at.now.plan.now in
    let all = c.into_iter-write-iterator.result in
    let are : all ≡ write_backs P c.args.at.now.task.now =
    c.into_iter-write-iterator.ensures.into_iter_gives ∙ c.write_backs-write-items.ensures in
    let w = subst (λ l. WritesLeft P l all c.args.self.now c.loop-write.self) c.in-None.ensures.steps.0
    c.loop-write.invariant.left in
    subst (λ l. AddsTiles (write_tiles P l) (length l) c.args.self.now c.loop-write.self) are
    (no_write P all c.args.self.now c.loop-write.self w)
