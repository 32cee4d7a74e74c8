use Rattle.std.proofs.Common.{◌≡◌, None, ap, sym, ◌∙◌, arith, slice_get}
use Rattle.std.specs.Option.{option_map}
use Rattle.std.specs.Map.Iter.{deref_pair}
use Rattle.shard_answer.specs.Parts.{wait_row}
use Rattle.shard_answer.proofs.Steps.{none_past, pushed_row}
use Rattle.shard_answer.proofs.rows.push_waits_of.Goals as goal
use Rattle.shard_answer.proofs.rows.push_waits_of.Goals.{in-Some+in_ok-push, in_default}

pub loop-index-preserved : goal.loop-index-preserved
loop-index-preserved c =
    let es = c.args.shard.now.entries in
    elim c.match-entry.branch [
      | in-Some+in_ok-push w ↦
          record {
            rows = ap (λ v. v.items) w.rows-is
                ∙ pushed_row wait_row es c.loop-index.index (w.in-Some.task.now, w.in-Some.entry.now)
                c.args.rows.now.items c.loop-index.rows.items w.push.new.self.items _ (sym w.in-Some.ensures.value)
                (λ i. record { task = w.copy.ensures i; arrived = w.arrived.ensures i; goal = w.goal.ensures i })
                c.loop-index.invariant.rows w.in_ok-push.ensures.items;
            len = omega (arith, ap (λ v. v.len) w.rows-is, w.in_ok-push.ensures.len, c.loop-index.invariant.len);
            capacity = omega (arith, ap (λ v. v.cap) w.rows-is, w.push.ensures.capacity, c.loop-index.invariant.capacity);
          }
      | in_default w ↦
          let none : slice_get es c.loop-index.index ≡ None = sym c.entry.ensures.value ∙ ap (option_map deref_pair) w.in_default.is in
          absurd (none_past es c.loop-index.index (omega (arith, c.loop-index-test.true, c.len-index-end.ensures.len)) none)
    ]
