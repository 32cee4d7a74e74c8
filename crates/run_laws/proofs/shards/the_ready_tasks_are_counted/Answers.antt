use Rattle.shard_meaning.proofs.CallerLemmas.{ready-claim, ready-fires, ready-waits, ready-write, ready_at_most, ready_count}
use Rattle.run_laws.proofs.Ready.{calm_by_count}
use Rattle.std.proofs.Common.{arith}
use Rattle.ptg_base.specs.declared.edge.Item.TheVariants as item
use Rattle.shard_meaning.specs.Moment.{with_claim, with_send}
use Rattle.run_laws.proofs.shards.the_ready_tasks_are_counted.Goals as goal

pub returns : goal.returns
returns c = record {
  claim = λ P R t may. omega (arith, ready_count P R.state, ready_count P (with_claim R t).state, ready-claim P R t may);
  fires = λ P G R e con sound may last. omega (
    arith,
    ready_count P R.state,
    ready_count P
        (with_send P G R (item.Edge e)).state,
    ready-fires P G con R.state sound e may last,
  );
  waits = λ P G R e con sound may more. omega (
    arith,
    ready_count P R.state,
    ready_count P
        (with_send P G R (item.Edge e)).state,
    ready-waits P G con R.state sound e may more,
  );
  write = λ P G R w con sound may. omega (
    arith,
    ready_count P R.state,
    ready_count P
        (with_send P G R (item.Write w)).state,
    ready-write P G con R.state sound w may,
  );
  at_most = λ P G R sound. ready_at_most P G R.state sound;
  calm = calm_by_count;
}
