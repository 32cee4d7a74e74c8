use Rattle.shard_meaning.proofs.CallerLemmas.{target_entry, target_fires, target_flow, target_goal, target_is_task, target_waits}
use Rattle.run_laws.proofs.Free.{target_free}
use Rattle.run_laws.proofs.shards.an_edge_finds_its_target.Goals as goal

pub returns : goal.returns
returns c = record {
  target = λ P G R e con sound may. (
    target_is_task P G con (λ t. 0) 0 R sound e may,
    target_flow P G con (λ t. 0) 0 R
        sound e may,
    target_goal P G con (λ t. 0) 0 R sound e may,
  );
  waits = λ P G of k R e y con sound may at h. target_waits P G con of k R sound e may y at h;
  fires = λ P G of k R e y x con sound may at h. target_fires P G con of k R sound e may y at h x;
  free = λ P G of k R e y con sound may at h. target_free P G con of k R sound e may y at h;
  entry = λ P G of k R e y v con sound may at h is. target_entry P G con of k R sound e may y at h v is;
}
