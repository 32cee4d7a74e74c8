use Rattle.flow_meaning.proofs.CallerLemmas.{has_inputs, it_ends}
use Rattle.rank_core.proofs.Happening.{fed, run_ends}
use Rattle.rank_core.proofs.laws.a_task_runs_on_its_inputs.Goals as goal

pub returns : goal.returns
returns c = record {
  now = λ P G r w t con sound may. has_inputs P G con w.machine sound.state t (fed P G con r w sound t may);
  then = λ P G r w t con sound claimed. has_inputs P G con w.machine sound.state t
      (sound.state.claimed_have_all t claimed);
  end = λ P G r w t con sound may. (
    run_ends P G con r w sound t may,
    it_ends P G con w.machine sound.state t
        (fed P G con r w sound t may),
  );
}
