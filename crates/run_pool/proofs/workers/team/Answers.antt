use Rattle.std.proofs.Common.{◌≡◌, subst, Some, slice_get}
use denote.Param.Send.{sendable}
use Rattle.std.proofs.Crossing.{crosses}
use Rattle.list_lemmas.proofs.Places.{slice_get_at}
use Rattle.run_pool.proofs.workers.team.Goals as goal

pub for_each_mut-requires-clause-accepts : goal.for_each_mut-requires-clause-accepts
for_each_mut-requires-clause-accepts g c κs within = λ i p below is. (
  c.requires.ready i p.now (subst (λ xs. slice_get xs i ≡ Some p.now) c.as_mut_slice.ensures.value
      (slice_get_at c.as_mut_slice.result.now i p.now below is)),
  (c.requires.traced, search (sendable, crosses)),
)
