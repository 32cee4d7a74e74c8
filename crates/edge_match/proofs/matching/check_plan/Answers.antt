use Rattle.std.proofs.Common.{slice_index_or}
use Rattle.std.proofs.lemmas.Option.{slice_get-get_or}
use Rattle.dep_iter.proofs.CallerLemmas.{well_space}
use Rattle.edge_match.proofs.matching.check_plan.Goals as goal

pub space_size-requires-clause-defs_at_most : goal.space_size-requires-clause-defs_at_most
space_size-requires-clause-defs_at_most c =
    let P = c.args.plan.now in
    rw c.as_slice.ensures (λ k d h. (well_space P k (slice_index_or P.spaces k d) (slice_get-get_or P.spaces k d h)).definitions_at_most)
