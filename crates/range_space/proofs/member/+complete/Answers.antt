use Rattle.std.proofs.Common.{length}
use Rattle.range_space.proofs.MemberLists.{given_if_ranged}
use Rattle.range_space.proofs.member.+complete.Goals as goal

pub local_of-requires : goal.local_of-requires
local_of-requires t c =
    let a = rw c.as_slice-env.ensures.same at c.param_value-given.ensures in
    let s = rw c.in-Some.ensures.cases.0 at c.requires.spans in
    rw a (given_if_ranged c.in-Some.def.now c.in-Some.inner.now c.args.params.now c.args.values.now (length c.args.locals.now) c.requires.arity s)
