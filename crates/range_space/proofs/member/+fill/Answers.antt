use Rattle.std.proofs.Common.{rules, ◌≡◌, FitsSigned, w64, length, length-append, suc, ◌++◌, [], ◌∷◌, arith}
use Rattle.std.proofs.lemmas.Int.{to_z-of_z}
use Rattle.range_space.proofs.MemberLists.{given_if_ranged, next_extends}
use Rattle.range_space.proofs.member.+fill.Goals as goal

pub known_local-v-requires : goal.known_local-v-requires
known_local-v-requires t c =
    let a = rw c.as_slice-env.ensures.same at c.param_value-given.ensures in
    let s = rw c.in-Some.ensures.cases.0 at c.requires.spans in
    rw a (given_if_ranged c.in-Some.def.now c.in-Some.inner.now c.args.params.now c.args.values.now (length c.args.locals.now) c.requires.arity s)

pub returns : goal.returns
returns t c = λ full w.
    let a = rw c.as_slice-env.ensures.same at c.param_value-given.ensures in
    let only = rw (a, c.as_slice-env.ensures.same) at c.known_local-v.ensures in
    let whole = rw c.in-Some.ensures.cases.0 at w in
    let inner = next_extends c.in-Some.def.now c.in-Some.inner.now c.args.params.now c.args.values.now
    (length c.args.locals.now) c.args.locals.now full c.known_local-v.result only whole in
    let fits : FitsSigned w64 c.known_local-v.result = search rules in
    let pushed = simp to_z-of_z at c.push.ensures in
    let longer : length (c.args.locals.now ++ c.known_local-v.result ∷ [])
    ≡ suc (length c.args.locals.now) = let a = length-append c.args.locals.now
    (c.known_local-v.result ∷ []) in omega arith in
    c.fill.ensures full (rw (pushed, longer) inner)
