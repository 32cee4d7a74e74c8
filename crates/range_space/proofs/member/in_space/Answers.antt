use Rattle.std.proofs.Common.{sym}
use Rattle.range_space.proofs.MemberLists.{task_whole, none_whole, decided_by}
use Rattle.range_space.proofs.member.in_space.Goals as goal

pub returns : goal.returns
returns c =
    let s = c.args.space.now in
    let found = rw (c.as_slice.ensures, c.as_slice-2.ensures.same, c.new-locals.ensures) at c.complete.ensures.found in
    let none = rw (c.as_slice.ensures, c.as_slice-2.ensures.same, c.new-locals.ensures) at c.complete.ensures.none in
    decided_by c.complete.result found none
    (task_whole s c.requires.well c.args.params.now (sym c.requires.arity) _)
    (none_whole s c.requires.well c.args.params.now (sym c.requires.arity))
