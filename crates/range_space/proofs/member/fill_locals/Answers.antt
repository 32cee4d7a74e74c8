use Rattle.std.proofs.Common.{ap, ◌∙◌, sym, subst, length, []}
use Rattle.range_space.specs.Completion.{IsCompletion}
use Rattle.range_space.proofs.MemberLists.{arity_of_task, locals_whole, params_whole, whole_of_task}
use Rattle.range_space.proofs.member.fill_locals.Goals as goal
use Rattle.range_space.proofs.member.fill_locals.Goals.{After-fill}

pub fill-requires-clause-arity : goal.fill-requires-clause-arity
fill-requires-clause-arity c = ap length c.as_slice-2.ensures.same ∙ arity_of_task c.args.space.now c.args.params.now c.requires.task

whole : (c : After-fill) → IsCompletion c.args.space.now.defs c.args.space.now.params c.args.params.now 0 [] c.fill.new.locals
whole c =
    let s = c.args.space.now in
    let w = whole_of_task s c.requires.well c.args.params.now (arity_of_task s c.args.params.now c.requires.task) c.requires.task in
    let only = rw (c.as_slice.ensures, c.as_slice-2.ensures.same, c.clear.ensures) at c.fill.ensures in
    subst (IsCompletion s.defs s.params c.args.params.now 0 []) (sym (only w.0 w.1)) w.1

pub returns : goal.returns
returns c =
    let s = c.args.space.now in
    let arity = arity_of_task s c.args.params.now c.requires.task in
    record {
      full = locals_whole s c.requires.well c.args.params.now arity c.fill.new.locals (whole c);
      same_params = params_whole s c.requires.well c.args.params.now arity c.fill.new.locals (whole c);
    }
