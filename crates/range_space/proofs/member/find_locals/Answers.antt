use Rattle.std.proofs.Common.{sym}
use Rattle.std.proofs.lemmas.Bool.{OnFalse_at, OnFalse_from, OnTrue_at, OnTrue_from}
use Rattle.ptg_base.specs.Lists.{IsIn}
use Rattle.range_space.specs.Locals.{IsLocalsOf}
use Rattle.range_space.specs.Tasks.{tasks}
use Rattle.range_space.proofs.MemberLists.{locals_whole, none_whole, params_whole, task_whole}
use Rattle.range_space.proofs.member.find_locals.Goals as goal

pub returns-clause-found : goal.returns-clause-found
returns-clause-found c =
    let s = c.args.space.now in
    let params = c.args.params.now in
    let arity = sym c.requires.arity in
    let whole = rw (c.as_slice.ensures, c.as_slice-2.ensures.same, c.clear.ensures) at c.complete.ensures.found in
    OnTrue_from c.complete.result (IsIn params (tasks s) × IsLocalsOf s params c.complete.new.locals) (λ yes.
    let found = OnTrue_at yes whole in (
      task_whole s c.requires.well params arity _ found,
      record {
        full = locals_whole s c.requires.well params arity _ found;
        same_params = params_whole s c.requires.well params arity _ found;
      },
    ))

pub returns-clause-none : goal.returns-clause-none
returns-clause-none c =
    let s = c.args.space.now in
    let params = c.args.params.now in
    let none = rw (c.as_slice.ensures, c.as_slice-2.ensures.same, c.clear.ensures) at c.complete.ensures.none in
    OnFalse_from c.complete.result (IsIn params (tasks s) → ⊥) (λ no. none_whole s c.requires.well params (sym c.requires.arity) (OnFalse_at no none))
