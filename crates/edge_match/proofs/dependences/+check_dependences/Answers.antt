use Rattle.std.proofs.Common.{sym, ◌∙◌, add-one}
use Rattle.list_lemmas.proofs.Places.{slice_get_at}
use Rattle.edge_match.proofs.Directed.{pass_at, skip, stop_at}
use Rattle.edge_match.proofs.dependences.+check_dependences.Goals as goal

pub returns-in_default-held_target : goal.returns-in_default-held_target
returns-in_default-held_target m c =
    let l = rw c.dependences.ensures at c.in-Some.ensures.lookup in
    let this = slice_get_at _ c.args.k c.in-Some.d.now l.3.0 l.1 in
    skip c.args.at.now c.args.direction c.args.k c.in-Some.d.now this (sym c.in_default-held_target.ensures) (rw add-one at c.check_dependences.ensures)

pub returns-in_err-check_target : goal.returns-in_err-check_target
returns-in_err-check_target m c =
    let l = rw c.dependences.ensures at c.in-Some.ensures.lookup in
    let this = slice_get_at _ c.args.k c.in-Some.d.now l.3.0 l.1 in
    let holds = sym c.in-Some-held_target.ensures in
    stop_at c.args.at.now c.args.direction c.args.k c.in-Some.d.now this _ holds c.from_residual.ensures.1 c.in_err-check_target.ensures

pub returns : goal.returns
returns m c =
    let l = rw c.dependences.ensures at c.in-Some.ensures.lookup in
    let this = slice_get_at _ c.args.k c.in-Some.d.now l.3.0 l.1 in
    let holds = sym c.in-Some-held_target.ensures in
    let any = sym c.first_only.ensures ∙ c.if-first_only.false in
    pass_at c.args.at.now c.args.direction c.args.k c.in-Some.d.now this _ holds any c.in_ok-check_target.ensures (rw add-one at c.check_dependences-2.ensures)
