use Rattle.std.proofs.Common.{◌∙◌, subst}
use Rattle.std.proofs.lemmas.Result.{err_from_is_err_and}
use Rattle.std.proofs.lemmas.List.{length-map}
use Rattle.ptg_base.specs.declared.edge.WriteBack.{WriteBack}
use Rattle.dep_iter.specs.Consistent.{all_writes}
use Rattle.edge_match.specs.Counted.{IsCounted}
use Rattle.edge_match.specs.Marks.{add_all, nothing, phase_marks}
use Rattle.edge_match.specs.declared.phase.Phase.TheVariants.{Connecting, Matching}
use Rattle.edge_match.proofs.Parts.{AllPass-append, failure_after, failure_before}
use Rattle.edge_match.proofs.matching.check_tasks.Goals as goal

pub returns-in_err-check_all : goal.returns-in_err-check_all
returns-in_err-check_all c =
    let P = c.args.plan.now in
    let p = err_from_is_err_and c.from_residual.result c.from_residual.ensures.1 in
    rw (p.1, p.2) (failure_before P nothing (phase_marks Connecting P) (phase_marks Matching P) _ (c.in_err-check_all.ensures.after nothing c.requires.nothing))

pub returns-in_err-check_all-2 : goal.returns-in_err-check_all-2
returns-in_err-check_all-2 c =
    let P = c.args.plan.now in
    let first = c.in_ok-check_all.ensures.after nothing c.requires.nothing in
    let p = err_from_is_err_and c.from_residual-in_err-check_all-2.result c.from_residual-in_err-check_all-2.ensures.1 in
    rw (p.1, p.2) (failure_after P nothing (phase_marks Connecting P) (phase_marks Matching P) _ first.0
    (c.in_err-check_all-2.ensures.after (add_all nothing (phase_marks Connecting P)) first.1))

pub returns : goal.returns
returns c =
    let P = c.args.plan.now in
    let first = c.in_ok-check_all.ensures.after nothing c.requires.nothing in
    let second = c.in_ok-check_all-2.ensures.after (add_all nothing (phase_marks Connecting P)) first.1 in
    let w = subst (IsCounted P c.check_all.new.counted) (c.all_edges_and_items_are_counted.ensures P) first.1 in (
      AllPass-append P nothing (phase_marks Connecting P) (phase_marks Matching P) first.0 second.0,
      record {
        all_tasks = c.requires.tasks;
        all_roots = c.root_count.ensures;
        all_edges = w.ins;
        all_data_edges = w.data_edges;
        all_writes = w.writes
            ∙ length-map (all_writes P) (λ (w : WriteBack). w.place);
      },
    )
