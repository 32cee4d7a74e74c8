use Rattle.std.proofs.Common.{refl, arith}
use Rattle.edge_match.proofs.Conclusion.{consistent, sent_writes}
use Rattle.edge_match.proofs.accepting.accepts.Goals as goal

pub returns : goal.returns
returns c =
    let P = c.args.plan.now in
    let u = c.accept_all.new.tally in
    let w = c.in-Some.ensures.walk in
    let same = c.if-tally.false in
    let e = w.taken.edges in
    let d = w.taken.data_edges in
    let m = c.requires.tasks_at_most in
    let t = c.requires.tasks in
    let empty = rw c.as_slice.ensures at c.in_ok-new.ensures in (
      consistent P _ u w refl refl refl same empty c.requires.sound (omega arith) c.requires.prefixes_at_most,
      record {
        all_tasks = t;
        all_roots = c.in-Some.ensures.count;
        all_edges = omega arith;
        all_data_edges = omega arith;
        all_writes = sent_writes P _ u w refl refl refl same;
      },
    )
