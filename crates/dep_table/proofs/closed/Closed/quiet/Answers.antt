use Rattle.std.proofs.Common.{◌↔◌, IsTrue, ap, ◌∙◌, subst}
use Rattle.dep_table.specs.ClosedTables.{ClosedView}
use Rattle.shard_meaning.specs.Calm.{HaveNoWork}
use Rattle.dep_table.proofs.closed.Closed.quiet.Goals as goal

pub returns : goal.returns
returns c =
    subst (λ ys. IsTrue c.have_no_work.result ↔ HaveNoWork ys)
    (c.as_slice.ensures.value ∙ ap (λ (t : ClosedView). t.shards) c.self.view_is) c.have_no_work.ensures
