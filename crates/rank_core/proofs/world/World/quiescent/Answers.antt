use Rattle.std.proofs.Common.{length, ap, sym, ◌∙◌, subst, slice_get}
use Rattle.std.proofs.lemmas.List.{nil_from_length}
use Rattle.std.proofs.lemmas.Bool.{false≢true}
use Rattle.rank_core.specs.World.{IsQuiet}
use Rattle.rank_core.specs.Views.{WorldView}
use Rattle.rank_core.proofs.Keeping.{empty_all_delivered, mail_empty, quiet_by_ranks, ranks_by_quiet}
use Rattle.rank_core.proofs.world.World.quiescent.Goals as goal

pub returns-then-is_empty : goal.returns-then-is_empty
returns-then-is_empty c =
    let i = c.self.inside in
    let k = c.self.invariant in
    let none = nil_from_length i.mail.under_way.entries (c.is_empty.ensures.0 c.if-is_empty.true) in (
      λ calm. subst (λ (w : WorldView). IsQuiet w.plan w.state) c.self.view_is (record {
        none_may_run = quiet_by_ranks i.matched.now i.given i.history.state i.ranks.items k.some_ranks k.shares
            (λ j y at. c.have_no_work.ensures.0 calm j y (ap (λ ys. slice_get ys j) c.as_slice.ensures.value ∙ at));
        all_delivered = empty_all_delivered i.history.state.machine i.history.state.messages i.mail.under_way.entries
            k.mail.under_way none;
      }),
      λ quiet.
          let q = subst (λ (w : WorldView). IsQuiet w.plan w.state) (sym c.self.view_is) quiet in
          c.have_no_work.ensures.1 (λ j y at. ranks_by_quiet i.matched.now i.given i.history.state i.ranks.items
          k.some_ranks k.shares q.none_may_run j y (sym (ap (λ ys. slice_get ys j) c.as_slice.ensures.value) ∙ at)),
    )

pub returns-else-is_empty : goal.returns-else-is_empty
returns-else-is_empty c =
    let i = c.self.inside in
    let k = c.self.invariant in (
      λ yes. absurd (false≢true (sym c.if-is_empty.false ∙ yes)),
      λ quiet.
          let q = subst (λ (w : WorldView). IsQuiet w.plan w.state) (sym c.self.view_is) quiet in
          c.is_empty.ensures.1 (ap length (mail_empty i.history.state.machine i.history.state.messages
          i.mail.under_way.entries k.mail.under_way q.all_delivered)),
    )
