use Rattle.std.proofs.Common.{rules, ◌≡◌, sym, subst, ap, Some, None, ◌∙◌, slice_get}
use Rattle.ptg_base.specs.Entry.{Entry}
use Rattle.ptg_base.specs.Task.{Task}
use Rattle.dep_shard.specs.Content.{Content, Entries, IsReady, Updates}
use Rattle.dep_shard.proofs.QueueLemmas.{leaves, one_row}
use Rattle.dep_shard.proofs.shard.Shard.take_at.Goals as goal

pub invariant_of-self-2 : goal.invariant_of-self-2
invariant_of-self-2 c =
    let es = c.self.inside.table.entries in
    let t = c.in_ok-_task._task in
    let e = c.in_ok-_task.entry in
    let at : slice_get es c.args.index ≡ Some (t, e) = sym c.in_ok-_task.ensures.entry in
    let asked : slice_get es c.args.index ≡ Some (c.requires.ready.task, c.requires.ready.entry) = ap
    (λ (y : Content). slice_get y.entries c.args.index) c.self.view_is ∙ c.requires.ready.at in
    let ready : IsReady e = subst IsReady ((one_row es c.args.index _ _ _ _ asked at).1) c.requires.ready.ready in
    leaves es c.swap_remove_index.new.self.entries c.args.index t e c.self.inside.queue _
    c.self.invariant at c.in_ok-_task.ensures.entries c.in_ok-_task.ensures.updates ready

pub returns-clause-some : goal.returns-clause-some
returns-clause-some c t k =
    let es = c.self.inside.table.entries in
    let at : slice_get es c.args.index ≡ Some (c.in_ok-_task._task, c.in_ok-_task.entry) = sym c.in_ok-_task.ensures.entry in
    let same : es ≡ c.args.self.now.entries = ap (λ (y : Content). y.entries) c.self.view_is in
    let view = ap (λ (fs : Entries). slice_get fs c.args.index) same in
    let here = one_row es c.args.index _ _ _ _ at (view ∙ k.at) in
    let up : Updates es c.swap_remove_index.new.self.entries t None = subst
    (λ (u : Task). Updates es c.swap_remove_index.new.self.entries u None) here.0 c.in_ok-_task.ensures.updates in
    record {
      had = record {
        entry = k.entry;
        is = k.is;
        ready = subst IsReady ((one_row es c.args.index _ _ _ _ (view ∙ c.requires.ready.at) (view ∙ k.at)).1) c.requires.ready.ready;
        handed = c.into_arrivals.ensures ∙ ap (λ (e : Entry). e.tiles) here.1;
      };
      entries = subst (λ (fs : Entries). Updates fs c.swap_remove_index.new.self.entries t None) same up;
      running = search rules;
      ended = search rules;
      written = search rules;
      trapped = search rules;
      elems = search rules;
    }
