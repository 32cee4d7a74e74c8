use Rattle.std.proofs.Common.{◌≡◌, ◌∷◌, [], ◌++◌, None, ap, ◌∙◌}
use Rattle.indexmap.proofs.CallerLemmas.{insert_entry-new}
use Rattle.ptg_base.specs.TaskComparing.{same_task}
use Rattle.dep_shard.specs.Content.{Entries, entry_in}
use Rattle.dep_shard.specs.Table.{TableContent}
use Rattle.dep_shard.proofs.table.Table.insert.Goals as goal
use Rattle.list_lemmas.proofs.Options.{on_success}

pub returns-clause-entries : goal.returns-clause-entries
returns-clause-entries c =
    let same : c.make_room.new.used.entries ≡ c.args.self.now.entries = c.make_room.ensures.entries ∙ ap (λ (t : TableContent). t.entries) c.self.view_is in
    let new : entry_in c.make_room.new.used.entries c.args.task ≡ None = ap (λ (es : Entries). entry_in es c.args.task) same ∙ c.requires.new in
    on_success _ _ c.unwrap-none.ensures c.insert.ensures.entries ∙ insert_entry-new same_task c.make_room.new.used c.args.task c.args.entry new
    ∙ ap (λ (es : Entries). es ++ (c.args.task, c.args.entry) ∷ []) same
