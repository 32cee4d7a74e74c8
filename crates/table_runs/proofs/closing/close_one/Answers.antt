use Rattle.std.proofs.Common.{[], ◌∷◌, ◌++◌, ap, ◌∙◌}
use Rattle.dep_table.specs.Tables.{id_of}
use Rattle.table_runs.proofs.Closes.{all_of_one}
use Rattle.table_runs.proofs.closing.close_one.Goals as goal

pub close-requires : goal.close-requires
close-requires c =
    let pushed = c.in_ok-push.ensures.items ∙ ap (λ x. x ++ c.args.pass ∷ []) c.new-passes.ensures.items in
    all_of_one c.all_passes_stay_all.ensures.names c.all_passes_stay_all.ensures.first (id_of c.args.table) c.args.pass
    _ pushed c.requires.pass c.requires.names
