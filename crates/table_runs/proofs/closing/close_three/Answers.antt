use Rattle.dep_table.specs.Tables.{id_of}
use Rattle.table_runs.proofs.Closes.{all_of_three, three_pushed}
use Rattle.table_runs.proofs.closing.close_three.Goals as goal

pub close-requires : goal.close-requires
close-requires c =
    let a = c.args in
    let pushed = three_pushed a.mine a.second a.first _ _ _ _ c.new-passes.ensures.items c.in_ok-push.ensures.items
    c.in_ok-push-2.ensures.items c.in_ok-push-3.ensures.items in
    let laws = c.all_passes_stay_all.ensures in
    all_of_three laws.split laws.names laws.first (id_of a.table) a.mine a.second a.first _ pushed c.requires.mine.0
    c.requires.second.0 c.requires.first.0 c.requires.mine.1 c.requires.second.1 c.requires.first.1
