use Rattle.ptg_top.proofs.table_run.run_on_table.Goals as goal

pub returns : goal.returns
returns g c =
    c.run_prepared.ensures.ran c.args.matched c.args.given c.args.settings c.in_ok-prepared.ensures
