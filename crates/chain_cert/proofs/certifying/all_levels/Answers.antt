use Rattle.std.proofs.Common.{◌∙◌, ap, arith}
use Rattle.std.proofs.lemmas.Result.{IfOk-weaker}
use Rattle.chain_cert.specs.Finding.{rows_by}
use Rattle.chain_cert.proofs.Whole.{are_levels, different, order_once}
use Rattle.chain_cert.proofs.certifying.all_levels.Goals as goal

pub sorted-requires : goal.sorted-requires
sorted-requires c = different c.args.order.items (order_once c.args.m.now c.args.order.items c.requires.legal)

pub returns : goal.returns
returns c =
    let table = c.args.table.now.entries in
    IfOk-weaker c.rows_by.result _ _
    (λ rows is ws h. are_levels c.args.m.now c.args.order.items c.requires.legal (omega (arith, c.requires.all)) ws
    table h rows.items (is ∙ ap (rows_by table) (c.as_slice.ensures.value ∙ c.sorted.ensures))) c.rows_by.ensures
