use Rattle.std.proofs.Common.{ℕ, List, ◌++◌, ap, flat_map, refl, sym, ◌∙◌}
use Rattle.ptg_base.specs.Task.{Task}
use Rattle.plan_core.specs.declared.plan.Plan.{Plan}
use Rattle.report_text.specs.Found.{chain_head, level_line, link_line}
use Rattle.report_text.proofs.Putting.{puts_cut, puts_then}
use Rattle.report_text.proofs.certificate.put_chain.Goals as goal

abbrev rows : Plan → List Task → List (Task × ℕ) → List ℕ
rows plan ts levels = flat_map (link_line plan) ts ++ flat_map (level_line plan) levels

pub returns-in_err-put_chain_head : goal.returns-in_err-put_chain_head
returns-in_err-put_chain_head g c =
    let rest = rows c.args.plan.now c.args.found.now.chain c.args.found.now.levels in
    puts_cut rest _ c.in_err-put_chain_head.ensures c.from_residual.ensures.0 refl

pub returns-in_err-put_list : goal.returns-in_err-put_list
returns-in_err-put_list g c =
    let plan = c.args.plan.now in
    let found = c.args.found.now in
    let is = ap (λ (ts : List Task). chain_head found ++ rows plan ts found.levels) (sym c.as_slice-chain.ensures) in
    let cut = puts_cut (flat_map (level_line plan) found.levels) (rows plan c.as_slice-chain.result.now found.levels)
    c.in_err-put_list.ensures c.from_residual-in_err-put_list.ensures.0 refl in
    puts_then _ c.in_ok-put_chain_head.ensures cut is

pub returns : goal.returns
returns g c =
    let plan = c.args.plan.now in
    let found = c.args.found.now in
    let is = ap (λ (ts : List Task). chain_head found ++ rows plan ts found.levels) (sym c.as_slice-chain.ensures)
    ∙ ap (λ (ls : List (Task × ℕ)). chain_head found ++ rows plan c.as_slice-chain.result.now ls) (sym c.as_slice-levels.ensures) in
    puts_then _ c.in_ok-put_chain_head.ensures (puts_then (rows plan c.as_slice-chain.result.now
    c.as_slice-levels.result.now) c.in_ok-put_list.ensures c.put_list-2.ensures refl) is
