use Rattle.std.proofs.Common.{◌≡◌, ◌+◌, ◌∷◌, [], ◌++◌, append_assoc, add-one, ap, sym, ◌∙◌, Option}
use Rattle.std.specs.Prelude.{option_map}
use Rattle.ptg_base.specs.declared.edge.Edge.{Edge}
use Rattle.ptg_base.specs.declared.edge.Item.{Item}
use Rattle.ptg_base.specs.declared.edge.Item.TheVariants as item
use Rattle.flow_meaning.specs.Starting.{starting_tile, tile_from, tiles_from, nothing_delivered}
use Rattle.flow_core.specs.Inputs.{edge_into, edge_of_source, edges_from}
use Rattle.std.proofs.lemmas.Result.{on_ok_weaker}
use Rattle.flow_core.proofs.Taking.{edge_of_its_source, tile_of_source}
use Rattle.flow_core.proofs.inputs.+push_inputs.Goals as goal

pub returns-clause-tiles : goal.returns-clause-tiles
returns-clause-tiles m c =
    let P = c.args.at.now.plan.now in
    let G = c.args.given.now in
    let t = c.args.at.now.task.now in
    let n = c.args.number in
    let f = c.in-Some.flow.now in
    let fs = c.in-Some.others.now in
    let old = c.args.inputs.now.tiles.items in
    let tile : c.in_ok-tile.tile ≡ starting_tile P G nothing_delivered t n f = c.in_ok-tile.ensures
    ∙ ap (tile_from P G nothing_delivered f) c.source_of-source.ensures
    ∙ tile_of_source P G nothing_delivered t n f in
    on_ok_weaker c.push_inputs.result
    (λ e. e ∙ ap (λ l. l ++ tiles_from P G nothing_delivered t (n + 1) fs) c.in_ok-push.ensures.items
    ∙ append_assoc old (c.in_ok-tile.tile ∷ []) (tiles_from P G nothing_delivered t (n + 1) fs)
    ∙ (λ i. old ++ tile i ∷ tiles_from P G nothing_delivered t (add-one n i) fs)
    ∙ ap (λ l. old ++ tiles_from P G nothing_delivered t n l) (sym c.in-Some.ensures.cases.0))
    c.push_inputs.ensures.tiles

pub returns-clause-edges : goal.returns-clause-edges
returns-clause-edges m c =
    let P = c.args.at.now.plan.now in
    let t = c.args.at.now.task.now in
    let n = c.args.number in
    let f = c.in-Some.flow.now in
    let fs = c.in-Some.others.now in
    let old = c.args.inputs.now.edges.items in
    let seen : Option Edge → Option Item = option_map (λ e. item.Edge e) in
    let edge : c.edge_of.result ≡ seen (edge_into P t n f) = c.edge_of.ensures
    ∙ ap (λ s. seen (edge_of_source s)) c.source_of-source.ensures ∙ ap seen (edge_of_its_source P t n f) in
    on_ok_weaker c.push_inputs.result
    (λ e. e ∙ ap (λ l. l ++ edges_from P t (n + 1) fs) c.in_ok-push-2.ensures.items ∙ append_assoc old (c.edge_of.result ∷ []) (edges_from P t (n + 1) fs)
    ∙ (λ i. old ++ edge i ∷ edges_from P t (add-one n i) fs) ∙ ap (λ l. old ++ edges_from P t n l) (sym c.in-Some.ensures.cases.0)) c.push_inputs.ensures.edges
