use Rattle.std.proofs.Common.{◌≡◌, suc, ap, sym, ◌∙◌, None, slice_set}
use Rattle.ptg_base.specs.declared.edge.Edge.{Edge}
use Rattle.ptg_base.specs.declared.edge.Item.TheVariants as item
use Rattle.dep_iter.proofs.CallerLemmas.{Edge-injective}
use Rattle.flow_meaning.specs.Machine.{first_tile, sent_tile}
use Rattle.flow_meaning.specs.Starting.{starting_tile, tiles_from, nothing_delivered}
use Rattle.flow_core.specs.Inputs.{edge_into}
use Rattle.flow_core.proofs.Kept.{other_tile as other_item, takes_none, takes_one}
use Rattle.flow_core.proofs.Taking.{an_item, edge_goes, edge_tile, no_item, one_done, other_tile, set_at}
use Rattle.flow_core.proofs.inputs.take_tile.Goals as goal

pub returns-in-None-clause-tiles : goal.returns-in-None-clause-tiles
returns-in-None-clause-tiles c = λ P G t before f rest is len old.
    let n = c.args.number in
    let none : edge_into P t n f ≡ None = no_item (edge_into P t n f) (sym is ∙ c.in-None.is) in
    one_done P G (sent_tile c.args.sent.now.edges) t n f rest before c.args.tiles.now.items (starting_tile P G nothing_delivered t n f)
    (other_tile P G nothing_delivered (sent_tile c.args.sent.now.edges) t n f none) old

pub returns-in-None-clause-kept : goal.returns-in-None-clause-kept
returns-in-None-clause-kept c = λ P t f is. takes_none t c.args.sent.now.edges

pub returns-clause-tiles : goal.returns-clause-tiles
returns-clause-tiles c = λ P G t before f rest is len old.
    let n = c.args.number in
    let found = an_item (edge_into P t n f) c.in-Some.edge (sym is ∙ c.in-Some.is) in
    let d = sent_tile c.args.sent.now.edges in
    one_done P G d t n f rest before c.set_tile.new.tiles.items c.take.result
    (c.take.ensures.tile ∙ ap (λ i. first_tile i c.args.sent.now.edges) (sym found.2) ∙ sym (edge_tile P G d t n f found.0 found.1))
    (c.set_tile.ensures ∙ ap (λ l. slice_set l n c.take.result) old
    ∙ set_at before (tiles_from P G nothing_delivered t (suc n) rest) (starting_tile P G nothing_delivered t n f)
    c.take.result n len)

pub returns-clause-others : goal.returns-clause-others
returns-clause-others c = λ P t f is e differs.
    let n = c.args.number in
    let found = an_item (edge_into P t n f) c.in-Some.edge (sym is ∙ c.in-Some.is) in
    let goes = edge_goes P t n f found.0 found.1 in
    let other = c.take.ensures.others (item.Edge e) (λ q. differs
    (sym (ap (λ (x : Edge). x.in_flow) (Edge-injective found.0 e (found.2 ∙ q))) ∙ goes.in_flow)) in
    other_item c.in-Some.edge (item.Edge e) c.args.sent.now.edges c.take.new.self.edges other

pub returns-clause-kept : goal.returns-clause-kept
returns-clause-kept c = λ P t f is.
    let found = an_item (edge_into P t c.args.number f) c.in-Some.edge (sym is ∙ c.in-Some.is) in
    let goes = edge_goes P t c.args.number f found.0 found.1 in
    takes_one t found.0 goes.to c.args.sent.now.edges c.take.new.self.edges (λ j differs. c.take.ensures.others j (λ q. differs (found.2 ∙ q)))
