use Rattle.std.proofs.Common.{add-one, sym, ◌∙◌, length, not, ap}
use Rattle.std.proofs.lemmas.Bool.{OnTrue_from, false≢true, ltb-false}
use Rattle.list_lemmas.proofs.Truth.{on_true_weaker}
use Rattle.list_lemmas.proofs.Places.{slice_get_at}
use Rattle.edge_match.proofs.TakenEdges.{takes_alone, takes_more, takes_none, takes_nothing}
use Rattle.edge_match.proofs.taking.+take_from.Goals as goal

pub returns-in_default : goal.returns-in_default
returns-in_default m c =
    let past = rw c.as_slice.ensures at (ltb-false c.args.k (length c.as_slice.result.now) (sym c.in_default.ensures.lookup.0)) in
    let kind = c.takes_tile.ensures in
    OnTrue_from (not c.takes_tile.result) _ (λ h. takes_nothing c.args.at.now c.args.k c.args.ins.now past
    (λ takes. false≢true (sym (ap not (kind ∙ takes)) ∙ h)))

pub returns-in_default-held_target : goal.returns-in_default-held_target
returns-in_default-held_target m c =
    let l = rw c.as_slice.ensures at c.in-Some.ensures.lookup in
    let this = slice_get_at c.args.at.now.flow.now.ins c.args.k c.in-Some.d.now l.3.0 l.1 in
    on_true_weaker c.take_from.result
    (takes_none c.args.at.now c.args.k c.in-Some.d.now this c.args.ins.now c.take_from.new.ins (sym c.in_default-held_target.ensures))
    (rw add-one at c.take_from.ensures)

pub returns-then-is_data : goal.returns-then-is_data
returns-then-is_data m c =
    let l = rw c.as_slice.ensures at c.in-Some.ensures.lookup in
    let this = slice_get_at c.args.at.now.flow.now.ins c.args.k c.in-Some.d.now l.3.0 l.1 in
    takes_alone c.args.at.now c.args.k c.in-Some.d.now this c.in-Some-held_target.target.now (sym c.in-Some-held_target.ensures) c.args.ins.now
    c.take_target.new.ins (sym c.is_data.ensures ∙ c.if-is_data.true) c.if-not-take_target.ensures

pub returns : goal.returns
returns m c =
    let l = rw c.as_slice.ensures at c.in-Some.ensures.lookup in
    let this = slice_get_at c.args.at.now.flow.now.ins c.args.k c.in-Some.d.now l.3.0 l.1 in
    on_true_weaker c.take_from-2.result
    (takes_more c.args.at.now c.args.k c.in-Some.d.now this c.in-Some-held_target.target.now (sym c.in-Some-held_target.ensures) c.args.ins.now
    c.take_target.new.ins c.take_from-2.new.ins (sym c.is_data.ensures ∙ c.if-is_data.false) c.if-not-take_target.ensures)
    (rw add-one at c.take_from-2.ensures)
