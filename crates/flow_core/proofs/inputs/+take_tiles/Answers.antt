use Rattle.std.proofs.Common.{◌≡◌, ◌+◌, [], ◌∷◌, ◌++◌, add-one, append_assoc, ap, sym, subst, ◌∙◌, arith}
use Rattle.flow_meaning.specs.Starting.{starting_tile, tiles_from, nothing_delivered}
use Rattle.flow_core.proofs.Kept.{takes_none, takes_then}
use Rattle.flow_core.proofs.Taking.{first_edge, length_push, no_edges, tiles_same}
use Rattle.flow_core.proofs.inputs.+take_tiles.Goals as goal
use Rattle.flow_meaning.specs.Machine.{sent_tile}

pub returns-clause-tiles : goal.returns-clause-tiles
returns-clause-tiles m c = λ P G t before fs is len old.
    let n = c.args.number in
    let d = sent_tile c.args.sent.now.edges in
    let h = first_edge P t n fs c.in-Some.edge.now c.in-Some.others.now (sym c.in-Some.ensures.cases.0 ∙ is) in
    let y = starting_tile P G d t n h.flow in
    let step = c.take_tile.ensures.tiles P G t before h.flow h.others h.first len
    (subst (λ l. c.args.tiles.now.items ≡ before ++ tiles_from P G nothing_delivered t n l) h.split old) in
    let more = c.take_tiles.ensures.tiles P G t (before ++ y ∷ []) h.others h.rest (length_push before y n len) step in
    let same = tiles_same P G (sent_tile c.take_tile.new.sent.edges) d t (n + 1)
    (λ e to le. c.take_tile.ensures.others P t h.flow h.first e (λ q. absurd (omega (arith, q, le)))) (n + 1)
    h.others (omega arith) in
    more ∙ ap (λ l. (before ++ y ∷ []) ++ l) same ∙ append_assoc before (y ∷ []) (tiles_from P G d t (n + 1) h.others)
    ∙ ap (λ k. before ++ y ∷ tiles_from P G d t k h.others) (add-one n) ∙ ap (λ l. before ++ tiles_from P G d t n l) (sym h.split)

pub returns-in_default-clause-tiles : goal.returns-in_default-clause-tiles
returns-in_default-clause-tiles m c = λ P G t before fs is len old.
    let none = no_edges P t c.args.number fs c.args.edges.now c.in_default.ensures.cases is in
    old ∙ ap (λ l. before ++ tiles_from P G nothing_delivered t c.args.number l) none
    ∙ sym (ap (λ l. before ++ tiles_from P G (sent_tile c.args.sent.now.edges) t c.args.number l) none)

pub returns-clause-kept : goal.returns-clause-kept
returns-clause-kept m c = λ P t fs is.
    let h = first_edge P t c.args.number fs c.in-Some.edge.now c.in-Some.others.now (sym c.in-Some.ensures.cases.0 ∙ is) in
    takes_then t c.args.sent.now.edges c.take_tile.new.sent.edges c.take_tiles.new.sent.edges
    (c.take_tile.ensures.kept P t h.flow h.first) (c.take_tiles.ensures.kept P t h.others h.rest)

pub returns-in_default-clause-kept : goal.returns-in_default-clause-kept
returns-in_default-clause-kept m c = λ P t fs is. takes_none t c.args.sent.now.edges
