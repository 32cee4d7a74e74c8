use Rattle.std.proofs.Common.{sym, ◌∙◌}
use Rattle.std.proofs.lemmas.Bool.{false≢true}
use Rattle.flow_core.proofs.Lookups.{listed_first, listed_later}
use Rattle.flow_core.proofs.possible.+is_left.Goals as goal

pub returns-then-eq : goal.returns-then-eq
returns-then-eq t c =
    listed_first c.args.write.now c.in-Some.other c.args.left.now c.next.new.self c.in-Some.ensures.steps
    ((c.items_compare_field_by_field.ensures.write_backs.same c.in-Some.other c.args.write.now).0 (sym c.eq.ensures ∙ c.if-eq.true))

pub returns : goal.returns
returns t c =
    listed_later c.is_left.result c.args.write.now c.in-Some.other c.args.left.now c.next.new.self c.in-Some.ensures.steps
    (λ q. false≢true (sym c.if-eq.false ∙ c.eq.ensures ∙ (c.items_compare_field_by_field.ensures.write_backs.same
    c.in-Some.other c.args.write.now).1 q)) c.is_left.ensures
