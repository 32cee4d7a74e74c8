use Rattle.std.proofs.Common.{◌≡◌, [], ◌++◌, ◌∙◌, ap, arith, option_to_list}
use Rattle.std.proofs.lemmas.Grind.{common_steps}
use Rattle.dep_table.specs.Tables.{id_of}
use Rattle.dep_table.proofs.Closings.{has_one_name, joined_first, joined_next, joined_quiet, taken_pass}
use Rattle.dep_table.proofs.table.DepTable.join_all.Goals as goal

pub loop-pass-init : goal.loop-pass-init
loop-pass-init c =
    joined_first (id_of c.args.self.now) c.args.passes.items c.pop.new.self.items c.unwrap-last.result
    (c.pop.ensures.items ∙ ap (λ o. c.pop.new.self.items ++ option_to_list o) c.unwrap-last.ensures) (record { each = c.requires.each; all = c.requires.all })

pub join-last-requires-clause-of : goal.join-last-requires-clause-of
join-last-requires-clause-of c = ((taken_pass _ _ _ _ _ _ c.in-Some.ensures.items c.loop-pass.invariant).of, c.loop-pass.invariant.of)

pub join-last-requires-clause-named : goal.join-last-requires-clause-named
join-last-requires-clause-named c = has_one_name c.in-Some.pass _ (taken_pass _ _ _ _ _ _ c.in-Some.ensures.items c.loop-pass.invariant)

pub loop-pass-preserved : goal.loop-pass-preserved
loop-pass-preserved c =
    joined_next _ _ c.loop-pass.passes.items c.pop-in-loop-pass.new.self.items c.in-Some.pass c.loop-pass.last
    c.join-last.result c.in-Some.ensures.items c.join-last.ensures.of c.join-last.ensures.me c.loop-pass.invariant

pub returns-clause-quiet : goal.returns-clause-quiet
returns-clause-quiet c =
    let empty : c.loop-pass.passes.items ≡ [] = grind (arith, common_steps, c.in_default.ensures.cases) in joined_quiet _ _ _ _ empty c.loop-pass.invariant
