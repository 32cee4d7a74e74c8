use Rattle.std.proofs.Common.{◌≡◌, ◌++◌, List, Bor, map, arith, subst}
use Rattle.std.specs.Prelude.{IfOk}
use Rattle.std.proofs.lemmas.List.{take_all}
use Rattle.clap.specs.Simple.{App}
use Rattle.clap.specs.Walk.{Text}
use Rattle.clap.specs.Words.{app_of, rule_of}
use Rattle.ptg_words.specs.Commands.{command, operand_rule, option_rules, with_rules}
use Rattle.ptg_words.specs.Readings.{texts}
use Rattle.ptg_words.proofs.Building.{operands_more}
use Rattle.ptg_words.proofs.clap_words.verb_command.Goals as goal

pub loop-id-preserved : goal.loop-id-preserved
loop-id-preserved c =
    operands_more c.args.name.now (app_of c.in_ok-command.command) (app_of c.loop-id.command) (rule_of c.operand.result) c.args.ids.now c.loop-id.id-index _
    c.loop-id-test.true c.loop-id.invariant c.operand.ensures.rule (c.in_ok-command.ensures.shape c.operand.ensures.local)

pub returns : goal.returns
returns c =
    let Built : App → Type 0 = λ app. IfOk c.with_options.result (λ made. app_of made ≡ with_rules app (option_rules c.args.options)) in
    let Whole : List (Bor Text) → Type 0 =
    λ ids. IfOk c.with_options.result (λ made. app_of made ≡ command c.args.name.now (map operand_rule (texts ids) ++ option_rules c.args.options))
    in
    subst Whole (take_all c.loop-id.id-index c.args.ids.now (omega arith)) (subst Built c.loop-id.invariant c.with_options.ensures)
