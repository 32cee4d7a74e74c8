use Rattle.std.proofs.Common.{[], ◌∷◌, ◌∙◌, ap, codes, refl}
use Rattle.clap.specs.Simple.{with_rule}
use Rattle.clap.specs.Words.{app_of}
use Rattle.ptg_words.specs.Commands.{option_rule}
use Rattle.ptg_words.proofs.Building.{one_more}
use Rattle.ptg_words.proofs.clap_words.with_counts.Goals as goal

pub returns : goal.returns
returns c =
    one_more c.arg-2.result c.in_ok-command.command c.option-2.result (app_of c.args.command)
    (option_rule (codes "workers") ∷ []) _ (option_rule (codes "shards"))
    c.option-2.ensures.local c.option-2.ensures.rule
    (c.in_ok-command.ensures.shape c.option.ensures.local ∙ ap (with_rule (app_of c.args.command)) c.option.ensures.rule) refl c.arg-2.ensures
