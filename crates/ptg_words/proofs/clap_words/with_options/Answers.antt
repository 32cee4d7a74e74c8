use Rattle.std.proofs.Common.{ap, codes, sym}
use Rattle.clap.specs.Words.{app_of}
use Rattle.ptg_words.specs.declared.options.Options.TheVariants.{Counts}
use Rattle.ptg_words.specs.Commands.{flag_rule, option_rules}
use Rattle.ptg_words.proofs.Building.{one_more}
use Rattle.ptg_words.proofs.clap_words.with_options.Goals as goal

pub returns-in_ok-command-in-CountsAndPreload : goal.returns-in_ok-command-in-CountsAndPreload
returns-in_ok-command-in-CountsAndPreload c =
    one_more c.arg.result c.in_ok-command-in-CountsAndPreload.command c.flag.result (app_of c.args.command)
    (option_rules Counts) (option_rules c.args.options) (flag_rule (codes "preload"))
    c.flag.ensures.local c.flag.ensures.rule c.in_ok-command-in-CountsAndPreload.ensures (ap option_rules (sym c.in-CountsAndPreload.is)) c.arg.ensures
