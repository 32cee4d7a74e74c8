use Rattle.clap.specs.Words.{app_of}
use Rattle.ptg_words.proofs.ClapCommands.{simple_first}
use Rattle.ptg_words.proofs.clap_words.parsed.Goals as goal

pub returns-in-Ok-clause-passes : goal.returns-in-Ok-clause-passes
returns-in-Ok-clause-passes c = (c.in-Ok.ensures.kinds c.requires, (c.in-Ok.ensures.matches (simple_first (app_of c.args.command) c.requires)).0)
