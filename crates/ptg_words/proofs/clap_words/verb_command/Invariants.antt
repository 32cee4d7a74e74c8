use Rattle.std.proofs.Common.{◌≡◌, map, take}
use Rattle.clap.specs.Words.{app_of}
use Rattle.ptg_words.specs.Commands.{command, operand_rule}
use Rattle.ptg_words.specs.Readings.{texts}
use Rattle.ptg_words.proofs.clap_words.verb_command.Given as goal

abbrev pub invariant-loop-id : goal.invariant-loop-id
invariant-loop-id l = app_of l.command ≡ command l.name (map operand_rule (texts (take l.id-index l.ids)))
