use Rattle.std.proofs.Common.{take}
use Rattle.clap.specs.Words.{found_of}
use Rattle.ptg_words.specs.Readings.{HasFirstValues, texts}
use Rattle.ptg_words.proofs.clap_words.operands_in.Given as goal

abbrev pub invariant-loop-id : goal.invariant-loop-id
invariant-loop-id l = HasFirstValues (found_of l.matches) (texts (take l.id-index l.ids)) (texts l.words.items)
