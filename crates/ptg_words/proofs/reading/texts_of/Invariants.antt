use Rattle.std.proofs.Common.{◌≡◌, take}
use Rattle.std.specs.List.{All}
use Rattle.ptg_words.specs.Words.{IsProper}
use Rattle.ptg_words.specs.Readings.{texts}
use Rattle.ptg_words.proofs.reading.texts_of.Given as goal

abbrev pub invariant-loop-word : goal.invariant-loop-word
invariant-loop-word l = record {
  same : texts l.words.items ≡ take l.word-index l.list;
  proper : All IsProper (take l.word-index l.list);
}
