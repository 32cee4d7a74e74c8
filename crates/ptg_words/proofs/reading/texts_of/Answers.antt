use Rattle.std.proofs.Common.{◌∙◌, arith, subst}
use Rattle.std.specs.List.{All}
use Rattle.std.proofs.lemmas.List.{take_all}
use Rattle.ptg_words.specs.Words.{IsProper}
use Rattle.ptg_words.proofs.Rules.{texts_more, proper_more}
use Rattle.ptg_words.proofs.reading.texts_of.Goals as goal

pub loop-word-preserved : goal.loop-word-preserved
loop-word-preserved c =
    let i = c.loop-word.word-index in
    let list = c.args.list.now in
    let d = c.word-item.result in
    let proper = c.in_ok-proper.ensures in
    record {
      same = texts_more c.loop-word.words.items c.push.new.self.items list i d c.in_ok-proper.field-0
          c.in_ok-push.ensures.items c.loop-word.invariant.same c.loop-word-test.true (proper.0 ∙ c.word-item.is);
      proper = proper_more list i d c.loop-word.invariant.proper c.loop-word-test.true (subst IsProper c.word-item.is proper.1);
    }

pub returns-clause-found : goal.returns-clause-found
returns-clause-found c = (
  c.loop-word.invariant.same ∙ take_all c.loop-word.word-index c.args.list.now (omega arith),
  subst (All IsProper) (take_all c.loop-word.word-index c.args.list.now (omega arith)) c.loop-word.invariant.proper,
)
