use Rattle.clap.specs.Words.{first_value, found_of}
use Rattle.ptg_words.proofs.Building.{all_have_values, values_more}
use Rattle.ptg_words.proofs.clap_words.operands_in.Goals as goal

pub returns-in_default-clause-usage : goal.returns-in_default-clause-usage
returns-in_default-clause-usage c e values h =
    all_have_values (first_value (found_of c.args.matches.now)) c.args.ids.now values c.loop-id.id-index _ c.loop-id-test.true h c.in_default.ensures

pub loop-id-preserved : goal.loop-id-preserved
loop-id-preserved c =
    values_more (first_value (found_of c.args.matches.now)) c.args.ids.now c.loop-id.id-index _ c.loop-id.words.items c.push.new.self.items c.in-Some.word
    c.loop-id-test.true c.loop-id.invariant c.in-Some.ensures c.in_ok-push.ensures.items
