use Rattle.ptg_words.specs.Readings.{texts}
use Rattle.ptg_words.proofs.Rules.{begins, orders, read_with, refused_operand, rest_proper}
use Rattle.ptg_words.proofs.reading.command.Goals as goal

pub read_verb-requires-clause-proper : goal.read_verb-requires-clause-proper
read_verb-requires-clause-proper c = rest_proper (texts c.args.words.now) c.requires

pub returns-clause-found : goal.returns-clause-found
returns-clause-found c =
    let verb = c.in-Some.verb in
    let words = texts c.args.words.now in
    let of = begins c.args.words.now _ verb c.in-len1-up.len_at_least c.requires c.in-Some.ensures in
    let read = read_with verb words of _ _ c.in_ok-read.read c.operand_ids.ensures.count c.options.ensures c.in_ok-read.ensures.found in
    orders verb words of c.in_ok-read.read c.formed.result read c.formed.ensures.found

pub returns-clause-usage : goal.returns-clause-usage
returns-clause-usage c e =
    let verb = c.in-Some.verb in
    let words = texts c.args.words.now in
    let of = begins c.args.words.now _ verb c.in-len1-up.len_at_least c.requires c.in-Some.ensures in
    let read = read_with verb words of _ _ c.in_ok-read.read c.operand_ids.ensures.count c.options.ensures c.in_ok-read.ensures.found in
    refused_operand verb words of c.in_ok-read.read read (c.formed.ensures.usage e)
