use Rattle.cert_check.proofs.Linking.{any_in}
use Rattle.cert_check.proofs.cycles.is_among.Goals as goal

pub returns : goal.returns
returns c = any_in c.args.t.now c.args.tasks.now c.contains.result c.contains.ensures.value
