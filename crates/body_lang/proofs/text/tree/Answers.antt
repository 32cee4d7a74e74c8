use Rattle.body_lang.proofs.WholeText.{read_is, tree_exact}
use Rattle.body_lang.proofs.text.tree.Goals as goal

pub returns : goal.returns
returns c = record { exact = tree_exact c.args.tokens.now c.whole.result (read_is c.whole.result _ c.whole.ensures) }
