use Rattle.std.proofs.Common.{rules}
use Rattle.ptg_base.specs.Task.{Task}
use Rattle.run_answer.proofs.CallerLemmas.{sorted_from_sort_by}
use Rattle.chain_cert.proofs.certifying.sorted.Goals as goal

pub returns : goal.returns
returns c =
    sorted_from_sort_by (λ (t : Task). t) c.args.tasks.items c.sort_unstable_by.new.self.items
    c.sort_unstable_by.ensures.sorted c.sort_unstable_by.ensures.permutation c.requires (λ f a r g h. search rules)
