use Rattle.std.proofs.Common.{[], sym, append-nil}
use Rattle.report_text.specs.Ranked.{ranked_head}
use Rattle.report_text.proofs.Putting.{puts_then, puts_cut}
use Rattle.report_text.proofs.ranks_line.put_head.Goals as goal

pub returns-in_err-put_counts : goal.returns-in_err-put_counts
returns-in_err-put_counts g c =
    let text = ranked_head c.args.found.now in
    puts_cut [] text c.in_err-put_counts.ensures c.from_residual.ensures.0 (sym (append-nil text))

pub returns : goal.returns
returns g c =
    let text = ranked_head c.args.found.now in
    puts_then text c.in_ok-put_counts.ensures c.flush.ensures.puts (sym (append-nil text))
