use Rattle.std.proofs.Common.{length}
use Rattle.body_lang.proofs.lookup.+last_named.Given as goal

abbrev pub decreases-last_named : goal.decreases-last_named
decreases-last_named l = length l.seen.now
