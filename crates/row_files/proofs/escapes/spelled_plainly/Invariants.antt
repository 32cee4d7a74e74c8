-- Each turn takes at least one byte off what is left of the text.

use Rattle.std.specs.Prelude.{length}
use Rattle.row_files.proofs.escapes.spelled_plainly.Given as goal

abbrev pub decreases-loop-rest : goal.decreases-loop-rest
decreases-loop-rest l = length l.rest
