-- How the record of a pass grows over several calls.
use Rattle.std.proofs.Common.{◌≡◌, ℕ, List, ap, sym, ◌∙◌}
use Rattle.ptg_base.specs.Entry.{FlowTile}
use Rattle.ptg_base.specs.Task.{Task}
use Rattle.work_board.specs.declared.record.PassRecord.{PassRecord}
use Rattle.work_board.specs.Records.{KeepsNamesAndMarks}
use Rattle.work_board.specs.Claims.{AddsClaim}
use Rattle.work_board.specs.Looks.{HasStamp}
use Rattle.list_lemmas.proofs.Joins.{last_from_push}
use Rattle.work_board.specs.Stamps.{StampedTask}

pub kept_then : {u v w : PassRecord} → KeepsNamesAndMarks u v → KeepsNamesAndMarks v w → KeepsNamesAndMarks u w
kept_then a b = record {
  names = b.names ∙ a.names;
  turns = b.turns ∙ a.turns;
  quiet = b.quiet
      ∙ a.quiet;
  halts = b.halts ∙ a.halts;
  credit = b.credit ∙ a.credit;
}

pub same_stamp : (t : Task) (tiles : List FlowTile) (v w : PassRecord) (stamp : ℕ) (a : AddsClaim t tiles v w)
    → HasStamp w t stamp → stamp ≡ a.stamp
same_stamp t tiles v w stamp a h = ap (λ (c : StampedTask). c.1)
    (last_from_push h.earlier v.stamps (t, stamp) (t, a.stamp) (sym h.is_last ∙ a.stamps))
