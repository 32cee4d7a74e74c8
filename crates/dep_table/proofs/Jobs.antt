-- The job of a table's words is the table's job, so what is said of the one is true of the other.
use Rattle.std.proofs.Common.{◌≡◌, ℕ, ℤ, List, Option, sym, subst}
use Rattle.ptg_base.specs.Entry.{FlowTile}
use Rattle.ptg_base.specs.Task.{Task}
use Rattle.ptg_base.specs.declared.edge.Item.{Item}
use Rattle.dep_shard.specs.Content.{Content}
use Rattle.work_board.specs.Claims.{MayStart}
use Rattle.work_board.specs.declared.record.PassRecord.{PassRecord}
use Rattle.table_rule.specs.declared.table_job.TableJob.{TableJob}
use Rattle.table_rule.specs.GivingBack.{MayGiveEnd, MayGiveSend}
use Rattle.table_rule.specs.Plays.{Seated, WasSeen}

pub seen_of : (j words : TableJob) (k : ℕ) (v : PassRecord) (y : Content) → j ≡ words → WasSeen words k v y
    → WasSeen j k v y
seen_of j words k v y same = subst (λ (h : TableJob). WasSeen h k v y) (sym same)

pub starts_of : (j words : TableJob) (t : Task) (tiles : List FlowTile) (v : PassRecord) → j ≡ words
    → MayStart words.matched words.given t tiles v → MayStart j.matched j.given t tiles v
starts_of j words t tiles v same = subst (λ (h : TableJob). MayStart h.matched h.given t tiles v) (sym same)

pub end_for : (j words : TableJob) (k : ℕ) (m : Seated) → j ≡ words → MayGiveEnd j k m → MayGiveEnd words k m
end_for j words k m = subst (λ (h : TableJob). MayGiveEnd h k m)

pub send_for : (j words : TableJob) (k : ℕ) (i : Item) (tile : Option (List ℤ)) (m : Seated) → j ≡ words
    → MayGiveSend j k i tile m → MayGiveSend words k i tile m
send_for j words k i tile m = subst (λ (h : TableJob). MayGiveSend h k i tile m)
