-- What a pass knows once it has taken the turn of a shard, or has seen quiet.
use Rattle.std.proofs.Common.{◌≡◌, ℕ, ℤ, ◌+◌, ◌↔◌, true, List, arith, eq-eqb, eqb-true, Option, IsTrue}
use mathlib.Core.Option.{some}
use lib.ListN.{get_elem?}
use Rattle.ptg_base.specs.declared.edge.Edge.{Edge}
use Rattle.ptg_base.specs.declared.edge.Item.TheVariants as item
use Rattle.dep_iter.specs.Edges.{goal}
use Rattle.dep_iter.specs.Hints.{priority}
use Rattle.dep_shard.specs.Content.{Content, entry_before}
use Rattle.flow_meaning.specs.Machine.{IsQuiescent, arrived}
use Rattle.shard_meaning.specs.Calm.{IsCalm}
use Rattle.shard_meaning.proofs.CallerLemmas.{calm_quiescent, target_fires}
use Rattle.work_board.specs.Sends.{IsNext}
use Rattle.work_board.specs.declared.record.PassRecord.{PassRecord}
use Rattle.table_rule.specs.declared.table_job.TableJob.{TableJob}
use Rattle.shard_meaning.specs.Placing.{shard_of}
use Rattle.table_rule.specs.Plays.{WasSeen, fires}
use Rattle.table_rule.specs.Records.{joined}
use Rattle.table_rule.specs.Rule.{Rule, Table}
use Rattle.table_rule.proofs.CallerLemmas.{joined_parts, seen_next, seen_share}

module _ (j : TableJob) (k : ℕ) (v : PassRecord) (y : Content) (w : WasSeen j k v y) where
  -- an edge fires its target if and only if all other edges into it were sent
  pub seen_fires : (e : Edge) (tile : Option (List ℤ)) → IsNext j.matched j.given (item.Edge e) tile v
      → shard_of j.matched j.shards e.to ≡ k → IsTrue (fires j.matched y e) ↔
      (arrived j.matched (joined w.table.views).state e.to + 1 ≡ goal j.matched e.to)
  seen_fires e tile next at =
      let r = joined_parts j w.table w.rule in
      let f = target_fires j.matched j.given r.consistent (shard_of j.matched j.shards) k (joined w.table.views) r.sound
      e (seen_next j k v y w (item.Edge e) tile next) y at (seen_share j k v y w) tile in
      let before = entry_before y e.to (goal j.matched e.to) (priority j.matched e.to) in
      ((λ q. f.0 (eqb-true (before.arrived + 1) before.goal q)), λ q. eq-eqb (before.arrived + 1) before.goal (f.1 q))

-- if a pass has seen quiet, the moment of all passes is calm and no event is possible
pub quiet_calm : (j : TableJob) (s : Table) (id : ℕ) (v : PassRecord) → Rule j s → get_elem? s.views id ≡ some v
    → v.quiet ≡ true → IsCalm j.matched (joined s.views) × IsQuiescent j.matched j.given (joined s.views).state
quiet_calm j s id v rule me quiet =
    let r = joined_parts j s rule in
    let calm = r.quieted.calm id v me quiet in
    (calm, calm_quiescent j.matched j.given r.consistent (joined s.views) r.sound calm r.finished)
