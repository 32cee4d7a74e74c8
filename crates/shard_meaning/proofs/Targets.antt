-- What an edge that may be sent finds at its target: an entry that waits for it, or none yet.
use Rattle.std.proofs.Common.{◌≡◌, ◌↔◌, ℕ, ◌+◌, ◌<◌, ℤ, List, [], length, ap, sym, subst, arith, Option, Some}
use Rattle.std.specs.Prelude.{unwrap_or}
use Rattle.std.specs.Option.{option_map_or}
use Rattle.ptg_base.specs.Entry.{Entry}
use Rattle.ptg_base.specs.Lists.{IsIn}
use Rattle.ptg_base.specs.declared.edge.Edge.{Edge}
use Rattle.ptg_base.specs.declared.edge.Item.TheVariants as item
use Rattle.list_lemmas.proofs.Places.{slice_get_below}
use Rattle.plan_core.specs.declared.class.ClassPlan.{ClassPlan}
use Rattle.plan_core.specs.declared.plan.Plan.{Plan}
use Rattle.coll_data.specs.Data.{Data}
use Rattle.dep_iter.specs.Consistent.{IsConsistent}
use Rattle.dep_iter.specs.Edges.{goal, in_edges}
use Rattle.dep_iter.specs.Hints.{priority}
use Rattle.dep_iter.specs.Tasks.{IsTask, flows_of}
use Rattle.dep_iter.proofs.CallerLemmas.{in_edge_is}
use Rattle.dep_shard.specs.Content.{Content, IsReady, IsWaiting, entry_before, entry_of, fresh, with_arrival}
use Rattle.flow_meaning.specs.Machine.{MaySend, arrived, sent_tile}
use Rattle.flow_meaning.specs.Sound.{IsSoundState}
use Rattle.flow_meaning.specs.Starting.{delivered_tiles}
use Rattle.flow_meaning.proofs.CallerLemmas.{class_of, sent_edge_in}
use Rattle.shard_meaning.specs.Moment.{Moment}
use Rattle.shard_meaning.specs.Share.{IsShardOf, Placement}
use Rattle.shard_meaning.proofs.Claims.{entries_of}
use Rattle.shard_meaning.proofs.Entries.{finds, missing, target}
use Rattle.shard_meaning.proofs.Holding.{entry_in_table}

-- a task has at most eight flows
pub in_flow_small : (P : Plan) (e : Edge) → IsTask P e.to → IsIn e (in_edges P e.to) → e.in_flow < 8
in_flow_small P e job among =
    let h = class_of P e.to job in
    let well = P.well_made.fit e.to.class h.class h.space h.class_is h.space_is in
    let below = slice_get_below (flows_of P e.to) e.in_flow _ ((in_edge_is P e.to e).0 among).1 in
    omega (arith, below, well.body.flows_at_most, ap (λ o. length (option_map_or (λ (c : ClassPlan). c.flows) o [])) h.class_is)

module _ (P : Plan) (G : Data) (con : IsConsistent P) (of : Placement) (k : ℕ) (R : Moment)
    (sound : IsSoundState P G R.state) (e : Edge) (may : MaySend P G R.state (item.Edge e)) where
  into_target : IsIn e (in_edges P e.to)
  into_target = sent_edge_in P con e (sound.claimed_have_all e.from may.claimed).task may.is_item

  pub target_is_task : IsTask P e.to
  target_is_task = target P G con R.state sound of k e may

  pub target_flow : e.in_flow < 8
  target_flow = in_flow_small P e target_is_task into_target

  pub target_goal : 0 < goal P e.to
  target_goal = omega (arith, missing P G con R.state sound of k e may)

  module _ (y : Content) (at : of e.to ≡ k) (h : IsShardOf P G of k R y) where
    found : entry_before y e.to (goal P e.to) (priority P e.to) ≡ record {
      goal = goal P e.to;
      arrived = arrived P R.state e.to;
      priority = priority P e.to;
      tiles = delivered_tiles P
          (sent_tile R.state.sends) e.to;
    }
    found = finds P G con R.state sound of k e may y at (entries_of h)

    -- the target waits
    pub target_waits : IsWaiting (entry_before y e.to (goal P e.to) (priority P e.to))
    target_waits = subst (λ (x : Entry). IsWaiting x) (sym found) (omega (arith, missing P G con R.state sound of k e may))

    -- the edge makes it ready if and only if it is the last
    pub target_fires : (x : Option (List ℤ)) → IsReady (with_arrival
        (entry_before y e.to (goal P e.to) (priority P e.to)) e.in_flow x) ↔ (arrived P R.state e.to + 1 ≡ goal P e.to)
    target_fires x = (
      λ r. subst (λ (v : Entry). IsReady (with_arrival v e.in_flow x)) found r,
      λ q. subst (λ (v : Entry). IsReady (with_arrival v e.in_flow x)) (sym found) q,
    )

    -- an entry that is there has the goal and the priority of the plan, and it is what the edge finds
    pub target_entry : (v : Entry) → entry_of y e.to ≡ Some v
        → (v.goal ≡ goal P e.to) × (v.priority ≡ priority P e.to)
        × (entry_before y e.to (goal P e.to) (priority P e.to) ≡ v)
    target_entry v is =
        let i = entry_in_table P G of k R y h e.to v is in
        (ap (λ (x : Entry). x.goal) i.is, ap (λ (x : Entry). x.priority) i.is, ap (λ o. unwrap_or o (fresh (goal P e.to) (priority P e.to))) is)
