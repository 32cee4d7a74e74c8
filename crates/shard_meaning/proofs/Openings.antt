-- What shards hold, and which spares they need, before the first event.
use Rattle.std.proofs.Common.{◌≡◌, ℕ, Bool, true, false, cond, ◌&&◌, ◌==◌, [], refl, ap, sym, ◌∙◌, arith, Some, None, is_none, eq-eqb, ne_eqb}
use Rattle.std.proofs.lemmas.Bool.{and_from, and_parts, eqb-true}
use mathlib.Core.Logic.{dite}
use native.Mathlib.Decide.{ℕ_discrete}
use Rattle.ptg_base.specs.Task.{Task}
use Rattle.ptg_base.specs.declared.edge.WriteBack.{WriteBack}
use Rattle.plan_core.specs.declared.plan.Plan.{Plan}
use Rattle.coll_data.specs.Data.{Data}
use Rattle.dep_iter.specs.Consistent.{all_data, all_writes}
use Rattle.dep_iter.specs.Edges.{goal, in_edges}
use Rattle.dep_iter.specs.Hints.{priority}
use Rattle.dep_iter.specs.Tasks.{IsTask, all_tasks}
use Rattle.dep_iter.proofs.CallerLemmas.{listed}
use Rattle.dep_shard.specs.Content.{Content, entry_of, fresh}
use Rattle.list_lemmas.specs.Counting.{weigh}
use Rattle.flow_meaning.specs.Machine.{arrived, opening_state, sent_tile}
use Rattle.flow_meaning.specs.Starting.{delivered_tiles}
use Rattle.flow_meaning.specs.Table.{is_unclaimed, table_entry}
use Rattle.list_lemmas.proofs.Counts.{count-le, weigh-zero}
use Rattle.shard_meaning.specs.Calm.{AreFinished}
use Rattle.shard_meaning.specs.Moment.{opening_moment}
use Rattle.shard_meaning.specs.Opening.{HasOpeningReserve, IsOpeningShard, is_edge_to, is_to_enter, is_write_from, opening_entry}
use Rattle.shard_meaning.specs.Reserve.{HasReserve, is_due_edge, is_due_end, is_due_entry, is_due_write, is_due_write_tile, is_edge_of_type, is_write_of_type}
use Rattle.shard_meaning.specs.Share.{IsShardOf, Placement, is_of}
use Rattle.shard_meaning.proofs.Entries.{nothing_comes}
use Rattle.shard_meaning.proofs.TableEntries.{by_same, entry_by, full_entry, none_came}

-- no edge has come before the first event
pub none_arrived : (P : Plan) (t : Task) → arrived P opening_state t ≡ 0
none_arrived P t = weigh-zero _ (in_edges P t) (λ e i. refl)

-- the entry of a task before the first event is that of the table
opening_is : (P : Plan) (t : Task) → opening_entry P t ≡ table_entry P opening_state t
opening_is P t =
    let table : table_entry P opening_state t ≡ entry_by P t 0 0 [] = by_same P t 0 0 (arrived P opening_state t) 0
    (delivered_tiles P (sent_tile opening_state.sends) t) [] refl (none_arrived P t) (nothing_comes P t) in
    dite (ℕ_discrete (goal P t) 0)
    (λ z. ap (λ b. cond b (Some (fresh 0 (priority P t))) None) (eq-eqb (goal P t) 0 z)
    ∙ ((λ i. Some (record { goal = sym z i; arrived = 0; priority = priority P t; tiles = [] }))
    ∙ (sym (full_entry P t 0 [] (sym z)) ∙ sym table)))
    (λ ne. ap (λ b. cond b (Some (fresh 0 (priority P t))) None) (ne_eqb (goal P t) 0 ne)
    ∙ (sym (none_came P t [] (omega arith)) ∙ sym table))

module _ (P : Plan) (of : Placement) (k : ℕ) (y : Content) (opening : IsOpeningShard P of k y) where
  pub opening_share : (G : Data) → IsShardOf P G of k opening_moment y
  opening_share G = record {
    there = λ t job at. opening.there t job at ∙ opening_is P t;
    only = opening.only;
    written = λ f. ap (weigh f) opening.written;
    trapped = λ f. omega (arith, ap (weigh f) opening.trapped);
    running = opening.running;
    ended = omega (arith, opening.running, opening.ended);
    elems = opening.elems;
  }

  to_enter : (t : Task) → IsTask P t → is_due_entry of k opening_moment.state y t ≡ true → is_to_enter P of k t ≡ true
  to_enter t job h =
      let p = and_parts (is_of of k t) (is_unclaimed opening_moment.state t && is_none (entry_of y t)) h in
      let none = (and_parts (is_unclaimed opening_moment.state t) (is_none (entry_of y t)) p.1).1 in
      and_from (is_of of k t) (cond (goal P t == 0) false true) p.0 (by (goal P t == 0) (ap is_none (sym (opening.there t job (eqb-true (of t) k p.0))) ∙ none))
    where
      by : (b : Bool) → is_none (cond b (Some (fresh 0 (priority P t))) None) ≡ true → cond b false true ≡ true
      by true e = e
      by false e = refl

  first : (a b : Bool) → (a && b) ≡ true → a ≡ true
  first a b h = (and_parts a b h).0

  pub opening_reserve : HasOpeningReserve P of k y → HasReserve P of k opening_moment y
  opening_reserve h = record {
    entries = omega (
      arith,
      h.entries,
      count-le (is_due_entry of k opening_moment.state y) (is_to_enter P of k)
          (all_tasks P) (λ t i e. to_enter t ((listed P t).1 i) e),
    );
    tiles = λ d. omega (
      arith,
      h.tiles d,
      count-le (is_due_edge P of k d opening_moment.state) (is_edge_to P of k d) (all_data P) (λ e i b. first (is_of of k e.to && is_edge_of_type P d e) _ b),
      count-le (is_due_write_tile P of k d opening_moment.state) (is_write_from P of k d) (all_writes P)
          (λ w i b. first (is_of of k w.from && is_write_of_type P d w) _ b),
    );
    writes = omega (
      arith,
      h.writes,
      count-le (is_due_write of k opening_moment.state)
          (λ (w : WriteBack). is_of of k w.from) (all_writes P) (λ w i b. first (is_of of k w.from) _ b),
    );
    traps = omega (arith, h.traps, count-le (is_due_end of k opening_moment) (is_of of k) (all_tasks P) (λ t i b. first (is_of of k t) _ b));
  }

-- no task is claimed, so all claimed tasks are finished
pub opening_finished : (P : Plan) (G : Data) → AreFinished P G opening_moment
opening_finished P G t claimed still = absurd claimed
