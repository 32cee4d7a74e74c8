-- A send changes the shard of its item as the call that notes it does, and no other shard.
use Rattle.std.proofs.Common.{◌≡◌, ◌≢◌, ℕ, ℤ, List, [], ◌∷◌, ◌++◌, cond, refl, ap, sym, ◌∙◌, subst, arith, Option, Some, None, eq-eqb, ne_eqb}
use Rattle.ptg_base.specs.declared.edge.Edge.{Edge}
use Rattle.ptg_base.specs.declared.edge.WriteBack.{WriteBack}
use Rattle.ptg_base.specs.declared.edge.Item.TheVariants as item
use Rattle.plan_core.specs.declared.plan.Plan.{Plan}
use Rattle.coll_data.specs.Data.{Data}
use Rattle.dep_iter.specs.Consistent.{IsConsistent}
use Rattle.dep_iter.specs.Edges.{goal}
use Rattle.dep_iter.specs.Hints.{priority}
use Rattle.dep_shard.specs.Content.{Content, KeepsAllButEntries, KeepsAllButWritten, Updates, entry_before, entry_in, with_arrival}
use Rattle.flow_meaning.specs.Backward.{ended}
use Rattle.list_lemmas.specs.Counting.{weigh}
use Rattle.flow_meaning.specs.Ending.{output_tile}
use Rattle.flow_meaning.specs.Machine.{MaySend, end_in, sent_with}
use Rattle.flow_meaning.specs.Sound.{IsSoundState}
use Rattle.list_lemmas.proofs.Counts.{weigh-push}
use Rattle.flow_meaning.proofs.CallerLemmas.{ends_so}
use Rattle.shard_meaning.specs.Moment.{Moment, with_send}
use Rattle.shard_meaning.specs.Share.{IsShardOf, Placement, write_weight, written_weight}
use Rattle.shard_meaning.proofs.Carrying.{carries, edge_tile}
use Rattle.shard_meaning.proofs.Claims.{entries_of}
use Rattle.shard_meaning.proofs.Entries.{edge_entries, edge_entries_elsewhere, write_entries}

module _ (P : Plan) (G : Data) (con : IsConsistent P) (of : Placement) (k : ℕ) (R : Moment) (sound : IsSoundState P G R.state) where
  module _ (e : Edge) (may : MaySend P G R.state (item.Edge e)) where
    -- what the edge carries is what its task leaves by the backward meaning
    edge_output : output_tile (ended P G e.from) e.out_flow ≡ edge_tile P G R.state e
    edge_output = ap (λ o. output_tile o e.out_flow) (ends_so P G con R.state sound e.from (sound.claimed_have_all e.from may.claimed))

    pub edge_here : (y z : Content) → of e.to ≡ k
        → Updates y.entries z.entries e.to (Some (with_arrival (entry_before y e.to (goal P e.to) (priority P e.to))
        e.in_flow (output_tile (ended P G e.from) e.out_flow)))
        → KeepsAllButEntries y z → IsShardOf P G of k R y → IsShardOf P G of k (with_send P G R (item.Edge e)) z
    edge_here y z at updates kept h =
        let carried = carries P G R.state e (sound.claimed_have_all e.from may.claimed).task may.is_item in
        let es = edge_entries P G con R.state sound of k e may y z at carried (entries_of h)
        (subst (λ x. Updates y.entries z.entries e.to (Some (with_arrival
        (entry_before y e.to (goal P e.to) (priority P e.to)) e.in_flow x))) edge_output updates) in
        record {
          there = es.there;
          only = es.only;
          written = λ f. omega (
            arith,
            ap (weigh f) kept.written,
            h.written f,
            weigh-push (write_weight of k f)
                R.state.sends (sent_with P G R.state (item.Edge e)),
          );
          trapped = λ f. omega (arith, ap (weigh f) kept.trapped, h.trapped f);
          running = kept.running ∙ h.running;
          ended = omega (arith, kept.running, kept.ended, h.ended);
          elems = kept.elems ∙ h.elems;
        }

    pub edge_away : (y : Content) → of e.to ≢ k → IsShardOf P G of k R y → IsShardOf P G of k (with_send P G R (item.Edge e)) y
    edge_away y away h =
        let es = edge_entries_elsewhere P G con R.state sound of k e may y away (entries_of h) in
        record {
          there = es.there;
          only = es.only;
          written = λ f. omega (arith, h.written f, weigh-push (write_weight of k f) R.state.sends (sent_with P G R.state (item.Edge e)));
          trapped = h.trapped;
          running = h.running;
          ended = h.ended;
          elems = h.elems;
        }

  module _ (w : WriteBack) (may : MaySend P G R.state (item.Write w)) where
    write_output : output_tile (ended P G w.from) w.flow ≡ output_tile (end_in P G R.state w.from) w.flow
    write_output = ap (λ o. output_tile o w.flow) (ends_so P G con R.state sound w.from (sound.claimed_have_all w.from may.claimed))

    weight_here : (f : WriteBack × List ℤ → ℕ) (x : List ℤ) (o : Option (List ℤ)) → o ≡ Some x → of w.from ≡ k
        → written_weight of k f (item.Write w) o ≡ f (w, x)
    weight_here f x o is at = ap (written_weight of k f (item.Write w)) is ∙ ap (λ b. cond b (f (w, x)) 0) (eq-eqb (of w.from) k at)

    weight_away : (f : WriteBack × List ℤ → ℕ) (o : Option (List ℤ)) → of w.from ≢ k → written_weight of k f (item.Write w) o ≡ 0
    weight_away f None away = refl
    weight_away f (Some x) away = ap (λ b. cond b (f (w, x)) 0) (ne_eqb (of w.from) k away)

    pub write_here : (y z : Content) (x : List ℤ) → of w.from ≡ k → output_tile (ended P G w.from) w.flow ≡ Some x → z.written ≡ y.written ++ (w, x) ∷ []
        → KeepsAllButWritten y z → IsShardOf P G of k R y → IsShardOf P G of k (with_send P G R (item.Write w)) z
    write_here y z x at out written kept h =
        let es = write_entries P G con R.state sound of k w may y (entries_of h) in
        record {
          there = λ t job here. ap (λ l. entry_in l t) kept.entries ∙ es.there t job here;
          only = λ t e is. es.only t e (sym (ap (λ l. entry_in l t) kept.entries) ∙ is);
          written = λ f. omega (
            arith,
            ap (weigh f) written,
            weigh-push f y.written (w, x),
            h.written f,
            weigh-push (write_weight of k f) R.state.sends (sent_with P G R.state (item.Write w)),
            weight_here f x (output_tile (end_in P G R.state w.from) w.flow) (sym write_output ∙ out) at,
          );
          trapped = λ f. omega (arith, ap (weigh f) kept.trapped, h.trapped f);
          running = kept.running ∙ h.running;
          ended = omega (arith, kept.running, kept.ended, h.ended);
          elems = kept.elems ∙ h.elems;
        }

    pub write_away : (y : Content) → of w.from ≢ k → IsShardOf P G of k R y → IsShardOf P G of k (with_send P G R (item.Write w)) y
    write_away y away h =
        let es = write_entries P G con R.state sound of k w may y (entries_of h) in
        record {
          there = es.there;
          only = es.only;
          written = λ f. omega (
            arith,
            h.written f,
            weigh-push (write_weight of k f) R.state.sends
                (sent_with P G R.state (item.Write w)),
            weight_away f (output_tile (end_in P G R.state w.from) w.flow)
                away,
          );
          trapped = h.trapped;
          running = h.running;
          ended = h.ended;
          elems = h.elems;
        }
