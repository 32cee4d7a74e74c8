-- What a task leaves within its rank, item after item, and the room for it.
use Rattle.std.proofs.Common.{◌≡◌, ◌<◌, ◌≤◌, IsTrue, nat_eq, ℕ, ℤ, suc, Bool, true, false, not, cond, List, [], ◌∷◌}
use Rattle.std.proofs.Common.{◌++◌, length, map, refl, ap, sym, ◌∙◌, subst, append_assoc, inl, Option, Some, None}
use Rattle.std.proofs.Common.{IfSome, is_some, eqb-true, arith}
use Rattle.std.proofs.lemmas.List.{append-nil, map-append}
use Rattle.std.specs.Option.{IsSome}
use Rattle.ptg_base.specs.Lists.{IsIn}
use Rattle.ptg_base.specs.declared.edge.Edge.{Edge}
use Rattle.ptg_base.specs.declared.edge.WriteBack.{WriteBack}
use Rattle.ptg_base.specs.declared.edge.Item.TheVariants as item
use Rattle.list_lemmas.proofs.Members.{IsIn-append_right}
use Rattle.list_lemmas.proofs.Truth.{by_test}
use Rattle.std.proofs.lemmas.List.Elements.{filter-append}
use Rattle.plan_core.specs.declared.flow.FlowPlan.{FlowPlan}
use Rattle.plan_core.specs.declared.plan.Plan.{Plan}
use Rattle.plan_core.specs.Kinds.{flow_of}
use Rattle.dep_iter.specs.Items.{out_edges, write_backs}
use Rattle.dep_iter.specs.Tasks.{IsTask}
use Rattle.dep_shard.specs.Content.{Content, IsTileOf, entry_of}
use Rattle.dep_shard.specs.Stock.{tiles_used}
use Rattle.flow_meaning.specs.Backward.{ended}
use Rattle.flow_meaning.specs.Ending.{has_outputs, output_tile}
use Rattle.shard_meaning.specs.Reserve.{has_type}
use Rattle.rank_core.specs.World.{is_between}
use Rattle.rank_core.proofs.Items.{out_from}
use Rattle.rank_core.specs.declared.running_task.RunningTask.{RunningTask}
use Rattle.shard_calls.specs.Taken.{HasSpareForEdge, HasSpareForWrite, MayTakeEdge, MayTakeWrite, TakesEdge, TakesWrite}
use Rattle.rank_core.specs.RankRoom.{HasRoomFor}
use Rattle.rank_core.specs.RunningTasks.{HoldsAt, IsRunningTask, data_of, its_writes, part_way, plan_of, task_of}
use Rattle.rank_core.proofs.Parts.{by_task, edge_holds, may_edge, may_write, within_among, write_holds}

one_tile : (d k : ℕ) → tiles_used (Some d) k ≤ 1
one_tile d k = by (nat_eq d k)
  where
    by : (b : Bool) → cond b 1 0 ≤ 1
    by true = omega arith
    by false = omega arith

some_tile : (b : Bool) (d k : ℕ) → tiles_used (cond b (Some d) None) k ≤ 1
some_tile true d k = one_tile d k
some_tile false d k = omega arith

one_entry : (b : Bool) → cond b 0 1 ≤ 1
one_entry true = omega arith
one_entry false = omega arith

-- the room that one write-back and one edge leave
pub room_write : (P : Plan) (n m : ℕ) (w : WriteBack) (tile : Option (List ℤ)) (y z : Content) → HasRoomFor n (suc m) y
    → TakesWrite P w tile y z → HasRoomFor n m z
room_write P n m w tile y z room takes =
    let u = takes.uses in
    record {
      entries = omega (arith, room.entries, u.entries);
      tiles = λ k small. omega (
        arith,
        room.tiles k (subst (λ l. k < length l) takes.rest.elems small),
        u.tiles k,
        one_tile takes.datatype k,
      );
      writes = omega (arith, room.writes, u.writes);
      trap = omega (arith, room.trap, u.traps);
    }

pub room_edge : (P : Plan) (n m : ℕ) (e : Edge) (tile : Option (List ℤ)) (y z : Content) → HasRoomFor (suc n) m y
    → TakesEdge P e tile y z → HasRoomFor n m z
room_edge P n m e tile y z room takes =
    let u = takes.uses in
    record {
      entries = omega (arith, room.entries, u.entries, one_entry (is_some (entry_of y e.to)));
      tiles = λ k small. omega (
        arith,
        room.tiles k (subst (λ l. k < length l) takes.rest.elems small),
        u.tiles k,
        some_tile (is_some tile) takes.datatype k,
      );
      writes = omega (arith, room.writes, u.writes);
      trap = omega (arith, room.trap, u.traps);
    }

-- the type of a tile that is there is one of the shard's
fitting_tile : (tile : Option (List ℤ)) (n : ℕ) (elems : List ℕ) → IsSome tile → IfSome tile (IsTileOf elems n)
    → n < length elems
fitting_tile (Some x) n elems some fits = fits.known
fitting_tile None n elems some fits = absurd cc

-- a type that is that of a flow
same_type : (d : ℕ) (f : FlowPlan) (o : Option FlowPlan) → o ≡ Some f → IsTrue (has_type d o) → f.datatype ≡ d
same_type d f o is typed = eqb-true f.datatype d (ap (has_type d) (sym is) ∙ typed)

-- the room of a rank includes the spares for an edge and for a write-back
pub room_is_spare_edge : (P : Plan) (e : Edge) (tile : Option (List ℤ)) (y : Content) → MayTakeEdge P e tile y
    → HasRoomFor 1 0 y → HasSpareForEdge P e tile y
room_is_spare_edge P e tile y may room = record {
  entry = λ none. omega (arith, room.entries);
  tiles = λ d typed some. let k = same_type d may.flow (flow_of P.classes e.to.class e.in_flow) may.is_flow typed in
      let fits = fitting_tile tile may.flow.datatype y.elems some may.fits in
      omega (arith, room.tiles d (subst (λ n. n < length y.elems) k fits));
}

pub room_is_spare_write : (P : Plan) (w : WriteBack) (tile : Option (List ℤ)) (y : Content) → MayTakeWrite P w tile y
    → HasRoomFor 0 1 y → HasSpareForWrite P w y
room_is_spare_write P w tile y may room = record {
  place = omega (arith, room.writes);
  tiles = λ d typed. let k = same_type d may.flow (flow_of P.classes w.from.class w.flow) may.is_flow typed in
      let fits = fitting_tile tile may.flow.datatype y.elems may.carries may.fits in
      omega (arith, room.tiles d (subst (λ n. n < length y.elems) k fits));
}

pub less_room : (n m a b : ℕ) (y : Content) → HasRoomFor n m y → a ≤ n → b ≤ m → HasRoomFor a b y
less_room n m a b y room few less = record {
  entries = omega (arith, room.entries);
  tiles = λ k small. omega (arith, room.tiles k small);
  writes = omega (arith, room.writes);
  trap = room.trap;
}

-- the write-backs that are left
pub record WritesLeft (v : RunningTask) (whole left : List WriteBack) (a y : Content) : Type 0 where
  pub done : List WriteBack
  pub split : whole ≡ done ++ left
  pub holds : HoldsAt v (part_way v (map item.Write done)) y
  pub room : (n : ℕ) → HasRoomFor n (length whole) a → HasRoomFor n (length left) y

-- the edges that are left
pub record EdgesLeft (v : RunningTask) (whole left : List Edge) (y : Content) : Type 0 where
  pub done : List Edge
  pub split : whole ≡ done ++ left
  pub holds : HoldsAt v (part_way v (its_writes v ++ map item.Edge (within_among v done))) y
  pub room : HasRoomFor (length (within_among v left)) 0 y

module _ (v : RunningTask) (h : IsRunningTask v) (outputs : has_outputs (ended (plan_of v) (data_of v) (task_of v))
    ≡ true) where
  pub writes_first : (whole : List WriteBack) (a : Content) → HoldsAt v (part_way v []) a → WritesLeft v whole whole a a
  writes_first whole a holds = record { done = []; split = refl; holds = holds; room = λ n r. r }

  module _ (whole : List WriteBack) (are : whole ≡ write_backs (plan_of v) (task_of v)) (w : WriteBack)
      (left : List WriteBack) (a y : Content) (l : WritesLeft v whole (w ∷ left) a y) where
    write_split : map item.Write l.done ++ item.Write w ∷ (map item.Write left ++ map item.Edge
        (within_among v (out_edges (plan_of v) (task_of v)))) ≡ its_writes v ++ map item.Edge
        (within_among v (out_edges (plan_of v) (task_of v)))
    write_split =
        sym (append_assoc (map item.Write l.done) (item.Write w ∷ map item.Write left)
        (map item.Edge (within_among v (out_edges (plan_of v) (task_of v)))))
        ∙ ap (λ is. is ++ map item.Edge (within_among v (out_edges (plan_of v) (task_of v))))
        (sym (map-append (λ (x : WriteBack). item.Write x) l.done (w ∷ left))
        ∙ ap (map (λ (x : WriteBack). item.Write x)) (sym l.split ∙ are))

    pub write_from : w.from ≡ (task_of v)
    write_from = by_task v h outputs (map item.Write l.done) (item.Write w)
        (map item.Write left ++ map item.Edge (within_among v (out_edges (plan_of v) (task_of v)))) write_split

    pub write_may : MayTakeWrite (plan_of v) w (output_tile (ended (plan_of v) (data_of v) w.from) w.flow) y
    write_may = may_write v h outputs (map item.Write l.done) w
        (map item.Write left ++ map item.Edge (within_among v (out_edges (plan_of v) (task_of v)))) write_split y
        l.holds

    pub write_then : (z : Content) → TakesWrite (plan_of v) w
        (output_tile (ended (plan_of v) (data_of v) w.from) w.flow) y z → WritesLeft v whole left a z
    write_then z takes = record {
      done = l.done ++ w ∷ [];
      split = l.split ∙ sym (append_assoc l.done (w ∷ []) left);
      holds = subst (λ is. HoldsAt v (part_way v is) z) (sym
          (map-append (λ (x : WriteBack). item.Write x) l.done (w ∷ [])))
          (write_holds v h outputs (map item.Write l.done) w
          (map item.Write left ++ map item.Edge (within_among v (out_edges (plan_of v) (task_of v)))) write_split y
          z l.holds takes);
      room = λ n r. room_write (plan_of v) n (length left) w (output_tile (ended (plan_of v) (data_of v) w.from) w.flow)
          y z (l.room n r) takes;
    }

  pub writes_last : (whole : List WriteBack) → whole ≡ write_backs (plan_of v) (task_of v) → (a y : Content)
      → WritesLeft v whole [] a y → HoldsAt v (part_way v (its_writes v)) y
  writes_last whole are a y l = subst (λ ws. HoldsAt v (part_way v (map item.Write ws)) y)
      (sym (append-nil l.done) ∙ sym l.split ∙ are) l.holds

  pub edges_first : (whole : List Edge) (y : Content) → HoldsAt v (part_way v (its_writes v)) y
      → HasRoomFor (length (within_among v whole)) 0 y → EdgesLeft v whole whole y
  edges_first whole y holds room = record {
    done = [];
    split = refl;
    holds = subst (λ is. HoldsAt v (part_way v is) y)
        (sym (append-nil (its_writes v))) holds;
    room = room;
  }

  module _ (whole : List Edge) (are : whole ≡ out_edges (plan_of v) (task_of v)) (e : Edge) (left : List Edge)
      (y : Content) (l : EdgesLeft v whole (e ∷ left) y) where
    pub edge_among : IsIn e (out_edges (plan_of v) (task_of v))
    edge_among = subst (IsIn e) (sym l.split ∙ are) (IsIn-append_right e l.done (e ∷ left) (inl refl))

    pub edge_from : e.from ≡ (task_of v)
    edge_from = out_from (plan_of v) (task_of v) e edge_among

    pub edge_to : IsTask (plan_of v) e.to
    edge_to = (h.consistent.connected (task_of v) h.may.task).to_tasks e edge_among

    module _ (within : is_between (plan_of v) v.ranks e ≡ false) where
      kept : within_among v (e ∷ left) ≡ e ∷ within_among v left
      kept = ap (λ b. cond (not b) (e ∷ within_among v left) (within_among v left)) within

      edge_split : (its_writes v ++ map item.Edge (within_among v l.done)) ++ item.Edge e ∷ map item.Edge
          (within_among v left) ≡ its_writes v ++ map item.Edge (within_among v (out_edges (plan_of v) (task_of v)))
      edge_split =
          append_assoc (its_writes v) (map item.Edge (within_among v l.done))
          (item.Edge e ∷ map item.Edge (within_among v left))
          ∙ ap (λ is. its_writes v ++ is) (
          sym (map-append (λ (x : Edge). item.Edge x) (within_among v l.done) (e ∷ within_among v left))
          ∙ ap (map (λ (x : Edge). item.Edge x)) (
          ap (λ es. within_among v l.done ++ es) (sym kept)
          ∙ sym (filter-append (λ x. not (is_between (plan_of v) v.ranks x)) l.done (e ∷ left))
          ∙ ap (within_among v) (sym l.split ∙ are)
          )
          )

      pub edge_may : MayTakeEdge (plan_of v) e (output_tile (ended (plan_of v) (data_of v) e.from) e.out_flow) y
      edge_may = may_edge v h outputs (its_writes v ++ map item.Edge (within_among v l.done)) e
          (map item.Edge (within_among v left)) edge_split within y l.holds

      pub edge_room : HasRoomFor 1 0 y
      edge_room = less_room (length (within_among v (e ∷ left))) 0 1 0 y l.room (omega (arith, ap length kept))
          (omega arith)

      pub edge_then : (z : Content) → TakesEdge (plan_of v) e
          (output_tile (ended (plan_of v) (data_of v) e.from) e.out_flow) y z → EdgesLeft v whole left z
      edge_then z takes = record {
        done = l.done ++ e ∷ [];
        split = l.split ∙ sym (append_assoc l.done (e ∷ []) left);
        holds = subst (λ is. HoldsAt v (part_way v is) z)
            (append_assoc (its_writes v) (map item.Edge (within_among v l.done)) (item.Edge e ∷ [])
            ∙ ap (λ is. its_writes v ++ is) (
            sym (map-append (λ (x : Edge). item.Edge x) (within_among v l.done) (e ∷ []))
            ∙ ap (map (λ (x : Edge). item.Edge x)) (
            ap (λ es. within_among v l.done ++ es) (sym (ap (λ b. cond (not b) (e ∷ []) []) within))
            ∙ sym (filter-append (λ x. not (is_between (plan_of v) v.ranks x)) l.done (e ∷ []))
            )
            ))
            (edge_holds v h outputs (its_writes v ++ map item.Edge (within_among v l.done)) e
            (map item.Edge (within_among v left)) edge_split within y z l.holds takes);
        room = room_edge (plan_of v) (length (within_among v left)) 0 e
            (output_tile (ended (plan_of v) (data_of v) e.from) e.out_flow) y z
            (subst (λ es. HasRoomFor (length es) 0 y) kept l.room) takes;
      }

    pub edge_passed : is_between (plan_of v) v.ranks e ≡ true → EdgesLeft v whole left y
    edge_passed between =
        let dropped : within_among v (e ∷ left) ≡ within_among v left = ap
        (λ b. cond (not b) (e ∷ within_among v left) (within_among v left)) between in
        let same : within_among v (l.done ++ e ∷ []) ≡ within_among v l.done =
        filter-append (λ x. not (is_between (plan_of v) v.ranks x)) l.done (e ∷ [])
        ∙ ap (λ es. within_among v l.done ++ es) (ap (λ b. cond (not b) (e ∷ []) []) between)
        ∙ append-nil (within_among v l.done) in
        record {
          done = l.done ++ e ∷ [];
          split = l.split ∙ sym (append_assoc l.done (e ∷ []) left);
          holds = subst (λ es. HoldsAt v (part_way v (its_writes v ++ map item.Edge es)) y) (sym same) l.holds;
          room = subst (λ es. HasRoomFor (length es) 0 y) dropped l.room;
        }

    pub edge_next : (z : Content)
        → (is_between (plan_of v) v.ranks e ≡ false → TakesEdge (plan_of v) e
        (output_tile (ended (plan_of v) (data_of v) e.from) e.out_flow) y z)
        → (is_between (plan_of v) v.ranks e ≡ true → z ≡ y) → EdgesLeft v whole left z
    edge_next z takes same =
        by_test (is_between (plan_of v) v.ranks e) (λ k. subst (EdgesLeft v whole left) (sym (same k)) (edge_passed k))
        (λ k. edge_then k z (takes k))

  pub edges_last : (whole : List Edge) → whole ≡ out_edges (plan_of v) (task_of v) → (y : Content)
      → EdgesLeft v whole [] y
      → HoldsAt v (part_way v (its_writes v ++ map item.Edge (within_among v (out_edges (plan_of v) (task_of v))))) y
  edges_last whole are y l = subst (λ es. HoldsAt v (part_way v (its_writes v ++ map item.Edge (within_among v es))) y)
      (sym (append-nil l.done) ∙ sym l.split ∙ are) l.holds
