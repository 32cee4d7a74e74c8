-- Comparisons of places, edges and write-backs field by field.
use Rattle.std.proofs.Common.{◌≡◌, Bool, ◌&&◌, nat_eq, int_eq, IsTrue, ◌↔◌, ◌∙◌, refl, ap, nat_cmp, int_cmp}
use Rattle.std.specs.declared.cmp.Ordering.{Ordering}
use Rattle.std.specs.declared.cmp.Ordering.TheVariants.{Less, Equal, Greater}
use Rattle.std.specs.Ordering.{ordering_then}
use Rattle.std.specs.Cmp.{first_so, second_so, unsigned_Decides, signed_Decides}
use Rattle.ptg_base.specs.TaskComparing.{same_task, task_cmp}
use Rattle.ptg_base.specs.TaskLaws.{same_task-decides}
use Rattle.ptg_base.specs.ItemComparing.{place_cmp, edge_cmp, write_back_cmp}
use Rattle.ptg_base.specs.declared.place.Place.{Place}
use Rattle.ptg_base.specs.declared.edge.Edge.{Edge}
use Rattle.ptg_base.specs.declared.edge.WriteBack.{WriteBack}

-- a comparison followed by Equal is that comparison
then_equal : (answer : Ordering) → answer ≡ ordering_then answer Equal
then_equal Less = refl
then_equal Equal = refl
then_equal Greater = refl

-- if each test decides its fact, both tests together decide both facts
both_decide : {P Q : Type 0} (s t : Bool) → IsTrue s ↔ P → IsTrue t ↔ Q → IsTrue (s && t) ↔ (P × Q)
both_decide s t p q =
    (λ h. (p.0 (first_so s t h), q.0 (second_so s t h)), λ h. let left = p.1 h.0 in let right = q.1 h.1 in λ i. left i && right i)

abbrev same_place : Place → Place → Bool
same_place a b = nat_eq a.coll b.coll && (int_eq a.i b.i && int_eq a.j b.j)

-- the test `same_place` holds if and only if the places are the same
same_place-decides : (a b : Place) → IsTrue (same_place a b) ↔ (a ≡ b)
same_place-decides a b = (λ h. one (fields.0 h), λ e. fields.1 (ap (λ (p : Place). p.coll) e, (ap (λ (p : Place). p.i) e, ap (λ (p : Place). p.j) e)))
  where
    fields : IsTrue (same_place a b) ↔ ((a.coll ≡ b.coll) × ((a.i ≡ b.i) × (a.j ≡ b.j)))
    fields =
        both_decide (nat_eq a.coll b.coll) (int_eq a.i b.i && int_eq a.j b.j) (unsigned_Decides a.coll b.coll)
        (both_decide (int_eq a.i b.i) (int_eq a.j b.j) (signed_Decides a.i b.i) (signed_Decides a.j b.j))

    one : ((a.coll ≡ b.coll) × ((a.i ≡ b.i) × (a.j ≡ b.j))) → a ≡ b
    one p = λ k. record { coll = p.0 k; i = p.1.0 k; j = p.1.1 k }

abbrev pub same_edge : Edge → Edge → Bool
same_edge a b = same_task a.from b.from && (nat_eq a.out_flow b.out_flow && (same_task a.to b.to && nat_eq a.in_flow b.in_flow))

-- the test `same_edge` holds if and only if the edges are the same
pub same_edge-decides : (a b : Edge) → IsTrue (same_edge a b) ↔ (a ≡ b)
same_edge-decides a b = (
  λ h. one (fields.0 h),
  λ e. fields.1 (
    ap (λ (x : Edge). x.from) e,
    (
      ap (λ (x : Edge). x.out_flow) e,
      (ap (λ (x : Edge). x.to) e, ap (λ (x : Edge). x.in_flow) e),
    ),
  ),
)
  where
    fields : IsTrue (same_edge a b) ↔ ((a.from ≡ b.from) × ((a.out_flow ≡ b.out_flow) × ((a.to ≡ b.to) × (a.in_flow ≡ b.in_flow))))
    fields =
        both_decide (same_task a.from b.from)
        (nat_eq a.out_flow b.out_flow && (same_task a.to b.to && nat_eq a.in_flow b.in_flow))
        (same_task-decides a.from b.from)
        (both_decide (nat_eq a.out_flow b.out_flow) (same_task a.to b.to && nat_eq a.in_flow b.in_flow) (unsigned_Decides a.out_flow b.out_flow)
        (both_decide (same_task a.to b.to) (nat_eq a.in_flow b.in_flow) (same_task-decides a.to b.to) (unsigned_Decides a.in_flow b.in_flow)))

    one : ((a.from ≡ b.from) × ((a.out_flow ≡ b.out_flow) × ((a.to ≡ b.to) × (a.in_flow ≡ b.in_flow)))) → a ≡ b
    one p = λ k. record { from = p.0 k; out_flow = p.1.0 k; to = p.1.1.0 k; in_flow = p.1.1.1 k }

-- the fields' comparisons one after another are the order of edges
pub edge_cmp-fields : (a b : Edge) → ordering_then (task_cmp a.from b.from)
    (ordering_then (nat_cmp a.out_flow b.out_flow)
    (ordering_then (task_cmp a.to b.to) (nat_cmp a.in_flow b.in_flow))) ≡ edge_cmp a b
edge_cmp-fields a b =
    ap (λ o. ordering_then (task_cmp a.from b.from) (ordering_then (nat_cmp a.out_flow b.out_flow) (ordering_then (task_cmp a.to b.to) o)))
    (then_equal (nat_cmp a.in_flow b.in_flow))

abbrev pub same_write_back : WriteBack → WriteBack → Bool
same_write_back a b = same_task a.from b.from && (nat_eq a.flow b.flow && same_place a.place b.place)

-- the test `same_write_back` holds if and only if the write-backs are the same
pub same_write_back-decides : (a b : WriteBack) → IsTrue (same_write_back a b) ↔ (a ≡ b)
same_write_back-decides a b =
    (λ h. one (fields.0 h), λ e. fields.1 (ap (λ (x : WriteBack). x.from) e, (ap (λ (x : WriteBack). x.flow) e, ap (λ (x : WriteBack). x.place) e)))
  where
    fields : IsTrue (same_write_back a b) ↔ ((a.from ≡ b.from) × ((a.flow ≡ b.flow) × (a.place ≡ b.place)))
    fields =
        both_decide (same_task a.from b.from) (nat_eq a.flow b.flow && same_place a.place b.place) (same_task-decides a.from b.from)
        (both_decide (nat_eq a.flow b.flow) (same_place a.place b.place) (unsigned_Decides a.flow b.flow) (same_place-decides a.place b.place))

    one : ((a.from ≡ b.from) × ((a.flow ≡ b.flow) × (a.place ≡ b.place))) → a ≡ b
    one p = λ k. record { from = p.0 k; flow = p.1.0 k; place = p.1.1 k }

-- the fields' comparisons one after another are the order of write-backs
pub write_back_cmp-fields : (a b : WriteBack)
    → ordering_then (task_cmp a.from b.from)
    (ordering_then (nat_cmp a.flow b.flow)
    (ordering_then (nat_cmp a.place.coll b.place.coll)
    (ordering_then (int_cmp a.place.i b.place.i) (int_cmp a.place.j b.place.j)))) ≡ write_back_cmp a b
write_back_cmp-fields a b =
    let place : ordering_then (nat_cmp a.place.coll b.place.coll)
    (ordering_then (int_cmp a.place.i b.place.i) (int_cmp a.place.j b.place.j)) ≡ place_cmp a.place b.place
    = ap (λ o. ordering_then (nat_cmp a.place.coll b.place.coll) (ordering_then (int_cmp a.place.i b.place.i) o)) (then_equal (int_cmp a.place.j b.place.j)) in
    ap (λ o. ordering_then (task_cmp a.from b.from) (ordering_then (nat_cmp a.flow b.flow) o)) (place ∙ then_equal (place_cmp a.place b.place))
