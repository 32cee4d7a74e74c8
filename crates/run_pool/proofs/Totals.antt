-- The numbers that are sent over all edges and write-backs, and a bound on how many they are.
use Rattle.std.proofs.Common.{nat_le, ◌*◌, subst, ◌≡◌, ℕ, zero, suc, ◌+◌, ◌≤◌, ◌<◌, true, List, [], ◌∷◌, length, ap}
use Rattle.std.proofs.Common.{◌∙◌, Option, Some, None, slice_index, sum, arith}
use Rattle.std.proofs.Math.Nat.{mul-le-mul_left}
use Rattle.std.proofs.lemmas.Bool.{and_parts}
use Rattle.std.proofs.lemmas.Bool.Decides.{nat_tests}
use Rattle.std.proofs.lemmas.List.Sums.{sum_by-cons}
use Rattle.std.specs.List.{list_all}
use Rattle.ptg_base.specs.Lists.{IsIn}
use Rattle.ptg_base.specs.Task.{Task}
use Rattle.ptg_base.specs.declared.edge.Edge.{Edge}
use Rattle.ptg_base.specs.declared.edge.WriteBack.{WriteBack}
use Rattle.ptg_base.specs.declared.edge.Item.{Item}
use Rattle.ptg_base.specs.declared.edge.Item.TheVariants as item
use Rattle.plan_core.specs.declared.flow.FlowPlan.{FlowPlan}
use Rattle.plan_core.specs.declared.plan.Plan.{Plan}
use Rattle.plan_core.specs.WellMade.{is_element_count}
use Rattle.dep_iter.specs.Consistent.{IsConsistent, all_data, all_in, all_items, all_writes, is_data_edge}
use Rattle.dep_iter.specs.Edges.{in_edges}
use Rattle.dep_iter.specs.Items.{items, write_backs, write_of}
use Rattle.dep_iter.specs.Tasks.{all_tasks}
use Rattle.list_lemmas.proofs.Counts.{weigh-at_most, weigh-filter, weigh-flat_map, weigh-plus}
use Rattle.list_lemmas.proofs.Members.{from_filter_map}
use Rattle.list_lemmas.proofs.Joins.{length-filter_le, length-filter_map_le, length-flat_map_le}
use Rattle.list_lemmas.specs.Counting.{weigh}
use Rattle.run_pool.specs.Bytes.{edge_elements, elements_of, sent_elements, write_elements}
use Rattle.run_pool.specs.Elements.{carried_elements, in_elements, written_elements, task_elements}

-- the numbers of each task add up to those of all edges and write-backs
pub all_tasks_send : (P : Plan) → weigh (task_elements P) (all_tasks P) ≡ sent_elements P
unfolding task_elements sent_elements
all_tasks_send P =
    let both = weigh-plus (in_elements P) (written_elements P) (all_tasks P) in
    let ins = weigh-filter (is_data_edge P) (edge_elements P) (all_in P) ∙ weigh-flat_map (carried_elements P) (in_edges P) (all_tasks P) in
    let outs = weigh-flat_map (write_elements P) (write_backs P) (all_tasks P) in
    omega (arith, both, ins, outs)

length_at_most : (n : ℕ) → is_element_count n ≡ true → n ≤ 4096
length_at_most n h =
    let p : nat_le n 4096 ≡ true = (and_parts (nat_le 1 n) (nat_le n 4096) h).1 in
    grind (arith, nat_tests)

-- a tile of any type has at most 4,096 numbers
type_at_most : (ns : List ℕ) (k : ℕ) → list_all is_element_count ns ≡ true → slice_index ns k ≤ 4096
type_at_most [] k h = omega arith
type_at_most (n ∷ ns) zero h = length_at_most n (and_parts _ _ h).0
type_at_most (n ∷ ns) (suc k) h = type_at_most ns k (and_parts _ _ h).1

elements_at_most : (P : Plan) (o : Option FlowPlan) → elements_of P o ≤ 4096
elements_at_most P None = omega arith
elements_at_most P (Some f) = type_at_most P.elems f.datatype P.well_made.tile_lengths

-- a job has no more write-backs than items
writes_at_most : (P : Plan) → length (all_writes P) ≤ length (all_items P)
writes_at_most P = length-flat_map_le (write_backs P) (items P) (all_tasks P) (λ t. length-filter_map_le write_of (items P t))

-- a job has at most 8,000,000 data edges and write-backs
pub counts_at_most : (P : Plan) → IsConsistent P → length (all_data P) + length (all_writes P) ≤ 8000000
counts_at_most P con = omega (arith, length-filter_le (is_data_edge P) (all_in P), writes_at_most P, con.in_edges_at_most, con.items_at_most)

pub sent_at_most : (P : Plan) → IsConsistent P → sent_elements P ≤ 32768000000
unfolding sent_elements
sent_at_most P con =
    let ins = weigh-at_most (edge_elements P) (all_data P) (λ e. elements_at_most P _) in
    let outs = weigh-at_most (write_elements P) (all_writes P) (λ w. elements_at_most P _) in
    let fewer = length-filter_le (is_data_edge P) (all_in P) in
    let writes = writes_at_most P in
    omega (arith, ins, outs, fewer, writes, con.in_edges_at_most, con.items_at_most)

sum_at_most : (ns : List ℕ) → list_all is_element_count ns ≡ true → sum ns ≤ 4096 * length ns
sum_at_most [] h = omega arith
sum_at_most (n ∷ ns) h =
    let p = and_parts _ _ h in
    let here = length_at_most n p.0 in
    let rest = sum_at_most ns p.1 in
    let more = sum_by-cons (λ (x : ℕ). x) n ns in
    omega (arith, here, rest, more)

pub types_at_most : (P : Plan) → sum P.elems ≤ 65536
types_at_most P = omega (arith, sum_at_most P.elems P.well_made.tile_lengths, P.well_made.types_at_most)

pub write_item : (P : Plan) (t : Task) (w : WriteBack) → IsIn w (write_backs P t) → IsIn (item.Write w) (items P t)
write_item P t w i =
    let q = from_filter_map write_of (items P t) w i in
    subst (λ x. IsIn x (items P t)) (the_write q.member q.gives) q.among
  where
    the_write : (x : Item) → write_of x ≡ Some w → x ≡ item.Write w
    the_write (item.Edge e) h = absurd cc
    the_write (item.Write v) h = let same : v ≡ w = cc in ap (λ u. item.Write u) same

pub benches_at_most : (workers each : ℕ) → workers < 4294967296 → each ≤ 65536 → 8 * workers * each ≤ 2251799813685248
benches_at_most workers each few small = omega (arith, mul-le-mul_left workers small)
