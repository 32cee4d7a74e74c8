-- Lengths of joined lists as sums, and of combinations as products.
use Rattle.std.proofs.Common.{◌≡◌, ℕ, suc, ◌+◌, zero, ◌*◌, ◌≤◌, ℤ, List, [], ◌∷◌, ◌++◌, length, map, refl, ap, sym, ◌∙◌, subst, length-append, arith}
use Rattle.std.proofs.Math.Nat.{mul_comm, suc-mul, zero-mul}
use Rattle.std.proofs.lemmas.List.{length-map}
use Rattle.std.proofs.lemmas.List.Sums.{sum_by-cons}
use Rattle.std.specs.List.{flat_map, sum_by}
use Rattle.ptg_base.specs.Task.{Task}
use Rattle.term_core.specs.declared.direction.Direction.TheVariants.{In}
use Rattle.plan_core.specs.declared.flow.FlowPlan.{FlowPlan}
use Rattle.plan_core.specs.declared.plan.Plan.{Plan}
use Rattle.plan_core.specs.declared.target.Target.{Target}
use Rattle.plan_core.specs.declared.target.Target.TheVariants as target
use Rattle.dep_iter.specs.Tasks.{flows_of, locals_of}
use Rattle.term_core.specs.Kinds.{is_data}
use Rattle.dep_iter.specs.Active.{by_flow, flow_ins, flow_targets}
use Rattle.dep_iter.specs.Edges.{in_edges}
use Rattle.dep_iter.specs.Arguments.{combinations, product}
use Rattle.dep_iter.specs.Links.{all_links, edge_of_link, link, links_to, task_links}
use Rattle.goal_count.specs.Counting.{IsCount, flows_count, held_count, target_count}

over : List (List ℤ) → List ℤ → List (List ℤ)
over cs vs = flat_map (λ v. map (λ ws. v ∷ ws) cs) vs

length-over : (cs : List (List ℤ)) (vs : List ℤ) → length (over cs vs) ≡ length vs * length cs
unfolding over
length-over cs [] = sym (zero-mul (length cs))
length-over cs (v ∷ vs) =
    let e = length-append (map (λ ws. v ∷ ws) cs) (over cs vs) in
    let f = length-map cs (λ ws. v ∷ ws) in
    let g = length-over cs vs in
    let h = suc-mul (length vs) (length cs) in
    omega arith

pub length-product : (vs : List ℤ) (vss : List (List ℤ)) → length (product (vs ∷ vss)) ≡ length vs * length (product vss)
unfolding over
length-product vs vss = length-over (product vss) vs

length-links_to : (env : List ℤ) (n : ℕ) (x : Target) → length (links_to env n x) ≡ target_count env x
length-links_to env n (target.Task class flow args) = length-map (combinations args env) (link n class flow)
length-links_to env n (target.Element coll indices) = refl
length-links_to env n target.New = refl
length-links_to env n target.Null = refl

length-numbered : (env : List ℤ) (n : ℕ) (xs : List Target) (rest : List (ℕ × Target))
    → length (all_links env (map (λ x. (n, x)) xs ++ rest)) ≡ sum_by (target_count env) xs + length (all_links env rest)
length-numbered env n [] rest = omega arith
length-numbered env n (x ∷ xs) rest =
    let e = length-append (links_to env n x) (all_links env (map (λ x. (n, x)) xs ++ rest)) in
    let f = length-links_to env n x in
    let g = length-numbered env n xs rest in
    let h = sum_by-cons (target_count env) x xs in
    omega arith

length-by_flow : (env : List ℤ) (n : ℕ) (fs : List FlowPlan) → length (all_links env (by_flow (flow_targets In env) n fs)) ≡ flows_count env fs
length-by_flow env n [] = refl
length-by_flow env n (f ∷ fs) =
    let e = length-numbered env n (flow_ins env f) (by_flow (flow_targets In env) (suc n) fs) in
    let g = length-by_flow env (suc n) fs in
    let h = sum_by-cons (λ (f : FlowPlan). held_count (is_data f.kind) f.ins env) f fs in
    omega arith

-- the number of links of the in dependences of a task
pub length-task_links : (P : Plan) (t : Task) → length (task_links P t In) ≡ flows_count (locals_of P t) (flows_of P t)
length-task_links P t = length-by_flow (locals_of P t) 0 (flows_of P t)

-- a product; if one factor is 0, the other one may be too large
product_is : (a b m n r : ℕ) → (r ≤ 4000000 → r ≡ a * b) → (a ≤ 4000000 → a ≡ m) → (b ≤ 4000000 → b ≡ n) → r ≤ 4000000
    → r ≡ m * n
product_is zero b m n r e h k small = rw (sym (h (omega arith))) (e small ∙ zero-mul b ∙ sym (zero-mul n))
product_is (suc a) zero m n r e h k small =
    rw (sym (k (omega arith))) (e small ∙ mul_comm (suc a) 0 ∙ zero-mul (suc a) ∙ sym (mul_comm m 0 ∙ zero-mul m))
product_is (suc a) (suc b) m n r e h k small =
    let p = suc-mul a (suc b) in
    let q = suc-mul b (suc a) in
    let c = mul_comm (suc a) (suc b) in
    let t = e small in
    let u = h (omega arith) in
    let v = k (omega arith) in
    t ∙ ap (λ x. x * suc b) u ∙ ap (λ x. m * x) v

pub times : (a b m n r : ℕ) → (r ≤ 4000000 → r ≡ a * b) → (a * b ≤ 4000000 → r ≡ a * b) → IsCount a m → IsCount b n
    → IsCount r (m * n)
times a b m n r e f h k = (
  product_is a b m n r e h.0 k.0,
  λ small.
      let p = product_is m n a b (m * n) (λ s. refl) (λ s. sym (h.1 s)) (λ s. sym (k.1 s)) small in
      f (subst (λ x. x ≤ 4000000) p small) ∙ sym p,
)

-- the number of edges into a task, from its links
pub length-in_edges : (P : Plan) (t : Task) → map (edge_of_link In t) (task_links P t In) ≡ in_edges P t
    → flows_count (locals_of P t) (flows_of P t) ≡ length (in_edges P t)
length-in_edges P t links = sym (length-task_links P t) ∙ sym (length-map (task_links P t In) (edge_of_link In t)) ∙ ap length links
