-- No combination occurs twice.
use Rattle.std.proofs.Common.{ℕ, ℤ, List, [], ◌∷◌, map, ap, sym, ◌∙◌}
use Rattle.std.specs.List.{filter_map}
use Rattle.std.specs.Result.{result_unwrap_or}
use Rattle.ptg_base.specs.Lists.{HasNoRepeats}
use Rattle.ptg_base.specs.Task.{Task}
use Rattle.term_core.specs.declared.direction.Direction.TheVariants.{In, Out}
use Rattle.range_space.specs.Fault.{bounds, number}
use Rattle.range_space.proofs.CallerLemmas.{distinct_number, distinct_range}
use Rattle.list_lemmas.proofs.Members.{from_map}
use Rattle.list_lemmas.proofs.Distinct.{HasNoRepeats-flat_map, HasNoRepeats-map}
use Rattle.plan_core.specs.declared.target.Arg.{Arg}
use Rattle.plan_core.specs.declared.target.Arg.TheVariants.{One, Span}
use Rattle.plan_core.specs.declared.target.Target.{Target}
use Rattle.plan_core.specs.declared.target.Target.TheVariants as target
use Rattle.dep_iter.specs.declared.link.Link.{Link}
use Rattle.dep_iter.specs.Arguments.{arg_values, combinations}
use Rattle.dep_iter.specs.Edges.{edges_into}
use Rattle.dep_iter.specs.Items.{edge_of, items_to}
use Rattle.dep_iter.specs.Links.{edge_of_link, link, links_to}
use Rattle.dep_iter.proofs.Belonging.{link_in, link_out}
use Rattle.dep_iter.proofs.Joining.{edges_into-links, items_to-links}

distinct_arg : (a : Arg) (env : List ℤ) → HasNoRepeats (result_unwrap_or (arg_values a env) [])
distinct_arg (One e) env = distinct_number (number e env)
distinct_arg (Span r) env = distinct_range (bounds r env)

-- no combination of the values of arguments occurs twice
distinct_combinations : (args : List Arg) (env : List ℤ) → HasNoRepeats (combinations args env)
distinct_combinations [] env = (λ w. w, tt)
distinct_combinations (a ∷ args) env =
    let cs = combinations args env in
    HasNoRepeats-flat_map (λ v. map (λ ws. v ∷ ws) cs) (result_unwrap_or (arg_values a env) []) (distinct_arg a env)
    (λ v among. HasNoRepeats-map (λ ws. v ∷ ws) cs (distinct_combinations args env) (λ x y e. cc))
    (λ v w x h k.
    let p = from_map (λ ws. v ∷ ws) cs x h in
    let q = from_map (λ ws. w ∷ ws) cs x k in
    let e = sym p.2 ∙ q.2 in
    cc)

distinct_links : (env : List ℤ) (n : ℕ) (x : Target) → HasNoRepeats (links_to env n x)
distinct_links env n (target.Task class flow args) =
    HasNoRepeats-map (link n class flow) (combinations args env) (distinct_combinations args env) (λ x y e. ap (λ (l : Link). l.far.params) e)
distinct_links env n (target.Element coll indices) = tt
distinct_links env n target.New = tt
distinct_links env n target.Null = tt

pub distinct_in : (t : Task) (env : List ℤ) (n : ℕ) (x : Target) → HasNoRepeats (edges_into t env n x)
distinct_in t env n x =
    rw (edges_into-links t env n x) (HasNoRepeats-map (edge_of_link In t) (links_to env n x) (distinct_links env n x) (λ k l e. ap link_in e))

pub distinct_out : (t : Task) (env : List ℤ) (n : ℕ) (x : Target) → HasNoRepeats (filter_map edge_of (items_to t env n x))
distinct_out t env n x =
    rw (items_to-links t env n x) (HasNoRepeats-map (edge_of_link Out t) (links_to env n x) (distinct_links env n x) (λ k l e. ap link_out e))
