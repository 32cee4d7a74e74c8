-- Resolved arguments and indices name only definitions that are seen.
use Rattle.std.proofs.Common.{◌≡◌, false, ◌||◌, List, [], ◌∷◌, length, flat_map, Some, IsTrue, sym, ◌∙◌, ap, subst}
use Rattle.std.specs.List.{list_all, list_any}
use Rattle.term_core.specs.Term.{Term}
use Rattle.term_core.specs.Value.{is_closed}
use Rattle.jdf_tree.specs.declared.tree.ArgTree.TheVariants as tree
use Rattle.plan_core.specs.declared.target.Arg.{Arg}
use Rattle.plan_core.specs.declared.target.Arg.TheVariants as plan
use Rattle.plan_core.specs.Closed.{is_closed_arg, is_span}
use Rattle.type_rules.specs.TreesAndFaults.{JdfCode, DefTree, ArgTree}
use Rattle.type_rules.specs.Names.{Job}
use Rattle.type_rules.specs.Returns.{each}
use Rattle.type_rules.specs.Expressions.{term_of}
use Rattle.type_rules.specs.Arguments.{range_of, argument_of, range_faults, ranges_faults, index_of, arguments_of, indices_of}
use Rattle.type_rules.proofs.Closed.{closed_term, closed_range}
use Rattle.type_rules.proofs.NoFaults.{parts_of, parts_all}
use Rattle.std.proofs.lemmas.Option.{same_Some}
use Rattle.list_lemmas.proofs.Joins.{first_nil, rest_nil}
use Rattle.list_lemmas.proofs.Options.{from_option_map}

closed_argument : (job : Job) (seen : List DefTree) (a : ArgTree) (x : Arg) → argument_of job seen a ≡ Some x → IsTrue (is_closed_arg (length seen) x)
closed_argument job seen (tree.One e) x h =
    let p = from_option_map plan.One (term_of job seen e) x h in
    subst (λ y. IsTrue (is_closed_arg (length seen) y)) p.2 (closed_term job seen e p.0 p.1)
closed_argument job seen (tree.Span spot lo hi step) x h =
    let p = from_option_map plan.Span (range_of job seen lo hi step) x h in
    subst (λ y. IsTrue (is_closed_arg (length seen) y)) p.2 (closed_range job seen lo hi step p.0 p.1)

pub closed_arguments : (job : Job) (seen : List DefTree) (args : List ArgTree) (xs : List Arg)
    → arguments_of job seen args ≡ Some xs → IsTrue (list_all (is_closed_arg (length seen)) xs)
closed_arguments job seen args xs h = parts_all (argument_of job seen) (is_closed_arg (length seen)) (λ a x e. closed_argument job seen a x e) args xs h

closed_index : (job : Job) (seen : List DefTree) (a : ArgTree) (t : Term) → index_of job seen a ≡ Some t → IsTrue (is_closed (length seen) t)
closed_index job seen (tree.One e) t h = closed_term job seen e t h
closed_index job seen (tree.Span spot lo hi step) t h = absurd cc

pub closed_indices : (job : Job) (seen : List DefTree) (args : List ArgTree) (ts : List Term)
    → indices_of job seen args ≡ Some ts → IsTrue (list_all (is_closed (length seen)) ts)
closed_indices job seen args ts h = parts_all (index_of job seen) (is_closed (length seen)) (λ a t e. closed_index job seen a t e) args ts h

-- an argument that is no range is resolved to none
one_argument : (job : Job) (seen : List DefTree) (code : JdfCode) (a : ArgTree) (x : Arg) → range_faults code a ≡ []
    → argument_of job seen a ≡ Some x → is_span x ≡ false
one_argument job seen code (tree.One e) x h k = let p = from_option_map plan.One (term_of job seen e) x k in ap is_span (sym p.2)
one_argument job seen code (tree.Span spot lo hi step) x h k = absurd cc

pub no_ranges : (job : Job) (seen : List DefTree) (code : JdfCode) (args : List ArgTree) (xs : List Arg)
    → ranges_faults code args ≡ [] → arguments_of job seen args ≡ Some xs → list_any is_span xs ≡ false
no_ranges job seen code [] xs h e = ap (list_any is_span) (sym (same_Some [] xs e))
no_ranges job seen code (a ∷ args) xs h e =
    let q = parts_of (λ y ys. y ∷ ys) (argument_of job seen a) (each (argument_of job seen) args) xs e in
    let first = one_argument job seen code a q.0 (first_nil (range_faults code a) (flat_map (range_faults code) args) h) q.2 in
    let rest = no_ranges job seen code args q.1 (rest_nil (range_faults code a) (flat_map (range_faults code) args) h) q.3 in
    ap (list_any is_span) (sym q.4) ∙ (ap (λ b. b || list_any is_span q.1) first ∙ rest)
