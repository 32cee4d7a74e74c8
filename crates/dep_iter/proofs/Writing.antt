-- The write-backs of a task by its flows and their out dependences.
use Rattle.std.proofs.Common.{◌≡◌, ℕ, suc, ℤ, Bool, true, false, List, [], ◌∷◌, ◌++◌, map, refl, ap, ◌∙◌, Option, Some, None, Result, Ok, Err}
use Rattle.std.proofs.lemmas.Bool.{not-true}
use Rattle.std.specs.Cmp.{first_so, second_so}
use Rattle.std.specs.List.{flat_map, list_all}
use Rattle.std.specs.Option.{option_and_then, option_map_or}
use Rattle.std.specs.Result.{result_unwrap_or}
use Rattle.std.proofs.lemmas.List.Concat.{flat_map-append}
use Rattle.ptg_base.specs.Returns.{and_then}
use Rattle.ptg_base.specs.Task.{Task}
use Rattle.ptg_base.specs.declared.place.Place.{Place}
use Rattle.term_core.specs.declared.fault.ExprFault.{ExprFault}
use Rattle.plan_core.specs.declared.flow.DepPlan.{DepPlan}
use Rattle.plan_core.specs.declared.flow.FlowPlan.{FlowPlan}
use Rattle.plan_core.specs.declared.target.Target.{Target}
use Rattle.plan_core.specs.declared.target.Target.TheVariants as target
use Rattle.list_lemmas.proofs.Truth.{first_false, second_false}
use Rattle.dep_iter.specs.Active.{by_flow, flow_outs, guard_value, held_target, held_targets, held_then, target_by}
use Rattle.dep_iter.specs.Arguments.{place_of}
use Rattle.dep_iter.specs.Items.{write_back}
use Rattle.dep_iter.specs.Walking.{all_writes_to, writes_to}
use Rattle.dep_iter.specs.Writing.{is_place, names_no_place, names_place, place_held, place_named, writes_by, writes_nothing, writes_of_flows}

-- ---- a dependence without a place

no_place : (env : List ℤ) (x : Target) → is_place x ≡ false → place_named env x ≡ None
no_place env (target.Task class flow args) h = refl
no_place env (target.Element coll indices) h = absurd cc
no_place env target.New h = refl
no_place env target.Null h = refl

no_second_place : (env : List ℤ) (o : Option Target) → option_map_or is_place o false ≡ false
    → option_and_then (place_named env) o ≡ None
no_second_place env None h = refl
no_second_place env (Some x) h = no_place env x h

no_place_by : (d : DepPlan) (env : List ℤ) (r : Result Bool ExprFault) → names_place d ≡ false
    → option_and_then (place_named env) (result_unwrap_or (and_then r (λ b. Ok (target_by d b))) None) ≡ None
no_place_by d env (Err e) h = refl
no_place_by d env (Ok true) h = no_place env d.yes (first_false _ _ h)
no_place_by d env (Ok false) h = no_second_place env d.no (second_false (is_place d.yes) _ h)

-- a dependence without a place among its targets names no place
pub no_place_held : (d : DepPlan) (env : List ℤ) → names_place d ≡ false → place_held d env ≡ None
no_place_held d env h = no_place_by d env (guard_value d.guard env) h

-- ---- the write-backs of one dependence after another

module _ (t : Task) (env : List ℤ) (n : ℕ) where
  some_then : (o : Option Target) (later : List Target) (p : Place) → option_and_then (place_named env) o ≡ Some p
      → flat_map (writes_to t env n) (held_then false o later) ≡ write_back t n p ∷ flat_map (writes_to t env n) later
  some_then None later p e = absurd cc
  some_then (Some (target.Task class flow args)) later p e = absurd cc
  some_then (Some (target.Element coll indices)) later p e =
      let same : place_of coll indices env ≡ p = cc in
      ap (λ q. write_back t n q ∷ flat_map (writes_to t env n) later) same
  some_then (Some target.New) later p e = absurd cc
  some_then (Some target.Null) later p e = absurd cc

  none_then : (o : Option Target) (later : List Target) → option_and_then (place_named env) o ≡ None
      → flat_map (writes_to t env n) (held_then false o later) ≡ flat_map (writes_to t env n) later
  none_then None later e = refl
  none_then (Some (target.Task class flow args)) later e = refl
  none_then (Some (target.Element coll indices)) later e = absurd cc
  none_then (Some target.New) later e = refl
  none_then (Some target.Null) later e = refl

-- a dependence that names a place: its write-back comes first
pub written_some : (t : Task) (env : List ℤ) (n : ℕ) (d : DepPlan) (ds : List DepPlan) (p : Place)
    → place_held d env ≡ Some p → writes_by t env n (d ∷ ds) ≡ write_back t n p ∷ writes_by t env n ds
written_some t env n d ds p e = some_then t env n (held_target d env) (held_targets false ds env) p e

-- one that names none: the write-backs are those of the later ones
pub written_none : (t : Task) (env : List ℤ) (n : ℕ) (d : DepPlan) (ds : List DepPlan)
    → place_held d env ≡ None → writes_by t env n (d ∷ ds) ≡ writes_by t env n ds
written_none t env n d ds e = none_then t env n (held_target d env) (held_targets false ds env) e

-- ---- all flows

numbered : (t : Task) (env : List ℤ) (n : ℕ) (xs : List Target)
    → all_writes_to t env (map (λ x. (n, x)) xs) ≡ flat_map (writes_to t env n) xs
numbered t env n [] = refl
numbered t env n (x ∷ xs) = ap (λ l. writes_to t env n x ++ l) (numbered t env n xs)

-- the write-backs of flows are those of their active out targets
pub flows_writes : (t : Task) (env : List ℤ) (n : ℕ) (fs : List FlowPlan)
    → all_writes_to t env (by_flow (flow_outs env) n fs) ≡ writes_of_flows t env n fs
flows_writes t env n [] = refl
flows_writes t env n (f ∷ fs) =
    let to = λ (a : ℕ × Target). writes_to t env a.0 a.1 in
    let later = by_flow (flow_outs env) (suc n) fs in
    flat_map-append to (map (λ x. (n, x)) (flow_outs env f)) later
    ∙ (ap (λ l. l ++ all_writes_to t env later) (numbered t env n (flow_outs env f))
    ∙ ap (λ l. writes_by t env n f.outs ++ l) (flows_writes t env (suc n) fs))

-- ---- flows without a place

no_writes_by : (t : Task) (env : List ℤ) (n : ℕ) (ds : List DepPlan) → list_all names_no_place ds ≡ true
    → writes_by t env n ds ≡ []
no_writes_by t env n [] h = refl
no_writes_by t env n (d ∷ ds) h =
    let here = no_place_held d env (not-true (names_place d) (first_so _ _ h)) in
    written_none t env n d ds here ∙ no_writes_by t env n ds (second_so _ _ h)

-- flows without a place among the targets of their out dependences write nothing back
pub no_writes : (t : Task) (env : List ℤ) (n : ℕ) (fs : List FlowPlan) → list_all writes_nothing fs ≡ true
    → writes_of_flows t env n fs ≡ []
no_writes t env n [] h = refl
no_writes t env n (f ∷ fs) h =
    ap (λ l. l ++ writes_of_flows t env (suc n) fs) (no_writes_by t env n f.outs (first_so _ _ h))
    ∙ no_writes t env (suc n) fs (second_so _ _ h)
