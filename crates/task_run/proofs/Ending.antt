-- How a task whose body was run ends.
use Rattle.std.proofs.Common.{◌≡◌, ℕ, zero, suc, ◌+◌, ◌≤◌, ℤ, Bool, true, false, List, [], ◌∷◌, ◌++◌, add-one, length}
use Rattle.std.proofs.Common.{take, refl, ap, sym, ◌∙◌, subst, Option, Some, None, slice_get, arith}
use Rattle.std.specs.Option.{option_map_or}
use Rattle.std.proofs.Math.Seq.{take-suc}
use Rattle.std.proofs.lemmas.Option.{get_or_from_slice_get, slice_get_within}
use Rattle.std.specs.Prelude.{option_map, IsSome, cond}
use Rattle.ptg_base.specs.Task.{Task}
use Rattle.term_core.specs.WellBody.{IsWellBody}
use Rattle.body_eval.specs.Meaning.{body_meaning}
use Rattle.plan_core.specs.declared.class.ClassPlan.{ClassPlan}
use Rattle.plan_core.specs.declared.flow.FlowPlan.{FlowPlan}
use Rattle.plan_core.specs.declared.plan.Plan.{Plan}
use Rattle.coll_data.specs.Data.{Data}
use Rattle.dep_iter.specs.Tasks.{IsTask, flows_of, locals_of}
use Rattle.dep_iter.specs.Consistent.{IsConsistent}
use Rattle.flow_meaning.specs.Starting.{Delivery, starting_tile, starting_tiles, tiles_from}
use Rattle.flow_meaning.specs.Ending.{Ended, ended_on}
use Rattle.flow_meaning.specs.Backward.{ended, has_all_sources, source_tile}
use Rattle.flow_meaning.proofs.CallerLemmas.{class_of, fixed, length-locals_of, length-starting_tiles, length-tiles_from}
use Rattle.task_run.specs.Start.{delivered}

-- the tiles of all flows are what the task starts on
pub all_tiles : (P : Plan) (G : Data) (d : Delivery) (t : Task) (fs : List FlowPlan) → fs ≡ flows_of P t
    → tiles_from P G d t 0 fs ≡ starting_tiles P G d t
unfolding starting_tiles
all_tiles P G d t fs e = ap (tiles_from P G d t 0) e

-- the body of a task is well made for its locals and its tiles
pub well_body : (P : Plan) (G : Data) (d : Delivery) (t : Task) (job : IsTask P t) (class : ClassPlan) (locals : List ℤ)
    (tiles : List (Option (List ℤ))) → slice_get P.classes t.class ≡ Some class → locals ≡ locals_of P t
    → tiles ≡ starting_tiles P G d t → IsWellBody (length locals) (length tiles) class.body
well_body P G d t job class locals tiles is are from =
    let h = class_of P t job in
    let count : length locals ≡ length h.space.defs = ap length are ∙ length-locals_of P t job in
    let flows : length tiles ≡ length class.flows = ap length from ∙ length-starting_tiles P G d t
    ∙ ap (λ o. length (option_map_or (λ (k : ClassPlan). k.flows) o [])) is in
    let well = (P.well_made.fit t.class class h.space is h.space_is).body in
    subst (λ n. IsWellBody n (length tiles) class.body) (sym count)
    (subst (λ n. IsWellBody (length h.space.defs) n class.body) (sym flows) well)

-- a task that runs has all its sources
some_only : (b : Bool) (o e : Option Ended) → e ≡ cond b o None → IsSome e → e ≡ o
some_only true o e is h = is
some_only false o e is h = absurd (no_some e is h)
  where
    no_some : (e : Option Ended) → e ≡ None → IsSome e → ⊥
    no_some None is h = absurd cc
    no_some (Some x) is h = absurd cc

pub ends : (P : Plan) (G : Data) (t : Task) (class : ClassPlan) (locals : List ℤ) (tiles : List (Option (List ℤ)))
    (end : Ended) → IsConsistent P → IsTask P t → IsSome (ended P G t) → slice_get P.classes t.class ≡ Some class
    → locals ≡ locals_of P t
    → tiles ≡ starting_tiles P G (delivered P G) t → body_meaning class.body locals tiles ≡ end → ended P G t ≡ Some end
unfolding ended_on
ends P G t class locals tiles end con job some is are from e =
    some_only (has_all_sources P (ended P G) t) (ended_on P G (source_tile (ended P G)) t) (ended P G t)
    (fixed P G con t job) some
    ∙ ap (option_map (λ (c : ClassPlan). body_meaning c.body (locals_of P t) (starting_tiles P G (delivered P G) t))) is
    ∙ ap Some (sym (λ i. body_meaning class.body (are i) (from i)) ∙ e)

-- one flow more
pub one_flow_more : (P : Plan) (G : Data) (d : Delivery) (t : Task) (n : ℕ) (fs : List FlowPlan) (f : FlowPlan)
    → tiles_from P G d t n (fs ++ f ∷ []) ≡ tiles_from P G d t n fs ++ starting_tile P G d t (n + length fs) f ∷ []
one_flow_more P G d t n [] f =
    let at : n ≡ n + 0 = omega arith in
    ap (λ m. starting_tile P G d t m f ∷ []) at
one_flow_more P G d t n (g ∷ gs) f =
    let at : suc n + length gs ≡ n + suc (length gs) = omega arith in
    ap (λ l. starting_tile P G d t n g ∷ l) (one_flow_more P G d t (suc n) gs f
    ∙ ap (λ m. tiles_from P G d t (suc n) gs ++ starting_tile P G d t m f ∷ []) at)

-- the tiles of the first flows, and of one more
pub laid_next : (P : Plan) (G : Data) (d : Delivery) (t : Task) (fs : List FlowPlan) (i : ℕ) (f : FlowPlan)
    (old new : List (Option (List ℤ))) → old ≡ tiles_from P G d t 0 (take i fs) → slice_get fs i ≡ Some f
    → length old ≡ i
    → new ≡ old ++ starting_tile P G d t (length old) f ∷ [] → new ≡ tiles_from P G d t 0 (take (i + 1) fs)
laid_next P G d t fs i f old new are is at more =
    let first : length (take i fs) ≡ 0 + length (take i fs) = omega arith in
    let old_count : length old ≡ 0 + length (take i fs) = ap length are ∙ length-tiles_from P G d t 0 (take i fs)
    ∙ first in
    more ∙ (λ j. are j ++ starting_tile P G d t (old_count j) f ∷ []) ∙ sym (one_flow_more P G d t 0 (take i fs) f)
    ∙ ap (tiles_from P G d t 0) (sym (take_more fs i f is))
  where
    take_more : (xs : List FlowPlan) (k : ℕ) (x : FlowPlan) → slice_get xs k ≡ Some x
        → take (k + 1) xs ≡ take k xs ++ x ∷ []
    take_more xs k x e = rw (add-one, take-suc xs k x (slice_get_within xs k x e))
        (ap (λ y. take k xs ++ y ∷ []) (get_or_from_slice_get xs k x x e))

-- the tiles of as many flows as there are
pub laid_all : (P : Plan) (G : Data) (d : Delivery) (t : Task) (fs : List FlowPlan) (i : ℕ)
    (tiles : List (Option (List ℤ))) → fs ≡ flows_of P t → length fs ≤ i → tiles ≡ tiles_from P G d t 0 (take i fs)
    → tiles ≡ starting_tiles P G d t
laid_all P G d t fs i tiles are h is = is ∙ ap (tiles_from P G d t 0) (take_all fs i h) ∙ all_tiles P G d t fs are
  where
    take_all : (xs : List FlowPlan) (k : ℕ) → length xs ≤ k → take k xs ≡ xs
    take_all [] zero e = refl
    take_all [] (suc k) e = refl
    take_all (x ∷ xs) zero e = absurd (omega (arith, e))
    take_all (x ∷ xs) (suc k) e = ap (λ l. x ∷ l) (take_all xs k (omega (arith, e)))
