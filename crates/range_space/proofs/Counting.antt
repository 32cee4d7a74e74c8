-- How counts continue from one part of a walk to the next.
use Rattle.std.proofs.Common.{◌≡◌, ℕ, suc, ◌+◌, ◌<◌, ◌≤◌, ◌⊎◌, inl, inr, ℤ, List, [], ◌∷◌, ◌++◌, length, refl, ap, sym}
use Rattle.std.proofs.Common.{◌∙◌, append_assoc, add-zero, Result, Ok, Err, length-append, arith}
use Rattle.std.proofs.lemmas.List.{length-map}
use Rattle.std.proofs.lemmas.Bool.{cases_lt}
use Rattle.std.specs.Result.{result_unwrap_or}
use Rattle.term_core.specs.declared.space.Def.{Def}
use Rattle.term_core.specs.declared.space.ClassSpace.{ClassSpace}
use Rattle.range_space.specs.declared.fault.SpanFault.{SpanFault}
use Rattle.range_space.specs.declared.fault.SpaceFault.{SpaceFault}
use Rattle.range_space.specs.declared.fault.SpaceFault.TheVariants.{TooManyTasks}
use Rattle.range_space.specs.Values.{values}
use Rattle.range_space.specs.Fault.{Bounds}
use Rattle.range_space.specs.Tasks.{full_lists, def_values, params_of}
use Rattle.range_space.specs.ListsAfter.{def_bounds, lists_over}
use Rattle.range_space.specs.Walk.{Visit, Prefix, Task, NoValue, visits, walk, walk_among, walk_all, task_count}
use Rattle.range_space.specs.Walk.{prefix_count, AllHaveValues, StopsAt, IsFirstFault, IsWalked, task_total}
use Rattle.range_space.proofs.Nesting.{def_values-bounds, def_values-fault}

pub task_count-append : (xs ys : List Visit) → task_count (xs ++ ys) ≡ task_count xs + task_count ys
task_count-append [] ys = omega arith
task_count-append (Prefix c ∷ xs) ys = task_count-append xs ys
task_count-append (Task c ∷ xs) ys = omega (arith, task_count-append xs ys)
task_count-append (NoValue c vs ∷ xs) ys = task_count-append xs ys

pub prefix_count-append : (xs ys : List Visit) → prefix_count (xs ++ ys) ≡ prefix_count xs + prefix_count ys
prefix_count-append [] ys = omega arith
prefix_count-append (Prefix c ∷ xs) ys = omega (arith, prefix_count-append xs ys)
prefix_count-append (Task c ∷ xs) ys = prefix_count-append xs ys
prefix_count-append (NoValue c vs ∷ xs) ys = prefix_count-append xs ys

pub AllHaveValues-append : (xs ys : List Visit) → AllHaveValues xs → AllHaveValues ys → AllHaveValues (xs ++ ys)
AllHaveValues-append [] ys f g = g
AllHaveValues-append (Prefix c ∷ xs) ys f g = AllHaveValues-append xs ys f g
AllHaveValues-append (Task c ∷ xs) ys f g = AllHaveValues-append xs ys f g
AllHaveValues-append (NoValue c vs ∷ xs) ys f g = absurd f

-- a visit that stops the walk at once
pub stops_at_once : (t p : ℕ) (m : Visit) (f : SpaceFault) → t ≤ 1000000 → p ≤ 16000000 → StopsAt t p m f → IsFirstFault t p (m ∷ []) f
stops_at_once t p m f h k s = record {
  before = [];
  visit = m;
  rest = [];
  split = refl;
  unstopped = record { all_have_values = tt; tasks_at_most = omega arith; prefixes_at_most = omega arith };
  stops = rw (add-zero, add-zero) s;
}

-- two parts that nothing stops, one after the other
pub walked_more : (t p t' p' t'' p'' : ℕ) (xs ys : List Visit) → IsWalked t p t' p' xs → IsWalked t' p' t'' p'' ys → IsWalked t p t'' p'' (xs ++ ys)
walked_more t p t' p' t'' p'' xs ys w u =
    let e = task_count-append xs ys in
    let k = prefix_count-append xs ys in
    let a = w.all_tasks in
    let b = u.all_tasks in
    let c = w.all_prefixes in
    let d = u.all_prefixes in
    let g = u.unstopped.tasks_at_most in
    let h = u.unstopped.prefixes_at_most in
    record {
      unstopped = record {
        all_have_values = AllHaveValues-append xs ys w.unstopped.all_have_values
            u.unstopped.all_have_values;
        tasks_at_most = omega arith;
        prefixes_at_most = omega arith;
      };
      all_tasks = omega arith;
      all_prefixes = omega arith;
    }

-- the first fault of the first part is that of both parts
pub fault_before : (t p : ℕ) (xs ys : List Visit) (f : SpaceFault) → IsFirstFault t p xs f → IsFirstFault t p (xs ++ ys) f
fault_before t p xs ys f w = record {
  before = w.before;
  visit = w.visit;
  rest = w.rest ++ ys;
  split = ap (λ l. l ++ ys) w.split ∙ append_assoc w.before (w.visit ∷ w.rest) ys;
  unstopped = w.unstopped;
  stops = w.stops;
}

-- the first fault of the second part is that of both parts, if nothing stops the first part
pub fault_after : (t p t' p' : ℕ) (xs ys : List Visit) (f : SpaceFault) → IsWalked t p t' p' xs → IsFirstFault t' p' ys f → IsFirstFault t p (xs ++ ys) f
fault_after t p t' p' xs ys f w u =
    let both = walked_more t p t' p' (t' + task_count u.before) (p' + prefix_count u.before) xs u.before w
    (record { unstopped = u.unstopped; all_tasks = refl; all_prefixes = refl }) in
    record {
      before = xs ++ u.before;
      visit = u.visit;
      rest = u.rest;
      split = ap (λ l. xs ++ l) u.split ∙ sym (append_assoc xs u.before (u.visit ∷ u.rest));
      unstopped = both.unstopped;
      stops = rw (sym both.all_tasks, sym both.all_prefixes) u.stops;
    }

-- the walk under a definition, given its bounds
pub walk-bounds : (class : ℕ) (d : Def) (ds : List Def) (outer : List ℤ) (b : Bounds) → def_bounds d outer ≡ Ok b
    → walk class (d ∷ ds) outer ≡ walk_among class ds outer (values b.lo b.hi b.step)
walk-bounds class d ds outer b e = ap (visits (λ v. Prefix class ∷ walk class ds (outer ++ v ∷ [])) (NoValue class outer)) (def_values-bounds d outer b e)

pub walk-fault : (class : ℕ) (d : Def) (ds : List Def) (outer : List ℤ) (f : SpanFault) → def_bounds d outer ≡ Err f
    → walk class (d ∷ ds) outer ≡ NoValue class outer ∷ []
walk-fault class d ds outer f e = ap (visits (λ v. Prefix class ∷ walk class ds (outer ++ v ∷ [])) (NoValue class outer)) (def_values-fault d outer f e)

-- there is a task for each full list of locals
among_count : (class : ℕ) (ds : List Def) (outer : List ℤ) →
    ((b : List ℤ) → task_count (walk class ds b) ≡ length (full_lists ds b)) → (vs : List ℤ)
    → task_count (walk_among class ds outer vs) ≡ length (lists_over ds outer vs)
among_count class ds outer nested [] = refl
among_count class ds outer nested (v ∷ vs) =
    task_count-append (walk class ds (outer ++ v ∷ [])) (walk_among class ds outer vs)
    ∙ ap (λ n. n + task_count (walk_among class ds outer vs)) (nested (outer ++ v ∷ []))
    ∙ ap (λ n. length (full_lists ds (outer ++ v ∷ [])) + n) (among_count class ds outer nested vs)
    ∙ sym (length-append (full_lists ds (outer ++ v ∷ [])) (lists_over ds outer vs))

under_count : (class : ℕ) (ds : List Def) (outer : List ℤ) →
    ((b : List ℤ) → task_count (walk class ds b) ≡ length (full_lists ds b)) → (r : Result (List ℤ) SpanFault)
    → task_count (visits (λ v. Prefix class ∷ walk class ds (outer ++ v ∷ [])) (NoValue class outer) r)
    ≡ length (lists_over ds outer (result_unwrap_or r []))
under_count class ds outer nested (Ok vs) = among_count class ds outer nested vs
under_count class ds outer nested (Err e) = refl

task_count-walk : (class : ℕ) (ds : List Def) (outer : List ℤ) → task_count (walk class ds outer) ≡ length (full_lists ds outer)
task_count-walk class [] outer = refl
task_count-walk class (d ∷ ds) outer = under_count class ds outer (λ b. task_count-walk class ds b) (def_values d outer)

pub task_count-walk_all : (class : ℕ) (ss : List ClassSpace) → task_count (walk_all class ss) ≡ task_total ss
task_count-walk_all class [] = refl
task_count-walk_all class (s ∷ ss) =
    let e = task_count-append (walk class s.defs []) (walk_all (suc class) ss) in
    let f = task_count-walk class s.defs [] in
    let g = length-map (full_lists s.defs []) (params_of s.params) in
    let h = task_count-walk_all (suc class) ss in
    omega arith

-- the part of a walk before the values that are still to come
pub record IsSoFar (t p t' p' class : ℕ) (ds : List Def) (outer all left : List ℤ) : Type 0 where
  pub done : List Visit
  pub split : walk_among class ds outer all ≡ done ++ walk_among class ds outer left
  pub walked : IsWalked t p t' p' done

module _ (t p t' p' class : ℕ) (ds : List Def) (outer all left : List ℤ) (v : ℤ) (more : List ℤ)
    (next : left ≡ v ∷ more) (w : IsSoFar t p t' p' class ds outer all left) where
  -- what is left: the prefix, what is nested in it, and the rest
  left-apart : walk_among class ds outer all ≡ (w.done ++ Prefix class ∷ []) ++ walk class ds (outer ++ v ∷ []) ++ walk_among class ds outer more
  left-apart = w.split ∙ ap (λ l. w.done ++ walk_among class ds outer l) next
      ∙ regroup w.done (Prefix class) (walk class ds (outer ++ v ∷ [])) (walk_among class ds outer more)
    where
      regroup : (xs : List Visit) (m : Visit) (ys zs : List Visit) → xs ++ ((m ∷ ys) ++ zs) ≡ (xs ++ m ∷ []) ++ ys ++ zs
      regroup xs m ys zs = simp append_assoc

  pub fault_at_prefix : (f : SpaceFault) → IsFirstFault t' p' (Prefix class ∷ []) f → IsFirstFault t p (walk_among class ds outer all) f
  fault_at_prefix f u =
      rw left-apart (fault_before t p _ (walk_among class ds outer more) f
      (fault_before t p _ (walk class ds (outer ++ v ∷ [])) f
      (fault_after t p t' p' w.done (Prefix class ∷ []) f w.walked u)))

  module _ (t'' p'' : ℕ) (one : IsWalked t' p' t'' p'' (Prefix class ∷ [])) where
    pub fault_inside : (f : SpaceFault) → IsFirstFault t'' p'' (walk class ds (outer ++ v ∷ [])) f → IsFirstFault t p (walk_among class ds outer all) f
    fault_inside f u =
        rw left-apart (fault_before t p _ (walk_among class ds outer more) f
        (fault_after t p t'' p'' _ _ f (walked_more _ _ t' p' _ _ w.done (Prefix class ∷ []) w.walked one) u))

    pub one_more : (t3 p3 : ℕ) → IsWalked t'' p'' t3 p3 (walk class ds (outer ++ v ∷ [])) → IsSoFar t p t3 p3 class ds outer all more
    one_more t3 p3 u = record {
      done = (w.done ++ Prefix class ∷ []) ++ walk class ds (outer ++ v ∷ []);
      split = left-apart;
      walked = walked_more _ _ t'' p'' _ _ (w.done ++ Prefix class ∷ []) (walk class ds (outer ++ v ∷ []))
          (walked_more _ _ t' p' _ _ w.done (Prefix class ∷ []) w.walked one) u;
    }

-- under the last definition of a class the walk visits a prefix and a task for each value
all_values : (class : ℕ) (vs : List ℤ) → AllHaveValues (walk_among class [] [] vs)
all_values class [] = tt
all_values class (v ∷ vs) = all_values class vs

tasks_of_values : (class : ℕ) (vs : List ℤ) → task_count (walk_among class [] [] vs) ≡ length vs
tasks_of_values class [] = refl
tasks_of_values class (v ∷ vs) = ap suc (tasks_of_values class vs)

prefixes_of_values : (class : ℕ) (vs : List ℤ) → prefix_count (walk_among class [] [] vs) ≡ length vs
prefixes_of_values class [] = refl
prefixes_of_values class (v ∷ vs) = ap suc (prefixes_of_values class vs)

pub values_counted : (t p t' p' class : ℕ) (vs : List ℤ) → t' ≡ t + length vs → p' ≡ p + length vs → t' ≤ 1000000
    → p' ≤ 16000000 → IsWalked t p t' p' (walk_among class [] [] vs)
values_counted t p t' p' class vs d e h k =
    let f = tasks_of_values class vs in
    let g = prefixes_of_values class vs in
    record {
      unstopped = record { all_have_values = all_values class vs; tasks_at_most = omega arith; prefixes_at_most = omega arith };
      all_tasks = omega arith;
      all_prefixes = omega arith;
    }

one_value : (t p class : ℕ) → t < 1000000 → p < 16000000 → IsWalked t p (suc t) (suc p) (Prefix class ∷ Task class ∷ [])
one_value t p class h k = record {
  unstopped = record { all_have_values = tt; tasks_at_most = omega arith; prefixes_at_most = omega arith };
  all_tasks = omega arith;
  all_prefixes = omega arith;
}

one_prefix : (t p class : ℕ) → t ≤ 1000000 → p < 16000000 → IsWalked t p t (suc p) (Prefix class ∷ [])
one_prefix t p class h k = record {
  unstopped = record { all_have_values = tt; tasks_at_most = omega arith; prefixes_at_most = omega arith };
  all_tasks = omega arith;
  all_prefixes = omega arith;
}

-- if there are more values than room, the first prefix or task without room stops the walk
pub values_refused : (t p class : ℕ) (vs : List ℤ) → t ≤ 1000000 → p ≤ 16000000
    → (1000000 < t + length vs) ⊎ (16000000 < p + length vs)
    → IsFirstFault t p (walk_among class [] [] vs) (TooManyTasks class)
values_refused t p class [] h k more = absurd (elim more [ inl a ↦ omega arith | inr b ↦ omega arith ])
values_refused t p class (v ∷ vs) h k more = elim (cases_lt p 16000000) [
  | inr full ↦ fault_before t p (Prefix class ∷ []) (Task class ∷ walk_among class [] [] vs) _ (stops_at_once t p (Prefix class) _ h k (omega arith, refl))
  | inl q ↦ elim (cases_lt t 1000000) [
    | inr full ↦ fault_after t p t (suc p) (Prefix class ∷ []) (Task class ∷ walk_among class [] [] vs) _ (one_prefix t p class h q)
        (fault_before t (suc p) (Task class ∷ []) (walk_among class [] [] vs) _ (stops_at_once t (suc p) (Task class) _ h q (omega arith, refl)))
    | inl r ↦ fault_after t p (suc t) (suc p) (Prefix class ∷ Task class ∷ []) (walk_among class [] [] vs) _ (one_value t p class r q)
        (values_refused (suc t) (suc p) class vs r q (elim more [ inl a ↦ inl (omega arith) | inr b ↦ inr (omega arith) ]))
  ]
]
