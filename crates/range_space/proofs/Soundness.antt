-- What an unstopped walk shows about the classes, and conversely.
use Rattle.std.proofs.Common.{◌≡◌, ℕ, suc, ◌+◌, ◌≤◌, ℤ, List, [], ◌∷◌, ◌++◌, length, refl, Result, Ok, Err, IsOkAnd, length-append, flat_map, arith}
use Rattle.std.specs.List.{AllByRecursion}
use Rattle.std.specs.Result.{result_unwrap_or}
use Rattle.term_core.specs.declared.space.Def.{Def}
use Rattle.term_core.specs.declared.space.ClassSpace.{ClassSpace}
use Rattle.range_space.specs.declared.fault.SpanFault.{SpanFault}
use Rattle.range_space.specs.declared.fault.SpaceFault.{SpaceFault}
use Rattle.range_space.specs.Tasks.{def_values}
use Rattle.range_space.specs.Walk.{Visit, Prefix, Task, NoValue, visits, walk, walk_among, walk_all, task_count}
use Rattle.range_space.specs.Walk.{prefix_count, AllHaveValues, IsUnstopped, StopsAt, IsFirstFault, task_total}
use Rattle.range_space.specs.Sound.{prefixes_from, prefix_total, IsSoundFrom, IsSound}
use Rattle.range_space.proofs.Counting.{task_count-append, prefix_count-append, AllHaveValues-append, task_count-walk_all}

none_split : (xs ys : List Visit) → AllHaveValues (xs ++ ys) → AllHaveValues xs × AllHaveValues ys
none_split [] ys h = (tt, h)
none_split (Prefix c ∷ xs) ys h = none_split xs ys h
none_split (Task c ∷ xs) ys h = none_split xs ys h
none_split (NoValue c vs ∷ xs) ys h = absurd h

module _ (class : ℕ) (ds : List Def) (outer : List ℤ) where
  sound_among : ((b : List ℤ) → AllHaveValues (walk class ds b) → IsSoundFrom ds b) → (vs : List ℤ)
      → AllHaveValues (walk_among class ds outer vs) → AllByRecursion (λ v. IsSoundFrom ds (outer ++ v ∷ [])) vs
  sound_among nested [] h = tt
  sound_among nested (v ∷ vs) h =
      let p = none_split (walk class ds (outer ++ v ∷ [])) (walk_among class ds outer vs) h in
      (nested (outer ++ v ∷ []) p.0, sound_among nested vs p.1)

  sound_under : ((b : List ℤ) → AllHaveValues (walk class ds b) → IsSoundFrom ds b) → (r : Result (List ℤ) SpanFault)
      → AllHaveValues (visits (λ v. Prefix class ∷ walk class ds (outer ++ v ∷ [])) (NoValue class outer) r)
      → IsOkAnd r (λ vs. AllByRecursion (λ v. IsSoundFrom ds (outer ++ v ∷ [])) vs)
  sound_under nested (Ok vs) h = sound_among nested vs h
  sound_under nested (Err e) h = h

  none_among : ((b : List ℤ) → IsSoundFrom ds b → AllHaveValues (walk class ds b)) → (vs : List ℤ)
      → AllByRecursion (λ v. IsSoundFrom ds (outer ++ v ∷ [])) vs → AllHaveValues (walk_among class ds outer vs)
  none_among nested [] h = tt
  none_among nested (v ∷ vs) h = AllHaveValues-append (walk class ds (outer ++ v ∷ [])) (walk_among class ds outer vs)
      (nested (outer ++ v ∷ []) h.0) (none_among nested vs h.1)

  none_under : ((b : List ℤ) → IsSoundFrom ds b → AllHaveValues (walk class ds b)) → (r : Result (List ℤ) SpanFault)
      → IsOkAnd r (λ vs. AllByRecursion (λ v. IsSoundFrom ds (outer ++ v ∷ [])) vs)
      → AllHaveValues (visits (λ v. Prefix class ∷ walk class ds (outer ++ v ∷ [])) (NoValue class outer) r)
  none_under nested (Ok vs) h = none_among nested vs h
  none_under nested (Err e) h = h

  prefixes_among : ((b : List ℤ) → prefix_count (walk class ds b) ≡ length (prefixes_from ds b)) → (vs : List ℤ)
      → prefix_count (walk_among class ds outer vs) ≡ length
      (flat_map (λ v. (outer ++ v ∷ []) ∷ prefixes_from ds (outer ++ v ∷ [])) vs)
  prefixes_among nested [] = refl
  prefixes_among nested (v ∷ vs) =
      let e = prefix_count-append (walk class ds (outer ++ v ∷ [])) (walk_among class ds outer vs) in
      let f = nested (outer ++ v ∷ []) in
      let g = prefixes_among nested vs in
      let h = length-append (prefixes_from ds (outer ++ v ∷ [])) (flat_map (λ w. (outer ++ w ∷ []) ∷ prefixes_from ds (outer ++ w ∷ [])) vs) in
      omega arith

  prefixes_under : ((b : List ℤ) → prefix_count (walk class ds b) ≡ length (prefixes_from ds b))
      → (r : Result (List ℤ) SpanFault) → prefix_count (visits (λ v. Prefix class ∷ walk class ds (outer ++ v ∷ []))
      (NoValue class outer) r) ≡ length (flat_map (λ v. (outer ++ v ∷ []) ∷ prefixes_from ds (outer ++ v ∷ []))
      (result_unwrap_or r []))
  prefixes_under nested (Ok vs) = prefixes_among nested vs
  prefixes_under nested (Err e) = refl

sound_from_walk : (class : ℕ) (ds : List Def) (outer : List ℤ) → AllHaveValues (walk class ds outer) → IsSoundFrom ds outer
sound_from_walk class [] outer h = tt
sound_from_walk class (d ∷ ds) outer h = sound_under class ds outer (λ b. sound_from_walk class ds b) (def_values d outer) h

walk_from_sound : (class : ℕ) (ds : List Def) (outer : List ℤ) → IsSoundFrom ds outer → AllHaveValues (walk class ds outer)
walk_from_sound class [] outer h = tt
walk_from_sound class (d ∷ ds) outer h = none_under class ds outer (λ b. walk_from_sound class ds b) (def_values d outer) h

prefix_count-walk : (class : ℕ) (ds : List Def) (outer : List ℤ) → prefix_count (walk class ds outer) ≡ length (prefixes_from ds outer)
prefix_count-walk class [] outer = refl
prefix_count-walk class (d ∷ ds) outer = prefixes_under class ds outer (λ b. prefix_count-walk class ds b) (def_values d outer)

pub prefix_count-walk_all : (class : ℕ) (ss : List ClassSpace) → prefix_count (walk_all class ss) ≡ prefix_total ss
prefix_count-walk_all class [] = refl
prefix_count-walk_all class (s ∷ ss) =
    let e = prefix_count-append (walk class s.defs []) (walk_all (suc class) ss) in
    let f = prefix_count-walk class s.defs [] in
    let h = prefix_count-walk_all (suc class) ss in
    omega arith

pub sound_from_all : (class : ℕ) (ss : List ClassSpace) → AllHaveValues (walk_all class ss) → AllByRecursion IsSound ss
sound_from_all class [] h = tt
sound_from_all class (s ∷ ss) h =
    let p = none_split (walk class s.defs []) (walk_all (suc class) ss) h in
    (sound_from_walk class s.defs [] p.0, sound_from_all (suc class) ss p.1)

all_from_sound : (class : ℕ) (ss : List ClassSpace) → AllByRecursion IsSound ss → AllHaveValues (walk_all class ss)
all_from_sound class [] h = tt
all_from_sound class (s ∷ ss) h = AllHaveValues-append (walk class s.defs []) (walk_all (suc class) ss)
    (walk_from_sound class s.defs [] h.0) (all_from_sound (suc class) ss h.1)

-- no visit stops an unstopped walk
stops_not : (t p : ℕ) (before : List Visit) (m : Visit) (rest : List Visit) (f : SpaceFault)
    → IsUnstopped t p (before ++ m ∷ rest) → StopsAt (t + task_count before) (p + prefix_count before) m f → ⊥
stops_not t p before (NoValue c vs) rest f w s = (none_split before (NoValue c vs ∷ rest) w.all_have_values).1
stops_not t p before (Task c) rest f w s =
    let e = task_count-append before (Task c ∷ rest) in
    let g = w.tasks_at_most in
    let h = s.0 in
    absurd (omega arith)
stops_not t p before (Prefix c) rest f w s =
    let e = prefix_count-append before (Prefix c ∷ rest) in
    let g = w.prefixes_at_most in
    let h = s.0 in
    absurd (omega arith)

pub no_fault : (ss : List ClassSpace) (f : SpaceFault) → AllByRecursion IsSound ss → task_total ss ≤ 1000000
    → prefix_total ss ≤ 16000000 → IsFirstFault 0 0 (walk_all 0 ss) f → ⊥
no_fault ss f sound h k w =
    let e = task_count-walk_all 0 ss in
    let g = prefix_count-walk_all 0 ss in
    let unstopped : IsUnstopped 0 0 (walk_all 0 ss) = record
    { all_have_values = all_from_sound 0 ss sound; tasks_at_most = omega arith; prefixes_at_most = omega arith } in
    stops_not 0 0 w.before w.visit w.rest f (rw w.split at unstopped) w.stops
