-- A body keeps the shape of its task's tiles: as many entries, absent ones stay absent, and the others keep their
-- length.
use Rattle.std.proofs.Common.{◌≡◌, ℕ, ◌-◌, ◌<◌, ℤ, Bool, true, false, cond, List, [], ◌∷◌, length, get_or, set, refl}
use Rattle.std.proofs.Common.{ap, sym, ◌∙◌, subst, Option, Some, None, Result, Ok, Err, inl, inr, ◌==◌}
use Rattle.std.specs.Prelude.{option_map}
use Rattle.std.proofs.lemmas.Bool.{cases_eq, cases_lt}
use Rattle.std.proofs.lemmas.List.{get_or-set_same, get_or-set_other, get_or_past, length-set}
use Rattle.term_core.specs.Arith.{holds}
use Rattle.term_core.specs.Term.{Term}
use Rattle.ptg_base.specs.Returns.{and_then}
use Rattle.term_core.specs.StatementList.{StatementList, Done, SetThen, PutThen, IfThen, ForThen, TrapThen}
use Rattle.term_core.specs.declared.body.Body.{Body}
use Rattle.term_core.specs.declared.trap.Trap.{Trap}
use Rattle.term_core.specs.declared.trap.Trap.TheVariants as trap
use Rattle.ptg_base.specs.Index.{index_in}
use Rattle.body_eval.specs.Element.{put_element, tile_of, written, written_at}
use Rattle.body_eval.specs.Meaning.{body_meaning, first_then, for_meaning, if_meaning, opening, put_meaning, run, set_meaning, task_budget, turn_values, turns}
use Rattle.body_eval.specs.Sizes.{size_of}
use Rattle.body_eval.specs.State.{State, assigned, put, spent, value_in}
use Rattle.list_lemmas.proofs.Options.{steps_of}

-- the second tiles have the shape of the first
pub record HasShape (old new : List (Option (List ℤ))) : Type 0 where
  pub places : length new ≡ length old
  pub sizes : (flow : ℕ) → size_of new flow ≡ size_of old flow

shape_same : (tiles : List (Option (List ℤ))) → HasShape tiles tiles
shape_same tiles = record { places = refl; sizes = λ flow. refl }

shape_then : (a b c : List (Option (List ℤ))) → HasShape a b → HasShape b c → HasShape a c
shape_then a b c h k = record { places = k.places ∙ h.places; sizes = λ flow. k.sizes flow ∙ h.sizes flow }

written_length : (xs ys : List ℤ) (o : Option ℕ) (v : ℤ) → written_at xs o v ≡ Ok ys → length ys ≡ length xs
written_length xs ys (Some n) v e = let same : set xs n v ≡ ys = cc in ap length (sym same) ∙ length-set xs n v
written_length xs ys None v e = absurd cc

-- a tile that was written to was there, and is as long as before
written_shape : (o : Option (List ℤ)) (at v : ℤ) (ys : List ℤ) → written o at v ≡ Ok ys → option_map length o ≡ Some (length ys)
written_shape None at v ys e = absurd cc
written_shape (Some xs) at v ys e = ap (λ (n : ℕ). Some n) (sym (written_length xs ys (index_in (length xs) at) v e))

no_length : (tiles : List (Option (List ℤ))) (flow n : ℕ) → get_or tiles flow None ≡ None
    → option_map length (get_or tiles flow None) ≡ Some n → flow < length tiles
no_length tiles flow n none e =
    let absent : option_map length (get_or tiles flow None) ≡ None = ap (λ (o : Option (List ℤ)). option_map length o) none in
    absurd cc

some_length : (tiles : List (Option (List ℤ))) (flow n : ℕ) → option_map length (get_or tiles flow None) ≡ Some n → flow < length tiles
some_length tiles flow n e = elim (cases_lt flow (length tiles)) [
  | inl l ↦ l
  | inr past ↦ no_length tiles flow n (get_or_past tiles flow None past) e
]

put_shape : (tiles new : List (Option (List ℤ))) (flow : ℕ) (at v : ℤ) → put_element tiles flow at v ≡ Ok new → HasShape tiles new
put_shape tiles new flow at v e =
    let p = steps_of (written (tile_of tiles flow) at v) (λ xs. Ok (set tiles flow (Some xs))) new e in
    let was = written_shape (tile_of tiles flow) at v p.0 p.1 in
    let same : set tiles flow (Some p.0) ≡ new = let k = p.2 in cc in
    subst (HasShape tiles) same (record {
      places = length-set tiles flow (Some p.0);
      sizes = λ other. elim (cases_eq other flow) [
        | inl here ↦
            ap (λ k. option_map length (get_or (set tiles flow (Some p.0)) k None)) here
            ∙ ap (λ (o : Option (List ℤ)). option_map length o) (get_or-set_same tiles flow (Some p.0) None (some_length tiles flow (length p.0) was))
            ∙ sym was
            ∙ ap (λ k. option_map length (get_or tiles k None)) (sym here)
        | inr away ↦ ap (λ (o : Option (List ℤ)). option_map length o) (get_or-set_other tiles flow other (Some p.0) None away)
      ];
    })

-- a step of a body that keeps the shape of the tiles
abbrev KeepsShape : (State → Result State Trap) → Type 0
KeepsShape f = (s t : State) → f s ≡ Ok t → HasShape s.tiles t.tiles

keeps_done : KeepsShape (λ s. Ok s)
keeps_done s t e = let same : s ≡ t = cc in subst (λ (u : State). HasShape s.tiles u.tiles) same (shape_same s.tiles)

keeps_spent : KeepsShape spent
keeps_spent s t e = by (s.units_left == 0) e
  where
    by : (b : Bool) → cond b (Err trap.Budget) (Ok (record s { units_left = s.units_left - 1 })) ≡ Ok t → HasShape s.tiles t.tiles
    by true e = absurd cc
    by false e = let same : record s { units_left = s.units_left - 1 } ≡ t = cc in subst (λ (u : State). HasShape s.tiles u.tiles) same (shape_same s.tiles)

keeps_first : (act rest : State → Result State Trap) → KeepsShape act → KeepsShape rest → KeepsShape (first_then act rest)
keeps_first act rest h k s t e =
    let p = steps_of (spent s) (λ u. and_then (act u) rest) t e in
    let q = steps_of (act p.0) rest t p.2 in
    shape_then s.tiles p.0.tiles t.tiles (keeps_spent s p.0 p.1) (shape_then p.0.tiles q.0.tiles t.tiles (h p.0 q.0 q.1) (k q.0 t q.2))

keeps_set : (n : ℕ) (e : Term) → KeepsShape (set_meaning n e)
keeps_set n e s t h =
    let p = steps_of (value_in s e) (λ v. Ok (assigned n v s)) t h in
    let same : assigned n p.0 s ≡ t = let k = p.2 in cc in
    subst (λ (u : State). HasShape s.tiles u.tiles) same (shape_same s.tiles)

keeps_put : (flow : ℕ) (at e : Term) → KeepsShape (put_meaning flow at e)
keeps_put flow at e s t h =
    let p = steps_of (value_in s at) (λ i. and_then (value_in s e) (λ v. put flow i v s)) t h in
    let q = steps_of (value_in s e) (λ v. put flow p.0 v s) t p.2 in
    let r = steps_of (put_element s.tiles flow p.0 q.0) (λ tiles. Ok (record s { tiles = tiles })) t q.2 in
    let same : record s { tiles = r.0 } ≡ t = let k = r.2 in cc in
    subst (λ (u : State). HasShape s.tiles u.tiles) same (put_shape s.tiles r.0 flow p.0 q.0 r.1)

keeps_if : (c : Term) (first second : State → Result State Trap) → KeepsShape first → KeepsShape second → KeepsShape (if_meaning c first second)
keeps_if c first second h k s t e =
    let p = steps_of (value_in s c) (λ x. cond (holds x) (first s) (second s)) t e in
    by (holds p.0) p.2
  where
    by : (b : Bool) → cond b (first s) (second s) ≡ Ok t → HasShape s.tiles t.tiles
    by true e = h s t e
    by false e = k s t e

keeps_turns : (block : State → Result State Trap) (n : ℕ) (vs : List ℤ) → KeepsShape block → KeepsShape (turns block n vs)
keeps_turns block n [] h = keeps_done
keeps_turns block n (v ∷ vs) h = keeps_first (λ u. block (assigned n v u)) (turns block n vs) (λ u t e. h (assigned n v u) t e) (keeps_turns block n vs h)

keeps_for : (n : ℕ) (lo hi : Term) (block : State → Result State Trap) → KeepsShape block → KeepsShape (for_meaning n lo hi block)
keeps_for n lo hi block h s t e =
    let p = steps_of (value_in s lo) (λ a. and_then (value_in s hi) (λ b. turns block n (turn_values a b) s)) t e in
    let q = steps_of (value_in s hi) (λ b. turns block n (turn_values p.0 b) s) t p.2 in
    keeps_turns block n (turn_values p.0 q.0) h s t q.2

keeps_run : (statements : StatementList) → KeepsShape (run statements)
keeps_run Done = keeps_done
keeps_run (SetThen n e rest) = keeps_first (set_meaning n e) (run rest) (keeps_set n e) (keeps_run rest)
keeps_run (PutThen flow at e rest) = keeps_first (put_meaning flow at e) (run rest) (keeps_put flow at e) (keeps_run rest)
keeps_run (IfThen c first second rest) = keeps_first (if_meaning c (run first) (run second)) (run rest)
    (keeps_if c (run first) (run second) (keeps_run first) (keeps_run second)) (keeps_run rest)
keeps_run (ForThen n lo hi turn rest) = keeps_first (for_meaning n lo hi (run turn)) (run rest) (keeps_for n lo hi (run turn) (keeps_run turn)) (keeps_run rest)
keeps_run (TrapThen w rest) = keeps_first (λ t. Err (trap.Word w)) (run rest) (λ s t e. absurd cc) (keeps_run rest)

-- the tiles after a body have the shape of those before it
pub body_shape : (body : Body) (locals : List ℤ) (tiles new : List (Option (List ℤ))) → body_meaning body locals tiles ≡ Ok new → HasShape tiles new
body_shape body locals tiles new e =
    let p = steps_of (run body.statements (opening locals body.slots tiles task_budget)) (λ (s : State). Ok s.tiles) new e in
    let same : p.0.tiles ≡ new = let k = p.2 in cc in
    subst (HasShape tiles) same (keeps_run body.statements (opening locals body.slots tiles task_budget) p.0 p.1)
