-- More units change nothing but a trap for lack of units.
use Rattle.std.proofs.Common.{◌≡◌, ◌≢◌, ℕ, zero, suc, ◌+◌, ℤ, Bool, true, false, if◌then◌else◌, List, [], ◌∷◌, ◌⊎◌, inl}
use Rattle.std.proofs.Common.{inr, Option, Result, Ok, Err, refl, ap, sym, ◌∙◌, arith}
use Rattle.term_core.specs.Term.{Term}
use Rattle.term_core.specs.Arith.{holds}
use Rattle.ptg_base.specs.Returns.{and_then}
use Rattle.term_core.specs.StatementList.{StatementList, Done, SetThen, PutThen, IfThen, ForThen, TrapThen}
use Rattle.term_core.specs.declared.body.Body.{Body}
use Rattle.term_core.specs.declared.trap.Trap.{Trap}
use Rattle.term_core.specs.declared.trap.Trap.TheVariants.{Budget, Word}
use Rattle.body_eval.specs.State.{State, spent, assigned, value_in, put}
use Rattle.body_eval.specs.Element.{put_element}
use Rattle.body_eval.specs.Meaning.{first_then, set_meaning, put_meaning, if_meaning, turns, turn_values, for_meaning, run, opening}
use Rattle.body_laws.specs.MoreUnits.{DoesTheSame}
use Rattle.body_eval.proofs.CallerLemmas.{spent_one, state_with}

module _ (m : ℕ) where
  -- the same state with m more units
  abbrev richer : State → State
  richer s = record s { units_left = s.units_left + m }

  abbrev all_richer : Result State Trap → Result State Trap
  all_richer (Ok s) = Ok (richer s)
  all_richer (Err e) = Err e

  -- the second result is the first one with m more units, unless the first ran out of units
  abbrev Outcome : Result State Trap → Result State Trap → Type 0
  Outcome r r' = (r ≡ Err Budget) ⊎ (r' ≡ all_richer r)

  abbrev Keeps : (State → Result State Trap) → Type 0
  Keeps f = (s : State) → Outcome (f s) (f (richer s))

  -- a value that is evaluated first is the same with both budgets
  outcome-value : {A : Type 0} (r : Result A Trap) (f g : A → Result State Trap) → ((x : A) → Outcome (f x) (g x)) → Outcome (and_then r f) (and_then r g)
  outcome-value (Ok x) f g k = k x
  outcome-value (Err e) f g k = inr refl

  outcome-rest : (r r' : Result State Trap) (rest : State → Result State Trap) → Outcome r r' → Keeps rest → Outcome (and_then r rest) (and_then r' rest)
  outcome-rest r r' rest (inl e) k = inl (ap (λ x. and_then x rest) e)
  outcome-rest (Ok s) r' rest (inr e) k =
      elim (k s) [ inl h ↦ inl h | inr h ↦ inr (ap (λ x. and_then x rest) e ∙ h) ]
  outcome-rest (Err c) r' rest (inr e) k = inr (ap (λ x. and_then x rest) e)

  outcome-spent_of : (slots : List ℤ) (tiles : List (Option (List ℤ))) (units : ℕ)
      → Outcome (spent (state_with slots tiles units)) (spent (state_with slots tiles (units + m)))
  outcome-spent_of slots tiles zero = inl refl
  outcome-spent_of slots tiles (suc n) =
      inr (spent_one slots tiles (suc n + m) (n + m) (omega arith) ∙ ap all_richer (sym (spent_one slots tiles (suc n) n (omega arith))))

  outcome-spent : (s : State) → Outcome (spent s) (spent (richer s))
  outcome-spent s = outcome-spent_of s.slots s.tiles s.units_left

  keeps-first_then : (act rest : State → Result State Trap) → Keeps act → Keeps rest → Keeps (first_then act rest)
  keeps-first_then act rest k l s =
      outcome-rest (spent s) (spent (richer s)) (λ t. and_then (act t) rest) (outcome-spent s) (λ t. outcome-rest (act t) (act (richer t)) rest (k t) l)

  keeps-set : (n : ℕ) (e : Term) → Keeps (set_meaning n e)
  keeps-set n e s = outcome-value (value_in s e) (λ v. Ok (assigned n v s)) (λ v. Ok (assigned n v (richer s))) (λ v. inr refl)

  keeps-put : (flow : ℕ) (at e : Term) → Keeps (put_meaning flow at e)
  keeps-put flow at e s =
      outcome-value (value_in s at) (λ i. and_then (value_in s e) (λ v. put flow i v s)) (λ i. and_then (value_in s e) (λ v. put flow i v (richer s)))
      (λ i. outcome-value (value_in s e) (λ v. put flow i v s) (λ v. put flow i v (richer s))
      (λ v. outcome-value (put_element s.tiles flow i v) (λ tiles. Ok (record s { tiles = tiles }))
      (λ tiles. Ok (record (richer s) { tiles = tiles })) (λ tiles. inr refl)))

  outcome-choice : (b : Bool) (p q p' q' : Result State Trap) → Outcome p p' → Outcome q q' → Outcome (if b then p else q) (if b then p' else q')
  outcome-choice true p q p' q' k l = k
  outcome-choice false p q p' q' k l = l

  keeps-if : (c : Term) (first second : State → Result State Trap) → Keeps first → Keeps second → Keeps (if_meaning c first second)
  keeps-if c first second k l s =
      outcome-value (value_in s c) (λ x. if holds x then first s else second s) (λ x. if holds x then first (richer s) else second (richer s))
      (λ x. outcome-choice (holds x) (first s) (second s) (first (richer s)) (second (richer s)) (k s) (l s))

  keeps-turns : (block : State → Result State Trap) (n : ℕ) → Keeps block → (values : List ℤ) → Keeps (turns block n values)
  keeps-turns block n k [] s = inr refl
  keeps-turns block n k (v ∷ more) s =
      keeps-first_then (λ t. block (assigned n v t)) (turns block n more) (λ t. k (assigned n v t)) (keeps-turns block n k more) s

  keeps-for : (n : ℕ) (lo hi : Term) (block : State → Result State Trap) → Keeps block → Keeps (for_meaning n lo hi block)
  keeps-for n lo hi block k s =
      outcome-value (value_in s lo) (λ a. and_then (value_in s hi) (λ b. turns block n (turn_values a b) s))
      (λ a. and_then (value_in s hi) (λ b. turns block n (turn_values a b) (richer s)))
      (λ a. outcome-value (value_in s hi) (λ b. turns block n (turn_values a b) s) (λ b. turns block n (turn_values a b) (richer s))
      (λ b. keeps-turns block n k (turn_values a b) s))

  keeps-run : (b : StatementList) → Keeps (run b)
  keeps-run Done s = inr refl
  keeps-run (SetThen n e rest) s = keeps-first_then (set_meaning n e) (run rest) (keeps-set n e) (keeps-run rest) s
  keeps-run (PutThen flow at e rest) s = keeps-first_then (put_meaning flow at e) (run rest) (keeps-put flow at e) (keeps-run rest) s
  keeps-run (IfThen c first second rest) s =
      keeps-first_then (if_meaning c (run first) (run second)) (run rest)
      (keeps-if c (run first) (run second) (keeps-run first) (keeps-run second)) (keeps-run rest) s
  keeps-run (ForThen n lo hi turn rest) s =
      keeps-first_then (for_meaning n lo hi (run turn)) (run rest) (keeps-for n lo hi (run turn) (keeps-run turn)) (keeps-run rest) s
  keeps-run (TrapThen w rest) s = keeps-first_then (λ t. Err (Word w)) (run rest) (λ t. inr refl) (keeps-run rest) s

  tiles_richer : (r r' : Result State Trap) → Outcome r r' → and_then r (λ s. Ok s.tiles) ≢ Err Budget
      → and_then r' (λ s. Ok s.tiles) ≡ and_then r (λ s. Ok s.tiles)
  tiles_richer r r' (inl e) want = absurd (want (ap (λ x. and_then x (λ s. Ok s.tiles)) e))
  tiles_richer (Ok s) r' (inr e) want = ap (λ x. and_then x (λ s. Ok s.tiles)) e
  tiles_richer (Err c) r' (inr e) want = ap (λ x. and_then x (λ s. Ok s.tiles)) e

pub does_the_same : (units more : ℕ) (body : Body) (locals : List ℤ) (tiles : List (Option (List ℤ))) → DoesTheSame units more body locals tiles
does_the_same units more body locals tiles want =
    let s = opening locals body.slots tiles units in
    tiles_richer more (run body.statements s) (run body.statements (opening locals body.slots tiles (units + more))) (keeps-run more body.statements s) want
