-- How the combinations of values of progressions follow one another.
use Rattle.std.proofs.Common.{◌≡◌, suc, length, ℤ, pos, ◌+ℤ◌, Bool, true, false, List, [], ◌∷◌, ◌++◌, map, refl, ap}
use Rattle.std.proofs.Common.{sym, ◌∙◌, Option, Some, None, Result, Ok, Err, IsErr, is_ok, MatchOption}
use Rattle.std.proofs.lemmas.Bool.{false≢true}
use Rattle.std.specs.List.{AllByRecursion, flat_map}
use Rattle.range_space.specs.declared.fault.SpanFault.{SpanFault}
use Rattle.range_space.specs.declared.steps.Steps.{Steps}
use Rattle.range_space.specs.Values.{is_within, values}
use Rattle.range_space.proofs.CallerLemmas.{values-one, values_in, values_past}
use Rattle.ptg_base.specs.Returns.{and_then}
use Rattle.dep_iter.specs.Arguments.{product}
use Rattle.dep_iter.specs.Combining.{steps_values, HasFirst, HasOneEach, first_values, product_after, combinations_left, AddsSteps}
use Rattle.list_lemmas.proofs.Joins.{map-map}
use Rattle.std.proofs.lemmas.List.{append_assoc, map-append}
use Rattle.std.proofs.lemmas.List.Concat.{flat_map-append}

-- if the later lists have no combination, all lists together have none
pub none_later : (vs : List ℤ) (vss : List (List ℤ)) → product vss ≡ [] → product (vs ∷ vss) ≡ []
none_later [] vss e = refl
none_later (v ∷ vs) vss e =
    ap (λ (l : List (List ℤ)). map (λ ws. v ∷ ws) l ++ flat_map (λ u. map (λ ws. u ∷ ws) (product vss)) vs) e ∙ none_later vs vss e

-- the values of the first list, each before the combinations of the others
over : List Steps → List ℤ → List (List ℤ)
over ss vs = flat_map (λ w. map (λ ws. w ∷ ws) (product (map steps_values ss))) vs

-- the combinations begin with the first values
pub product-first : (ss : List Steps) → AllByRecursion HasFirst ss → product (map steps_values ss) ≡ first_values ss ∷ product_after ss (first_values ss)
unfolding over
product-first [] h = refl
product-first (s ∷ ss) h =
    ap (over ss) (values_in s.hi s.step s.lo h.0)
    ∙ ap (λ (l : List (List ℤ)). map (λ ws. s.lo ∷ ws) l ++ over ss (values (s.lo +ℤ s.step) s.hi s.step)) (product-first ss h.1)

pub HasOneEach-first : (ss : List Steps) → HasOneEach ss (first_values ss)
HasOneEach-first [] = tt
HasOneEach-first (s ∷ ss) = HasOneEach-first ss

-- an expression as a progression of one value
pub one_value : (r : Result ℤ SpanFault) (o : Option Steps) → MatchOption o (IsErr r) (λ s. (r ≡ Ok s.lo) × (s.hi ≡ s.lo) × (s.step ≡ pos 1)) →
    MatchOption o (is_ok (and_then r (λ z. Ok (z ∷ []))) ≡ false) (λ s. and_then r (λ z. Ok (z ∷ [])) ≡ Ok (values s.lo s.hi s.step))
one_value (Ok z) None h = absurd (false≢true h)
one_value (Err f) None h = refl
one_value r (Some s) h =
    rw (h.0, h.1, h.2) (ap Ok (sym (values-one s.lo)))

-- if progressions were added to an empty list, the result has these alone
pub all_added : (lists : List (List ℤ)) (new : List Steps) → AddsSteps lists [] new → (map steps_values new ≡ lists) × AllByRecursion HasFirst new
all_added lists new w = (ap (map steps_values) w.extends ∙ w.same_values, rw w.extends w.have_first)

pub HasOneEach-end : (ss : List Steps) (vs : List ℤ) (s : Steps) (v : ℤ) → HasOneEach (ss ++ s ∷ []) (vs ++ v ∷ []) → HasOneEach ss vs
HasOneEach-end [] [] s v w = tt
HasOneEach-end [] (u ∷ []) s v w = absurd w
HasOneEach-end [] (u ∷ x ∷ vs) s v w = absurd w
HasOneEach-end (x ∷ []) [] s v w = absurd w
HasOneEach-end (x ∷ y ∷ ss) [] s v w = absurd w
HasOneEach-end (x ∷ ss) (u ∷ vs) s v w = HasOneEach-end ss vs s v w

pub none_each : (ss : List Steps) (s : Steps) → HasOneEach (ss ++ s ∷ []) [] → ⊥
none_each [] s w = w
none_each (x ∷ ss) s w = w

pub length_each : (ss : List Steps) (vs : List ℤ) → HasOneEach ss vs → length ss ≡ length vs
length_each [] [] w = refl
length_each [] (v ∷ vs) w = absurd w
length_each (s ∷ ss) [] w = absurd w
length_each (s ∷ ss) (v ∷ vs) w = ap suc (length_each ss vs w)

pub HasOneEach-push : (ss : List Steps) (vs : List ℤ) (s : Steps) (v : ℤ) → HasOneEach ss vs → HasOneEach (ss ++ s ∷ []) (vs ++ v ∷ [])
HasOneEach-push [] [] s v w = tt
HasOneEach-push [] (u ∷ vs) s v w = absurd w
HasOneEach-push (x ∷ ss) [] s v w = absurd w
HasOneEach-push (x ∷ ss) (u ∷ vs) s v w = HasOneEach-push ss vs s v w

pub HasFirst-end : (ss : List Steps) (s : Steps) → AllByRecursion HasFirst (ss ++ s ∷ []) → AllByRecursion HasFirst ss × HasFirst s
HasFirst-end [] s h = (tt, h.0)
HasFirst-end (x ∷ ss) s h = let k = HasFirst-end ss s h.1 in ((h.0, k.0), k.1)

-- ---- combinations by their last value

-- a list with each of these values at its end
abbrev ended : List ℤ → List ℤ → List (List ℤ)
ended ends ws = map (λ v. ws ++ v ∷ []) ends

ended-cons : (ends : List ℤ) (u : ℤ) (ws : List ℤ) → map (λ zs. u ∷ zs) (ended ends ws) ≡ ended ends (u ∷ ws)
ended-cons ends u ws = map-map (λ zs. u ∷ zs) (λ v. ws ++ v ∷ []) ends

-- combinations may be ended before or after a value is put before them
begun-ended : (ends : List ℤ) (u : ℤ) (wss : List (List ℤ)) → map (λ zs. u ∷ zs) (flat_map (ended ends) wss) ≡ flat_map (ended ends) (map (λ ws. u ∷ ws) wss)
begun-ended ends u [] = refl
begun-ended ends u (ws ∷ wss) =
    map-append (λ zs. u ∷ zs) (ended ends ws) (flat_map (ended ends) wss)
    ∙ (ap (λ l. l ++ map (λ zs. u ∷ zs) (flat_map (ended ends) wss)) (ended-cons ends u ws) ∙ ap (λ l. ended ends (u ∷ ws) ++ l) (begun-ended ends u wss))

-- the same for each of several values
all-ended : (ends us : List ℤ) (wss : List (List ℤ)) → flat_map (λ u. map (λ zs. u ∷ zs) (flat_map (ended ends) wss)) us
    ≡ flat_map (ended ends) (flat_map (λ u. map (λ ws. u ∷ ws) wss) us)
all-ended ends [] wss = refl
all-ended ends (u ∷ us) wss =
    ap (λ l. l ++ flat_map (λ u. map (λ zs. u ∷ zs) (flat_map (ended ends) wss)) us) (begun-ended ends u wss)
    ∙ (ap (λ l. flat_map (ended ends) (map (λ ws. u ∷ ws) wss) ++ l) (all-ended ends us wss)
    ∙ sym (flat_map-append (ended ends) (map (λ ws. u ∷ ws) wss) (flat_map (λ u. map (λ ws. u ∷ ws) wss) us)))

-- lists of one value each are the empty list, ended by each value
singles : (vs : List ℤ) → flat_map (λ v. (v ∷ []) ∷ []) vs ≡ ended vs [] ++ []
singles [] = refl
singles (v ∷ vs) = ap (λ l. (v ∷ []) ∷ l) (singles vs)

product-end : (vss : List (List ℤ)) (ends : List ℤ) → product (vss ++ ends ∷ []) ≡ flat_map (ended ends) (product vss)
product-end [] ends = singles ends
product-end (us ∷ vss) ends =
    ap (λ (l : List (List ℤ)). flat_map (λ u. map (λ zs. u ∷ zs) l) us) (product-end vss ends) ∙ all-ended ends us (product vss)

over-end : (ss : List Steps) (s : Steps) (vs : List ℤ) → over (ss ++ s ∷ []) vs ≡ flat_map (ended (steps_values s)) (over ss vs)
unfolding over
over-end ss s vs =
    ap (λ (l : List (List ℤ)). flat_map (λ w. map (λ ws. w ∷ ws) (product l)) vs) (map-append steps_values ss (s ∷ []))
    ∙ (ap (λ (l : List (List ℤ)). flat_map (λ w. map (λ ws. w ∷ ws) l) vs) (product-end (map steps_values ss) (steps_values s))
    ∙ all-ended (steps_values s) vs (product (map steps_values ss)))

-- After a combination come those with a later last value alone, and then those with later values before it.
product_after-end : (ss : List Steps) (vs : List ℤ) (s : Steps) (v : ℤ) → HasOneEach ss vs
    → product_after (ss ++ s ∷ []) (vs ++ v ∷ []) ≡ ended (values (v +ℤ s.step) s.hi s.step) vs ++ flat_map (ended (steps_values s)) (product_after ss vs)
unfolding over
product_after-end [] [] s v w = singles (values (v +ℤ s.step) s.hi s.step)
product_after-end [] (u ∷ vs) s v w = absurd w
product_after-end (x ∷ ss) [] s v w = absurd w
product_after-end (x ∷ ss) (u ∷ vs) s v w =
    let later : List ℤ = values (v +ℤ s.step) s.hi s.step in
    let all : List ℤ = steps_values s in
    let here : List (List ℤ) = over ss (values (u +ℤ x.step) x.hi x.step) in
    let begin : List (List ℤ) → List (List ℤ) = map (λ ws. u ∷ ws) in
    ap (λ (l : List (List ℤ)). begin l ++ over (ss ++ s ∷ []) (values (u +ℤ x.step) x.hi x.step)) (product_after-end ss vs s v w)
    ∙ (ap (λ (l : List (List ℤ)). begin (ended later vs ++ flat_map (ended all) (product_after ss vs)) ++ l) (over-end ss s (values (u +ℤ x.step) x.hi x.step))
    ∙ (ap (λ (l : List (List ℤ)). l ++ flat_map (ended all) here) (map-append (λ ws. u ∷ ws) (ended later vs) (flat_map (ended all) (product_after ss vs)))
    ∙ (append_assoc (begin (ended later vs)) (begin (flat_map (ended all) (product_after ss vs))) (flat_map (ended all) here)
    ∙ (ap (λ (l : List (List ℤ)). l ++ (begin (flat_map (ended all) (product_after ss vs)) ++ flat_map (ended all) here)) (ended-cons later u vs)
    ∙ (ap (λ (l : List (List ℤ)). ended later (u ∷ vs) ++ (l ++ flat_map (ended all) here)) (begun-ended all u (product_after ss vs))
    ∙ ap (λ (l : List (List ℤ)). ended later (u ∷ vs) ++ l) (sym (flat_map-append (ended all) (begin (product_after ss vs)) here)))))))

-- ---- one step on

module _ (s : Steps) (v : ℤ) where
  -- the last value advances
  pub stepped : (ss : List Steps) (vs : List ℤ) (w : ℤ) → HasOneEach ss vs → (w ≡ v +ℤ s.step) × (is_within s.hi s.step w ≡ true)
      → combinations_left true (ss ++ s ∷ []) (vs ++ w ∷ []) ≡ product_after (ss ++ s ∷ []) (vs ++ v ∷ [])
  stepped ss vs w each h =
      ap (λ (l : List (List ℤ)). (vs ++ w ∷ []) ∷ l) (product_after-end ss vs s w each)
      ∙ (ap (λ (l : List ℤ). ended l vs ++ flat_map (ended (steps_values s)) (product_after ss vs)) (sym (values_in s.hi s.step w h.1))
      ∙ (ap (λ (z : ℤ). ended (values z s.hi s.step) vs ++ flat_map (ended (steps_values s)) (product_after ss vs)) h.0
      ∙ sym (product_after-end ss vs s v each)))

  -- the values before the last one advance, and the last one begins anew
  pub carried : (ss : List Steps) (vs new : List ℤ) (more : Bool) → HasOneEach ss vs → HasOneEach ss new → HasFirst s
      → is_within s.hi s.step (v +ℤ s.step) ≡ false
      → combinations_left more ss new ≡ product_after ss vs → combinations_left more (ss ++ s ∷ []) (new ++ s.lo ∷ [])
      ≡ product_after (ss ++ s ∷ []) (vs ++ v ∷ [])
  carried ss vs new more each after first past left = again more left ∙ sym (product_after-end ss vs s v each ∙ none)
    where
      none : ended (values (v +ℤ s.step) s.hi s.step) vs ++ flat_map (ended (steps_values s)) (product_after ss vs)
          ≡ flat_map (ended (steps_values s)) (product_after ss vs)
      none = ap (λ (l : List ℤ). ended l vs ++ flat_map (ended (steps_values s)) (product_after ss vs)) (values_past s.hi s.step (v +ℤ s.step) past)

      again : (b : Bool) → combinations_left b ss new ≡ product_after ss vs
          → combinations_left b (ss ++ s ∷ []) (new ++ s.lo ∷ []) ≡ flat_map (ended (steps_values s))
          (product_after ss vs)
      again false e = ap (flat_map (ended (steps_values s))) e
      again true e =
          ap (λ (l : List (List ℤ)). (new ++ s.lo ∷ []) ∷ l) (product_after-end ss new s s.lo after)
          ∙ (ap (λ (l : List ℤ). ended l new ++ flat_map (ended (steps_values s)) (product_after ss new)) (sym (values_in s.hi s.step s.lo first))
          ∙ ap (flat_map (ended (steps_values s))) e)
