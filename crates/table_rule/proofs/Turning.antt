-- A turn is taken or given back: what a step on a turn word changes of the turns, and what is then true of the shards.
use Rattle.std.proofs.Common.{◌≡◌, ℕ, ◌+◌, ◌<◌, ◌≤◌, ◌≢◌, ◌==◌, List, [], ◌∷◌, set, length, get_or, sym, refl, ap, ◌∙◌}
use Rattle.std.proofs.Common.{subst, inl, inr, ⊎_elim, arith, eqb, eq-eqb, ne_eqb, length-set, get_or-set_same}
use Rattle.std.proofs.Common.{get_or-set_other}
use mathlib.Core.Logic.{dite}
use mathlib.Core.Option.{none, some}
use native.Mathlib.Decide.{ℕ_discrete}
use lib.ListN.{get_elem?}
use Rattle.atomic_table.proofs.Lists.{set_else, set_here}
use Rattle.ptg_base.specs.Lists.{IsIn}
use Rattle.dep_shard.specs.Content.{Content}
use Rattle.list_lemmas.specs.Counting.{as_number, count, weigh}
use Rattle.work_board.specs.declared.record.PassRecord.{PassRecord}
use Rattle.table_rule.specs.Turns.{AreHeld, AreInSlots, AreTurns, holds}
use Rattle.table_rule.specs.Words.{turn_word}
use Rattle.table_rule.proofs.Passes.{each_set}
use Rattle.table_rule.proofs.Weighing.{term_le, terms_le, weigh-set}

abbrev pub Slots : Type 0
Slots = List (mathlib.Core.Option.Option Content)

-- how often the turn of the shard k is in a list
abbrev pub turns_in : ℕ → List (ℕ × Content) → ℕ
turns_in k l = count (λ (x : ℕ × Content). x.0 == k) l

pub turn_here : (k x : ℕ) → x ≡ k → as_number (eqb x k) ≡ 1
turn_here k x e = ap as_number (eq-eqb x k e)

pub turn_else : (k x : ℕ) → x ≢ k → as_number (eqb x k) ≡ 0
turn_else k x ne = ap as_number (ne_eqb x k ne)

pub has_turn : (k : ℕ) (y : Content) (l : List (ℕ × Content)) → IsIn (k, y) l → 0 < turns_in k l
has_turn k y [] h = absurd h
has_turn k y (x ∷ xs) h = ⊎_elim (λ (e : (k, y) ≡ x). omega (
  arith,
  turn_here k x.0
      (ap (λ (z : ℕ × Content). z.0) (sym e)),
)) (λ t. omega (arith, has_turn k y xs t)) h

-- the word and the slot of the shard k change, and so does the record of the pass id
pub record Retunes (words : List ℕ) (slots : Slots) (vs : List PassRecord) (id : ℕ) (v w : PassRecord) (k new : ℕ)
    (slot : mathlib.Core.Option.Option Content) : Type 0 where
  pub near : k < length slots
  pub far : turn_word k < length words
  pub me : get_elem? vs id ≡ some v
  pub here : holds k w + get_or words (turn_word k) 0 ≡ holds k v + new
  pub there : (x : ℕ) → x ≢ k → holds x w ≡ holds x v
  pub small : new ≤ 1
  pub gone : new ≡ 1 → slot ≡ none
  pub apart : (i : ℕ) (u : PassRecord) → i ≢ id → get_elem? vs i ≡ some u → holds k u ≡ 0
  pub mine : (x : ℕ) (y : Content) → IsIn (x, y) w.turns → x < length slots

module _ (words : List ℕ) (slots : Slots) (vs : List PassRecord) (id : ℕ) (v w : PassRecord) (k new : ℕ)
    (slot : mathlib.Core.Option.Option Content) (t : Retunes words slots vs id v w k new slot) where
  pub word_here : get_or (set words (turn_word k) new) (turn_word k) 0 ≡ new
  word_here = get_or-set_same words (turn_word k) new 0 t.far

  pub word_else : (x : ℕ) → x ≢ k → get_or (set words (turn_word k) new) (turn_word x) 0 ≡ get_or words (turn_word x) 0
  word_else x ne = get_or-set_other words (turn_word k) (turn_word x) new 0 (λ e. ne (omega arith))

  long : length (set slots k slot) ≡ length slots
  long = length-set slots k slot

  pub turns_after : AreTurns words slots vs → AreTurns (set words (turn_word k) new) (set slots k slot) (set vs id w)
  turns_after r = record {
    counted = λ x l. dite (ℕ_discrete x k)
        (λ e. subst (λ (i : ℕ). weigh (holds i) (set vs id w) ≡ get_or (set words (turn_word k) new) (turn_word i) 0)
        (sym e) (let near = t.near in omega (
          arith,
          word_here,
          r.counted k near,
          t.here,
          weigh-set (holds k) vs id v
              w t.me,
        )))
        (λ ne. omega (arith, weigh-set (holds x) vs id v w t.me, t.there x ne, r.counted x (subst (λ (m : ℕ). x < m) long l), word_else x ne));
    single = λ x l. dite (ℕ_discrete x k)
        (λ e. subst (λ (i : ℕ). get_or (set words (turn_word k) new) (turn_word i) 0 ≤ 1) (sym e) (omega (arith, word_here, t.small)))
        (λ ne. omega (arith, word_else x ne, r.single x (subst (λ (m : ℕ). x < m) long l)));
    out = λ x l z. dite (ℕ_discrete x k)
        (λ e. subst (λ (i : ℕ). get_elem? (set slots k slot) i ≡ some none) (sym e)
        (set_here slots k slot t.near ∙ ap some (t.gone (sym word_here
        ∙ (ap (λ (i : ℕ). get_or (set words (turn_word k) new) (turn_word i) 0) (sym e) ∙ z)))))
        (λ ne. set_else slots k x slot ne ∙ r.out x (subst (λ (m : ℕ). x < m) long l) (sym (word_else x ne) ∙ z));
    of_shards = each_set (λ (u : PassRecord). (x : ℕ) (y : Content) → IsIn (x, y) u.turns → x < length slots)
        (λ (u : PassRecord). (x : ℕ) (y : Content) → IsIn (x, y) u.turns → x < length (set slots k slot)) vs id w
        (λ i u ne e all x y h. subst (λ (m : ℕ). x < m) (sym long) (all x y h)) (λ x y h. subst (λ (m : ℕ). x < m) (sym long) (t.mine x y h)) r.of_shards;
  }

  module _ (Q Q' : ℕ → Content → Type 0) (others : (x : ℕ) (y : Content) → x ≢ k → Q x y → Q' x y) where
    pub in_slots_after : (new ≡ 0 → (y : Content) × (slot ≡ some y) × Q' k y) → AreInSlots Q words slots
        → AreInSlots Q' (set words (turn_word k) new) (set slots k slot)
    in_slots_after free r x l z = dite (ℕ_discrete x k)
        (λ e. let f = free (sym word_here ∙ (ap (λ (i : ℕ). get_or (set words (turn_word k) new) (turn_word i) 0) (sym e) ∙ z)) in (
          f.0,
          subst (λ (i : ℕ). get_elem? (set slots k slot) i ≡ some (some f.0)) (sym e)
              (set_here slots k slot t.near ∙ ap some f.1),
          subst (λ (i : ℕ). Q' i f.0) (sym e) f.2,
        ))
        (λ ne. let f = r x (subst (λ (m : ℕ). x < m) long l) (sym (word_else x ne) ∙ z) in (f.0, set_else slots k x slot ne ∙ f.1, others x f.0 ne f.2))

    pub held_after : ((x : ℕ) (y : Content) → IsIn (x, y) w.turns → Q' x y) → AreHeld Q vs → AreHeld Q' (set vs id w)
    held_after kept r = each_set (λ (u : PassRecord). (x : ℕ) (y : Content) → IsIn (x, y) u.turns → Q x y)
        (λ (u : PassRecord). (x : ℕ) (y : Content) → IsIn (x, y) u.turns → Q' x y) vs id w
        (λ i u ne e all x y h. others x y (λ (q : x ≡ k). absurd
        (omega (arith, t.apart i u ne e, subst (λ (z : ℕ). 0 < holds z u) q (has_turn x y u.turns h)))) (all x y h))
        kept r

-- a turn that is free is taken
module _ (words : List ℕ) (slots : Slots) (vs : List PassRecord) (id : ℕ) (v w : PassRecord) (k : ℕ) (y : Content) where
  pub taking : k < length slots → turn_word k < length words → get_elem? vs id ≡ some v → AreTurns words slots vs
      → get_or words (turn_word k) 0 ≡ 0 → w.turns ≡ (k, y) ∷ v.turns → Retunes words slots vs id v w k 1 none
  taking near far me r free turns = record {
    near = near;
    far = far;
    me = me;
    here = omega (arith, ap (turns_in k) turns, turn_here k k refl, free);
    there = λ x ne. omega (arith, ap (turns_in x) turns, turn_else x k (λ e. ne (sym e)));
    small = omega arith;
    gone = λ _. refl;
    apart = λ i u ne e. omega (arith, r.counted k near, term_le (holds k) vs i u e);
    mine = λ x z h. ⊎_elim (λ (e : (x, z) ≡ (k, y)). subst (λ (i : ℕ). i < length slots)
        (sym (ap (λ (p : ℕ × Content). p.0) e)) near) (λ t. r.of_shards id v me x z t) (subst (IsIn (x, z)) turns h);
  }

-- the turn that was taken last is given back, and the shard has y
module _ (words : List ℕ) (slots : Slots) (vs : List PassRecord) (id : ℕ) (v w : PassRecord) (k : ℕ) (y₀ y : Content) (more : List (ℕ × Content))
    (me : get_elem? vs id ≡ some v) (r : AreTurns words slots vs) (turn : v.turns ≡ (k, y₀) ∷ more) where
  pub near_held : k < length slots
  near_held = r.of_shards id v me k y₀ (subst (IsIn (k, y₀)) (sym turn) (inl refl))

  pub rest_has_none : turns_in k more ≡ 0
  rest_has_none = let near = near_held in omega (
    arith,
    r.counted k near,
    r.single k near,
    term_le (holds k) vs id v me,
    ap (turns_in k) turn,
    turn_here k k refl,
  )

  -- those that stay are turns of other shards
  pub stay_else : (x : ℕ) (z : Content) → IsIn (x, z) more → x ≢ k
  stay_else x z h e = absurd (omega (arith, rest_has_none, subst (λ (i : ℕ). 0 < turns_in i more) e (has_turn x z more h)))

  pub stay_held : (x : ℕ) (z : Content) → IsIn (x, z) more → IsIn (x, z) v.turns
  stay_held x z h = subst (IsIn (x, z)) (sym turn) (inr h)

  pub giving : turn_word k < length words → w.turns ≡ more → Retunes words slots vs id v w k 0 (some y)
  giving far left = let near = near_held in let none_left = rest_has_none in record {
    near = near;
    far = far;
    me = me;
    here = omega (arith, r.counted k near, r.single k near, term_le (holds k) vs id v me, ap (turns_in k) turn, ap (turns_in k) left, turn_here k k refl);
    there = λ x ne. omega (arith, ap (turns_in x) turn, ap (turns_in x) left, turn_else x k (λ e. ne (sym e)));
    small = omega arith;
    gone = λ z. absurd (omega arith);
    apart = λ i u ne e. omega (arith, r.counted k near, r.single k near, ap (turns_in k) turn, turn_here k k refl, terms_le (holds k) vs id i v u ne me e);
    mine = λ x z h. r.of_shards id v me x z (stay_held x z (subst (IsIn (x, z)) left h));
  }
