-- A list whose first elements are changed, as a loop over an index leaves it.
use Rattle.std.proofs.Common.{◌≡◌, ◌≢◌, ℕ, zero, suc, ◌+◌, ◌-◌, ◌<◌, ◌≤◌, List, [], ◌∷◌, ◌++◌, length, map, set, get_or, take, drop, replicate, Some}
use Rattle.std.proofs.Common.{All, sym, refl, ap, subst, ◌∙◌, arith, add-one}
use Rattle.std.proofs.lemmas.List.{length-set, map-set, set-set}
use Rattle.std.proofs.lemmas.List.Elements.{All-head, All-tail, All-nil, All-cons, All-append, All-get_or}
use Rattle.std.proofs.lemmas.Option.{slice_get-map}
use Rattle.std.specs.Prelude.{slice_get, option_map}
use Rattle.ready_deques.specs.Ends.{OthersHaveParts, Owner, Thief, less, new_thief, IsNew}
use Rattle.ready_deques.specs.Hands.{Account, fresh}
use Rattle.ready_deques.proofs.Accounts.{account, same_deques}

module _ {X Y : Type 0} (f : X → Y) where
  grows : (xs : List X) (k : ℕ) (d : X) → k < length xs → map f (take k xs) ++ f (get_or xs k d) ∷ [] ≡ map f (take (suc k) xs)
  grows [] k d within = absurd (omega arith)
  grows (x ∷ xs) zero d within = refl
  grows (x ∷ xs) (suc k) d within = ap (λ ys. f x ∷ ys) (grows xs k d (omega arith))

  -- one more is mapped
  pub mapped-more : (xs : List X) (k : ℕ) (d : X) → k < length xs → map f (take k xs) ++ f (get_or xs k d) ∷ [] ≡ map f (take (k + 1) xs)
  mapped-more xs k d within = subst (λ m. map f (take k xs) ++ f (get_or xs k d) ∷ [] ≡ map f (take m xs)) (sym (add-one k)) (grows xs k d within)

module _ {X : Type 0} (f : X → X) where
  -- the first k elements are changed
  abbrev pub partly : ℕ → List X → List X
  partly k xs = map f (take k xs) ++ drop k xs

  changes : (xs : List X) (k : ℕ) (d : X) → k < length xs → set (partly k xs) k (f (get_or xs k d)) ≡ partly (suc k) xs
  changes [] k d within = absurd (omega arith)
  changes (x ∷ xs) zero d within = refl
  changes (x ∷ xs) (suc k) d within = ap (λ ys. f x ∷ ys) (changes xs k d (omega arith))

  pub partly-more : (xs : List X) (k : ℕ) (d : X) → k < length xs → set (partly k xs) k (f (get_or xs k d)) ≡ partly (k + 1) xs
  partly-more xs k d within = subst (λ m. set (partly k xs) k (f (get_or xs k d)) ≡ partly m xs) (sym (add-one k)) (changes xs k d within)

  -- the next element is still unchanged
  pub get_or-partly : (xs : List X) (k : ℕ) (d : X) → get_or (partly k xs) k d ≡ get_or xs k d
  get_or-partly [] zero d = refl
  get_or-partly [] (suc k) d = refl
  get_or-partly (x ∷ xs) zero d = refl
  get_or-partly (x ∷ xs) (suc k) d = get_or-partly xs k d

abbrev pub IsUntaken : Thief → Type 0
IsUntaken f = f.taken ≡ []

-- no account has taken anything at first
pub none_taken : (thieves : List Thief) (n : ℕ) → All (λ (f : Thief). f.taken ≡ []) thieves
    → set (map (λ (f : Thief). f.taken) thieves) n [] ≡ replicate (length (map (λ (f : Thief). f.deque) thieves)) []
none_taken [] n all = refl
none_taken (f ∷ thieves) zero all = ap (λ ys. [] ∷ ys) (rest thieves (All-tail IsUntaken f thieves all))
  where
    rest : (fs : List Thief) → All IsUntaken fs → map (λ (x : Thief). x.taken) fs ≡ replicate (length (map (λ (x : Thief). x.deque) fs)) []
    rest [] all' = refl
    rest (x ∷ fs) all' = λ i. All-head IsUntaken x fs all' i ∷ rest fs (All-tail IsUntaken x fs all') i
none_taken (f ∷ thieves) (suc n) all = λ i. All-head IsUntaken f thieves all i ∷ none_taken thieves n (All-tail IsUntaken f thieves all) i

-- parts that are given away one after another
pub less-less : (owners : List Owner) (k : ℕ) → map (less 1) (map (less k) owners) ≡ map (less (k + 1)) owners
less-less [] k = refl
less-less (b ∷ owners) k = let parts : b.parts - k - 1 ≡ b.parts - (k + 1) = omega arith in λ i. record b { parts = parts i } ∷ less-less owners k i

pub new_thief-less : (owners : List Owner) (k : ℕ) → map new_thief (map (less k) owners) ≡ map new_thief owners
new_thief-less [] k = refl
new_thief-less (b ∷ owners) k = ap (λ ys. new_thief b ∷ ys) (new_thief-less owners k)

pub more_than_one : (owners : List Owner) (k n : ℕ) → k < n → All (λ (b : Owner). n < b.parts) owners → All (λ (b : Owner). 1 < b.parts) (map (less k) owners)
more_than_one [] k n within all = All-nil _
more_than_one (b ∷ owners) k n within all =
    let first = All-head (λ (x : Owner). n < x.parts) b owners all in
    All-cons (λ (x : Owner). 1 < x.parts) (less k b) (map (less k) owners) (omega arith)
    (more_than_one owners k n within (All-tail (λ (x : Owner). n < x.parts) b owners all))

-- the ends of a worker whose own thief's end gave its part back
pub record IsKept (n : ℕ) (own : Owner) (thieves : List Thief) (own' : Owner) (thieves' : List Thief) : Type 0 where
  pub account_is : account n own' thieves' ≡ fresh (map (λ (f : Thief). f.deque) thieves) n
  pub within : n < length thieves'
  pub parts : own'.parts + length thieves' ≡ 66
  pub deque : slice_get (map (λ (f : Thief). f.deque) thieves') n ≡ Some own'.deque
  pub others : OthersHaveParts n thieves'

abbrev pub HasPart : Thief → Type 0
HasPart f = f.parts ≡ 1

all_parts : (thieves : List Thief) (f' : Thief) (n k : ℕ) → All HasPart thieves → k < length thieves → k ≢ n
    → slice_get (map (λ (f : Thief). f.parts) (set thieves n f')) k ≡ Some 1
all_parts [] f' n k all within ne = absurd (omega arith)
all_parts (f ∷ thieves) f' zero zero all within ne = absurd (ne refl)
all_parts (f ∷ thieves) f' (suc n) zero all within ne = ap Some (All-head HasPart f thieves all)
all_parts (f ∷ thieves) f' zero (suc k) all within ne = unchanged thieves k (All-tail HasPart f thieves all) (omega arith)
  where
    unchanged : (fs : List Thief) (j : ℕ) → All HasPart fs → j < length fs → slice_get (map (λ (x : Thief). x.parts) fs) j ≡ Some 1
    unchanged [] j all' within' = absurd (omega arith)
    unchanged (x ∷ fs) zero all' within' = ap Some (All-head HasPart x fs all')
    unchanged (x ∷ fs) (suc j) all' within' = unchanged fs j (All-tail HasPart x fs all') (omega arith)
all_parts (f ∷ thieves) f' (suc n) (suc k) all within ne = all_parts thieves f' n k (All-tail HasPart f thieves all) (omega arith) (λ e. ne (ap suc e))

pub kept : (n : ℕ) (own own' : Owner) (thieves : List Thief) (f f' : Thief) → n < length thieves → IsNew (length thieves) own
    → All IsUntaken thieves → All HasPart thieves → slice_get (map (λ (x : Thief). x.deque) thieves) n ≡ Some own.deque → f ≡ get_or thieves n f
    → own' ≡ record own { parts = own.parts + f.parts; taken = own.taken ++ f.taken }
    → f' ≡ record { deque = f.deque; parts = 0; taken = [] } → IsKept n own thieves own' (set thieves n f')
kept n own own' thieves f f' within new untaken whole there here owns partless =
    let ds = same_deques thieves n f f' here (ap (λ (x : Thief). x.deque) partless) in
    let none : f.taken ≡ [] = subst IsUntaken (sym here) (All-get_or IsUntaken thieves n f within untaken) in
    let part : f.parts ≡ 1 = subst HasPart (sym here) (All-get_or HasPart thieves n f within whole) in
    let long = length-set thieves n f' in
    let parts : own'.parts ≡ own.parts + f.parts = ap (λ (b : Owner). b.parts) owns in
    let given = new.parts in
    let took : own'.taken ≡ [] = ap (λ (b : Owner). b.taken) owns ∙ (ap (λ ids. ids ++ f.taken) new.taken ∙ none) in
    let pushed : own'.pushed ≡ [] = ap (λ (b : Owner). b.pushed) owns ∙ new.pushed in
    let ts = map (λ (x : Thief). x.taken) thieves in
    let all_taken : set (map (λ (x : Thief). x.taken) (set thieves n f')) n own'.taken ≡ replicate (length (map (λ (x : Thief). x.deque) thieves)) [] =
    ap (λ xs. set xs n own'.taken) (map-set (λ (x : Thief). x.taken) thieves n f')
    ∙ (set-set ts n f'.taken own'.taken ∙ (ap (λ ids. set ts n ids) took ∙ none_taken thieves n untaken)) in
    record {
      account_is = (λ i. record { number = n; deques = ds i; pushed = pushed i; taken = all_taken i });
      within = omega (arith, within, long);
      parts = omega (arith, given, part, parts, long);
      deque = ap (λ xs. slice_get xs n) ds ∙ (there ∙ ap Some (sym (ap (λ (b : Owner). b.deque) owns)));
      others = λ k below ne. all_parts thieves f' n k whole (omega (arith, below, long)) ne;
    }

-- one more deque gave an end
pub one_more : (init owners : List Owner) (thieves thieves' : List Thief) (k : ℕ) (b b' : Owner) (f : Thief) → k < length init
    → owners ≡ partly (less 1) k init → thieves ≡ map new_thief (take k init)
    → b ≡ get_or owners k b → b' ≡ less 1 b → f ≡ new_thief b → thieves' ≡ thieves ++ f ∷ []
    → (set owners k b' ≡ partly (less 1) (k + 1) init) × (thieves' ≡ map new_thief (take (k + 1) init))
one_more init owners thieves thieves' k b b' f within owners_are thieves_are here gave new added =
    let was : b ≡ get_or init k b = here ∙ (ap (λ xs. get_or xs k b) owners_are ∙ get_or-partly (less 1) init k b) in (
      ap (λ xs. set xs k b') owners_are ∙ (ap (λ x. set (partly (less 1) k init) k x) (gave ∙ ap (less 1) was) ∙ partly-more (less 1) init k b within),
      added ∙ (ap (λ xs. xs ++ f ∷ []) thieves_are
          ∙ (ap (λ x. map new_thief (take k init) ++ x ∷ []) (new ∙ ap new_thief was)
          ∙ mapped-more new_thief init k b within)),
    )

pub less-none : (owners : List Owner) → map (less 0) owners ≡ owners
less-none [] = refl
less-none (b ∷ owners) = let parts : b.parts - 0 ≡ b.parts = omega arith in λ i. record b { parts = parts i } ∷ less-none owners i

pub all_more : {X : Type 0} (P : X → Type 0) (xs ys : List X) (x : X) → ys ≡ xs ++ x ∷ [] → All P xs → P x → All P ys
all_more P xs ys x added all holds = subst (All P) (sym added) (All-append P xs (x ∷ []) all (All-cons P x [] holds (All-nil P)))

-- the account at each index, after one more was added
pub each_more : (xs ys : List Account) (a : Account) (f : ℕ → Account) → ys ≡ xs ++ a ∷ [] → a ≡ f (length xs)
    → ((k : ℕ) → k < length xs → slice_get xs k ≡ Some (f k)) → (k : ℕ) → k < length ys → slice_get ys k ≡ Some (f k)
each_more xs ys a f added is each = subst (λ zs. (k : ℕ) → k < length zs → slice_get zs k ≡ Some (f k)) (sym added) (snoc xs a f is each)
  where
    snoc : (zs : List Account) (b : Account) (g : ℕ → Account) → b ≡ g (length zs)
        → ((k : ℕ) → k < length zs → slice_get zs k ≡ Some (g k)) → (k : ℕ) → k < length (zs ++ b ∷ []) → slice_get (zs ++ b ∷ []) k ≡ Some (g k)
    snoc [] b g is' each' zero within = ap Some is'
    snoc [] b g is' each' (suc k) within = absurd (omega arith)
    snoc (z ∷ zs) b g is' each' zero within = each' 0 (omega arith)
    snoc (z ∷ zs) b g is' each' (suc k) within = snoc zs b (λ j. g (suc j)) is' (λ j h. each' (suc j) (omega arith)) k (omega arith)

-- the next element of a list after the first n, and what follows it
pub record IsNext {X : Type 0} (xs : List X) (n : ℕ) (x : X) (rest : List X) : Type 0 where
  pub within : n < length xs
  pub here : slice_get xs n ≡ Some x
  pub after : drop (n + 1) xs ≡ rest

pub next : {X : Type 0} (xs : List X) (n : ℕ) (x : X) (rest : List X) → drop n xs ≡ x ∷ rest → IsNext xs n x rest
next xs n x rest e = let found = look xs n x rest e in
    record { within = found.0; here = found.1; after = subst (λ m. drop m xs ≡ rest) (sym (add-one n)) found.2 }
  where
    look : {X : Type 0} (ys : List X) (m : ℕ) (y : X) (others : List X) → drop m ys ≡ y ∷ others
        → (m < length ys) × (slice_get ys m ≡ Some y) × (drop (suc m) ys ≡ others)
    look [] zero y others e' = absurd (cc e')
    look [] (suc m) y others e' = absurd (cc e')
    look (z ∷ ys) zero y others e' = (omega arith, ap Some (cc e'), cc e')
    look (z ∷ ys) (suc m) y others e' = let h = look ys m y others e' in (omega arith, h.1, h.2)

pub deques_of_row : (owners : List Owner) → map (λ (f : Thief). f.deque) (map new_thief owners) ≡ map (λ (b : Owner). b.deque) owners
deques_of_row [] = refl
deques_of_row (b ∷ owners) = ap (λ ds. b.deque ∷ ds) (deques_of_row owners)

pub whole_row : (owners : List Owner) → All HasPart (map new_thief owners)
whole_row [] = All-nil HasPart
whole_row (b ∷ owners) = All-cons HasPart (new_thief b) (map new_thief owners) refl (whole_row owners)

pub untaken_row : (owners : List Owner) → All IsUntaken (map new_thief owners)
untaken_row [] = All-nil IsUntaken
untaken_row (b ∷ owners) = All-cons IsUntaken (new_thief b) (map new_thief owners) refl (untaken_row owners)

pub all_but_last : {X : Type 0} (P : X → Type 0) (xs ys : List X) (x : X) → xs ≡ ys ++ x ∷ [] → All P xs → All P ys × P x
all_but_last {X = X} P xs ys x e all = split ys (subst (All P) e all)
  where
    split : (zs : List X) → All P (zs ++ x ∷ []) → All P zs × P x
    split [] h = (All-nil P, All-head P x [] h)
    split (z ∷ zs) h = let rest = split zs (All-tail P z (zs ++ x ∷ []) h) in (All-cons P z zs (All-head P z (zs ++ x ∷ []) h) rest.0, rest.1)

-- in a row of new thieves' ends, the deque at a worker's index is the worker's own
pub deque_at : (owners : List Owner) (thieves : List Thief) (n : ℕ) (own : Owner) → thieves ≡ map new_thief owners → slice_get owners n ≡ Some own
    → slice_get (map (λ (f : Thief). f.deque) thieves) n ≡ Some own.deque
deque_at owners thieves n own row here =
    ap (λ r. slice_get (map (λ (f : Thief). f.deque) r) n) row
    ∙ (ap (λ ds. slice_get ds n) (deques_of_row owners) ∙ (slice_get-map (λ (b : Owner). b.deque) owners n ∙ ap (option_map (λ (b : Owner). b.deque)) here))

-- after each worker got one part, an owner's end has the others
pub given_away : (owners : List Owner) (given : ℕ) → given ≤ 64 → All (IsNew 0) owners → All (IsNew given) (map (less given) owners)
given_away [] given within all = All-nil (IsNew given)
given_away (b ∷ owners) given within all =
    let new = All-head (IsNew 0) b owners all in
    let whole = new.parts in
    All-cons (IsNew given) (less given b) (map (less given) owners)
    (record { parts = omega arith; pushed = new.pushed; taken = new.taken })
    (given_away owners given within (All-tail (IsNew 0) b owners all))
