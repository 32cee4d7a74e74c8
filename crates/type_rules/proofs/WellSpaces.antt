-- A resolved space that breaks no rule is well made.
use Rattle.std.proofs.Common.{◌≡◌, ◌≢◌, ℕ, suc, ◌+◌, ◌<◌, ◌≤◌, Bool, true, false, not, ◌&&◌, ◌||◌, ◌==◌, cond, List, [], ◌∷◌, ◌++◌, length, flat_map}
use Rattle.std.proofs.Common.{Option, Some, None, option_map, IsTrue, nat_lt, refl, sym, ◌∙◌, ap, subst, arith, length-append}
use Rattle.std.specs.List.{position_from, list_all, list_any}
use Rattle.std.specs.Str.{bytes_eq}
use Rattle.std.specs.Cmp.Lexicographic.{bytes_decides}
use Rattle.std.proofs.lemmas.Bool.{lt-ltb, false≢true, eq-eqb, ne_eqb, and_from, or_left, or_right, or_parts}
use Rattle.std.proofs.lemmas.Iterator.Adapters.{position_from-zero}
use Rattle.term_core.specs.WellSpace.{are_closed, is_closed_def, is_among, spans_are_params, IsWellSpace}
use Rattle.term_core.specs.Term.{Term}
use Rattle.term_core.specs.declared.space.Range.{Range}
use Rattle.term_core.specs.declared.space.Def.{Def}
use Rattle.term_core.specs.declared.space.Def.TheVariants as def
use Rattle.term_core.specs.declared.space.ClassSpace.{ClassSpace}
use Rattle.jdf_tree.specs.declared.tree.ArgTree.TheVariants as tree
use Rattle.type_rules.specs.TreesAndFaults.{Word, DefTree, ArgTree, NameTwice, LocalTwice, RangedLocal}
use Rattle.type_rules.specs.Names.{Job, word_is, local_named}
use Rattle.type_rules.specs.Repeats.{is_taken, repeats_after, repeats}
use Rattle.type_rules.specs.Returns.{both, each}
use Rattle.type_rules.specs.Expressions.{term_of}
use Rattle.type_rules.specs.Arguments.{argument_faults}
use Rattle.type_rules.specs.Definitions.{is_range, is_ranged_local, definition_faults, definitions_faults, definition_of, definitions_of}
use Rattle.type_rules.specs.Definitions.{parameter_of, parameter_faults, space_faults, space_of}
use Rattle.type_rules.proofs.Closed.{closed_definition}
use Rattle.std.proofs.lemmas.Option.{same_Some}
use Rattle.list_lemmas.proofs.Places.{position_within}
use Rattle.std.proofs.lemmas.List.{append_assoc}
use Rattle.ptg_base.specs.Lists.{are_distinct}
use Rattle.list_lemmas.proofs.Joins.{first_nil, rest_nil}
use Rattle.list_lemmas.proofs.Texts.{bytes_eq-self}
use Rattle.type_rules.proofs.Spaces.{space_from}
use Rattle.type_rules.proofs.GivenTwice.{taken_more}
use Rattle.type_rules.proofs.NoFaults.{holds_not, parts_of}
use Rattle.type_rules.proofs.Distinct.{names_after}

-- ---- the indices at which names are found

from_after : {A : Type 0} (p : A → Bool) (i : ℕ) (xs : List A) (k : ℕ) → position_from p i xs ≡ Some k → i ≤ k
from_after p i [] k e = absurd cc
from_after {A} p i (x ∷ xs) k e = go (p x) e (from_after p (i + 1) xs k)
  where
    go : (b : Bool) → cond b (Some i) (position_from p (i + 1) xs) ≡ Some k → (position_from p (i + 1) xs ≡ Some k → i + 1 ≤ k) → i ≤ k
    go true f more = let same : i ≡ k = same_Some i k f in omega (arith, same)
    go false f more = omega (arith, more f)

-- if two tests find the same index, both hold for the element there
found_by_both : {A : Type 0} (p q : A → Bool) (i : ℕ) (xs : List A) (k : ℕ) → position_from p i xs ≡ Some k
    → position_from q i xs ≡ Some k → (x : A) × (p x ≡ true) × (q x ≡ true)
found_by_both p q i [] k e f = absurd cc
found_by_both {A} p q i (x ∷ xs) k e f = go (p x) (q x) refl refl (λ g h. found_by_both p q (i + 1) xs k g h) e f
  where
    go : (b c : Bool) → p x ≡ b → q x ≡ c
        → (position_from p (i + 1) xs ≡ Some k → position_from q (i + 1) xs ≡ Some k
        → (y : A) × (p y ≡ true) × (q y ≡ true)) → cond b (Some i) (position_from p (i + 1) xs) ≡ Some k
        → cond c (Some i) (position_from q (i + 1) xs) ≡ Some k → (y : A) × (p y ≡ true) × (q y ≡ true)
    go true true s t more g h = (x, s, t)
    go true false s t more g h = let same : i ≡ k = same_Some i k g in let after : i + 1 ≤ k =
        from_after q (i + 1) xs k h in absurd (omega (arith, same, after))
    go false true s t more g h = let same : i ≡ k = same_Some i k h in let after : i + 1 ≤ k =
        from_after p (i + 1) xs k g in absurd (omega (arith, same, after))
    go false false s t more g h = more g h

same_name : (defs : List DefTree) (n m : List ℕ) (k : ℕ) → local_named defs n ≡ Some k → local_named defs m ≡ Some k → n ≡ m
same_name defs n m k e f =
    let p = λ (d : DefTree). word_is n d.name in
    let q = λ (d : DefTree). word_is m d.name in
    let x = found_by_both p q 0 defs k (sym (position_from-zero p defs) ∙ e) (sym (position_from-zero q defs) ∙ f) in
    sym ((bytes_decides x.0.name.text n).0 x.1) ∙ (bytes_decides x.0.name.text m).0 x.2

from_found : (name : List ℕ) (i : ℕ) (before : List DefTree) (d : DefTree) (rest : List DefTree)
    → is_taken (λ (x : DefTree). x.name) before name ≡ false → word_is name d.name ≡ true
    → position_from (λ (x : DefTree). word_is name x.name) i (before ++ d ∷ rest) ≡ Some (i + length before)
from_found name i [] d rest h e = let same : i ≡ i + length {A = DefTree} [] = omega arith in
    ap (λ b. cond b (Some i) (position_from (λ (x : DefTree). word_is name x.name) (i + 1) rest)) e
    ∙ ap (λ n. Some n) same
from_found name i (b ∷ before) d rest h e =
    let n = or_parts (word_is name b.name) (is_taken (λ (x : DefTree). x.name) before name) h in
    let same : (i + 1) + length before ≡ i + length (b ∷ before) = omega arith in
    ap (λ c. cond c (Some i) (position_from (λ (x : DefTree). word_is name x.name) (i + 1) (before ++ d ∷ rest)))
    n.0 ∙ (from_found name (i + 1) before d rest n.1 e ∙ ap (λ k. Some k) same)

-- a definition with a new name is found at its own index
found_at : (before : List DefTree) (d : DefTree) (rest : List DefTree)
    → is_taken (λ (x : DefTree). x.name) before d.name.text ≡ false
    → local_named (before ++ d ∷ rest) d.name.text ≡ Some (length before)
found_at before d rest h =
    let same : 0 + length before ≡ length before = omega arith in
    position_from-zero (λ (x : DefTree). word_is d.name.text x.name) (before ++ d ∷ rest)
    ∙ (from_found d.name.text 0 before d rest h (bytes_eq-self d.name.text) ∙ ap (λ n. Some n) same)

-- ---- the definitions

pub definitions_length : (job : Job) (before defs : List DefTree) (ds : List Def) → definitions_of job before defs ≡ Some ds → length ds ≡ length defs
definitions_length job before [] ds e = ap length (sym (same_Some [] ds e))
definitions_length job before (d ∷ defs) ds e =
    let p = parts_of (λ x xs. x ∷ xs) (definition_of job before d.value) (definitions_of job (before ++ d ∷ []) defs) ds e in
    ap length (sym p.4) ∙ ap (λ n. suc n) (definitions_length job (before ++ d ∷ []) defs p.1 p.3)

definitions_closed : (job : Job) (before defs : List DefTree) (n : ℕ) (ds : List Def) → n ≡ length before
    → definitions_of job before defs ≡ Some ds → IsTrue (are_closed n ds)
definitions_closed job before [] n ds same e = subst (λ l. IsTrue (are_closed n l)) (same_Some [] ds e) refl
definitions_closed job before (d ∷ defs) n ds same e =
    let p = parts_of (λ x xs. x ∷ xs) (definition_of job before d.value) (definitions_of job (before ++ d ∷ []) defs) ds e in
    let next : suc n ≡ length (before ++ d ∷ []) = omega (arith, same, length-append before (d ∷ [])) in
    let first : IsTrue (is_closed_def n p.0) = subst (λ m. IsTrue (is_closed_def m p.0)) (sym same) (closed_definition job before d.value p.0 p.2) in
    subst (λ l. IsTrue (are_closed n l)) p.4
    (and_from (is_closed_def n p.0) (are_closed (suc n) p.1) first
    (definitions_closed job (before ++ d ∷ []) defs (suc n) p.1 next p.3))

-- ---- the parameters

params_within : (defs : List DefTree) (params : List Word) (ps : List ℕ) (n : ℕ) → n ≡ length defs
    → each (parameter_of defs) params ≡ Some ps → IsTrue (list_all (λ p. nat_lt p n) ps)
params_within defs [] ps n same e = subst (λ l. IsTrue (list_all (λ p. nat_lt p n) l)) (same_Some [] ps e) refl
params_within defs (w ∷ params) ps n same e =
    let p = parts_of (λ x xs. x ∷ xs) (parameter_of defs w) (each (parameter_of defs) params) ps e in
    let first : p.0 < n = omega (arith, same, position_within (λ (d : DefTree). word_is w.text d.name) defs p.0 p.2) in
    subst (λ l. IsTrue (list_all (λ p. nat_lt p n) l)) p.4
    (and_from (nat_lt p.0 n) (list_all (λ p. nat_lt p n) p.1) (lt-ltb p.0 n first)
    (params_within defs params p.1 n same p.3))

among_none : (defs : List DefTree) (name : List ℕ) (k : ℕ) (params : List Word) (ps : List ℕ)
    → local_named defs name ≡ Some k → is_taken (λ (w : Word). w) params name ≡ false
    → each (parameter_of defs) params ≡ Some ps → is_among k ps ≡ false
among_none defs name k [] ps at h e = ap (is_among k) (sym (same_Some [] ps e))
among_none defs name k (w ∷ params) ps at h e =
    let p = parts_of (λ x xs. x ∷ xs) (parameter_of defs w) (each (parameter_of defs) params) ps e in
    let n = or_parts (bytes_eq w.text name) (is_taken (λ (w : Word). w) params name) h in
    let other : p.0 ≢ k = λ s. false≢true (sym n.0 ∙ (bytes_decides w.text name).1 (same_name defs w.text name k (p.2 ∙ ap (λ m. Some m) s) at)) in
    ap (is_among k) (sym p.4) ∙ (ap (λ b. b || is_among k p.1) (ne_eqb p.0 k other) ∙ among_none defs name k params p.1 at n.1 p.3)

params_different : (defs : List DefTree) (before params : List Word) (ps : List ℕ)
    → repeats_after (λ (w : Word). w) NameTwice before params ≡ [] → each (parameter_of defs) params ≡ Some ps
    → IsTrue (are_distinct (λ p q. q == p) ps)
params_different defs before [] ps h e = subst (λ l. IsTrue (are_distinct (λ p q. q == p) l)) (same_Some [] ps e) refl
params_different defs before (w ∷ params) ps h e =
    let p = parts_of (λ x xs. x ∷ xs) (parameter_of defs w) (each (parameter_of defs) params) ps e in
    let later = rest_nil _ _ h in
    let taken : is_taken (λ (w : Word). w) (before ++ w ∷ []) w.text ≡ true =
    taken_more (λ (w : Word). w) before w w.text
    ∙ or_right (is_taken (λ (w : Word). w) before w.text) (bytes_eq w.text w.text) (bytes_eq-self w.text) in
    let none = among_none defs w.text p.0 params p.1 p.2 (names_after (λ (w : Word). w) NameTwice (before ++ w ∷ []) params later w.text taken) p.3 in
    subst (λ l. IsTrue (are_distinct (λ p q. q == p) l)) p.4
    (and_from (not (is_among p.0 p.1)) (are_distinct (λ p q. q == p) p.1) (ap not none)
    (params_different defs (before ++ w ∷ []) params p.1 later p.3))

among_some : (defs : List DefTree) (name : List ℕ) (k : ℕ) (params : List Word) (ps : List ℕ)
    → local_named defs name ≡ Some k → list_any (word_is name) params ≡ true
    → each (parameter_of defs) params ≡ Some ps → is_among k ps ≡ true
among_some defs name k [] ps at h e = absurd (false≢true h)
among_some defs name k (w ∷ params) ps at h e =
    let p = parts_of (λ x xs. x ∷ xs) (parameter_of defs w) (each (parameter_of defs) params) ps e in
    ap (is_among k) (sym p.4) ∙ go (word_is name w) refl p.0 p.1 p.2 (λ f. among_some defs name k params p.1 at f p.3) h
  where
    go : (b : Bool) → word_is name w ≡ b → (x : ℕ) (xs : List ℕ) → parameter_of defs w ≡ Some x
        → (list_any (word_is name) params ≡ true → is_among k xs ≡ true)
        → (b || list_any (word_is name) params) ≡ true → is_among k (x ∷ xs) ≡ true
    go true t x xs here more f =
        let same : x ≡ k = same_Some x k (sym here ∙ (ap (local_named defs) ((bytes_decides w.text name).0 t) ∙ at)) in
        or_left (x == k) (is_among k xs) (eq-eqb x k same)
    go false t x xs here more f = or_right (x == k) (is_among k xs) (more f)

-- ---- the ranges

-- only a range is resolved to one
is_a_range : (job : Job) (before : List DefTree) (a : ArgTree) (r : Range) → definition_of job before a ≡ Some (def.Span r) → is_range a ≡ true
is_a_range job before (tree.One e) r h = go (term_of job before e) h
  where
    go : (o : Option Term) → option_map def.Value o ≡ Some (def.Span r) → false ≡ true
    go None f = absurd cc
    go (Some t) f = absurd cc
is_a_range job before (tree.Span spot lo hi step) r h = refl

spans_among : (job : Job) (params : List Word) (all before defs : List DefTree) (n : ℕ) (ds : List Def) (ps : List ℕ) → n ≡ length before → before ++ defs ≡ all
    → repeats_after (λ (d : DefTree). d.name) LocalTwice before defs ≡ []
    → definitions_faults job params before defs ≡ [] → each (parameter_of all) params ≡ Some ps
    → definitions_of job before defs ≡ Some ds
    → IsTrue (spans_are_params n ds ps)
spans_among job params all before [] n ds ps same whole r h q e = subst (λ l. IsTrue (spans_are_params n l ps)) (same_Some [] ds e) refl
spans_among job params all before (d ∷ defs) n ds ps same whole r h q e =
    let p = parts_of (λ x xs. x ∷ xs) (definition_of job before d.value) (definitions_of job (before ++ d ∷ []) defs) ds e in
    let fresh = holds_not (is_taken (λ (x : DefTree). x.name) before d.name.text) d.name.spot LocalTwice (first_nil _ _ r) in
    let at : local_named all d.name.text ≡ Some n = ap (λ l. local_named l d.name.text) (sym whole)
    ∙ (found_at before d defs fresh ∙ ap (λ m. Some m) (sym same)) in
    let next : suc n ≡ length (before ++ d ∷ []) = omega (arith, same, length-append before (d ∷ [])) in
    let more =
    spans_among job params all (before ++ d ∷ []) defs (suc n) p.1 ps next (append_assoc before (d ∷ []) defs ∙ whole) (rest_nil _ _ r)
    (rest_nil (definition_faults job params before d) (definitions_faults job params (before ++ d ∷ []) defs) h) q p.3 in
    let ranged = holds_not (is_ranged_local params d) d.name.spot RangedLocal
    (rest_nil (argument_faults job before d.value) _ (first_nil (definition_faults job params before d) _ h)) in
    subst (λ l. IsTrue (spans_are_params n l ps)) p.4 (go p.0 p.1 p.2 at ranged more)
  where
    is_named : (a b : Bool) → a ≡ true → (a && not b) ≡ false → b ≡ true
    is_named true true s t = refl
    is_named true false s t = absurd (false≢true (sym t))
    is_named false b s t = absurd (false≢true s)

    go : (x : Def) (xs : List Def) → definition_of job before d.value ≡ Some x
        → local_named all d.name.text ≡ Some n → is_ranged_local params d ≡ false
        → IsTrue (spans_are_params (suc n) xs ps) → IsTrue (spans_are_params n (x ∷ xs) ps)
    go (def.Value t) xs k at ranged more = more
    go (def.Span t) xs k at ranged more =
        and_from (is_among n ps) (spans_are_params (suc n) xs ps)
        (among_some all d.name.text n params ps at
        (is_named (is_range d.value) (list_any (word_is d.name.text) params) (is_a_range job before d.value t k)
        ranged) q) more

pub pair_of : (o : Option (List Def)) (q : Option (List ℕ)) (z : ClassSpace)
    → both (λ x y. record { defs = x; params = y }) o q ≡ Some z
    → (x : List Def) × (y : List ℕ) × (o ≡ Some x) × (q ≡ Some y) × (space_from x y ≡ z)
pair_of None q z f = absurd cc
pair_of (Some x) None z f = absurd cc
pair_of (Some x) (Some y) z f = (x, y, refl, refl, same_Some (space_from x y) z f)

-- a resolved space that breaks no rule is well made
pub well_space : (job : Job) (params : List Word) (defs : List DefTree) (s : ClassSpace) → length defs ≤ 16
    → space_faults job params defs ≡ [] → space_of job params defs ≡ Some s → IsWellSpace s
well_space job params defs s short h e =
    let p = pair_of (definitions_of job [] defs) (each (parameter_of defs) params) s e in
    let known = first_nil (definitions_faults job params [] defs ++ repeats (λ (d : DefTree). d.name) LocalTwice
    defs) (flat_map (parameter_faults defs) params ++ repeats (λ (w : Word). w) NameTwice params) h in
    let named = rest_nil (definitions_faults job params [] defs ++ repeats (λ (d : DefTree). d.name) LocalTwice
    defs) (flat_map (parameter_faults defs) params ++ repeats (λ (w : Word). w) NameTwice params) h in
    let count = definitions_length job [] defs p.0 p.2 in
    let well : IsWellSpace (space_from p.0 p.1) =
    record {
      definitions_at_most = omega (arith, count, short);
      closed = definitions_closed job [] defs 0 p.0 refl p.2;
      within = params_within defs params p.1 (length p.0) count p.3;
      different = params_different defs [] params p.1 (rest_nil (flat_map (parameter_faults defs) params) _ named) p.3;
      spans = spans_among job params defs [] defs 0 p.0 p.1 refl refl
          (rest_nil (definitions_faults job params [] defs) _ known)
          (first_nil (definitions_faults job params [] defs) _ known) p.3 p.2;
    } in
    subst IsWellSpace p.4 well
