-- What is resolved has no fault.
use Rattle.std.proofs.Common.{◌≡◌, true, false, ◌||◌, List, [], ◌∷◌, ◌++◌, flat_map, Option, Some, None, refl, sym, ◌∙◌, ap}
use Rattle.std.specs.List.{list_any}
use Rattle.term_core.specs.Term.{Term}
use Rattle.term_core.specs.declared.space.Range.{Range}
use Rattle.jdf_tree.specs.Expression.{Expression}
use Rattle.jdf_tree.specs.declared.tree.ArgTree.TheVariants as tree
use Rattle.plan_core.specs.declared.target.Arg.{Arg}
use Rattle.plan_core.specs.declared.target.Arg.TheVariants as plan
use Rattle.plan_core.specs.Closed.{is_span}
use Rattle.type_rules.specs.TreesAndFaults.{ArgTree, DefTree, JdfCode, JdfFault}
use Rattle.type_rules.specs.Arguments.{argument_faults, argument_of, arguments_faults, arguments_of, index_faults}
use Rattle.type_rules.specs.Arguments.{index_of, indices_faults, indices_of, range_faults, range_of, ranges_faults}
use Rattle.type_rules.specs.Expressions.{expression_faults, option_faults, option_term, term_of}
use Rattle.type_rules.specs.Names.{Job}
use Rattle.type_rules.specs.Returns.{both, each}
use Rattle.type_rules.proofs.CallerLemmas.{agrees, option_there, pair_parts, parts_of, range_from, there_faultless}
use Rattle.list_lemmas.proofs.Options.{from_option_map}
use Rattle.std.proofs.lemmas.Bool.{or_parts}

pub none_joined : {A : Type 0} (xs ys : List A) → xs ≡ [] → ys ≡ [] → xs ++ ys ≡ []
none_joined xs ys e f = λ i. e i ++ f i

pub term_no_fault : (job : Job) (seen : List DefTree) (e : Expression) (t : Term) → term_of job seen e ≡ Some t → expression_faults job seen e ≡ []
term_no_fault job seen e t h = there_faultless _ _ _ (agrees job seen e) t h

pub option_no_fault : (job : Job) (seen : List DefTree) (e : Option Expression) (o : Option Term)
    → option_term job seen e ≡ Some o → option_faults job seen e ≡ []
option_no_fault job seen None o h = refl
option_no_fault job seen (Some e) o h = let p = option_there (term_of job seen) e o h in term_no_fault job seen e p.0 p.1

range_no_fault : (job : Job) (seen : List DefTree) (lo hi : Expression) (step : Option Expression) (r : Range)
    → range_of job seen lo hi step ≡ Some r → expression_faults job seen
    lo ++ (expression_faults job seen hi ++ option_faults job seen step) ≡ []
range_no_fault job seen lo hi step r h =
    let p = parts_of range_from (term_of job seen lo) (both (λ x y. (x, y)) (term_of job seen hi) (option_term job seen step)) r h in
    let q = pair_parts (term_of job seen hi) (option_term job seen step) p.1 p.3 in
    none_joined (expression_faults job seen lo) (expression_faults job seen hi ++ option_faults job seen step) (term_no_fault job seen lo p.0 p.2)
    (none_joined (expression_faults job seen hi) (option_faults job seen step) (term_no_fault job seen hi p.1.0 q.0) (option_no_fault job seen step p.1.1 q.1))

argument_no_fault : (job : Job) (seen : List DefTree) (a : ArgTree) (x : Arg) → argument_of job seen a ≡ Some x → argument_faults job seen a ≡ []
argument_no_fault job seen (tree.One e) x h = let p = from_option_map plan.One (term_of job seen e) x h in term_no_fault job seen e p.0 p.1
argument_no_fault job seen (tree.Span spot lo hi step) x h = let p = from_option_map plan.Span
    (range_of job seen lo hi step) x h in range_no_fault job seen lo hi step p.0 p.1

index_no_fault : (job : Job) (seen : List DefTree) (a : ArgTree) (t : Term) → index_of job seen a ≡ Some t → index_faults job seen a ≡ []
index_no_fault job seen (tree.One e) t h = none_joined (expression_faults job seen e) [] (term_no_fault job seen e t h) refl
index_no_fault job seen (tree.Span spot lo hi step) t h = absurd cc

-- no element of a list has a fault
pub none_each : {A B : Type 0} (f : A → Option B) (g : A → List JdfFault) → ((a : A) (b : B) → f a ≡ Some b → g a ≡ [])
    → (xs : List A) (ys : List B) → each f xs ≡ Some ys → flat_map g xs ≡ []
none_each f g h [] ys e = refl
none_each f g h (x ∷ xs) ys e =
    let q = parts_of (λ y ys. y ∷ ys) (f x) (each f xs) ys e in
    none_joined (g x) (flat_map g xs) (h x q.0 q.2) (none_each f g h xs q.1 q.3)

pub arguments_no_fault : (job : Job) (seen : List DefTree) (args : List ArgTree) (xs : List Arg)
    → arguments_of job seen args ≡ Some xs → arguments_faults job seen args ≡ []
arguments_no_fault job seen args xs e = none_each (argument_of job seen) (argument_faults job seen) (λ a x h. argument_no_fault job seen a x h) args xs e

pub indices_no_fault : (job : Job) (seen : List DefTree) (args : List ArgTree) (ts : List Term)
    → indices_of job seen args ≡ Some ts → indices_faults job seen args ≡ []
indices_no_fault job seen args ts e = none_each (index_of job seen) (index_faults job seen) (λ a t h. index_no_fault job seen a t h) args ts e

-- if an argument is resolved to no range, it is none
no_range : (job : Job) (seen : List DefTree) (code : JdfCode) (a : ArgTree) (x : Arg) → argument_of job seen a ≡ Some x
    → is_span x ≡ false → range_faults code a ≡ []
no_range job seen code (tree.One e) x h s = refl
no_range job seen code (tree.Span spot lo hi step) x h s =
    let p = from_option_map plan.Span (range_of job seen lo hi step) x h in
    let span : is_span x ≡ true = ap is_span (sym p.2) in
    absurd cc

pub no_ranges : (job : Job) (seen : List DefTree) (code : JdfCode) (args : List ArgTree) (xs : List Arg)
    → arguments_of job seen args ≡ Some xs → list_any is_span xs ≡ false → ranges_faults code args ≡ []
no_ranges job seen code [] xs e h = refl
no_ranges job seen code (a ∷ args) xs e h =
    let q = parts_of (λ y ys. y ∷ ys) (argument_of job seen a) (each (argument_of job seen) args) xs e in
    let none : (is_span q.0 || list_any is_span q.1) ≡ false = ap (list_any is_span) q.4 ∙ h in
    let two = or_parts (is_span q.0) (list_any is_span q.1) none in
    none_joined (range_faults code a) (ranges_faults code args) (no_range job seen code a q.0 q.2 two.0) (no_ranges job seen code args q.1 q.3 two.1)
