-- Resolved terms name only locals that are seen.
use Rattle.std.proofs.Common.{◌≡◌, ℕ, ℤ, ◌<◌, ◌&&◌, Bool, true, false, List, length, Option, Some, None, is_some, option_map, Ok, IsTrue, refl, ap, subst}
use Rattle.std.proofs.lemmas.Bool.{lt-ltb, and_from}
use Rattle.term_core.specs.Term.{Term}
use Rattle.term_core.specs.Term as term
use Rattle.term_core.specs.Value.{is_closed}
use Rattle.term_core.specs.WellSpace.{is_closed_option, is_closed_def}
use Rattle.term_core.specs.declared.space.Range.{Range}
use Rattle.term_core.specs.declared.space.Def.{Def}
use Rattle.term_core.specs.declared.space.Def.TheVariants as def
use Rattle.jdf_tree.specs.Expression.{Expression}
use Rattle.jdf_tree.specs.declared.tree.ArgTree.TheVariants as tree
use Rattle.type_rules.specs.TreesAndFaults.{Word, DefTree, ArgTree}
use Rattle.type_rules.specs.Names.{Job, word_is, int_named, coll_named, local_named}
use Rattle.type_rules.specs.Returns.{both}
use Rattle.type_rules.specs.Expressions.{symbols_of, term_of, option_term}
use Rattle.type_rules.proofs.NoFaults.{option_there}
use Rattle.type_rules.proofs.OneResolver.{agrees, resolved_is}
use Rattle.expr_names.proofs.CallerLemmas as closed
use Rattle.expr_names.specs.Meanings.{outer_meaning, value_of}
use Rattle.type_rules.specs.Arguments.{range_of}
use Rattle.type_rules.specs.Definitions.{definition_of}
use Rattle.list_lemmas.proofs.Places.{position_within}
use Rattle.list_lemmas.proofs.Options.{same_Ok}
use Rattle.std.proofs.lemmas.Option.{same_Some}

closed_name : (seen : List DefTree) (w : Word) (o : Option ℕ) (z : Option ℤ) (b : Bool) (t : Term) → ((n : ℕ) → o ≡ Some n → n < length seen)
    → value_of w (outer_meaning o z b) ≡ Ok t → IsTrue (is_closed (length seen) t)
closed_name seen w None None true t within e = absurd cc
closed_name seen w None None false t within e = absurd cc
closed_name seen w None (Some z) b t within e = subst (λ x. IsTrue (is_closed (length seen) x)) (same_Ok (term.Num z) t e) refl
closed_name seen w (Some n) z b t within e =
    subst (λ x. IsTrue (is_closed (length seen) x)) (same_Ok (term.Local n) t e)
    (lt-ltb n (length seen) (within n refl))

-- two parts that both exist
pub pair_parts : {A B : Type 0} (o : Option A) (p : Option B) (z : A × B) → both (λ x y. (x, y)) o p ≡ Some z → (o ≡ Some z.0) × (p ≡ Some z.1)
pair_parts None p z e = absurd cc
pair_parts (Some x) None z e = absurd cc
pair_parts (Some x) (Some y) z e = let same : (x, y) ≡ z = same_Some (x, y) z e in (ap (λ w. Some w.0) same, ap (λ w. Some w.1) same)

pub closed_term : (job : Job) (seen : List DefTree) (e : Expression) (t : Term) → term_of job seen e ≡ Some t → IsTrue (is_closed (length seen) t)
closed_term job seen e t h =
    closed.term_closed (symbols_of job seen) (length seen) 0
    (λ w x k. closed_name seen w (local_named seen w.text) (int_named job w.text) (is_some (coll_named job w.text))
    x (λ n q. position_within (λ (d : DefTree). word_is w.text d.name) seen n q) k)
    (λ w n k. absurd cc) e t (resolved_is _ _ _ (agrees job seen e) t h)

-- the same for an expression that may be left out
pub closed_option : (job : Job) (seen : List DefTree) (e : Option Expression) (o : Option Term)
    → option_term job seen e ≡ Some o → IsTrue (is_closed_option (length seen) o)
closed_option job seen None o h = subst (λ x. IsTrue (is_closed_option (length seen) x)) (same_Some None o h) refl
closed_option job seen (Some e) o h =
    let p = option_there (term_of job seen) e o h in
    subst (λ x. IsTrue (is_closed_option (length seen) x)) p.2 (closed_term job seen e p.0 p.1)

pub closed_range : (job : Job) (seen : List DefTree) (lo hi : Expression) (step : Option Expression) (r : Range)
    → range_of job seen lo hi step ≡ Some r → IsTrue (is_closed_def (length seen) (def.Span r))
closed_range job seen lo hi step r h = go (term_of job seen lo)
    (both (λ x y. (x, y)) (term_of job seen hi) (option_term job seen step)) (λ x k. closed_term job seen lo x k)
    (λ y k. pair_parts (term_of job seen hi) (option_term job seen step) y k) h
  where
    go : (o : Option Term) (p : Option (Term × Option Term))
        → ((x : Term) → o ≡ Some x → IsTrue (is_closed (length seen) x))
        → ((y : Term × Option Term) → p ≡ Some y
        → (term_of job seen hi ≡ Some y.0) × (option_term job seen step ≡ Some y.1))
        → both (λ x (y : Term × Option Term). record { lo = x; hi = y.0; step = y.1 }) o p ≡ Some r → IsTrue (is_closed_def (length seen) (def.Span r))
    go None p h k f = absurd cc
    go (Some x) None h k f = absurd cc
    go (Some x) (Some y) h k f =
        let q = k y refl in
        let same : record { lo = x; hi = y.0; step = y.1 } ≡ r = same_Some _ r f in
        subst (λ s. IsTrue (is_closed_def (length seen) (def.Span s))) same
        (and_from (is_closed (length seen) x && is_closed (length seen) y.0) (is_closed_option (length seen) y.1)
        (and_from (is_closed (length seen) x) (is_closed (length seen) y.0) (h x refl) (closed_term job seen hi y.0 q.0)) (closed_option job seen step y.1 q.1))

pub closed_definition : (job : Job) (seen : List DefTree) (a : ArgTree) (d : Def) → definition_of job seen a ≡ Some d → IsTrue (is_closed_def (length seen) d)
closed_definition job seen (tree.One e) d h = go (term_of job seen e) (λ x k. closed_term job seen e x k) h
  where
    go : (o : Option Term) → ((x : Term) → o ≡ Some x → IsTrue (is_closed (length seen) x))
        → option_map def.Value o ≡ Some d → IsTrue (is_closed_def (length seen) d)
    go None k f = absurd cc
    go (Some x) k f = subst (λ y. IsTrue (is_closed_def (length seen) y)) (same_Some (def.Value x) d f) (k x refl)
closed_definition job seen (tree.Span spot lo hi step) d h = go (range_of job seen lo hi step) (λ r k. closed_range job seen lo hi step r k) h
  where
    go : (o : Option Range) → ((r : Range) → o ≡ Some r → IsTrue (is_closed_def (length seen) (def.Span r)))
        → option_map def.Span o ≡ Some d → IsTrue (is_closed_def (length seen) d)
    go None k f = absurd cc
    go (Some r) k f = subst (λ y. IsTrue (is_closed_def (length seen) y)) (same_Some (def.Span r) d f) (k r refl)
