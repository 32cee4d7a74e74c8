-- Each body is read: its tokens form a body, or have a first fault.
use Rattle.std.proofs.Common.{◌≡◌, ◌≤◌, ℕ, ◌-◌, List, [], ◌∷◌, length, None, is_some, Result, Ok, Err, ◌⊎◌, inl, inr, refl, sym, subst}
use Rattle.std.specs.List.{AllByRecursion}
use Rattle.std.proofs.lemmas.List.{length-map}
use Rattle.grammar_core.specs.declared.fault.ReadFault.{ReadFault}
use Rattle.grammar_core.specs.declared.token.Token.{Token}
use Rattle.grammar_core.specs.declared.code.Code.{Code}
use Rattle.grammar_core.specs.Production.{IsText, IsFirstFault}
use Rattle.grammar_core.specs.Reading.{whole}
use Rattle.term_core.specs.declared.body.Body.{Body}
use Rattle.ptg_base.specs.Returns.{and_then}
use Rattle.jdf_tree.specs.BodyGrammar.{body}
use Rattle.jdf_tree.specs.Grammar.{productions}
use Rattle.jdf_tree.specs.Statements.{Statements}
use Rattle.jdf_tree.specs.TreeLimits.{IsClassWithinLimits}
use Rattle.body_lang.proofs.CallerLemmas.{faulty, found}
use Rattle.body_lang.specs.Environment.{Environment}
use Rattle.expr_names.specs.Symbols.{Resolved}
use Rattle.body_lang.specs.Statements.{body_of}
use Rattle.body_lang.specs.TokenScan.{front_fault}
use Rattle.body_lang.specs.Broken.{broken_fault}
use Rattle.type_rules.specs.TreesAndFaults.{JdfFault, DefTree, FlowTree, ClassTree}
use Rattle.type_rules.specs.Names.{Job, int_named, coll_named}
use Rattle.type_check.specs.Bodies.{local_names, flow_names, BodyResult, ReadsAs, ReadsBody}
use Rattle.type_check.specs.Check.{ReadBodies}

-- tokens have a tree, or a first fault
abbrev Read : List Token → Type 0
Read tokens = ((tree : Statements) × IsText productions body tokens tree None) ⊎ ((index : ℕ) × (code : Code) × IsFirstFault productions body tokens index code)

tokens_read : (tokens : List Token) → Read tokens
tokens_read tokens = go (whole productions body tokens) refl
  where
    go : (r : Result Statements ReadFault) → whole productions body tokens ≡ r → Read tokens
    go (Ok tree) e = inl (tree, found tokens tree e)
    go (Err n) e = inr (length tokens - n.left, n.code, faulty tokens n.left n.code e)

-- the names of a tree are resolved, or have a first fault
by_tree : (scope : Environment) (class : ClassTree) (tree : Statements) → IsText productions body class.body tree None
    → (b : BodyResult) × ReadsAs scope class b
by_tree scope class tree text = go (body_of scope tree) refl
  where
    go : (r : Resolved (Body × List (List ℕ))) → body_of scope tree ≡ r → (b : BodyResult) × ReadsAs scope class b
    go (Ok x) e = (Ok x, record { tree = tree; text = text; named = e })
    go (Err f) e = (Err f, inl (record { tree = tree; text = text; named = e }))

-- reading a broken text ends with a fault
no_body : (r : Resolved (Unit {0})) (f : JdfFault) (u : Unit {0}) → and_then r (λ _. Err f) ≡ Ok u → ⊥
no_body (Ok x) f u e = absurd cc
no_body (Err g) f u e = absurd cc

by_fault : (scope : Environment) (class : ClassTree) (index : ℕ) (code : Code)
    → IsFirstFault productions body class.body index code → (b : BodyResult) × ReadsAs scope class b
by_fault scope class index code broken = go (broken_fault scope class.body class.finish index code) refl
  where
    go : (r : Resolved (Unit {0})) → broken_fault scope class.body class.finish index code ≡ r → (b : BodyResult) × ReadsAs scope class b
    go (Ok u) e = absurd (no_body (front_fault scope class.body index) _ u e)
    go (Err f) e = (Err f, inr (record { token_index = index; code = code; broken = broken; first = e }))

class_reads : (scope : Environment) (class : ClassTree) → (b : BodyResult) × ReadsAs scope class b
class_reads scope class = elim (tokens_read class.body) [ inl t ↦ by_tree scope class t.0 t.1 | inr f ↦ by_fault scope class f.0 f.1 f.2 ]

-- what the names in the body of a class mean
abbrev environment_for : Job → (class : ClassTree) → IsClassWithinLimits class → Environment
environment_for job class within =
    record {
      locals = local_names class.defs;
      integer = int_named job;
      is_collection = λ name. is_some (coll_named job name);
      flows = flow_names class.flows;
      locals_at_most = subst (λ n. n ≤ 16) (sym (length-map class.defs (λ (d : DefTree). d.name.text))) within.defs;
      flows_at_most = subst (λ n. n ≤ 8) (sym (length-map class.flows (λ (f : FlowTree). record { name = f.name.text; kind = f.kind }))) within.count;
    }

pub body_read : (job : Job) (class : ClassTree) → IsClassWithinLimits class → (b : BodyResult) × ReadsBody job class b
body_read job class within =
    let scope = environment_for job class within in
    let read = class_reads scope class in
    (read.0, record { scope = scope; means = record { locals = refl; integer = λ name. refl; is_collection = λ name. refl; flows = refl }; reads = read.1 })

-- the bodies of some classes
pub bodies_read : (job : Job) (classes : List ClassTree) → AllByRecursion IsClassWithinLimits classes
    → (bodies : List BodyResult) × ReadBodies job classes bodies
bodies_read job [] within = ([], tt)
bodies_read job (c ∷ classes) within =
    let first = body_read job c within.0 in
    let rest = bodies_read job classes within.1 in
    (first.0 ∷ rest.0, (first.1, rest.1))
