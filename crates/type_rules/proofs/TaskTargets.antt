-- The class and the flow that a target in a task names.
use Rattle.std.proofs.Common.{◌≡◌, ℕ, Some, slice_get, option_and_then, sym, ◌∙◌, ap}
use Rattle.type_rules.specs.TreesAndFaults.{Word, FlowTree, ClassTree}
use Rattle.type_rules.specs.Names.{Job, word_is, class_named, class_of, flow_named, flow_of}
use Rattle.type_rules.proofs.Closed.{pair_parts}
use Rattle.type_rules.specs.Targets.{task_of}
use Rattle.list_lemmas.proofs.Places.{position_within, slice_get_there}
use Rattle.list_lemmas.proofs.Options.{from_option_and_then}

pub record TaskThere (job : Job) (flow class : Word) (x : ℕ × ℕ) : Type 0 where
  pub class_tree : ClassTree
  pub flow_tree : FlowTree
  pub number : class_named job class.text ≡ Some x.0
  pub known : class_of job class.text ≡ Some class_tree
  pub class_is : slice_get job.jdf.classes x.0 ≡ Some class_tree
  pub flow_is : slice_get class_tree.flows x.1 ≡ Some flow_tree
  pub named : option_and_then (λ (c : ClassTree). flow_of c flow.text) (class_of job class.text) ≡ Some flow_tree

pub task_there : (job : Job) (flow class : Word) (x : ℕ × ℕ) → task_of job flow class ≡ Some x → TaskThere job flow class x
task_there job flow class x e =
    let p = pair_parts (class_named job class.text) (option_and_then (λ (c : ClassTree). flow_named c flow.text) (class_of job class.text)) x e in
    let c = from_option_and_then (λ (c : ClassTree). flow_named c flow.text) (class_of job class.text) x.1 p.1 in
    let f = slice_get_there c.0.flows x.1 (position_within (λ (f : FlowTree). word_is flow.text f.name) c.0.flows x.1 c.2) in
    record {
      class_tree = c.0;
      flow_tree = f.0;
      number = p.0;
      known = c.1;
      class_is = ap (option_and_then (slice_get job.jdf.classes)) (sym p.0) ∙ c.1;
      flow_is = f.1;
      named = ap (option_and_then (λ (c : ClassTree). flow_of c flow.text)) c.1 ∙ (ap (option_and_then (slice_get c.0.flows)) c.2 ∙ f.1);
    }
