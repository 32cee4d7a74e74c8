-- Words form at most one command; its files are text, and its numbers are in range.
use Rattle.std.proofs.Common.{◌≡◌, ◌∙◌, ℕ, List, Option, Some, sym, subst}
use Rattle.ptg_words.specs.declared.order.Order.{Order}
use Rattle.ptg_words.specs.Parts.{Part, operands}
use Rattle.ptg_words.specs.declared.verbs.Verb.{Verb}
use Rattle.ptg_words.specs.Words.{Orders, formed}

same_formed : (o : Option Order) (a b : Order) → o ≡ Some a → o ≡ Some b → a ≡ b
same_formed o a b e f = cc

pub one_command : (words : List (List ℕ)) (a b : Order) → Orders words a → Orders words b → a ≡ b
one_command words a b p q =
    let left : Verb × List Part = (p.verb, p.rest) in
    let right : Verb × List Part = (q.verb, q.rest) in
    let same : Some left ≡ Some right = sym p.reads ∙ q.reads in
    let pair : left ≡ right = cc in
    same_formed (formed q.verb (operands q.rest) q.rest) a b (subst (λ (r : Verb × List Part). formed r.0 (operands r.1) r.1 ≡ Some a) pair p.asks) q.asks
