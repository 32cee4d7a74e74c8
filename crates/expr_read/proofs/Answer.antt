-- What reading from a token's index on implies for the whole list of tokens.
use Rattle.std.proofs.Common.{◌≡◌, ℕ, ◌+◌, ◌-◌, ◌≤◌, List, length, take, drop, Result, Ok, Err, inl, inr, refl, sym, ap, ◌∙◌, arith, subst}
use Rattle.std.specs.Prelude.{None}
use Rattle.std.proofs.lemmas.List.{length-drop, take_rest}
use Rattle.ptg_base.specs.Returns.{FindsOrRefuses}
use Rattle.ptg_base.specs.declared.refusal.Refusal.{Refusal}
use Rattle.ptg_base.specs.declared.refusal.Refusal.TheVariants.{Fault, OutOfMemory}
use Rattle.grammar_core.specs.declared.token.Spot.{Spot}
use Rattle.grammar_core.specs.declared.token.Token.{Token}
use Rattle.jdf_lex.specs.declared.fault.JdfFault.{JdfFault}
use Rattle.grammar_core.specs.declared.code.Code.{Code}
use Rattle.grammar_core.specs.Production.{IsText}
use Rattle.grammar_core.specs.Reading.{Read, reading, fault_from_end}
use Rattle.jdf_tree.specs.declared.expression.ExprWithSpot.{ExprWithSpot}
use Rattle.jdf_tree.specs.declared.part.Part.{Part}
use Rattle.jdf_tree.specs.Expression.{Expression}
use Rattle.jdf_tree.specs.ExpressionGrammar.{with_spot, outer}
use Rattle.jdf_tree.specs.Grammar.{productions}
use Rattle.expr_read.specs.Front.{IsEnd, IsExpression, IsFirstFaultOf, IsExpressionFrom, IsFaultFrom, fault_at}
use Rattle.expr_read.proofs.Loops.{reading_shrinks}
use Rattle.expr_read.proofs.Ending.{read_ends, read_fails, same_expression, no_expression, no_fault, same_fault}

abbrev Answer : Type 0
Answer = Result (Expression × ℕ) (Refusal JdfFault)

abbrev answer : Expression × ℕ → Answer
answer x = Ok x

abbrev refused : JdfFault → Answer
refused f = Err (Fault f)

-- reading the code's slice is reading the tokens from this index on
at_front : (tokens : List Token) (from : ℕ) (a b : Part) (r : Read ExprWithSpot) → a ≡ b
    → reading productions (outer a) (take (length tokens - from) (drop from tokens)) ≡ r
    → reading productions (outer b) (drop from tokens) ≡ r
at_front tokens from a b r same e =
    ap (λ (p : Part). reading productions (outer p) (drop from tokens)) (sym same) ∙ (ap (reading productions (outer a)) (sym (take_rest tokens from)) ∙ e)

module _ (tokens : List Token) (from : ℕ) (within : from ≤ length tokens) (a part : Part) (same : a ≡ part) where
  abbrev slice : List Token
  slice = take (length tokens - from) (drop from tokens)

  -- if an expression was read
  module _ (t : ExprWithSpot) (rest : List Token) (e : reading productions (outer a) slice ≡ Ok (t, rest)) where
    here : reading productions (outer part) (drop from tokens) ≡ Ok (t, rest)
    here = at_front tokens from a part (Ok (t, rest)) same e

    pub rest_within : length rest + from ≤ length tokens
    rest_within = let k = reading_shrinks (outer part) (drop from tokens) t rest here in omega (arith, k, length-drop from tokens, within)

    pub found_at : IsExpression part (drop from tokens) t.tree (length tokens - length rest - from)
    found_at =
        let k = read_ends part (drop from tokens) t rest here in
        let p : length (drop from tokens) - length rest ≡ length tokens - length rest - from = omega (arith, length-drop from tokens) in
        record {
          end = subst (λ (m : ℕ). IsEnd part (drop from tokens) m) p k.0;
          spot = t.spot;
          text = subst (λ (m : ℕ). IsText productions (outer part) (take m (drop from tokens)) t None) p k.1;
        }

    pub found_only : (x : Expression) (p : ℕ) → IsExpression part (drop from tokens) x p → (t.tree ≡ x) × (length tokens - length rest ≡ from + p)
    found_only x p h =
        let k = same_expression part (drop from tokens) (t, rest) here (with_spot h.spot x) p h.end h.text in
        let n = k.1 in
        let w = rest_within in
        (ap (λ (y : ExprWithSpot). y.tree) k.0, omega (arith, n, w, length-drop from tokens))

    pub found_no_fault : (p : ℕ) (d : Code) → IsFirstFaultOf part (drop from tokens) p d → ⊥
    found_no_fault p d h = no_fault part (drop from tokens) (t, rest) here p d h

    pub found_exact : (finish : Spot) → FindsOrRefuses (IsExpressionFrom part tokens from)
        (IsFaultFrom part tokens from finish) (answer (t.tree, length tokens - length rest))
    found_exact finish =
        record {
          found = record { after = (let w = rest_within in omega (arith, w)); expression = found_at };
          only = λ x h.
              let k = found_only x.0 (x.1 - from) h.expression in
              let n = k.1 in
              let w = h.after in
              let end : length tokens - length rest ≡ x.1 = omega (arith, n, w) in
              inl (λ i. answer (k.0 i, end i));
          fault = λ f h. absurd cc;
          refused = λ f h. absurd (found_no_fault h.offset h.code h.first);
        }

  pub no_memory : (finish : Spot) → FindsOrRefuses (IsExpressionFrom part tokens from) (IsFaultFrom part tokens from finish) (Err OutOfMemory)
  no_memory finish = record { found = tt; only = λ x h. inr refl; fault = λ f h. absurd cc; refused = λ f h. inr refl }

  -- if a fault was met
  module _ (n : ℕ) (d : Code) (e : reading productions (outer a) slice ≡ Err (fault_from_end n d)) where
    met : reading productions (outer part) (drop from tokens) ≡ Err (fault_from_end n d)
    met = at_front tokens from a part (Err (fault_from_end n d)) same e

    pub left_within : n + from ≤ length tokens
    left_within = let k = (read_fails part (drop from tokens) n d met).1 in omega (arith, k, length-drop from tokens, within)

    pub fault_place : length tokens - n ≡ from + (length (drop from tokens) - n)
    fault_place = let w = left_within in omega (arith, w, length-drop from tokens)

    pub fault_first : IsFirstFaultOf part (drop from tokens) (length (drop from tokens) - n) d
    fault_first = (read_fails part (drop from tokens) n d met).0

    pub fault_no_expression : (x : Expression) (p : ℕ) → IsExpression part (drop from tokens) x p → ⊥
    fault_no_expression x p h = no_expression part (drop from tokens) n d met (with_spot h.spot x) p h.end h.text

    pub fault_only : (p : ℕ) (b : Code) → IsFirstFaultOf part (drop from tokens) p b → (length tokens - n ≡ from + p) × (d ≡ b)
    fault_only p b h =
        let k = same_fault part (drop from tokens) n d met p b h in
        let q = k.0 in
        let f = fault_place in
        (omega (arith, q, f), k.1)

    pub fault_exact : (finish : Spot) (f : JdfFault) → f ≡ fault_at tokens finish (length tokens - n) d
        → FindsOrRefuses (IsExpressionFrom part tokens from) (IsFaultFrom part tokens from finish) (refused f)
    fault_exact finish f at =
        record {
          found = tt;
          only = λ x h. absurd (fault_no_expression x.0 (x.1 - from) h.expression);
          fault = λ g h.
              let same : f ≡ g = cc in
              record {
                offset = length (drop from tokens) - n;
                code = d;
                first = fault_first;
                placed = sym same ∙ (at ∙ ap (λ (m : ℕ). fault_at tokens finish m d) fault_place);
              };
          refused = λ g h.
              let k = fault_only h.offset h.code h.first in
              let here : f ≡ g = at ∙ ((λ i. fault_at tokens finish (k.0 i) (k.1 i)) ∙ sym h.placed) in
              inl (ap refused here);
        }
