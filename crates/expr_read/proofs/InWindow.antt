-- An outermost expression is read in a window of tokens up to its limit.
use Rattle.std.proofs.Common.{◌≡◌, ℕ, ◌-◌, ◌+◌, ◌≤◌, ◌<◌, List, ◌++◌, length, take, drop, true, false, Ok, Err, refl}
use Rattle.std.specs.Prelude.{◌==◌}
use Rattle.grammar_core.specs.declared.fault.ReadFault.{ReadFault}
use Rattle.grammar_core.specs.declared.token.Token.{Token}
use Rattle.jdf_lex.specs.Codes.{ExprTooLong}
use Rattle.jdf_lex.specs.Counted.{expression_limit}
use Rattle.grammar_core.specs.Production.{Derives, Derived}
use Rattle.grammar_core.specs.Predictive.{is_fine}
use Rattle.grammar_core.specs.Reading.{judge, reading, fault_from_end}
use Rattle.grammar_core.proofs.CallerLemmas.{Sound, sound}
use Rattle.jdf_tree.specs.declared.expression.ExprWithSpot.{ExprWithSpot}
use Rattle.jdf_tree.specs.declared.part.Part.TheVariants.{Class, Body}
use Rattle.jdf_tree.specs.ExpressionGrammar.{number, parens, index, reference, signed, unary, product, sum, relation, equality, conjunction}
use Rattle.jdf_tree.specs.ExpressionGrammar.{disjunction, branches, expr, outer, guard}
use Rattle.jdf_tree.specs.Grammar.{productions, claims}
use Rattle.jdf_lex.specs.Terminals.{terminal_at}
use Rattle.jdf_tree.proofs.CallerLemmas.{productions_fine}
use Rattle.expr_read.specs.declared.window.Outermost.{Outermost}
use Rattle.expr_read.specs.declared.window.Outermost.TheVariants as outermost
use Rattle.expr_read.specs.Precedences.{form_of, limited_form}
use Rattle.expr_read.proofs.Windows as windows

pub form_fine : (o : Outermost) → is_fine claims (form_of o) ≡ true
unfolding terminal_at expr branches disjunction conjunction equality relation sum product unary signed number reference index parens
form_fine (outermost.Expression Class) = refl
form_fine (outermost.Expression Body) = refl
form_fine outermost.Guard = refl

-- reading with the limit is reading without it, then judged by the limit
pub limited_is : (o : Outermost) (s : List Token)
    → reading productions (limited_form o) s
    ≡ judge (expression_limit.at s) ExprTooLong s (reading productions (form_of o) s)
unfolding outer guard
limited_is (outermost.Expression part) s = refl
limited_is outermost.Guard s = refl

module _ (o : Outermost) where
  pub form_sound : (s : List Token) → Sound (Derives (Derived productions) (form_of o)) (reading productions (form_of o)) s
  form_sound s = sound productions claims productions_fine (form_of o) (form_fine o) s

  pub short : (s : List Token) → length s ≤ expression_limit.at s → reading productions (limited_form o) s ≡ reading productions (form_of o) s
  short s le = windows.within_limit expression_limit (λ _. ExprTooLong) (Derives (Derived productions) (form_of o))
      (reading productions (form_of o)) form_sound (reading productions (limited_form o)) (limited_is o) s le

  pub form_within : (s : List Token) (f : ReadFault) → reading productions (form_of o) s ≡ Err f → f.left ≤ length s
  form_within s f e = windows.fault_within expression_limit (λ _. ExprTooLong)
      (Derives (Derived productions) (form_of o)) (reading productions (form_of o)) form_sound
      (reading productions (limited_form o)) (limited_is o) s f e

  -- the rest of a window, with the tokens after the window
  pub rest_is : (w v : List Token) (t : ExprWithSpot) (rest : List Token)
      → reading productions (form_of o) w ≡ Ok (t, rest) → drop (length w - length rest) (w ++ v) ≡ rest ++ v
  rest_is w v t rest e = windows.rest_is expression_limit (λ _. ExprTooLong)
      (Derives (Derived productions) (form_of o)) (reading productions (form_of o)) form_sound
      (reading productions (limited_form o)) (limited_is o) w v t rest e

  -- the window and the tokens after it, as the code splits them
  module _ (s w v : List Token) (limit : ℕ) (is_limit : limit ≡ expression_limit.at s)
      (front : w ≡ take (limit + 1) s) (back : v ≡ drop (limit + 1) s) (long : limit < length s) where
    -- an expression that ends inside the window, and the tokens after it
    pub slice : (t : ExprWithSpot) (rest : List Token) → reading productions (form_of o) w ≡ Ok (t, rest) → false ≡ (length rest == 0)
        → reading productions (limited_form o) s ≡ Ok (t, take (length s - (length w - length rest)) (drop (length w - length rest) s))
    slice t rest e some = windows.slice expression_limit (λ _. ExprTooLong)
        (Derives (Derived productions) (form_of o)) (reading productions (form_of o)) form_sound
        (reading productions (limited_form o)) (limited_is o) s w v limit is_limit front back long t rest e some

    pub fault : (f : ReadFault) → 0 < f.left → reading productions (form_of o) w ≡ Err f
        → reading productions (limited_form o) s ≡ Err (fault_from_end (f.left + length v) f.code)
    fault f some e = windows.fault expression_limit (λ _. ExprTooLong) (Derives (Derived productions) (form_of o))
        (reading productions (form_of o)) form_sound (reading productions (limited_form o)) (limited_is o) s w v
        limit is_limit front back long f some e

    pub cut : ((t : ExprWithSpot) (rest : List Token) → 0 < length rest
        → reading productions (form_of o) w ≡ Ok (t, rest) → ⊥)
        → ((n : ReadFault) → 0 < n.left → reading productions (form_of o) w ≡ Err n → ⊥)
        → reading productions (limited_form o) s ≡ Err (fault_from_end (length s - limit) ExprTooLong)
    cut a b = windows.cut expression_limit (λ _. ExprTooLong) (Derives (Derived productions) (form_of o))
        (reading productions (form_of o)) form_sound (reading productions (limited_form o)) (limited_is o) s w v
        limit is_limit front back long a b
