-- A resolved expression is closed, if what its names mean is closed.
use Rattle.std.proofs.Common.{◌≡◌, ℕ, ◌<◌, true, Ok, Err, refl, ap}
use Rattle.std.specs.Prelude.{◌&&◌, nat_lt}
use Rattle.std.proofs.lemmas.Bool.{lt-ltb, and_from}
use Rattle.jdf_lex.specs.declared.fault.JdfFault.{JdfFault}
use Rattle.term_core.specs.Term.{Term}
use Rattle.term_core.specs.Term as term
use Rattle.term_core.specs.Value.{is_closed_with}
use Rattle.jdf_tree.specs.declared.expression.Word.{Word}
use Rattle.jdf_tree.specs.Expression.{Expression, Num, Name, Elem, Unary, Binary, Choose}
use Rattle.expr_names.specs.Symbols.{Resolved, SymbolTable}
use Rattle.expr_names.specs.Meanings.{value_of}
use Rattle.expr_names.specs.Expressions.{together, term_of}
use Rattle.list_lemmas.proofs.Options.{same_Ok, steps_of}

-- two parts that both resolve
together_ok : {A B : Type 0} (reported : JdfFault → JdfFault → JdfFault) (r : Resolved A) (q : Resolved B)
    (z : A × B) → together reported r q ≡ Ok z → (r ≡ Ok z.0) × (q ≡ Ok z.1)
together_ok reported (Ok x) (Ok y) z e = let same = same_Ok (x, y) z e in (ap (λ w. Ok w.0) same, ap (λ w. Ok w.1) same)
together_ok reported (Ok x) (Err g) z e = absurd cc
together_ok reported (Err f) (Ok y) z e = absurd cc
together_ok reported (Err f) (Err g) z e = absurd cc

module _ (names : SymbolTable) (locals flows : ℕ)
    (values : (w : Word) (t : Term) → value_of w (names.meaning w.text) ≡ Ok t → is_closed_with locals flows t ≡ true)
    (below : (w : Word) (n : ℕ) → names.flow w ≡ Ok n → n < flows) where
  pub term_closed : (e : Expression) (t : Term) → term_of names e ≡ Ok t → is_closed_with locals flows t ≡ true
  term_closed (Num z spot) t e = rw (← (same_Ok (term.Num z) t e)) refl
  term_closed (Name w) t e = values w t e
  term_closed (Elem w at) t e =
      let p = steps_of (together names.reported (names.flow w) (term_of names at)) (λ x. Ok (term.Elem x.0 x.1)) t e in
      let q = together_ok names.reported (names.flow w) (term_of names at) p.0 p.1 in
      rw (← (same_Ok (term.Elem p.0.0 p.0.1) t p.2))
      (and_from (nat_lt p.0.0 flows) (is_closed_with locals flows p.0.1)
      (lt-ltb p.0.0 flows (below w p.0.0 q.0)) (term_closed at p.0.1 q.1))
  term_closed (Unary o x spot) t e =
      let a = steps_of (term_of names x) (λ y. Ok (term.Unary o y)) t e in
      rw (← (same_Ok (term.Unary o a.0) t a.2)) (term_closed x a.0 a.1)
  term_closed (Binary o x y) t e =
      let p = steps_of (together names.reported (term_of names x) (term_of names y)) (λ z. Ok (term.Binary o z.0 z.1)) t e in
      let q = together_ok names.reported (term_of names x) (term_of names y) p.0 p.1 in
      rw (← (same_Ok (term.Binary o p.0.0 p.0.1) t p.2))
      (and_from (is_closed_with locals flows p.0.0) (is_closed_with locals flows p.0.1)
      (term_closed x p.0.0 q.0) (term_closed y p.0.1 q.1))
  term_closed (Choose c x y) t e =
      let p = steps_of (together names.reported (term_of names c)
      (together names.reported (term_of names x) (term_of names y))) (λ z. Ok (term.Choose z.0 z.1.0 z.1.1)) t
      e in
      let q = together_ok names.reported (term_of names c) (together names.reported (term_of names x) (term_of names y)) p.0 p.1 in
      let r = together_ok names.reported (term_of names x) (term_of names y) p.0.1 q.1 in
      rw (← (same_Ok (term.Choose p.0.0 p.0.1.0 p.0.1.1) t p.2))
      (and_from (is_closed_with locals flows p.0.0 && is_closed_with locals flows p.0.1.0) (is_closed_with locals flows p.0.1.1)
      (and_from (is_closed_with locals flows p.0.0) (is_closed_with locals flows p.0.1.0) (term_closed c p.0.0 q.0)
      (term_closed x p.0.1.0 r.0)) (term_closed y p.0.1.1 r.1))
