-- An injective code of expressions as trees of numbers, which the model of an expression needs. The proof is in specs/
-- because the model includes it.
use Rattle.std.specs.Prelude.{◌≡◌, ℕ, List, refl}
use Rattle.std.specs.Coded.{Coded, code_by, coded×, coded_list, coded_ℕ, coded_ℤ}
use base.Stored.{Gv, gnum, gcons}
use Rattle.grammar_core.specs.declared.token.Spot.{Spot}
use Rattle.jdf_tree.specs.declared.expression.Word.{Word}
use Rattle.jdf_tree.specs.Expression.{Expression, Num, Name, Elem, Unary, Binary, Choose}
use Rattle.term_core.specs.TermCode.{unary_number, one_unary, binary_number, one_binary}

-- the code of a spot
spot_code : Coded Spot
spot_code =
    code_by (ℕ × ℕ) (coded× coded_ℕ coded_ℕ) (λ s. (s.line, s.column))
    (λ (line, column). record { line = line; column = column }) (λ _.
    refl)

-- the code of a name with its spot
pub word_code : Coded Word
word_code =
    code_by (List ℕ × Spot) (coded× (coded_list coded_ℕ) spot_code) (λ w. (w.text, w.spot))
    (λ (text, spot). record { text = text; spot = spot }) (λ _. refl)

-- the code of an expression
pub ghost_of : Expression → Gv
ghost_of (Num z s) = gcons (gnum 0) (gcons (coded_ℤ.code z) (spot_code.code s))
ghost_of (Name w) = gcons (gnum 1) (word_code.code w)
ghost_of (Elem w a) = gcons (gnum 2) (gcons (word_code.code w) (ghost_of a))
ghost_of (Unary o a s) = gcons (gnum 3) (gcons (gnum (unary_number o)) (gcons (ghost_of a) (spot_code.code s)))
ghost_of (Binary o a b) = gcons (gnum 4) (gcons (gnum (binary_number o)) (gcons (ghost_of a) (ghost_of b)))
ghost_of (Choose a b c) = gcons (gnum 5) (gcons (ghost_of a) (gcons (ghost_of b) (ghost_of c)))

-- expressions with one code are equal
pub one_expression : (x y : Expression) → ghost_of x ≡ ghost_of y → x ≡ y
unfolding ghost_of
one_expression (Num x0 x1) (Num y0 y1) e =
    let h0 : x0 ≡ y0 = coded_ℤ.inj x0 y0 cc in
    let h1 : x1 ≡ y1 = spot_code.inj x1 y1 cc in cc
one_expression (Num x0 x1) (Name y0) e = absurd cc
one_expression (Num x0 x1) (Elem y0 y1) e = absurd cc
one_expression (Num x0 x1) (Unary y0 y1 y2) e = absurd cc
one_expression (Num x0 x1) (Binary y0 y1 y2) e = absurd cc
one_expression (Num x0 x1) (Choose y0 y1 y2) e = absurd cc
one_expression (Name x0) (Num y0 y1) e = absurd cc
one_expression (Name x0) (Name y0) e = let h0 : x0 ≡ y0 = word_code.inj x0 y0 cc in cc
one_expression (Name x0) (Elem y0 y1) e = absurd cc
one_expression (Name x0) (Unary y0 y1 y2) e = absurd cc
one_expression (Name x0) (Binary y0 y1 y2) e = absurd cc
one_expression (Name x0) (Choose y0 y1 y2) e = absurd cc
one_expression (Elem x0 x1) (Num y0 y1) e = absurd cc
one_expression (Elem x0 x1) (Name y0) e = absurd cc
one_expression (Elem x0 x1) (Elem y0 y1) e =
    let h1 : x1 ≡ y1 = one_expression x1 y1 cc in
    let h0 : x0 ≡ y0 = word_code.inj x0 y0 cc in cc
one_expression (Elem x0 x1) (Unary y0 y1 y2) e = absurd cc
one_expression (Elem x0 x1) (Binary y0 y1 y2) e = absurd cc
one_expression (Elem x0 x1) (Choose y0 y1 y2) e = absurd cc
one_expression (Unary x0 x1 x2) (Num y0 y1) e = absurd cc
one_expression (Unary x0 x1 x2) (Name y0) e = absurd cc
one_expression (Unary x0 x1 x2) (Elem y0 y1) e = absurd cc
one_expression (Unary x0 x1 x2) (Unary y0 y1 y2) e =
    let h1 : x1 ≡ y1 = one_expression x1 y1 cc in
    let h0 : x0 ≡ y0 = one_unary x0 y0 cc in
    let h2 : x2 ≡ y2 = spot_code.inj x2 y2 cc in cc
one_expression (Unary x0 x1 x2) (Binary y0 y1 y2) e = absurd cc
one_expression (Unary x0 x1 x2) (Choose y0 y1 y2) e = absurd cc
one_expression (Binary x0 x1 x2) (Num y0 y1) e = absurd cc
one_expression (Binary x0 x1 x2) (Name y0) e = absurd cc
one_expression (Binary x0 x1 x2) (Elem y0 y1) e = absurd cc
one_expression (Binary x0 x1 x2) (Unary y0 y1 y2) e = absurd cc
one_expression (Binary x0 x1 x2) (Binary y0 y1 y2) e =
    let h1 : x1 ≡ y1 = one_expression x1 y1 cc in
    let h2 : x2 ≡ y2 = one_expression x2 y2 cc in
    let h0 : x0 ≡ y0 = one_binary x0 y0 cc in cc
one_expression (Binary x0 x1 x2) (Choose y0 y1 y2) e = absurd cc
one_expression (Choose x0 x1 x2) (Num y0 y1) e = absurd cc
one_expression (Choose x0 x1 x2) (Name y0) e = absurd cc
one_expression (Choose x0 x1 x2) (Elem y0 y1) e = absurd cc
one_expression (Choose x0 x1 x2) (Unary y0 y1 y2) e = absurd cc
one_expression (Choose x0 x1 x2) (Binary y0 y1 y2) e = absurd cc
one_expression (Choose x0 x1 x2) (Choose y0 y1 y2) e =
    let h0 : x0 ≡ y0 = one_expression x0 y0 cc in
    let h1 : x1 ≡ y1 = one_expression x1 y1 cc in
    let h2 : x2 ≡ y2 = one_expression x2 y2 cc in cc

-- the code of an expression, with the proof that it is injective
abbrev pub expression_code : Coded Expression
expression_code = record { code = ghost_of; inj = one_expression }
