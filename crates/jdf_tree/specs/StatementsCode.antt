-- An injective code of statements as trees of numbers, which the model of a block needs. The proof is in specs/ because
-- the model includes it.
use Rattle.std.specs.Prelude.{◌≡◌, refl}
use Rattle.std.specs.Coded.{Coded}
use base.Stored.{Gv, gnum, gcons}
use Rattle.jdf_tree.specs.ExpressionCode.{word_code, ghost_of, one_expression}
use Rattle.jdf_tree.specs.Statements.{Statements, Done, DeclareThen, SetThen, PutThen, IfThen, ForThen, TrapThen}

-- the code of statements
pub ghost_of_statements : Statements → Gv
ghost_of_statements Done = gnum 0
ghost_of_statements (DeclareThen a b c) =
    gcons (gnum 1) (gcons (word_code.code a) (gcons (ghost_of b) (ghost_of_statements c)))
ghost_of_statements (SetThen a b c) =
    gcons (gnum 2) (gcons (word_code.code a) (gcons (ghost_of b) (ghost_of_statements c)))
ghost_of_statements (PutThen a b c d) =
    gcons (gnum 3) (gcons (word_code.code a) (gcons (ghost_of b) (gcons (ghost_of c) (ghost_of_statements d))))
ghost_of_statements (IfThen a b c d) =
    gcons (gnum 4)
    (gcons (ghost_of a) (gcons (ghost_of_statements b) (gcons (ghost_of_statements c) (ghost_of_statements d))))
ghost_of_statements (ForThen a b c d e) =
    gcons (gnum 5)
    (gcons (word_code.code a)
    (gcons (ghost_of b) (gcons (ghost_of c) (gcons (ghost_of_statements d) (ghost_of_statements e)))))
ghost_of_statements (TrapThen a b) = gcons (gnum 6) (gcons (word_code.code a) (ghost_of_statements b))

-- statements with one code are equal
pub one_statements : (x y : Statements) → ghost_of_statements x ≡ ghost_of_statements y → x ≡ y
unfolding ghost_of_statements
one_statements Done Done same = refl
one_statements Done (DeclareThen a' b' c') same = absurd cc
one_statements Done (SetThen a' b' c') same = absurd cc
one_statements Done (PutThen a' b' c' d') same = absurd cc
one_statements Done (IfThen a' b' c' d') same = absurd cc
one_statements Done (ForThen a' b' c' d' e') same = absurd cc
one_statements Done (TrapThen a' b') same = absurd cc
one_statements (DeclareThen a b c) Done same = absurd cc
one_statements (DeclareThen a b c) (DeclareThen a' b' c') same =
    let ha : a ≡ a' = word_code.inj a a' cc in
    let hb : b ≡ b' = one_expression b b' cc in
    let hc : c ≡ c' = one_statements c c' cc in cc
one_statements (DeclareThen a b c) (SetThen a' b' c') same = absurd cc
one_statements (DeclareThen a b c) (PutThen a' b' c' d') same = absurd cc
one_statements (DeclareThen a b c) (IfThen a' b' c' d') same = absurd cc
one_statements (DeclareThen a b c) (ForThen a' b' c' d' e') same = absurd cc
one_statements (DeclareThen a b c) (TrapThen a' b') same = absurd cc
one_statements (SetThen a b c) Done same = absurd cc
one_statements (SetThen a b c) (DeclareThen a' b' c') same = absurd cc
one_statements (SetThen a b c) (SetThen a' b' c') same =
    let ha : a ≡ a' = word_code.inj a a' cc in
    let hb : b ≡ b' = one_expression b b' cc in
    let hc : c ≡ c' = one_statements c c' cc in cc
one_statements (SetThen a b c) (PutThen a' b' c' d') same = absurd cc
one_statements (SetThen a b c) (IfThen a' b' c' d') same = absurd cc
one_statements (SetThen a b c) (ForThen a' b' c' d' e') same = absurd cc
one_statements (SetThen a b c) (TrapThen a' b') same = absurd cc
one_statements (PutThen a b c d) Done same = absurd cc
one_statements (PutThen a b c d) (DeclareThen a' b' c') same = absurd cc
one_statements (PutThen a b c d) (SetThen a' b' c') same = absurd cc
one_statements (PutThen a b c d) (PutThen a' b' c' d') same =
    let ha : a ≡ a' = word_code.inj a a' cc in
    let hb : b ≡ b' = one_expression b b' cc in
    let hc : c ≡ c' = one_expression c c' cc in
    let hd : d ≡ d' = one_statements d d' cc in cc
one_statements (PutThen a b c d) (IfThen a' b' c' d') same = absurd cc
one_statements (PutThen a b c d) (ForThen a' b' c' d' e') same = absurd cc
one_statements (PutThen a b c d) (TrapThen a' b') same = absurd cc
one_statements (IfThen a b c d) Done same = absurd cc
one_statements (IfThen a b c d) (DeclareThen a' b' c') same = absurd cc
one_statements (IfThen a b c d) (SetThen a' b' c') same = absurd cc
one_statements (IfThen a b c d) (PutThen a' b' c' d') same = absurd cc
one_statements (IfThen a b c d) (IfThen a' b' c' d') same =
    let ha : a ≡ a' = one_expression a a' cc in
    let hb : b ≡ b' = one_statements b b' cc in
    let hc : c ≡ c' = one_statements c c' cc in
    let hd : d ≡ d' = one_statements d d' cc in cc
one_statements (IfThen a b c d) (ForThen a' b' c' d' e') same = absurd cc
one_statements (IfThen a b c d) (TrapThen a' b') same = absurd cc
one_statements (ForThen a b c d e) Done same = absurd cc
one_statements (ForThen a b c d e) (DeclareThen a' b' c') same = absurd cc
one_statements (ForThen a b c d e) (SetThen a' b' c') same = absurd cc
one_statements (ForThen a b c d e) (PutThen a' b' c' d') same = absurd cc
one_statements (ForThen a b c d e) (IfThen a' b' c' d') same = absurd cc
one_statements (ForThen a b c d e) (ForThen a' b' c' d' e') same =
    let ha : a ≡ a' = word_code.inj a a' cc in
    let hb : b ≡ b' = one_expression b b' cc in
    let hc : c ≡ c' = one_expression c c' cc in
    let hd : d ≡ d' = one_statements d d' cc in
    let he : e ≡ e' = one_statements e e' cc in cc
one_statements (ForThen a b c d e) (TrapThen a' b') same = absurd cc
one_statements (TrapThen a b) Done same = absurd cc
one_statements (TrapThen a b) (DeclareThen a' b' c') same = absurd cc
one_statements (TrapThen a b) (SetThen a' b' c') same = absurd cc
one_statements (TrapThen a b) (PutThen a' b' c' d') same = absurd cc
one_statements (TrapThen a b) (IfThen a' b' c' d') same = absurd cc
one_statements (TrapThen a b) (ForThen a' b' c' d' e') same = absurd cc
one_statements (TrapThen a b) (TrapThen a' b') same =
    let ha : a ≡ a' = word_code.inj a a' cc in
    let hb : b ≡ b' = one_statements b b' cc in cc

-- the code of statements, with the proof that it is injective
abbrev pub statements_code : Coded Statements
statements_code = record { code = ghost_of_statements; inj = one_statements }
