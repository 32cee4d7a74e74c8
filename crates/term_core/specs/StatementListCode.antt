-- A code for trees of statements: equal codes belong to equal trees.
use Rattle.std.specs.Prelude.{◌≡◌, refl}
use Rattle.std.specs.Coded.{Coded}
use base.Stored.{Gv, gnum, gcons}
use Rattle.term_core.specs.TermCode.{ghost_of, one_term}
use Rattle.term_core.specs.StatementList.{StatementList, Done, SetThen, PutThen, IfThen, ForThen, TrapThen}

-- the tree as a tree of numbers
pub code_of_statement_list : StatementList → Gv
code_of_statement_list Done = gnum 0
code_of_statement_list (SetThen a b c) = gcons (gnum 1) (gcons (gnum a) (gcons (ghost_of b) (code_of_statement_list c)))
code_of_statement_list (PutThen a b c d) =
    gcons (gnum 2) (gcons (gnum a) (gcons (ghost_of b) (gcons (ghost_of c) (code_of_statement_list d))))
code_of_statement_list (IfThen a b c d) =
    gcons (gnum 3)
    (gcons (ghost_of a)
    (gcons (code_of_statement_list b) (gcons (code_of_statement_list c) (code_of_statement_list d))))
code_of_statement_list (ForThen a b c d e) =
    gcons (gnum 4)
    (gcons (gnum a)
    (gcons (ghost_of b) (gcons (ghost_of c) (gcons (code_of_statement_list d) (code_of_statement_list e)))))
code_of_statement_list (TrapThen a b) = gcons (gnum 5) (gcons (gnum a) (code_of_statement_list b))

-- blocks with one code are equal
pub one_statement_list : (x y : StatementList) → code_of_statement_list x ≡ code_of_statement_list y → x ≡ y
unfolding code_of_statement_list
one_statement_list Done Done same = refl
one_statement_list Done (SetThen a' b' c') same = absurd cc
one_statement_list Done (PutThen a' b' c' d') same = absurd cc
one_statement_list Done (IfThen a' b' c' d') same = absurd cc
one_statement_list Done (ForThen a' b' c' d' e') same = absurd cc
one_statement_list Done (TrapThen a' b') same = absurd cc
one_statement_list (SetThen a b c) Done same = absurd cc
one_statement_list (SetThen a b c) (SetThen a' b' c') same =
    let ha : a ≡ a' = cc in
    let hb : b ≡ b' = one_term b b' cc in
    let hc : c ≡ c' = one_statement_list c c' cc in cc
one_statement_list (SetThen a b c) (PutThen a' b' c' d') same = absurd cc
one_statement_list (SetThen a b c) (IfThen a' b' c' d') same = absurd cc
one_statement_list (SetThen a b c) (ForThen a' b' c' d' e') same = absurd cc
one_statement_list (SetThen a b c) (TrapThen a' b') same = absurd cc
one_statement_list (PutThen a b c d) Done same = absurd cc
one_statement_list (PutThen a b c d) (SetThen a' b' c') same = absurd cc
one_statement_list (PutThen a b c d) (PutThen a' b' c' d') same =
    let ha : a ≡ a' = cc in
    let hb : b ≡ b' = one_term b b' cc in
    let hc : c ≡ c' = one_term c c' cc in
    let hd : d ≡ d' = one_statement_list d d' cc in cc
one_statement_list (PutThen a b c d) (IfThen a' b' c' d') same = absurd cc
one_statement_list (PutThen a b c d) (ForThen a' b' c' d' e') same = absurd cc
one_statement_list (PutThen a b c d) (TrapThen a' b') same = absurd cc
one_statement_list (IfThen a b c d) Done same = absurd cc
one_statement_list (IfThen a b c d) (SetThen a' b' c') same = absurd cc
one_statement_list (IfThen a b c d) (PutThen a' b' c' d') same = absurd cc
one_statement_list (IfThen a b c d) (IfThen a' b' c' d') same =
    let ha : a ≡ a' = one_term a a' cc in
    let hb : b ≡ b' = one_statement_list b b' cc in
    let hc : c ≡ c' = one_statement_list c c' cc in
    let hd : d ≡ d' = one_statement_list d d' cc in cc
one_statement_list (IfThen a b c d) (ForThen a' b' c' d' e') same = absurd cc
one_statement_list (IfThen a b c d) (TrapThen a' b') same = absurd cc
one_statement_list (ForThen a b c d e) Done same = absurd cc
one_statement_list (ForThen a b c d e) (SetThen a' b' c') same = absurd cc
one_statement_list (ForThen a b c d e) (PutThen a' b' c' d') same = absurd cc
one_statement_list (ForThen a b c d e) (IfThen a' b' c' d') same = absurd cc
one_statement_list (ForThen a b c d e) (ForThen a' b' c' d' e') same =
    let ha : a ≡ a' = cc in
    let hb : b ≡ b' = one_term b b' cc in
    let hc : c ≡ c' = one_term c c' cc in
    let hd : d ≡ d' = one_statement_list d d' cc in
    let he : e ≡ e' = one_statement_list e e' cc in cc
one_statement_list (ForThen a b c d e) (TrapThen a' b') same = absurd cc
one_statement_list (TrapThen a b) Done same = absurd cc
one_statement_list (TrapThen a b) (SetThen a' b' c') same = absurd cc
one_statement_list (TrapThen a b) (PutThen a' b' c' d') same = absurd cc
one_statement_list (TrapThen a b) (IfThen a' b' c' d') same = absurd cc
one_statement_list (TrapThen a b) (ForThen a' b' c' d' e') same = absurd cc
one_statement_list (TrapThen a b) (TrapThen a' b') same =
    let ha : a ≡ a' = cc in
    let hb : b ≡ b' = one_statement_list b b' cc in cc

-- the code of a block, with the proof that it is injective
abbrev pub statement_list_code : Coded StatementList
statement_list_code = record { code = code_of_statement_list; inj = one_statement_list }
