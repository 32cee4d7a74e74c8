-- A code for expressions: equal codes belong to equal trees.
use Rattle.std.specs.Prelude.{◌≡◌, ℕ, List, [], ◌∷◌, refl}
use Rattle.std.proofs.Common.{ap, sym, ◌∙◌, zero, suc, get_or}
use Rattle.std.specs.Coded.{Coded, coded_ℤ}
use base.Stored.{Gv, gnum, gcons}
use Rattle.term_core.specs.Term.{Term, Num, Local, Elem, Unary, Binary, Choose}
use Rattle.term_core.specs.declared.operator.UnOp.{UnOp}
use Rattle.term_core.specs.declared.operator.UnOp.TheVariants.{Neg, Not}
use Rattle.term_core.specs.declared.operator.BinOp.{BinOp}
use Rattle.term_core.specs.declared.operator.BinOp.TheVariants.{Add, Sub, Mul, Div, Rem, Eq, Ne, Lt, Le, Gt, Ge, And, Or}

-- the number of a prefix operator
pub unary_number : UnOp → ℕ
unary_number Neg = 0
unary_number Not = 1

-- the prefix operator of a number
unary_of : ℕ → UnOp
unary_of zero = Neg
unary_of (suc n) = Not

unary-back : (o : UnOp) → unary_of (unary_number o) ≡ o
unfolding unary_of unary_number
unary-back Neg = refl
unary-back Not = refl

-- the number of an infix operator
pub binary_number : BinOp → ℕ
binary_number Add = 0
binary_number Sub = 1
binary_number Mul = 2
binary_number Div = 3
binary_number Rem = 4
binary_number Eq = 5
binary_number Ne = 6
binary_number Lt = 7
binary_number Le = 8
binary_number Gt = 9
binary_number Ge = 10
binary_number And = 11
binary_number Or = 12

-- the infix operators by number
operators : List BinOp
operators = Add ∷ Sub ∷ Mul ∷ Div ∷ Rem ∷ Eq ∷ Ne ∷ Lt ∷ Le ∷ Gt ∷ Ge ∷ And ∷ Or ∷ []

binary-back : (o : BinOp) → get_or operators (binary_number o) Add ≡ o
unfolding operators binary_number
binary-back Add = refl
binary-back Sub = refl
binary-back Mul = refl
binary-back Div = refl
binary-back Rem = refl
binary-back Eq = refl
binary-back Ne = refl
binary-back Lt = refl
binary-back Le = refl
binary-back Gt = refl
binary-back Ge = refl
binary-back And = refl
binary-back Or = refl

-- a term as a tree of numbers
pub ghost_of : Term → Gv
ghost_of (Num z) = gcons (gnum 0) (coded_ℤ.code z)
ghost_of (Local n) = gcons (gnum 1) (gnum n)
ghost_of (Elem n a) = gcons (gnum 2) (gcons (gnum n) (ghost_of a))
ghost_of (Unary o a) = gcons (gnum 3) (gcons (gnum (unary_number o)) (ghost_of a))
ghost_of (Binary o a b) = gcons (gnum 4) (gcons (gnum (binary_number o)) (gcons (ghost_of a) (ghost_of b)))
ghost_of (Choose a b c) = gcons (gnum 5) (gcons (ghost_of a) (gcons (ghost_of b) (ghost_of c)))

-- prefix operators with one number are equal
pub one_unary : (o p : UnOp) → unary_number o ≡ unary_number p → o ≡ p
one_unary o p e = sym (unary-back o) ∙ ap unary_of e ∙ unary-back p

-- infix operators with one number are equal
pub one_binary : (o p : BinOp) → binary_number o ≡ binary_number p → o ≡ p
one_binary o p e = sym (binary-back o) ∙ ap (λ (n : ℕ). get_or operators n Add) e ∙ binary-back p

-- terms with one code are equal
pub one_term : (x y : Term) → ghost_of x ≡ ghost_of y → x ≡ y
unfolding ghost_of
one_term (Num a) (Num b) e = ap Num (coded_ℤ.inj a b cc)
one_term (Num a) (Local b) e = absurd cc
one_term (Num a) (Elem b c) e = absurd cc
one_term (Num a) (Unary b c) e = absurd cc
one_term (Num a) (Binary b c d) e = absurd cc
one_term (Num a) (Choose b c d) e = absurd cc
one_term (Local a) (Num b) e = absurd cc
one_term (Local a) (Local b) e = ap Local cc
one_term (Local a) (Elem b c) e = absurd cc
one_term (Local a) (Unary b c) e = absurd cc
one_term (Local a) (Binary b c d) e = absurd cc
one_term (Local a) (Choose b c d) e = absurd cc
one_term (Elem m a) (Num b) e = absurd cc
one_term (Elem m a) (Local b) e = absurd cc
one_term (Elem m a) (Elem n b) e = let h : a ≡ b = one_term a b cc in let k : m ≡ n = cc in cc
one_term (Elem m a) (Unary b c) e = absurd cc
one_term (Elem m a) (Binary b c d) e = absurd cc
one_term (Elem m a) (Choose b c d) e = absurd cc
one_term (Unary o a) (Num b) e = absurd cc
one_term (Unary o a) (Local b) e = absurd cc
one_term (Unary o a) (Elem n b) e = absurd cc
one_term (Unary o a) (Unary p b) e = let h : a ≡ b = one_term a b cc in let k : o ≡ p = one_unary o p cc in cc
one_term (Unary o a) (Binary b c d) e = absurd cc
one_term (Unary o a) (Choose b c d) e = absurd cc
one_term (Binary o a b) (Num c) e = absurd cc
one_term (Binary o a b) (Local c) e = absurd cc
one_term (Binary o a b) (Elem n c) e = absurd cc
one_term (Binary o a b) (Unary p c) e = absurd cc
one_term (Binary o a b) (Binary p c d) e =
    let h : a ≡ c = one_term a c cc in
    let i : b ≡ d = one_term b d cc in
    let k : o ≡ p = one_binary o p cc in cc
one_term (Binary o a b) (Choose c d f) e = absurd cc
one_term (Choose a b c) (Num d) e = absurd cc
one_term (Choose a b c) (Local d) e = absurd cc
one_term (Choose a b c) (Elem n d) e = absurd cc
one_term (Choose a b c) (Unary o d) e = absurd cc
one_term (Choose a b c) (Binary o d f) e = absurd cc
one_term (Choose a b c) (Choose d f g) e =
    let h : a ≡ d = one_term a d cc in
    let i : b ≡ f = one_term b f cc in
    let j : c ≡ g = one_term c g cc in cc

-- the code of a term, with the proof that it is injective
abbrev pub term_code : Coded Term
term_code = record { code = ghost_of; inj = one_term }
