-- Reading operands and operators as the code's loop does, and which production the next token selects.
use Rattle.std.proofs.Common.{◌≡◌, ℕ, zero, suc, ◌<◌, ◌≤◌, Bool, true, false, cond, List, [], ◌∷◌, length, Ok, Err, refl, sym, ap, ◌∙◌, subst, Result}
use Rattle.grammar_core.specs.declared.fault.ReadFault.{ReadFault}
use Rattle.grammar_core.specs.declared.token.Spot.{Spot}
use Rattle.grammar_core.specs.declared.token.Token.{Token}
use Rattle.term_core.specs.declared.operator.BinOp.{BinOp}
use Rattle.jdf_lex.specs.declared.terminal.Terminal.{Terminal}
use Rattle.jdf_lex.specs.declared.terminal.Terminal.TheVariants as terminal
use Rattle.jdf_lex.specs.Terminals.{is, set}
use Rattle.grammar_core.specs.Production.{Production, seq, map, star}
use Rattle.jdf_lex.specs.Sets.{one_of, starts, token_at}
use Rattle.grammar_core.specs.Reading.{◌>>=◌, Read, many_at, nonterminal_at, reading}
use Rattle.ptg_base.specs.declared.refusal.Refusal.TheVariants as errors
use Rattle.ptg_base.specs.Returns.{ReturnsRefusal}
use Rattle.grammar_core.specs.Refusing.{ReadRefusal}
use Rattle.grammar_core.proofs.CallerLemmas.{applied, fails_before, many_is, nonterminal_shrinks, pair_with, regroup, run_shrinks}
use Rattle.grammar_core.proofs.CallerLemmas as loops
use Rattle.jdf_tree.specs.declared.part.Part.{Part}
use Rattle.jdf_tree.specs.declared.part.Part.TheVariants.{Class, Body}
use Rattle.jdf_tree.specs.declared.expression.ExprWithSpot.{ExprWithSpot}
use Rattle.jdf_tree.specs.Expression.{Expression, Name, Elem, Binary, Choose}
use Rattle.jdf_tree.specs.Nonterminal.{Nonterminal, TreeOf}
use Rattle.jdf_tree.specs.GrammarParts.{any, names, name}
use Rattle.jdf_tree.specs.ExpressionGrammar.{with_spot, number, parens, index, reference, signed, unary, product, sum, relation, equality}
use Rattle.jdf_tree.specs.ExpressionGrammar.{conjunction, disjunction, branches, expr, is_sign, grouped, named, chosen, operator_of}
use Rattle.jdf_tree.specs.Grammar.{productions}
use Rattle.expr_read.specs.declared.precedence.Precedence.{Precedence}
use Rattle.expr_read.specs.declared.precedence.Precedence.TheVariants as precedence
use Rattle.expr_read.specs.Precedences.{operators_of, operand_of, of_precedence}

-- reading leaves no more tokens than there were
pub reading_shrinks : {A : Type 0} (g : Production Nonterminal TreeOf A) (s : List Token) (t : A) (r : List Token)
    → reading productions g s ≡ Ok (t, r) → length r ≤ length s
reading_shrinks g s t r e = loops.reading_shrinks productions g s t r e

pub token_shrinks : (q : Terminal → Bool) (s : List Token) (t : Token) (r : List Token) → token_at q s ≡ Ok (t, r) → length r < length s
token_shrinks q s t r e = (run_shrinks {N = Nonterminal} {Tree = TreeOf} (nonterminal_at productions)
    (nonterminal_shrinks productions) (one_of q) s (t, r) e).1 refl

pub operator_shrinks : (q : Terminal → Bool) (s : List Token) (t : BinOp) (r : List Token)
    → reading productions (map operator_of (one_of q)) s ≡ Ok (t, r) → length r < length s
operator_shrinks q s t r e = (run_shrinks {N = Nonterminal} {Tree = TreeOf} (nonterminal_at productions)
    (nonterminal_shrinks productions) (map operator_of (one_of q)) s (t, r) e).1 refl

-- ---- operators

abbrev operation : Precedence → Part → Production Nonterminal TreeOf (BinOp × ExprWithSpot)
operation precedence part = seq (map operator_of (one_of (operators_of precedence))) (operand_of precedence part)

-- the operators from here on, with their operands
unfoldable pub tail : Part → Precedence → List Token → Read (List (BinOp × ExprWithSpot))
tail part precedence s = reading productions (star any (operation precedence part)) s

unfoldable pub joined : Spot → Expression → Read (List (BinOp × ExprWithSpot)) → Read ExprWithSpot
joined spot left read = read >>= λ xs. Ok (with_spot spot (grouped left xs.0), xs.1)

pub operands_are : (part : Part) (precedence : Precedence) (s : List Token)
    → reading productions (of_precedence precedence part) s
    ≡ (reading productions (operand_of precedence part) s >>= λ a. joined a.0.spot a.0.tree
    (tail part precedence a.1))
unfolding product sum relation equality conjunction disjunction tail joined
operands_are part precedence.Product s = regroup (reading productions (unary part) s) (tail part precedence.Product)
    (λ x. with_spot x.0.spot (grouped x.0.tree x.1))
operands_are part precedence.Sum s = regroup (reading productions (product part) s) (tail part precedence.Sum) (λ x. with_spot x.0.spot (grouped x.0.tree x.1))
operands_are part precedence.Relation s =
    regroup (reading productions (sum part) s) (tail part precedence.Relation)
    (λ x. with_spot x.0.spot (grouped x.0.tree x.1))
operands_are part precedence.Equality s =
    regroup (reading productions (relation part) s) (tail part precedence.Equality)
    (λ x. with_spot x.0.spot (grouped x.0.tree x.1))
operands_are part precedence.Conjunction s =
    regroup (reading productions (equality part) s) (tail part precedence.Conjunction)
    (λ x. with_spot x.0.spot (grouped x.0.tree x.1))
operands_are part precedence.Disjunction s =
    regroup (reading productions (conjunction part) s) (tail part precedence.Disjunction)
    (λ x. with_spot x.0.spot (grouped x.0.tree x.1))

-- if no element is too many, the index of the first one does not matter
any_index : {A : Type 0} (q : Terminal → Bool) (p : List Token → Read A) (n i j : ℕ) (s : List Token)
    → many_at any (set q) p i n s ≡ many_at any (set q) p j n s
unfolding many_at
any_index q p zero i j s = refl
any_index {A} q p (suc n) i j s = ap (λ (r : Read (List A)). cond (starts q s) r (Ok ([], s))) (go (λ t. any_index q p n (suc i) (suc j) t) (p s))
  where
    go : ((t : List Token) → many_at any (set q) p (suc i) n t ≡ many_at any (set q) p (suc j) n t) → (r : Read A)
        → (r >>= λ a. many_at any (set q) p (suc i) n a.1 >>= applied (λ (l : List A). a.0 ∷ l))
        ≡ (r >>= λ a. many_at any (set q) p (suc j) n a.1 >>= applied (λ (l : List A). a.0 ∷ l))
    go same (Ok a) = ap (λ (m : Read (List A)). m >>= applied (λ (l : List A). a.0 ∷ l)) (same a.1)
    go same (Err e) = refl

tail_is : (part : Part) (precedence : Precedence) (s : List Token)
    → tail part precedence s ≡ cond (starts (operators_of precedence) s)
    (reading productions (operation precedence part) s >>= λ a. tail part precedence a.1 >>= applied
    (λ (more : List (BinOp × ExprWithSpot)). a.0 ∷ more)) (Ok ([], s))
unfolding tail
tail_is part precedence s =
    many_is any (set (operators_of precedence)) (reading productions (operation precedence part))
    (λ s' x e. (run_shrinks (nonterminal_at productions) (nonterminal_shrinks productions)
    (operation precedence part) s' x e).1 refl) 0 s
    ∙ ap (λ (r : Read (List (BinOp × ExprWithSpot))). cond (starts (operators_of precedence) s) r (Ok ([], s)))
    (go (reading productions (operation precedence part) s))
  where
    go : (r : Read (BinOp × ExprWithSpot))
        → (r >>= λ a. many_at any (set (operators_of precedence)) (reading productions (operation precedence part))
        1 (length a.1) a.1 >>= applied (λ (l : List (BinOp × ExprWithSpot)). a.0 ∷ l))
        ≡ (r >>= λ a. many_at any (set (operators_of precedence)) (reading productions (operation precedence part))
        0 (length a.1) a.1 >>= applied (λ (l : List (BinOp × ExprWithSpot)). a.0 ∷ l))
    go (Ok a) = ap (λ (m : Read (List (BinOp × ExprWithSpot))). m >>= applied
        (λ (l : List (BinOp × ExprWithSpot)). a.0 ∷ l))
        (any_index (operators_of precedence) (reading productions (operation precedence part)) (length a.1) 1 0 a.1)
    go (Err e) = refl

pub tail_ends : (part : Part) (precedence : Precedence) (spot : Spot) (left : Expression) (s : List Token)
    → starts (operators_of precedence) s ≡ false
    → joined spot left (tail part precedence s) ≡ Ok (with_spot spot left, s)
unfolding joined
tail_ends part precedence spot left s e = ap (λ (r : Read (List (BinOp × ExprWithSpot))). joined spot left r) (tail_is part precedence s) ∙ rw e refl

pub tail_goes_on : (part : Part) (precedence : Precedence) (spot : Spot) (left : Expression) (s : List Token)
    (o : BinOp) (after : List Token) → starts (operators_of precedence) s ≡ true
    → reading productions (map operator_of (one_of (operators_of precedence))) s ≡ Ok (o, after)
    → joined spot left (tail part precedence s)
    ≡ (reading productions (operand_of precedence part) after >>= λ b. joined spot (Binary o left b.0.tree)
    (tail part precedence b.1))
unfolding joined
tail_goes_on part precedence spot left s o after t e =
    ap (λ (r : Read (List (BinOp × ExprWithSpot))). joined spot left r) (tail_is part precedence s)
    ∙ rw (t, e) (go (reading productions (operand_of precedence part) after))
  where
    go : (r : Read ExprWithSpot) → joined spot left
        ((r >>= pair_with o) >>= λ a. tail part precedence a.1 >>= applied (λ more. a.0 ∷ more))
        ≡ (r >>= λ b. joined spot (Binary o left b.0.tree) (tail part precedence b.1))
    go (Err e) = refl
    go (Ok b) = inner_go (tail part precedence b.1)
      where
        inner_go : (r : Read (List (BinOp × ExprWithSpot)))
            → joined spot left (r >>= applied (λ more. (o, b.0) ∷ more)) ≡ joined spot (Binary o left b.0.tree) r
        inner_go (Ok x) = refl
        inner_go (Err e) = refl

-- the loop goes on, and the loop fails
pub loop_goes_on : (part : Part) (precedence : Precedence) (spot : Spot) (left : Expression) (s : List Token)
    (o : BinOp) (after : List Token) (right : ExprWithSpot) (next : List Token) (total : Read ExprWithSpot)
    → (starts (operators_of precedence) s ≡ true)
    × (reading productions (map operator_of (one_of (operators_of precedence))) s ≡ Ok (o, after))
    → reading productions (operand_of precedence part) after ≡ Ok (right, next)
    → joined spot left (tail part precedence s) ≡ total
    → joined spot (Binary o left right.tree) (tail part precedence next) ≡ total
loop_goes_on part precedence spot left s o after right next total t e so_far =
    sym (tail_goes_on part precedence spot left s o after t.0 t.1 ∙ rw e refl) ∙ so_far

pub loop_fails : (e : ReadRefusal) (part : Part) (precedence : Precedence) (spot : Spot) (left : Expression)
    (s : List Token) (o : BinOp) (after : List Token) (total : Read ExprWithSpot)
    → (starts (operators_of precedence) s ≡ true)
    × (reading productions (map operator_of (one_of (operators_of precedence))) s ≡ Ok (o, after))
    → ReturnsRefusal e (reading productions (operand_of precedence part) after) → joined spot left (tail part precedence s) ≡ total → ReturnsRefusal e total
loop_fails e part precedence spot left s o after total t h so_far =
    subst (λ (r : Read ExprWithSpot). ReturnsRefusal e r)
    (sym (tail_goes_on part precedence spot left s o after t.0 t.1) ∙ so_far)
    (fails_before e (reading productions (operand_of precedence part) after)
    (λ b. joined spot (Binary o left b.0.tree) (tail part precedence b.1)) h)

-- ---- tests of first sets

pub unary_reads : (part : Part) (s : List Token)
    → reading productions (unary part) s ≡ cond (starts is_sign s) (reading productions (signed part) s)
    (cond (starts (is terminal.Number) s) (reading productions number s)
    (cond (starts (names part) s) (reading productions (reference part) s) (reading productions (parens part) s)))
unfolding unary signed number reference
unary_reads Class s = refl
unary_reads Body s = refl

pub element_reads : (s : List Token) → reading productions (reference Body) s
    ≡ (reading productions (name Body) s >>= λ a. cond (starts (is terminal.LeftBracket) a.1)
    (reading productions index a.1 >>= applied (λ (i : ExprWithSpot). with_spot a.0.spot (Elem a.0 i.tree)))
    (Ok (with_spot a.0.spot (Name a.0), a.1)))
unfolding reference index
element_reads s = loops.followed_reads productions (name Body) index named s

pub expr_reads : (part : Part) (s : List Token)
    → reading productions (expr part) s ≡
    (reading productions (disjunction part) s >>= λ a. cond (starts (is terminal.Question) a.1)
    (reading productions (branches part) a.1 >>= applied
    (λ (x : ExprWithSpot × ExprWithSpot). with_spot a.0.spot (Choose a.0.tree x.0.tree x.1.tree))) (Ok (a.0, a.1)))
unfolding expr branches
expr_reads part s = loops.followed_reads productions (disjunction part) (branches part) chosen s

-- ---- refusals

-- if a part fails, the whole fails with the same fault
pub fails_with : {A B : Type 0} (e : ReadRefusal) (part : Result A ReadFault) (whole : Result B ReadFault)
    → ReturnsRefusal e part → ((d : ReadFault) → part ≡ Err d → whole ≡ Err d) → ReturnsRefusal e whole
fails_with errors.OutOfMemory part whole f same = tt
fails_with (errors.Fault x) part whole f same = same x f
