-- Parts of a statement, one after another; some may be left out.
use Rattle.std.proofs.Common.{◌≡◌, Bool, true, false, cond, List, Ok, Err, refl}
use Rattle.std.specs.Prelude.{Option, Some, None}
use Rattle.grammar_core.specs.declared.token.Token.{Token}
use Rattle.jdf_lex.specs.declared.terminal.Terminal.TheVariants as terminal
use Rattle.grammar_core.specs.Reading.{Read, ◌>>=◌, reading}
use Rattle.jdf_lex.specs.Sets.{starts, token_at}
use Rattle.jdf_lex.specs.Terminals.{is}
use Rattle.grammar_core.proofs.CallerLemmas.{applied, pair_with}
use Rattle.jdf_tree.specs.declared.expression.ExprWithSpot.{ExprWithSpot}
use Rattle.jdf_tree.specs.declared.body.StmtTree.TheVariants.{Set, Put, If}
use Rattle.jdf_tree.specs.declared.part.Part.TheVariants.{Body}
use Rattle.jdf_tree.specs.GrammarParts.{name}
use Rattle.jdf_tree.specs.Statements.{Statements, Done}
use Rattle.jdf_tree.specs.BodyGrammar.{value, element, assign_of, assignment, condition, block, otherwise, if_of, choice}
use Rattle.jdf_tree.specs.Grammar.{productions}

-- a part that may be left out
abbrev maybe_at : {B : Type 0} → Bool → Read B → List Token → Read (Option B)
maybe_at b r s = cond b (r >>= applied Some) (Ok (None, s))

-- a part, perhaps a second one, and a third
module _ {A B C D : Type 0} (f : A × (Option B × C) → D) (b : List Token → Bool) (q : List Token → Read B) (p : List Token → Read C) where
  last : (a : A) (o : Option B) (c : Read C) → ((c >>= pair_with o) >>= pair_with a >>= applied f) ≡ (c >>= applied (λ (z : C). f (a, (o, z))))
  last a o (Ok c) = refl
  last a o (Err e) = refl

  second : (a : A) (s : List Token) (t : Bool) (y : Read B) → ((maybe_at t y s >>= λ o. p o.1 >>= pair_with o.0) >>= pair_with a >>= applied f)
      ≡ cond t (y >>= λ i. p i.1 >>= applied (λ (z : C). f (a, (Some i.0, z)))) (p s >>= applied (λ (z : C). f (a, (None, z))))
  second a s true (Ok i) = last a (Some i.0) (p i.1)
  second a s true (Err e) = refl
  second a s false y = last a None (p s)

  pub perhaps_between : (r : Read A) → ((r >>= λ a. (maybe_at (b a.1) (q a.1) a.1 >>= λ o. p o.1 >>= pair_with o.0) >>= pair_with a.0) >>= applied f)
      ≡ (r >>= λ a. cond (b a.1) (q a.1 >>= λ i. p i.1 >>= applied (λ (z : C). f (a.0, (Some i.0, z)))) (p a.1 >>= applied (λ (z : C). f (a.0, (None, z)))))
  perhaps_between (Ok a) = second a.0 a.1 (b a.1) (q a.1)
  perhaps_between (Err e) = refl

pub assignment_reads : (s : List Token) → reading productions assignment s
    ≡ (reading productions (name Body) s >>= λ a. cond (starts (is terminal.LeftBracket) a.1)
    (reading productions element a.1 >>= λ i. reading productions value i.1 >>= applied
    (λ (v : ExprWithSpot). Put a.0 i.0.tree v.tree))
    (reading productions value a.1 >>= applied (λ (v : ExprWithSpot). Set a.0 v.tree)))
unfolding assignment element
assignment_reads s = perhaps_between assign_of (starts (is terminal.LeftBracket)) (reading productions element)
    (reading productions value) (reading productions (name Body) s)

-- a token, two parts, and perhaps a third one
module _ {A B C D : Type 0} (f : A × (B × Option C) → D) (g : List Token → Read A) (p : List Token → Read B)
    (b : List Token → Bool) (q : List Token → Read C) where
  third : (x : Token) (a : A) (y : B) (s : List Token) (t : Bool) (z : Read C)
      → ((((maybe_at t z s >>= pair_with y) >>= pair_with a) >>= pair_with x) >>= applied
      (λ (w : Token × (A × (B × Option C))). w.1) >>= applied f)
      ≡ cond t (z >>= applied (λ (c : C). f (a, (y, Some c)))) (Ok (f (a, (y, None)), s))
  third x a y s true (Ok c) = refl
  third x a y s true (Err e) = refl
  third x a y s false z = refl

  middle : (x : Token) (a : A) (y : Read B)
      → (((((y >>= λ v. maybe_at (b v.1) (q v.1) v.1 >>= pair_with v.0) >>= pair_with a) >>= pair_with x) >>=
      applied (λ (w : Token × (A × (B × Option C))). w.1)) >>= applied f)
      ≡ (y >>= λ v. cond (b v.1) (q v.1 >>= applied (λ (c : C). f (a, (v.0, Some c)))) (Ok (f (a, (v.0, None)), v.1)))
  middle x a (Ok y) = third x a y.0 y.1 (b y.1) (q y.1)
  middle x a (Err e) = refl

  begin : (x : Token) (a : Read A) → ((((a >>= λ u. (p u.1 >>= λ v. maybe_at (b v.1) (q v.1) v.1 >>= pair_with v.0)
      >>= pair_with u.0) >>= pair_with x) >>= applied (λ (w : Token × (A × (B × Option C))). w.1)) >>= applied f)
      ≡ (a >>= λ u. p u.1 >>= λ v. cond (b v.1) (q v.1 >>= applied (λ (c : C). f (u.0, (v.0, Some c)))) (Ok (f (u.0, (v.0, None)), v.1)))
  begin x (Ok a) = middle x a.0 (p a.1)
  begin x (Err e) = refl

  pub maybe_after : (r : Read Token) → (((r >>= λ x.
      (g x.1 >>= λ u. (p u.1 >>= λ v. maybe_at (b v.1) (q v.1) v.1 >>= pair_with v.0) >>= pair_with u.0) >>=
      pair_with x.0) >>= applied (λ (w : Token × (A × (B × Option C))). w.1)) >>= applied f)
      ≡ (r >>= λ x. g x.1 >>= λ u. p u.1 >>= λ v. cond (b v.1) (q v.1 >>= applied (λ (c : C). f (u.0, (v.0, Some c)))) (Ok (f (u.0, (v.0, None)), v.1)))
  maybe_after (Ok x) = begin x.0 (g x.1)
  maybe_after (Err e) = refl

pub choice_reads : (s : List Token) → reading productions choice s
    ≡ (token_at (is terminal.If) s >>= λ x. reading productions condition x.1 >>= λ c. reading productions block c.1
    >>= λ v. cond (starts (is terminal.Else) v.1)
    (reading productions otherwise v.1 >>= applied (λ (o : Statements). If c.0.tree v.0 o))
    (Ok (If c.0.tree v.0 Done, v.1)))
unfolding choice otherwise
choice_reads s = maybe_after if_of (reading productions condition) (reading productions block)
    (starts (is terminal.Else)) (reading productions otherwise) (token_at (is terminal.If) s)
