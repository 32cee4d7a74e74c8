-- One token of lookahead reads a whole body.
use Rattle.std.proofs.Common.{◌≡◌, ℕ, true, List, Result, Ok, Err, refl, sym, ap, ◌∙◌, ◌≤◌, inl, inr, arith, subst}
use Rattle.std.specs.Prelude.{length, ◌-◌, None}
use Rattle.grammar_core.specs.declared.token.Spot.{Spot}
use Rattle.grammar_core.specs.declared.token.Token.{Token}
use Rattle.grammar_core.specs.declared.code.Code.{Code}
use Rattle.grammar_core.specs.Production.{IsText, IsFirstFault}
use Rattle.grammar_core.specs.Predictive.{is_fine}
use Rattle.ptg_base.specs.declared.refusal.Refusal.{Refusal}
use Rattle.ptg_base.specs.declared.refusal.Refusal.TheVariants as errors
use Rattle.grammar_core.specs.declared.fault.ReadFault.{ReadFault}
use Rattle.grammar_core.specs.Refusing.{ReadRefusal}
use Rattle.grammar_core.specs.Reading.{whole, fault_from_end}
use Rattle.grammar_core.proofs.CallerLemmas.{fault_index, fault_is_of_whole as fault_is, fault_within, one_fault, text_found, text_only}
use Rattle.ptg_base.specs.Returns.{FindsOrRefuses, Returns, ReturnsRefusal}
use Rattle.jdf_lex.specs.declared.fault.JdfFault.{JdfFault}
use Rattle.jdf_tree.specs.BodyGrammar.{body}
use Rattle.jdf_tree.specs.Grammar.{productions, claims}
use Rattle.jdf_tree.specs.Statements.{Statements}
use Rattle.jdf_tree.proofs.CallerLemmas.{body_text_limits, productions_fine, productions_limits}
use Rattle.expr_read.specs.Front.{fault_at}
use Rattle.body_lang.specs.Text.{IsTree, IsFaultBefore, IsTreeFault}
use Rattle.body_lang.proofs.Limited.{text_fine}
use Rattle.list_lemmas.proofs.Options.{same_Ok, same_Err, Ok≢Err}

body_fine : is_fine claims body ≡ true
unfolding body
body_fine = text_fine

pub found : (s : List Token) (t : Statements) → whole productions body s ≡ Ok t → IsText productions body s t None
found s t e = text_found productions claims productions_fine productions_limits body body_fine body_text_limits s t e

pub only : (s : List Token) (t : Statements) → IsText productions body s t None → whole productions body s ≡ Ok t
only s t h = text_only productions claims productions_fine productions_limits body body_fine body_text_limits s t h

pub faulty : (s : List Token) (n : ℕ) (c : Code) → whole productions body s ≡ Err (fault_from_end n c) → IsFirstFault productions body s (length s - n) c
faulty s n c e = fault_is productions claims productions_fine productions_limits body body_fine body_text_limits s (fault_from_end n c) e

fault_left : (s : List Token) (n : ReadFault) → whole productions body s ≡ Err n → n.left ≤ length s
fault_left s n e = fault_within productions claims productions_fine productions_limits body body_fine body_text_limits s n e

pub fault_read : (s : List Token) (place : ℕ) (c : Code) → IsFirstFault productions body s place c
    → whole productions body s ≡ Err (fault_from_end (length s - place) c)
fault_read s place c h = one_fault productions claims productions_fine productions_limits body body_fine body_text_limits s place c h

-- ---- the result is the only one

pub one_tree : (s : List Token) (t t' : Statements) → whole productions body s ≡ Ok t → IsText productions body s t' None → t ≡ t'
one_tree s t t' e h = same_Ok t t' (sym e ∙ only s t' h)

pub no_fault : (s : List Token) (t : Statements) (p : ℕ) (c : Code) → whole productions body s ≡ Ok t → IsFirstFault productions body s p c → ⊥
no_fault s t p c e h = Ok≢Err t (fault_from_end (length s - p) c) (sym e ∙ fault_read s p c h)

pub no_tree : (s : List Token) (n : ReadFault) (t : Statements) → whole productions body s ≡ Err n → IsText productions body s t None → ⊥
no_tree s n t e h = Ok≢Err t n (sym (only s t h) ∙ e)

pub one_place : (s : List Token) (left p : ℕ) (d c : Code) → whole productions body s ≡ Err (fault_from_end left d)
    → IsFirstFault productions body s p c → (length s - left ≡ p) × (d ≡ c)
one_place s left p d c e h =
    let same = same_Err (fault_from_end left d) (fault_from_end (length s - p) c) (sym e ∙ fault_read s p c h) in
    let n = ap (λ (m : ReadFault). m.left) same in
    let within = fault_index productions body s p c h in
    (omega (arith, n, within), ap (λ (m : ReadFault). m.code) same)

-- ---- what reading returns

-- the tree that was read, or the fault that was met
abbrev pub IsRead : Result Statements ReadRefusal → Result Statements ReadFault → Type 0
IsRead (Ok t) read = read ≡ Ok t
IsRead (Err e) read = ReturnsRefusal e read

pub read_is : (r : Result Statements ReadRefusal) (read : Result Statements ReadFault) → Returns (λ t. t) r read → IsRead r read
read_is (Ok t) read h = h
read_is (Err e) read h = h

abbrev refusal : ReadRefusal → Result Statements ReadRefusal
refusal e = Err e

abbrev answer : Statements → Result Statements ReadRefusal
answer t = Ok t

fault_before : (s : List Token) (x f : ReadFault) → whole productions body s ≡ Err x → refusal (errors.Fault x) ≡ refusal (errors.Fault f) → IsFaultBefore s f
fault_before s x f e h =
    let same : x ≡ f = cc in
    subst (λ (y : ReadFault). IsFaultBefore s y) same (record { within = fault_left s x e; first = faulty s x.left x.code e })

fault_only : (s : List Token) (x f : ReadFault) → whole productions body s ≡ Err x → IsFaultBefore s f → refusal (errors.Fault x) ≡ refusal (errors.Fault f)
fault_only s x f e h =
    let same = same_Err x (fault_from_end (length s - (length s - f.left)) f.code) (sym e ∙ fault_read s (length s - f.left) f.code h.first) in
    let w = h.within in
    let n = ap (λ (m : ReadFault). m.left) same in
    let left : x.left ≡ f.left = omega (arith, n, w) in
    let code : x.code ≡ f.code = ap (λ (m : ReadFault). m.code) same in
    λ i. refusal (errors.Fault (record { left = left i; code = code i }))

-- what reading a tree returns
pub tree_exact : (s : List Token) (r : Result Statements ReadRefusal) → IsRead r (whole productions body s) → FindsOrRefuses (IsTree s) (IsFaultBefore s) r
tree_exact s (Ok u) e =
    record {
      found = found s u e;
      only = λ t h. inl (ap answer (one_tree s u t e h));
      fault = λ f h. absurd cc;
      refused = λ f h. absurd (no_fault s u (length s - f.left) f.code e h.first);
    }
tree_exact s (Err errors.OutOfMemory) e = record { found = tt; only = λ t h. inr refl; fault = λ f h. absurd cc; refused = λ f h. inr refl }
tree_exact s (Err (errors.Fault x)) e =
    record {
      found = tt;
      only = λ t h. absurd (no_tree s x t e h);
      fault = λ f h. fault_before s x f e h;
      refused = λ f h. inl (fault_only s x f e h);
    }

module _ (s : List Token) (finish : Spot) where
  abbrev JdfRefusal : Type 0
  JdfRefusal = Refusal JdfFault

  abbrev Reads : Result Statements JdfRefusal → Type 0
  Reads r = FindsOrRefuses (IsTree s) (IsTreeFault s finish) r

  abbrev refused : JdfFault → Result Statements JdfRefusal
  refused f = Err (errors.Fault f)

  abbrev tree : Statements → Result Statements JdfRefusal
  tree t = Ok t

  pub read_tree : (u : Statements) → whole productions body s ≡ Ok u → Reads (Ok u)
  read_tree u e =
      record {
        found = found s u e;
        only = λ t h. inl (ap tree (one_tree s u t e h));
        fault = λ f h. absurd cc;
        refused = λ f h. absurd (no_fault s u h.token_index h.code e h.first);
      }

  pub read_no_memory : Reads (Err errors.OutOfMemory)
  read_no_memory = record { found = tt; only = λ t h. inr refl; fault = λ f h. absurd cc; refused = λ f h. inr refl }

  pub read_fault : (n : ℕ) (d : Code) (f : JdfFault) → whole productions body s ≡ Err (fault_from_end n d)
      → f ≡ fault_at s finish (length s - n) d → Reads (Err (errors.Fault f))
  read_fault n d f e at =
      record {
        found = tt;
        only = λ t h. absurd (no_tree s (fault_from_end n d) t e h);
        fault = λ g h. let same : f ≡ g = cc in record { token_index = length s - n; code = d; first = faulty s n d e; placed = sym same ∙ at };
        refused = λ g h.
            let k = one_place s n h.token_index d h.code e h.first in
            let here : f ≡ g = at ∙ (λ i. fault_at s finish (k.0 i) (k.1 i)) ∙ sym h.placed in
            inl (ap refused here);
      }
