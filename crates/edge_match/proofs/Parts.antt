-- Parts of the pass, one after another.
use Rattle.std.proofs.lemmas.Bool.{false≢true}
use Rattle.std.proofs.Common.{◌≡◌, ◌↔◌, Bool, true, false, not, IsTrue, List, [], ◌∷◌, ◌++◌, refl, ap, sym, ◌∙◌}
use Rattle.std.proofs.Common.{append_assoc, Result, Ok, Err}
use Rattle.std.specs.Result.{IsErrAnd}
use Rattle.std.proofs.lemmas.Result.{err_from_is_err_and}
use Rattle.plan_core.specs.declared.plan.Plan.{Plan}
use Rattle.edge_match.specs.declared.counted.Counted.{Counted}
use Rattle.edge_match.specs.declared.fault.MatchFault.{MatchFault}
use Rattle.edge_match.specs.Marks.{AllPass, Before, Fact, Holds, Is, Mark, add, add_all}
use Rattle.edge_match.specs.FirstFault.{FailsWith, IsFirstFailure}
use Rattle.edge_match.specs.Counted.{Checked, Decides}

pub add_all-append : (b : Before) (xs ys : List Mark) → add_all b (xs ++ ys) ≡ add_all (add_all b xs) ys
add_all-append b [] ys = refl
add_all-append b (x ∷ xs) ys = add_all-append (add b x.check) xs ys

module _ (P : Plan) where
  pub AllPass-append : (b : Before) (xs ys : List Mark) → AllPass P b xs → AllPass P (add_all b xs) ys → AllPass P b (xs ++ ys)
  AllPass-append b [] ys h k = k
  AllPass-append b (x ∷ xs) ys h k = (h.0, AllPass-append (add b x.check) xs ys h.1 k)

  pub AllPass-parts : (b : Before) (xs ys : List Mark) → AllPass P b (xs ++ ys) → AllPass P b xs × AllPass P (add_all b xs) ys
  AllPass-parts b [] ys h = (tt, h)
  AllPass-parts b (x ∷ xs) ys h = let p = AllPass-parts (add b x.check) xs ys h.1 in ((h.0, p.0), p.1)

  module _ (b : Before) (xs ys : List Mark) (f : MatchFault) where
    -- a failure in a first part is one of the whole
    pub failure_before : IsFirstFailure P b xs f → IsFirstFailure P b (xs ++ ys) f
    failure_before w = record {
      passed = w.passed;
      failed = w.failed;
      rest = w.rest ++ ys;
      split = ap (λ l. l ++ ys) w.split ∙ append_assoc w.passed (w.failed ∷ w.rest) ys;
      all_pass = w.all_pass;
      fails = w.fails;
    }

    -- a failure in a second part is one of the whole, if the first part passes
    pub failure_after : AllPass P b xs → IsFirstFailure P (add_all b xs) ys f → IsFirstFailure P b (xs ++ ys) f
    failure_after h w = record {
      passed = xs ++ w.passed;
      failed = w.failed;
      rest = w.rest;
      split = ap (λ l. xs ++ l) w.split ∙ sym (append_assoc xs w.passed (w.failed ∷ w.rest));
      all_pass = AllPass-append b xs w.passed h w.all_pass;
      fails = rw (add_all-append b xs w.passed) w.fails;
    }

  -- one mark that does not pass, with its fault
  pub fails_at_once : (b : Before) (m : Mark) (f : MatchFault) → FailsWith P b m f → IsFirstFailure P b (m ∷ []) f
  fails_at_once b m f h = record { passed = []; failed = m; rest = []; split = refl; all_pass = tt; fails = h }

-- a test of a fact
pub decides : {P : Plan} {s : Counted} {holds : Bool} (f : Fact) → IsTrue holds ↔ Holds P f → Decides P s s holds (Is f)
decides f h = record { passes = λ b k. h; counted = λ t b k. k }

pub unchecked : {P : Plan} {s : Counted} {x : Unit {0}} → Checked P s s (Ok x) []
unchecked = record { after = λ b k. (tt, k) }

-- a part that stops the pass
pub stop : {P : Plan} {s u v : Counted} {r : Result (Unit {0}) MatchFault} {f : MatchFault} {xs : List Mark} (ys : List Mark)
    → IsErrAnd r (λ e. e ≡ f) → Checked P s u (Err f) xs → Checked P s v r (xs ++ ys)
stop {P} {s} {u} {v} {r} {f} {xs} ys e w =
    let p = err_from_is_err_and r e in
    rw (p.1 ∙ ap Err p.2) (record { after = λ b k. failure_before P b xs ys f (w.after b k) })

-- a part that passes, and the part after it
both_parts : (P : Plan) (s u v : Counted) (x : Unit {0}) (r : Result (Unit {0}) MatchFault) (xs ys : List Mark)
    → Checked P s u (Ok x) xs → Checked P u v r ys → Checked P s v r (xs ++ ys)
both_parts P s u v x (Ok y) xs ys w t = record {
  after = λ b k.
      let p = w.after b k in
      let q = t.after (add_all b xs) p.1 in
      (AllPass-append P b xs ys p.0 q.0, rw (add_all-append b xs ys) q.1);
}
both_parts P s u v x (Err f) xs ys w t = record {
  after = λ b k.
      let p = w.after b k in
      failure_after P b xs ys f p.0 (t.after (add_all b xs) p.1);
}

pub followed : {P : Plan} {s u v : Counted} {x : Unit {0}} {r : Result (Unit {0}) MatchFault} {xs ys : List Mark}
    → Checked P s u (Ok x) xs → Checked P u v r ys → Checked P s v r (xs ++ ys)
followed {P} {s} {u} {v} {x} {r} {xs} {ys} h k = both_parts P s u v x r xs ys h k

-- the opposite of a test
pub opposite : {A : Type 0} (b : Bool) → IsTrue b ↔ A → IsTrue (not b) ↔ (A → ⊥)
opposite true h = (λ k a. false≢true k, λ n. absurd (n (h.0 refl)))
opposite false h = (λ k a. false≢true (h.1 a), λ n. refl)
