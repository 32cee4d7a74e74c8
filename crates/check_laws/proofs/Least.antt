-- The first fault is one of its list, and none comes before it.
use Rattle.std.proofs.Common.{◌≡◌, Bool, true, false, List, [], ◌∷◌, Option, Some, None, refl, sym, ◌∙◌, ap, subst, inl, inr}
use Rattle.std.proofs.lemmas.Option.{same_Some}
use Rattle.ptg_base.specs.Lists.{IsIn}
use Rattle.type_rules.specs.TreesAndFaults.{JdfFault}
use Rattle.type_rules.specs.Faults.{is_before, earlier_of, first_fault}
use Rattle.type_rules.proofs.CallerLemmas.{before-cotrans, before-irrefl, before-trans, first_none, the-former, the-later}

no_fault : {A : Type 0} (f : JdfFault) → None ≡ Some f → A
no_fault f e = absurd cc

pub first_is_one : (faults : List JdfFault) (f : JdfFault) → first_fault faults ≡ Some f → IsIn f faults
first_is_one [] f e = no_fault f e
first_is_one (g ∷ faults) f e = go (first_fault faults) (λ x. first_is_one faults x) e
  where
    go : (o : Option JdfFault) → ((x : JdfFault) → o ≡ Some x → IsIn x faults) → earlier_of (Some g) o ≡ Some f → IsIn f (g ∷ faults)
    go None later e = inl (sym (same_Some g f e))
    go (Some h) later e = pick (is_before h g) refl
      where
        pick : (b : Bool) → is_before h g ≡ b → IsIn f (g ∷ faults)
        pick true t = inr (later f (ap (λ x. Some x) (sym (the-later g h t)) ∙ e))
        pick false t = inl (sym (same_Some _ _ (ap (λ x. Some x) (sym (the-former g h t)) ∙ e)))

-- if one fault comes before another, the other doesn't come before it
not-back : (a b : JdfFault) → is_before b a ≡ true → is_before a b ≡ false
not-back a b t = side (is_before a b) refl
  where
    side : (c : Bool) → is_before a b ≡ c → is_before a b ≡ false
    side true r = let l : is_before a a ≡ true = before-trans a b a r t in let m : is_before a a ≡ false = before-irrefl a in absurd cc
    side false r = r

-- no fault of the list comes before its first
pub none_is_before : (faults : List JdfFault) (f g : JdfFault) → first_fault faults ≡ Some f → IsIn g faults → is_before g f ≡ false
none_is_before [] f g e i = absurd i
none_is_before (x ∷ faults) f g e i = go (first_fault faults) (λ y. none_is_before faults y g) (first_none faults) e
  where
    go : (o : Option JdfFault) → ((y : JdfFault) → o ≡ Some y → IsIn g faults → is_before g y ≡ false)
        → (o ≡ None → faults ≡ []) → earlier_of (Some x) o ≡ Some f → is_before g f ≡ false
    go None later empty e =
        elim i [
          | inl s ↦ subst (λ y. is_before g y ≡ false) (same_Some x f e) (subst (λ y. is_before y x ≡ false) (sym s) (before-irrefl x))
          | inr j ↦ absurd (subst (IsIn g) (empty refl) j)
        ]
    go (Some h) later empty e = pick (is_before h x) refl
      where
        pick : (b : Bool) → is_before h x ≡ b → is_before g f ≡ false
        pick true t =
            let s : h ≡ f = same_Some h f (ap (λ y. Some y) (sym (the-later x h t)) ∙ e) in
            elim i [
              | inl s2 ↦ subst (λ y. is_before g y ≡ false) s (subst (λ y. is_before y h ≡ false) (sym s2) (not-back x h t))
              | inr j ↦ later f (ap (λ y. Some y) s) j
            ]
        pick false t =
            let s : x ≡ f = same_Some x f (ap (λ y. Some y) (sym (the-former x h t)) ∙ e) in
            subst (λ y. is_before g y ≡ false) s
            (elim i [
              | inl s2 ↦ subst (λ y. is_before y x ≡ false) (sym s2) (before-irrefl x)
              | inr j ↦ before-cotrans g h x (later h refl j) t
            ])
