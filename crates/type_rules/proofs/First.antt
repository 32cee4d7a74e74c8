-- The first fault of two lists together is the earlier one of their first faults.
use Rattle.std.proofs.Common.{◌≡◌, Bool, true, false, List, [], ◌∷◌, ◌++◌, Option, Some, None, refl, sym, ◌∙◌, ap}
use Rattle.std.proofs.lemmas.Bool.{cond-true, cond-false}
use Rattle.type_rules.specs.TreesAndFaults.{JdfFault}
use Rattle.type_rules.specs.Faults.{is_before, earlier, earlier_of, first_fault}
use Rattle.type_rules.proofs.Order.{before-trans, before-cotrans}

pub the-later : (f g : JdfFault) → is_before g f ≡ true → earlier f g ≡ g
the-later f g e = cond-true (is_before g f) g f e

pub the-former : (f g : JdfFault) → is_before g f ≡ false → earlier f g ≡ f
the-former f g e = cond-false (is_before g f) g f e

-- the earliest of three does not depend on which two are compared first
earlier-assoc : (f g h : JdfFault) → earlier (earlier f g) h ≡ earlier f (earlier g h)
earlier-assoc f g h = go (is_before g f) (is_before h g) refl refl
  where
    go : (p q : Bool) → is_before g f ≡ p → is_before h g ≡ q → earlier (earlier f g) h ≡ earlier f (earlier g h)
    go true true a b =
        ap (λ x. earlier x h) (the-later f g a) ∙ (the-later g h b ∙ sym (ap (earlier f) (the-later g h b) ∙ the-later f h (before-trans h g f b a)))
    go true false a b =
        ap (λ x. earlier x h) (the-later f g a) ∙ (the-former g h b ∙ sym (ap (earlier f) (the-former g h b) ∙ the-later f g a))
    go false true a b = ap (λ x. earlier x h) (the-former f g a) ∙ sym (ap (earlier f) (the-later g h b))
    go false false a b =
        ap (λ x. earlier x h) (the-former f g a)
        ∙ (the-former f h (before-cotrans h g f b a) ∙ sym (ap (earlier f) (the-former g h b) ∙ the-former f g a))

assoc : (a b c : Option JdfFault) → earlier_of (earlier_of a b) c ≡ earlier_of a (earlier_of b c)
assoc None b c = refl
assoc (Some f) None c = refl
assoc (Some f) (Some g) None = refl
assoc (Some f) (Some g) (Some h) = ap (λ x. Some x) (earlier-assoc f g h)

pub first_append : (fs gs : List JdfFault) → first_fault (fs ++ gs) ≡ earlier_of (first_fault fs) (first_fault gs)
first_append [] gs = refl
first_append (f ∷ fs) gs = ap (earlier_of (Some f)) (first_append fs gs) ∙ sym (assoc (Some f) (first_fault fs) (first_fault gs))

-- only an empty list has no first fault
pub first_none : (fs : List JdfFault) → first_fault fs ≡ None → fs ≡ []
first_none [] e = refl
first_none (f ∷ fs) e = go (first_fault fs) e
  where
    go : (o : Option JdfFault) → earlier_of (Some f) o ≡ None → f ∷ fs ≡ []
    go None e = absurd cc
    go (Some g) e = absurd cc
