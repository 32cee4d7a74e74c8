use Rattle.std.proofs.Common.{◌≡◌, ℕ, Bool, rules, tests, ◌∙◌, sym, ap, true, List, ◌∷◌, ◌&&◌}
use Rattle.std.specs.List.{list_all}
use Rattle.std.proofs.lemmas.Iterator.{YieldsList-from_slice}
use Rattle.std.proofs.lemmas.Iterator.Search.{all_from_yields_List}
use Rattle.ptg_base.specs.Names.{is_letter, is_part, is_name}
use Rattle.ptg_base.proofs.name.is_name.Goals as goal

name_of : (field : List ℕ) (b : ℕ) (bs : List ℕ) (r : Bool) → field ≡ b ∷ bs → is_letter b ≡ true → r ≡ list_all is_part bs → r ≡ is_name field
name_of field b bs r is letter all = all ∙ sym (ap (λ t. t && list_all is_part bs) letter) ∙ sym (ap is_name is)

pub returns-then-is_letter : goal.returns-then-is_letter
returns-then-is_letter c =
    let rest : c.all.result ≡ list_all is_part c.in-Some.bs.now =
    all_from_yields_List is_part _ _ _ c.all.ensures.ran (YieldsList-from_slice c.in-Some.bs.now cc)
    (λ x b q k. search (rules, tests)) in
    name_of c.args.bytes.now c.in-Some.b.now c.in-Some.bs.now c.all.result (search rules) (sym c.is_letter.ensures ∙ c.if-is_letter.true) rest
