-- What a refusal of the code implies about reading.
use Rattle.std.proofs.Common.{◌≡◌, ℕ, Result, Err, ap, ◌∙◌}
use Rattle.ptg_base.specs.declared.refusal.Refusal.TheVariants as refusal
use Rattle.ptg_base.specs.Returns.{ReturnsRefusal}
use Rattle.grammar_core.specs.declared.code.Code.{Code}
use Rattle.grammar_core.specs.declared.fault.ReadFault.{ReadFault}
use Rattle.grammar_core.specs.Reading.{fault_from_end}
use Rattle.grammar_core.specs.Refusing.{ReadRefusal, fault_with}

abbrev failed : {A : Type 0} → ReadFault → Result A ReadFault
failed f = Err f

-- If the code refuses with a fault, reading returns that fault.
pub fault_is : {A : Type 0} (r : Result A ReadFault) (e : ReadRefusal) (n : ℕ) (d : Code) → ReturnsRefusal e r
    → e ≡ fault_with n d → r ≡ Err (fault_from_end n d)
fault_is r refusal.OutOfMemory n d f is = absurd cc
fault_is {A} r (refusal.Fault m) n d f is = let same : m ≡ fault_from_end n d = cc in f ∙ ap (λ (x : ReadFault). failed {A = A} x) same
