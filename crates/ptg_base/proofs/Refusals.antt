-- If the first step refuses, the whole refuses in the same way.
use Rattle.std.proofs.Common.{Result, refl}
use Rattle.ptg_base.specs.declared.refusal.Refusal.{Refusal}
use Rattle.ptg_base.specs.declared.refusal.Refusal.TheVariants.{Fault, OutOfMemory}
use Rattle.ptg_base.specs.Returns.{ReturnsRefusal, and_then}

pub refuses_before : {A B F : Type 0} (e : Refusal F) (given : Result A F) (next : A → Result B F)
    → ReturnsRefusal e given → ReturnsRefusal e (and_then given next)
refuses_before OutOfMemory given next h = tt
refuses_before (Fault f) given next h = rw h refl
