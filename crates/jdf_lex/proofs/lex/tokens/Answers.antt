use Rattle.std.proofs.Common.{◌≡◌, ℕ, ◌⊎◌, List, Result, Ok, Err, IfOk, refl, ap, inl, inr}
use Rattle.ptg_base.specs.Returns.{FindsOrRefuses}
use Rattle.ptg_base.specs.declared.refusal.Refusal.{Refusal}
use Rattle.ptg_base.specs.declared.refusal.Refusal.TheVariants.{Fault, OutOfMemory}
use Rattle.jdf_lex.specs.declared.fault.JdfFault.{JdfFault}
use Rattle.jdf_lex.specs.declared.token.Lexed.{Lexed}
use Rattle.jdf_lex.specs.Tokens.{IsTokenFault, IsTokensOf}
use Rattle.jdf_lex.proofs.Uniqueness.{one_list, one_fault, no_fault}
use Rattle.jdf_lex.proofs.lex.tokens.Goals as goal

-- the result for a text is only its tokens or its first fault, or out of memory
module _ (text : List ℕ) (result : Result Lexed (Refusal JdfFault)) (found : IfOk result (IsTokensOf text))
    (fault : (f : JdfFault) → result ≡ Err (Fault f) → IsTokenFault text f) where
  -- If the text has tokens, the result is these or out of memory: there is one list, and a text with a fault has none.
  only_from : (lexed : Lexed) → IsTokensOf text lexed → (result ≡ Ok lexed) ⊎ (result ≡ Err OutOfMemory)
  only_from lexed is = from result found fault
    where
      from : (r : Result Lexed (Refusal JdfFault)) → IfOk r (IsTokensOf text) → ((f : JdfFault) → r ≡ Err (Fault f) → IsTokenFault text f)
          → (r ≡ Ok lexed) ⊎ (r ≡ Err OutOfMemory)
      from (Ok other) h k =
          let same = one_list text other.tokens lexed.tokens other.end lexed.end h.0 is.0 in
          inl (λ i. Ok (record { tokens = same.0 i; end = same.1 i }))
      from (Err (Fault f)) h k = absurd (no_fault text lexed.tokens lexed.end f is.0 is.1 (k f refl))
      from (Err OutOfMemory) h k = inr refl

  -- If the text has a first fault, the result is it or out of memory: there is one, and a text with tokens has none.
  fault_from : (f : JdfFault) → IsTokenFault text f → (result ≡ Err (Fault f)) ⊎ (result ≡ Err OutOfMemory)
  fault_from f is = from result found fault
    where
      from : (r : Result Lexed (Refusal JdfFault)) → IfOk r (IsTokensOf text) → ((g : JdfFault) → r ≡ Err (Fault g) → IsTokenFault text g)
          → (r ≡ Err (Fault f)) ⊎ (r ≡ Err OutOfMemory)
      from (Ok lexed) h k = absurd (no_fault text lexed.tokens lexed.end f h.0 h.1 is)
      from (Err (Fault g)) h k = inl (ap (λ (x : JdfFault). Err (Fault x)) (one_fault text g f (k g refl) is))
      from (Err OutOfMemory) h k = inr refl

  exactly : FindsOrRefuses (IsTokensOf text) (IsTokenFault text) result
  exactly = record { found = found; only = only_from; fault = fault; refused = fault_from }

pub returns : goal.returns
returns c = record { exact = rw c.as_bytes.ensures.value at (exactly c.as_bytes.result.now c.lex.result c.lex.ensures.found c.lex.ensures.fault) }
