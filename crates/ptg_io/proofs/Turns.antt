-- Reads of one file in turn.
use Rattle.std.proofs.Common.{◌≡◌, ◌<◌, ◌≤◌, ◌+◌, ℕ, List, [], ◌∷◌, sym, subst, ◌∙◌, refl, arith}
use Rattle.std.proofs.Common.{Result, Ok, Err}
use Rattle.ptg_io.specs.Load.{FailsWithin, HasRead, StopsPast}
use Rattle.std.proofs.lemmas.List.Sums.{sum_by_from}

-- before any read, 0 bytes were read
pub none_read : {Files : Type 0} (gives : Files → List ℕ → ℕ → ℕ → Files → Type 0) (name : List ℕ) (start : Files)
    (size : ℕ) → size ≡ 0 → HasRead gives name start size start
none_read gives name start size none = record { counts = []; reads = refl; together = sym none }

-- one more read, from where the others ended
pub one_more_read : {Files : Type 0} (gives : Files → List ℕ → ℕ → ℕ → Files → Type 0) (name : List ℕ)
    (start middle end : Files) (size n all : ℕ) → HasRead gives name start size middle
    → gives middle name size n end → all ≡ size + n → HasRead gives name start all end
one_more_read gives name start middle end size n all before read is = record {
  counts = n ∷ before.counts;
  reads = (middle, before.reads, subst (λ (k : ℕ). gives middle name k n end) (sym before.together) read);
  together = sum_by_from (λ k. k) (0 + n) before.counts ∙ omega (arith, before.together, is);
}

-- the read that goes past the limit
pub stops : {Files : Type 0} (gives : Files → List ℕ → ℕ → ℕ → Files → Type 0) (name : List ℕ)
    (start middle end : Files) (size n limit : ℕ) → HasRead gives name start size middle
    → gives middle name size n end → size ≤ limit → limit < size + n → StopsPast gives name limit start end
stops gives name start middle end size n limit before read within past = record {
  last = n;
  earlier = before.counts;
  reads = (middle, before.reads, subst (λ (k : ℕ). gives middle name k n end) (sym before.together) read);
  within = omega (arith, before.together, within);
  past = omega (arith, before.together, past);
}

-- the read that fails
pub fails_within : {Files : Type 0} (gives : Files → List ℕ → ℕ → ℕ → Files → Type 0)
    (fails : Files → List ℕ → ℕ → Files → Type 0) (name : List ℕ) (start middle end : Files) (size limit : ℕ)
    → HasRead gives name start size middle → fails middle name size end → size ≤ limit
    → FailsWithin gives fails name limit start end
fails_within gives fails name start middle end size limit before read within =
    record { size = size; before = middle; reads = before; within = within; failed = read }

-- a value is no error
pub no_error : {T E : Type 0} (result : Result T E) (value : T) (error : E) → result ≡ Ok value → ¬ (result ≡ Err error)
no_error result value error is_value is_error = absurd (cc (is_value, is_error))
