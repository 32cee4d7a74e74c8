-- Calls that put texts, one after another.
use Rattle.std.proofs.Common.{◌≡◌, ℕ, ◌≤◌, List, [], ◌++◌, length, take, drop, Result, Ok, Err, sym, ap, subst, ◌∙◌}
use Rattle.std.proofs.Common.{refl, arith, append_assoc, length-append, inl, inr}
use Rattle.std.specs.Prelude.{IsErr, OnOk, OnErr}
use Rattle.std.proofs.Math.Seq.{take-append_seam}
use Rattle.std.proofs.lemmas.Bool.{false≢true}
use Rattle.std.proofs.lemmas.List.{append-nil, append_cancel_left, take-append-drop}
use Rattle.ptg_io.specs.Faults.{Rose}
use Rattle.ptg_io.specs.declared.files.Failed.{Failed}
use Rattle.report_text.specs.Puts.{Precedes, Puts, HasPrefix, PrintsText}

pub precedes_through : (a b c : List ℕ) → Precedes a b → Precedes b c → Precedes a c
precedes_through a b c first then =
    (first.0 ++ then.0, sym (append_assoc a first.0 then.0) ∙ ap (λ w. w ++ then.0) first.1 ∙ then.1)

pub precedes_more : (a b text : List ℕ) → Precedes a b → Precedes a (b ++ text)
precedes_more a b text front = precedes_through a b (b ++ text) front (text, refl)

pub rose_from : (a b c : ℕ) → a ≤ b → Rose b c → Rose a c
rose_from a b c grew (inl rose) = inl (omega arith)
rose_from a b c grew (inr last) = inr last

-- a call that put a text without a failure
abbrev pub HasPut : {S : Type 0} (bytes : S → List ℕ) (faults : S → ℕ) (sink : S) (kept : List ℕ) (sink_after : S)
    (kept_after : List ℕ) (text : List ℕ) → Type 0
HasPut bytes faults sink kept sink_after kept_after text = Puts {T = Unit {0}} {E = Failed} bytes faults (Ok tt) sink kept sink_after kept_after text

-- a call that failed while it put a text
abbrev pub HasFailed : {S : Type 0} (bytes : S → List ℕ) (faults : S → ℕ) (failure : Failed) (sink : S) (kept : List ℕ)
    (sink_after : S) (kept_after : List ℕ) (text : List ℕ) → Type 0
HasFailed bytes faults failure sink kept sink_after kept_after text = Puts {T = Unit {0}} {E = Failed} bytes faults
    (Err failure) sink kept sink_after kept_after text

then_of : {S : Type 0} (bytes : S → List ℕ) (faults : S → ℕ) (s : S) (k : List ℕ) (s1 : S) (k1 : List ℕ) (s2 : S)
    (k2 : List ℕ) (t u : List ℕ) (result : Result (Unit {0}) Failed) → HasPut bytes faults s k s1 k1 t
    → Puts bytes faults result s1 k1 s2 k2 u → Puts bytes faults result s k s2 k2 (t ++ u)
then_of bytes faults s k s1 k1 s2 k2 t u (Ok x) first then = record {
  ok = then.ok ∙ ap (λ w. w ++ u) first.ok ∙ append_assoc (bytes s ++ k) t u;
  cut = tt;
  onward = precedes_through (bytes s) (bytes s1) (bytes s2) first.onward then.onward;
  grows = omega (arith, first.grows, then.grows);
  failed = tt;
  no_fault = then.no_fault ∙ first.no_fault;
}
then_of bytes faults s k s1 k1 s2 k2 t u (Err e) first then = record {
  ok = tt;
  cut = subst (λ (w : List ℕ). Precedes (bytes s2) w) (ap (λ w. w ++ u) first.ok ∙ append_assoc (bytes s ++ k) t u) then.cut;
  onward = precedes_through (bytes s) (bytes s1) (bytes s2) first.onward then.onward;
  grows = omega (arith, first.grows, then.grows);
  failed = rose_from (faults s) (faults s1) (faults s2) first.grows then.failed;
  no_fault = tt;
}

cut_of : {S : Type 0} (bytes : S → List ℕ) (faults : S → ℕ) (s : S) (k : List ℕ) (s1 : S) (k1 k2 : List ℕ)
    (t u : List ℕ) (failure : Failed) (result : Result (Unit {0}) Failed) → HasFailed bytes faults failure s k s1 k1 t
    → IsErr result → Puts bytes faults result s k s1 k2 (t ++ u)
cut_of bytes faults s k s1 k1 k2 t u failure (Ok x) failed err = absurd (false≢true err)
cut_of bytes faults s k s1 k1 k2 t u failure (Err e) failed err = record {
  ok = tt;
  cut = subst (λ (w : List ℕ). Precedes (bytes s1) w) (append_assoc (bytes s ++ k) t u) (precedes_more (bytes s1) (bytes s ++ k ++ t) u failed.cut);
  onward = failed.onward;
  grows = failed.grows;
  failed = failed.failed;
  no_fault = tt;
}

-- a call, and then another, of any result
pub puts_then : {S : Type 0} {bytes : S → List ℕ} {faults : S → ℕ} {s s1 s2 : S} {k k1 k2 t u : List ℕ} (text : List ℕ)
    {result : Result (Unit {0}) Failed} → HasPut bytes faults s k s1 k1 t → Puts bytes faults result s1 k1 s2 k2 u
    → text ≡ t ++ u → Puts bytes faults result s k s2 k2 text
puts_then {bytes = bytes} {faults} {s} {s1} {s2} {k} {k1} {k2} {t} {u} text {result} first then is = rw is
    (then_of bytes faults s k s1 k1 s2 k2 t u result first then)

-- a call that failed, of a longer text
pub puts_cut : {S : Type 0} {bytes : S → List ℕ} {faults : S → ℕ} {s s1 : S} {k k1 k2 t : List ℕ} (u text : List ℕ)
    {failure : Failed} {result : Result (Unit {0}) Failed} → HasFailed bytes faults failure s k s1 k1 t → IsErr result
    → text ≡ t ++ u → Puts bytes faults result s k s1 k2 text
puts_cut {bytes = bytes} {faults} {s} {s1} {k} {k1} {k2} {t} u text {failure} {result} failed err is = rw is
    (cut_of bytes faults s k s1 k1 k2 t u failure result failed err)

-- the same text in another form
pub puts_same : {S : Type 0} {bytes : S → List ℕ} {faults : S → ℕ} {s s1 : S} {k k1 t : List ℕ} (text : List ℕ)
    {result : Result (Unit {0}) Failed} → Puts bytes faults result s k s1 k1 t → text ≡ t
    → Puts bytes faults result s k s1 k1 text
puts_same text put is = rw is put

-- some of what is kept goes out, and then no more
pub puts_some : {S : Type 0} {bytes : S → List ℕ} {faults : S → ℕ} {s s1 : S} {failure : Failed} (k k1 : List ℕ) (n : ℕ)
    → bytes s1 ≡ bytes s ++ take n k → faults s ≤ faults s1 → Rose (faults s) (faults s1)
    → HasFailed bytes faults failure s k s1 k1 []
puts_some {bytes = bytes} {s = s} k k1 n out grew rose = record {
  ok = tt;
  cut = (
    drop n k,
    ap (λ w. w ++ drop n k) out ∙ append_assoc (bytes s) (take n k) (drop n k)
        ∙ ap (λ w. bytes s ++ w) (take-append-drop n k) ∙ sym (append-nil (bytes s ++ k)),
  );
  onward = (take n k, sym out);
  grows = grew;
  failed = rose;
  no_fault = tt;
}

-- what went out is a prefix of the text
prefix_from : (before after text : List ℕ) → Precedes before after → Precedes after (before ++ text) → HasPrefix before after text
prefix_from before after text onward cut =
    let out = onward.0 in
    let all : before ++ (out ++ cut.0) ≡ before ++ text = sym (append_assoc before out cut.0) ∙ ap (λ w. w ++ cut.0) onward.1 ∙ cut.1 in
    let parts : out ++ cut.0 ≡ text = append_cancel_left before (out ++ cut.0) text all in
    let front : take (length out) text ≡ out = ap (λ t. take (length out) t) (sym parts) ∙ take-append_seam out cut.0 in
    (length out, omega (arith, ap length parts, length-append out cut.0), sym onward.1 ∙ ap (λ t. before ++ t) (sym front))

prefix_by : {S : Type 0} (bytes : S → List ℕ) (faults : S → ℕ) (s s1 : S) (k k1 text : List ℕ)
    (result : Result (Unit {0}) Failed) → k ≡ [] → Puts bytes faults result s k s1 k1 text
    → OnErr result (HasPrefix (bytes s) (bytes s1) text)
prefix_by bytes faults s s1 k k1 text (Ok x) empty puts = tt
prefix_by bytes faults s s1 k k1 text (Err e) empty puts =
    let start : bytes s ++ k ≡ bytes s = ap (λ t. bytes s ++ t) empty ∙ append-nil (bytes s) in
    prefix_from (bytes s) (bytes s1) text puts.onward (puts.cut.0, puts.cut.1 ∙ ap (λ w. w ++ text) start)

all_by : {S : Type 0} (bytes : S → List ℕ) (faults : S → ℕ) (s s1 : S) (k k1 text : List ℕ)
    (result : Result (Unit {0}) Failed) → k ≡ [] → OnOk result (k1 ≡ []) → Puts bytes faults result s k s1 k1 text
    → OnOk result (bytes s1 ≡ bytes s ++ text)
all_by bytes faults s s1 k k1 text (Err e) empty out puts = tt
all_by bytes faults s s1 k k1 text (Ok x) empty out puts =
    let start : bytes s ++ k ≡ bytes s = ap (λ t. bytes s ++ t) empty ∙ append-nil (bytes s) in
    let end : bytes s1 ++ k1 ≡ bytes s1 = ap (λ t. bytes s1 ++ t) out ∙ append-nil (bytes s1) in
    sym end ∙ puts.ok ∙ ap (λ w. w ++ text) start

printed : {S : Type 0} {bytes : S → List ℕ} {faults : S → ℕ} {s s1 : S} {k k1 text : List ℕ}
    {result : Result (Unit {0}) Failed} → k ≡ [] → OnOk result (k1 ≡ []) → Puts bytes faults result s k s1 k1 text
    → PrintsText bytes faults result s s1 text
printed {bytes = bytes} {faults} {s} {s1} {k} {k1} {text} {result} empty out puts = record {
  ok = all_by bytes faults s s1 k k1 text result empty out puts;
  prefix = prefix_by bytes faults s s1 k k1 text result empty puts;
  grows = puts.grows;
  failed = puts.failed;
  no_fault = puts.no_fault;
}

cut_empty : (result : Result (Unit {0}) Failed) (k : List ℕ) → IsErr result → OnOk result (k ≡ [])
cut_empty (Ok x) k err = absurd (false≢true err)
cut_empty (Err e) k err = tt

-- a call that began with nothing kept back, put a text and then wrote out all that it kept
pub prints_all : {S : Type 0} {bytes : S → List ℕ} {faults : S → ℕ} {s s1 s2 : S} {k k1 k2 : List ℕ} (text : List ℕ)
    {result : Result (Unit {0}) Failed} → k ≡ [] → HasPut bytes faults s k s1 k1 text
    → Puts bytes faults result s1 k1 s2 k2 [] → OnOk result (k2 ≡ []) → PrintsText bytes faults result s s2 text
prints_all text empty first then out = printed empty out (puts_then text first then (sym (append-nil text)))

-- a call that began with nothing kept back, and failed while it put a text
pub prints_cut : {S : Type 0} {bytes : S → List ℕ} {faults : S → ℕ} {s s1 : S} {k k1 : List ℕ} (text : List ℕ)
    {failure : Failed} {result : Result (Unit {0}) Failed} → k ≡ [] → HasFailed bytes faults failure s k s1 k1 text
    → IsErr result → PrintsText bytes faults result s s1 text
prints_cut text {result = result} empty failed err =
    printed {k1 = []} empty (cut_empty result [] err) (puts_cut [] text failed err (sym (append-nil text)))
