-- Collecting the faults of strict code.
use Rattle.std.proofs.Common.{◌≡◌, ℕ, ◌+◌, ◌<◌, ◌≤◌, List, [], ◌++◌, length, get_or, drop, refl, sym, ap, ◌∙◌, append_assoc, append-nil}
use Rattle.swc_context.specs.declared.error.Error.{Error}
use Rattle.swc_input.specs.declared.token.TokenAndSpan.{TokenAndSpan}
use Rattle.swc_lexer.specs.Legacy.{legacy_of, legacy_faults, fault_list, FaultsTo}
use Rattle.swc_lexer.proofs.Lists.{drop_one, drop_none}

pub FaultsTo_begin : (ts : List TokenAndSpan) → FaultsTo ts 0 []
FaultsTo_begin ts = record { sum = refl }

pub FaultsTo_more : (ts : List TokenAndSpan) (i : ℕ) (x : TokenAndSpan) (es now : List Error) → FaultsTo ts i es
    → i < length ts → x ≡ get_or ts i x →
    now ≡ es ++ fault_list (legacy_of x) → FaultsTo ts (i + 1) now
FaultsTo_more ts i x es now f lt is added = record {
  sum = ap (λ l. l ++ legacy_faults (drop (i + 1) ts)) added ∙ append_assoc es (fault_list (legacy_of x))
      (legacy_faults (drop (i + 1) ts))
      ∙ ap (λ l. es ++ legacy_faults l) (sym (drop_one ts i x lt is)) ∙ f.sum;
}

pub FaultsTo_over : (ts : List TokenAndSpan) (i : ℕ) (es : List Error) → FaultsTo ts i es → length ts ≤ i
    → es ≡ legacy_faults ts
FaultsTo_over ts i es f over = sym (append-nil es) ∙ ap (λ l. es ++ legacy_faults l) (sym (drop_none ts i over)) ∙ f.sum
