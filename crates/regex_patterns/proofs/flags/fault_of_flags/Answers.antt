use Rattle.std.proofs.Common.{◌≡◌, ap, sym, ◌∙◌, refl, false, [], arith, take, inl, inr}
use Rattle.std.specs.Prelude.{slice_index_or}
use Rattle.regex_patterns.specs.Patterns.{are_flags, can_follow}
use Rattle.regex_patterns.proofs.Bytes.{split}
use Rattle.regex_patterns.proofs.Counts.{flags_on, flags_off, flags_over}
use Rattle.regex_patterns.proofs.flags.fault_of_flags.Goals as goal

pub returns-in-Some : goal.returns-in-Some
returns-in-Some c =
    let bs = c.as_bytes-flags.result.now in let i = c.loop-at.at in
    let off : can_follow (take i bs) (slice_index_or bs i 0) ≡ false = elim (split (can_follow (take i bs) (slice_index_or bs i 0))) [
      | inl is ↦ (let none = c.fault_after.ensures.1 is in let bad : ⊥ = (let a = sym none ∙ c.in-Some.is in cc) in absurd bad)
      | inr is ↦ is
    ] in
    let false-all : are_flags [] c.args.flags.now ≡ false =
    ap (are_flags []) (sym c.as_bytes-flags.ensures.value) ∙ sym c.loop-at.invariant.left ∙ flags_off bs i c.loop-at-test.true off in
    ((λ e. let bad : ⊥ = cc in absurd bad), λ e. let bad : ⊥ = (let a = sym false-all ∙ e in cc) in absurd bad)

pub loop-at-preserved : goal.loop-at-preserved
loop-at-preserved c = record {
  within = omega (arith, c.loop-at-test.true);
  left = flags_on c.as_bytes-flags.result.now c.loop-at.at c.loop-at-test.true (c.fault_after.ensures.0 c.in_default.is) ∙ c.loop-at.invariant.left;
}

pub returns : goal.returns
returns c = (
  (λ e. ap (are_flags []) (sym c.as_bytes-flags.ensures.value) ∙ sym c.loop-at.invariant.left
      ∙ flags_over c.as_bytes-flags.result.now c.loop-at.at c.loop-at-test.false),
  λ e. refl,
)
