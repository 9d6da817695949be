use Rattle.std.proofs.Common.{◌≡◌, ◌∙◌, ◌≤◌, arith, length, take}
use Rattle.std.proofs.lemmas.List.{take_all}
use Rattle.swc_context.proofs.atom.Short.new.Goals as goal

-- all bytes of the text were copied
pub invariant_of-result : goal.invariant_of-result
invariant_of-result c =
    let n = length c.as_bytes-text.result.now in
    let fits : n ≤ 14 = rw c.as_bytes-text.ensures.value c.requires in
    let all : length c.args.text.now ≤ n = rw c.as_bytes-text.ensures.value (omega arith) in
    let full : c.loop-at.at ≡ n = omega (c.loop-at.auto.at-end, c.loop-at-test.false, arith) in
    let same : take n c.loop-at.bytes ≡ c.args.text.now =
    rw full at c.loop-at.invariant.0 ∙ take_all n c.args.text.now all in
    (fits, ∣ rw same c.utf8.text ∣₁)
