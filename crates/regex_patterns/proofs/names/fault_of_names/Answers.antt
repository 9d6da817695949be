use Rattle.std.proofs.Common.{◌+◌, sym, ap, ◌∙◌, true, false, refl, reverse, drop}
use Rattle.std.specs.Prelude.{slice_index_or}
use Rattle.std.specs.String.{string_bytes}
use Rattle.std.specs.HashMap.{get_by_text}
use Rattle.regex_patterns.specs.Conditions.{apart_from, excludes, put, name_at, frames_after}
use Rattle.regex_patterns.proofs.Distinct.{passes_unnamed, passes_named, passes_all, agree}
use Rattle.regex_patterns.proofs.names.fault_of_names.Goals as goal
use Rattle.regex_patterns.proofs.names.fault_of_names.Goals.{then-is_named+in_ok-name+in_ok-is_excluded+else-branch, else-is_named}

pub returns-then-branch : goal.returns-then-branch
returns-then-branch c =
    let fs = reverse c.loop-number.frames.items in let f = get_by_text c.loop-number.last in
    let off = sym c.loop-number.invariant
    ∙ passes_named c.args.units.now fs f c.loop-number.number c.args.pieces.now _ c.loop-number-test.true (sym c.if-is_named.ensures) true
    (ap (λ n. excludes fs (f n)) (sym c.in_ok-name.ensures)
    ∙ ap (λ gs. excludes (reverse gs) (f (string_bytes c.in_ok-name.name))) (sym c.deref.ensures.value)
    ∙ sym c.in_ok-is_excluded.ensures.value ∙ c.if-branch.true) in
    ((λ e. let bad : ⊥ = cc in absurd bad), λ e. let bad : ⊥ = (let k = sym off ∙ e in cc) in absurd bad)

pub loop-number-preserved : goal.loop-number-preserved
loop-number-preserved c =
    let fs = reverse c.loop-number.frames.items in let f = get_by_text c.loop-number.last in
    let us = c.args.units.now in let i = c.loop-number.number in let rest = drop (i + 1) c.args.pieces.now in
    ap (λ gs. apart_from us gs (get_by_text c.if-is_named.last) (i + 1) rest) c.in_ok-pass.ensures
    ∙ (elim c.if-is_named.branch [
      | then-is_named+in_ok-name+in_ok-is_excluded+else-branch w ↦
          agree us (frames_after (i + 1) (slice_index_or c.args.pieces.now i _).piece fs) (get_by_text c.if-is_named.last)
          (put f (name_at us (slice_index_or c.args.pieces.now i _).at) i) (i + 1) rest
          (λ q. ap (λ m. get_by_text m q) w.last-is ∙ w.in_ok-is_excluded.ensures.put q ∙ ap (λ n. put f n i q) w.in_ok-name.ensures)
          ∙ sym (passes_named us fs f i c.args.pieces.now _ c.loop-number-test.true (sym w.if-is_named.ensures) false
          (ap (λ n. excludes fs (f n)) (sym w.in_ok-name.ensures)
          ∙ ap (λ gs. excludes (reverse gs) (f (string_bytes w.in_ok-name.name))) (sym w.deref.ensures.value)
          ∙ sym w.in_ok-is_excluded.ensures.value ∙ w.if-branch.false))
      | else-is_named w ↦
          agree us _ (get_by_text c.if-is_named.last) f (i + 1) rest (λ q. ap (λ m. get_by_text m q) w.last-is)
          ∙ sym (passes_unnamed us fs f i c.args.pieces.now _ c.loop-number-test.true (sym w.if-is_named.ensures))
    ])
    ∙ c.loop-number.invariant

pub returns : goal.returns
returns c = (
  (λ e. sym c.loop-number.invariant
      ∙ passes_all c.args.units.now (reverse c.loop-number.frames.items) (get_by_text c.loop-number.last) c.loop-number.number c.args.pieces.now c.loop-number-test.false),
  λ e. refl,
)
