use Rattle.std.specs.Prelude.{[], ◌∷◌, ◌++◌}
use Rattle.swc_input.specs.{Plain.plain, Laws.Read-then, Laws.Read-still}
use Rattle.lower_rows.proofs.hooks.read_on.Goals as goal

pub loop-input-preserved : goal.loop-input-preserved
loop-input-preserved g c =
    let laws = g.met.I.Tokens.laws in
    let now = c.args.input.now in
    let took = c.consume.ensures.took in
    let last = c.had_line_break_before_cur-in-loop-input.new.self in
    let one = Read-still laws c.loop-input.input c.consume.new.input last
    (plain took.0 ∷ []) took.1 c.had_line_break_before_cur-in-loop-input.ensures.looked.look.read in (
      c.loop-input.invariant.0 ++ plain took.0 ∷ [],
      Read-then laws now c.loop-input.input last c.loop-input.invariant.0
          (plain took.0 ∷ []) c.loop-input.invariant.1 one,
    )
