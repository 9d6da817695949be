use Rattle.swc_ast.specs.Trees.{block_e}
use Rattle.swc_steps.proofs.Building.{grows-kept}
use Rattle.swc_steps.proofs.Making as m
use Rattle.swc_steps.proofs.Steps as s
use Rattle.swc_arrows.proofs.Ends.{no_parts, block_splits}
use Rattle.swc_arrows.proofs.bodies.parse_block_body.Goals as goal

pub returns-in_err-block : goal.returns-in_err-block
returns-in_err-block g c =
    m.refused c.from_residual.ensures.1
    (s.unheard_call _ (block_splits g.B.BodyForms.forms g.B.Block.Spanned.place) c.in_err-block.ensures.reads)
    (grows-kept c.parse_block.ensures.nodes)

pub returns : goal.returns
returns g c =
    m.yes _ (s.heard_as (λ v. block_e (g.B.Block.Spanned.place v) v)
    (block_splits g.B.BodyForms.forms g.B.Block.Spanned.place)
    c.in_ok-block.ensures.reads)
    (grows-kept c.parse_block.ensures.nodes) (no_parts c.parse_block.ensures.nodes)
