use Rattle.swc_nodes.specs.NodeParts.{args_parts}
use Rattle.swc_steps.proofs.Refused.{err_is}
use Rattle.swc_steps.proofs.Building.{apart-down}
use Rattle.swc_ecma_parser.proofs.ArrowParams.{params-made, params-unread}
use Rattle.swc_ecma_parser.proofs.arrow_params.parse_arrow_params.Goals as goal

pub returns-in_err-list : goal.returns-in_err-list
returns-in_err-list g c =
    rw (err_is c.from_residual.ensures.1) (params-unread g.B.BodyForms.forms {m =
    c.parse_arguments.new.p} c.in_err-list.ensures.reads c.parse_arguments.ensures.grows)

pub parse_paren_items_as_params-requires : goal.parse_paren_items_as_params-requires
parse_paren_items_as_params-requires g c = apart-down (args_parts c.in_ok-list.list.items) c.in_ok-list.ensures.from

pub returns : goal.returns
returns g c =
    let read = c.in_ok-list.ensures in
    let made = c.parse_paren_items_as_params.ensures in
    params-made g.B.BodyForms.forms g.met.B.Bodies.lawful c.parse_arguments.new.p c.in_ok-list.list
    c.parse_paren_items_as_params.result read.reads c.parse_arguments.ensures.grows read.from made.refined
    made.unrefined
    made.exact made.unclear
