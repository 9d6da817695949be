use Rattle.std.proofs.Common.{ap, ◌∙◌}
use Rattle.swc_ast.proofs.Equations.{array_tree, object_tree, seq_tree, member_expr_tree, super_prop_expr_tree, opt_chain_tree, tpl_expr_tree}
use Rattle.swc_trees.proofs.Leaves.{paren_expr_tree}
use Rattle.swc_nodes.specs.NodeParts.{flat, one_expr}
use Rattle.swc_trees.proofs.Assembled.{made-one, made-is, offers-along, offers-is}
use Rattle.swc_ast.specs.Tree.{array, object, seq, node, trees}
use Rattle.swc_trees.proofs.assembling.assemble_compound.Goals as goal

pub returns-in_ok-elems-in-Array : goal.returns-in_ok-elems-in-Array
returns-in_ok-elems-in-Array g c =
    made-is _ c.in-Array.is (made-one c.in_ok-elems-in-Array.ensures
    (λ at e. array_tree _ _ _ g.F.Spanned.place g.C.Spanned.place g.K.Spanned.place c.in-Array.span
    c.in_ok-elems-in-Array.elems ∙ ap (λ v. node array c.in-Array.span (trees v)) e))

pub returns-in_ok-props-in-Object : goal.returns-in_ok-props-in-Object
returns-in_ok-props-in-Object g c =
    made-is _ c.in-Object.is (made-one c.in_ok-props-in-Object.ensures
    (λ at e. object_tree _ _ _ g.F.Spanned.place g.C.Spanned.place g.K.Spanned.place c.in-Object.span
    c.in_ok-props-in-Object.props ∙ ap (λ v. node object c.in-Object.span (trees v)) e))

pub returns-in_ok-exprs-in-Seq : goal.returns-in_ok-exprs-in-Seq
returns-in_ok-exprs-in-Seq g c =
    made-is _ c.in-Seq.is (made-one c.in_ok-exprs-in-Seq.ensures
    (λ at e. seq_tree _ _ _ g.F.Spanned.place g.C.Spanned.place g.K.Spanned.place c.in-Seq.span
    c.in_ok-exprs-in-Seq.exprs ∙ ap (λ v. node seq c.in-Seq.span (trees v)) e))

pub returns-in-Paren : goal.returns-in-Paren
returns-in-Paren g c =
    made-is _ c.in-Paren.is (made-one c.paren.ensures (λ at e.
    paren_expr_tree _ _ _ g.F.Spanned.place g.C.Spanned.place g.K.Spanned.place c.paren.result ∙ e))

pub returns-in-Member : goal.returns-in-Member
returns-in-Member g c =
    made-is _ c.in-Member.is (made-one c.member.ensures
    (λ at e. member_expr_tree _ _ _ g.F.Spanned.place g.C.Spanned.place g.K.Spanned.place c.member.result ∙ e))

pub returns-in-SuperProp : goal.returns-in-SuperProp
returns-in-SuperProp g c =
    made-is _ c.in-SuperProp.is (made-one c.super_prop.ensures
    (λ at e. super_prop_expr_tree _ _ _ g.F.Spanned.place g.C.Spanned.place g.K.Spanned.place
    c.super_prop.result ∙ e))

pub returns-in_ok-chain-in-OptChain : goal.returns-in_ok-chain-in-OptChain
returns-in_ok-chain-in-OptChain g c =
    made-is _ c.in-OptChain.is (made-one c.in_ok-chain-in-OptChain.ensures
    (λ at e. opt_chain_tree _ _ _ g.F.Spanned.place g.C.Spanned.place g.K.Spanned.place
    c.in_ok-chain-in-OptChain.field-0 ∙ e))

pub template-requires : goal.template-requires
template-requires g c =
    offers-along (λ q. flat one_expr q.exprs.items) c.into_inner.ensures (offers-is c.in-Tpl.is c.requires.offers)

pub returns-in_ok-template-in-Tpl : goal.returns-in_ok-template-in-Tpl
returns-in_ok-template-in-Tpl g c =
    made-is _ c.in-Tpl.is (made-one (rw c.into_inner.ensures at c.in_ok-template-in-Tpl.ensures)
    (λ at e. tpl_expr_tree _ _ _ g.F.Spanned.place g.C.Spanned.place g.K.Spanned.place
    c.in_ok-template-in-Tpl.field-0 ∙ e))
