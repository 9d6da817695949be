use Rattle.std.proofs.Common.{ap, ◌∙◌}
use Rattle.swc_ast.proofs.Equations.{array_target_tree, object_target_tree, simple_target_tree}
use Rattle.swc_ast.specs.Tree.{array, object, node, trees}
use Rattle.swc_trees.proofs.Assembled.{made-none, made-one, made-is}
use Rattle.swc_trees.proofs.assembling.assemble_target.Goals as goal
use Rattle.swc_ast.specs.declared.expr.SimpleAssignTarget.TheVariants as simple

pub returns-in_ok-elems-in-PatArray : goal.returns-in_ok-elems-in-PatArray
returns-in_ok-elems-in-PatArray g c =
    made-is _ c.in-PatArray.is (made-one c.in_ok-elems-in-PatArray.ensures
    (λ at e. array_target_tree _ _ _ g.F.Spanned.place g.C.Spanned.place g.K.Spanned.place c.in-PatArray.span
    c.in_ok-elems-in-PatArray.elems ∙ ap (λ v. node array c.in-PatArray.span (trees v)) e))

pub returns-in_ok-props-in-PatObject : goal.returns-in_ok-props-in-PatObject
returns-in_ok-props-in-PatObject g c =
    made-is _ c.in-PatObject.is (made-one c.in_ok-props-in-PatObject.ensures
    (λ at e. object_target_tree _ _ _ g.F.Spanned.place g.C.Spanned.place g.K.Spanned.place c.in-PatObject.span
    c.in_ok-props-in-PatObject.props ∙ ap (λ v. node object c.in-PatObject.span (trees v)) e))

pub returns-in-Ident : goal.returns-in-Ident
returns-in-Ident g c =
    made-is _ c.in-Ident.is (made-none (λ at. simple_target_tree _ _ _ g.F.Spanned.place g.C.Spanned.place
    g.K.Spanned.place (simple.Ident (record { id = c.in-Ident.id }))))

pub returns-in-Member : goal.returns-in-Member
returns-in-Member g c =
    made-is _ c.in-Member.is (made-one c.member.ensures (λ at e. simple_target_tree _ _ _ g.F.Spanned.place
    g.C.Spanned.place g.K.Spanned.place (simple.Member c.member.result) ∙ e))

pub returns-in-SuperProp : goal.returns-in-SuperProp
returns-in-SuperProp g c =
    made-is _ c.in-SuperProp.is (made-one c.super_prop.ensures (λ at e. simple_target_tree _ _ _ g.F.Spanned.place
    g.C.Spanned.place g.K.Spanned.place (simple.SuperProp c.super_prop.result) ∙ e))

pub returns-in-Paren : goal.returns-in-Paren
returns-in-Paren g c =
    made-is _ c.in-Paren.is (made-one c.paren.ensures (λ at e. simple_target_tree _ _ _ g.F.Spanned.place
    g.C.Spanned.place g.K.Spanned.place (simple.Paren c.paren.result) ∙ e))

pub returns-in_ok-chain-in_default : goal.returns-in_ok-chain-in_default
returns-in_ok-chain-in_default g c =
    made-is _ (rw c.unwrap.ensures at c.into_chain.ensures) (made-one c.in_ok-chain-in_default.ensures
    (λ at e. simple_target_tree _ _ _ g.F.Spanned.place g.C.Spanned.place g.K.Spanned.place
    (simple.OptChain c.in_ok-chain-in_default.chain) ∙ e))
