use Rattle.swc_trees.proofs.Leaves.{this_tree, fn_tree, class_tree, meta_tree, private_expr_tree, ident_expr_tree, lit_expr_tree}
use Rattle.swc_trees.proofs.Assembled.{made-none, made-is}
use Rattle.swc_ast.specs.declared.lit.Lit.TheVariants as lit
use Rattle.swc_trees.proofs.assembling.assemble_expr.Goals as goal

pub returns-in-This : goal.returns-in-This
returns-in-This g c =
    made-is _ c.in-This.is (made-none (λ at. this_tree _ _ _ g.F.Spanned.place g.C.Spanned.place g.K.Spanned.place
    c.in-This.e))

pub returns-in-Fn : goal.returns-in-Fn
returns-in-Fn g c =
    made-is _ c.in-Fn.is (made-none (λ at. fn_tree _ _ _ g.F.Spanned.place g.C.Spanned.place g.K.Spanned.place
    c.in-Fn.f))

pub returns-in-Class : goal.returns-in-Class
returns-in-Class g c =
    made-is _ c.in-Class.is (made-none (λ at. class_tree _ _ _ g.F.Spanned.place g.C.Spanned.place g.K.Spanned.place
    c.in-Class.c))

pub returns-in-MetaProp : goal.returns-in-MetaProp
returns-in-MetaProp g c =
    made-is _ c.in-MetaProp.is (made-none (λ at. meta_tree _ _ _ g.F.Spanned.place g.C.Spanned.place g.K.Spanned.place
    c.in-MetaProp.m))

pub returns-in-PrivateName : goal.returns-in-PrivateName
returns-in-PrivateName g c =
    made-is _ c.in-PrivateName.is (made-none (λ at. private_expr_tree _ _ _ g.F.Spanned.place g.C.Spanned.place
    g.K.Spanned.place c.in-PrivateName.p))

pub returns-in-Ident : goal.returns-in-Ident
returns-in-Ident g c =
    made-is _ c.in-Ident.is (made-none (λ at. ident_expr_tree _ _ _ g.F.Spanned.place g.C.Spanned.place
    g.K.Spanned.place c.in-Ident.i))

pub returns-in-Str : goal.returns-in-Str
returns-in-Str g c =
    made-is _ c.in-Str.is (made-none (λ at. lit_expr_tree _ _ _ g.F.Spanned.place g.C.Spanned.place g.K.Spanned.place
    (lit.Str c.in-Str.s)))

pub returns-in-Bool : goal.returns-in-Bool
returns-in-Bool g c =
    made-is _ c.in-Bool.is (made-none (λ at. lit_expr_tree _ _ _ g.F.Spanned.place g.C.Spanned.place g.K.Spanned.place
    (lit.Bool c.in-Bool.b)))

pub returns-in-Null : goal.returns-in-Null
returns-in-Null g c =
    made-is _ c.in-Null.is (made-none (λ at. lit_expr_tree _ _ _ g.F.Spanned.place g.C.Spanned.place g.K.Spanned.place
    (lit.Null c.in-Null.l)))

pub returns-in-Num : goal.returns-in-Num
returns-in-Num g c =
    made-is _ c.in-Num.is (made-none (λ at. lit_expr_tree _ _ _ g.F.Spanned.place g.C.Spanned.place g.K.Spanned.place
    (lit.Num c.in-Num.l)))

pub returns-in-BigInt : goal.returns-in-BigInt
returns-in-BigInt g c =
    made-is _ c.in-BigInt.is (made-none (λ at. lit_expr_tree _ _ _ g.F.Spanned.place g.C.Spanned.place g.K.Spanned.place
    (lit.BigInt c.in-BigInt.l)))

pub returns-in-Regex : goal.returns-in-Regex
returns-in-Regex g c =
    made-is _ c.in-Regex.is (made-none (λ at. lit_expr_tree _ _ _ g.F.Spanned.place g.C.Spanned.place g.K.Spanned.place
    (lit.Regex c.in-Regex.r)))
