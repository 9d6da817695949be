use Rattle.std.proofs.Common.{◌∙◌}
use Rattle.swc_nodes.proofs.PatternParts.{pat-expr-leads, pat-expr-span}
use Rattle.swc_nodes.proofs.nodes.Nodes.pat_extent.Goals as goal

pub extent-requires : goal.extent-requires
extent-requires g c = (pat-expr-leads c.in-PatExpr.expr c.in-PatExpr.is c.get.ensures c.requires.within).from

pub returns-in-PatExpr : goal.returns-in-PatExpr
returns-in-PatExpr g c =
    c.extent.ensures ∙ pat-expr-span c.in-PatExpr.expr c.in-PatExpr.is c.get.ensures c.requires.within
