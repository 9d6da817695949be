-- The loop in which a list is read.
use Rattle.std.specs.Prelude.{◌≤◌, Bool, List, Option}
use Rattle.swc_context.specs.declared.span.Span.{Span}
use Rattle.swc_input.specs.{declared.token.TokenAndSpan.TokenAndSpan, Source.Model, Buffer.to_come}
use Rattle.swc_ast.specs.{Tree.Tree, Tree.Trees, declared.spanned.Spanned.Ghosts}
use Rattle.swc_grammar.specs.{Scope.Scope, Clean.Out}
use Rattle.swc_nodes.specs.NodeParts.{Part}
use Rattle.swc_nodes.specs.GrowingNodes.{count, Apart, Grows}
use Rattle.swc_steps.specs.{declared.productions.Productions.Productions, Lists.left_behind, Parsing.On}

-- From p to q: of a list that `all` reads, items were read, and the comma after the last of them. Their parts lie apart
-- among nodes that were appended, and what is left is read at q.
pub record ItemsRead {S H F C K : Type 0} {fg : Ghosts F} {cg : Ghosts C} {kg : Ghosts K} (model : Model S)
    (sure : Bool)
    (all : Scope → List TokenAndSpan → Out (Tree F C K)) (items : Trees F C K) (parts : List Part)
    (comma : Option Span) (p q : Productions S H F C K fg cg kg) : Type 0 where
  pub on : On model sure all (left_behind all items comma) p.input q.input
  pub falls : to_come model q.input ≤ to_come model p.input
  pub grows : Grows p.nodes q.nodes
  pub apart : Apart (count p.nodes) q.nodes parts
