-- The loop in which the properties of an object pattern are read.
use Rattle.std.specs.Prelude.{◌≤◌, Bool, List, Option, map}
use Rattle.swc_context.specs.declared.span.Span.{Span}
use Rattle.swc_input.specs.{Source.Model, Buffer.to_come}
use Rattle.swc_ast.specs.{Tree.trees, declared.spanned.Spanned.Ghosts}
use Rattle.swc_bodies.specs.Readings.{Hook}
use Rattle.swc_grammar.specs.{Symbols.PatProps, Clean.sym, Clean.run}
use Rattle.swc_nodes.specs.GrowingNodes.{count, Apart, Grows}
use Rattle.swc_nodes.specs.{NodeParts.flat, NodeParts.pat_prop_parts, declared.node.PatPropNode.PatPropNode}
use Rattle.swc_steps.specs.{declared.productions.Productions.Productions, Parsing.On}
use Rattle.swc_patterns.specs.{Answers.pat_prop_at, Objects.pat_props_left}

-- From p to q: properties of an object pattern were read, and the comma after the last of them. Their parts lie apart
-- among nodes that were appended, and what is left is read at q.
pub record PatPropsRead {S H F C K : Type 0} {fg : Ghosts F} {cg : Ghosts C} {kg : Ghosts K} (model : Model S)
    (sure : Bool) (hook : Hook F C K) (props : List PatPropNode) (comma : Option Span)
    (p q : Productions S H F C K fg cg kg) : Type 0 where
  pub on : On model sure (run hook (sym PatProps))
      (pat_props_left hook (trees (map (pat_prop_at q.nodes) props)) comma) p.input q.input
  pub falls : to_come model q.input ≤ to_come model p.input
  pub grows : Grows p.nodes q.nodes
  pub apart : Apart (count p.nodes) q.nodes (flat pat_prop_parts props)
