-- What answers of productions of patterns hold of numbers, and which trees they stand for among nodes.
use Rattle.std.specs.Prelude.{◌≤◌, ℕ, Bool, List, Option, Some, None, Result, MatchResult, OnOk, IfOk, map}
use Rattle.swc_context.specs.declared.error.Error.{Error}
use Rattle.swc_input.specs.{declared.token.TokenAndSpan.TokenAndSpan, Source.Model, Buffer.to_come}
use Rattle.swc_ast.specs.Tree.{Tree, nil}
use Rattle.swc_ast.specs.{Trees.listed, declared.spanned.Spanned.Ghosts}
use Rattle.swc_grammar.specs.{Scope.Scope, Clean.Out}
use Rattle.swc_nodes.specs.GrowingNodes.{tree_at, From, Apart, Grows}
use Rattle.swc_nodes.specs.Lists.{pat_elem_parts, pat_props_parts, pat_props_trees}
use Rattle.swc_nodes.specs.NodeParts.{pat_part, pat_prop_parts}
use Rattle.swc_nodes.specs.{NodeTree.pat_prop_of as pat_prop_tree, declared.node.PatId.PatId, declared.node.PatPropNode.PatPropNode, declared.nodes.Nodes.Nodes}
use Rattle.swc_steps.specs.{Parsing.On, Parsing.Unheard, declared.productions.Productions.Productions, declared.tokens.Listed.Listed}
use Rattle.swc_steps.specs.Params.{pat_at}
use Rattle.swc_patterns.specs.Arrays.{put_elements}

module _ {F C K : Type 0} {fg : Ghosts F} {cg : Ghosts C} {kg : Ghosts K} where
  -- of a pattern
  abbrev pub pat_itself : ℕ → Nodes F C K fg cg kg → PatId → Type 0
  pat_itself k ns id = From k ns (pat_part id)

  -- of the elements of an array pattern, with holes among them, of which those at the end leave nothing
  abbrev pub pat_elems_of : ℕ → Nodes F C K fg cg kg → Listed (Option PatId) → Type 0
  pat_elems_of k ns l = Apart k ns (pat_elem_parts l.items)

  abbrev pub if_there : Nodes F C K fg cg kg → Option PatId → Option (Tree F C K)
  if_there ns None = None
  if_there ns (Some id) = Some (pat_at ns id)

  abbrev pub pat_elems_at : Nodes F C K fg cg kg → Listed (Option PatId) → Tree F C K
  pat_elems_at ns l = listed None l.end (put_elements (map (if_there ns) l.items.items) nil)

  -- of a property of an object pattern, or a rest among these; and of all of them
  abbrev pub pat_prop_of : ℕ → Nodes F C K fg cg kg → PatPropNode → Type 0
  pat_prop_of k ns x = Apart k ns (pat_prop_parts x)

  abbrev pub pat_prop_at : Nodes F C K fg cg kg → PatPropNode → Tree F C K
  pat_prop_at ns x = pat_prop_tree fg.place cg.place kg.place (tree_at ns) x

  abbrev pub pat_props_of : ℕ → Nodes F C K fg cg kg → Listed PatPropNode → Type 0
  pat_props_of k ns l = Apart k ns (pat_props_parts l.items)

  abbrev pub pat_props_at : Nodes F C K fg cg kg → Listed PatPropNode → Tree F C K
  pat_props_at ns l = listed l.trailing_comma l.end (pat_props_trees fg.place cg.place kg.place (tree_at ns) l.items)

module _ {S H F C K : Type 0} {fg : Ghosts F} {cg : Ghosts C} {kg : Ghosts K} (model : Model S) (sure : Bool)
    {T A : Type 0} (held : ℕ → Nodes F C K fg cg kg → T → Type 0) (f : Scope → List TokenAndSpan → Out A)
    (g : Nodes F C K fg cg kg → T → Scope → List TokenAndSpan → Out A) where
  -- What a production does from p to q that doesn't read all that f reads: from there on, reading f is reading g of the
  -- answer; nodes were appended alone, and the answer holds numbers from k on.
  pub record Leaves (k : ℕ) (p : Productions S H F C K fg cg kg) (r : Result T Error)
      (q : Productions S H F C K fg cg kg) : Type 0 where
    pub reads : MatchResult r (λ t. On model sure f (g q.nodes t) p.input q.input)
        (λ e. Unheard model sure f p.input e q.input)
    pub falls : OnOk r (to_come model q.input ≤ to_come model p.input)
    pub grows : Grows p.nodes q.nodes
    pub from : IfOk r (λ t. held k q.nodes t)
