-- What a check of what is to become a pattern records, and what refinement makes of it.
use Rattle.std.specs.Prelude.{◌≡◌, ◌≢◌, ℕ, ◌<◌, Bool, true, false, List, [], map, Option, Some, None, if◌then◌else◌}
use Rattle.swc_context.specs.{declared.context.Context.Context, declared.error.Error.Error, declared.error.SyntaxError.TheVariants.OutOfMemory, declared.span.Span.Span}
use Rattle.swc_input.specs.{Buffer.context, Source.Model, declared.buffer.Buffer.Buffer}
use Rattle.swc_ast.specs.{Parts.item_trees, Tree.Trees, Tree.trees, Trees.is_valid, Trees.are_valid, declared.expr.ExprOrSpread.ExprOrSpread, declared.spanned.Spanned.Ghosts}
use Rattle.swc_cover.specs.PatTypes.{fits_as, want_as, pattern_as}
use Rattle.swc_cover.specs.{Fits.Binding, Fits.elems_fit, Items.want_items, Items.AllMade, Moving.KeptTo, declared.pat_type.PatType.PatType}
use Rattle.swc_grammar.specs.Cover.{binding, as_elements, arrow_params_ok}
use Rattle.swc_nodes.specs.NodeParts.{pat_part, flat, item_parts}
use Rattle.swc_nodes.specs.GrowingNodes.{count, seat_at, tree_at, first_at, Made}
use Rattle.swc_nodes.specs.{NumberedTrees.floor, declared.node.ExprId.ExprId, declared.node.PatId.PatId, declared.nodes.Nodes.Nodes}
use Rattle.swc_input.specs.Calls.{Leads, Loud, Refuses, recorded}
use Rattle.swc_steps.specs.declared.productions.Productions.{Productions}

module _ {S : Type 0} (model : Model S) where
  -- Where all is well, no fault is recorded and nothing consumed; one may be set waiting. Where it isn't, and no part
  -- is `Invalid`, for which a fault was recorded before, one is recorded.
  pub record ChecksWhole (whole well : Bool) (b c : Buffer S) : Type 0 where
    pub leads : Leads model b c
    pub passes : well ≡ true → (leads.taken ≡ []) × (recorded model c ≡ recorded model b)
    pub notes : whole ≡ true → well ≡ false → Loud model b → recorded model b < recorded model c

  -- a refusal where not all is well, except when out of memory
  pub record Unfitting (well : Bool) (b : Buffer S) (e : Error) (c : Buffer S) : Type 0 where
    pub refuses : Refuses model b e c
    pub unfit : e.kind ≢ OutOfMemory → well ≡ false

-- whether the items in parentheses are parameters, with a comma after them or not, and bind what they may
abbrev pub takes_arrow_params : {F C K : Type 0} → Context → Option (Trees F C K) → Bool
takes_arrow_params c None = false
takes_arrow_params c (Some ps) = arrow_params_ok c ps

abbrev pub params_ok : {F C K : Type 0} → Context → Option Span → Trees F C K → Bool
params_ok c comma ts = takes_arrow_params c (as_elements binding comma ts)

module _ {F C K : Type 0} {fg : Ghosts F} {cg : Ghosts C} {kg : Ghosts K} where
  abbrev pub items_at : Nodes F C K fg cg kg → List (ExprOrSpread ExprId) → Trees F C K
  items_at ns xs = item_trees (λ e. tree_at ns e.0) xs

  abbrev pub pats_at : Nodes F C K fg cg kg → List PatId → Trees F C K
  pats_at ns ps = trees (map (λ p. tree_at ns p.0) ps)

  -- the smallest number that is reached from items; that after all nodes, where there is no item
  abbrev pub items_floor : Nodes F C K fg cg kg → List (ExprOrSpread ExprId) → ℕ
  items_floor ns xs = floor (seat_at ns) (count ns) (flat item_parts xs)

module _ {S H F C K : Type 0} {fg : Ghosts F} {cg : Ghosts C} {kg : Ghosts K} (model : Model S) where
  -- whether the expression is a pattern of the kind, where the code is
  abbrev pub fits_at : PatType → ExprId → Productions S H F C K fg cg kg → Bool
  fits_at pat_type id p = fits_as (context model p.input).strict pat_type (tree_at p.nodes id.0)

  -- An expression was checked and refined: nodes below all that is reached from it stay, and where it is a pattern, the
  -- answer is it.
  pub record Refined (pat_type : PatType) (id : ExprId) (p : Productions S H F C K fg cg kg) (pat : PatId)
      (q : Productions S H F C K fg cg kg) : Type 0 where
    pub checks : ChecksWhole model (is_valid (tree_at p.nodes id.0)) (fits_at pat_type id p) p.input q.input
    pub kept : KeptTo (first_at p.nodes id.0) p.nodes q.nodes
    pub made : Made (first_at p.nodes id.0) q.nodes (pat_part pat) (want_as pat_type (tree_at p.nodes id.0))
    pub pattern : pattern_as (context model p.input).strict pat_type (tree_at p.nodes id.0)
        ≡ (if fits_at pat_type id p then Some (tree_at q.nodes pat.0) else None)

  pub record Unrefined (pat_type : PatType) (id : ExprId) (p : Productions S H F C K fg cg kg) (e : Error)
      (q : Productions S H F C K fg cg kg) : Type 0 where
    pub refuses : Unfitting model (fits_at pat_type id p) p.input e q.input
    pub kept : KeptTo (first_at p.nodes id.0) p.nodes q.nodes

  -- the same of items in parentheses that are to become parameters
  pub record RefinedItems (xs : List (ExprOrSpread ExprId)) (comma : Option Span) (p : Productions S H F C K fg cg kg)
      (pats : List PatId) (q : Productions S H F C K fg cg kg) : Type 0 where
    pub checks : ChecksWhole model (are_valid (items_at p.nodes xs))
        (params_ok (context model p.input) comma (items_at p.nodes xs)) p.input q.input
    pub kept : KeptTo (items_floor p.nodes xs) p.nodes q.nodes
    pub made : AllMade (items_floor p.nodes xs) q.nodes pats (want_items (items_at p.nodes xs))
    pub params : as_elements binding comma (items_at p.nodes xs)
        ≡ (if elems_fit Binding comma (items_at p.nodes xs) then Some (pats_at q.nodes pats) else None)

  pub record UnrefinedItems (xs : List (ExprOrSpread ExprId)) (comma : Option Span)
      (p : Productions S H F C K fg cg kg) (e : Error) (q : Productions S H F C K fg cg kg) : Type 0 where
    pub refuses : Unfitting model (params_ok (context model p.input) comma (items_at p.nodes xs)) p.input e q.input
    pub kept : KeptTo (items_floor p.nodes xs) p.nodes q.nodes
