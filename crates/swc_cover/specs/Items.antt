-- Items in parentheses that become parameters.
use Rattle.std.specs.Prelude.{◌≡◌, ℕ, List, [], ◌∷◌, map, Option, Some, None}
use Rattle.swc_context.specs.declared.span.Span.{Span}
use Rattle.swc_ast.specs.Tree.{Trees, trees, array}
use Rattle.swc_ast.specs.{declared.expr.ExprOrSpread.ExprOrSpread, declared.spanned.Spanned.Ghosts}
use Rattle.swc_cover.specs.Wanted as wanted
use Rattle.swc_cover.specs.{Wanted.pat_elems, Wanted.want_parts, declared.items.Dotted.Dotted}
use Rattle.swc_nodes.specs.NodeParts.{expr_part, flat, one_pat}
use Rattle.swc_nodes.specs.{GrowingNodes.tree_at, GrowingNodes.Apart, declared.node.ExprId.ExprId, declared.node.PatId.PatId, declared.nodes.Nodes.Nodes, Roles.Due, declared.role.Role.Role}

-- what items become: as the elements of an array do that binds
abbrev pub want_items : {F C K : Type 0} → Trees F C K → Trees F C K
want_items ts = pat_elems (want_parts wanted.Array wanted.Bind array ts)

abbrev pub item_due : Role → ExprOrSpread ExprId → Due
item_due r x = record { part = expr_part x.expr; role = r }

-- the pattern of an item that is no spread, which keeps its number
abbrev pub listed_as : Option Span → ExprId → List PatId
listed_as None e = record { 0 = e.0 } ∷ []
listed_as (Some d) e = []

abbrev pub listed : ExprOrSpread ExprId → List PatId
listed x = listed_as x.spread x.expr

-- the last item, where it is a spread
abbrev pub dotted : Option Span → ExprId → Option Dotted
dotted None e = None
dotted (Some d) e = Some (record { dots = d; held = e })

abbrev pub last_rest : List (ExprOrSpread ExprId) → Option Dotted
last_rest [] = None
last_rest (x ∷ []) = dotted x.spread x.expr
last_rest (x ∷ y ∷ xs) = last_rest (y ∷ xs)

module _ {F C K : Type 0} {fg : Ghosts F} {cg : Ghosts C} {kg : Ghosts K} where
  -- patterns that lie apart, from the number k on, and what they stand for
  pub record AllMade (k : ℕ) (ms : Nodes F C K fg cg kg) (ps : List PatId) (ts : Trees F C K) : Type 0 where
    pub apart : Apart k ms (flat one_pat ps)
    pub stands : trees (map (λ (p : PatId). tree_at ms p.0) ps) ≡ ts
