-- What was checked and refined: the pattern that the expression is, where nothing was recorded.
use Rattle.std.proofs.Common.{◌≡◌, ℕ, List, Option, Some, None, sym, ap, subst, ◌∙◌}
use Rattle.std.specs.Prelude.{if◌then◌else◌}
use Rattle.swc_context.specs.{declared.error.Error.Error, declared.span.Span.Span}
use Rattle.swc_input.specs.{Buffer.context, Source.Model, declared.buffer.Buffer.Buffer}
use Rattle.swc_ast.specs.Tree.{array}
use Rattle.swc_ast.specs.{Trees.is_valid, Trees.are_valid, declared.expr.ExprOrSpread.ExprOrSpread, declared.spanned.Spanned.Ghosts}
use Rattle.swc_grammar.specs.Cover.{binding, as_elements}
use Rattle.swc_cover.proofs.Formed.{Formed, AllFormed, part-formed, items-formed}
use Rattle.swc_cover.proofs.{Bound.params-are, Checked.whole-then, Fitting.chain-in, Ties.pattern-is, Ties.as-elems-is}
use Rattle.swc_cover.specs.Refining.{ChecksWhole, Unfitting, Refined, RefinedItems, fits_at, items_at, pats_at, items_floor, params_ok, takes_arrow_params}
use Rattle.swc_cover.specs.{Fits.Binding, Fits.elems_fit, ReservedNames.names_ok, Items.want_items, Items.AllMade, Moving.KeptTo, PatTypes.want_as, declared.pat_type.PatType.PatType}
use Rattle.swc_nodes.specs.NodeParts.{expr_part, pat_part, flat, item_parts}
use Rattle.swc_nodes.specs.GrowingNodes.{count, seat_at, tree_at, first_at, Apart, From, Made}
use Rattle.swc_nodes.specs.{declared.node.ExprId.ExprId, declared.node.PatId.PatId, declared.nodes.Nodes.Nodes}
use Rattle.swc_input.specs.Calls.{Checks}
use Rattle.swc_steps.specs.declared.productions.Productions.{Productions}

module _ {F C K : Type 0} {fg : Ghosts F} {cg : Ghosts C} {kg : Ghosts K} where
  pub expr-formed : {ns : Nodes F C K fg cg kg} (id : ExprId) → From 0 ns (expr_part id) → Formed (tree_at ns id.0)
  expr-formed {ns} id f = part-formed ns (expr_part id) f

  pub items-all : {ns : Nodes F C K fg cg kg} (xs : List (ExprOrSpread ExprId)) → Apart 0 ns (flat item_parts xs) →
      AllFormed (items_at ns xs)
  items-all {ns} xs a =
      items-formed (tree_at ns) xs
      (λ p i. let c = chain-in (seat_at ns) 0 (count ns) (flat item_parts xs) p i a.chained in let w = c.0 in
      let f = c.1 in
      part-formed ns p (record { within = w; above = f.above; first = f.first; view = f.view }))

  pub elements-are : {ns ms : Nodes F C K fg cg kg} {k : ℕ} (comma : Option Span) (xs : List (ExprOrSpread ExprId))
      (ps : List PatId) → Apart 0 ns (flat item_parts xs) →
      AllMade k ms ps (want_items (items_at ns xs)) → as_elements binding comma (items_at ns xs) ≡
      (if elems_fit Binding comma (items_at ns xs) then Some (pats_at ms ps) else None)
  elements-are {ns} {ms} comma xs ps a m =
      as-elems-is Binding comma array (items_at ns xs) (items-all xs a)
      ∙ ap (λ v. if elems_fit Binding comma (items_at ns xs) then Some v else None) (sym m.stands)

module _ {S F C K : Type 0} {fg : Ghosts F} {cg : Ghosts C} {kg : Ghosts K} {model : Model S} where
  -- the check of items, and then of the names that they bind
  pub items-whole : {b c d : Buffer S} {ns ms : Nodes F C K fg cg kg} {k : ℕ} (comma : Option Span)
      (xs : List (ExprOrSpread ExprId)) (ps : List PatId) → Apart 0 ns (flat item_parts xs) →
      AllMade k ms ps (want_items (items_at ns xs)) → ChecksWhole model (are_valid (items_at ns xs))
      (elems_fit Binding comma (items_at ns xs)) b c →
      Checks model (names_ok (context model c) (pats_at ms ps)) c d →
      ChecksWhole model (are_valid (items_at ns xs)) (params_ok (context model b) comma (items_at ns xs)) b d
  items-whole {b} {c} {d} {ns} {ms} comma xs ps a m h k =
      let same : Checks model (names_ok (context model b) (pats_at ms ps)) c d = subst
      (λ v. Checks model (names_ok v (pats_at ms ps)) c d) h.leads.read.context k in
      subst (λ v. ChecksWhole model (are_valid (items_at ns xs)) v b d)
      (sym (params-are (context model b) comma (items_at ns xs) (pats_at ms ps) (elements-are comma xs ps a m)))
      (whole-then (elems_fit Binding comma (items_at ns xs)) (names_ok (context model b) (pats_at ms ps)) h same)

  -- items that are no parameters are refused where they are no patterns
  pub items-unfit : {b c : Buffer S} {e : Error} {ns : Nodes F C K fg cg kg} (comma : Option Span)
      (xs : List (ExprOrSpread ExprId)) → Apart 0 ns (flat item_parts xs) →
      Unfitting model (elems_fit Binding comma (items_at ns xs)) b e c →
      Unfitting model (params_ok (context model b) comma (items_at ns xs)) b e c
  items-unfit {b} {c} {e} {ns} comma xs a u = record {
    refuses = u.refuses;
    unfit = λ n.
        ap (takes_arrow_params (context model b)) (as-elems-is Binding comma array (items_at ns xs) (items-all xs a)
        ∙ ap (λ v. if v then Some (want_items (items_at ns xs)) else None) (u.unfit n));
  }

module _ {S H F C K : Type 0} {fg : Ghosts F} {cg : Ghosts C} {kg : Ghosts K} {model : Model S} where
  pub refined-is : {p q : Productions S H F C K fg cg kg} (t : PatType) (id : ExprId) (pat : PatId) →
      From 0 p.nodes (expr_part id) →
      ChecksWhole model (is_valid (tree_at p.nodes id.0)) (fits_at model t id p) p.input q.input →
      KeptTo (first_at p.nodes id.0) p.nodes q.nodes →
      Made (first_at p.nodes id.0) q.nodes (pat_part pat) (want_as t (tree_at p.nodes id.0)) →
      Refined model t id p pat q
  refined-is {p} {q} t id pat f h k m = record {
    checks = h;
    kept = k;
    made = m;
    pattern = pattern-is (context model p.input).strict t (tree_at p.nodes id.0) (tree_at q.nodes pat.0)
        (expr-formed id f) m.stands;
  }

  pub items-refined : {p q : Productions S H F C K fg cg kg} {c : Buffer S} (comma : Option Span)
      (xs : List (ExprOrSpread ExprId)) (ps : List PatId) → Apart 0 p.nodes (flat item_parts xs) →
      ChecksWhole model (are_valid (items_at p.nodes xs)) (elems_fit Binding comma (items_at p.nodes xs)) p.input c →
      Checks model (names_ok (context model c) (pats_at q.nodes ps)) c q.input →
      KeptTo (items_floor p.nodes xs) p.nodes q.nodes → AllMade (items_floor p.nodes xs) q.nodes ps
      (want_items (items_at p.nodes xs)) → RefinedItems model xs comma p ps q
  items-refined {p} {q} comma xs ps a h k kept m = record {
    checks = items-whole comma xs ps a m h k;
    kept = kept;
    made = m;
    params = elements-are comma xs ps a m;
  }
