-- What becomes of expressions that were put after all nodes, marked with their commas, and made into patterns.
use Rattle.std.proofs.Common.{◌≡◌, ℕ, ◌≤◌, Bool, true, false, List, take, Option, Some, None, Result, Ok, Err, IfOk, IfErr, refl, sym, ap, ◌∙◌, arith}
use Rattle.std.proofs.lemmas.List.{take_all, take-take}
use Rattle.std.specs.{Prelude.if◌then◌else◌, Option.is_some, declared.alloc.Global.Global, declared.boxed.Box.Box, declared.vec.Vec.Vec}
use Rattle.swc_context.specs.{declared.context.Context.Context, declared.error.Error.Error, declared.span.Span.Span}
use Rattle.swc_input.specs.{Buffer.context, Source.Model}
use Rattle.swc_ast.specs.Tree.{Tree, node, Trees, args, no_span}
use Rattle.swc_ast.specs.Trees.{is_valid, are_valid, items_of}
use Rattle.swc_ast.specs.{Parts.args_tree, declared.expr.Expr.Expr, declared.expr.ExprOrSpread.ExprOrSpread, declared.spanned.Spanned.Ghosts}
use Rattle.swc_grammar.specs.Cover.{binding, as_elements, arrow_params_ok}
use Rattle.swc_grammar.proofs.Marks.{same-valid}
use Rattle.swc_nodes.specs.Marking.{Marker, Marks, marked_by, all_marked_by}
use Rattle.swc_nodes.specs.NodeParts.{Part, expr_part, one_pat, pat_part, args_parts}
use Rattle.swc_nodes.specs.GrowingNodes.{count, first_at, seat_at, tree_at, Apart, From, Grows, Made}
use Rattle.swc_nodes.specs.{Lists.pats_parts, declared.node.ExprId.ExprId, declared.node.PatId.PatId, declared.nodes.Nodes.Nodes}
use Rattle.swc_nodes.proofs.Marked.{items, apart-marked, marks-apart, marks-from, unmarked-marked, all-unmarked-marked}
use Rattle.swc_nodes.proofs.{Chains.chain-down, Chains.floor-above, Held.apart-from, Held.from-down, Standing.cut_kept, Standing.grows-count}
use Rattle.swc_cover.specs.PatTypes.{fits_as, pattern_as, want_as}
use Rattle.swc_cover.specs.Refining.{Refined, Unrefined, RefinedItems, UnrefinedItems, items_at, items_floor, params_ok, pats_at, takes_arrow_params}
use Rattle.swc_cover.specs.{Items.want_items, Moving.KeptTo, Fits.Binding, Fits.elems_fit, declared.pat_type.PatType.PatType}
use Rattle.swc_cover.proofs.{Refines.expr-formed, Ties.pattern-is}
use Rattle.swc_steps.specs.Params.{pat_at}
use Rattle.swc_steps.specs.declared.productions.Productions.{Productions}
use Rattle.swc_trees.specs.Moving.{boxed_in}
use Rattle.swc_ecma_parser.specs.Calls.{buffer_of, nodes_of, tree_by}
use Rattle.swc_ecma_parser.specs.Refinement.{Recast, Recasts, Unrecast, boxed_items, params_among, marked_expr, marked_items, marks_of, params_of, pattern_of}
use Rattle.swc_ecma_parser.specs.declared.parser.Parser.{Parser}

-- ---- expressions that hold no `Invalid`

module _ {F C K : Type 0} where
  marked-valid : (m : Marker) (t : Tree F C K) → is_valid t ≡ true → is_valid (marked_by m t) ≡ true
  marked-valid m t h = sym (same-valid (marked_by m t)) ∙ ap (λ v. is_valid v) (unmarked-marked m t) ∙ same-valid t ∙ h

  marked-all-valid : (m : Marker) (ts : Trees F C K) → are_valid ts ≡ true → are_valid (all_marked_by m ts) ≡ true
  marked-all-valid m ts h =
      sym (same-valid (node args no_span (all_marked_by m ts))) ∙ ap (λ v. are_valid v) (all-unmarked-marked m ts)
      ∙ same-valid (node args no_span ts) ∙ h

-- ---- what is there, if it is

some-if : {A : Type 0} (b : Bool) (x : A) → is_some (if b then Some x else None) ≡ b
some-if true x = refl
some-if false x = refl

from-if : {A : Type 0} (b : Bool) (x y : A) → (if b then Some x else None) ≡ Some y → y ≡ x
from-if true x y h = cc
from-if false x y h = absurd cc

params-some : {F C K : Type 0} (c : Context) (o : Option (Trees F C K))
    → is_some (params_among c o) ≡ takes_arrow_params c o
params-some c None = refl
params-some c (Some ps) = some-if (arrow_params_ok c ps) ps

arrow-params-are : {F C K : Type 0} (c : Context) (o : Option (Trees F C K)) (ps : Trees F C K)
    → params_among c o ≡ Some ps → o ≡ Some ps
arrow-params-are c None ps h = absurd cc
arrow-params-are c (Some qs) ps h = ap (λ v. Some v) (sym (from-if (arrow_params_ok c qs) qs ps h))

module _ {F C K : Type 0} {fg : Ghosts F} {cg : Ghosts C} {kg : Ghosts K} where
  -- nodes that were there stay while others are put after them, marked and changed
  kept-through : {ns ms ls qs : Nodes F C K fg cg kg} {j : ℕ} {m : Marker} → Grows ns ms → Marks m (count ns) ms ls
      → count ns ≤ j → KeptTo j ls qs → KeptTo (count ns) ns qs
  kept-through {ns} {ms} {ls} {qs} {j} g w le k = record {
    kept =
        sym (take-take (count ns) j qs.nodes.items le) ∙ ap (take (count ns)) k.kept
        ∙ take-take (count ns) j ls.nodes.items le
        ∙ w.kept ∙ cut_kept g
        ∙ sym (take_all (count ns) ns.nodes.items (let same : count ns ≤ count ns = omega arith in same));
    above = let a = k.above in omega arith;
  }

  pub kept-put : {ns ms : Nodes F C K fg cg kg} → Grows ns ms → KeptTo (count ns) ns ms
  kept-put {ns} {ms} g = record {
    kept = cut_kept g ∙ sym (take_all (count ns) ns.nodes.items (let same : count ns ≤ count ns = omega arith in same));
    above = grows-count g;
  }

  apart-lower : {ns : Nodes F C K fg cg kg} {j k : ℕ} (ps : List Part) → j ≤ k → Apart k ns ps → Apart j ns ps
  apart-lower {ns} {j} {k} ps le a = record { chained = chain-down (seat_at ns) k j ps (count ns) le a.chained }

-- ---- an expression by its number

module _ {S H F C K : Type 0} {fg : Ghosts F} {cg : Ghosts C} {kg : Ghosts K} (model : Model S)
    (p q : Parser S H F C K fg cg kg) (pat_type : PatType) (id : ExprId)
    (from : From 0 (nodes_of p) (expr_part id)) where
  abbrev in_strict : Bool
  in_strict = (context model (buffer_of p)).strict

  abbrev read : Tree F C K
  read = tree_at (nodes_of p) id.0

  number-pattern : pattern_as in_strict pat_type read
      ≡ (if fits_as in_strict pat_type read then Some (want_as pat_type read) else None)
  number-pattern = pattern-is in_strict pat_type read (want_as pat_type read) (expr-formed id from) refl

  number-some : is_some (pattern_as in_strict pat_type read) ≡ fits_as in_strict pat_type read
  number-some = ap (λ o. is_some o) number-pattern ∙ some-if (fits_as in_strict pat_type read) (want_as pat_type read)

  pub recasts-number : (r : Result PatId Error)
      → IfOk r (λ pat. Refined model pat_type id p.productions pat q.productions)
      → IfErr r (λ x. Unrefined model pat_type id p.productions x q.productions)
      → Recasts model (is_valid read) (pattern_as in_strict pat_type read) (want_as pat_type read) pat_at one_pat
      (first_at (nodes_of p) id.0) p r q
  recasts-number (Ok pat) h k = record {
    checks = record {
      leads = h.checks.leads;
      passes = λ w. h.checks.passes (sym number-some ∙ w);
      notes = λ v w l. h.checks.notes v (sym number-some ∙ w) l;
    };
    kept = h.kept;
    apart = apart-from (pat_part pat) h.made.from;
    stands = h.made.stands;
    is = λ m w. from-if (fits_as in_strict pat_type read) (want_as pat_type read) m (sym number-pattern ∙ w);
  }
  recasts-number (Err x) h k = record {
    refuses = record { refuses = k.refuses.refuses; unfit = λ n. number-some ∙ k.refuses.unfit n };
    kept = k.kept;
  }

-- ---- what was put after all nodes

module _ {S H F C K : Type 0} {fg : Ghosts F} {cg : Ghosts C} {kg : Ghosts K} (model : Model S)
    (p q : Parser S H F C K fg cg kg)
    (ms ls : Nodes F C K fg cg kg) (grows : Grows (nodes_of p) ms) (marks : Marks (marks_of p) (count
    (nodes_of p)) ms ls) where
  abbrev asked : Productions S H F C K fg cg kg
  asked = record p.productions { nodes = ls }

  -- ---- one expression

  module _ (pat_type : PatType) (e : Box (Expr F C K) Global) (id : ExprId)
      (made : Made (count (nodes_of p)) ms (expr_part id) (boxed_in (nodes_of p) e)) where
    abbrev strict : Bool
    strict = (context model (buffer_of p)).strict

    pub from-put : From (count (nodes_of p)) ls (expr_part id)
    from-put = marks-from marks made.from

    pub tree-put : tree_at ls id.0 ≡ marked_expr p e
    tree-put = marks.stands (expr_part id) made.from ∙ ap (λ t. marked_by (marks_of p) t) made.stands

    pattern-put : pattern_of model pat_type e p
        ≡ (if fits_as strict pat_type (tree_at ls id.0) then Some (want_as pat_type (tree_at ls id.0)) else None)
    pattern-put =
        ap (λ t. pattern_as strict pat_type t) (sym tree-put)
        ∙ pattern-is strict pat_type (tree_at ls id.0) (want_as pat_type (tree_at ls id.0))
        (expr-formed id (from-down (let zero : 0 ≤ count (nodes_of p) = omega arith in zero) from-put)) refl

    is-some : is_some (pattern_of model pat_type e p) ≡ fits_as strict pat_type (tree_at ls id.0)
    is-some =
        ap (λ o. is_some o) pattern-put
        ∙ some-if (fits_as strict pat_type (tree_at ls id.0)) (want_as pat_type (tree_at ls id.0))

    pub recast-expr : (pat : PatId) → Refined model pat_type id asked pat q.productions
        → Recast model (is_valid (tree_by fg.place cg.place kg.place e)) (pattern_of model pat_type e p)
        (want_as pat_type (marked_expr p e))
        pat_at one_pat (count (nodes_of p)) p pat q
    recast-expr pat r =
        let h = r.checks in
        let low = from-put.above in
        record {
          checks = record {
            leads = h.leads;
            passes = λ w. h.passes (sym is-some ∙ w);
            notes = λ v w l. h.notes (ap (λ t. is_valid t) tree-put
                ∙ marked-valid (marks_of p) (tree_by fg.place cg.place kg.place e) v) (sym is-some ∙ w) l;
          };
          kept = kept-through grows marks low r.kept;
          apart = apart-lower (one_pat pat) low (apart-from (pat_part pat) r.made.from);
          stands = r.made.stands ∙ ap (λ t. want_as pat_type t) tree-put;
          is = λ m w.
              from-if (fits_as strict pat_type (tree_at ls id.0)) (want_as pat_type (tree_at ls id.0)) m
              (sym pattern-put ∙ w)
              ∙ ap (λ t. want_as pat_type t) tree-put;
        }

    pub unrecast-expr : (x : Error) → Unrefined model pat_type id asked x q.productions
        → Unrecast model (is_valid (tree_by fg.place cg.place kg.place e)) (pattern_of model pat_type e p)
        (want_as pat_type (marked_expr p e))
        pat_at one_pat (count (nodes_of p)) p x q
    unrecast-expr x r = record {
      refuses = record { refuses = r.refuses.refuses; unfit = λ n. is-some ∙ r.refuses.unfit n };
      kept = kept-through grows marks from-put.above r.kept;
    }

    pub recasts-expr : (r : Result PatId Error) → IfOk r (λ pat. Refined model pat_type id asked pat q.productions)
        → IfErr r (λ x. Unrefined model pat_type id asked x q.productions)
        → Recasts model (is_valid (tree_by fg.place cg.place kg.place e)) (pattern_of model pat_type e p)
        (want_as pat_type (marked_expr p e))
        pat_at one_pat (count (nodes_of p)) p r q
    recasts-expr (Ok pat) h k = recast-expr pat h
    recasts-expr (Err x) h k = unrecast-expr x k

  -- ---- the items of a list

  module _ (xs : Vec (ExprOrSpread (Box (Expr F C K) Global)) Global) (comma : Option Span) (ids : Vec
      (ExprOrSpread ExprId) Global)
      (apart : Apart (count (nodes_of p)) ms (args_parts ids))
      (same : args_tree (λ (id : ExprId). tree_at ms id.0) ids ≡ args_tree (boxed_in (nodes_of p)) xs) where
    abbrev where_read : Context
    where_read = context model (buffer_of p)

    pub apart-put : Apart (count (nodes_of p)) ls (args_parts ids)
    apart-put = marks-apart marks apart

    floor-put : count (nodes_of p) ≤ items_floor ls ids.items
    floor-put = floor-above (seat_at ls) (count (nodes_of p)) (args_parts ids) (count ls) apart-put.chained

    pub items-put : items_at ls ids.items ≡ marked_items p xs.items
    items-put =
        items (marks_of p) (tree_at ms) (tree_at ls) ids.items (apart-marked marks apart)
        ∙ ap (λ t. all_marked_by (marks_of p) (items_of t)) same

    params-put : is_some (params_of model xs.items comma p) ≡ params_ok where_read comma (items_at ls ids.items)
    params-put =
        params-some where_read (as_elements binding comma (marked_items p xs.items))
        ∙ ap (λ ts. params_ok where_read comma ts) (sym items-put)

    pub recast-items : (pats : Vec PatId Global) → RefinedItems model ids.items comma asked pats.items q.productions
        → Recast model (are_valid (boxed_items fg.place cg.place kg.place xs.items))
        (params_of model xs.items comma p) (want_items (marked_items p xs.items))
        (λ ns v. pats_at ns v.items) pats_parts (count (nodes_of p)) p pats q
    recast-items pats r =
        let h = r.checks in
        record {
          checks = record {
            leads = h.leads;
            passes = λ w. h.passes (sym params-put ∙ w);
            notes = λ v w l. h.notes (ap (λ ts. are_valid ts) items-put
                ∙ marked-all-valid (marks_of p) (boxed_items fg.place cg.place kg.place xs.items) v) (sym params-put
                ∙ w) l;
          };
          kept = kept-through grows marks floor-put r.kept;
          apart = apart-lower (pats_parts pats) floor-put r.made.apart;
          stands = r.made.stands ∙ ap (λ ts. want_items ts) items-put;
          is = λ m w.
              from-if (elems_fit Binding comma (items_at ls ids.items)) (pats_at (nodes_of q) pats.items) m
              (sym (ap (λ ts. as_elements binding comma ts) (sym items-put) ∙ r.params)
              ∙ arrow-params-are where_read (as_elements binding comma (marked_items p xs.items)) m w)
              ∙ r.made.stands ∙ ap (λ ts. want_items ts) items-put;
        }

    pub unrecast-items : (x : Error) → UnrefinedItems model ids.items comma asked x q.productions
        → Unrecast model (are_valid (boxed_items fg.place cg.place kg.place xs.items))
        (params_of model xs.items comma p) (want_items (marked_items p xs.items))
        (λ ns v. pats_at ns v.items) pats_parts (count (nodes_of p)) p x q
    unrecast-items x r = record {
      refuses = record { refuses = r.refuses.refuses; unfit = λ n. params-put ∙ r.refuses.unfit n };
      kept = kept-through grows marks floor-put r.kept;
    }

    pub recasts-items : (r : Result (Vec PatId Global) Error)
        → IfOk r (λ pats. RefinedItems model ids.items comma asked pats.items q.productions)
        → IfErr r (λ x. UnrefinedItems model ids.items comma asked x q.productions)
        → Recasts model (are_valid (boxed_items fg.place cg.place kg.place xs.items))
        (params_of model xs.items comma p) (want_items (marked_items p xs.items))
        (λ ns v. pats_at ns v.items) pats_parts (count (nodes_of p)) p r q
    recasts-items (Ok pats) h k = recast-items pats h
    recasts-items (Err x) h k = unrecast-items x k
