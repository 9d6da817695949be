-- A list in parentheses that was read (13.2.9), in whatever scope these are closed: the first of its items begins, and
-- the last one ends, where their places say.
use Rattle.std.proofs.Common.{◌≡◌, ℕ, true, false, if◌then◌else◌, List, [], ◌∷◌, Option, Some, None, map, refl, sym, ap, subst, ◌∙◌}
use Rattle.swc_context.specs.declared.span.Span.{Span}
use Rattle.swc_input.specs.declared.token.TokenAndSpan.{TokenAndSpan}
use Rattle.swc_ast.specs.Tree.{Tree, Trees, trees, span_of}
use Rattle.swc_ast.specs.Trees.{is_valid, are_valid, to, seq_of, paren_e, paren_ok}
use Rattle.swc_ast.specs.{Parts.item_of, Parts.item_tree, declared.expr.ExprOrSpread.ExprOrSpread, declared.spanned.Spanned.Ghosts}
use Rattle.swc_bodies.specs.Readings.{Hook, LawfulHook}
use Rattle.swc_grammar.specs.{Scope.Scope, Symbols.Args, Tokens.with_in}
use Rattle.swc_nodes.specs.NodeParts.{flat, one_expr, args_parts}
use Rattle.swc_nodes.specs.GrowingNodes.{count, seat_at, first_start, last_end, Apart}
use Rattle.swc_nodes.specs.{Lists.seq_between, NumberedTrees.chain, declared.node.ExprId.ExprId, declared.nodes.Nodes.Nodes}
use Rattle.swc_nodes.proofs.{Chains.both_true, Chains.true_both, Sequences.held-trees, Sequences.held-parts}
use Rattle.swc_steps.specs.Args.{args_inside, paren_closed, paren_of, paren_from}
use Rattle.swc_steps.specs.{Parsing.tree_of, Parsing.args_at, declared.tokens.Listed.Listed}
use Rattle.swc_steps.proofs.{Args.inside_args, Endings.read-valid, Endings.seq-clean}

module _ {F C K : Type 0} where
  item_valid : (s : Option Span) (t : Tree F C K) → is_valid (item_of s t) ≡ true → is_valid t ≡ true
  item_valid None t h = (both_true {b = true} h).0
  item_valid (Some d) t h = (both_true {b = true} h).0

  held_valid : (by : ExprId → Tree F C K) (xs : List (ExprOrSpread ExprId))
      → are_valid (trees (map (item_tree by) xs)) ≡ true → are_valid (trees (map by (map (λ x. x.expr) xs))) ≡ true
  held_valid by [] h = refl
  held_valid by (x ∷ xs) h =
      let b = both_true {a = is_valid (item_tree by x)} h in
      true_both (item_valid x.spread (by x.expr) b.0) (held_valid by xs b.1)

module _ {F C K : Type 0} {fg : Ghosts F} {cg : Ghosts C} {kg : Ghosts K} (hook : Hook F C K)
    (lawful : LawfulHook fg.place cg.place kg.place hook) where
  pub closed_clean : {ns : Nodes F C K fg cg kg} {k : ℕ} (s : Span) (list : Listed (ExprOrSpread ExprId)) (y : Scope)
      (vs us : List TokenAndSpan) → Apart k ns (args_parts list.items)
      → args_inside hook false y vs ≡ Some (args_at ns list, us) → (x : Scope) (ts : List TokenAndSpan)
      → paren_closed (paren_of x s (args_at ns list)) ts
      ≡ paren_closed (paren_from (first_start ns (map (λ e. e.expr) list.items.items))
      (last_end ns (map (λ e. e.expr) list.items.items)) x s (args_at ns list)) ts
  closed_clean {ns} {k} s list y vs us a h x ts =
      let items = list.items.items in
      let xs = map (λ (e : ExprOrSpread ExprId). e.expr) items in
      let es = args_at ns list in
      let ok = read-valid hook lawful (Args false) (with_in y) vs us es (sym (inside_args hook false y vs) ∙ h) in
      let apart : Apart k ns (flat one_expr xs) =
      record { chained = ap (λ v. chain (seat_at ns) k v (count ns)) (held-parts items) ∙ a.chained } in
      let Same : Trees F C K → Type 0 = λ hs. seq_of hs ≡ seq_between (first_start ns xs) (last_end ns xs) hs in
      let same = subst Same (held-trees (tree_of ns) items) (seq-clean xs apart (held_valid (tree_of ns) items ok)) in
      ap (λ v. paren_closed (λ ws. if paren_ok x.syntax.pedantic es then Some (paren_e (to s (span_of es)) v, ws) else
      None) ts) same
