-- A pattern, and its initialiser (14.3.3).
use Rattle.std.proofs.Common.{◌≡◌, Bool, List, Some, Result, Ok, refl, sym, ap, ◌∙◌, ℕ}
use Rattle.swc_context.specs.{Spans.from_to, declared.error.Error.Error}
use Rattle.swc_input.specs.{declared.token.TokenAndSpan.TokenAndSpan, Source.Model}
use Rattle.swc_ast.specs.{Patterns.default_p, Tree.Tree, Tree.span_of, Trees.to, declared.spanned.Spanned.Ghosts}
use Rattle.swc_bodies.specs.Readings.{Hook, LawfulHook}
use Rattle.swc_grammar.specs.{Scope.Scope, Symbols.Assign, Tokens.with_in, Words.◌>>=◌}
use Rattle.swc_nodes.specs.GrowingNodes.{count, end_at, first_at, From}
use Rattle.swc_nodes.specs.{NodeParts.pat_part, declared.node.ExprId.ExprId, declared.node.PatId.PatId}
use Rattle.swc_nodes.proofs.Held.{from-down, from-later, tree-later}
use Rattle.swc_steps.specs.Parsing.{Produces, GoesOn, itself, tree_of}
use Rattle.swc_steps.specs.{Readers.inside, declared.productions.Productions.Productions}
use Rattle.swc_steps.proofs.{Endings.ended, Rules.inside_assign}
use Rattle.swc_steps.proofs.Making as m
use Rattle.swc_steps.specs.Params.{pat_at}
use Rattle.swc_patterns.specs.{Answers.pat_itself, Arrays.default_value}

module _ {F C K : Type 0} (hook : Hook F C K) where
  pub default_value_splits : (l : Tree F C K) (x : Scope) (ts : List TokenAndSpan) → default_value hook l x ts
      ≡ (inside hook x ts >>= (λ p. Some (default_p (to (span_of l) (span_of p.0)) l p.0, p.1)))
  unfolding default_value
  default_value_splits l x ts = refl

-- the pattern with the initialiser that was read after its `=`
module _ {S H F C K : Type 0} {fg : Ghosts F} {cg : Ghosts C} {kg : Ghosts K} {model : Model S} {sure : Bool}
    (hook : Hook F C K) (lawful : LawfulHook fg.place cg.place kg.place hook) where
  pub default_read : {k : ℕ} {p q o : Productions S H F C K fg cg kg} (left : PatId) (value : ExprId)
      (r : Result PatId Error) → From k p.nodes (pat_part left)
      → Produces model sure itself tree_of (inside hook) (count p.nodes) p (Ok value) q
      → GoesOn model sure pat_itself pat_at (λ x ts. Some (
        default_p
            (from_to (span_of (pat_at q.nodes left)).lo (end_at q.nodes value.0))
            (pat_at q.nodes left) (tree_of q.nodes value),
        ts,
      )) (first_at q.nodes left.0) q r o
      → GoesOn model sure pat_itself pat_at (default_value hook (pat_at p.nodes left)) k p r o
  default_read {p = p} {q = q} left value r from inner made =
      let l = pat_at p.nodes left in
      let v = tree_of q.nodes value in
      let above = (from-later inner.grows from).above in
      m.weaker r (m.call_read r (λ x t. Some (default_p (to (span_of l) (span_of t.0)) l t.0, t.1))
      (λ x ts. default_value_splits hook l x ts) inner.reads
      (λ x ts us h y ys.
      ap (λ e. Some (default_p (from_to (span_of l).lo e) l v, ys))
      (sym (ended hook lawful value Assign (with_in x) ts us inner.from (sym (inside_assign hook x ts) ∙ h)))
      ∙ ap (λ t. Some (default_p (from_to (span_of t).lo (end_at q.nodes value.0)) t v, ys))
      (sym (tree-later inner.grows from)))
      inner.grows (λ x h. from-down above h) made)
