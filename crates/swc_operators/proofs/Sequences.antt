-- A sequence (13.16), from the comma after its first expression on.
use Rattle.std.proofs.Common.{ℕ, Bool, Some, Result, refl}
use Rattle.swc_context.specs.{declared.error.Error.Error, declared.span.Span.Span}
use Rattle.swc_input.specs.{declared.buffer.Buffer.Buffer, Source.Model}
use Rattle.swc_ast.specs.{Tree.nil, Tree.cons, Trees.begins_in_invalid, declared.spanned.Spanned.Ghosts}
use Rattle.swc_bodies.specs.Readings.{Hook, LawfulHook}
use Rattle.swc_grammar.specs.Clean.{sym as at, run, seqs}
use Rattle.swc_grammar.specs.{Symbols.Expr, Symbols.Assign, Tokens.is_comma, Words.◌>>=◌}
use Rattle.swc_nodes.specs.{GrowingNodes.start_at, GrowingNodes.Grows, declared.node.ExprId.ExprId}
use Rattle.swc_nodes.proofs.Standing.{grows-same}
use Rattle.swc_steps.specs.Parsing.{Heard, Produces, itself, tree_of}
use Rattle.swc_steps.specs.{declared.productions.Productions.Productions, Lists.eaten}
use Rattle.swc_steps.proofs.Endings.{read-valid, valid-begins}
use Rattle.swc_steps.proofs.Making as m
use Rattle.swc_steps.proofs.Steps as s
use Rattle.swc_operators.specs.Assignments.{seqs_from, seqs_from_by}
use Rattle.swc_operators.proofs.Assignments.{expr_splits, seqs_begun}

module _ {S H F C K : Type 0} {fg : Ghosts F} {cg : Ghosts C} {kg : Ghosts K} {model : Model S} {sure : Bool} where
  -- the expression e, a comma, and then what a sequence that begins with e goes on with
  pub behind_comma : (hook : Hook F C K) → LawfulHook fg.place cg.place kg.place hook
      → {k : ℕ} {p a q : Productions S H F C K fg cg kg} {d : Buffer S} {place : Span}
      → (e : ExprId) (r : Result ExprId Error)
      → Heard model sure (run hook (at Assign)) (tree_of a.nodes e) p.input a.input → Grows p.nodes a.nodes
      → Heard model sure (eaten is_comma) (Some place) a.input d → Produces model sure itself tree_of
      (seqs_from hook (begins_in_invalid (tree_of a.nodes e)) (start_at a.nodes e.0) (cons (tree_of a.nodes e) nil))
      k (record a { input = d }) r q → Produces model sure itself tree_of (run hook (at Expr)) k p r q
  behind_comma hook lawful {a = a} {d = d} e r read grows comma goes =
      let t = tree_of a.nodes e in
      let b = begins_in_invalid t in
      let lo = start_at a.nodes e.0 in
      m.call_read {g = λ x ts. eaten is_comma x ts >>= (λ o. seqs_from_by hook b lo (cons t nil) o.0 x o.1)} {m = a} r
      (λ x o. run hook (seqs (cons o.0 nil)) x o.1) (λ x ts. expr_splits hook x ts) read
      (λ x ts us h y ys. seqs_begun hook b lo (cons t nil) y ys
      (valid-begins t (read-valid hook lawful Assign x ts us t h)))
      grows (λ x h. h)
      (m.on_after {m = record a { input = d }} r
      (s.on_call (λ x o. seqs_from_by hook b lo (cons t nil) o.0 x o.1) (λ x ts. refl) comma.on) (grows-same _)
      (m.weaker r goes))
