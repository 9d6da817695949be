-- A chain of links, of which the next is read.
use Rattle.std.proofs.Common.{◌≡◌, ℕ, Bool, ◌≤◌, Option, Some, Ok, Err, refl, arith}
use Rattle.swc_context.specs.declared.error.Error.{Error}
use Rattle.swc_input.specs.{declared.buffer.Buffer.Buffer, Buffer.to_come, Source.Model}
use Rattle.swc_ast.specs.{Tree.Tree, declared.spanned.Spanned.Ghosts}
use Rattle.swc_bodies.specs.Readings.{Hook}
use Rattle.swc_grammar.specs.Clean.{links, run}
use Rattle.swc_left.specs.declared.left.LinkHead.{LinkHead}
use Rattle.swc_left.specs.Links.{link_head, link_tail, links_by}
use Rattle.swc_left.proofs.Links.{links_splits}
use Rattle.swc_nodes.specs.GrowingNodes.{first_at, From, Grows}
use Rattle.swc_nodes.specs.{NodeParts.expr_part, declared.node.ExprId.ExprId}
use Rattle.swc_nodes.proofs.{Held.from-down, Standing.grows-then}
use Rattle.swc_steps.specs.declared.productions.Productions.{Productions}
use Rattle.swc_steps.specs.Parsing.{On, Produces, GoesOn, itself, tree_of}
use Rattle.swc_steps.proofs.Making as m
use Rattle.swc_steps.proofs.Steps as s
use Rattle.swc_steps.proofs.Steps.{Reader, give}

module _ {S F C K : Type 0} {model : Model S} {sure : Bool} (hook : Hook F C K) (b : Bool) (l : Tree F C K)
    {f : Reader (Tree F C K)} {h : LinkHead} {o : Option LinkHead} {a c d : Buffer S} where
  begun : On model sure f (run hook (links b l)) a c → o ≡ Some h → On model sure (link_head b) (give o) c d
      → On model sure f (λ x ts. links_by hook b (Some h) l x ts) a d
  begun so is begins =
      s.on_then so (s.on_call (λ x r. links_by hook b r.0 l x r.1) (λ x ts. links_splits hook b l x ts)
      (s.on_answer is begins))

module _ {S H F C K : Type 0} {fg : Ghosts F} {cg : Ghosts C} {kg : Ghosts K} {model : Model S} {sure : Bool}
    (hook : Hook F C K) (a p : Productions S H F C K fg cg kg) (b : Bool) {f : Reader (Tree F C K)} {k : ℕ}
    {q : Productions S H F C K fg cg kg} {d : Buffer S} {e : ExprId} {h : LinkHead} {o : Option LinkHead} where
  -- the link after e was read, with it as n
  pub linked : {n : ExprId} → On model sure f (run hook (links b (tree_of p.nodes e))) a.input p.input
      × (to_come model p.input ≤ to_come model a.input) × Grows a.nodes p.nodes × From k p.nodes (expr_part e)
      → o ≡ Some h → On model sure (link_head b) (give o) p.input d → to_come model d ≤ to_come model p.input
      → Produces model sure itself tree_of (link_tail hook h (tree_of p.nodes e)) (first_at p.nodes e.0)
      (record p { input = d }) (Ok n) q → On model sure f (run hook (links b (tree_of q.nodes n))) a.input q.input
      × (to_come model q.input ≤ to_come model a.input) × Grows a.nodes q.nodes × From k q.nodes (expr_part n)
  linked so is begins falls link = (
    s.on_then (begun hook b (tree_of p.nodes e) so.0 is begins)
        (s.on_call (λ x r. run hook (links b r.0) x r.1) (λ x ts. refl) link.reads.on),
    let x = so.1 in let y = link.falls in omega arith,
    grows-then so.2 link.grows,
    from-down so.3.above link.from,
  )

module _ {S H F C K : Type 0} {fg : Ghosts F} {cg : Ghosts C} {kg : Ghosts K} {model : Model S} {sure : Bool}
    (hook : Hook F C K) (a p : Productions S H F C K fg cg kg) (b : Bool) {f : Reader (Tree F C K)} {k j : ℕ}
    {q : Productions S H F C K fg cg kg} {d : Buffer S} {e : ExprId} {h : LinkHead} {o : Option LinkHead}
    {r : Error} where
  -- it is refused
  pub not_linked : On model sure f (run hook (links b (tree_of p.nodes e))) a.input p.input
      × (to_come model p.input ≤ to_come model a.input) × Grows a.nodes p.nodes × From j p.nodes (expr_part e)
      → o ≡ Some h → On model sure (link_head b) (give o) p.input d
      → Produces model sure itself tree_of (link_tail hook h (tree_of p.nodes e)) (first_at p.nodes e.0)
      (record p { input = d }) (Err r) q → GoesOn model sure itself tree_of f k a (Err r) q
  not_linked so is begins link =
      m.no_more (s.unheard_after (begun hook b (tree_of p.nodes e) so.0 is begins)
      (s.unheard_call (λ x v. run hook (links b v.0) x v.1) (λ x ts. refl) link.reads)) (grows-then so.2 link.grows)
