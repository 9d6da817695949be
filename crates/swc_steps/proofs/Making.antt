-- Productions: what is read, and the nodes that were made.
use Rattle.std.proofs.Common.{◌≡◌, ◌≢◌, ℕ, Bool, ◌≤◌, Some, Result, Ok, Err, IfOk, IfErr, IsErrAnd, List, ap, subst}
use Rattle.std.specs.declared.alloc.AllocError.{AllocError}
use Rattle.swc_context.specs.{declared.error.Error.Error, declared.error.SyntaxError.SyntaxError, declared.error.SyntaxError.TheVariants.OutOfMemory, declared.span.BytePos.BytePos}
use Rattle.swc_input.specs.{declared.buffer.Buffer.Buffer, declared.token.TokenAndSpan.TokenAndSpan, Source.Model, Recording.no_memory}
use Rattle.swc_ast.specs.{Tree.Tree, declared.spanned.Spanned.Ghosts}
use Rattle.swc_grammar.specs.{Scope.Scope, Clean.Out, Words.◌>>=◌}
use Rattle.swc_nodes.specs.GrowingNodes.{first_at, From, Grows, Made}
use Rattle.swc_nodes.specs.{NodeParts.expr_part, declared.node.ExprId.ExprId, declared.nodes.Nodes.Nodes}
use Rattle.swc_nodes.proofs.Held.{first_kept, from-down, tree-later}
use Rattle.swc_nodes.proofs.Standing.{grows-then}
use Rattle.swc_steps.specs.declared.productions.Productions.{Productions}
use Rattle.swc_steps.specs.Parsing.{On, Heard, Unheard, Parses, Continues, Produces, GoesOn, Recovers, itself, tree_of}
use Rattle.swc_steps.proofs.Building.{made_tree, made_from}
use Rattle.swc_steps.proofs.Steps.{Reader, lower, less, node_parses, node_continues, parses_after, parses_call, parses_call_read, continues_after, continues_of, give}

-- what an answer holds is weakened, and what is held of the answer that came
pub if_held : {T : Type 0} {P Q : T → Type 0} → ((x : T) → P x → Q x) → (r : Result T Error) → IfOk r P → IfOk r Q
if_held f (Ok x) h = f x h
if_held f (Err e) h = tt

pub held_is : {T : Type 0} (P : T → Type 0) (r : Result T Error) (x : T) → r ≡ Ok x → IfOk r P → P x
held_is P (Ok y) x e h = let same : y ≡ x = cc in subst P same h
held_is P (Err e) x q h = cc

module _ {S H F C K : Type 0} {fg : Ghosts F} {cg : Ghosts C} {kg : Ghosts K} {model : Model S} {sure : Bool}
    {T A : Type 0} {held : ℕ → Nodes F C K fg cg kg → T → Type 0} {view : Nodes F C K fg cg kg → T → A} {f : Reader A}
    {k : ℕ} where
  -- refused
  pub no : {p q : Productions S H F C K fg cg kg} {e : Error} → Unheard model sure f p.input e q.input
      → Grows p.nodes q.nodes → Produces model sure held view f k p (Err e) q
  no u g = record { reads = u; falls = tt; grows = g; from = tt }

  pub no_more : {p q : Productions S H F C K fg cg kg} {e : Error} → Unheard model sure f p.input e q.input
      → Grows p.nodes q.nodes → GoesOn model sure held view f k p (Err e) q
  no_more u g = record { reads = u; falls = tt; grows = g; from = tt }

  -- what a `?` passes on
  pub passed : {p q : Productions S H F C K fg cg kg} {e : Error} {r : Result T Error} → IsErrAnd r (λ x. x ≡ e)
      → Produces model sure held view f k p (Err e) q → Produces model sure held view f k p r q
  passed {r = Ok x} h done = absurd h
  passed {r = Err x} h done = rw h done

  pub passed_more : {p q : Productions S H F C K fg cg kg} {e : Error} {r : Result T Error} → IsErrAnd r (λ x. x ≡ e)
      → GoesOn model sure held view f k p (Err e) q → GoesOn model sure held view f k p r q
  passed_more {r = Ok x} h done = absurd h
  passed_more {r = Err x} h done = rw h done

  -- refused so
  pub refused : {p q : Productions S H F C K fg cg kg} {e : Error} {r : Result T Error} → IsErrAnd r (λ x. x ≡ e)
      → Unheard model sure f p.input e q.input → Grows p.nodes q.nodes → Produces model sure held view f k p r q
  refused h u g = passed h (no u g)

  pub refused_more : {p q : Productions S H F C K fg cg kg} {e : Error} {r : Result T Error} → IsErrAnd r (λ x. x ≡ e)
      → Unheard model sure f p.input e q.input → Grows p.nodes q.nodes → GoesOn model sure held view f k p r q
  refused_more h u g = passed_more h (no_more u g)

  -- read
  pub yes : {p q : Productions S H F C K fg cg kg} (r : Result T Error)
      → Parses model sure (view q.nodes) f p.input r q.input → Grows p.nodes q.nodes → IfOk r (λ t. held k q.nodes t)
      → Produces model sure held view f k p r q
  yes (Ok x) h g m = record {
    reads = h;
    falls = lower (record { leads = h.on.leads; onward = h.onward });
    grows = g;
    from = m;
  }
  yes (Err e) h g m = record { reads = h; falls = tt; grows = g; from = m }

  pub on : {p q : Productions S H F C K fg cg kg} (r : Result T Error)
      → Continues model sure (view q.nodes) f p.input r q.input → Grows p.nodes q.nodes → IfOk r (λ t. held k q.nodes t)
      → GoesOn model sure held view f k p r q
  on (Ok x) h g m = record { reads = h; falls = less h.leads; grows = g; from = m }
  on (Err e) h g m = record { reads = h; falls = tt; grows = g; from = m }

  -- steps, and then a production
  pub after : {g : Reader A} {p m q : Productions S H F C K fg cg kg} (r : Result T Error)
      → On model sure f g p.input m.input → Grows p.nodes m.nodes → Produces model sure held view g k m r q
      → Produces model sure held view f k p r q
  after {q = q} r o w h = yes r (parses_after model sure (view q.nodes) f q.input r o h.reads)
      (grows-then w h.grows) h.from

  -- the same, where the production holds more
  pub after_held : {g : Reader A} {j : ℕ} {p m q : Productions S H F C K fg cg kg} (r : Result T Error)
      → On model sure f g p.input m.input → Grows p.nodes m.nodes → ((x : T) → held j q.nodes x → held k q.nodes x)
      → Produces model sure held view g j m r q → Produces model sure held view f k p r q
  after_held {q = q} r o w down h = yes r (parses_after model sure (view q.nodes) f q.input r o h.reads)
      (grows-then w h.grows) (if_held down r h.from)

  pub on_after : {g : Reader A} {p m q : Productions S H F C K fg cg kg} (r : Result T Error)
      → On model sure f g p.input m.input → Grows p.nodes m.nodes → GoesOn model sure held view g k m r q
      → GoesOn model sure held view f k p r q
  on_after {q = q} r o w h = on r (continues_after model sure (view q.nodes) f q.input r o h.reads)
      (grows-then w h.grows) h.from

  -- what was read, and a production that reads on
  pub call : {B : Type 0} {q0 : Reader B} {t : B} {p m q : Productions S H F C K fg cg kg} {j : ℕ} (r : Result T Error)
      (then : Scope → B × List TokenAndSpan → Out A) → ((x : Scope) (ts : List TokenAndSpan)
      → f x ts ≡ (q0 x ts >>= then x)) →
      Heard model sure q0 t p.input m.input → Grows p.nodes m.nodes → ((x : T) → held j q.nodes x → held k q.nodes x)
      → GoesOn model sure held view (λ x ts. then x (t, ts)) j m r q → Produces model sure held view f k p r q
  call {q = q} {j = j} r then step h w down s =
      yes r (parses_call model sure (view q.nodes) f q.input r then step h s.reads) (grows-then w s.grows)
      (if_held down r s.from)

  -- the same, where what was read is known to be what q0 read
  pub call_read : {B : Type 0} {q0 : Reader B} {g : Reader A} {t : B} {p m q : Productions S H F C K fg cg kg} {j : ℕ}
      (r : Result T Error) (then : Scope → B × List TokenAndSpan → Out A)
      → ((x : Scope) (ts : List TokenAndSpan) → f x ts ≡ (q0 x ts >>= then x)) →
      Heard model sure q0 t p.input m.input → ((x : Scope) (ts us : List TokenAndSpan) → q0 x ts ≡ Some (t, us)
      → (y : Scope) (ys : List TokenAndSpan) → then y (t, ys) ≡ g y ys) → Grows p.nodes m.nodes
      → ((x : T) → held j q.nodes x → held k q.nodes x) → GoesOn model sure held view g j m r q
      → Produces model sure held view f k p r q
  call_read {g = g} {q = q} {j = j} r then step h same w down s =
      yes r (parses_call_read model sure (view q.nodes) f {g = g} q.input r then step h same s.reads)
      (grows-then w s.grows) (if_held down r s.from)

  pub weaker : {p q : Productions S H F C K fg cg kg} (r : Result T Error) → Produces model sure held view f k p r q
      → GoesOn model sure held view f k p r q
  weaker {p} {q} r h = on r (continues_of model sure (view q.nodes) f p.input q.input r h.reads) h.grows h.from

-- a node is made in the end

module _ {S H F C K : Type 0} {fg : Ghosts F} {cg : Ghosts C} {kg : Ghosts K} {model : Model S} {sure : Bool}
    {f : Reader (Tree F C K)} where
  pub node : {p q : Productions S H F C K fg cg kg} {t : Tree F C K} {ns : Nodes F C K fg cg kg} {k j : ℕ}
      (at : BytePos) (n : Result ExprId AllocError) (r : Result ExprId Error) → k ≤ j
      → IfOk n (λ id. Made j q.nodes (expr_part id) t) → IfOk r (λ id. n ≡ Ok id) →
      IfErr r (λ x. x ≡ no_memory at) → Grows p.nodes ns → Grows ns q.nodes → Heard model sure f t p.input q.input
      → Produces model sure itself tree_of f k p r q
  node {p} {q} {t} {ns} {k} {j} at n r le made ok refused w g h =
      yes r (node_parses model sure (tree_of q.nodes) at r t (made_tree q.nodes j t n r made ok) refused h)
      (grows-then w g) (made_from q.nodes k j t n r le made ok)

  -- the same, where perhaps nothing is read
  pub node_on : {p q : Productions S H F C K fg cg kg} {t : Tree F C K} {ns : Nodes F C K fg cg kg} {k j : ℕ}
      (at : BytePos) (n : Result ExprId AllocError) (r : Result ExprId Error) → k ≤ j
      → IfOk n (λ id. Made j q.nodes (expr_part id) t) → IfOk r (λ id. n ≡ Ok id) →
      IfErr r (λ x. x ≡ no_memory at) → Grows p.nodes ns → Grows ns q.nodes → On model sure f (give t) p.input q.input
      → GoesOn model sure itself tree_of f k p r q
  node_on {p} {q} {t} {ns} {k} {j} at n r le made ok refused w g h =
      on r (node_continues model sure (tree_of q.nodes) at r t (made_tree q.nodes j t n r made ok) refused h)
      (grows-then w g) (made_from q.nodes k j t n r le made ok)

  -- what was read after the node e, and then what makes a node of both
  pub tail : {B : Type 0} {q0 : Reader B} {t : B} {p m q : Productions S H F C K fg cg kg} {k : ℕ} {e : ExprId}
      (r : Result ExprId Error) (then : Tree F C K → Scope → B × List TokenAndSpan → Out (Tree F C K)) →
      ((x : Scope) (ts : List TokenAndSpan) → f x ts ≡ (q0 x ts >>= then (tree_of p.nodes e) x))
      → Heard model sure q0 t p.input m.input → Grows p.nodes m.nodes → From k p.nodes (expr_part e) →
      GoesOn model sure itself tree_of (λ x ts. then (tree_of m.nodes e) x (t, ts)) (first_at m.nodes e.0) m r q
      → Produces model sure itself tree_of f (first_at p.nodes e.0) p r q
  tail {t = t} {p = p} {m = m} {q = q} {e = e} r then step h w from goes =
      let P : Tree F C K → Type 0 = λ l. GoesOn model sure itself tree_of (λ x ts. then l x (t, ts))
      (first_at m.nodes e.0) m r q in
      call r (then (tree_of p.nodes e)) step h w (λ x. from-down (first_kept w from)) (subst P (tree-later w from) goes)

-- a node that is made is refused only when out of memory
pub out_of_memory : {T : Type 0} (at : BytePos) (r : Result T Error) → IfErr r (λ x. x ≡ no_memory at)
    → IfErr r (λ e. e.kind ≡ OutOfMemory)
out_of_memory at (Ok x) h = tt
out_of_memory at (Err e) h = ap (λ x. x.kind) h

-- ---- in place of an operand

module _ {S H F C K : Type 0} {fg : Ghosts F} {cg : Ghosts C} {kg : Ghosts K} {model : Model S} {T : Type 0}
    {held : ℕ → Nodes F C K fg cg kg → T → Type 0} {Effect : Buffer S → Result T Error → Buffer S → Type 0}
    {kind : SyntaxError} where
  -- a refusal
  pub not_recovered : {p q : Productions S H F C K fg cg kg} {e : Error} → Effect p.input (Err e) q.input
      → (e.kind ≢ OutOfMemory → kind ≢ OutOfMemory) → Grows p.nodes q.nodes
      → Recovers model held Effect kind p (Err e) q
  not_recovered h memory g = record {
    effect = h;
    notes = λ l. tt;
    some = tt;
    memory = memory;
    falls = tt;
    grows = g;
    from = tt;
  }
