-- Productions that change nodes which were there, and how they go on to productions that append alone.
use Rattle.std.proofs.Common.{◌≡◌, ℕ, ◌≤◌, Bool, List, Result, Ok, Err, IsErrAnd, Some, arith}
use Rattle.swc_context.specs.declared.error.Error.{Error}
use Rattle.swc_input.specs.{declared.token.TokenAndSpan.TokenAndSpan, Source.Model}
use Rattle.swc_ast.specs.declared.spanned.Spanned.{Ghosts}
use Rattle.swc_grammar.specs.{Clean.Out, Scope.Scope, Words.◌>>=◌}
use Rattle.swc_nodes.specs.{GrowingNodes.count, GrowingNodes.Grows, declared.nodes.Nodes.Nodes}
use Rattle.swc_steps.specs.Parsing.{On, Heard, Unheard, Produces, GoesOn}
use Rattle.swc_steps.specs.declared.productions.Productions.{Productions}
use Rattle.swc_steps.proofs.Making.{if_held, yes}
use Rattle.swc_steps.proofs.Steps.{Reader, less, on_then, parses_call, parses_call_read, unheard_after}
use Rattle.swc_cover.specs.{Moving.KeptTo, Rewriting.Rewrites}
use Rattle.swc_cover.proofs.Kept.{grows-kept, kept-grows, kept-less, kept-then}

module _ {S H F C K : Type 0} {fg : Ghosts F} {cg : Ghosts C} {kg : Ghosts K} {model : Model S} {sure : Bool}
    {T A : Type 0}
    {held : ℕ → Nodes F C K fg cg kg → T → Type 0} {view : Nodes F C K fg cg kg → T → A} {k : ℕ} where
  -- nodes were appended alone
  pub goes_on : {f : Reader A} {p q : Productions S H F C K fg cg kg} (r : Result T Error) → k ≤ count p.nodes
      → GoesOn model sure held view f k p r q → Rewrites model sure held f (λ ns t x ts. Some (view ns t, ts)) k p r q
  goes_on (Ok x) le h = record {
    reads = h.reads;
    falls = h.falls;
    kept = kept-less le (kept-grows h.grows);
    from =
        h.from;
  }
  goes_on (Err e) le h = record {
    reads = h.reads;
    falls = h.falls;
    kept = kept-less le (kept-grows h.grows);
    from =
        h.from;
  }

  -- what was read, and a production that reads on and changes nodes that were appended since
  pub call : {B : Type 0} {f : Reader A} {q0 : Reader B} {t : B} {p m q : Productions S H F C K fg cg kg} {j : ℕ}
      (r : Result T Error)
      (then : Scope → B × List TokenAndSpan → Out A) → ((x : Scope) (ts : List TokenAndSpan)
      → f x ts ≡ (q0 x ts >>= then x))
      → Heard model sure q0 t p.input m.input → Grows p.nodes m.nodes → count p.nodes ≤ j
      → ((x : T) → held j q.nodes x → held k q.nodes x)
      → Rewrites model sure held (λ x ts. then x (t, ts)) (λ ns t x ts. Some (view ns t, ts)) j m r q
      → Produces model sure held view f k p r q
  call {f = f} {q = q} r then step h w le down s =
      yes r (parses_call model sure (view q.nodes) f q.input r then step h s.reads) (grows-kept w le s.kept)
      (if_held down r s.from)

  -- the same, where what was read is known to be what q0 read
  pub call_read : {B : Type 0} {f : Reader A} {q0 : Reader B} {g : Reader A} {t : B}
      {p m q : Productions S H F C K fg cg kg} {j : ℕ}
      (r : Result T Error) (then : Scope → B × List TokenAndSpan → Out A)
      → ((x : Scope) (ts : List TokenAndSpan) → f x ts ≡ (q0 x ts >>= then x))
      → Heard model sure q0 t p.input m.input
      → ((x : Scope) (ts us : List TokenAndSpan) → q0 x ts ≡ Some (t, us) → (y : Scope) (ys : List TokenAndSpan)
      → then y (t, ys) ≡ g y ys)
      → Grows p.nodes m.nodes → count p.nodes ≤ j → ((x : T) → held j q.nodes x → held k q.nodes x)
      → Rewrites model sure held g (λ ns t x ts. Some (view ns t, ts)) j m r q → Produces model sure held view f k p r q
  call_read {f = f} {g = g} {q = q} r then step h same w le down s =
      yes r (parses_call_read model sure (view q.nodes) f {g = g} q.input r then step h same s.reads)
      (grows-kept w le s.kept) (if_held down r s.from)

module _ {S H F C K : Type 0} {fg : Ghosts F} {cg : Ghosts C} {kg : Ghosts K} {model : Model S} {sure : Bool}
    {T A : Type 0}
    {held : ℕ → Nodes F C K fg cg kg → T → Type 0} {f : Reader A} {g : Nodes F C K fg cg kg → T → Reader A}
    {k : ℕ} where
  -- refused
  pub no : {p q : Productions S H F C K fg cg kg} {e : Error} → Unheard model sure f p.input e q.input
      → KeptTo k p.nodes q.nodes
      → Rewrites model sure held f g k p (Err e) q
  no u w = record { reads = u; falls = tt; kept = w; from = tt }

  -- what a `?` passes on
  pub passed : {p q : Productions S H F C K fg cg kg} {e : Error} {r : Result T Error} → IsErrAnd r (λ x. x ≡ e)
      → Rewrites model sure held f g k p (Err e) q → Rewrites model sure held f g k p r q
  passed {r = Ok x} h done = absurd h
  passed {r = Err x} h done = rw h done

  -- refused where nodes were appended alone
  pub refused : {p q : Productions S H F C K fg cg kg} {e : Error} {r : Result T Error} → IsErrAnd r (λ x. x ≡ e)
      → Unheard model sure f p.input e q.input → k ≤ count p.nodes → Grows p.nodes q.nodes
      → Rewrites model sure held f g k p r q
  refused h u le w = passed h (no u (kept-less le (kept-grows w)))

  -- steps, and then such a production
  pub after : {h : Reader A} {p m q : Productions S H F C K fg cg kg} (r : Result T Error)
      → On model sure f h p.input m.input
      → KeptTo k p.nodes m.nodes → Rewrites model sure held h g k m r q → Rewrites model sure held f g k p r q
  after (Ok x) o w s =
      record {
        reads = on_then o s.reads;
        falls = let a = less o.leads in let b = s.falls in
            omega arith;
        kept = kept-then w s.kept;
        from = s.from;
      }
  after (Err e) o w s = record { reads = unheard_after o s.reads; falls = tt; kept = kept-then w s.kept; from = s.from }
