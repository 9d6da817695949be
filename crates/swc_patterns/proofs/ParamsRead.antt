-- The loop over formal parameters (15.1): each is read by itself.
use Rattle.std.proofs.Common.{◌≡◌, ℕ, Bool, false, List, ◌∷◌, ◌++◌, Option, Some, None, Result, Ok, Err, IsErrAnd, refl, sym, ap, subst, ◌∙◌, arith}
use Rattle.std.specs.{declared.alloc.Global.Global, declared.vec.Vec.Vec}
use Rattle.swc_context.specs.{declared.error.Error.Error, declared.span.Span.Span}
use Rattle.swc_input.specs.{Laws.Future-some, Source.Model, declared.buffer.Buffer.Buffer, declared.token.Token.Token as token, declared.token.TokenAndSpan.TokenAndSpan}
use Rattle.swc_ast.specs.Tree.{Tree, Trees, nil, cons}
use Rattle.swc_ast.specs.{Trees.trees_append, declared.function.Param.Param, declared.spanned.Spanned.Ghosts}
use Rattle.swc_bodies.specs.Readings.{Hook}
use Rattle.swc_grammar.specs.Clean.{Out, sym as at, run}
use Rattle.swc_grammar.specs.{Scope.Scope, Symbols.Params, Symbols.Pat, Tokens.is_equals, Tokens.tk, Words.◌>>=◌}
use Rattle.swc_nodes.specs.{GrowingNodes.Grows, declared.node.PatId.PatId}
use Rattle.swc_input.specs.Calls.{recorded, Leads, Loud}
use Rattle.swc_steps.specs.Parsing.{scope, On, Unheard}
use Rattle.swc_steps.specs.{Lists.eaten, declared.productions.Productions.Productions}
use Rattle.swc_steps.proofs.Steps.{give, less, loud_after, more_recorded, read_scope}
use Rattle.swc_steps.specs.Params.{params_close, params_at, params_of}
use Rattle.swc_patterns.specs.Params.{param_read, rest_by, rest_end}
use Rattle.swc_patterns.specs.ParamsRead.{ReadAlone, element, dotted, AllReadAlone, LeavesParams}
use Rattle.swc_patterns.specs.Rests.{rest_node}
use Rattle.swc_patterns.proofs.FormalParams.{rest_end_splits, rest_read}

abbrev tree_or : {F C K : Type 0} → Tree F C K → Out (Tree F C K) → Tree F C K
tree_or t None = t
tree_or t (Some p) = p.0

-- no initialiser is after the pattern of a rest
rest_is : {F C K : Type 0} (s : Span) (t u : Tree F C K) (o : Out (Option Span)) (ys : List TokenAndSpan)
    → (o >>= (λ p. rest_by s t p.0 p.1)) ≡ Some (u, ys) → u ≡ rest_node s t
rest_is s t u None ys h = absurd cc
rest_is s t u (Some p) ys h = by_sign p.0 p.1 h
  where
    by_sign : (v : Option Span) (us : List TokenAndSpan) → rest_by s t v us ≡ Some (u, ys) → u ≡ rest_node s t
    by_sign None us h = sym (ap (tree_or u) h)
    by_sign (Some e) us h = absurd cc

module _ {F C K : Type 0} (hook : Hook F C K) (x : Scope) where
  -- a pattern after dots is a rest
  rest_alone : (s : Span) (us ys : List TokenAndSpan) (u : Tree F C K) (o : Out (Tree F C K))
      → run hook (at Pat) x us ≡ o → (o >>= (λ p. rest_end s p.0 x p.1)) ≡ Some (u, ys) → ReadAlone hook x u
  rest_alone s us ys u None e h = absurd cc
  rest_alone s us ys u (Some p) e h =
      let same = rest_is s p.0 u (eaten is_equals x p.1) ys (sym (rest_end_splits s p.0 x p.1) ∙ h) in
      dotted (tk token.DotDotDot false s ∷ us) p.1 (rest_read hook x false s us ∙ ap
      (λ v. v >>= (λ q. Some (rest_node s q.0, q.1))) e
      ∙ ap (λ v. Some (v, p.1)) (sym same))

  alone_by : (dots : Option Span) (us ys : List TokenAndSpan) (u : Tree F C K)
      → param_read hook dots x us ≡ Some (u, ys) → ReadAlone hook x u
  alone_by None us ys u h = element us ys h
  alone_by (Some s) us ys u h = rest_alone s us ys u (run hook (at Pat) x us) refl h

  alone_last : (before : Trees F C K) (t : Tree F C K) → AllReadAlone hook x before → ReadAlone hook x t
      → AllReadAlone hook x (trees_append before (cons t nil))
  alone_last nil t all last = (last, tt)
  alone_last (cons u us) t all last = (all.0, alone_last us t all.1 last)

module _ {S F C K : Type 0} (model : Model S) (hook : Hook F C K) where
  -- those that were read before, where nothing was recorded up to there
  abbrev pub AloneUpTo : Trees F C K → Buffer S → Buffer S → Type 0
  AloneUpTo before a b = Loud model a → recorded model b ≡ recorded model a → AllReadAlone hook (scope model a) before

  pub alone_later : (before : Trees F C K) {a b c : Buffer S} → Leads model a b → Leads model b c → AloneUpTo before a b
      → AloneUpTo before a c
  alone_later before f g all = λ l same.
      all l (let m = more_recorded f in let n = more_recorded g in omega (arith, same))

  -- one more
  pub alone_more : (before : Trees F C K) (t : Tree F C K) (dots : Option Span) {sure : Bool} {a b c d e : Buffer S}
      → Leads model a b → Leads model b c → On model sure (param_read hook dots) (give t) c d → Leads model d e
      → AloneUpTo before a b → AloneUpTo (trees_append before (cons t nil)) a e
  alone_more before t dots {sure} {a} {b} {c} {d} {e} f g o h all = λ l same.
      let m0 = more_recorded f in
      let m1 = more_recorded g in
      let m2 = more_recorded o.leads in
      let m3 = more_recorded h in
      let at_b : recorded model b ≡ recorded model a = omega (arith, same) in
      let at_d : recorded model d ≡ recorded model c = omega (arith, same) in
      let here : scope model c ≡ scope model a = read_scope g.laws g.read ∙ read_scope f.laws f.read in
      let some = Future-some o.leads.laws d in
      let read = o.clean (loud_after g (loud_after f l)) at_d some.0 some.1 in
      alone_last hook (scope model a) before t (all l at_b)
      (subst (λ x. ReadAlone hook x t) here
      (alone_by hook (scope model c) dots (o.leads.taken ++ some.0) some.0 t read))

module _ {S H F C K : Type 0} {fg : Ghosts F} {cg : Ghosts C} {kg : Ghosts K} {model : Model S} {sure : Bool}
    {hook : Hook F C K} {k : ℕ} {p q : Productions S H F C K fg cg kg} where
  pub params_left_open : (ps : Vec (Param PatId) Global)
      → On model sure (run hook (at Params)) (params_close (params_at q.nodes ps)) p.input q.input
      → AloneUpTo model hook (params_at q.nodes ps) p.input q.input → Grows p.nodes q.nodes
      → params_of k q.nodes ps → LeavesParams model sure hook k p (Ok ps) q
  params_left_open ps o all w from =
      record { reads = o; each = λ l same. all l same; falls = less o.leads; grows = w; from = from }

  pub no_params : {e : Error} (r : Result (Vec (Param PatId) Global) Error) → IsErrAnd r (λ x. x ≡ e)
      → Unheard model sure (run hook (at Params)) p.input e q.input → Grows p.nodes q.nodes
      → LeavesParams model sure hook k p r q
  no_params (Ok x) h u w = absurd h
  no_params (Err x) h u w = rw h (record { reads = u; each = λ l same. tt; falls = tt; grows = w; from = tt })
