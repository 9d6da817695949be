-- The parameters of an arrow function (ECMA-262, 13.2.9 and 15.3), from what the code reads to what is promised of
-- them.
use Rattle.std.proofs.Common.{◌≡◌, ◌≢◌, ℕ, Bool, true, false, ◌&&◌, if◌then◌else◌, List, [], ◌∷◌, ◌++◌, Option, Some, None, Result, Ok, Err, IfOk, IfErr, map, refl, sym, ap, subst, ◌∙◌}
use Rattle.std.specs.{declared.alloc.Global.Global, declared.vec.Vec.Vec}
use Rattle.swc_context.specs.{declared.error.Error.Error, declared.error.SyntaxError.TheVariants.OutOfMemory, declared.span.Span.Span}
use Rattle.swc_input.specs.{declared.buffer.Buffer.Buffer, declared.token.TokenAndSpan.TokenAndSpan, Buffer.context, Source.Model}
use Rattle.swc_ast.specs.Tree.{Tree, node, Trees, args, no_span, span_of, trees}
use Rattle.swc_ast.specs.Trees.{to, comma_of, items_of, listed, unmarked}
use Rattle.swc_ast.specs.{declared.expr.ExprOrSpread.ExprOrSpread, declared.spanned.Spanned.Ghosts}
use Rattle.swc_bodies.specs.Readings.{Hook, LawfulHook}
use Rattle.swc_grammar.specs.Clean.{Out, and_then, exec, plan, sym as at, run}
use Rattle.swc_grammar.specs.Reads.{Reads, by, took, held, part}
use Rattle.swc_grammar.specs.Rule.{gives, check, given, ◌>>=◌ as ◌▸◌}
use Rattle.swc_grammar.specs.Symbols.{Args, Arguments, ArrowParams, Side}
use Rattle.swc_grammar.specs.{Cover.as_params, Cover.arrow_params_ok, Grammar.covered-params, Patterns.any, Patterns.all_bind_names, Scope.Scope, Tokens.is_lparen, Tokens.with_in, Words.◌>>=◌}
use Rattle.swc_grammar.proofs.{Induct.gives-given, Induct.gives-side, Knot.knot, MarkedBinds.all-same-binds, Meets.all-meet}
use Rattle.swc_nodes.specs.Commas.{commas_in, commas_of_all, part_commas}
use Rattle.swc_nodes.specs.GrowingNodes.{count, seat_at, Apart, Grows}
use Rattle.swc_nodes.specs.NodeParts.{args_parts, flat, one_pat}
use Rattle.swc_nodes.specs.{Lists.pats_parts, declared.node.ExprId.ExprId, declared.node.PatId.PatId, declared.nodes.Nodes.Nodes}
use Rattle.swc_nodes.proofs.Chains.{floor-above}
use Rattle.swc_cover.specs.Refining.{RefinedItems, UnrefinedItems, items_at, pats_at, takes_arrow_params}
use Rattle.swc_cover.specs.{Clear.is_clear, Faults.params_verdict, Fits.Binding, Fits.elems_fit, ReservedNames.names_ok, Items.want_items}
use Rattle.swc_cover.proofs.{Bound.params-are, Clear.clear-items, Kept.grows-kept}
use Rattle.swc_arrows.specs.Readers.{takes_params}
use Rattle.swc_arrows.proofs.ListLaws.{Refines, refines_at}
use Rattle.swc_input.specs.Calls.{Checks, Refuses}
use Rattle.swc_steps.specs.Parsing.{scope, args_at, Heard, On, Produces, Unheard}
use Rattle.swc_steps.specs.{Args.args_inside, Args.counted, Keys.expected, declared.productions.Productions.Productions, declared.tokens.Listed.Listed}
use Rattle.swc_steps.proofs.{Building.apart-down, Building.apart-lower, Endings.read-valid, Keys.then_token, Lists.bind_same, Lists.binds, Steps.Reader, Steps.give, Steps.Calls.on_call_read, Steps.Tokens.heard_then}
use Rattle.swc_steps.proofs.Making as making
use Rattle.swc_steps.proofs.Steps as steps
use Rattle.swc_productions.proofs.ByThemselves.{args_counted, arguments_splits}
use Rattle.swc_ecma_parser.specs.ArrowParams.{arrow_params_at, params_items, arrow_params_of}
use Rattle.swc_ecma_parser.specs.Promise.{keep_items, only_items}

-- ---- the production, as the code follows it: a list that is read as arguments are, and then made into parameters

module _ {F C K : Type 0} where
  -- the list as parameters, by the grammar, and as the code checks and makes them
  abbrev given_params : Option (Trees F C K) → Scope → List TokenAndSpan → Out (Tree F C K)
  given_params None x us = None
  given_params (Some ps) x us = if arrow_params_ok x.context ps then Some (node args no_span ps, us) else None

  abbrev made_params : Tree F C K → Scope → List TokenAndSpan → Out (Tree F C K)
  made_params es x us =
      if takes_params x.context es then Some (node args no_span (want_items (items_of es)), us) else None

  -- what the production gives of them
  abbrev rest : Scope → Span → Option (Trees F C K) → Side F C K ArrowParams
  rest x s o = given o ▸ (λ ps. check (arrow_params_ok x.context ps) (gives (listed None s ps)))

  -- both are the same of a list in which nothing was refused
  given_made : (x : Scope) (es : Tree F C K) → Refines es → (us : List TokenAndSpan)
      → given_params (as_params es) x us ≡ made_params es x us
  given_made x es r us = by_fit (elems_fit Binding (comma_of es) (items_of es)) refl
    where
      ps : Trees F C K
      ps = want_items (items_of es)

      clear : is_clear (params_verdict (comma_of es) (items_of es)) ≡ elems_fit Binding (comma_of es) (items_of es)
      clear = clear-items (comma_of es) (items_of es) r.valid

      by_fit : (b : Bool) → elems_fit Binding (comma_of es) (items_of es) ≡ b
          → given_params (as_params es) x us ≡ made_params es x us
      by_fit false f =
          ap (λ o. given_params o x us) (r.params ∙ ap (λ b. if b then Some ps else None) f)
          ∙ sym (ap (λ b. if b && names_ok x.context ps then Some (node args no_span ps, us) else None) (clear ∙ f))
      by_fit true f =
          let is : as_params es ≡ Some ps = r.params ∙ ap (λ b. if b then Some ps else None) f in
          let names : arrow_params_ok x.context ps ≡ names_ok x.context ps =
          ap (takes_arrow_params x.context) (sym is) ∙ params-are x.context (comma_of es) (items_of es) ps r.params
          ∙ ap (λ b. b && names_ok x.context ps) f in
          ap (λ o. given_params o x us) is
          ∙ ap (λ b. if b then Some (node args no_span ps, us) else None) names
          ∙ sym (ap (λ b. if b && names_ok x.context ps then Some (node args no_span ps, us) else None) (clear ∙ f))

module _ {F C K : Type 0} (hook : Hook F C K) where
  -- after the parenthesis at s
  abbrev behind : Scope → Span → List TokenAndSpan → Out (Tree F C K)
  behind x s us =
      and_then (run hook (at (Args false)) (with_in x) us)
      (λ es vs. exec hook (run hook) None (plan (rest x (to s (span_of es)) (as_params es))) vs)

  params_open : (x : Scope) (ts : List TokenAndSpan)
      → run hook (at ArrowParams) x ts ≡ (expected is_lparen x ts >>= (λ p. behind x p.0 p.1))
  params_open x [] = knot hook (at ArrowParams) x [] ∙ then_token is_lparen x [] (behind x)
  params_open x (t ∷ ts) = knot hook (at ArrowParams) x (t ∷ ts) ∙ then_token is_lparen x (t ∷ ts) (behind x)

  rest_given : (x : Scope) (s : Span) (o : Option (Trees F C K)) (us : List TokenAndSpan)
      → (exec hook (run hook) None (plan (rest x s o)) us >>= (λ p. Some (keep_items p.0, p.1))) ≡ given_params o x us
  rest_given x s None us = refl
  rest_given x s (Some ps) us = by_test (arrow_params_ok x.context ps)
    where
      by_test : (b : Bool) → ((if b then Some (listed None s ps, us) else None) >>= (λ p. Some (keep_items p.0, p.1)))
          ≡ (if b then Some (node args no_span ps, us) else None)
      by_test true = refl
      by_test false = refl

  behind_keeps : (x : Scope) (s : Span) (us : List TokenAndSpan) → (behind x s us >>= (λ p. Some (keep_items p.0, p.1)))
      ≡ (args_inside hook false x us >>= (λ q. given_params (as_params q.0) x q.1))
  unfolding args_inside
  behind_keeps x s us = by_read (run hook (at (Args false)) (with_in x) us)
    where
      by_read : (o : Out (Tree F C K))
          → (and_then o (λ es vs. exec hook (run hook) None (plan (rest x (to s (span_of es)) (as_params es))) vs)
          >>= (λ p. Some (keep_items p.0, p.1)))
          ≡ (o >>= (λ q. given_params (as_params q.0) x q.1))
      by_read None = refl
      by_read (Some q) = rest_given x (to s (span_of q.0)) (as_params q.0) q.1

  -- arguments of another call than one of `import` aren't counted
  uncounted : (x : Scope) (us : List TokenAndSpan) → args_counted hook false x us ≡ args_inside hook false x us
  uncounted x us = by_read (args_inside hook false x us)
    where
      by_read : (o : Out (Tree F C K)) → (o >>= (λ q. counted false q.0 x q.1)) ≡ o
      by_read None = refl
      by_read (Some q) = refl

  pub params_splits : (x : Scope) (ts : List TokenAndSpan)
      → params_items hook x ts ≡ (run hook (at (Arguments false)) x ts >>= (λ p. given_params (as_params p.0) x p.1))
  params_splits x ts =
      ap (λ o. o >>= (λ p. Some (keep_items p.0, p.1))) (params_open x ts)
      ∙ sym (binds (expected is_lparen x ts) (λ p. behind x p.0 p.1) (λ p. Some (keep_items p.0, p.1)))
      ∙ bind_same (expected is_lparen x ts) _ _
      (λ p. behind_keeps x p.0 p.1 ∙ sym (ap (λ o. o >>= (λ q. given_params (as_params q.0) x q.1)) (uncounted x p.1)))
      ∙ binds (expected is_lparen x ts) (λ p. args_counted hook false x p.1) (λ q. given_params (as_params q.0) x q.1)
      ∙ ap (λ o. o >>= (λ q. given_params (as_params q.0) x q.1)) (sym (arguments_splits hook false x ts))

-- ---- what the steps of the code read

module _ {S A B : Type 0} {model : Model S} {sure : Bool} {f g : Reader A} {q : Reader B} {t : B} {u : A}
    {b c d : Buffer S} where
  -- what was read, and what is read after it, where that is known to be what q read
  pub heard_behind : (k : Scope → B × List TokenAndSpan → Out A) → ((x : Scope) (ts : List TokenAndSpan)
      → f x ts ≡ (q x ts >>= k x)) → Heard model sure q t b c → ((x : Scope) (ts us : List TokenAndSpan)
      → q x ts ≡ Some (t, us) → (y : Scope) (ys : List TokenAndSpan) → k y (t, ys) ≡ g y ys)
      → On model sure g (give u) c d → Heard model sure f u b d
  unfolding on_call_read
  heard_behind k step h same o = heard_then (on_call_read {g = g} k step h.on same) h.onward o

module _ {F C K : Type 0} (x : Scope) (es : Tree F C K) (us : List TokenAndSpan) where
  -- a list that is parameters, and one that isn't
  made_goes : takes_params x.context es ≡ true → made_params es x us ≡ Some
      (node args no_span (want_items (items_of es)), us)
  made_goes h = ap (λ b. if b then Some (node args no_span (want_items (items_of es)), us) else None) h

  made_stops : takes_params x.context es ≡ false → made_params es x us ≡ None
  made_stops h = ap (λ b. if b then Some (node args no_span (want_items (items_of es)), us) else None) h

module _ {S F C K : Type 0} {fg : Ghosts F} {cg : Ghosts C} {kg : Ghosts K} {model : Model S} {sure : Bool}
    (hook : Hook F C K)
    (lawful : LawfulHook fg.place cg.place kg.place hook) {ns : Nodes F C K fg cg kg} {k : ℕ}
    (list : Listed (ExprOrSpread ExprId)) (a : Apart k ns (args_parts list.items)) {b c : Buffer S}
    (h : Heard model sure (run hook (at (Arguments false))) (args_at ns list) b c) where
  -- of the list that was read it is known that nothing in it was refused
  read_made : (x : Scope) (ts us : List TokenAndSpan) → run hook (at (Arguments false)) x ts ≡ Some
      (args_at ns list, us) → (y : Scope) (ys : List TokenAndSpan)
      → given_params (as_params (args_at ns list)) y ys ≡ made_params (args_at ns list) y ys
  read_made x ts us e y ys =
      given_made y (args_at ns list)
      (refines_at list (apart-down (args_parts list.items) a)
      (read-valid hook lawful (Arguments false) x ts us (args_at ns list) e)) ys

  -- its items were checked, and made into parameters
  params_heard : {d : Buffer S} (ps : Trees F C K) → ps ≡ want_items (items_at ns list.items.items)
      → Checks model (is_clear (params_verdict list.trailing_comma (items_at ns list.items.items))
      && names_ok (context model c) ps) c d → Heard model sure (params_items hook) (node args no_span ps) b d
  params_heard {d} ps stands checks =
      let es = args_at ns list in
      let well = takes_params (context model c) es in
      let made : Checks model well c d = subst (λ v. Checks model (is_clear (params_verdict (comma_of es) (items_of es))
      && names_ok (context model c) v) c d) stands checks in
      subst (λ v. Heard model sure (params_items hook) (node args no_span v) b d) (sym stands)
      (heard_behind (λ x p. given_params (as_params p.0) x p.1) (params_splits hook) h read_made
      (steps.on_checked_in {f = made_params es} {g = give (node args no_span (want_items (items_of es)))} well made
      (λ ts z. made_goes (scope model c) es ts z) (λ ts z. made_stops (scope model c) es ts z)))

  -- or refused
  params_unheard : {d : Buffer S} (e : Error) → Refuses model c e d
      → (e.kind ≢ OutOfMemory → is_clear (params_verdict list.trailing_comma (items_at ns list.items.items)) ≡ false)
      → Unheard model sure (params_items hook) b e d
  params_unheard e refuses unclear =
      let es = args_at ns list in
      steps.unheard_after (on_call_read {g = made_params es} (λ x p. given_params (as_params p.0) x p.1)
      (params_splits hook) h.on read_made)
      (record {
        refuses = refuses;
        none = λ n y l ts z. made_stops (scope model c) es ts
            (ap (λ v. v && names_ok (context model c) (want_items (items_of es))) (unclear n));
      })

-- ---- among nodes

module _ {S H F C K : Type 0} {fg : Ghosts F} {cg : Ghosts C} {kg : Ghosts K} {model : Model S} {sure : Bool}
    (hook : Hook F C K)
    (lawful : LawfulHook fg.place cg.place kg.place hook) where
  -- a list was read, and made into parameters, or not
  pub params-made : {p q : Productions S H F C K fg cg kg} (m : Productions S H F C K fg cg kg)
      (list : Listed (ExprOrSpread ExprId)) (r : Result (Vec PatId Global) Error)
      → Heard model sure (run hook (at (Arguments false))) (args_at m.nodes list) p.input m.input
      → Grows p.nodes m.nodes → Apart (count p.nodes) m.nodes (args_parts list.items)
      → IfOk r (λ pats. RefinedItems model list.items.items list.trailing_comma m pats.items q)
      → IfErr r (λ e. UnrefinedItems model list.items.items list.trailing_comma m e q)
      → IfOk r (λ pats. Checks model (is_clear (params_verdict list.trailing_comma (items_at m.nodes list.items.items))
      && names_ok (context model m.input) (pats_at q.nodes pats.items)) m.input q.input)
      → IfErr r (λ e. e.kind ≢ OutOfMemory
      → is_clear (params_verdict list.trailing_comma (items_at m.nodes list.items.items)) ≡ false)
      → Produces model sure arrow_params_of arrow_params_at (params_items hook) (count p.nodes) p r q
  params-made {p} {q} m list (Ok pats) h grows a refined unrefined exact unclear =
      let le = floor-above (seat_at m.nodes) (count p.nodes) (args_parts list.items) (count m.nodes) a.chained in
      making.yes (Ok pats)
      (params_heard hook lawful list a h (pats_at q.nodes pats.items) refined.made.stands exact)
      (grows-kept grows le refined.kept) (apart-lower (pats_parts pats) le refined.made.apart)
  params-made {p} {q} m list (Err e) h grows a refined unrefined exact unclear =
      let le = floor-above (seat_at m.nodes) (count p.nodes) (args_parts list.items) (count m.nodes) a.chained in
      making.yes (Err e) (params_unheard hook lawful list a h e unrefined.refuses.refuses unclear)
      (grows-kept grows le unrefined.kept) tt

module _ {S H F C K : Type 0} {fg : Ghosts F} {cg : Ghosts C} {kg : Ghosts K} {model : Model S} {sure : Bool}
    (hook : Hook F C K) where
  -- or no list was
  pub params-unread : {p m : Productions S H F C K fg cg kg} {e : Error}
      → Unheard model sure (run hook (at (Arguments false))) p.input e m.input
      → Grows p.nodes m.nodes → Produces model sure arrow_params_of arrow_params_at (params_items hook)
      (count p.nodes) p (Err e) m
  params-unread u grows =
      making.no (steps.unheard_call (λ x p. given_params (as_params p.0) x p.1) (params_splits hook) u) grows

-- ---- what is derived

module _ {F C K : Type 0} (hook : Hook F C K) where
  -- the parameters bind names alone
  params_bind : {c : Scope} {xs ys : List TokenAndSpan} {t : Tree F C K} → Reads hook ArrowParams c xs ys t
      → all_bind_names any (items_of t) ≡ true
  params_bind (by covered-params (took (held h (part {e = es} d w)))) =
      gives-side (λ v. all_bind_names any (items_of v) ≡ true) w
      (gives-given _ (as_params es) _ (λ ps e. all-meet (comma_of es) (items_of es) ps e))

  pub items-bind : {c : Scope} {xs ys : List TokenAndSpan} {t : Tree F C K} → Reads hook ArrowParams c xs ys t
      → all_bind_names any (items_of (only_items t)) ≡ true
  items-bind {t = node k s ts} d = all-same-binds any ts ∙ params_bind d

  -- so do those that have their marks of commas
  pub items-bind-marked : {c : Scope} {xs ys : List TokenAndSpan} {t : Tree F C K} → Reads hook ArrowParams c xs ys t
      → all_bind_names any (items_of (keep_items t)) ≡ true
  items-bind-marked {t = node k s ts} d = params_bind d

module _ {F C K : Type 0} where
  -- the items, with their marks or without
  pub items-bare : (t : Tree F C K) → unmarked (keep_items t) ≡ only_items t
  items-bare (node k s ts) = refl

  pub pats-commas : (f : ℕ → Tree F C K) (xs : List PatId)
      → commas_of_all (trees (map (λ (p : PatId). f p.0) xs)) ≡ part_commas f (flat one_pat xs)
  pats-commas f [] = refl
  pats-commas f (x ∷ xs) = ap (λ v. v ++ commas_in (f x.0)) (pats-commas f xs)
