-- From readings of patterns, and of properties of object patterns, to what is promised of them.
use Rattle.std.proofs.Common.{◌≡◌, Bool, true, false, ◌||◌, List, [], ◌∷◌, ◌++◌, Some, Result, Ok, Err, refl, sym, ap, subst, ◌∙◌}
use Rattle.swc_context.specs.{declared.error.Error.Error, declared.span.Span.Span}
use Rattle.swc_input.specs.{declared.buffer.Buffer.Buffer, declared.token.Token.Token, declared.token.Token.Token as token, declared.token.TokenAndSpan.TokenAndSpan, Buffer.previous, Kinds.at_token, Source.Model}
use Rattle.swc_ast.specs.Trees.{is_grouped, is_valid, unmarked}
use Rattle.swc_ast.specs.{Pedantic.privates_ok, Tree.Tree, TreeOf.pat_prop_tree, declared.pat.ObjectPatProp.ObjectPatProp, declared.spanned.Spanned.Ghosts}
use Rattle.swc_bodies.specs.Readings.{Hook, LawfulHook}
use Rattle.swc_grammar.specs.Clean.{first, sym as at, run}
use Rattle.swc_grammar.specs.Patterns.{any, binds_names, prop_binds_names}
use Rattle.swc_grammar.specs.Reads.{Reads, ReadsUnmarked, by, gave, took, held, part}
use Rattle.swc_grammar.specs.Symbols.{Pat, Element, PatProp, Rest}
use Rattle.swc_grammar.specs.{Firsts.begins_key, Grammar.pat-rest, Scope.Scope, Tokens.is_dots, Words.◌>>=◌}
use Rattle.swc_grammar.proofs.Complete as clean_all
use Rattle.swc_grammar.proofs.Direct.{pattern-binds, element-binds, property-binds, dotted-binds}
use Rattle.swc_grammar.proofs.{Complete.stops-pat-prop, Cut.cut-append, Firsts.begins, MarkedBinds.same-binds, MarkedBinds.prop-same-binds}
use Rattle.swc_grammar.proofs.Sound as clean
use Rattle.swc_nodes.specs.GrowingNodes.{SameNodes}
use Rattle.swc_patterns.specs.{Objects.pat_prop_by, Objects.pat_prop_item, Rests.rest_node}
use Rattle.swc_steps.specs.Parsing.{scope, Parses}
use Rattle.swc_steps.proofs.Lists.{eaten_not, eaten_takes}
use Rattle.swc_ecma_parser.specs.Calls.{buffer_of, nodes_of, has_failed, parser_failed}
use Rattle.swc_ecma_parser.specs.Promise.{Anywhere, Bound, BoundAsProp, Complete, Derivation, EndsAt, Finished, PropOrRest, as-prop, as-rest, Sound, covers_done, Promised, PromisedPatProp, pat_prop_in_boxes}
use Rattle.swc_ecma_parser.specs.declared.parser.Parser.{Parser}
use Rattle.swc_ecma_parser.proofs.Calling.{not_both, promised-again}
use Rattle.swc_ecma_parser.proofs.Top.{IsSound, IsComplete, Meets, Well, bare, complete, meets, stripped_from, well_bare}

-- ---- what patterns bind

or_left : (a b : Bool) → a ≡ true → (a || b) ≡ true
or_left true b h = refl
or_left false b h = cc

or_right : (a b : Bool) → b ≡ true → (a || b) ≡ true
or_right true b h = refl
or_right false b h = h

module _ {F C K : Type 0} (hook : Hook F C K) (c : Scope) (xs ys : List TokenAndSpan) (t : Tree F C K) where
  pat_bare : ReadsUnmarked hook Pat c xs ys t → binds_names any t ≡ true
  pat_bare d = ap (λ v. binds_names any v) (sym d.same) ∙ same-binds any d.marked ∙ pattern-binds hook d.read

  element_bare : ReadsUnmarked hook Element c xs ys t → binds_names any t ≡ true
  element_bare d = ap (λ v. binds_names any v) (sym d.same) ∙ same-binds any d.marked ∙ element-binds hook d.read

  prop_bare : PropOrRest (ReadsUnmarked hook) c xs ys t → (prop_binds_names any t || binds_names any t) ≡ true
  prop_bare (as-prop d) =
      or_left (prop_binds_names any t) (binds_names any t)
      (ap (λ v. prop_binds_names any v) (sym d.same) ∙ prop-same-binds any d.marked ∙ property-binds hook d.read)
  prop_bare (as-rest d) =
      or_right (prop_binds_names any t) (binds_names any t)
      (ap (λ v. binds_names any v) (sym d.same) ∙ same-binds any d.marked ∙ dotted-binds hook d.read)

module _ {S F C K T : Type 0} (model : Model S) (hook : Hook F C K) (view : T → Tree F C K) where
  bound_of : (derives : Derivation (Tree F C K))
      → ((c : Scope) (xs ys : List TokenAndSpan) (t : Tree F C K) → derives c xs ys t → binds_names any t ≡ true)
      → (b : Buffer S) (r : Result T Error) (c : Buffer S) → Sound model derives view b r c → Bound model view b r c
  bound_of derives all b (Ok x) c h = λ l same. let d = h l same in all (scope model b) d.consumed [] (view x) d.whole
  bound_of derives all b (Err e) c h = λ l. tt

  -- of a node, of a tree in boxes, and of an element as either
  pub bound-marked : (b : Buffer S) (r : Result T Error) (c : Buffer S)
      → Sound model (Finished covers_done (Reads hook Pat)) view b r c
      → Bound model view b r c
  bound-marked = bound_of (Finished covers_done (Reads hook Pat)) (λ c xs ys t d. pattern-binds hook d.read)

  pub bound-pat : (b : Buffer S) (r : Result T Error) (c : Buffer S)
      → Sound model (Finished covers_done (ReadsUnmarked hook Pat)) view b r c → Bound model view b r c
  bound-pat = bound_of (Finished covers_done (ReadsUnmarked hook Pat)) (λ c xs ys t d. pat_bare hook c xs ys t d.read)

  pub bound-marked-element : (b : Buffer S) (r : Result T Error) (c : Buffer S)
      → Sound model (Finished covers_done (Reads hook Element)) view b r c → Bound model view b r c
  bound-marked-element = bound_of (Finished covers_done (Reads hook Element)) (λ c xs ys t d. element-binds hook d.read)

  pub bound-element : (b : Buffer S) (r : Result T Error) (c : Buffer S)
      → Sound model (Finished covers_done (ReadsUnmarked hook Element)) view b r c → Bound model view b r c
  bound-element = bound_of (Finished covers_done (ReadsUnmarked hook Element))
      (λ c xs ys t d. element_bare hook c xs ys t d.read)

  -- of a property of an object pattern, or a rest
  pub bound-prop : (b : Buffer S) (r : Result T Error) (c : Buffer S)
      → Sound model (PropOrRest (ReadsUnmarked hook)) view b r c
      → BoundAsProp model view b r c
  bound-prop b (Ok x) c h = λ l same. let d = h l same in prop_bare hook (scope model b) d.consumed [] (view x) d.whole
  bound-prop b (Err e) c h = λ l. tt

-- ---- a property of an object pattern, or a rest

-- no key begins with dots
no_dots : (t : Token) → begins_key t ≡ true → is_dots t ≡ false
no_dots (token.Word w) h = refl
no_dots (token.Num raw) h = refl
no_dots (token.BigInt raw) h = refl
no_dots (token.Str value raw) h = refl
no_dots token.LBracket h = refl
no_dots t h = absurd cc

key_first : (ts : List TokenAndSpan) → at_token begins_key (first ts) ≡ true → at_token is_dots (first ts) ≡ false
key_first [] h = refl
key_first (a ∷ us) h = no_dots a.token h

module _ {F C K : Type 0} (hook : Hook F C K) where
  item_prop : (c : Scope) (ts : List TokenAndSpan) → at_token is_dots (first ts) ≡ false
      → pat_prop_item hook c ts ≡ run hook (at PatProp) c ts
  unfolding pat_prop_item
  item_prop c ts h = ap (λ o. o >>= (λ p. pat_prop_by hook p.0 c p.1)) (eaten_not is_dots c ts h)

  item_rest : (c : Scope) (a : TokenAndSpan) (us : List TokenAndSpan) → is_dots a.token ≡ true
      → pat_prop_item hook c (a ∷ us) ≡ (run hook (at Pat) c us >>= (λ p. Some (rest_node a.span p.0, p.1)))
  unfolding pat_prop_item
  item_rest c a us h = ap (λ o. o >>= (λ p. pat_prop_by hook p.0 c p.1)) (eaten_takes is_dots c a us h)

  -- what is derived is read
  prop_read : (c : Scope) (ts ys : List TokenAndSpan) (t : Tree F C K) → Reads hook PatProp c ts ys t
      → EndsAt PatProp ys
      → pat_prop_item hook c ts ≡ Some (t, ys)
  prop_read c ts ys t d e = item_prop c ts (key_first ts (begins d)) ∙ clean_all.complete hook d (stops-pat-prop c e)

  rest_read : (c : Scope) (ts ys : List TokenAndSpan) (t : Tree F C K) → Reads hook Rest c ts ys t
      → pat_prop_item hook c ts ≡ Some (t, ys)
  rest_read c ts ys t (by pat-rest (took {a = a} (held h (part d gave)))) =
      item_rest c a _ h ∙ ap (λ o. o >>= (λ p. Some (rest_node a.span p.0, p.1))) (clean_all.complete hook d tt)

  bare_read : (c : Scope) (ts ys : List TokenAndSpan) (m t : Tree F C K) → pat_prop_item hook c ts ≡ Some (m, ys)
      → unmarked m ≡ t
      → bare (pat_prop_item hook) c ts ≡ Some (t, ys)
  bare_read c ts ys m t e same = ap (λ o. o >>= (λ p. Some (unmarked p.0, p.1))) e ∙ ap (λ v. Some (v, ys)) same

  either_complete : IsComplete (PropOrRest (ReadsUnmarked hook)) (EndsAt PatProp) (bare (pat_prop_item hook))
  either_complete = record { complete = λ c ts ys t d e. either c ts ys t d e }
    where
      either : (c : Scope) (ts ys : List TokenAndSpan) (t : Tree F C K) → PropOrRest (ReadsUnmarked hook) c ts ys t
          → EndsAt PatProp ys
          → bare (pat_prop_item hook) c ts ≡ Some (t, ys)
      either c ts ys t (as-prop d) e = bare_read c ts ys d.marked t (prop_read c ts ys d.marked d.read e) d.same
      either c ts ys t (as-rest d) e = bare_read c ts ys d.marked t (rest_read c ts ys d.marked d.read) d.same

  rest_complete : IsComplete (ReadsUnmarked hook Rest) Anywhere (bare (pat_prop_item hook))
  rest_complete = record {
    complete = λ c ts ys t d e. bare_read c ts ys d.marked t (rest_read c ts ys d.marked d.read) d.same;
  }

  either_well : Well (PropOrRest (ReadsUnmarked hook))
  either_well = record {
    grouped = λ c xs ys t d. all_grouped c xs ys t d;
    valid = λ c xs ys t d. all_valid c xs ys t d;
    privates = λ c xs ys t d y. all_placed c xs ys t d y;
  }
    where
      all_grouped : (c : Scope) (xs ys : List TokenAndSpan) (t : Tree F C K) → PropOrRest (ReadsUnmarked hook) c xs ys t
          → is_grouped t ≡ true
      all_grouped c xs ys t (as-prop d) = (well_bare hook PatProp).grouped c xs ys t d
      all_grouped c xs ys t (as-rest d) = (well_bare hook Rest).grouped c xs ys t d

      all_valid : (c : Scope) (xs ys : List TokenAndSpan) (t : Tree F C K) → PropOrRest (ReadsUnmarked hook) c xs ys t
          → is_valid t ≡ true
      all_valid c xs ys t (as-prop d) = (well_bare hook PatProp).valid c xs ys t d
      all_valid c xs ys t (as-rest d) = (well_bare hook Rest).valid c xs ys t d

      all_placed : (c : Scope) (xs ys : List TokenAndSpan) (t : Tree F C K) → PropOrRest (ReadsUnmarked hook) c xs ys t
          → c.syntax.pedantic ≡ true → privates_ok false t ≡ true
      all_placed c xs ys t (as-prop d) y = (well_bare hook PatProp).privates c xs ys t d y
      all_placed c xs ys t (as-rest d) y = (well_bare hook Rest).privates c xs ys t d y

module _ {F C K : Type 0} {fun_at : F → Span} {class_at : C → Span} {block_at : K → Span} (hook : Hook F C K)
    (laws : LawfulHook fun_at class_at block_at hook) where
  -- what is read is derived
  prop_derived : (c : Scope) (ts ys : List TokenAndSpan) (t : Tree F C K) → at_token is_dots (first ts) ≡ false
      → pat_prop_item hook c ts ≡ Some (t, ys) → PropOrRest (Reads hook) c ts ys t
  prop_derived c ts ys t n h = as-prop (clean.sound hook laws PatProp c ts (t, ys) (sym (item_prop hook c ts n) ∙ h))

  rest_derived : (c : Scope) (a : TokenAndSpan) (us ys : List TokenAndSpan) (t : Tree F C K) → is_dots a.token ≡ true
      → pat_prop_item hook c (a ∷ us) ≡ Some (t, ys) → PropOrRest (Reads hook) c (a ∷ us) ys t
  rest_derived c a us ys t y h =
      let (m, e, same) = stripped_from (rest_node a.span) (run hook (at Pat) c us) t ys
      (sym (item_rest hook c a us y) ∙ h) in
      subst (λ v. PropOrRest (Reads hook) c (a ∷ us) ys v) same
      (as-rest (by pat-rest (took (held y (part (clean.sound hook laws Pat c us (m, ys) e) gave)))))

  either_derived : (c : Scope) (ts ys : List TokenAndSpan) (t : Tree F C K) → pat_prop_item hook c ts ≡ Some (t, ys)
      → PropOrRest (Reads hook) c ts ys t
  either_derived c [] ys t h = prop_derived c [] ys t refl h
  either_derived c (a ∷ us) ys t h = by_first (is_dots a.token) refl
    where
      by_first : (v : Bool) → is_dots a.token ≡ v → PropOrRest (Reads hook) c (a ∷ us) ys t
      by_first true e = rest_derived c a us ys t e h
      by_first false e = prop_derived c (a ∷ us) ys t e h

  either_cut : (c : Scope) (own ys : List TokenAndSpan) (t : Tree F C K) → PropOrRest (Reads hook) c (own ++ ys) ys t
      → PropOrRest (Reads hook) c own [] t
  either_cut c own ys t (as-prop d) = as-prop (cut-append own ys d)
  either_cut c own ys t (as-rest d) = as-rest (cut-append own ys d)

  pub either-sound : IsSound (PropOrRest (Reads hook)) (pat_prop_item hook)
  either-sound = record {
    sound = λ c ts ys t h. either_derived c ts ys t h;
    cut =
        λ c own ys t d. either_cut c own ys t d;
  }

  bare_as : (c : Scope) (xs ys : List TokenAndSpan) (m t : Tree F C K) → unmarked m ≡ t
      → PropOrRest (Reads hook) c xs ys m
      → PropOrRest (ReadsUnmarked hook) c xs ys t
  bare_as c xs ys m t same (as-prop d) = as-prop (record { marked = m; read = d; same = same })
  bare_as c xs ys m t same (as-rest d) = as-rest (record { marked = m; read = d; same = same })

  cut_bare : (c : Scope) (own ys : List TokenAndSpan) (t : Tree F C K)
      → PropOrRest (ReadsUnmarked hook) c (own ++ ys) ys t
      → PropOrRest (ReadsUnmarked hook) c own [] t
  cut_bare c own ys t (as-prop d) = as-prop (record {
    marked = d.marked;
    read = cut-append own ys d.read;
    same =
        d.same;
  })
  cut_bare c own ys t (as-rest d) = as-rest (record {
    marked = d.marked;
    read = cut-append own ys d.read;
    same =
        d.same;
  })

  either_bare : IsSound (PropOrRest (ReadsUnmarked hook)) (bare (pat_prop_item hook))
  either_bare = record {
    sound = λ c ts ys t h.
        let (m, e, same) = stripped_from unmarked (pat_prop_item hook c ts) t ys h in
        bare_as c ts ys m t same (either_derived c ts ys m e);
    cut = λ c own ys t d. cut_bare c own ys t d;
  }

  module _ {S T : Type 0} (model : Model S) (sure : Bool) (view : T → Tree F C K) where
    pub meets-pat-prop : (b : Buffer S) (r : Result T Error) (c : Buffer S)
        → Parses model sure view (bare (pat_prop_item hook)) b r c
        → Meets model sure (PropOrRest (ReadsUnmarked hook)) view PatProp b r c
    meets-pat-prop =
        meets model sure hook laws view PatProp (PropOrRest (ReadsUnmarked hook))
        (bare (pat_prop_item hook)) either_bare
        (either_complete hook) (either_well hook)

    -- a rest that is derived is answered, whatever follows
    pub rest-answered : (b : Buffer S) (r : Result T Error) (c : Buffer S)
        → Parses model sure view (bare (pat_prop_item hook)) b r c
        → sure ≡ true → Complete model (ReadsUnmarked hook Rest) view Anywhere b r c
    rest-answered b r c h y =
        complete model sure (ReadsUnmarked hook Rest) view (bare (pat_prop_item hook)) y Anywhere
        (rest_complete hook) b r c h

module _ {S H F C K : Type 0} {fg : Ghosts F} {cg : Ghosts C} {kg : Ghosts K} {model : Model S} {sure : Bool}
    {hook : Hook F C K} where
  pub pat-prop-again : {p : Parser S H F C K fg cg kg} {e : Error}
      → (has_failed p ≡ true) × (e ≡ parser_failed (previous (buffer_of p)))
      → SameNodes (nodes_of p) (nodes_of p) → PromisedPatProp model sure hook p (Err e) p
  pat-prop-again h same = record {
    promised = promised-again h same;
    rest = λ runs. absurd (not_both h.0 runs);
    binds = λ runs. absurd (not_both h.0 runs);
  }

  pub promised-pat-prop : {p q : Parser S H F C K fg cg kg} (b : Buffer S) (a : Result (ObjectPatProp F C K) Error)
      {r : Result (ObjectPatProp F C K) Error}
      → r ≡ a → buffer_of q ≡ b → Promised model sure hook pat_prop_in_boxes PatProp p r q → (sure ≡ true
      → Complete model (ReadsUnmarked hook Rest) (pat_prop_tree F C K fg.place cg.place kg.place) Anywhere
      (buffer_of p) a b)
      → PromisedPatProp model sure hook p r q
  promised-pat-prop {p} {q} b a {r} e buffer h k = record {
    promised = h;
    rest = λ w. rw (e, buffer) k;
    binds = λ w.
        bound-prop model hook (pat_prop_tree F C K fg.place cg.place kg.place) (buffer_of p) r (buffer_of q)
        (h.sound w);
  }
