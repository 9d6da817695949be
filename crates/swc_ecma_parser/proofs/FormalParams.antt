-- From what is read of formal parameters to what is promised of them.
use Rattle.std.proofs.Common.{◌≡◌, ◌≢◌, ℕ, Bool, true, false, List, [], ◌∷◌, ◌++◌, not, if◌then◌else◌, Some, None, Result, Ok, Err, IfOk, OnOk, MatchResult, map, length, ◌||◌, refl, sym, ap, subst, ◌∙◌, append_assoc, arith}
use Rattle.std.specs.{declared.alloc.Global.Global, declared.vec.Vec.Vec}
use Rattle.swc_context.specs.{declared.error.Error.Error, declared.error.SyntaxError.TheVariants.OutOfMemory, declared.span.BytePos.BytePos, declared.span.Span.Span}
use Rattle.swc_input.specs.Buffer.{Future, Known, last_position, previous}
use Rattle.swc_input.specs.{declared.buffer.Buffer.Buffer, declared.token.TokenAndSpan.TokenAndSpan, Laws.Known-after, Laws.Known-Future, Recording.no_memory, Source.Model}
use Rattle.swc_ast.specs.Tree.{Tree, node, Trees, args, nil, cons, no_span, span_of, trees}
use Rattle.swc_ast.specs.Trees.{are_grouped, are_valid, items_of, listed, unmarked, all_unmarked}
use Rattle.swc_ast.specs.{Parts.param_tree, Pedantic.all_privates_ok, Pedantic.none_left, TreeOf.pat_tree, declared.function.Param.Param, declared.pat.Pat.Pat as PatOf, declared.spanned.Spanned.Ghosts}
use Rattle.swc_bodies.specs.Readings.{Hook, LawfulHook}
use Rattle.swc_grammar.specs.Clean.{Out, sym as at, run}
use Rattle.swc_grammar.specs.{Patterns.any, Patterns.all_bind_names, Reads.Reads, Reads.ReadsUnmarked, Scope.Scope, Symbols.Params, Tokens.is_rparen, Words.◌>>=◌}
use Rattle.swc_grammar.proofs.Complete as clean_all
use Rattle.swc_grammar.proofs.{Cut.cut-append, MarkedBinds.all-same-binds, Marks.same-grouped, Marks.same-valid}
use Rattle.swc_grammar.proofs.Sound as clean
use Rattle.swc_laws.proofs.PedanticTrees.{all-covers-unmarked, all-privates-unmarked}
use Rattle.swc_nodes.specs.Commas.{comma_at, commas_in, commas_of_all, part_commas, recalled, Recalls}
use Rattle.swc_nodes.specs.GrowingNodes.{tree_at, bare_at, Apart, CutTo}
use Rattle.swc_nodes.specs.{NodeParts.flat, NodeParts.param_parts, declared.commas.TrailingCommas.TrailingCommas, declared.node.PatId.PatId, declared.nodes.Nodes.Nodes}
use Rattle.swc_steps.specs.Params.{params_at, params_of, params_close, pat_at, placed}
use Rattle.swc_patterns.specs.ParamsRead.{AllReadAlone}
use Rattle.swc_input.specs.Calls.{recorded, Checks, Loud}
use Rattle.swc_steps.specs.Parsing.{scope, Acts, On, Unheard}
use Rattle.swc_steps.specs.{Keys.expected, Lists.eaten}
use Rattle.swc_steps.proofs.Hearing.{same_faults}
use Rattle.swc_steps.proofs.Steps.{Reader, forgoes_later, forgoes_refuses, on_checked_in, on_then, on_within_call, spent, more_recorded, unheard_call, unheard_memory}
use Rattle.swc_ecma_parser.specs.CoverNames.{covers_left, covers_left_of_all, parts_covers_left}
use Rattle.swc_ecma_parser.specs.Calls.{buffer_of, nodes_of, commas_of, has_failed, wants_memory, standing, Ends, parser_failed, params_tree, Kept}
use Rattle.swc_ecma_parser.specs.Promise.{ClosedBy, Derivation, DerivesOnlyParams, DerivesParams, Finished, ParamsAnswer, PromisedParams, RemembersParams, Unmarred, each_placed, items_done, pats_of}
use Rattle.swc_ecma_parser.specs.{Finishing.parts_done, Finishing.ChecksAnswer, declared.parser.Parser.Parser}
use Rattle.swc_ecma_parser.proofs.Finished.{finished, finished-from, finished-into, parts-told}
use Rattle.swc_ecma_parser.proofs.Top.{as_many, memory, parts}
use Rattle.swc_ecma_parser.proofs.{Calling.bounded, Calling.failing, Calling.not_both, Calling.shallow, ParamsAlone.AllFine, ParamsAlone.all-fine}

-- ---- patterns of parameters

module _ {F C K : Type 0} where
  same_place : (t : Tree F C K) → span_of (unmarked t) ≡ span_of t
  same_place (node k s ts) = refl

  -- the patterns that nodes of parameters hold
  abbrev first_parts : Trees F C K → Trees F C K
  first_parts nil = nil
  first_parts (cons (node k s nil) ts) = first_parts ts
  first_parts (cons (node k s (cons p us)) ts) = cons p (first_parts ts)

  held_pats : {X : Type 0} (f : X → Tree F C K) (xs : List (Param X))
      → first_parts (trees (map (param_tree f) xs)) ≡ trees (map (λ p. f p.pat) xs)
  held_pats f [] = refl
  held_pats f (x ∷ xs) = ap (cons (f x.pat)) (held_pats f xs)

  same_pats : {X Y : Type 0} (f : X → Tree F C K) (g : Y → Tree F C K) (xs : Vec (Param X) Global)
      (ys : Vec (Param Y) Global)
      → params_tree f xs ≡ params_tree g ys → trees (map (λ p. f p.pat) xs.items) ≡ trees (map (λ p. g p.pat) ys.items)
  same_pats f g xs ys e = sym (held_pats f xs.items) ∙ ap (λ t. first_parts (items_of t)) e ∙ held_pats g ys.items

  unmarked_pats : (f : ℕ → Tree F C K) (xs : List (Param PatId))
      → all_unmarked (trees (map (λ p. f p.pat.0) xs)) ≡ trees (map (λ p. unmarked (f p.pat.0)) xs)
  unmarked_pats f [] = refl
  unmarked_pats f (x ∷ xs) = ap (cons (unmarked (f x.pat.0))) (unmarked_pats f xs)

  pats_commas : (f : ℕ → Tree F C K) (xs : List (Param PatId))
      → commas_of_all (trees (map (λ p. f p.pat.0) xs)) ≡ part_commas f (flat param_parts xs)
  pats_commas f [] = refl
  pats_commas f (x ∷ xs) = ap (λ v. v ++ commas_in (f x.pat.0)) (pats_commas f xs)

  -- the cover names that are left in them
  pats_left : (f : ℕ → Tree F C K) (xs : List (Param PatId))
      → covers_left_of_all (trees (map (λ p. f p.pat.0) xs)) ≡ parts_covers_left f (flat param_parts xs)
  pats_left f [] = refl
  pats_left f (x ∷ xs) = ap (λ v. covers_left (f x.pat.0) ++ v) (pats_left f xs)

  -- ---- the `)` that closes parameters

  closes : (pats : Trees F C K) (c : Scope) (t : TokenAndSpan) (ys : List TokenAndSpan) → is_rparen t.token ≡ true
      → params_close pats c (t ∷ ys) ≡ Some (listed None t.span pats, ys)
  unfolding params_close expected eaten
  closes pats c t ys h = rw h refl

  unclosed : (pats : Trees F C K) (c : Scope) (t : TokenAndSpan) (ys : List TokenAndSpan) → is_rparen t.token ≡ false
      → params_close pats c (t ∷ ys) ≡ None
  unfolding params_close expected eaten
  unclosed pats c t ys h = rw h refl

  unclosed_end : (pats : Trees F C K) (c : Scope) → params_close pats c [] ≡ None
  unfolding params_close expected eaten
  unclosed_end pats c = refl

  -- the tokens of a list that is closed, and its tree
  record Closed (pats : Trees F C K) (ts : List TokenAndSpan) (m : Tree F C K) (ys : List TokenAndSpan) : Type 0 where
    pub close : TokenAndSpan
    pub is : is_rparen close.token ≡ true
    pub begins : ts ≡ close ∷ ys
    pub list : m ≡ listed None close.span pats

  closed_from : (pats : Trees F C K) (c : Scope) (ts : List TokenAndSpan) (m : Tree F C K) (ys : List TokenAndSpan)
      → params_close pats c ts ≡ Some (m, ys) → Closed pats ts m ys
  closed_from pats c [] m ys h = let n = unclosed_end pats c in absurd cc
  closed_from pats c (a ∷ us) m ys h = by_first (is_rparen a.token) refl
    where
      by_first : (v : Bool) → is_rparen a.token ≡ v → Closed pats (a ∷ us) m ys
      by_first true e =
          let q = parts (listed None a.span pats, us) (m, ys) (sym (closes pats c a us e) ∙ h) in
          record { close = a; is = e; begins = ap (λ v. a ∷ v) q.1; list = sym q.0 }
      by_first false e = let n = unclosed pats c a us e in absurd cc

-- ---- the look through parameters, whose parenthesis stays

module _ {F C K : Type 0} (hook : Hook F C K) where
  -- the parameters, with the `)` that closes them, if no cover name is left in them
  abbrev pub read_params : Reader (Tree F C K)
  read_params = finished items_done (run hook (at Params))

-- reading goes on where no cover name is left
module _ {F C K : Type 0} where
  abbrev if_done : Scope → Tree F C K × List TokenAndSpan → Out (Tree F C K)
  if_done c p = if items_done c p.0 then Some p else None

  -- whether cover names are left doesn't depend on the parenthesis
  abbrev pats_done : Scope → Trees F C K → Bool
  pats_done c pats = not c.syntax.pedantic || none_left pats

  close_done : (pats : Trees F C K) (c : Scope) (ts : List TokenAndSpan) → pats_done c pats ≡ true
      → (params_close pats c ts >>= if_done c) ≡ params_close pats c ts
  close_done pats c [] w = let n = unclosed_end pats c in rw n refl
  close_done pats c (a ∷ us) w = by_first (is_rparen a.token) refl
    where
      by_first : (v : Bool) → is_rparen a.token ≡ v → (params_close pats c (a ∷ us) >>= if_done c) ≡ params_close pats c
          (a ∷ us)
      by_first true e =
          ap (λ o. o >>= if_done c) (closes pats c a us e)
          ∙ ap (λ b. if b then Some (listed None a.span pats, us) else None) w
          ∙ sym (closes pats c a us e)
      by_first false e = let n = unclosed pats c a us e in ap (λ o. o >>= if_done c) n ∙ sym n

  close_undone : (pats : Trees F C K) (c : Scope) (ts : List TokenAndSpan) → pats_done c pats ≡ false
      → (params_close pats c ts >>= if_done c) ≡ None
  close_undone pats c [] w = ap (λ o. o >>= if_done c) (unclosed_end pats c)
  close_undone pats c (a ∷ us) w = by_first (is_rparen a.token) refl
    where
      by_first : (v : Bool) → is_rparen a.token ≡ v → (params_close pats c (a ∷ us) >>= if_done c) ≡ None
      by_first true e =
          ap (λ o. o >>= if_done c) (closes pats c a us e)
          ∙ ap (λ b. if b then Some (listed None a.span pats, us) else None) w
      by_first false e = ap (λ o. o >>= if_done c) (unclosed pats c a us e)

module _ {S F C K : Type 0} {model : Model S} {sure : Bool} (hook : Hook F C K) where
  params_checked : (pats : Trees F C K) (well : Bool) {b c d : Buffer S}
      → On model sure (run hook (at Params)) (params_close pats) b c
      → Checks model well c d → well ≡ pats_done (scope model c) pats
      → On model sure (read_params hook) (params_close pats) b d
  params_checked pats well {c = c} on checks fits =
      on_then
      (on_within_call {g = λ x ts. params_close pats x ts >>= if_done x} if_done (λ x ts. refl) (λ x ts. refl) on)
      (on_checked_in {f = λ x ts. params_close pats x ts >>= if_done x} {g = params_close pats} well checks
      (λ ts w. close_done pats (scope model c) ts (sym fits ∙ w))
      (λ ts w. close_undone pats (scope model c) ts (sym fits ∙ w)))

module _ {S F C K : Type 0} {fg : Ghosts F} {cg : Ghosts C} {kg : Ghosts K} (model : Model S) (sure : Bool)
    (hook : Hook F C K)
    (ns : Nodes F C K fg cg kg) (b c d : Buffer S) where
  told : (x : Vec (Param PatId) Global)
      → parts_done (scope model c) (tree_at ns) (flat param_parts x.items) ≡ pats_done (scope model c) (params_at ns x)
  told x =
      parts-told (scope model c) (tree_at ns) (flat param_parts x.items) (node args no_span (params_at ns x))
      (pats_left (tree_at ns) x.items)

  pub params-checked : (answer r : Result (Vec (Param PatId) Global) Error)
      → MatchResult answer (λ x. On model sure (run hook (at Params)) (params_close (params_at ns x)) b c)
      (λ e. Unheard model sure (run hook (at Params)) b e c)
      → ChecksAnswer model (λ x. parts_done (scope model c) (tree_at ns) (flat param_parts x.items)) c answer r d
      → MatchResult r (λ x. On model sure (read_params hook) (params_close (params_at ns x)) b d)
      (λ e. Unheard model sure (read_params hook) b e d)
  params-checked (Ok x) (Ok y) on (same, checks) =
      subst (λ v. On model sure (read_params hook) (params_close (params_at ns v)) b d) (sym same)
      (params_checked hook (params_at ns x) _ on checks.checks (told x))
  params-checked (Ok x) (Err e) on forgoes = unheard_memory (forgoes_later on.leads forgoes)
  params-checked (Err e) (Ok y) u (same, stays) = absurd cc
  params-checked (Err e) (Err x) u (same, stays) =
      let same : x ≡ e = cc in
      subst (λ v. Unheard model sure (read_params hook) b v d) (sym same)
      (subst (λ v. Unheard model sure (read_params hook) b e v) (sym stays) (unheard_call if_done (λ k ts. refl) u))

  -- and each of them is read by itself
  pub params-alone : (answer r : Result (Vec (Param PatId) Global) Error)
      → MatchResult answer (λ x. On model sure (run hook (at Params)) (params_close (params_at ns x)) b c)
      (λ e. Unheard model sure (run hook (at Params)) b e c) → (Loud model b → recorded model c ≡ recorded model b
      → IfOk answer (λ x. AllReadAlone hook (scope model b) (params_at ns x)))
      → ChecksAnswer model (λ x. parts_done (scope model c) (tree_at ns) (flat param_parts x.items)) c answer r d
      → Loud model b → recorded model d ≡ recorded model b
      → IfOk r (λ x. AllReadAlone hook (scope model b) (params_at ns x))
  params-alone (Ok x) (Ok y) on each (same, checks) l n =
      let m0 = more_recorded on.leads in
      let m1 = more_recorded checks.checks.leads in
      subst (λ v. AllReadAlone hook (scope model b) (params_at ns v)) (sym same) (each l (omega (arith, n)))
  params-alone (Ok x) (Err e) on each forgoes l n = tt
  params-alone (Err e) (Ok y) u each (same, stays) l n = absurd cc
  params-alone (Err e) (Err x) u each (same, stays) l n = tt

-- What derives parameters, besides the trees with their marks of commas: trees that `strip` leaves of them.
pub record Derives {F C K : Type 0} (hook : Hook F C K) (derives : Derivation (Tree F C K))
    (strip : Trees F C K → Trees F C K) : Type 0 where
  pub into : (c : Scope) (xs ys : List TokenAndSpan) (s : Span) (m : Trees F C K)
      → Reads hook Params c xs ys (listed None s m)
      → items_done c (listed None s m) ≡ true → derives c xs ys (listed None s (strip m))
  pub marked : (c : Scope) (xs ys : List TokenAndSpan) (t : Tree F C K) → derives c xs ys t → Tree F C K
  pub read : (c : Scope) (xs ys : List TokenAndSpan) (t : Tree F C K) (d : derives c xs ys t)
      → Reads hook Params c xs ys (marked c xs ys t d)
  pub covers : (c : Scope) (xs ys : List TokenAndSpan) (t : Tree F C K) (d : derives c xs ys t)
      → items_done c (marked c xs ys t d) ≡ true
  pub list : (c : Scope) (xs ys : List TokenAndSpan) (t : Tree F C K) (d : derives c xs ys t) (s : Span)
      (m : Trees F C K)
      → marked c xs ys t d ≡ listed None s m → t ≡ listed None s (strip m)
  pub grouped : (m : Trees F C K) → are_grouped (strip m) ≡ are_grouped m
  pub valid : (m : Trees F C K) → are_valid (strip m) ≡ are_valid m
  pub privates : (m : Trees F C K) → all_privates_ok false false (strip m) ≡ all_privates_ok false false m
  pub binds : (m : Trees F C K) → all_bind_names any (strip m) ≡ all_bind_names any m

bare_done : {F C K : Type 0} (c : Scope) (m : Tree F C K) → items_done c (unmarked m) ≡ items_done c m
bare_done c (node k s ts) = ap (λ v. not c.syntax.pedantic || v) (all-covers-unmarked ts)

-- without the marks, and with them
pub derives-bare : {F C K : Type 0} (hook : Hook F C K)
    → Derives hook (Finished items_done (ReadsUnmarked hook Params)) (λ ts. all_unmarked ts)
derives-bare hook = record {
  into = λ c xs ys s m d w. record {
    read = record { marked = listed None s m; read = d; same = refl };
    covers = bare_done c (listed None s m) ∙ w;
  };
  marked = λ c xs ys t d. d.read.marked;
  read = λ c xs ys t d. d.read.read;
  covers = λ c xs ys t d. sym (bare_done c d.read.marked) ∙ ap (λ v. items_done c v) d.read.same ∙ d.covers;
  list = λ c xs ys t d s m e. sym d.read.same ∙ ap (λ v. unmarked v) e;
  grouped = λ m. same-grouped (node args no_span m);
  valid = λ m. same-valid (node args no_span m);
  privates = λ m. all-privates-unmarked false false m;
  binds = λ m. all-same-binds any m;
}

pub derives-marked : {F C K : Type 0} (hook : Hook F C K)
    → Derives hook (Finished items_done (Reads hook Params)) (λ ts. ts)
derives-marked hook = record {
  into = λ c xs ys s m d w. record { read = d; covers = w };
  marked = λ c xs ys t d. t;
  read = λ c xs ys t d. d.read;
  covers = λ c xs ys t d. d.covers;
  list = λ c xs ys t d s m e. e;
  grouped = λ m. refl;
  valid = λ m. refl;
  privates = λ m. refl;
  binds = λ m. refl;
}

-- What a reading of parameters does and answers, from one state of the buffer and of the commas to another.
pub record MeetsParams {S F C K T : Type 0} (model : Model S) (sure : Bool) (hook : Hook F C K)
    (derives : Derivation (Tree F C K))
    (strip : Trees F C K → Trees F C K) (view : T → Trees F C K) (b : Buffer S) (r : Result T Error) (c : Buffer S)
    (old new : TrailingCommas) : Type 0 where
  pub acts : Acts model b r c
  pub sound : Loud model b → IfOk r (λ v. Unmarred model b c → DerivesParams model derives (view v) b c)
  pub complete : sure ≡ true → Loud model b → (ts ys : List TokenAndSpan) (t : Tree F C K) → Known model b ts
      → derives (scope model b) ts ys t
      → MatchResult r (λ v. ClosedBy model (view v) t c ys × Unmarred model b c) (λ e. e.kind ≡ OutOfMemory)
  pub one_tree : Loud model b → IfOk r (λ v. Unmarred model b c → DerivesOnlyParams model derives (view v) b c)
  pub grouped : Loud model b → IfOk r (λ v. Unmarred model b c → are_grouped (view v) ≡ true)
  pub valid : Loud model b → IfOk r (λ v. Unmarred model b c → are_valid (view v) ≡ true)
  pub privates : Loud model b → (scope model b).syntax.pedantic ≡ true
      → IfOk r (λ v. Unmarred model b c → all_privates_ok false false (view v) ≡ true)
  pub binds : Loud model b → IfOk r (λ v. Unmarred model b c → all_bind_names any (view v) ≡ true)
  pub commas : MatchResult r (λ v. RemembersParams model hook strip (view v) b c old new)
      (λ e. e.kind ≢ OutOfMemory → new ≡ old)

module _ {S F C K : Type 0} {fun_at : F → Span} {class_at : C → Span} {block_at : K → Span} (model : Model S)
    (sure : Bool)
    (hook : Hook F C K) (laws : LawfulHook fun_at class_at block_at hook) (marked : Trees F C K) (b c : Buffer S)
    (on : On model sure (read_params hook) (params_close marked) b c) where
  front_read : Loud model b → Unmarred model b c → (t : TokenAndSpan) (ys : List TokenAndSpan) → Future model c (t ∷ ys)
      → is_rparen t.token ≡ true
      → (run hook (at Params) (scope model b) (on.leads.taken ++ t ∷ ys) ≡ Some (listed None t.span marked, ys))
      × (items_done (scope model b) (listed None t.span marked) ≡ true)
  front_read l same t ys fut h =
      finished-from (items_done (scope model b)) (run hook (at Params) (scope model b) (on.leads.taken ++ t ∷ ys))
      (listed None t.span marked) ys (on.clean l (ap length same) (t ∷ ys) fut ∙ closes marked (scope model c) t ys h)

  front : Loud model b → Unmarred model b c → (t : TokenAndSpan) (ys : List TokenAndSpan) → Future model c (t ∷ ys)
      → is_rparen t.token ≡ true
      → Reads hook Params (scope model b) (on.leads.taken ++ t ∷ ys) ys (listed None t.span marked)
  front l same t ys fut h =
      clean.sound hook laws Params (scope model b) (on.leads.taken ++ t ∷ ys) (listed None t.span marked, ys)
      (front_read l same t ys fut h).0

  whole : Loud model b → Unmarred model b c → (t : TokenAndSpan) (ys : List TokenAndSpan) → Future model c (t ∷ ys)
      → is_rparen t.token ≡ true
      → Reads hook Params (scope model b) (on.leads.taken ++ t ∷ []) [] (listed None t.span marked)
  whole l same t ys fut h =
      cut-append (on.leads.taken ++ t ∷ []) ys
      (subst (λ v. Reads hook Params (scope model b) v ys (listed None t.span marked))
      (sym (append_assoc on.leads.taken (t ∷ []) ys))
      (front l same t ys fut h))

  derived : Loud model b → Unmarred model b c → DerivesParams model (Reads hook Params) marked b c
  derived l same = record {
    consumed = on.leads.taken;
    read = on.leads.read;
    front = front l same;
    whole =
        whole l same;
  }

  module _ (derives : Derivation (Tree F C K)) (strip : Trees F C K → Trees F C K) (by : Derives hook derives strip)
      (pats : Trees F C K) (strips : strip marked ≡ pats) where
    stripped_of : (xs ys : List TokenAndSpan) (t : TokenAndSpan)
        → Reads hook Params (scope model b) xs ys (listed None t.span marked)
        → items_done (scope model b) (listed None t.span marked) ≡ true
        → derives (scope model b) xs ys (listed None t.span pats)
    stripped_of xs ys t d w =
        subst (λ v. derives (scope model b) xs ys (listed None t.span v)) strips
        (by.into (scope model b) xs ys t.span marked d w)

    derived_as : Loud model b → Unmarred model b c → DerivesParams model derives pats b c
    derived_as l same = record {
      consumed = on.leads.taken;
      read = on.leads.read;
      front = λ t ys fut h.
          stripped_of (on.leads.taken ++ t ∷ ys) ys t (front l same t ys fut h) (front_read l same t ys fut h).1;
      whole = λ t ys fut h.
          stripped_of (on.leads.taken ++ t ∷ []) [] t (whole l same t ys fut h) (front_read l same t ys fut h).1;
    }

    -- over a listed source
    completed : sure ≡ true → Loud model b → (ts ys : List TokenAndSpan) (t : Tree F C K) → Known model b ts
        → derives (scope model b) ts ys t → ClosedBy model pats t c ys × Unmarred model b c
    completed y l ts ys t k d =
        let laws = on.leads.laws in
        let m = by.marked (scope model b) ts ys t d in
        let e =
        finished-into (items_done (scope model b)) (run hook (at Params) (scope model b) ts) m ys
        (clean_all.complete hook (by.read (scope model b) ts ys t d) tt) (by.covers (scope model b) ts ys t d) in
        let w = Known-after laws b c on.leads.taken ts on.leads.read.took k in
        let counted : recorded model c ≡ recorded model b =
        as_many on.leads.read.errors (λ lt. let f0 = on.faulty y l lt ts k in cc) in
        let got = on.clean l counted w.0 (Known-Future laws c w.0 w.1) in
        let found = closed_from marked (scope model c) w.0 m ys
        (sym got ∙ ap (λ v. read_params hook (scope model b) v) (sym w.2) ∙ e) in (
          record {
            close = found.close;
            is = found.is;
            known = subst (λ v. Known model c v) found.begins w.1;
            list = by.list (scope model b) ts ys t d found.close.span marked found.list ∙ ap
                (λ v. listed None found.close.span v) strips;
          },
          same_faults on.leads.read.errors counted,
        )

    one : Loud model b → Unmarred model b c → DerivesOnlyParams model derives pats b c
    one l same = record {
      consumed = on.leads.taken;
      read = on.leads.read;
      only = λ t ys fut h u d.
          let own = on.leads.taken ++ t ∷ [] in
          let x = scope model b in
          let m = by.marked x own [] u d in
          let read = clean_all.complete hook (by.read x own [] u d) tt in
          let here = clean_all.complete hook (whole l same t ys fut h) tt in
          let is = (parts (m, []) (listed None t.span marked, []) (sym read ∙ here)).0 in
          by.list x own [] u d t.span marked is ∙ ap (λ v. listed None t.span v) strips;
    }

    module _ (alone : Loud model b → recorded model c ≡ recorded model b
        → AllReadAlone hook (scope model b) marked) where
      fine_pats : Loud model b → Unmarred model b c → AllFine (scope model b).syntax.pedantic marked
      fine_pats l same = all-fine hook laws (scope model b) marked (alone l (ap length same))

      grouped_pats : Loud model b → Unmarred model b c → are_grouped pats ≡ true
      grouped_pats l same = ap (λ v. are_grouped v) (sym strips) ∙ by.grouped marked ∙ (fine_pats l same).grouped

      valid_pats : Loud model b → Unmarred model b c → are_valid pats ≡ true
      valid_pats l same = ap (λ v. are_valid v) (sym strips) ∙ by.valid marked ∙ (fine_pats l same).valid

      placed_pats : Loud model b → (scope model b).syntax.pedantic ≡ true → Unmarred model b c
          → all_privates_ok false false pats ≡ true
      placed_pats l y same =
          ap (λ v. all_privates_ok false false v) (sym strips) ∙ by.privates marked ∙ (fine_pats l same).privates y

      bound_pats : Loud model b → Unmarred model b c → all_bind_names any pats ≡ true
      bound_pats l same = ap (λ v. all_bind_names any v) (sym strips) ∙ by.binds marked ∙ (fine_pats l same).binds

module _ {S F C K T : Type 0} {fg : Ghosts F} {cg : Ghosts C} {kg : Ghosts K} (model : Model S) (sure : Bool)
    (hook : Hook F C K)
    (laws : LawfulHook fg.place cg.place kg.place hook) (derives : Derivation (Tree F C K))
    (strip : Trees F C K → Trees F C K)
    (by : Derives hook derives strip) (view : T → Trees F C K) (ns : Nodes F C K fg cg kg) (b c : Buffer S)
    (old new : TrailingCommas) where
  -- the answer stands for what the numbers stood for, as `strip` leaves it, or memory ran out
  abbrev pub StandsFor : Result (Vec (Param PatId) Global) Error → Result T Error → Type 0
  StandsFor answer r = MatchResult answer
      (λ x. MatchResult r (λ v. strip (params_at ns x) ≡ view v) (λ e. e ≡ no_memory (last_position c)))
      (λ e. r ≡ Err e)

  pub meets-params : (answer : Result (Vec (Param PatId) Global) Error) (r : Result T Error)
      → MatchResult answer (λ x. On model sure (read_params hook) (params_close (params_at ns x)) b c)
      (λ e. Unheard model sure (read_params hook) b e c) → (Loud model b → recorded model c ≡ recorded model b
      → IfOk answer (λ x. AllReadAlone hook (scope model b) (params_at ns x))) → StandsFor answer r
      → MatchResult answer (λ x. OnOk r (Recalls (part_commas (tree_at ns) (flat param_parts x.items)) old new))
      (λ e. new ≡ old)
      → MeetsParams model sure hook derives strip view b r c old new
  meets-params (Ok x) (Ok v) on alone strips q =
      let pats = params_at ns x in
      record {
        acts = on.leads;
        sound = derived_as model sure hook laws pats b c on derives strip by (view v) strips;
        complete = completed model sure hook laws pats b c on derives strip by (view v) strips;
        one_tree = one model sure hook laws pats b c on derives strip by (view v) strips;
        grouped = grouped_pats model sure hook laws pats b c on derives strip by (view v) strips alone;
        valid = valid_pats model sure hook laws pats b c on derives strip by (view v) strips alone;
        privates = placed_pats model sure hook laws pats b c on derives strip by (view v) strips alone;
        binds = bound_pats model sure hook laws pats b c on derives strip by (view v) strips alone;
        commas = record {
          marked = pats;
          same = strips;
          derived = derived model sure hook laws pats b c on;
          recalls = λ k. q k ∙ ap (λ ls. recalled ls k (comma_at old k)) (sym (pats_commas (tree_at ns) x.items));
        };
      }
  meets-params (Ok x) (Err e) on alone m q = record {
    acts = forgoes_refuses (record { spends = spent on.leads; kind = ap (λ v. v.kind) m });
    sound = λ l. tt;
    complete = λ y l ts ys t k d. ap (λ v. v.kind) m;
    one_tree = λ l. tt;
    grouped = λ l. tt;
    valid = λ l. tt;
    privates = λ l y. tt;
    binds = λ l. tt;
    commas = λ n. absurd (n (ap (λ v. v.kind) m));
  }
  meets-params (Err e) (Ok v) u alone m q = absurd cc
  meets-params (Err e) (Err x) u alone m q = subst (λ w. MeetsParams model sure hook derives strip view b w c old new)
      (sym m) (record {
        acts = u.refuses;
        sound = λ l. tt;
        complete = λ y l ts ys t k d.
            memory e.kind (λ n.
            let f0 = u.none n y l ts k in
            let f1 =
            finished-into (items_done (scope model b)) (run hook (at Params) (scope model b) ts)
            (by.marked (scope model b) ts ys t d) ys
            (clean_all.complete hook (by.read (scope model b) ts ys t d) tt) (by.covers (scope model b) ts ys t d) in
            cc);
        one_tree = λ l. tt;
        grouped = λ l. tt;
        valid = λ l. tt;
        privates = λ l y. tt;
        binds = λ l. tt;
        commas = λ n. q;
      })

module _ {F C K : Type 0} {fg : Ghosts F} {cg : Ghosts C} {kg : Ghosts K} where
  -- what was moved into boxes
  pub params-moved : (ns : Nodes F C K fg cg kg) (last : BytePos) (answer : Result (Vec (Param PatId) Global) Error)
      (r : Result (Vec (Param (PatOf F C K)) Global) Error) → MatchResult answer
      (λ x. MatchResult r
      (λ v. params_tree (pat_tree F C K fg.place cg.place kg.place) v ≡ params_tree (λ (p : PatId). bare_at ns p.0) x)
      (λ e. e ≡ no_memory last))
      (λ e. r ≡ Err e) → MatchResult answer
      (λ x. MatchResult r (λ v. all_unmarked (params_at ns x) ≡ pats_of fg.place cg.place kg.place v)
      (λ e. e ≡ no_memory last))
      (λ e. r ≡ Err e)
  params-moved ns last (Ok x) (Ok v) e =
      unmarked_pats (tree_at ns) x.items
      ∙ sym (same_pats (pat_tree F C K fg.place cg.place kg.place) (λ (p : PatId). bare_at ns p.0) v x e)
  params-moved ns last (Ok x) (Err e) m = m
  params-moved ns last (Err e) r m = m

  -- what was kept among the nodes
  pub params-kept : (ms ns : Nodes F C K fg cg kg) (last : BytePos) (k : ℕ)
      (answer r : Result (Vec (Param PatId) Global) Error)
      → Kept last answer r → MatchResult r (λ x. ns ≡ ms) (λ e. CutTo k ms ns)
      → MatchResult answer (λ x. MatchResult r (λ v. params_at ms x ≡ params_at ns v) (λ e. e ≡ no_memory last))
      (λ e. r ≡ Err e)
  params-kept ms ns last k (Ok x) (Ok y) same e = ap (λ v. params_at ms v) (sym same) ∙ ap (λ v. params_at v y) (sym e)
  params-kept ms ns last k (Ok x) (Err e) same cut = same
  params-kept ms ns last k (Err x) r same e = same

  -- where they lie
  placed_by : (f : PatOf F C K → Tree F C K) (ns : Nodes F C K fg cg kg) (xs : List (Param (PatOf F C K)))
      (ys : List (Param PatId))
      → trees (map (param_tree f) xs) ≡ trees (map (param_tree (λ (p : PatId). bare_at ns p.0)) ys) → placed ns ys
      → each_placed f xs
  placed_by f ns [] ys e h = tt
  placed_by f ns (x ∷ xs) [] e h = absurd cc
  placed_by f ns (x ∷ xs) (y ∷ ys) e h =
      let at : x.span ≡ y.span = cc in
      let tree : f x.pat ≡ bare_at ns y.pat.0 = cc in
      let rest : trees (map (param_tree f) xs) ≡ trees (map (param_tree (λ (p : PatId). bare_at ns p.0)) ys) = cc in (
        at ∙ h.0 ∙ sym (same_place (tree_at ns y.pat.0)) ∙ ap (λ t. span_of t) (sym tree),
        placed_by f ns xs ys rest h.1,
      )

  pub placed-moved : (ns : Nodes F C K fg cg kg) (last : BytePos) (answer : Result (Vec (Param PatId) Global) Error)
      (r : Result (Vec (Param (PatOf F C K)) Global) Error) → MatchResult answer
      (λ x. MatchResult r
      (λ v. params_tree (pat_tree F C K fg.place cg.place kg.place) v ≡ params_tree (λ (p : PatId). bare_at ns p.0) x)
      (λ e. e ≡ no_memory last))
      (λ e. r ≡ Err e) → IfOk answer (λ x. placed ns x.items)
      → IfOk r (λ v. each_placed (pat_tree F C K fg.place cg.place kg.place) v.items)
  placed-moved ns last (Ok x) (Ok v) e h =
      placed_by (pat_tree F C K fg.place cg.place kg.place) ns v.items x.items (ap (λ t. items_of t) e) h
  placed-moved ns last (Err e) (Ok v) m h = absurd cc
  placed-moved ns last answer (Err e) m h = tt

  each_at : (ns : Nodes F C K fg cg kg) (xs : List (Param PatId)) → placed ns xs → each_placed (λ p. pat_at ns p) xs
  each_at ns [] h = tt
  each_at ns (x ∷ xs) h = (h.0, each_at ns xs h.1)

  pub placed-kept : (ms ns : Nodes F C K fg cg kg) (last : BytePos) (k : ℕ)
      (answer r : Result (Vec (Param PatId) Global) Error)
      → Kept last answer r → MatchResult r (λ x. ns ≡ ms) (λ e. CutTo k ms ns)
      → IfOk answer (λ x. placed ms x.items) → IfOk r (λ v. each_placed (λ p. pat_at ns p) v.items)
  placed-kept ms ns last k (Ok x) (Ok y) same e h =
      let moved : placed ns y.items = subst (λ m. placed m y.items) (sym e) (subst (λ v. placed ms v.items) (sym same) h) in
      each_at ns y.items moved
  placed-kept ms ns last k answer (Err e) same cut h = tt
  placed-kept ms ns last k (Err x) (Ok y) same e h = absurd cc

  pub params-placed : (ns : Nodes F C K fg cg kg) (k : ℕ) (answer : Result (Vec (Param PatId) Global) Error)
      → IfOk answer (λ x. params_of k ns x) → IfOk answer (λ x. placed ns x.items)
  params-placed ns k (Ok x) h = h.1
  params-placed ns k (Err e) h = tt

  pub params-apart : (ns : Nodes F C K fg cg kg) (k : ℕ) (answer : Result (Vec (Param PatId) Global) Error)
      → IfOk answer (λ x. params_of k ns x) → IfOk answer (λ x. Apart k ns (flat param_parts x.items))
  params-apart ns k (Ok x) h = h.0
  params-apart ns k (Err e) h = tt

module _ {S H T F C K : Type 0} {fg : Ghosts F} {cg : Ghosts C} {kg : Ghosts K} {model : Model S} {sure : Bool}
    {hook : Hook F C K}
    {answer : ParamsAnswer T F C K fg cg kg} where
  pub params-again : {p : Parser S H F C K fg cg kg} {e : Error}
      → (has_failed p ≡ true) × (e ≡ parser_failed (previous (buffer_of p)))
      → answer.leaves (nodes_of p) (Err e) (nodes_of p) → PromisedParams model sure hook answer p (Err e) p
  params-again h same = record {
    again = λ failed. (refl, ap (λ x. Err x) h.1);
    acts = λ runs. absurd (not_both h.0 runs);
    sound = λ runs. absurd (not_both h.0 runs);
    complete = λ runs. absurd (not_both h.0 runs);
    one_tree = λ runs. absurd (not_both h.0 runs);
    grouped = λ runs. absurd (not_both h.0 runs);
    valid = λ runs. absurd (not_both h.0 runs);
    privates = λ runs. absurd (not_both h.0 runs);
    binds = λ runs. absurd (not_both h.0 runs);
    spans = tt;
    commas = λ n. refl;
    nodes = same;
    fails = λ runs. absurd (not_both h.0 runs);
    bound = refl;
    shallow = λ runs. absurd (not_both h.0 runs);
  }

  -- the buffer, the nodes and the commas before the parser remembers that it is out of memory
  pub promised-params : {p q : Parser S H F C K fg cg kg} {f : Bool × ℕ} (b : Buffer S) (ns : Nodes F C K fg cg kg)
      (cs : TrailingCommas)
      (a r : Result T Error) → has_failed p ≡ false → f ≡ standing p →
      r ≡ a → buffer_of q ≡ b → nodes_of q ≡ ns → commas_of q ≡ cs → Ends f a q
      → MeetsParams model sure hook (answer.derives hook Params) answer.strip (answer.pats ns) (buffer_of p) a b
      (commas_of p) cs
      → answer.leaves (nodes_of p) a ns → IfOk a (λ v. answer.placed ns v)
      → PromisedParams model sure hook answer p r q
  promised-params {p} {q} b ns cs a r runs same e buffer nodes commas fails done kept spans =
      let meets : MeetsParams model sure hook (answer.derives hook Params) answer.strip (answer.pats (nodes_of q))
      (buffer_of p) r (buffer_of q)
      (commas_of p) (commas_of q) = rw (e, buffer, nodes, commas) done in
      record {
        again = λ failed. absurd (not_both failed runs);
        acts = λ w. meets.acts;
        sound = λ w. meets.sound;
        complete = λ w. meets.complete;
        one_tree = λ w. meets.one_tree;
        grouped = λ w. meets.grouped;
        valid = λ w. meets.valid;
        privates = λ w. meets.privates;
        binds = λ w. meets.binds;
        spans = rw (e, nodes) spans;
        commas = meets.commas;
        nodes = rw (e, nodes) kept;
        fails = λ w. failing a r runs same e fails;
        bound = bounded a same fails;
        shallow = λ w. shallow a r e fails;
      }
