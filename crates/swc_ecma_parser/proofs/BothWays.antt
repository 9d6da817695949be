-- From what the two calls promise to the law of the cover grammar and its converse.
use Rattle.std.proofs.Common.{◌≡◌, ℕ, Bool, true, false, not, ◌||◌, List, [], ◌∷◌, ◌++◌, Some, None, Result, Ok, Err, MatchResult, refl, sym, ap, subst, ◌∙◌}
use Rattle.std.specs.{declared.alloc.Global.Global, declared.vec.Vec.Vec}
use Rattle.swc_context.specs.{Contexts.view, declared.context.Context.Context, declared.context.EsVersion.EsVersion, declared.context.Syntax.Syntax, declared.error.Error.Error, declared.error.SyntaxError.TheVariants.OutOfMemory}
use Rattle.swc_input.specs.Buffer as buffer
use Rattle.swc_input.specs.Buffer.{Known, held, last_position, source}
use Rattle.swc_input.specs.Listed.{listed_model, listed_laws, listed_state, new_state}
use Rattle.swc_input.specs.{Kinds.at_token, Laws.Known-after, Laws.Known-Future, Source.Model, declared.buffer.Buffer.Buffer, declared.listed.TokensInput.TokensInput, declared.token.TokenAndSpan.TokenAndSpan}
use Rattle.swc_ast.specs.Tree.{Tree, node, Trees, nil, cons, erase, erase_all, no_span}
use Rattle.swc_ast.specs.Trees.{items_of, listed, unmarked, unmarked_kind, all_unmarked}
use Rattle.swc_ast.specs.{Pedantic.none_left, declared.function.Param.Param, declared.pat.Pat.Pat, declared.spanned.Spanned.Ghosts}
use Rattle.swc_bodies.specs.Readings.{Hook}
use Rattle.swc_grammar.specs.{Clean.first, Patterns.all_bind_names, Reads.Reads, Reads.ReadsUnmarked, Scope.Scope, Symbols.ArrowParams, Symbols.Params, Tokens.is_lparen, Words.rest}
use Rattle.swc_grammar.proofs.MarkedBinds.{all-same-binds}
use Rattle.swc_laws.specs.Bound.{is_free_name, is_kept_name}
use Rattle.swc_laws.proofs.{ConverseLaw.converse-params, CoverLaw.params-cover, PedanticTrees.all-covers-erased}
use Rattle.swc_steps.specs.Parsing.{scope, scope_of}
use Rattle.swc_ecma_parser.specs.BothWays.{ConverseLaw, CoverLaw, Fresh, Left, Same, StandsBefore, faults, patterns, param_patterns}
use Rattle.swc_ecma_parser.specs.Calls.{buffer_of, has_failed, with_bound}
use Rattle.swc_ecma_parser.specs.Promise.{Finished, Promised, PromisedParams, ReadsAs, ClosedBy, covers_done, arrow_params_in_boxes, items_done, only_items, params_in_boxes}
use Rattle.swc_ecma_parser.specs.{WholeList.plain_list, WholeList.IsHeeded, declared.parser.Parser.Parser}
use Rattle.swc_ecma_parser.proofs.WholeList.{fresh-known, fresh-loud}

-- ---- trees without places, and without marks

module _ {F C K : Type 0} where
  mutual
    bare-erased : (t : Tree F C K) → erase (unmarked t) ≡ unmarked (erase t)
    bare-erased (node k s ts) = ap (λ v. node (unmarked_kind k) no_span v) (all-bare-erased ts)

    all-bare-erased : (ts : Trees F C K) → erase_all (all_unmarked ts) ≡ all_unmarked (erase_all ts)
    all-bare-erased nil = refl
    all-bare-erased (cons t ts) = rw (bare-erased t, all-bare-erased ts) refl

  -- what is the same with marks is the same without
  bare-same : (ts us : Trees F C K) → erase_all ts ≡ erase_all us
      → erase_all (all_unmarked ts) ≡ erase_all (all_unmarked us)
  bare-same ts us h = all-bare-erased ts ∙ ap all_unmarked h ∙ sym (all-bare-erased us)

  bare-items : (t : Tree F C K) → items_of (unmarked t) ≡ all_unmarked (items_of t)
  bare-items (node k s ts) = refl

  kept-items : (t : Tree F C K) → items_of (only_items t) ≡ all_unmarked (items_of t)
  kept-items (node k s ts) = refl

  -- in trees that are the same but for places, the same is left
  same-done : (ts us : Trees F C K) → erase_all ts ≡ erase_all us → none_left ts ≡ none_left us
  same-done ts us h = sym (all-covers-erased ts) ∙ ap none_left h ∙ all-covers-erased us

-- the tokens that are known to come are these alone
known-once : {S : Type 0} (model : Model S) (b : Buffer S) (xs ys : List TokenAndSpan) → Known model b xs
    → Known model b ys → xs ≡ ys
known-once model b xs ys k l = let e : Some k.more ≡ Some l.more = sym k.known ∙ l.known in
    let same : k.more ≡ l.more = cc in
    k.begins ∙ ap (λ v. held b ++ v) same ∙ sym l.begins

first-is : (ts : List TokenAndSpan) → at_token is_lparen (first ts) ≡ true
    → (a : TokenAndSpan) × (ms : List TokenAndSpan) × (ts ≡ a ∷ ms) × (is_lparen a.token ≡ true)
first-is [] h = absurd cc
first-is (a ∷ ms) h = (a, ms, refl, h)

module _ {H F C K : Type 0} {fg : Ghosts F} {cg : Ghosts C} {kg : Ghosts K} where
  -- what formal parameters are derived from, as they come to be answered
  formal-answered : (q : Parser TokensInput H F C K fg cg kg) (s : Result (Vec (Param (Pat F C K)) Global) Error)
      (v : Vec (Pat F C K) Global) (b : Parser TokensInput H F C K fg cg kg)
      (t : Tree F C K) (ys : List TokenAndSpan) → faults b ≡ []
      → erase_all (patterns fg cg kg v) ≡ erase_all (items_of t)
      → MatchResult s (λ w. ClosedBy listed_model (param_patterns fg cg kg w) t
      (buffer_of q) ys × (faults q ≡ faults b))
      (λ e. e.kind ≡ OutOfMemory)
      → MatchResult s (λ w. Same fg cg kg v w × StandsBefore q ys × (faults q ≡ [])) (λ e. e.kind ≡ OutOfMemory)
  formal-answered q (Ok w) v b t ys clean same (closed, quiet) = (
    same ∙ ap (λ u. erase_all (items_of u)) closed.list,
    record { close = closed.close; is = closed.is; left = closed.known },
    quiet ∙ clean,
  )
  formal-answered q (Err e) v b t ys clean same h = h

  -- and so of an arrow's parameters
  arrow-answered : (p : Parser TokensInput H F C K fg cg kg) (r : Result (Vec (Pat F C K) Global) Error)
      (w : Vec (Param (Pat F C K)) Global) (b : Parser TokensInput H F C K fg cg kg)
      (hs : Tree F C K) (ys : List TokenAndSpan) → faults b ≡ []
      → erase_all (all_unmarked (items_of hs)) ≡ erase_all (param_patterns fg cg kg w)
      → MatchResult r (λ v. (arrow_params_in_boxes.tree p.productions.nodes v ≡ only_items hs) × Left p ys
      × (faults p ≡ faults b))
      (λ e. e.kind ≡ OutOfMemory)
      → MatchResult r (λ v. Same fg cg kg v w × Left p ys × (faults p ≡ [])) (λ e. e.kind ≡ OutOfMemory)
  arrow-answered p (Ok v) w b hs ys clean same (e, left, quiet) =
      (ap (λ t. erase_all (items_of t)) e ∙ ap erase_all (kept-items hs) ∙ same, left, quiet ∙ clean)
  arrow-answered p (Err e) w b hs ys clean same h = h

module _ {H F C K : Type 0} {fg : Ghosts F} {cg : Ghosts C} {kg : Ghosts K} (sure : Bool) (hook : Hook F C K)
    (c : Context)
    (x : Syntax) (ts : List TokenAndSpan) where
  abbrev Heading : Result (Vec (Pat F C K) Global) Error → Parser TokensInput H F C K fg cg kg
      → Parser TokensInput H F C K fg cg kg → Type 0
  Heading r a b = Promised listed_model sure hook arrow_params_in_boxes ArrowParams a r b

  abbrev Forming : Result (Vec (Param (Pat F C K)) Global) Error → Parser TokensInput H F C K fg cg kg
      → Parser TokensInput H F C K fg cg kg → Type 0
  Forming r a b = PromisedParams listed_model sure hook params_in_boxes a r b

  -- ---- what was read as an arrow's parameters

  arrow-params-read : {p : Parser TokensInput H F C K fg cg kg} (v : Vec (Pat F C K) Global)
      → Fresh (Heading (Ok v)) c x ts p → IsHeeded c x → faults p ≡ [] → (ys : List TokenAndSpan) → Left p ys
      → Finished covers_done (ReadsAs only_items hook ArrowParams) (scope_of (view c) x) ts ys
      (arrow_params_in_boxes.tree p.productions.nodes v)
  arrow-params-read {p} v f heeded none ys left =
      let d = f.call.sound f.runs (f.loud heeded) (none ∙ sym f.clean) in
      let k = Known-after listed_laws (buffer_of f.start) (buffer_of p) d.consumed ts d.read.took f.left in
      let same : k.0 ≡ ys = known-once listed_model (buffer_of p) k.0 ys k.1 left in
      let whole : ts ≡ d.consumed ++ ys = k.2 ∙ ap (λ l. d.consumed ++ l) same in
      let got = d.front ys (Known-Future listed_laws (buffer_of p) ys left) in
      let D : Scope → List TokenAndSpan → Type 0 =
      λ s l. Finished covers_done (ReadsAs only_items hook ArrowParams) s l ys
      (arrow_params_in_boxes.tree p.productions.nodes v) in
      subst (λ s. D s ts) f.stands (subst (λ l. D (scope listed_model (buffer_of f.start)) l) (sym whole) got)

  pub cover-law : {p q : Parser TokensInput H F C K fg cg kg} (r : Result (Vec (Pat F C K) Global) Error)
      (s : Result (Vec (Param (Pat F C K)) Global) Error)
      → Fresh (Heading r) c x ts p → Fresh (Forming s) c x (rest ts) q → CoverLaw sure c x ts r p s q
  cover-law (Err e) s f g = λ heeded y strict sp. tt
  cover-law {p} {q} (Ok v) s f g = λ heeded y strict sp. λ none kept ys left.
      let d = arrow-params-read v f heeded none ys left in
      let read = d.read in
      let items : all_unmarked (items_of read.marked) ≡ patterns fg cg kg v =
      sym (kept-items read.marked) ∙ ap items_of read.same in
      let names = is_kept_name c in
      let free : all_bind_names names (items_of read.marked) ≡ true =
      sym (all-same-binds names (items_of read.marked)) ∙ ap (all_bind_names names) items ∙ kept in
      let (a, ms, at, h, k) = params-cover hook (scope_of (view c) x) strict ts ys sp read.marked read.read free in
      let bare : ReadsUnmarked hook Params (scope listed_model (buffer_of g.start)) ms ys (unmarked k.tree) = record {
        marked = k.tree;
        read = subst (λ z. Reads hook Params z ms ys k.tree) (sym g.stands) k.read;
        same = refl;
      } in
      let same : erase_all (patterns fg cg kg v) ≡ erase_all (items_of (unmarked k.tree)) =
      ap erase_all (sym items) ∙ bare-same (items_of read.marked) (items_of k.tree) k.same ∙ ap erase_all
      (sym (bare-items k.tree)) in
      let whole : Finished items_done (ReadsUnmarked hook Params) (scope listed_model (buffer_of g.start)) ms ys
      (unmarked k.tree) =
      record {
        read = bare;
        covers = subst (λ z. items_done z (unmarked k.tree) ≡ true) (sym g.stands)
            (ap (λ b. not x.pedantic || b) (same-done (items_of (unmarked k.tree)) (patterns fg cg kg v) (sym same))
            ∙ d.covers);
      } in
      formal-answered q s v g.start (unmarked k.tree) ys g.clean same
      (g.call.complete g.runs y (g.loud heeded) ms ys (unmarked k.tree)
      (subst (λ l. Left g.start l) (ap rest at) g.left) whole)

  -- ---- and the other way

  -- what was read as formal parameters, up to a `)`
  params-read : {q : Parser TokensInput H F C K fg cg kg} (w : Vec (Param (Pat F C K)) Global)
      → Fresh (Forming (Ok w)) c x (rest ts) q → IsHeeded c x → faults q ≡ []
      → (ys : List TokenAndSpan) (before : StandsBefore q ys)
      → Finished items_done (ReadsUnmarked hook Params) (scope_of (view c) x) (rest ts) ys
      (listed None before.close.span (param_patterns fg cg kg w))
  params-read {q} w g heeded none ys before =
      let d = g.call.sound g.runs (g.loud heeded) (none ∙ sym g.clean) in
      let k = Known-after listed_laws (buffer_of g.start) (buffer_of q) d.consumed (rest ts) d.read.took g.left in
      let same : k.0 ≡ before.close ∷ ys = known-once listed_model (buffer_of q) k.0
      (before.close ∷ ys) k.1 before.left in
      let whole : rest ts ≡ d.consumed ++ before.close ∷ ys = k.2 ∙ ap (λ l. d.consumed ++ l) same in
      let got = d.front before.close ys (Known-Future listed_laws (buffer_of q) (before.close ∷ ys) before.left)
      before.is in
      let D : Scope → List TokenAndSpan → Type 0 =
      λ z l. Finished items_done (ReadsUnmarked hook Params) z l ys
      (listed None before.close.span (param_patterns fg cg kg w)) in
      subst (λ z. D z (rest ts)) g.stands (subst (λ l. D (scope listed_model (buffer_of g.start)) l) (sym whole) got)

  pub converse-law : {p q : Parser TokensInput H F C K fg cg kg} (r : Result (Vec (Pat F C K) Global) Error)
      (s : Result (Vec (Param (Pat F C K)) Global) Error)
      → Fresh (Heading r) c x ts p → Fresh (Forming s) c x (rest ts) q → ConverseLaw sure c x ts r p s q
  converse-law r (Err e) f g = λ heeded y paren. tt
  converse-law {p} {q} r (Ok w) f g = λ heeded y paren. λ none free ys before.
      let (a, ms, at, h) = first-is ts paren in
      let all = params-read w g heeded none ys before in
      let d = all.read in
      let items : all_unmarked (items_of d.marked) ≡ param_patterns fg cg kg w =
      sym (bare-items d.marked) ∙ ap items_of d.same in
      let names : all_bind_names is_free_name (items_of d.marked) ≡ true =
      sym (all-same-binds is_free_name (items_of d.marked)) ∙ ap (all_bind_names is_free_name) items ∙ free in
      let here = subst (λ l. Reads hook Params (scope_of (view c) x) l ys d.marked) (ap rest at) d.read in
      let (hs, read, same) = converse-params hook (scope_of (view c) x) a ms ys d.marked h here names in
      let whole : Reads hook ArrowParams (scope_of (view c) x) ts ys hs =
      subst (λ l. Reads hook ArrowParams (scope_of (view c) x) l ys hs) (sym at) read in
      let alike = bare-same (items_of hs) (items_of d.marked) same ∙ ap erase_all items in
      let kept : Finished covers_done (ReadsAs only_items hook ArrowParams)
      (scope listed_model (buffer_of f.start)) ts ys
      (only_items hs) =
      record {
        read = record {
          marked = hs;
          read = subst (λ z. Reads hook ArrowParams z ts ys hs) (sym f.stands) whole;
          same = refl;
        };
        covers = subst (λ z. covers_done z (only_items hs) ≡ true) (sym f.stands)
            (ap (λ b. not x.pedantic || b)
            (ap none_left (kept-items hs) ∙ same-done (all_unmarked (items_of hs)) (param_patterns fg cg kg w) alike)
            ∙ all.covers);
      } in
      arrow-answered p r w f.start hs ys f.clean alike
      (f.call.complete f.runs y (f.loud heeded) ts ys (only_items hs) f.left kept tt)

-- ---- new parsers

module _ {H F C K : Type 0} {fg : Ghosts F} {cg : Ghosts C} {kg : Ghosts K} where
  -- with a bound
  pub fresh : {P : Parser TokensInput H F C K fg cg kg → Parser TokensInput H F C K fg cg kg → Type 0}
      {q : Parser TokensInput H F C K fg cg kg}
      {n : ℕ} {p : Parser TokensInput H F C K fg cg kg}
      (input : TokensInput) (ts : List TokenAndSpan) (c : Context) (x : Syntax) (v : EsVersion)
      (o : Parser TokensInput H F C K fg cg kg)
      → listed_state input ≡ new_state ts c x v → buffer_of o ≡ buffer.fresh input (last_position (buffer_of o))
      → has_failed o ≡ false → p ≡ with_bound n o → P p q → Fresh P c x (plain_list ts) q
  fresh {p = p} input ts c x v o is unread ran bounded call =
      let at = last_position (buffer_of o) in
      let new : buffer_of p ≡ buffer.fresh input at = ap (λ r. buffer_of r) bounded ∙ unread in
      record {
        start = p;
        runs = ap (λ r. has_failed r) bounded ∙ ran;
        left = rw (new) (fresh-known input at ts c x v is);
        clean = ap (λ b. (listed_state (source b)).errors) new ∙ ap (λ s. s.errors) is;
        loud = λ heeded. rw (new) (fresh-loud input at ts c x v is heeded);
        stands = ap (λ b. scope listed_model b) new ∙ ap (λ s. scope_of (view s.context) s.syntax) is;
        call = call;
      }

  -- over a list that is the same
  pub along : {P : Parser TokensInput H F C K fg cg kg → Parser TokensInput H F C K fg cg kg → Type 0}
      {q : Parser TokensInput H F C K fg cg kg} {c : Context} {x : Syntax} (ls ms : List TokenAndSpan) → ls ≡ ms
      → Fresh P c x ls q → Fresh P c x ms q
  along {P} {q} {c} {x} ls ms e f = subst (λ l. Fresh P c x l q) e f
