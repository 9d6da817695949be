-- From what is read of the parameters of an arrow function to what is promised of them.
use Rattle.std.proofs.Common.{◌≡◌, ◌≢◌, ℕ, Bool, true, List, [], Some, Result, Ok, Err, OnOk, MatchResult, refl, sym, ap, ◌∙◌}
use Rattle.std.specs.{declared.alloc.Global.Global, declared.vec.Vec.Vec}
use Rattle.swc_context.specs.{declared.error.Error.Error, declared.error.SyntaxError.TheVariants.OutOfMemory, declared.span.Span.Span}
use Rattle.swc_input.specs.{declared.buffer.Buffer.Buffer, declared.token.TokenAndSpan.TokenAndSpan, Buffer.last_position, Recording.no_memory, Source.Model}
use Rattle.swc_ast.specs.Tree.{Tree, node, args, no_span}
use Rattle.swc_ast.specs.{Trees.items_of, Trees.unmarked, TreeOf.pat_tree, declared.pat.Pat.Pat as PatOf, declared.spanned.Spanned.Ghosts}
use Rattle.swc_bodies.specs.Readings.{Hook, LawfulHook}
use Rattle.swc_grammar.specs.{Clean.sym as at, Clean.run, Patterns.any, Patterns.all_bind_names, Scope.Scope, Symbols.ArrowParams, Words.◌>>=◌}
use Rattle.swc_grammar.proofs.Cut.{cut-append}
use Rattle.swc_nodes.specs.GrowingNodes.{tree_at, bare_at, CutTo}
use Rattle.swc_nodes.specs.{Commas.part_commas, Commas.Recalls, Lists.pats_parts, declared.commas.TrailingCommas.TrailingCommas, declared.node.PatId.PatId, declared.nodes.Nodes.Nodes}
use Rattle.swc_steps.specs.Parsing.{scope, Parses}
use Rattle.swc_steps.proofs.Steps.{Reader}
use Rattle.swc_ecma_parser.proofs.{Left.pats-left, Placed.params-kept-placed, Placed.params-placed, Refined.pats-bare}
use Rattle.swc_ecma_parser.specs.Promise.{BoundItems, EndsAt, Finished, RemembersAll, ReadsAs, Sound, covers_done, keep_items, only_items}
use Rattle.swc_ecma_parser.specs.{Calls.pats_tree, Calls.Kept, Finishing.parts_done, Finishing.ChecksAnswer, ArrowParams.arrow_params_at, ArrowParams.params_items}
use Rattle.swc_ecma_parser.proofs.ArrowParams.{items-bare, items-bind, items-bind-marked, pats-commas}
use Rattle.swc_ecma_parser.proofs.Finished.{checked, finished-complete, finished-derives, finished-parses, finished-sound, finished-well, meets-checked, parts-told, parts-told-bare}
use Rattle.swc_ecma_parser.proofs.Moving.{kept-moved, kept-parses, moved-parses, recalled-by}
use Rattle.swc_ecma_parser.proofs.Top.{IsSound, IsComplete, Leaves, Meets, bare, is_sound_as, items_grouped, items_valid, leaves-items, meets, stripped_from, well_as}
use Rattle.swc_grammar.proofs.Complete as clean_all
use Rattle.swc_grammar.proofs.Sound as clean

module _ {F C K : Type 0} {fun_at : F → Span} {class_at : C → Span} {block_at : K → Span} (hook : Hook F C K)
    (laws : LawfulHook fun_at class_at block_at hook) where
  params_sound : IsSound (ReadsAs only_items hook ArrowParams) (bare (params_items hook))
  params_sound = record {
    sound = λ c ts ys t h.
        let (k, e, same) = stripped_from unmarked (params_items hook c ts) t ys h in
        let (m, d, kept) = stripped_from keep_items (run hook (at ArrowParams) c ts) k ys e in
        record {
          marked = m;
          read = clean.sound hook laws ArrowParams c ts (m, ys) d;
          same = sym (items-bare m) ∙ ap unmarked kept ∙ same;
        };
    cut = λ c own ys t d. record { marked = d.marked; read = cut-append own ys d.read; same = d.same };
  }

  pub params_marked : IsSound (ReadsAs keep_items hook ArrowParams) (params_items hook)
  params_marked = is_sound_as hook laws keep_items ArrowParams

module _ {F C K : Type 0} (hook : Hook F C K) where
  params_complete : IsComplete (ReadsAs only_items hook ArrowParams) (EndsAt ArrowParams) (bare (params_items hook))
  params_complete = record {
    complete = λ c ts ys t d e.
        ap (λ o. (o >>= (λ p. Some (keep_items p.0, p.1))) >>= (λ p. Some (unmarked p.0, p.1)))
        (clean_all.complete hook d.read tt)
        ∙ ap (λ v. Some (v, ys)) (items-bare d.marked ∙ d.same);
  }

  items_bound : (c : Scope) (xs ys : List TokenAndSpan) (t : Tree F C K) → ReadsAs only_items hook ArrowParams c xs ys t
      → all_bind_names any (items_of t) ≡ true
  items_bound c xs ys t d = ap (λ v. all_bind_names any (items_of v)) (sym d.same) ∙ items-bind hook d.read

module _ {S F C K T : Type 0} (model : Model S) (hook : Hook F C K) (view : T → Tree F C K) where
  -- what is derived binds names alone
  pub bound-params : (b : Buffer S) (r : Result T Error) (c : Buffer S)
      → Sound model (Finished covers_done (ReadsAs only_items hook ArrowParams)) view b r c
      → BoundItems model view b r c
  bound-params b (Ok x) c h = λ l same. let d = h l same in
      items_bound hook (scope model b) d.consumed [] (view x) d.whole.read
  bound-params b (Err e) c h = λ l. tt

module _ {S F C K : Type 0} {fg : Ghosts F} {cg : Ghosts C} {kg : Ghosts K} (model : Model S) (sure : Bool)
    (hook : Hook F C K)
    (laws : LawfulHook fg.place cg.place kg.place hook) (ns : Nodes F C K fg cg kg) where
  abbrev boxed : Vec (PatOf F C K) Global → Tree F C K
  boxed = pats_tree (pat_tree F C K fg.place cg.place kg.place)

  -- what the numbers stand for, without the marks of commas
  abbrev bare_params : Vec PatId Global → Tree F C K
  bare_params = pats_tree (λ (p : PatId). bare_at ns p.0)

  bare_items : (x : Vec PatId Global) → unmarked (arrow_params_at ns x) ≡ bare_params x
  bare_items x = ap (node args no_span) (sym (pats-bare (tree_at ns) x.items))

  module _ (b c : Buffer S) (answer : Result (Vec PatId Global) Error) (r : Result (Vec (PatOf F C K) Global) Error)
      (reads : Parses model sure (arrow_params_at ns) (checked unmarked (params_items hook)) b answer c)
      (moved : MatchResult answer
      (λ x. MatchResult r (λ v. boxed v ≡ bare_params x) (λ e. e ≡ no_memory (last_position c))) (λ e. r ≡ Err e)) where
    pub meets-arrow-params : Meets model sure (Finished covers_done (ReadsAs only_items hook ArrowParams)) boxed
        ArrowParams b r c
    meets-arrow-params =
        meets-checked model sure hook laws boxed unmarked ArrowParams (ReadsAs only_items hook ArrowParams)
        (params_items hook)
        (params_sound hook laws) (params_complete hook)
        (well_as hook leaves-items ArrowParams (params-placed hook)) b r c
        (moved-parses model sure (checked unmarked (params_items hook)) ns arrow_params_at bare_params boxed b c answer
        r reads
        bare_items moved)

    -- the commas of the literals in them
    pub params-recalled : (old new : TrailingCommas)
        → MatchResult answer (λ x. OnOk r (Recalls (part_commas (tree_at ns) (pats_parts x)) old new)) (λ e. new ≡ old)
        → MatchResult r (λ v. RemembersAll model (ReadsAs keep_items hook ArrowParams) unmarked (boxed v) b c old new)
        (λ e. e.kind ≢ OutOfMemory → new ≡ old)
    params-recalled old new commas =
        recalled-by model sure (ReadsAs keep_items hook ArrowParams) (checked unmarked (params_items hook))
        (finished-derives (λ k t. covers_done k (unmarked t)) (params_marked hook laws)) unmarked ns
        (arrow_params_at ns) bare_params boxed pats_parts b c answer r old new reads bare_items
        (λ x. pats-commas (tree_at ns) x.items) moved commas

-- ---- by number

module _ {F C K : Type 0} where
  leaves-kept : Leaves {F = F} {C = C} {K = K} keep_items
  leaves-kept = record { grouped = λ t h. items_grouped t h; valid = λ t h. items_valid t h }

module _ {F C K : Type 0} (hook : Hook F C K) where
  marked_complete : IsComplete (ReadsAs keep_items hook ArrowParams) (EndsAt ArrowParams) (params_items hook)
  marked_complete = record {
    complete = λ c ts ys t d e.
        ap (λ o. o >>= (λ p. Some (keep_items p.0, p.1))) (clean_all.complete hook d.read tt)
        ∙ ap (λ v. Some (v, ys)) d.same;
  }

  kept_bound : (c : Scope) (xs ys : List TokenAndSpan) (t : Tree F C K) → ReadsAs keep_items hook ArrowParams c xs ys t
      → all_bind_names any (items_of t) ≡ true
  kept_bound c xs ys t d = ap (λ v. all_bind_names any (items_of v)) (sym d.same) ∙ items-bind-marked hook d.read

module _ {S F C K T : Type 0} (model : Model S) (hook : Hook F C K) (view : T → Tree F C K) where
  pub bound-kept : (b : Buffer S) (r : Result T Error) (c : Buffer S)
      → Sound model (Finished covers_done (ReadsAs keep_items hook ArrowParams)) view b r c
      → BoundItems model view b r c
  bound-kept b (Ok x) c h = λ l same. let d = h l same in
      kept_bound hook (scope model b) d.consumed [] (view x) d.whole.read
  bound-kept b (Err e) c h = λ l. tt

module _ {S F C K : Type 0} {fg : Ghosts F} {cg : Ghosts C} {kg : Ghosts K} (model : Model S) (sure : Bool)
    (hook : Hook F C K)
    (laws : LawfulHook fg.place cg.place kg.place hook) (ms ns : Nodes F C K fg cg kg) (k : ℕ) (b c : Buffer S)
    (answer r : Result (Vec PatId Global) Error) (reads : Parses model sure (arrow_params_at ms)
    (checked (λ t. t) (params_items hook)) b answer c)
    (same : Kept (last_position c) answer r) (nodes : MatchResult r (λ x. ns ≡ ms) (λ e. CutTo k ms ns)) where
  pub meets-kept : Meets model sure (Finished covers_done (ReadsAs keep_items hook ArrowParams))
      (arrow_params_at ns) ArrowParams b r c
  meets-kept =
      meets model sure hook laws (arrow_params_at ns) ArrowParams
      (Finished covers_done (ReadsAs keep_items hook ArrowParams))
      (checked (λ t. t) (params_items hook)) (finished-sound covers_done (params_marked hook laws))
      (finished-complete covers_done (marked_complete hook))
      (finished-well covers_done (well_as hook leaves-kept ArrowParams (params-kept-placed hook))) b r c
      (kept-parses model sure (checked (λ t. t) (params_items hook)) arrow_params_at ms ns k b c answer r reads
      same nodes)

  pub kept-recalled : (old new : TrailingCommas)
      → MatchResult answer (λ x. OnOk r (Recalls (part_commas (tree_at ms) (pats_parts x)) old new)) (λ e. new ≡ old)
      → MatchResult r (λ v. RemembersAll model (ReadsAs keep_items hook ArrowParams) (λ t. t)
      (arrow_params_at ns v) b c old new)
      (λ e. e.kind ≢ OutOfMemory → new ≡ old)
  kept-recalled old new commas =
      recalled-by model sure (ReadsAs keep_items hook ArrowParams) (checked (λ t. t) (params_items hook))
      (finished-derives covers_done (params_marked hook laws)) (λ t. t) ms
      (arrow_params_at ms) (arrow_params_at ms) (arrow_params_at ns) pats_parts b c answer r old new reads (λ x. refl)
      (λ x. pats-commas (tree_at ms) x.items)
      (kept-moved arrow_params_at ms ns (last_position c) k answer r same nodes) commas

-- ---- the look through them

module _ {S F C K : Type 0} {fg : Ghosts F} {cg : Ghosts C} {kg : Ghosts K} (model : Model S) (sure : Bool)
    (f : Reader (Tree F C K))
    (ns : Nodes F C K fg cg kg) (b c d : Buffer S) (answer r : Result (Vec PatId Global) Error)
    (reads : Parses model sure (arrow_params_at ns) f b answer c)
    (checks : ChecksAnswer model (λ ps. parts_done (scope model c) (tree_at ns) (pats_parts ps)) c answer r d) where
  pub params-boxes-checked : Parses model sure (arrow_params_at ns) (checked unmarked f) b r d
  params-boxes-checked =
      finished-parses model sure (λ k t. covers_done k (unmarked t)) f
      (arrow_params_at ns) _ b c d answer r reads checks
      (λ ps. parts-told-bare (scope model c) (tree_at ns) (pats_parts ps) (arrow_params_at ns ps)
      (pats-left (tree_at ns) ps.items))

  pub arrow-params-checked : Parses model sure (arrow_params_at ns) (checked (λ t. t) f) b r d
  arrow-params-checked =
      finished-parses model sure covers_done f (arrow_params_at ns) _ b c d answer r reads checks
      (λ ps. parts-told (scope model c) (tree_at ns) (pats_parts ps) (arrow_params_at ns ps)
      (pats-left (tree_at ns) ps.items))
