-- The tree of an answer is moved out of the nodes, and the nodes that were made are cut off.
use Rattle.std.proofs.Common.{◌≡◌, ◌≢◌, ℕ, Bool, List, [], ◌∷◌, Option, None, Result, Ok, Err, Some, IfOk, OnOk, MatchResult, refl, sym, ap, subst, ◌∙◌, arith}
use Rattle.std.specs.{declared.alloc.Global.Global, declared.boxed.Box.Box, declared.vec.Vec.Vec}
use Rattle.swc_context.specs.{declared.error.Error.Error, declared.error.SyntaxError.TheVariants.OutOfMemory, declared.span.BytePos.BytePos, declared.span.Span.Span}
use Rattle.swc_input.specs.{declared.buffer.Buffer.Buffer, Source.Model, Buffer.last_position, Recording.no_memory}
use Rattle.swc_ast.specs.Parts.{item_of, item_trees, args_tree, tpl_tree}
use Rattle.swc_ast.specs.Tree.{Tree, node, args, args_with, no_span}
use Rattle.swc_ast.specs.Trees.{unmarked, all_unmarked, items_of}
use Rattle.swc_ast.specs.{declared.expr.Expr.Expr, declared.expr.ExprOrSpread.ExprOrSpread, declared.expr.Tpl.Tpl, declared.spanned.Spanned.Ghosts}
use Rattle.swc_bodies.specs.Readings.{Hook, LawfulHook}
use Rattle.swc_grammar.specs.{Clean.run, Reads.Reads, Symbols.Symbol, Words.◌>>=◌}
use Rattle.swc_grammar.specs.Clean as clean
use Rattle.swc_nodes.specs.Commas.{comma_at, commas_in, part_commas, Recalls}
use Rattle.swc_nodes.specs.GrowingNodes.{count, seat_at, tree_at, bare_at, Apart, From, Grows, CutTo, Left, SameNodes}
use Rattle.swc_nodes.specs.{NumberedTrees.floor, NodeParts.Part, declared.commas.TrailingCommas.TrailingCommas, declared.node.ExprId.ExprId, declared.nodes.Nodes.Nodes}
use Rattle.swc_nodes.specs.Commas as recall
use Rattle.swc_nodes.specs.declared.node.Node.TheVariants as n
use Rattle.swc_nodes.proofs.{Chains.chain-down, Chains.floor-under, Standing.cut_kept, Standing.grows-same, Unmarked.unmarked-tpl}
use Rattle.swc_steps.specs.declared.tokens.Listed.{Listed}
use Rattle.swc_input.specs.Calls.{Loud}
use Rattle.swc_steps.specs.Parsing.{args_at, Heard, Unheard, Parses}
use Rattle.swc_productions.specs.Pieces.{tpl_at}
use Rattle.swc_steps.proofs.Steps.{Reader, spent, heard_call, unheard_call, unheard_memory}
use Rattle.swc_ecma_parser.specs.Calls.{tree_by, Kept}
use Rattle.swc_ecma_parser.specs.Promise.{Derivation, only_items, items_and_comma, list_tree, Unmarred, Derives, RemembersAll}
use Rattle.swc_ecma_parser.proofs.Top.{IsSound, bare, stripped, is_sound, sound}

module _ {F C K : Type 0} {fg : Ghosts F} {cg : Ghosts C} {kg : Ghosts K} where
  -- nodes were appended, and cut off again
  pub cut-back : {ns ms : Nodes F C K fg cg kg} (ls : Nodes F C K fg cg kg) → Grows ns ms → CutTo (count ns) ms ls
      → SameNodes ns ls
  cut-back ls g e = e ∙ cut_kept g

  -- parts that lie apart from some number on
  pub apart-low : {ns : Nodes F C K fg cg kg} {k : ℕ} (ps : List Part) → Apart k ns ps → Apart 0 ns ps
  apart-low {ns} {k} ps a = record { chained = chain-down (seat_at ns) k 0 ps (count ns) (omega arith) a.chained }

  -- those of an answer
  pub apart-taken : {X : Type 0} {ns : Nodes F C K fg cg kg} {x : X} (parts : X → List Part) (k : ℕ)
      (answer : Result X Error) → answer ≡ Ok x → IfOk answer (λ y. Apart k ns (parts y)) → Apart 0 ns (parts x)
  apart-taken {ns = ns} {x = x} parts k answer e h = apart-low (parts x)
      (subst (λ r. IfOk r (λ y. Apart k ns (parts y))) e h)

  -- the number of an answer
  pub apart-kept : {X : Type 0} (parts : X → List Part) (ns : Nodes F C K fg cg kg) (k : ℕ) (answer : Result X Error)
      → IfOk answer (λ id. Apart k ns (parts id)) → IfOk answer (λ id. Apart 0 ns (parts id))
  apart-kept parts ns k (Ok id) a = apart-low (parts id) a
  apart-kept parts ns k (Err e) a = tt

  -- nothing was taken out
  pub left-same : (ns : Nodes F C K fg cg kg) (ps : List Part) → Apart 0 ns ps
      → Left (floor (seat_at ns) (count ns) ps) ns ns
  left-same ns ps a = record { grows = grows-same ns; above = floor-under (seat_at ns) 0 ps (count ns) a.chained }

  -- after a refusal alone
  pub kept-leaves : {X : Type 0} (part : X → Part) {ns ms : Nodes F C K fg cg kg} (ls : Nodes F C K fg cg kg)
      (at : BytePos) (answer r : Result X Error) → Grows ns ms → IfOk answer (λ id. From (count ns) ms (part id)) →
      Kept at answer r → MatchResult r (λ id. ls ≡ ms) (λ e. CutTo (count ns) ms ls)
      → MatchResult r (λ id. Grows ns ls × From (count ns) ls (part id)) (λ e. SameNodes ns ls)
  kept-leaves part {ns} {ms} ls at (Ok id) (Ok j) g f k e =
      subst (λ v. Grows ns v × From (count ns) v (part j)) (sym e)
      (g, subst (λ y. From (count ns) ms (part y)) (sym k) f)
  kept-leaves part ls at (Err x) (Ok j) g f k e = absurd cc
  kept-leaves part ls at (Ok id) (Err x) g f k e = cut-back ls g e
  kept-leaves part ls at (Err y) (Err x) g f k e = cut-back ls g e

  -- the same of an answer with any parts
  pub kept-parts : {X : Type 0} (parts : X → List Part) {ns ms : Nodes F C K fg cg kg} (ls : Nodes F C K fg cg kg)
      (at : BytePos) (answer r : Result X Error) → Grows ns ms → IfOk answer (λ x. Apart (count ns) ms (parts x)) →
      Kept at answer r → MatchResult r (λ x. ls ≡ ms) (λ e. CutTo (count ns) ms ls)
      → MatchResult r (λ x. Grows ns ls × Apart (count ns) ls (parts x)) (λ e. SameNodes ns ls)
  kept-parts parts {ns} {ms} ls at (Ok id) (Ok j) g f k e =
      subst (λ v. Grows ns v × Apart (count ns) v (parts j)) (sym e)
      (g, subst (λ y. Apart (count ns) ms (parts y)) (sym k) f)
  kept-parts parts ls at (Err x) (Ok j) g f k e = absurd cc
  kept-parts parts ls at (Ok id) (Err x) g f k e = cut-back ls g e
  kept-parts parts ls at (Err y) (Err x) g f k e = cut-back ls g e

  -- the answer stands for what the number stood for
  pub kept-moved : {X : Type 0} (by : Nodes F C K fg cg kg → X → Tree F C K) (ms ns : Nodes F C K fg cg kg)
      (at : BytePos) (k : ℕ) (answer r : Result X Error) → Kept at answer r
      → MatchResult r (λ id. ns ≡ ms) (λ e. CutTo k ms ns) →
      MatchResult answer (λ x. MatchResult r (λ y. by ns y ≡ by ms x) (λ e. e ≡ no_memory at)) (λ e. r ≡ Err e)
  kept-moved by ms ns at k (Ok x) (Ok y) same e = ap (λ v. by v y) e ∙ ap (λ v. by ms v) same
  kept-moved by ms ns at k (Ok x) (Err e) same cut = same
  kept-moved by ms ns at k (Err x) r same e = same

module _ {S F C K X : Type 0} {fg : Ghosts F} {cg : Ghosts C} {kg : Ghosts K} (model : Model S) (sure : Bool)
    (f : Reader (Tree F C K)) (by : Nodes F C K fg cg kg → X → Tree F C K) where
  -- what is answered by number, or memory ran out
  pub kept-parses : (ms ns : Nodes F C K fg cg kg) (k : ℕ) (b c : Buffer S) (answer r : Result X Error)
      → Parses model sure (by ms) f b answer c → Kept (last_position c) answer r →
      MatchResult r (λ id. ns ≡ ms) (λ e. CutTo k ms ns) → Parses model sure (by ns) f b r c
  kept-parses ms ns k b c (Ok x) (Ok y) h same e =
      subst (λ v. Heard model sure f v b c) (sym (ap (λ v. by v y) e ∙ ap (λ v. by ms v) same)) h
  kept-parses ms ns k b c (Ok x) (Err e) h same cut =
      subst (λ v. Unheard model sure f b v c) (sym same)
      (unheard_memory (record { spends = spent h.on.leads; kind = refl }))
  kept-parses ms ns k b c (Err x) r h same e = subst (λ v. Parses model sure (by ns) f b v c) (sym same) h

module _ {S A X T : Type 0} (model : Model S) (sure : Bool) (f : Reader A) (by : X → A) (bare_by : X → A)
    (view : T → A) where
  -- what is answered in boxes stands for what the numbers stood for, as `strip` leaves it, or memory ran out
  pub moved-as : (strip : A → A) (b c : Buffer S) (answer : Result X Error) (r : Result T Error)
      → Parses model sure by f b answer c → ((x : X) → strip (by x) ≡ bare_by x) →
      MatchResult answer (λ x. MatchResult r (λ t. view t ≡ bare_by x) (λ e. e ≡ no_memory (last_position c)))
      (λ e. r ≡ Err e) → Parses model sure view (stripped strip f) b r c
  moved-as strip b c (Ok x) (Ok t) h same m =
      subst (λ v. Heard model sure (λ k ts. f k ts >>= (λ p. Some (strip p.0, p.1))) v b c) (same x ∙ sym m)
      (heard_call (λ k p. Some (strip p.0, p.1)) (λ k ts. refl) (λ k ts. refl) h)
  moved-as strip b c (Ok x) (Err e) h same m =
      subst (λ v. Unheard model sure (λ k ts. f k ts >>= (λ p. Some (strip p.0, p.1))) b v c) (sym m)
      (unheard_memory (record { spends = spent h.on.leads; kind = refl }))
  moved-as strip b c (Err e) r h same m =
      subst (λ v. Parses model sure view (λ k ts. f k ts >>= (λ p. Some (strip p.0, p.1))) b v c) (sym m)
      (unheard_call (λ k p. Some (strip p.0, p.1)) (λ k ts. refl) h)

module _ {S F C K X T : Type 0} {fg : Ghosts F} {cg : Ghosts C} {kg : Ghosts K} (model : Model S) (sure : Bool)
    (f : Reader (Tree F C K)) (ns : Nodes F C K fg cg kg) (by : Nodes F C K fg cg kg → X → Tree F C K)
    (bare_by : X → Tree F C K) (view : T → Tree F C K) where
  -- of trees among the nodes
  pub moved-by : (strip : Tree F C K → Tree F C K) (b c : Buffer S) (answer : Result X Error) (r : Result T Error)
      → Parses model sure (by ns) f b answer c → ((x : X) → strip (by ns x) ≡ bare_by x) →
      MatchResult answer (λ x. MatchResult r (λ t. view t ≡ bare_by x) (λ e. e ≡ no_memory (last_position c)))
      (λ e. r ≡ Err e) → Parses model sure view (stripped strip f) b r c
  moved-by = moved-as model sure f (by ns) bare_by view

  -- without the marks of commas
  pub moved-parses : (b c : Buffer S) (answer : Result X Error) (r : Result T Error)
      → Parses model sure (by ns) f b answer c → ((x : X) → unmarked (by ns x) ≡ bare_by x) →
      MatchResult answer (λ x. MatchResult r (λ t. view t ≡ bare_by x) (λ e. e ≡ no_memory (last_position c)))
      (λ e. r ≡ Err e) → Parses model sure view (bare f) b r c
  moved-parses = moved-by unmarked

module _ {F C K : Type 0} where
  item-bare : (o : Option Span) (t : Tree F C K) → unmarked (item_of o t) ≡ item_of o (unmarked t)
  item-bare None t = refl
  item-bare (Some s) t = refl

  items-bare : (at : ℕ → Tree F C K) (xs : List (ExprOrSpread ExprId))
      → all_unmarked (item_trees (λ e. at e.0) xs) ≡ item_trees (λ e. unmarked (at e.0)) xs
  items-bare at [] = refl
  items-bare at (x ∷ xs) = rw (item-bare x.spread (at x.expr.0), items-bare at xs) refl

module _ {F C K : Type 0} {fg : Ghosts F} {cg : Ghosts C} {kg : Ghosts K} (ns : Nodes F C K fg cg kg) where
  -- a list that was read, its items alone and with its comma, and a template, without the marks of commas
  pub args-bare : (l : Listed (ExprOrSpread ExprId)) → only_items (args_at ns l) ≡ args_tree
      (λ e. bare_at ns e.0) l.items
  args-bare l = ap (λ v. node args no_span v) (items-bare (tree_at ns) l.items.items)

  abbrev pub bare_list : Listed (ExprOrSpread ExprId) → Tree F C K
  bare_list l = node (args_with l.trailing_comma) no_span (item_trees (λ e. bare_at ns e.0) l.items.items)

  pub list-bare : (l : Listed (ExprOrSpread ExprId)) → items_and_comma (args_at ns l) ≡ bare_list l
  list-bare l = ap (λ v. node (args_with l.trailing_comma) no_span v) (items-bare (tree_at ns) l.items.items)

  pub tpl-bare : (t : Tpl ExprId) → unmarked (tpl_at ns t) ≡ tpl_tree (λ e. bare_at ns e.0) t
  tpl-bare t = unmarked-tpl (λ e. tree_at ns e.0) (λ e. bare_at ns e.0) (λ e. refl) t

  -- the items in boxes, with the comma put beside them
  pub moved-list : (M : Error → Type 0) (o : Option Span) (answer : Result (Listed (ExprOrSpread ExprId)) Error)
      (a : Result (Vec (ExprOrSpread (Box (Expr F C K) Global)) Global) Error)
      (r : Result (Vec (ExprOrSpread (Box (Expr F C K) Global)) Global × Option Span) Error)
      → IfOk answer (λ l. o ≡ l.trailing_comma)
      → MatchResult answer (λ l. MatchResult a (λ t. args_tree (tree_by fg.place cg.place kg.place) t ≡ args_tree
      (λ e. bare_at ns e.0) l.items) M) (λ e. a ≡ Err e)
      → MatchResult a (λ t. r ≡ Ok (t, o)) (λ e. r ≡ Err e)
      → MatchResult answer (λ l. MatchResult r (λ p. list_tree fg.place cg.place kg.place p ≡ bare_list l) M)
      (λ e. r ≡ Err e)
  moved-list M o (Ok l) (Ok t) r q m w =
      subst (λ v. MatchResult v (λ p. list_tree fg.place cg.place kg.place p ≡ bare_list l) M) (sym w)
      (ap (λ v. node (args_with o) no_span (items_of v)) m ∙ ap
      (λ v. node (args_with v) no_span (item_trees (λ e. bare_at ns e.0) l.items.items)) q)
  moved-list M o (Ok l) (Err e) r q m w =
      subst (λ v. MatchResult v (λ p. list_tree fg.place cg.place kg.place p ≡ bare_list l) M) (sym w) m
  moved-list M o (Err e) (Err x) r q m w = let same : x ≡ e = cc in w ∙ ap (λ v. Err v) same
  moved-list M o (Err e) (Ok t) r q m w = absurd cc

  -- what was remembered, where the comma is put beside the list
  pub recalled-list : (P : Listed (ExprOrSpread ExprId) → Type 0) (Q : Type 0) (o : Option Span)
      (answer : Result (Listed (ExprOrSpread ExprId)) Error)
      (a : Result (Vec (ExprOrSpread (Box (Expr F C K) Global)) Global) Error)
      (r : Result (Vec (ExprOrSpread (Box (Expr F C K) Global)) Global × Option Span) Error)
      → MatchResult answer (λ l. OnOk a (P l)) (λ e. Q) → MatchResult a (λ t. r ≡ Ok (t, o)) (λ e. r ≡ Err e)
      → MatchResult answer (λ l. OnOk r (P l)) (λ e. Q)
  recalled-list P Q o (Ok l) (Ok t) r q w = subst (λ v. OnOk v (P l)) (sym w) q
  recalled-list P Q o (Ok l) (Err e) r q w = subst (λ v. OnOk v (P l)) (sym w) tt
  recalled-list P Q o (Err e) a r q w = q

-- ---- what is remembered of the commas of an answer's literals

module _ {S F C K X T : Type 0} {fg : Ghosts F} {cg : Ghosts C} {kg : Ghosts K} (model : Model S) (sure : Bool)
    (derives : Derivation (Tree F C K)) (f : Reader (Tree F C K)) (is : IsSound derives f)
    (strip : Tree F C K → Tree F C K)
    (ns : Nodes F C K fg cg kg) (by : X → Tree F C K) (bare_by : X → Tree F C K) (view : T → Tree F C K)
    (parts : X → List Part) where
  derived : (x : X) (b c : Buffer S) → Parses model sure by f b (Ok x) c → Loud model b → Unmarred model b c
      → Derives model derives (λ (m : Tree F C K). m) (by x) b c
  derived x b c h loud same =
      let d = sound model sure derives by f is b (Ok x) c h loud same in
      record { consumed = d.consumed; read = d.read; front = d.front; whole = d.whole }

  pub recalled-by : (b c : Buffer S) (answer : Result X Error) (r : Result T Error) (old new : TrailingCommas)
      → Parses model sure by f b answer c
      → ((x : X) → strip (by x) ≡ bare_by x) → ((x : X) → commas_in (by x) ≡ part_commas (tree_at ns) (parts x))
      → MatchResult answer (λ x. MatchResult r (λ t. view t ≡ bare_by x) (λ e. e ≡ no_memory (last_position c)))
      (λ e. r ≡ Err e)
      → MatchResult answer (λ x. OnOk r (Recalls (part_commas (tree_at ns) (parts x)) old new)) (λ e. new ≡ old)
      → MatchResult r (λ t. RemembersAll model derives strip (view t) b c old new)
      (λ e. e.kind ≢ OutOfMemory → new ≡ old)
  recalled-by b c (Ok x) (Ok t) old new h same each m q = record {
    marked = by x;
    same = same x ∙ sym m;
    derived = derived x b c h;
    recalls = λ k. q k ∙ ap (λ ls. recall.recalled ls k (comma_at old k)) (sym (each x));
  }
  recalled-by b c (Ok x) (Err e) old new h same each m q = λ n. absurd (n (ap (λ v. v.kind) m))
  recalled-by b c (Err x) (Ok t) old new h same each m q = absurd cc
  recalled-by b c (Err x) (Err e) old new h same each m q = λ n. q

module _ {S F C K X T : Type 0} {fg : Ghosts F} {cg : Ghosts C} {kg : Ghosts K} (model : Model S) (sure : Bool)
    (hook : Hook F C K)
    (laws : LawfulHook fg.place cg.place kg.place hook) (s : Symbol) where
  -- of a symbol
  pub recalled : (strip : Tree F C K → Tree F C K) (ns : Nodes F C K fg cg kg) (by : X → Tree F C K)
      (bare_by : X → Tree F C K) (view : T → Tree F C K) (parts : X → List Part)
      → (b c : Buffer S) (answer : Result X Error) (r : Result T Error) (old new : TrailingCommas)
      → Parses model sure by (run hook (clean.sym s)) b answer c
      → ((x : X) → strip (by x) ≡ bare_by x) → ((x : X) → commas_in (by x) ≡ part_commas (tree_at ns) (parts x))
      → MatchResult answer (λ x. MatchResult r (λ t. view t ≡ bare_by x) (λ e. e ≡ no_memory (last_position c)))
      (λ e. r ≡ Err e)
      → MatchResult answer (λ x. OnOk r (Recalls (part_commas (tree_at ns) (parts x)) old new)) (λ e. new ≡ old)
      → MatchResult r (λ t. RemembersAll model (Reads hook s) strip (view t) b c old new)
      (λ e. e.kind ≢ OutOfMemory → new ≡ old)
  recalled = recalled-by model sure (Reads hook s) (run hook (clean.sym s)) (is_sound hook laws s)
