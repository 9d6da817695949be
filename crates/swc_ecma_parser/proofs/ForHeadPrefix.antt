-- The expression in the head of a `for` (ECMA-262, 14.7.4 and 14.7.5), by what the context says of `for await`: from
-- what is read to what is promised.
use Rattle.std.proofs.Common.{◌≡◌, Bool, true, false, Some, Result, Err, ap, ◌∙◌}
use Rattle.std.specs.{declared.alloc.Global.Global, declared.boxed.Box.Box}
use Rattle.swc_context.specs.{declared.error.Error.Error, declared.span.Span.Span}
use Rattle.swc_input.specs.{declared.buffer.Buffer.Buffer, Buffer.previous, Source.Model}
use Rattle.swc_ast.specs.{Tree.Tree, Trees.unmarked, declared.expr.Expr.Expr as ExprOf, declared.spanned.Spanned.Ghosts}
use Rattle.swc_bodies.specs.Readings.{Hook, LawfulHook}
use Rattle.swc_grammar.specs.{ForHead.in_own_for, ForHead.HeadStops, Reads.Reads, Reads.ReadsUnmarked, Symbols.Expr, Words.◌>>=◌}
use Rattle.swc_grammar.proofs.Complete as clean_all
use Rattle.swc_grammar.proofs.ForHeads.{head-stops}
use Rattle.swc_nodes.specs.GrowingNodes.{SameNodes}
use Rattle.swc_steps.specs.Parsing.{Parses}
use Rattle.swc_steps.proofs.Steps.{Reader}
use Rattle.swc_ecma_parser.specs.Calls.{buffer_of, nodes_of, has_failed, parser_failed, tree_by}
use Rattle.swc_ecma_parser.specs.ForHeads.{own_head_expr, PromisedPrefix, ReadsPrefix}
use Rattle.swc_ecma_parser.specs.Promise.{Complete, Derivation, EndsAt, covers_done}
use Rattle.swc_ecma_parser.specs.declared.parser.Parser.{Parser}
use Rattle.swc_ecma_parser.proofs.Calling.{not_both, promised-again}
use Rattle.swc_ecma_parser.proofs.Finished.{checked, checked-complete, finished-derives, meets-checked}
use Rattle.swc_ecma_parser.proofs.Top.{IsComplete, IsSound, Meets, Well, bare, complete, expr-stops, is_complete_bare, is_sound, is_sound_bare, well_bare}

module _ {F C K : Type 0} (hook : Hook F C K) where
  -- what is derived in a head
  abbrev Derived : Derivation (Tree F C K)
  Derived c xs ys t = ReadsUnmarked hook Expr (in_own_for c) xs ys t

  completes : IsComplete Derived (EndsAt Expr) (bare (own_head_expr hook))
  completes =
      let all = is_complete_bare hook Expr expr-stops.stop in
      record { complete = λ c ts ys t d e. all.complete (in_own_for c) ts ys t d e }

  up_to_words : IsComplete Derived HeadStops (bare (own_head_expr hook))
  up_to_words = record {
    complete = λ c ts ys t d e.
        ap (λ o. o >>= (λ p. Some (unmarked p.0, p.1)))
        (clean_all.complete hook d.read (head-stops hook c.context.expr_ctx.for_await_loop_init c e))
        ∙ ap (λ v. Some (v, ys)) d.same;
  }

  wells : Well Derived
  wells =
      let all = well_bare hook Expr in
      record {
        grouped = λ c xs ys t d. all.grouped (in_own_for c) xs ys t d;
        valid = λ c xs ys t d. all.valid (in_own_for c) xs ys t d;
        privates = λ c xs ys t d y. all.privates (in_own_for c) xs ys t d y;
      }

  -- an expression in a head, in which no cover name is left
  abbrev pub checked_prefix : Reader (Tree F C K)
  checked_prefix = checked unmarked (own_head_expr hook)

module _ {F C K : Type 0} {fun_at : F → Span} {class_at : C → Span} {block_at : K → Span} (hook : Hook F C K)
    (laws : LawfulHook fun_at class_at block_at hook) where
  sounds : IsSound (Derived hook) (bare (own_head_expr hook))
  sounds =
      let all = is_sound_bare hook laws Expr in
      record {
        sound = λ c ts ys t h. all.sound (in_own_for c) ts ys t h;
        cut = λ c own ys t d. all.cut (in_own_for c) own ys t d;
      }

  -- with the marks of commas
  marks : IsSound (λ c xs ys t. Reads hook Expr (in_own_for c) xs ys t) (own_head_expr hook)
  marks =
      let all = is_sound hook laws Expr in
      record {
        sound = λ c ts ys t h. all.sound (in_own_for c) ts ys t h;
        cut = λ c own ys t d. all.cut (in_own_for c) own ys t d;
      }

  pub prefix-marked : IsSound (λ c xs ys t. Reads hook Expr (in_own_for c) xs ys t) (checked_prefix hook)
  prefix-marked = finished-derives (λ c t. covers_done c (unmarked t)) marks

module _ {S F C K T : Type 0} (model : Model S) (sure : Bool) (hook : Hook F C K) where
  pub meets-prefix : {fun_at : F → Span} {class_at : C → Span} {block_at : K → Span}
      → LawfulHook fun_at class_at block_at hook
      → (view : T → Tree F C K) (b : Buffer S) (r : Result T Error) (c : Buffer S)
      → Parses model sure view (bare (checked_prefix hook)) b r c
      → Meets model sure (ReadsPrefix hook Expr) view Expr b r c
  meets-prefix laws view =
      meets-checked model sure hook laws view unmarked Expr (Derived hook) (own_head_expr hook) (sounds hook laws)
      (completes hook)
      (wells hook)

  pub prefix-words : (view : T → Tree F C K) (b : Buffer S) (r : Result T Error) (c : Buffer S)
      → Parses model sure view (bare (checked_prefix hook)) b r c → sure ≡ true
      → Complete model (ReadsPrefix hook Expr) view HeadStops b r c
  prefix-words view b r c h y =
      complete model sure (ReadsPrefix hook Expr) view (bare (checked_prefix hook)) y HeadStops
      (checked-complete unmarked (own_head_expr hook) (up_to_words hook)) b r c h

module _ {S H F C K : Type 0} {fg : Ghosts F} {cg : Ghosts C} {kg : Ghosts K} {model : Model S} {sure : Bool}
    {hook : Hook F C K} where
  pub prefix-again : {p : Parser S H F C K fg cg kg} {e : Error}
      → (has_failed p ≡ true) × (e ≡ parser_failed (previous (buffer_of p))) → SameNodes (nodes_of p) (nodes_of p)
      → PromisedPrefix model sure hook p (Err e) p
  prefix-again h same = record { promised = promised-again h same; words = λ runs. absurd (not_both h.0 runs) }

  -- the buffer before the parser remembers that it is out of memory
  pub words-of : (p q : Parser S H F C K fg cg kg) {b : Buffer S} {a r : Result (Box (ExprOf F C K) Global) Error}
      → (sure ≡ true → Complete model (ReadsPrefix hook Expr) (tree_by fg.place cg.place kg.place) HeadStops
      (buffer_of p) a b)
      → r ≡ a → buffer_of q ≡ b → has_failed p ≡ false → sure ≡ true
      → Complete model (ReadsPrefix hook Expr) (tree_by fg.place cg.place kg.place) HeadStops (buffer_of p) r
      (buffer_of q)
  words-of p q h e buffer runs y = rw (e, buffer) (h y)
