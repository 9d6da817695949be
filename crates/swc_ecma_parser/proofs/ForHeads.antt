-- Heads of `for` (ECMA-262, 14.7.4 and 14.7.5), from what the code reads to what is promised of them.
use Rattle.std.proofs.Common.{◌≡◌, ◌≢◌, ℕ, Bool, true, false, ◌&&◌, if◌then◌else◌, not, List, [], ◌∷◌, ◌++◌, Option, Some, None, Result, Ok, Err, IfOk, OnOk, MatchResult, length, ◌||◌, refl, sym, ap, subst, ◌∙◌, arith}
use Rattle.swc_context.specs.{declared.error.Error.Error, declared.error.SyntaxError.TheVariants.OutOfMemory, declared.span.BytePos.BytePos, declared.span.Span.Span}
use Rattle.swc_input.specs.Buffer.{Future, Known, context, last_position, previous, state_of}
use Rattle.swc_input.specs.{declared.buffer.Buffer.Buffer, declared.token.Token.Token, declared.token.Token.Token as token, declared.token.TokenAndSpan.TokenAndSpan, Kinds.at_token, Laws.Future-some, Recording.is_silent, Recording.no_memory, Source.Model}
use Rattle.swc_ast.specs.Tree.{Tree, array_with, invalid, item, object_with, node, nil, cons, no_span}
use Rattle.swc_ast.specs.Trees.{is_grouped, is_valid, unmarked}
use Rattle.swc_ast.specs.{Pedantic.privates_ok, declared.for_head.ForHead.ForHead as HeadOf, declared.spanned.Spanned.Ghosts}
use Rattle.swc_bodies.specs.Readings.{Hook, LawfulHook}
use Rattle.swc_grammar.specs.Clean.{Out, and_then, first, no_error}
use Rattle.swc_grammar.specs.Cover.{Role, is_assign, as_pat, target}
use Rattle.swc_grammar.specs.ForHead.{ForHead, for_target, for_expr, in_for, is_each, is_for_target, head_tree, next, unmarked_head, HeadStops, ReadsHead, ReadsHeadUnmarked, expr-head, target-head}
use Rattle.swc_grammar.specs.ForHeadClean.{for_head, for_tail, written}
use Rattle.swc_grammar.specs.{Rule.sees, Scope.Scope, Symbols.Expr, Words.◌>>=◌}
use Rattle.swc_grammar.proofs.ForHeads.{head-front, head-grouped, head-next, head-sound, head-valid}
use Rattle.swc_grammar.proofs.{Answers.both, Marks.same-grouped, Marks.same-valid}
use Rattle.swc_laws.proofs.{PedanticTrees.privates-unmarked, Privates.privates, PrivatesKept.elements-fit}
use Rattle.swc_nodes.specs.Commas.{comma_at, commas_in, part_commas, recalled, Recalls}
use Rattle.swc_nodes.specs.GrowingNodes.{tree_at, bare_at, CutTo, From}
use Rattle.swc_nodes.specs.{NodeParts.expr_part, NodeParts.for_head_parts, declared.commas.TrailingCommas.TrailingCommas, declared.node.ExprId.ExprId, declared.node.ForHeadId.ForHeadId, declared.node.ForHeadId.ForHeadId as number, declared.nodes.Nodes.Nodes}
use Rattle.swc_cover.specs.PatTypes.{stands_whole, verdict_as, want_as}
use Rattle.swc_cover.specs.{Clear.is_clear, declared.pat_type.PatType.TheVariants.AssignPat}
use Rattle.swc_cover.proofs.{Formed.Formed, Clear.clear-fits, Refines.expr-formed, Ties.pattern-is}
use Rattle.swc_input.specs.Calls.{recorded, Checks, Here, Leads, Loud, Refuses}
use Rattle.swc_steps.specs.Parsing.{scope, seen, tree_of, Heard, On, Parses, Unheard}
use Rattle.swc_steps.proofs.Steps.{Reader, give, consumes_of, more_recorded, read_scope}
use Rattle.swc_steps.proofs.{Endings.read-valid, Steps.Calls.on_call_read}
use Rattle.swc_ecma_parser.specs.{CoverNames.covers_left, CoverNames.parts_covers_left, declared.parser.Parser.Parser}
use Rattle.swc_ecma_parser.proofs.{Left.expr-left, Left.pat-left, ArrowParams.heard_behind, Calling.bounded, Calling.failing, Calling.not_both, Calling.shallow, Moving.moved-as, Top.stripped, Top.complete}
use Rattle.swc_ecma_parser.specs.Calls.{buffer_of, nodes_of, commas_of, has_failed, wants_memory, standing, Ends, parser_failed, Kept}
use Rattle.swc_ecma_parser.specs.Finishing.{no_places, parts_done, ChecksAnswer, ChecksCovers}
use Rattle.swc_ecma_parser.specs.ForHeads.{boxed_head, coded, for_head_at, head_by, head_done, head_expr, is_each_word, is_target_id, DerivesHead, HeadAnswer, HeadPromise, PromisedHead, RemembersHead}
use Rattle.swc_ecma_parser.specs.Promise.{Complete, Derivation, Finished, Unmarred, covers_done}
use Rattle.swc_ecma_parser.proofs.Finished.{finished, finished-from, finished-into, finished-parses, parts-told, parts-told-bare}
use Rattle.swc_steps.proofs.Steps as steps

-- ---- the definition, as the code follows it

sees_first : (ts : List TokenAndSpan) → sees is_each ts ≡ at_token is_each_word (first ts)
sees_first [] = refl
sees_first (t ∷ ts) = refl

module _ {F C K : Type 0} where
  -- after the expression
  abbrev pub tail : Scope → Tree F C K × List TokenAndSpan → Out (ForHead F C K)
  tail x p = for_tail x.context.strict p.0 p.1

  -- the pattern that the code makes of it, and where it makes one
  abbrev made : Tree F C K → Reader (ForHead F C K)
  made e x ts =
      if is_clear (verdict_as x.context.strict AssignPat e) then Some (for_target (want_as AssignPat e), ts) else None

  abbrev pub tail_made : Tree F C K → Reader (ForHead F C K)
  tail_made e x ts = if sees is_each ts then made e x ts else Some (for_expr e, ts)

  -- an assignment stays whole
  whole_assign : (e : Tree F C K) → (stands_whole AssignPat e && is_assign e) ≡ is_assign e
  whole_assign (node (array_with c) s ts) = refl
  whole_assign (node (object_with c) s ts) = refl
  whole_assign (node invalid s ts) = refl
  whole_assign (node k s ts) = refl

  by_assign : (b : Bool) (o : Option (Tree F C K)) (us : List TokenAndSpan)
      → (if b then None else written o us) ≡ written (if b then None else o) us
  by_assign true o us = refl
  by_assign false o us = refl

  by_clear : (b : Bool) (p : Tree F C K) (us : List TokenAndSpan)
      → written (if b then Some p else None) us ≡ (if b then Some (for_target p, us) else None)
  by_clear true p us = refl
  by_clear false p us = refl

  -- what holds nothing that was refused is written to where the code's check passes it, as what the code makes of it
  target_made : (x : Scope) (e : Tree F C K) (ts : List TokenAndSpan) → is_valid e ≡ true → Formed e
      → (if is_assign e then None else written (as_pat (target x.context.strict) e) ts) ≡ made e x ts
  target_made x e ts v f =
      let strict = x.context.strict in
      by_assign (is_assign e) (as_pat (target strict) e) ts
      ∙ ap (λ b. written (if b then None else as_pat (target strict) e) ts) (sym (whole_assign e))
      ∙ ap (λ o. written o ts) (pattern-is strict AssignPat e (want_as AssignPat e) f refl)
      ∙ ap (λ b. written (if b then Some (want_as AssignPat e) else None) ts) (sym (clear-fits strict AssignPat e v))
      ∙ by_clear (is_clear (verdict_as strict AssignPat e)) (want_as AssignPat e) ts

  tail_is : (x : Scope) (e : Tree F C K) (ts : List TokenAndSpan) → is_valid e ≡ true → Formed e
      → tail x (e, ts) ≡ tail_made e x ts
  tail_is x e ts v f = ap (λ o. if sees is_each ts then o else Some (for_expr e, ts)) (target_made x e ts v f)

  split : (o : Out (Tree F C K)) (k : Tree F C K → List TokenAndSpan → Out (ForHead F C K))
      → and_then o k ≡ (o >>= (λ p. k p.0 p.1))
  split None k = refl
  split (Some p) k = refl

module _ {F C K : Type 0} (hook : Hook F C K) (is_await : Bool) where
  pub head_splits : (x : Scope) (ts : List TokenAndSpan)
      → for_head hook is_await x ts ≡ (head_expr hook is_await x ts >>= tail x)
  head_splits x ts = split (head_expr hook is_await x ts) (λ e us. for_tail x.context.strict e us)

-- no error token is one of the words
pub each-fits : (o : Option TokenAndSpan) → at_token is_each_word o ≡ true → at_token no_error o ≡ true
each-fits None h = cc
each-fits (Some t) h = by_token t.token h
  where
    by_token : (u : Token) → is_each_word u ≡ true → no_error u ≡ true
    by_token (token.Error e) h = cc
    by_token u h = refl

-- ---- what the steps of the code read

module _ {S F C K : Type 0} {fg : Ghosts F} {cg : Ghosts C} {kg : Ghosts K} {model : Model S} {sure : Bool}
    (hook : Hook F C K)
    (lawful : LawfulHook fg.place cg.place kg.place hook) {ns : Nodes F C K fg cg kg} (e : ExprId)
    (from : From 0 ns (expr_part e)) (is_await : Bool) {b c : Buffer S}
    (h : Heard model sure (head_expr hook is_await) (tree_of ns e) b c) where
  -- of the expression that was read it is known that nothing in it was refused
  read_tail : (x : Scope) (ts us : List TokenAndSpan) → head_expr hook is_await x ts ≡ Some (tree_of ns e, us)
      → (y : Scope) (ys : List TokenAndSpan) → tail y (tree_of ns e, ys) ≡ tail_made (tree_of ns e) y ys
  read_tail x ts us k y ys =
      tail_is y (tree_of ns e) ys (read-valid hook lawful Expr (in_for is_await x) ts us (tree_of ns e) k)
      (expr-formed e from)

  on_tail : On model sure (for_head hook is_await) (tail_made (tree_of ns e)) b c
  on_tail = on_call_read tail (head_splits hook is_await) h.on read_tail

  -- memory ran out for the look after it
  pub tail-unheard : {d : Buffer S} {x : Error} → Unheard model sure (tail_made (tree_of ns e)) c x d
      → Unheard model sure (for_head hook is_await) b x d
  tail-unheard u = steps.unheard_after on_tail u

  module _ {d : Buffer S} (look : Here model c d) where
    on_expr : at_token is_each_word (seen d) ≡ false → On model sure (tail_made (tree_of ns e))
        (give (for_expr (tree_of ns e))) c d
    on_expr n = steps.on_seen look (λ x ts same at.
        ap (λ v. if v then made (tree_of ns e) x ts else Some (for_expr (tree_of ns e), ts))
        (sees_first ts ∙ ap (λ o. at_token is_each_word o) at ∙ n))

    on_target : at_token is_each_word (seen d) ≡ true → On model sure (tail_made (tree_of ns e))
        (made (tree_of ns e)) c d
    on_target n = steps.on_seen look (λ x ts same at.
        ap (λ v. if v then made (tree_of ns e) x ts else Some (for_expr (tree_of ns e), ts))
        (sees_first ts ∙ ap (λ o. at_token is_each_word o) at ∙ n))

    pub heard-expr : at_token is_each_word (seen d) ≡ false
        → Heard model sure (for_head hook is_await) (for_expr (tree_of ns e)) b d
    heard-expr n = heard_behind tail (head_splits hook is_await) h read_tail (on_expr n)

    abbrev well : Bool
    well = is_clear (verdict_as (context model d).strict AssignPat (tree_of ns e))

    goes : (ts : List TokenAndSpan) → well ≡ true
        → made (tree_of ns e) (scope model d) ts ≡ Some (for_target (want_as AssignPat (tree_of ns e)), ts)
    goes ts w = ap (λ v. if v then Some (for_target (want_as AssignPat (tree_of ns e)), ts) else None) w

    stops : (ts : List TokenAndSpan) → well ≡ false → made (tree_of ns e) (scope model d) ts ≡ None
    stops ts w = ap (λ v. if v then Some (for_target (want_as AssignPat (tree_of ns e)), ts) else None) w

    pub heard-target : {f : Buffer S} (t : Tree F C K) → at_token is_each_word (seen d) ≡ true
        → t ≡ want_as AssignPat (tree_of ns e) → Checks model well d f
        → Heard model sure (for_head hook is_await) (for_target t) b f
    heard-target {f} t n stands checks =
        subst (λ v. Heard model sure (for_head hook is_await) (for_target v) b f) (sym stands)
        (heard_behind tail (head_splits hook is_await) h read_tail
        (steps.on_then (on_target n) (steps.on_checked_in well checks goes stops)))

    pub unheard-target : {f : Buffer S} (x : Error) → at_token is_each_word (seen d) ≡ true → Refuses model d x f
        → (x.kind ≢ OutOfMemory → well ≡ false) → Unheard model sure (for_head hook is_await) b x f
    unheard-target x n refuses unclear =
        tail-unheard (steps.unheard_after (on_target n)
        (record { refuses = refuses; none = λ m y l ts k. stops ts (unclear m) }))

-- ---- from the numbers to the boxes

module _ {F C K : Type 0} where
  abbrev first_part : Tree F C K → Tree F C K
  first_part (node k s nil) = node k s nil
  first_part (node k s (cons t ts)) = t

  -- which of the two a head is, and its tree, is told by its code
  decoded : (a b : ForHead F C K) → coded a ≡ coded b → a ≡ b
  decoded (for_target p) (for_target q) h = ap (λ t. for_target (first_part t)) h
  decoded (for_expr p) (for_expr q) h = ap (λ t. for_expr (first_part t)) h
  decoded (for_target p) (for_expr q) h = absurd cc
  decoded (for_expr p) (for_target q) h = absurd cc

  tree_bare : (h : ForHead F C K) → head_tree (unmarked_head h) ≡ unmarked (head_tree h)
  tree_bare (for_target p) = refl
  tree_bare (for_expr e) = refl

  head_bare : (f : ℕ → Tree F C K) (h : ForHeadId) → unmarked_head (head_by f h) ≡ head_by (λ n. unmarked (f n)) h
  head_bare f (number.Target p) = refl
  head_bare f (number.Expr e) = refl

  head_which : (f : ℕ → Tree F C K) (h : ForHeadId) → is_for_target (head_by f h) ≡ is_target_id h
  head_which f (number.Target p) = refl
  head_which f (number.Expr e) = refl

  head_commas : (f : ℕ → Tree F C K) (h : ForHeadId)
      → commas_in (head_tree (head_by f h)) ≡ part_commas f (for_head_parts h)
  head_commas f (number.Target p) = refl
  head_commas f (number.Expr e) = refl

-- ---- what is derived

-- a head in which no cover name is left, once it is as `strip` leaves it
abbrev pub read_head : {F C K : Type 0} → Hook F C K → Bool → (ForHead F C K → ForHead F C K) → Reader (ForHead F C K)
read_head hook is_await strip = finished (λ c h. head_done c (strip h)) (for_head hook is_await)

-- What derives heads, besides the heads with their marks of commas: heads that `strip` leaves of them.
pub record DerivesAs {F C K : Type 0} (hook : Hook F C K) (is_await : Bool) (derives : Derivation (ForHead F C K))
    (strip : ForHead F C K → ForHead F C K) : Type 0 where
  pub into : (c : Scope) (xs ys : List TokenAndSpan) (m : ForHead F C K) → ReadsHead hook is_await c xs ys m
      → head_done c (strip m) ≡ true → derives c xs ys (strip m)
  -- up to where a head may stop, all that is derived is read
  pub complete : (c : Scope) (ts ys : List TokenAndSpan) (h : ForHead F C K) → derives c ts ys h → HeadStops ys
      → stripped strip (read_head hook is_await strip) c ts ≡ Some (h, ys)
  pub grouped : (c : Scope) (ts ys : List TokenAndSpan) (h : ForHead F C K) → derives c ts ys h
      → is_grouped (head_tree h) ≡ true
  pub valid : (c : Scope) (ts ys : List TokenAndSpan) (h : ForHead F C K) → derives c ts ys h
      → is_valid (head_tree h) ≡ true
  pub privates : (c : Scope) (ts ys : List TokenAndSpan) (h : ForHead F C K) → derives c ts ys h
      → c.syntax.pedantic ≡ true
      → privates_ok false (head_tree h) ≡ true
  -- which of the two it is stays
  pub which : (h : ForHead F C K) → is_for_target (strip h) ≡ is_for_target h

module _ {F C K : Type 0} (hook : Hook F C K) (is_await : Bool) where
  grouped_bare : {c : Scope} {ts ys : List TokenAndSpan} {h : ForHead F C K} → ReadsHeadUnmarked hook is_await c ts ys h
      → is_grouped (head_tree h) ≡ true
  grouped_bare d =
      ap (λ v. is_grouped (head_tree v)) (sym d.same) ∙ ap (λ v. is_grouped v) (tree_bare d.marked)
      ∙ same-grouped (head_tree d.marked) ∙ head-grouped d.read

  valid_bare : {c : Scope} {ts ys : List TokenAndSpan} {h : ForHead F C K} → ReadsHeadUnmarked hook is_await c ts ys h
      → is_valid (head_tree h) ≡ true
  valid_bare d =
      ap (λ v. is_valid (head_tree v)) (sym d.same) ∙ ap (λ v. is_valid v) (tree_bare d.marked)
      ∙ same-valid (head_tree d.marked) ∙ head-valid d.read

  which_bare : (h : ForHead F C K) → is_for_target (unmarked_head h) ≡ is_for_target h
  which_bare (for_target p) = refl
  which_bare (for_expr e) = refl

  -- in an expression that becomes a pattern private names are where they were, as in one that becomes an element
  target_placed : (m : Role) (e p : Tree F C K) → as_pat m e ≡ Some p → privates_ok false e ≡ true
      → privates_ok false p ≡ true
  target_placed m e p h y =
      (both (privates_ok false p) true
      (elements-fit m None (cons (node item no_span (cons e nil)) nil) (cons p nil) (rw h refl) (rw y refl))).0

  placed : (h : ForHead F C K) {c : Scope} {ts ys : List TokenAndSpan} → ReadsHead hook is_await c ts ys h
      → c.syntax.pedantic ≡ true
      → privates_ok false (head_tree h) ≡ true
  placed (for_target p) {c} (target-head {e = e} d none pattern word) y =
      target_placed (target c.context.strict) e p pattern (privates d y)
  placed (for_expr e) (expr-head d word) y = privates d y

  placed_bare : {c : Scope} {ts ys : List TokenAndSpan} {h : ForHead F C K} → ReadsHeadUnmarked hook is_await c ts ys h
      → c.syntax.pedantic ≡ true → privates_ok false (head_tree h) ≡ true
  placed_bare d y =
      ap (λ v. privates_ok false (head_tree v)) (sym d.same) ∙ ap (λ v. privates_ok false v) (tree_bare d.marked)
      ∙ privates-unmarked false (head_tree d.marked) ∙ placed d.marked d.read y

  -- without the marks, and with them
  pub head-bare : DerivesAs hook is_await (Finished head_done (ReadsHeadUnmarked hook is_await)) (λ h. unmarked_head h)
  head-bare = record {
    into = λ c xs ys m d w. record { read = record { marked = m; read = d; same = refl }; covers = w };
    complete = λ c ts ys h d e.
        ap (λ o. o >>= (λ p. Some (unmarked_head p.0, p.1)))
        (finished-into (λ v. head_done c (unmarked_head v)) (for_head hook is_await c ts) d.read.marked ys
        (head-front hook d.read.read e)
        (ap (λ v. head_done c v) d.read.same ∙ d.covers))
        ∙ ap (λ v. Some (v, ys)) d.read.same;
    grouped = λ c ts ys h d. grouped_bare d.read;
    valid = λ c ts ys h d. valid_bare d.read;
    privates = λ c ts ys h d y. placed_bare d.read y;
    which = which_bare;
  }

  pub head-marked : DerivesAs hook is_await (Finished head_done (ReadsHead hook is_await)) (λ h. h)
  head-marked = record {
    into = λ c xs ys m d w. record { read = d; covers = w };
    complete = λ c ts ys h d e.
        ap (λ o. o >>= (λ p. Some (p.0, p.1)))
        (finished-into (λ v. head_done c v) (for_head hook is_await c ts) h ys (head-front hook d.read e) d.covers);
    grouped = λ c ts ys h d. head-grouped d.read;
    valid = λ c ts ys h d. head-valid d.read;
    privates = λ c ts ys h d y. placed h d.read y;
    which = λ h. refl;
  }

module _ {S F C K : Type 0} {fun_at : F → Span} {class_at : C → Span} {block_at : K → Span} {model : Model S}
    {sure : Bool}
    (hook : Hook F C K) (laws : LawfulHook fun_at class_at block_at hook) (is_await : Bool)
    (strip : ForHead F C K → ForHead F C K)
    {marked : ForHead F C K} {b c : Buffer S} (h : Heard model sure (read_head hook is_await strip) marked b c)
    (loud : Loud model b)
    (same : Unmarred model b c) where
  front_read : (ys : List TokenAndSpan) → Future model c ys
      → (for_head hook is_await (scope model b) (h.on.leads.taken ++ ys) ≡ Some (marked, ys))
      × (head_done (scope model b) (strip marked) ≡ true)
  front_read ys fut =
      finished-from (λ v. head_done (scope model b) (strip v))
      (for_head hook is_await (scope model b) (h.on.leads.taken ++ ys))
      marked ys (h.on.clean loud (ap length same) ys fut)

  front : (ys : List TokenAndSpan) → Future model c ys
      → ReadsHead hook is_await (scope model b) (h.on.leads.taken ++ ys) ys marked
  front ys fut =
      head-sound hook laws is_await (scope model b) (h.on.leads.taken ++ ys) (marked, ys) (front_read ys fut).0

  derived : DerivesHead model (ReadsHead hook is_await) marked b c
  derived = record {
    consumed = h.on.leads.taken;
    read = h.on.leads.read;
    front = front;
    alone = λ ys fut. head-next h.on.leads.taken ys (front ys fut);
  }

  module _ {derives : Derivation (ForHead F C K)} (by : DerivesAs hook is_await derives strip)
      {left : ForHead F C K} (strips : strip marked ≡ left) where
    into_left : (xs ys : List TokenAndSpan) → ReadsHead hook is_await (scope model b) xs ys marked
        → head_done (scope model b) (strip marked) ≡ true → derives (scope model b) xs ys left
    into_left xs ys d w = subst (λ v. derives (scope model b) xs ys v) strips (by.into (scope model b) xs ys marked d w)

    derived_as : DerivesHead model derives left b c
    derived_as = record {
      consumed = h.on.leads.taken;
      read = h.on.leads.read;
      front = λ ys fut. into_left (h.on.leads.taken ++ ys) ys (front ys fut) (front_read ys fut).1;
      alone = λ ys fut.
          into_left (h.on.leads.taken ++ next ys) (next ys) (head-next h.on.leads.taken ys (front ys fut))
          (front_read ys fut).1;
    }

    good_left : (is_grouped (head_tree left) ≡ true) × (is_valid (head_tree left) ≡ true)
    good_left =
        let some = Future-some h.on.leads.laws c in
        let d = derived_as.front some.0 some.1 in (
          by.grouped (scope model b) _ some.0 left d,
          by.valid (scope model b) _ some.0 left d,
        )

    placed_left : (scope model b).syntax.pedantic ≡ true → privates_ok false (head_tree left) ≡ true
    placed_left y =
        let some = Future-some h.on.leads.laws c in
        by.privates (scope model b) _ some.0 left (derived_as.front some.0 some.1) y

-- ---- the look through a head

module _ {F C K : Type 0} (f : ℕ → Tree F C K) where
  head_left : (h : ForHeadId) → covers_left (head_tree (head_by f h)) ≡ parts_covers_left f (for_head_parts h)
  head_left (number.Target p) = pat-left f p
  head_left (number.Expr e) = expr-left f e

module _ {S F C K : Type 0} {fg : Ghosts F} {cg : Ghosts C} {kg : Ghosts K} (model : Model S) (sure : Bool)
    (hook : Hook F C K)
    (is_await : Bool) (ns : Nodes F C K fg cg kg) (b c d : Buffer S) where
  abbrev well_head : ForHeadId → Bool
  well_head h = parts_done (scope model c) (tree_at ns) (for_head_parts h)

  module _ (answer r : Result ForHeadId Error) (reads : Parses model sure (for_head_at ns)
      (for_head hook is_await) b answer c)
      (checks : ChecksAnswer model well_head c answer r d) where
    pub head-boxes-checked : Parses model sure (for_head_at ns) (read_head hook is_await (λ h. unmarked_head h)) b r d
    head-boxes-checked =
        finished-parses model sure (λ k h. head_done k (unmarked_head h)) (for_head hook is_await)
        (for_head_at ns) well_head b c d
        answer r reads checks
        (λ h. parts-told-bare (scope model c) (tree_at ns) (for_head_parts h) (head_tree (for_head_at ns h))
        (head_left (tree_at ns) h)
        ∙ ap (λ t. covers_done (scope model c) t) (sym (tree_bare (for_head_at ns h))))

    pub head-checked : Parses model sure (for_head_at ns) (read_head hook is_await (λ h. h)) b r d
    head-checked =
        finished-parses model sure head_done (for_head hook is_await)
        (for_head_at ns) well_head b c d answer r reads checks
        (λ h. parts-told (scope model c) (tree_at ns) (for_head_parts h) (head_tree (for_head_at ns h))
        (head_left (tree_at ns) h))

  -- Where no fault was recorded nothing was done, so the token after the head is the one that it was told by.
  still : (h : ForHeadId) → Leads model b c → ChecksCovers model (well_head h) c d
      → ((scope model b).syntax.pedantic ≡ true → Unmarred model b d) → d ≡ c
  still h leads checks quiet =
      by_flag (scope model b).syntax.pedantic refl
    where
      by_well : (w : Bool) → well_head h ≡ w → recorded model d ≡ recorded model b → d ≡ c
      by_well true e same = checks.still e
      by_well false e same = by_silent (is_silent (state_of model c)) refl
        where
          by_silent : (v : Bool) → is_silent (state_of model c) ≡ v → d ≡ c
          by_silent true k = checks.silent k
          by_silent false k = let n = checks.checks.notes e k in let m = more_recorded leads in
              absurd (omega (arith, n, m, same))

      by_flag : (v : Bool) → (scope model b).syntax.pedantic ≡ v → d ≡ c
      by_flag true e = by_well (well_head h) refl (ap length (quiet e))
      by_flag false e =
          checks.still (ap (λ x. not x.syntax.pedantic || no_places (parts_covers_left (tree_at ns) (for_head_parts h)))
          (read_scope leads.laws leads.read) ∙ ap (λ v.
          not v || no_places (parts_covers_left (tree_at ns) (for_head_parts h))) e)

  pub head-told : (answer r : Result ForHeadId Error) → Parses model sure (for_head_at ns)
      (for_head hook is_await) b answer c
      → ChecksAnswer model well_head c answer r d → IfOk answer (λ h. is_target_id h ≡ at_token is_each_word (seen c))
      → IfOk r (λ h. ((scope model b).syntax.pedantic ≡ true → Unmarred model b d)
      → is_target_id h ≡ at_token is_each_word (seen d))
  head-told (Ok x) (Ok y) h (same, checks) q = λ quiet.
      ap (λ v. is_target_id v) same ∙ q ∙ ap (λ v. at_token is_each_word (seen v))
      (sym (still x h.on.leads checks quiet))
  head-told (Err e) (Ok y) h (same, stays) q = absurd cc
  head-told answer (Err e) h checks q = tt

-- ---- what is promised

module _ {S F C K T : Type 0} (model : Model S) (derives : Derivation (ForHead F C K)) (view : T → ForHead F C K)
    (b : Buffer S) (r : Result T Error) (c : Buffer S) where
  -- no other head is derived
  one : Complete model derives view HeadStops b r c → Loud model b → (ts ys : List TokenAndSpan)
      (h : ForHead F C K) → Known model b ts → derives (scope model b) ts ys h → HeadStops ys
      → IfOk r (λ x. (h ≡ view x) × Known model c ys)
  one all loud ts ys h known d stop = of_answer r (all loud ts ys h known d stop)
    where
      of_answer : (v : Result T Error)
          → MatchResult v (λ x. (view x ≡ h) × Known model c ys × Unmarred model b c) (λ e. e.kind ≡ OutOfMemory)
          → IfOk v (λ x. (h ≡ view x) × Known model c ys)
      of_answer (Ok x) q = (sym q.0, q.1)
      of_answer (Err e) q = tt

module _ {S T F C K : Type 0} {fg : Ghosts F} {cg : Ghosts C} {kg : Ghosts K} (model : Model S) (sure : Bool)
    (hook : Hook F C K)
    (laws : LawfulHook fg.place cg.place kg.place hook) (is_await : Bool) (derives : Derivation (ForHead F C K))
    (strip : ForHead F C K → ForHead F C K) (by : DerivesAs hook is_await derives strip) (view : T → ForHead F C K)
    (ns : Nodes F C K fg cg kg) (b c : Buffer S) where
  -- what was answered stands for what was read, as `strip` leaves it, or memory ran out
  abbrev pub StandsFor : Result ForHeadId Error → Result T Error → Type 0
  StandsFor answer r = MatchResult answer
      (λ x. MatchResult r (λ t. view t ≡ strip (for_head_at ns x)) (λ e. e ≡ no_memory (last_position c)))
      (λ e. r ≡ Err e)

  told : (P : Type 0) (answer : Result ForHeadId Error) (r : Result T Error) (w : Bool)
      → IfOk answer (λ h. P → is_target_id h ≡ w)
      → StandsFor answer r → IfOk r (λ t. P → is_for_target (view t) ≡ w)
  told P (Ok x) (Ok t) w q m = λ p. ap (λ v. is_for_target v) m ∙ by.which (for_head_at ns x) ∙ head_which
      (tree_at ns) x ∙ q p
  told P (Err e) (Ok t) w q m = absurd cc
  told P answer (Err e) w q m = tt

  abbrev Read : Result ForHeadId Error → Type 0
  Read answer = Parses model sure (for_head_at ns) (read_head hook is_await strip) b answer c

  derived_by : (answer : Result ForHeadId Error) (r : Result T Error) → Read answer → StandsFor answer r → Loud model b
      → IfOk r (λ t. Unmarred model b c → DerivesHead model derives (view t) b c)
  derived_by (Ok x) (Ok t) h m loud = λ same. derived_as hook laws is_await strip h loud same by (sym m)
  derived_by (Err e) (Ok t) h m loud = absurd cc
  derived_by answer (Err e) h m loud = tt

  grouped : (answer : Result ForHeadId Error) (r : Result T Error) → Read answer → StandsFor answer r → Loud model b
      → IfOk r (λ t. Unmarred model b c → is_grouped (head_tree (view t)) ≡ true)
  grouped (Ok x) (Ok t) h m loud = λ same. (good_left hook laws is_await strip h loud same by (sym m)).0
  grouped (Err e) (Ok t) h m loud = absurd cc
  grouped answer (Err e) h m loud = tt

  valid : (answer : Result ForHeadId Error) (r : Result T Error) → Read answer → StandsFor answer r → Loud model b
      → IfOk r (λ t. Unmarred model b c → is_valid (head_tree (view t)) ≡ true)
  valid (Ok x) (Ok t) h m loud = λ same. (good_left hook laws is_await strip h loud same by (sym m)).1
  valid (Err e) (Ok t) h m loud = absurd cc
  valid answer (Err e) h m loud = tt

  placed_by : (answer : Result ForHeadId Error) (r : Result T Error) → Read answer → StandsFor answer r → Loud model b
      → (scope model b).syntax.pedantic ≡ true
      → IfOk r (λ t. Unmarred model b c → privates_ok false (head_tree (view t)) ≡ true)
  placed_by (Ok x) (Ok t) h m loud y = λ same. placed_left hook laws is_await strip h loud same by (sym m) y
  placed_by (Err e) (Ok t) h m loud y = absurd cc
  placed_by answer (Err e) h m loud y = tt

  -- the commas of its literals
  commas : (answer : Result ForHeadId Error) (r : Result T Error) → Read answer → StandsFor answer r
      → (old new : TrailingCommas)
      → MatchResult answer (λ x. OnOk r (Recalls (part_commas (tree_at ns) (for_head_parts x)) old new))
      (λ e. new ≡ old)
      → MatchResult r (λ t. RemembersHead model hook is_await strip (view t) b c old new)
      (λ e. e.kind ≢ OutOfMemory → new ≡ old)
  commas (Ok x) (Ok t) h m old new q = record {
    marked = for_head_at ns x;
    same = sym m;
    derived = λ loud same. derived hook laws is_await strip h loud same;
    recalls = λ k. q k ∙ ap (λ ls. recalled ls k (comma_at old k)) (sym (head_commas (tree_at ns) x));
  }
  commas (Ok x) (Err e) h m old new q = λ n. absurd (n (ap (λ v. v.kind) m))
  commas (Err e) (Ok t) h m old new q = absurd cc
  commas (Err e) (Err x) h m old new q = λ n. q

  module _ (answer : Result ForHeadId Error) (r : Result T Error) (reads : Read answer) (to : StandsFor answer r) where
    left_reads : Parses model sure view (stripped strip (read_head hook is_await strip)) b r c
    left_reads =
        moved-as model sure (read_head hook is_await strip) (for_head_at ns)
        (λ x. strip (for_head_at ns x)) view strip b c answer r
        reads (λ x. refl) to

    all : sure ≡ true → Complete model derives view HeadStops b r c
    all y =
        complete model sure derives view (stripped strip (read_head hook is_await strip)) y HeadStops
        (record { complete = λ x ts ys t d e. by.complete x ts ys t d e }) b r c left_reads

    pub head-promised : IfOk answer (λ h. ((scope model b).syntax.pedantic ≡ true → Unmarred model b c)
        → is_target_id h ≡ at_token is_each_word (seen c)) → HeadPromise model sure derives view b r c
    head-promised which = record {
      reads = consumes_of model sure view (stripped strip (read_head hook is_await strip)) b c r left_reads;
      which = told ((scope model b).syntax.pedantic ≡ true → Unmarred model b c) answer r
          (at_token is_each_word (seen c)) which to;
      sound = derived_by answer r reads to;
      complete = all;
      one_head = λ y. one model derives view b r c (all y);
      grouped = grouped answer r reads to;
      valid = valid answer r reads to;
      privates = placed_by answer r reads to;
    }

    pub head-recalled : (old new : TrailingCommas)
        → MatchResult answer (λ x. OnOk r (Recalls (part_commas (tree_at ns) (for_head_parts x)) old new))
        (λ e. new ≡ old)
        → MatchResult r (λ t. RemembersHead model hook is_await strip (view t) b c old new)
        (λ e. e.kind ≢ OutOfMemory → new ≡ old)
    head-recalled = commas answer r reads to

module _ {F C K : Type 0} {fg : Ghosts F} {cg : Ghosts C} {kg : Ghosts K} where
  -- what was moved into boxes
  pub head-moved : (ns : Nodes F C K fg cg kg) (at : BytePos) (answer : Result ForHeadId Error)
      (r : Result (HeadOf F C K) Error)
      → MatchResult answer
      (λ x. MatchResult r (λ t. coded (boxed_head fg.place cg.place kg.place t) ≡ coded (head_by (bare_at ns) x))
      (λ e. e ≡ no_memory at))
      (λ e. r ≡ Err e) → MatchResult answer
      (λ x. MatchResult r (λ t. boxed_head fg.place cg.place kg.place t ≡ unmarked_head (for_head_at ns x))
      (λ e. e ≡ no_memory at))
      (λ e. r ≡ Err e)
  head-moved ns at (Ok x) (Ok t) m = decoded (boxed_head fg.place cg.place kg.place t) (head_by (bare_at ns) x) m ∙ sym
      (head_bare (tree_at ns) x)
  head-moved ns at (Ok x) (Err e) m = m
  head-moved ns at (Err e) r m = m

  -- what was kept among the nodes
  pub head-kept : (ms ns : Nodes F C K fg cg kg) (at : BytePos) (k : ℕ) (answer r : Result ForHeadId Error)
      → Kept at answer r → MatchResult r (λ x. ns ≡ ms) (λ e. CutTo k ms ns)
      → MatchResult answer (λ x. MatchResult r (λ v. for_head_at ns v ≡ for_head_at ms x) (λ e. e ≡ no_memory at))
      (λ e. r ≡ Err e)
  head-kept ms ns at k (Ok x) (Ok y) same e = ap (λ v. for_head_at v y) e ∙ ap (λ v. for_head_at ms v) same
  head-kept ms ns at k (Ok x) (Err e) same cut = same
  head-kept ms ns at k (Err x) r same e = same

module _ {S H T F C K : Type 0} {fg : Ghosts F} {cg : Ghosts C} {kg : Ghosts K} {model : Model S} {sure : Bool}
    {hook : Hook F C K}
    {answer : HeadAnswer T F C K fg cg kg} {is_await : Bool} where
  pub head-again : {p : Parser S H F C K fg cg kg} {e : Error}
      → (has_failed p ≡ true) × (e ≡ parser_failed (previous (buffer_of p)))
      → answer.leaves (nodes_of p) (Err e) (nodes_of p)
      → PromisedHead model sure hook answer is_await p (Err e) p
  head-again h same = record {
    again = λ failed. (refl, ap (λ x. Err x) h.1);
    promise = λ runs. absurd (not_both h.0 runs);
    commas = λ n. refl;
    nodes = same;
    fails = λ runs. absurd (not_both h.0 runs);
    bound = refl;
    shallow = λ runs. absurd (not_both h.0 runs);
  }

  -- the buffer, the nodes and the commas before the parser remembers that it is out of memory
  pub promised-head : {p q : Parser S H F C K fg cg kg} {f : Bool × ℕ} (b : Buffer S) (ns : Nodes F C K fg cg kg)
      (cs : TrailingCommas)
      (a r : Result T Error) → has_failed p ≡ false → f ≡ standing p → r ≡ a → buffer_of q ≡ b → nodes_of q ≡ ns
      → commas_of q ≡ cs → Ends f a q
      → HeadPromise model sure (answer.derives hook is_await) (answer.head ns) (buffer_of p) a b
      → MatchResult a (λ t. RemembersHead model hook is_await answer.strip (answer.head ns t) (buffer_of p) b
      (commas_of p) cs)
      (λ e. e.kind ≢ OutOfMemory → cs ≡ commas_of p)
      → answer.leaves (nodes_of p) a ns → PromisedHead model sure hook answer is_await p r q
  promised-head {p} {q} b ns cs a r runs same e buffer nodes commas fails done remembers kept =
      let promise : HeadPromise model sure (answer.derives hook is_await) (answer.head (nodes_of q)) (buffer_of p) r
      (buffer_of q) =
      rw (e, buffer, nodes) done in
      let left : answer.leaves (nodes_of p) r (nodes_of q) = rw (e, nodes) kept in
      record {
        again = λ failed. absurd (not_both failed runs);
        promise = λ w. promise;
        commas = rw (e, buffer, nodes, commas) remembers;
        nodes = left;
        fails = λ w. failing a r runs same e fails;
        bound = bounded a same fails;
        shallow = λ w. shallow a r e fails;
      }
