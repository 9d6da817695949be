-- How an assignment expression begins that may be an arrow function (15.3, 15.9), as the code reads it.
use Rattle.std.proofs.Common.{◌≡◌, ◌&&◌, Bool, false, true, if◌then◌else◌, List, ℕ, ◌≤◌, Option, Some, None, map, refl, sym, ap, subst, ◌∙◌}
use Rattle.swc_context.specs.Contexts.{view as deciding}
use Rattle.swc_context.specs.declared.context.Context.{Context}
use Rattle.swc_input.specs.declared.token.Token.{Token}
use Rattle.swc_input.specs.declared.buffer.Buffer.{Buffer}
use Rattle.swc_input.specs.declared.token.TokenAndSpan.{TokenAndSpan}
use Rattle.swc_input.specs.Buffer.{context}
use Rattle.swc_input.specs.Kinds.{at_token}
use Rattle.swc_input.specs.Source.{Model}
use Rattle.swc_ast.specs.Tree.{Tree}
use Rattle.swc_bodies.specs.Readings.{Hook}
use Rattle.swc_grammar.specs.Clean.{first, second, no_error, run, sym as at_symbol}
use Rattle.swc_grammar.specs.Scope.{Scope}
use Rattle.swc_grammar.specs.Symbols.{Assign}
use Rattle.swc_grammar.specs.Tokens.{is_yield}
use Rattle.swc_ast.specs.declared.spanned.Spanned.{Ghosts}
use Rattle.swc_nodes.specs.GrowingNodes.{tree_at, Apart, From}
use Rattle.swc_nodes.specs.Lists.{pats_parts, pat_trees}
use Rattle.swc_nodes.specs.NodeParts.{expr_part}
use Rattle.swc_nodes.specs.declared.node.ExprId.{ExprId}
use Rattle.swc_nodes.specs.declared.nodes.Nodes.{Nodes}
use Rattle.swc_steps.proofs.Building.{apart-lower}
use Rattle.swc_input.specs.Calls.{Here}
use Rattle.swc_steps.specs.Parsing.{scope, seen, seen_of, Heard, On, Told}
use Rattle.swc_steps.proofs.Steps.{Reader, on_told, read_scope}
use Rattle.swc_arrows.specs.Starts.{first_kind, head_by, start_kind, next_kind, next_token, token_kind}
use Rattle.swc_arrows.specs.declared.starts.StartKind.{StartKind}
use Rattle.swc_arrows.specs.declared.starts.NextKind.TheVariants as next_is
use Rattle.swc_ast.specs.declared.expr.ExprOrSpread.{ExprOrSpread}
use Rattle.swc_nodes.specs.GrowingNodes.{first_start, last_end, Grows}
use Rattle.swc_nodes.specs.NodeParts.{args_parts}
use Rattle.swc_steps.specs.Args.{args_inside}
use Rattle.swc_steps.specs.Parsing.{args_at}
use Rattle.swc_steps.specs.declared.tokens.Listed.{Listed}
use Rattle.swc_steps.proofs.Steps.{give}
use Rattle.swc_steps.proofs.Steps.Calls.{on_call}
use Rattle.swc_grammar.specs.Clean.{Out}
use Rattle.swc_grammar.specs.Words.{◌>>=◌}
use Rattle.swc_bodies.specs.Readings.{LawfulHook}
use Rattle.swc_arrows.specs.Answers.{callee_at, callee_parts, list_start_at, list_start_behind, HearsOperand}
use Rattle.swc_arrows.specs.Readers.{base_look, is_callee, list_behind, list_closed, list_opening}
use Rattle.swc_arrows.specs.declared.lists.ListStart.{ListStart}
use Rattle.swc_arrows.proofs.BaseLaws.{list_heard}
use Rattle.swc_arrows.proofs.Bases.{callee_later}
use Rattle.swc_arrows.proofs.Begun.{list_splits}
use Rattle.swc_arrows.proofs.Dooms.{opens_after}
use Rattle.swc_arrows.proofs.ListLaws.{list_closes}
use Rattle.swc_arrows.specs.declared.names.ArrowHead.{ArrowHead}
use Rattle.swc_arrows.specs.declared.names.Beginning.{Beginning}
use Rattle.swc_arrows.specs.declared.names.Beginning.TheVariants as beginning
use Rattle.swc_arrows.specs.Answers.{beginning_behind, beginning_of, HearsBase, IsBase, Opens}
use Rattle.swc_arrows.specs.Readers.{arrow_behind, base_behind}
use Rattle.swc_arrows.proofs.HeadLaws.{BeginsAssign}

-- flags that decide nothing tell nothing
token_same : (c : Context) (t : Token) → token_kind (deciding c) t ≡ token_kind c t
token_same c t = refl

next_token_same : (c : Context) (t : Token) → next_token (deciding c) t ≡ next_token c t
next_token_same c t = refl

first_same : (c : Context) (o : Option TokenAndSpan) → first_kind (deciding c) o ≡ first_kind c o
first_same c None = refl
first_same c (Some t) = token_same c t.token

next_same : (c : Context) (o : Option TokenAndSpan) → next_kind (deciding c) o ≡ next_kind c o
next_same c None = refl
next_same c (Some t) = ap (λ v. if t.had_line_break then next_is.Other else v) (next_token_same c t.token)

head_same : (c : Context) (ts : List TokenAndSpan) → start_kind (deciding c) ts ≡ start_kind c ts
head_same c ts =
    ap (λ v. head_by v (next_kind (deciding c) (second ts))) (first_same c (first ts))
    ∙ ap (λ v. head_by (first_kind c (first ts)) v) (next_same c (second ts))

module _ {S : Type 0} (model : Model S) where
  begins : (b : Buffer S) → at_token no_error (seen b) ≡ true
      → (at_token is_yield (seen b) && (context model b).in_generator) ≡ false
      → (x : Scope) (ts : List TokenAndSpan) → x ≡ scope model b → first ts ≡ seen b → BeginsAssign x ts
  begins b fit none x ts same e = record {
    head = ap (λ v. v.head) same;
    yields = ap (λ v. at_token is_yield v && x.context.in_generator) e
        ∙ ap (λ v. at_token is_yield (seen b) && v.context.in_generator) same ∙ none;
    fits = ap (at_token no_error) e ∙ fit;
  }

module _ {S : Type 0} {model : Model S} where
  -- what is told, as it is known
  pub told_by : {V : Type 0} {test : List TokenAndSpan → V} {v w : V} {b c : Buffer S} → v ≡ w → Told model test v b c
      → Told model test w b c
  told_by {test = test} {b = b} {c = c} same h = subst (λ v. Told model test v b c) same h

module _ {S F C K : Type 0} {model : Model S} {sure : Bool} (hook : Hook F C K) where
  -- what the first two tokens tell
  pub head_told : (g : Reader (Tree F C K)) {k : StartKind} {b c : Buffer S} → Here model b b
      → Told model (start_kind (context model b)) k b c → at_token no_error (seen b) ≡ true
      → (at_token is_yield (seen b) && (context model b).in_generator) ≡ false
      → ((x : Scope) (ts : List TokenAndSpan) → BeginsAssign x ts → start_kind x.context ts ≡ k
      → run hook (at_symbol Assign) x ts ≡ g x ts) → On model sure (run hook (at_symbol Assign)) g b c
  head_told g {k} {b} {c} here told fit none law =
      on_told {g = g} here told (λ x ts same e is.
      let was : x ≡ scope model b = same ∙ read_scope told.laws told.still.read in
      law x ts (begins model b fit none x ts was (e ∙ ap seen_of told.current))
      (ap (λ v. start_kind v.context ts) was ∙ head_same (context model b) ts ∙ is))

-- what it begins with, as it is known
module _ {S F C K : Type 0} {fg : Ghosts F} {cg : Ghosts C} {kg : Ghosts K} {model : Model S} {sure : Bool}
    (ns : Nodes F C K fg cg kg) (x : Beginning) {f : Reader (Tree F C K)} {b c : Buffer S} where
  pub head_behind : (hook : Hook F C K) {h : ArrowHead} → x ≡ beginning.Arrow h
      → On model sure f (beginning_behind hook ns x) b c
      → On model sure f (arrow_behind hook h.start h.is_async h.in_parens (pat_trees (tree_at ns) h.params)) b c
  head_behind hook same o = subst (λ v. On model sure f (beginning_behind hook ns v) b c) same o

  pub base_opens : (hook : Hook F C K) {e : ExprId} → x ≡ beginning.Base e
      → Opens model sure f (beginning_behind hook ns x) b c → Opens model sure f (base_behind hook (tree_at ns e.0)) b c
  base_opens hook same o = subst (λ v. Opens model sure f (beginning_behind hook ns v) b c) same o

  pub base_on : (hook : Hook F C K) {e : ExprId} → x ≡ beginning.Base e
      → On model sure f (beginning_behind hook ns x) b c → On model sure f (base_behind hook (tree_at ns e.0)) b c
  base_on hook same o = subst (λ v. On model sure f (beginning_behind hook ns v) b c) same o

  pub base_hears : {e : ExprId} → x ≡ beginning.Base e → HearsBase model sure f ns x b c
      → Heard model sure f (tree_at ns e.0) b c
  base_hears same h = subst (λ v. HearsBase model sure f ns v b c) same h

  pub base_is : {e : ExprId} → x ≡ beginning.Base e → IsBase model sure f ns x b c
      → On model sure f (λ y ts. Some (tree_at ns e.0, ts)) b c
  base_is same h = subst (λ v. IsBase model sure f ns v b c) same h

module _ {F C K : Type 0} {fg : Ghosts F} {cg : Ghosts C} {kg : Ghosts K} (ns : Nodes F C K fg cg kg) (x : Beginning)
    (j : ℕ) where
  pub head_apart : (k : ℕ) {h : ArrowHead} → k ≤ j → x ≡ beginning.Arrow h → beginning_of j ns x
      → Apart k ns (pats_parts h.params)
  head_apart k {h} le same p = apart-lower (pats_parts h.params) le (subst (λ v. beginning_of j ns v) same p)

  pub base_from : {e : ExprId} → x ≡ beginning.Base e → beginning_of j ns x → From j ns (expr_part e)
  base_from same p = subst (λ v. beginning_of j ns v) same p

-- ---- lists in parentheses

module _ {S A B : Type 0} {model : Model S} {sure : Bool} {f g : Reader A} {q : Reader B} {t : B} {b c : Buffer S} where
  -- q is called, and what is left after what it read, where no assignment expression begins
  opens_inside : (k : Scope → B × List TokenAndSpan → Out A) → ((x : Scope) (ts : List TokenAndSpan)
      → f x ts ≡ (q x ts >>= k x)) → Heard model sure q t b c → ((x : Scope) (ts us : List TokenAndSpan)
      → q x ts ≡ Some (t, us) → (y : Scope) (ys : List TokenAndSpan) → y.head ≡ false → k y (t, ys) ≡ g y ys)
      → Opens model sure f g b c
  unfolding on_call
  opens_inside k step h same =
      let o = on_call k step h.on in
      record {
        on = record {
          leads = o.leads;
          clean = λ l s ys fut. o.clean l s ys fut ∙ same _ _ _ (h.on.clean l s ys fut) (scope model c) ys refl;
          faulty = o.faulty;
        };
        onward = h.onward;
      }

module _ {S F C K : Type 0} {fg : Ghosts F} {cg : Ghosts C} {kg : Ghosts K} {model : Model S} {sure : Bool}
    (hook : Hook F C K) (lawful : LawfulHook fg.place cg.place kg.place hook) {ns ms : Nodes F C K fg cg kg} {j k : ℕ}
    {b c d : Buffer S} where
  -- after such a list: what is left, by what is known of it
  pub list_opened : {f : Reader (Tree F C K)} (start : ListStart) (list : Listed (ExprOrSpread ExprId))
      → On model sure f (list_start_behind hook ns start) b c → is_callee start.at (callee_at ns start.callee)
      → Apart k ns (callee_parts start.callee) → Grows ns ms → Apart j ms (args_parts list.items)
      → Heard model sure (args_inside hook false) (args_at ms list) c d
      → Opens model sure f (list_closed hook (first_start ms (map (λ e. e.expr) list.items.items))
      (last_end ms (map (λ e. e.expr) list.items.items)) (callee_at ms start.callee) start.at (args_at ms list)) b d
  list_opened start list o callee before grows items read =
      let lo = first_start ms (map (λ (e : ExprOrSpread ExprId). e.expr) list.items.items) in
      let hi = last_end ms (map (λ (e : ExprOrSpread ExprId). e.expr) list.items.items) in
      let was = callee_at ns start.callee in
      opens_after o (opens_inside (λ x q. list_behind hook was start.at q.0 x q.1) (list_splits hook was start.at) read
      (λ x ts us h y ys n. list_closes hook lawful was start.at list x ts us items h callee y ys n
      ∙ ap (λ v. list_closed hook lo hi v start.at (args_at ms list) y ys)
      (sym (callee_later start.callee grows before))))

  pub list_operand : (is_async : Bool) (start : ListStart) (list : Listed (ExprOrSpread ExprId)) {e : Tree F C K}
      {m : Buffer S} → Apart k ns (callee_parts start.callee) → Grows ns ms → Apart j ms (args_parts list.items)
      → Heard model sure (list_opening is_async) (list_start_at ns start) b c
      → Heard model sure (args_inside hook false) (args_at ms list) c d
      → On model sure (base_look (first_start ms (map (λ e. e.expr) list.items.items))
      (last_end ms (map (λ e. e.expr) list.items.items)) (callee_at ms start.callee) start.at (args_at ms list))
      (give e) d m → HearsOperand model sure hook e b m
  list_operand is_async start list before grows items opens read base =
      list_heard hook lawful is_async (callee_at ms start.callee) start.at list items
      (subst (λ v. Heard model sure (list_opening is_async) (v, start.at) b c)
      (sym (callee_later start.callee grows before)) opens) read base
