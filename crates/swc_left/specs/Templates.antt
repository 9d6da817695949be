-- What the steps of the code read in templates (13.2.8, 13.3.11), by the clean parser.
use Rattle.std.specs.Prelude.{ℕ, Bool, true, false, not, if◌then◌else◌, List, map, Option, Some, None}
use Rattle.swc_context.specs.declared.span.Span.{Span}
use Rattle.swc_input.specs.{declared.token.Token.Token, declared.token.Token.Token as token, declared.token.TokenAndSpan.TokenAndSpan, Kinds.at_token}
use Rattle.swc_ast.specs.Tree.{Tree, Trees, nil, cons, trees, span_of}
use Rattle.swc_ast.specs.Trees.{to, trees_append, parts_e, texts_of, exprs_of, tpl_e, tagged_e, is_chain}
use Rattle.swc_ast.specs.{Parts.quasi_tree, declared.expr.TplElement.TplElement, declared.spanned.Spanned.Ghosts}
use Rattle.swc_bodies.specs.Readings.{Hook}
use Rattle.swc_grammar.specs.Tokens.{is_backquote, is_dollar_brace, is_rbrace}
use Rattle.swc_grammar.specs.Clean.{Out, first, sym, run}
use Rattle.swc_grammar.specs.Words.{◌>>=◌, rest, one}
use Rattle.swc_grammar.specs.{Scope.Scope, Scope.inner, Parts.cooked_of, Symbols.Parts}
use Rattle.swc_nodes.specs.{Lists.exprs_parts, GrowingNodes.tree_at, GrowingNodes.Apart, declared.nodes.Nodes.Nodes}
use Rattle.swc_left.specs.declared.tpl.TplParts.{TplParts}
use Rattle.swc_steps.specs.{Keys.expected, Lists.eaten, Readers.whole_inside}

-- the tokens that are texts of templates
abbrev pub is_template : Token → Bool
is_template (token.Template raw cooked) = true
is_template t = false

-- after a text: the backquote that closes the template, by its place, or the `${` of an expression
abbrev pub tpl_end_by : Option Span → Scope → List TokenAndSpan → Out (Option Span)
tpl_end_by (Some s) c ts = Some (Some s, ts)
tpl_end_by None c ts = expected is_dollar_brace c ts >>= (λ p. Some (None, p.1))

unfoldable pub tpl_end : Scope → List TokenAndSpan → Out (Option Span)
tpl_end c ts = eaten is_backquote c ts >>= (λ p. tpl_end_by p.0 c p.1)

-- A text by itself, which is the last one or not, and what its token is: as `text_of` of the grammar has its tree.
abbrev pub quasi_with : Span → Bool → Option (List ℕ) → List ℕ → TplElement
quasi_with s is_last cooked raw = record { span = s; tail = is_last; cooked = cooked; raw = raw }

abbrev pub quasi_by : Bool → Span → List ℕ → Option (Option (List ℕ)) → Option TplElement
quasi_by is_last s raw None = None
quasi_by is_last s raw (Some cooked) = Some (quasi_with s is_last cooked raw)

abbrev pub quasi_of : Bool → Bool → Token → Span → Option TplElement
quasi_of is_tagged is_last (token.Template raw cooked) s = quasi_by is_last s raw (cooked_of is_tagged cooked)
quasi_of is_tagged is_last t s = None

-- a text, which is the last one where a backquote is after it
abbrev pub text_at : Bool → Option TokenAndSpan → List TokenAndSpan → Out TplElement
text_at is_tagged None us = None
text_at is_tagged (Some t) us = one (quasi_of is_tagged (at_token is_backquote (first us)) t.token t.span) us

unfoldable pub tpl_element : Bool → Scope → List TokenAndSpan → Out TplElement
tpl_element is_tagged c ts = text_at is_tagged (first ts) (rest ts)

module _ {F C K : Type 0} where
  -- texts and expressions before those of a template
  abbrev pub parts_before : Trees F C K → Trees F C K → Tree F C K → Tree F C K
  parts_before texts exprs ps =
      parts_e (span_of ps) (trees_append texts (texts_of ps)) (trees_append exprs (exprs_of ps))

  -- a template with the tag l, which is no optional chain, after its parts; its backquote is at s
  abbrev pub tagged_node : Span → Tree F C K → Tree F C K → Scope → List TokenAndSpan → Out (Tree F C K)
  tagged_node s l ps c ts =
      if not (is_chain l) then
      Some (tagged_e (to (span_of l) (span_of ps)) l (tpl_e (to s (span_of ps)) ps), ts) else None

module _ {F C K : Type 0} (hook : Hook F C K) where
  -- an expression between two texts, in which `in` is an operator: after it, and after the `${`
  abbrev pub tpl_expr_close : Tree F C K → Scope → List TokenAndSpan → Out (Tree F C K)
  tpl_expr_close e c ts = expected is_rbrace c ts >>= (λ q. Some (e, q.1))

  abbrev pub tpl_expr_tail : Scope → List TokenAndSpan → Out (Tree F C K)
  tpl_expr_tail c ts = whole_inside hook c ts >>= (λ p. tpl_expr_close p.0 c p.1)

  -- After some texts, and as many expressions: those that are left, to where the template is closed.
  unfoldable pub parts_behind : Bool → Trees F C K → Trees F C K → Scope → List TokenAndSpan → Out (Tree F C K)
  parts_behind is_tagged texts exprs c ts =
      run hook (sym (Parts is_tagged)) c ts >>= (λ p. Some (parts_before texts exprs p.0, p.1))

  -- The same after one more text, and the backquote that closes the template or the `${` of an expression: nothing, or
  -- that expression and what follows it; and from the backquote or the `${` on.
  abbrev pub parts_by : Bool → Trees F C K → Trees F C K → Option Span → Scope → List TokenAndSpan → Out (Tree F C K)
  parts_by is_tagged texts exprs (Some s) c ts = Some (parts_e s texts exprs, ts)
  parts_by is_tagged texts exprs None c ts =
      tpl_expr_tail c ts >>= (λ p. parts_behind is_tagged texts (trees_append exprs (cons p.0 nil)) c p.1)

  abbrev pub parts_after : Bool → Trees F C K → Trees F C K → Scope → List TokenAndSpan → Out (Tree F C K)
  parts_after is_tagged texts exprs c ts = tpl_end c ts >>= (λ p. parts_by is_tagged texts exprs p.0 c p.1)

  -- a template, after its backquote at s
  abbrev pub template_tail : Bool → Span → Scope → List TokenAndSpan → Out (Tree F C K)
  template_tail is_tagged s c ts =
      run hook (sym (Parts is_tagged)) c ts >>= (λ p. Some (tpl_e (to s (span_of p.0)) p.0, p.1))

  -- a template with the tag l, after its backquote at s
  unfoldable pub tagged_tail : Span → Tree F C K → Scope → List TokenAndSpan → Out (Tree F C K)
  tagged_tail s l c ts = run hook (sym (Parts true)) (inner c) ts >>= (λ p. tagged_node s l p.0 c p.1)

module _ {F C K : Type 0} {fg : Ghosts F} {cg : Ghosts C} {kg : Ghosts K} where
  -- what the parts of a template hold of numbers, and what they stand for
  abbrev pub tpl_parts_of : ℕ → Nodes F C K fg cg kg → TplParts → Type 0
  tpl_parts_of k ns p = Apart k ns (exprs_parts p.exprs)

  abbrev pub tpl_parts_at : Nodes F C K fg cg kg → TplParts → Tree F C K
  tpl_parts_at ns p =
      parts_e p.end (trees (map quasi_tree p.quasis.items)) (trees (map (λ e. tree_at ns e.0) p.exprs.items))
