-- What the steps of the code read in left-hand sides (13.3), by the clean parser.
use Rattle.std.specs.Prelude.{Bool, true, false, not, ◌&&◌, if◌then◌else◌, List, Option, Some, None}
use Rattle.swc_context.specs.{Spans.from_to, declared.span.BytePos.BytePos, declared.span.Span.Span}
use Rattle.swc_input.specs.{declared.token.TokenAndSpan.TokenAndSpan, Kinds.at_token, Kinds.is_hash}
use Rattle.swc_ast.specs.Trees.{to, items_of, name_e, private_e, computed_e, member_e, call_e, link_e, is_chain, new_e, bare_new_e, meta_e}
use Rattle.swc_ast.specs.{Tree.Tree, Tree.span_of, declared.expr.MetaPropKind.MetaPropKind as kind}
use Rattle.swc_bodies.specs.Readings.{Hook}
use Rattle.swc_grammar.specs.Tokens.{is_dot, is_lbracket, is_lparen, is_rbracket, is_question, is_backquote, is_target, new_target_ok}
use Rattle.swc_grammar.specs.Clean.{Out, first, sym, links, run}
use Rattle.swc_grammar.specs.Words.{◌>>=◌, rest, word}
use Rattle.swc_grammar.specs.{Scope.Scope, Symbols.Lhs, Names.may_name}
use Rattle.swc_left.specs.{declared.left.Link.Link, declared.left.Link.Link as link, declared.left.LinkHead.LinkHead, declared.left.LinkHead.LinkHead as head, Templates.tagged_tail}
use Rattle.swc_steps.specs.{Args.hash_name, Args.args_inside, Keys.expected, Lists.eaten, Readers.whole_inside}

-- the link of an optional chain, by the token after its `?`
abbrev pub chain_at : Option TokenAndSpan → Option Link
chain_at u = if at_token is_dot u then Some link.Chain else None

-- the link that a token begins, with calls among them or without; after a `?` the next token tells
abbrev pub link_at : Bool → Option TokenAndSpan → Option TokenAndSpan → Option Link
link_at b None u = None
link_at b (Some t) u =
    if is_dot t.token then Some link.Name else
    (if is_lbracket t.token then Some link.Computed else
    (if is_backquote t.token then Some link.Template else
    (if is_question t.token then chain_at u else
    (if b && is_lparen t.token then Some link.Call else None))))

abbrev pub link_here : Bool → List TokenAndSpan → Option Link
link_here b ts = link_at b (first ts) (first (rest ts))

-- ---- the first tokens of a link

-- those of an optional chain (13.3.9), after the `?`; and after the `.`
abbrev pub chain_paren : Option Span → Scope → List TokenAndSpan → Out LinkHead
chain_paren (Some s) c ts = Some (head.Call true, ts)
chain_paren None c ts = Some (head.Name true, ts)

abbrev pub chain_bracket : Option Span → Scope → List TokenAndSpan → Out LinkHead
chain_bracket (Some s) c ts = Some (head.Computed s true, ts)
chain_bracket None c ts = eaten is_lparen c ts >>= (λ p. chain_paren p.0 c p.1)

abbrev pub chain_dot : Scope → List TokenAndSpan → Out LinkHead
chain_dot c ts = eaten is_lbracket c ts >>= (λ p. chain_bracket p.0 c p.1)

unfoldable pub chain_head : Scope → List TokenAndSpan → Out LinkHead
chain_head c ts = expected is_dot c ts >>= (λ p. chain_dot c p.1)

-- those of any link, after the token at s that begins it, and from that token on
abbrev pub head_behind : Link → Span → Scope → List TokenAndSpan → Out LinkHead
head_behind link.Name s c ts = Some (head.Name false, ts)
head_behind link.Computed s c ts = Some (head.Computed s false, ts)
head_behind link.Call s c ts = Some (head.Call false, ts)
head_behind link.Chain s c ts = chain_head c ts
head_behind link.Template s c ts = Some (head.Template s, ts)

abbrev pub head_by : Link → Option TokenAndSpan → Scope → List TokenAndSpan → Out LinkHead
head_by k None c us = None
head_by k (Some t) c us = head_behind k t.span c us

unfoldable pub head_of : Link → Scope → List TokenAndSpan → Out LinkHead
head_of k c ts = head_by k (first ts) c (rest ts)

-- those of the link that comes next, or none
abbrev pub next_head : Option Link → Scope → List TokenAndSpan → Out (Option LinkHead)
next_head None c ts = Some (None, ts)
next_head (Some k) c ts = head_of k c ts >>= (λ p. Some (Some p.0, p.1))

unfoldable pub link_head : Bool → Scope → List TokenAndSpan → Out (Option LinkHead)
link_head b c ts = next_head (link_here b ts) c ts

module _ {F C K : Type 0} where
  -- what names a member after a `.`, with where it ends
  abbrev pub member_name_by : Bool → Scope → List TokenAndSpan → Out (Tree F C K × BytePos)
  member_name_by true c ts = hash_name c ts >>= (λ p. Some ((private_e p.0.0.at p.0.0.text, p.0.1), p.1))
  member_name_by false c ts = word may_name c ts >>= (λ p. Some ((name_e p.0.at p.0.text, p.0.at.hi), p.1))

  unfoldable pub member_name : Scope → List TokenAndSpan → Out (Tree F C K × BytePos)
  member_name c ts = member_name_by (at_token is_hash (first ts)) c ts

  -- a member of l (13.3.2), after the `.`; in an optional chain or not
  unfoldable pub dot_tail : Bool → Tree F C K → Scope → List TokenAndSpan → Out (Tree F C K)
  dot_tail o l c ts =
      member_name c ts >>= (λ p. Some (link_e o l (member_e (from_to (span_of l).lo p.0.1) l p.0.0), p.1))

  -- a member of l in brackets, of which the first is at s, after its expression e
  abbrev pub computed_close : Bool → Span → Tree F C K → Tree F C K → Scope → List TokenAndSpan → Out (Tree F C K)
  computed_close o s l e c ts =
      expected is_rbracket c ts
      >>= (λ q. Some (link_e o l (member_e (to (span_of l) q.0) l (computed_e (to s q.0) e)), q.1))

  -- a call of l (13.3.6), after its arguments es
  abbrev pub call_node : Bool → Tree F C K → Tree F C K → Scope → List TokenAndSpan → Out (Tree F C K)
  call_node o l es c ts = Some (link_e o l (call_e (to (span_of l) (span_of es)) l (items_of es)), ts)

  -- what `new` at s makes of l (13.3.5), after its arguments es
  abbrev pub new_node : Span → Tree F C K → Tree F C K → Scope → List TokenAndSpan → Out (Tree F C K)
  new_node s l es c ts = Some (new_e (to s (span_of es)) l (items_of es), ts)

  -- `new.target` (13.3.12), after `new` at s and the `.`
  unfoldable pub target_tail : Span → Scope → List TokenAndSpan → Out (Tree F C K)
  target_tail s c ts =
      expected is_target c ts
      >>= (λ p. if new_target_ok c.context then Some (meta_e (to s p.0) kind.NewTarget, p.1) else None)

module _ {F C K : Type 0} (hook : Hook F C K) where
  -- a member in brackets, in which `in` is an operator, after the one at s
  unfoldable pub computed_tail : Bool → Span → Tree F C K → Scope → List TokenAndSpan → Out (Tree F C K)
  computed_tail o s l c ts = whole_inside hook c ts >>= (λ p. computed_close o s l p.0 c p.1)

  -- ---- calls (13.3.6)

  -- a call of l (13.3.6), after its parenthesis
  unfoldable pub call_tail : Bool → Tree F C K → Scope → List TokenAndSpan → Out (Tree F C K)
  call_tail o l c ts = args_inside hook false c ts >>= (λ p. call_node o l p.0 c p.1)

  -- ---- `new` (13.3.5)

  -- with its arguments, after their parenthesis, `new` being at s
  unfoldable pub new_args_tail : Span → Tree F C K → Scope → List TokenAndSpan → Out (Tree F C K)
  new_args_tail s l c ts = args_inside hook false c ts >>= (λ p. new_node s l p.0 c p.1)

  abbrev pub construct_by : Bool → Span → Tree F C K → Option Span → Scope → List TokenAndSpan → Out (Tree F C K)
  construct_by b s l (Some q) c ts = new_args_tail s l c ts >>= (λ p. run hook (links b p.0) c p.1)
  construct_by b s l None c ts = Some (bare_new_e (to s (span_of l)) l, ts)

  -- after what it constructs, which is no optional chain
  abbrev pub construct_node : Bool → Span → Tree F C K → Scope → List TokenAndSpan → Out (Tree F C K)
  construct_node b s l c ts = eaten is_lparen c ts >>= (λ p. construct_by b s l p.0 c p.1)

  abbrev pub construct_of : Bool → Span → Tree F C K → Scope → List TokenAndSpan → Out (Tree F C K)
  construct_of b s l c ts = if not (is_chain l) then construct_node b s l c ts else None

  unfoldable pub construct_tail : Bool → Span → Scope → List TokenAndSpan → Out (Tree F C K)
  construct_tail b s c ts = run hook (sym (Lhs false)) c ts >>= (λ p. construct_of b s p.0 c p.1)

  -- after `new` at s
  abbrev pub new_by : Bool → Span → Option Span → Scope → List TokenAndSpan → Out (Tree F C K)
  new_by b s (Some q) c ts = target_tail s c ts >>= (λ p. run hook (links b p.0) c p.1)
  new_by b s None c ts = construct_tail b s c ts

  abbrev pub new_tail : Bool → Span → Scope → List TokenAndSpan → Out (Tree F C K)
  new_tail b s c ts = eaten is_dot c ts >>= (λ p. new_by b s p.0 c p.1)

  abbrev pub new_from : Bool → Option TokenAndSpan → Scope → List TokenAndSpan → Out (Tree F C K)
  new_from b None c us = None
  new_from b (Some t) c us = new_tail b t.span c us

  -- from `new` on
  unfoldable pub new_lhs : Bool → Scope → List TokenAndSpan → Out (Tree F C K)
  new_lhs b c ts = new_from b (first ts) c (rest ts)

  -- ---- links (13.3)

  -- a link of l, after its first tokens
  unfoldable pub link_tail : LinkHead → Tree F C K → Scope → List TokenAndSpan → Out (Tree F C K)
  link_tail (head.Name o) l c ts = dot_tail o l c ts
  link_tail (head.Computed s o) l c ts = computed_tail o s l c ts
  link_tail (head.Call o) l c ts = call_tail o l c ts
  link_tail (head.Template s) l c ts = tagged_tail hook s l c ts

  -- after the first tokens of a link: that link, and those that follow it; or none
  abbrev pub links_by : Bool → Option LinkHead → Tree F C K → Scope → List TokenAndSpan → Out (Tree F C K)
  links_by b None l c ts = Some (l, ts)
  links_by b (Some h) l c ts = link_tail h l c ts >>= (λ p. run hook (links b p.0) c p.1)
