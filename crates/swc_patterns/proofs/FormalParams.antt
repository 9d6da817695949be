-- The clean parser's steps in formal parameters (15.1), as the code takes them.
use Rattle.std.specs.Prelude.{◌≡◌, Bool, true, false, not, if◌then◌else◌, List, [], ◌∷◌, Option, Some, None, IsSome}
use Rattle.std.proofs.Common.{refl, sym, ap, ◌∙◌}
use Rattle.swc_context.specs.{declared.span.Span.Span, declared.operator.AssignOp.AssignOp as assign}
use Rattle.swc_input.specs.{declared.token.Token.Token, declared.token.Token.Token as token, declared.token.TokenAndSpan.TokenAndSpan, Kinds.at_token}
use Rattle.swc_ast.specs.Tree.{Tree, Trees, nil, cons}
use Rattle.swc_ast.specs.Trees.{listed, put_first, trees_append}
use Rattle.swc_bodies.specs.Readings.{Hook}
use Rattle.swc_grammar.specs.Rule.{gives, token as token_of, ◌>>=◌ as ◌▸◌}
use Rattle.swc_grammar.specs.Symbols.{Pat, Element, Rest, Params, ParamsTail}
use Rattle.swc_grammar.specs.Tokens.{tk, is_rparen, is_dots, is_equals}
use Rattle.swc_grammar.specs.Clean.{Out, and_then, first, sym as at, defaults, exec, plan, run}
use Rattle.swc_grammar.specs.{Scope.Scope, Words.◌>>=◌}
use Rattle.swc_grammar.proofs.{Knot.knot, Only.rparen-is}
use Rattle.swc_nodes.proofs.Lists.{trees_append-nil}
use Rattle.swc_steps.specs.Lists.{eaten, eaten_by, closed, separated, put_before}
use Rattle.swc_steps.specs.{Keys.expected, Keys.expected_by, Parsing.seen_of}
use Rattle.swc_steps.proofs.Keys.{then_calls}
use Rattle.swc_steps.proofs.Lists.{calls, binds, bind_same, twice}
use Rattle.swc_steps.specs.Params.{params_close}
use Rattle.swc_patterns.specs.Params.{next_param, param_head, rest_by, rest_end, params_by, params_left, behind_param, params_with}
use Rattle.swc_patterns.specs.Rests.{Stage, going, closing, never, is_never, behind_rest, stage_of, has_comma, has_rest, separated_item, rest_node}
use Rattle.swc_patterns.specs.{declared.params.NextParam.NextParam, declared.params.NextParam.NextParam as next, declared.rest.SeenRest.SeenRest, declared.rest.SeenRest.SeenRest as seen}
use Rattle.swc_patterns.proofs.{Closing.closing_by, Closing.rest_closes, Objects.answer, Objects.again}

-- ---- what is before a parameter

-- at the end
pub next_param_none : (s : Stage) (x : Scope) (ts : List TokenAndSpan) → first ts ≡ None
    → next_param s x ts ≡ Some (next.End, ts)
unfolding next_param
next_param_none going x [] h = refl
next_param_none closing x [] h = refl
next_param_none never x [] h = refl
next_param_none s x (t ∷ ts) h = cc

-- at the parenthesis, after a rest or not
abbrev pub closed_params : Stage → Scope → List TokenAndSpan → Out NextParam
closed_params s x ts = if is_never s then None else Some (next.End, ts)

pub next_param_closed : (s : Stage) (x : Scope) (ts : List TokenAndSpan) → at_token is_rparen (first ts) ≡ true
    → next_param s x ts ≡ closed_params s x ts
unfolding next_param
next_param_closed s x [] h = absurd cc
next_param_closed going x (t ∷ ts) h = rw h refl
next_param_closed closing x (t ∷ ts) h = rw h refl
next_param_closed never x (t ∷ ts) h = rw h refl

pub closed_well : (r : SeenRest) (x : Scope) (ts : List TokenAndSpan) → not (has_comma r) ≡ true
    → closed_params (stage_of r) x ts ≡ Some (next.End, ts)
closed_well seen.No x ts h = refl
closed_well (seen.Last rest None) x ts h = refl
closed_well (seen.Last rest (Some comma)) x ts h = absurd cc
closed_well (seen.Earlier rest) x ts h = refl

pub closed_ill : (r : SeenRest) (x : Scope) (ts : List TokenAndSpan) → not (has_comma r) ≡ false
    → closed_params (stage_of r) x ts ≡ None
closed_ill seen.No x ts h = absurd cc
closed_ill (seen.Last rest None) x ts h = absurd cc
closed_ill (seen.Last rest (Some comma)) x ts h = refl
closed_ill (seen.Earlier rest) x ts h = absurd cc

-- at another token
pub next_param_goes : (s : Stage) (x : Scope) (ts : List TokenAndSpan) (o : Option TokenAndSpan) → IsSome o
    → first ts ≡ seen_of o → at_token is_rparen (first ts) ≡ false → next_param s x ts ≡ param_head s x ts
unfolding next_param
next_param_goes s x [] None some e h = cc
next_param_goes s x [] (Some t) some e h = cc
next_param_goes s x (t ∷ ts) o some e h = rw h refl

pub head_well : (r : SeenRest) (x : Scope) (ts : List TokenAndSpan) → not (has_rest r) ≡ true
    → param_head (stage_of r) x ts ≡ (eaten is_dots x ts >>= (λ p. Some (next.Item p.0, p.1)))
head_well seen.No x ts h = refl
head_well r x ts h = absurd cc

pub head_ill : (r : SeenRest) (x : Scope) (ts : List TokenAndSpan) → not (has_rest r) ≡ false
    → param_head (stage_of r) x ts ≡ None
head_ill seen.No x ts h = absurd cc
head_ill (seen.Last rest None) x ts h = refl
head_ill (seen.Last rest (Some comma)) x ts h = refl
head_ill (seen.Earlier rest) x ts h = refl

module _ {F C K : Type 0} where
  pub rest_end_splits : (s : Span) (t : Tree F C K) (x : Scope) (ts : List TokenAndSpan)
      → rest_end s t x ts ≡ (eaten is_equals x ts >>= (λ p. rest_by s t p.0 p.1))
  unfolding rest_end
  rest_end_splits s t x ts = refl

module _ {F C K : Type 0} (hook : Hook F C K) where
  abbrev with_items : Trees F C K → Tree F C K × List TokenAndSpan → Out (Tree F C K)
  with_items before p = Some (put_before before p.0, p.1)

  pub behind_param_splits : (is_rest : Bool) (s : Stage) (before : Trees F C K) (x : Scope) (ts : List TokenAndSpan)
      → behind_param hook is_rest s before x ts
      ≡ (separated_item is_rparen is_rest s x ts >>= (λ p. params_left hook p.0 before x p.1))
  unfolding behind_param
  behind_param_splits is_rest s before x ts = refl

  close_here : (x : Scope) (t : TokenAndSpan) (ts : List TokenAndSpan) → is_rparen t.token ≡ true
      → run hook (at Params) x (t ∷ ts) ≡ Some (listed None t.span nil, ts)
  close_here x t ts h = knot hook (at Params) x (t ∷ ts) ∙ rw (rparen-is t.token h) refl

  tail_token : (x : Scope) (v : Token) (b : Bool) (s : Span) (us : List TokenAndSpan)
      → run hook (at ParamsTail) x (tk v b s ∷ us)
      ≡ (separated is_rparen x (tk v b s ∷ us) >>= (λ q. run hook (at Params) x q.1))
  unfolding separated closed eaten
  tail_token x token.Comma b s us =
      knot hook (at ParamsTail) x (tk token.Comma b s ∷ us) ∙ again (run hook (at Params) x us)
  tail_token x token.RParen b s us =
      knot hook (at ParamsTail) x (tk token.RParen b s ∷ us) ∙ sym (close_here x (tk token.RParen b s) us refl)
  tail_token x v b s us = knot hook (at ParamsTail) x (tk v b s ∷ us)

  tail_is : (x : Scope) (us : List TokenAndSpan)
      → run hook (at ParamsTail) x us ≡ (separated is_rparen x us >>= (λ q. run hook (at Params) x q.1))
  unfolding separated closed eaten
  tail_is x [] = knot hook (at ParamsTail) x []
  tail_is x (t ∷ us) = tail_token x t.token t.had_line_break t.span us

  -- after a parameter: those that are left
  abbrev left_from : Bool → Trees F C K → Scope → Tree F C K × List TokenAndSpan → Out (Tree F C K)
  left_from is_rest before x p = behind_param hook is_rest going (trees_append before (cons p.0 nil)) x p.1

  param_left : (before : Trees F C K) (x : Scope) (p : Tree F C K × List TokenAndSpan)
      → (run hook (at ParamsTail) x p.1 >>= (λ q. with_items before (put_first p.0 q.0, q.1)))
      ≡ left_from false before x p
  unfolding behind_param separated_item params_left
  param_left before x p =
      ap (λ o. o >>= (λ q. with_items before (put_first p.0 q.0, q.1))) (tail_is x p.1)
      ∙ sym (binds (separated is_rparen x p.1) _ _)
      ∙ bind_same (separated is_rparen x p.1) _ _ (λ q.
      bind_same (run hook (at Params) x q.1) _ _ (λ r. ap (λ v. Some (v, r.1)) (twice before None p.0 r.0)))
      ∙ binds (separated is_rparen x p.1) _ _

  more_step : (before : Trees F C K) (x : Scope) (ts : List TokenAndSpan)
      → (and_then (run hook (at Element) x ts) (λ e us. and_then (run hook (at ParamsTail) x us)
      (λ es vs. Some (put_first e es, vs))) >>= with_items before)
      ≡ (run hook (at Element) x ts >>= left_from false before x)
  more_step before x ts =
      ap (λ o. o >>= with_items before) (then_calls (run hook (at Element) x ts) _
      (λ e us. run hook (at ParamsTail) x us >>= (λ q. Some (put_first e q.0, q.1)))
      (λ e us. calls (run hook (at ParamsTail) x us) _))
      ∙ sym (binds (run hook (at Element) x ts) _ _)
      ∙ bind_same (run hook (at Element) x ts) _ _ (λ p.
      sym (binds (run hook (at ParamsTail) x p.1) _ _) ∙ param_left before x p)

  -- a rest, which has to be the last, with no initialiser
  abbrev rest_last : Tree F C K → Scope → List TokenAndSpan → Out (Tree F C K)
  rest_last t x us = expected is_rparen x us >>= (λ q. Some (listed None q.0 (cons t nil), q.1))

  paren_run : (t : Tree F C K) (x : Scope) (us : List TokenAndSpan)
      → exec hook (run hook) (Some 4) (plan (token_of is_rparen ▸ (λ s. gives (listed None s (cons t nil))))) us
      ≡ rest_last t x us
  unfolding expected eaten
  paren_run t x [] = refl
  paren_run t x (u ∷ us) = by_paren (is_rparen u.token)
    where
      by_paren : (b : Bool) → (if b then answer (listed None u.span (cons t nil)) us else None)
          ≡ (eaten_by b (u ∷ us) >>= (λ p. expected_by p.0 p.1) >>= (λ q. Some (listed None q.0 (cons t nil), q.1)))
      by_paren true = refl
      by_paren false = refl

  pub rest_read : (x : Scope) (b : Bool) (s : Span) (us : List TokenAndSpan)
      → run hook (at Rest) x (tk token.DotDotDot b s ∷ us)
      ≡ (run hook (at Pat) x us >>= (λ p. Some (rest_node s p.0, p.1)))
  rest_read x b s us = knot hook (at Rest) x (tk token.DotDotDot b s ∷ us) ∙ calls (run hook (at Pat) x us) _

  params_rest : (x : Scope) (b : Bool) (s : Span) (us : List TokenAndSpan)
      → run hook (at Params) x (tk token.DotDotDot b s ∷ us)
      ≡ (run hook (at Pat) x us >>= (λ p. rest_last (rest_node s p.0) x p.1))
  params_rest x b s us =
      knot hook (at Params) x (tk token.DotDotDot b s ∷ us)
      ∙ then_calls (run hook (at Rest) x (tk token.DotDotDot b s ∷ us)) _ (λ t vs. rest_last t x vs)
      (λ t vs. paren_run t x vs)
      ∙ ap (λ o. o >>= (λ p. rest_last p.0 x p.1)) (rest_read x b s us)
      ∙ sym (binds (run hook (at Pat) x us) _ _)

  by_comma : (before : Trees F C K) (t : Tree F C K) (o : Option Span) (x : Scope) (vs : List TokenAndSpan)
      → closing_by is_rparen (λ q. Some (listed None q.0 (trees_append before (cons t nil)), q.1)) x o vs
      ≡ params_by hook (behind_rest o) (trees_append before (cons t nil)) x vs
  unfolding params_close
  by_comma before t None x vs = refl
  by_comma before t (Some c) x vs = refl

  last_step : (before : Trees F C K) (t : Tree F C K) (x : Scope) (us : List TokenAndSpan)
      → (rest_last t x us >>= with_items before) ≡ left_from true before x (t, us)
  unfolding behind_param separated_item params_left params_close
  last_step before t x us =
      sym (binds (expected is_rparen x us) _ _)
      ∙ sym (rest_closes is_rparen (λ q. Some (listed None q.0 (trees_append before (cons t nil)), q.1)) refl x us)
      ∙ bind_same (separated is_rparen x us) _ _ (λ q. by_comma before t q.0 x q.1)
      ∙ binds (separated is_rparen x us) _ _

  ended_token : (s : Span) (t : Tree F C K) (before : Trees F C K) (x : Scope) (v : Token) (b : Bool) (e : Span)
      (us : List TokenAndSpan) → (rest_last (rest_node s t) x (tk v b e ∷ us) >>= with_items before)
      ≡ (rest_end s t x (tk v b e ∷ us) >>= left_from true before x)
  unfolding rest_end expected eaten
  ended_token s t before x (token.AssignOp assign.Assign) b e us = refl
  ended_token s t before x v b e us = last_step before (rest_node s t) x (tk v b e ∷ us)

  ended : (s : Span) (t : Tree F C K) (before : Trees F C K) (x : Scope) (us : List TokenAndSpan)
      → (rest_last (rest_node s t) x us >>= with_items before) ≡ (rest_end s t x us >>= left_from true before x)
  unfolding rest_end eaten
  ended s t before x [] = last_step before (rest_node s t) x []
  ended s t before x (u ∷ us) = ended_token s t before x u.token u.had_line_break u.span us

  rest_step : (before : Trees F C K) (s : Span) (x : Scope) (us : List TokenAndSpan)
      → (run hook (at Pat) x us >>= (λ p. rest_last (rest_node s p.0) x p.1) >>= with_items before)
      ≡ (run hook (at Pat) x us >>= (λ p. rest_end s p.0 x p.1) >>= left_from true before x)
  rest_step before s x us =
      sym (binds (run hook (at Pat) x us) _ _)
      ∙ bind_same (run hook (at Pat) x us) _ _ (λ p. ended s p.0 before x p.1)
      ∙ binds (run hook (at Pat) x us) _ _

  -- where any parameter may come
  open_token : (before : Trees F C K) (x : Scope) (v : Token) (b : Bool) (s : Span) (us : List TokenAndSpan)
      → (run hook (at Params) x (tk v b s ∷ us) >>= with_items before)
      ≡ (next_param going x (tk v b s ∷ us) >>= (λ p. params_with hook p.0 going before x p.1))
  unfolding next_param params_close expected eaten
  open_token before x token.RParen b s us =
      ap (λ o. o >>= with_items before) (close_here x (tk token.RParen b s) us refl)
      ∙ ap (λ v. Some (listed None s v, us)) (trees_append-nil before)
  open_token before x token.DotDotDot b s us =
      ap (λ o. o >>= with_items before) (params_rest x b s us) ∙ rest_step before s x us
  open_token before x v b s us =
      ap (λ o. o >>= with_items before) (knot hook (at Params) x (tk v b s ∷ us)) ∙ more_step before x (tk v b s ∷ us)

  -- nothing is read at the end
  element_none : (x : Scope) → run hook (at Element) x [] ≡ None
  element_none x =
      knot hook (at Element) x []
      ∙ ap (λ o. and_then o (λ p us. and_then (run hook (defaults p) x us) (λ e vs. Some (e, vs))))
      (knot hook (at Pat) x [])

  open_turn : (before : Trees F C K) (x : Scope) (ts : List TokenAndSpan)
      → (run hook (at Params) x ts >>= with_items before)
      ≡ (next_param going x ts >>= (λ p. params_with hook p.0 going before x p.1))
  unfolding next_param params_close expected eaten
  open_turn before x [] =
      ap (λ o. o >>= with_items before) (knot hook (at Params) x []
      ∙ ap (λ o. and_then o (λ e us. and_then (run hook (at ParamsTail) x us) (λ es vs. Some (put_first e es, vs))))
      (element_none x))
  open_turn before x (t ∷ ts) = open_token before x t.token t.had_line_break t.span ts

  closed_token : (before : Trees F C K) (b : Bool) (x : Scope) (t : TokenAndSpan) (ts : List TokenAndSpan)
      → is_rparen t.token ≡ b → params_close before x (t ∷ ts)
      ≡ ((if b then answer next.End (t ∷ ts) else None) >>= (λ p. params_with hook p.0 closing before x p.1))
  unfolding params_close expected eaten
  closed_token before true x t ts h = refl
  closed_token before false x t ts h = rw h refl

  closed_turn : (before : Trees F C K) (x : Scope) (ts : List TokenAndSpan) → params_close before x ts
      ≡ (next_param closing x ts >>= (λ p. params_with hook p.0 closing before x p.1))
  unfolding next_param
  closed_turn before x [] = refl
  closed_turn before x (t ∷ ts) = closed_token before (is_rparen t.token) x t ts refl

  never_turn : (before : Trees F C K) (x : Scope) (ts : List TokenAndSpan)
      → None ≡ (next_param never x ts >>= (λ p. params_with hook p.0 never before x p.1))
  unfolding next_param params_close expected eaten
  never_turn before x [] = refl
  never_turn before x (t ∷ ts) = by_paren (is_rparen t.token)
    where
      by_paren : (b : Bool)
          → None ≡ (if◌then◌else◌ {A = Out NextParam} b None None >>= (λ p. params_with hook p.0 never before x p.1))
      by_paren true = refl
      by_paren false = refl

  -- after some parameters the list ends, or goes on
  pub params_turn : (s : Stage) (before : Trees F C K) (x : Scope) (ts : List TokenAndSpan)
      → params_left hook s before x ts
      ≡ (next_param s x ts >>= (λ p. params_with hook p.0 s before x p.1))
  unfolding params_left
  params_turn going before x ts = open_turn before x ts
  params_turn closing before x ts = closed_turn before x ts
  params_turn never before x ts = never_turn before x ts

  -- before the first parameter
  first_more : (x : Scope) (ts : List TokenAndSpan)
      → and_then (run hook (at Element) x ts) (λ e us. and_then (run hook (at ParamsTail) x us)
      (λ es vs. Some (put_first e es, vs)))
      ≡ (and_then (run hook (at Element) x ts) (λ e us. and_then (run hook (at ParamsTail) x us)
      (λ es vs. Some (put_first e es, vs))) >>= with_items nil)
  first_more x ts =
      let same = then_calls (run hook (at Element) x ts) (λ e us. and_then (run hook (at ParamsTail) x us)
      (λ es vs. Some (put_first e es, vs)))
      (λ e us. run hook (at ParamsTail) x us >>= (λ q. Some (put_first e q.0, q.1)))
      (λ e us. calls (run hook (at ParamsTail) x us) _) in
      same
      ∙ bind_same (run hook (at Element) x ts) _ _ (λ p. binds (run hook (at ParamsTail) x p.1) _ (with_items nil))
      ∙ binds (run hook (at Element) x ts) _ _
      ∙ ap (λ o. o >>= with_items nil) (sym same)

  first_token : (x : Scope) (v : Token) (b : Bool) (s : Span) (us : List TokenAndSpan)
      → run hook (at Params) x (tk v b s ∷ us) ≡ (run hook (at Params) x (tk v b s ∷ us) >>= with_items nil)
  first_token x token.RParen b s us =
      let is = close_here x (tk token.RParen b s) us refl in is ∙ ap (λ o. o >>= with_items nil) (sym is)
  first_token x token.DotDotDot b s us =
      let is = params_rest x b s us in
      is
      ∙ bind_same (run hook (at Pat) x us) _ _ (λ p. binds (expected is_rparen x p.1) _ (with_items nil))
      ∙ binds (run hook (at Pat) x us) _ _
      ∙ ap (λ o. o >>= with_items nil) (sym is)
  first_token x v b s us =
      let is = knot hook (at Params) x (tk v b s ∷ us) in
      is ∙ first_more x (tk v b s ∷ us) ∙ ap (λ o. o >>= with_items nil) (sym is)

  pub params_first : (x : Scope) (ts : List TokenAndSpan) → run hook (at Params) x ts ≡ params_left hook going nil x ts
  unfolding params_left
  params_first x [] =
      let is = knot hook (at Params) x [] in is ∙ first_more x [] ∙ ap (λ o. o >>= with_items nil) (sym is)
  params_first x (t ∷ ts) = first_token x t.token t.had_line_break t.span ts
