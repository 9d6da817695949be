-- The clean parser's steps in left-hand sides (13.3), as the code takes them.
use Rattle.std.specs.Prelude.{◌≡◌, ℕ, Bool, true, false, not, ◌&&◌, ◌||◌, if◌then◌else◌, List, [], ◌∷◌, Option, Some, None}
use Rattle.std.proofs.Common.{refl, ap, ◌∙◌}
use Rattle.swc_context.specs.{Spans.from_to, Words.word_text, declared.span.BytePos.BytePos, declared.span.Span.Span, declared.word.Keyword.Keyword as keyword, declared.word.Word.Word as word_of}
use Rattle.swc_input.specs.{declared.token.Token.Token, declared.token.Token.Token as token, declared.token.TokenAndSpan.TokenAndSpan, Kinds.at_token, Kinds.is_hash}
use Rattle.swc_ast.specs.Trees.{to, items_of, name_e, private_e, computed_e, member_e, call_e, link_e, is_chain, new_e, meta_e, tpl_e, tagged_e}
use Rattle.swc_ast.specs.{declared.expr.MetaPropKind.MetaPropKind as kind, Tree.Tree, Tree.span_of}
use Rattle.swc_bodies.specs.Readings.{Hook}
use Rattle.swc_grammar.specs.Rule.{gives, take, check, given, symbol, must, token as token_of, one as one_of, ◌>>=◌ as ◌▸◌, ◌>>◌}
use Rattle.swc_grammar.specs.Symbols.{Expr, Lhs, Left, Base, Args, Parts, Side}
use Rattle.swc_grammar.specs.Tokens.{tk, with_in, is_dot, is_rbracket, is_new, is_super, is_import, is_target, new_target_ok}
use Rattle.swc_grammar.specs.Names.{Spelling, spelling, is_joined, may_name}
use Rattle.swc_grammar.specs.Clean.{Out, first, second, sym as at, links, constructs, constructed, Plan, plan, exec, link, linked, begins_new, run}
use Rattle.swc_grammar.specs.Words.{◌>>=◌, one, word}
use Rattle.swc_grammar.specs.{Scope.Scope, Scope.inner, Parts.any_name}
use Rattle.swc_grammar.proofs.{Complete.last, Knot.knot, Members.lhs_parts as members, Only.new-is, Rules.exec-bind}
use Rattle.swc_left.specs.Links.{link_here, chain_dot, chain_head, head_behind, head_of, link_head, link_tail, links_by, member_name, dot_tail, target_tail, computed_close, computed_tail, call_node, new_node, new_args_tail, construct_node, construct_of, construct_tail, new_tail, new_lhs, call_tail}
use Rattle.swc_left.specs.{declared.left.Link.Link, declared.left.LinkHead.LinkHead, declared.left.LinkHead.LinkHead as head, Templates.tagged_node, Templates.tagged_tail, Bases.plain_base}
use Rattle.swc_steps.specs.{Keys.expected, Args.hash_name, Args.args_inside, Lists.eaten, Readers.whole_inside}
use Rattle.swc_left.proofs.Bases.{base_splits}
use Rattle.swc_steps.proofs.{Keys.then_calls, Keys.then_token, Lists.calls, Lists.binds, Args.neither, Steps.inner_is}

abbrev new_token : Token
new_token = token.Word (word_of.Keyword keyword.New)

not_new_token : (t : Token) → (is_super t || is_import t) ≡ true → is_new t ≡ false
not_new_token (token.Word (word_of.Keyword keyword.New)) h = absurd cc
not_new_token t h = refl

pub not_new : (o : Option TokenAndSpan) → (at_token is_super o || at_token is_import o) ≡ true
    → at_token is_new o ≡ false
not_new None h = absurd cc
not_new (Some t) h = not_new_token t.token h

-- ---- the first tokens of a link

pub head_ends : (b : Bool) (x : Scope) (ts : List TokenAndSpan) → link_here b ts ≡ None
    → link_head b x ts ≡ Some (None, ts)
unfolding link_head
head_ends b x ts h = rw h refl

pub head_takes : (b : Bool) (k : Link) (x : Scope) (ts : List TokenAndSpan) → link_here b ts ≡ Some k
    → link_head b x ts ≡ (head_of k x ts >>= (λ p. Some (Some p.0, p.1)))
unfolding link_head
head_takes b k x ts h = rw h refl

pub head_opens : (k : Link) (t : TokenAndSpan) (x : Scope) (ts : List TokenAndSpan)
    → head_of k x (t ∷ ts) ≡ head_behind k t.span x ts
unfolding head_of
head_opens k t x ts = refl

pub chain_splits : (x : Scope) (ts : List TokenAndSpan)
    → chain_head x ts ≡ (expected is_dot x ts >>= (λ p. chain_dot x p.1))
unfolding chain_head
chain_splits x ts = refl

module _ {F C K : Type 0} where
  -- what names a member after a `.`
  pub member_private : (x : Scope) (ts : List TokenAndSpan) → at_token is_hash (first ts) ≡ true
      → member_name {F = F} {C = C} {K = K} x ts
      ≡ (hash_name x ts >>= (λ p. Some ((private_e p.0.0.at p.0.0.text, p.0.1), p.1)))
  unfolding member_name
  member_private x ts h = rw h refl

  pub member_word : (x : Scope) (ts : List TokenAndSpan) → at_token is_hash (first ts) ≡ false
      → member_name {F = F} {C = C} {K = K} x ts
      ≡ (word may_name x ts >>= (λ p. Some ((name_e p.0.at p.0.text, p.0.at.hi), p.1)))
  unfolding member_name
  member_word x ts h = rw h refl

  pub dot_splits : (o : Bool) (l : Tree F C K) (x : Scope) (ts : List TokenAndSpan) → dot_tail o l x ts
      ≡ (member_name x ts >>= (λ p. Some (link_e o l (member_e (from_to (span_of l).lo p.0.1) l p.0.0), p.1)))
  unfolding dot_tail
  dot_splits o l x ts = refl

  pub target_splits : (s : Span) (x : Scope) (ts : List TokenAndSpan) → target_tail {F = F} {C = C} {K = K} s x ts
      ≡ (expected is_target x ts
      >>= (λ p. if new_target_ok x.context then Some (meta_e (to s p.0) kind.NewTarget, p.1) else None))
  unfolding target_tail
  target_splits s x ts = refl

module _ {F C K : Type 0} (hook : Hook F C K) where
  -- ---- `new` (13.3.5)

  pub construct_splits : (b : Bool) (s : Span) (x : Scope) (ts : List TokenAndSpan)
      → construct_tail hook b s x ts ≡ (run hook (at (Lhs false)) x ts >>= (λ p. construct_of hook b s p.0 x p.1))
  unfolding construct_tail
  construct_splits b s x ts = refl

  pub construct_passes : (b : Bool) (s : Span) (l : Tree F C K) (x : Scope) (ts : List TokenAndSpan)
      → is_chain l ≡ false → construct_of hook b s l x ts ≡ construct_node hook b s l x ts
  construct_passes b s l x ts h = rw h refl

  pub construct_refused : (b : Bool) (s : Span) (l : Tree F C K) (x : Scope) (ts : List TokenAndSpan)
      → is_chain l ≡ true → construct_of hook b s l x ts ≡ None
  construct_refused b s l x ts h = rw h refl

  pub new_args_splits : (s : Span) (l : Tree F C K) (x : Scope) (ts : List TokenAndSpan) → new_args_tail hook s l x ts
      ≡ (args_inside hook false x ts >>= (λ p. new_node s l p.0 x p.1))
  unfolding new_args_tail
  new_args_splits s l x ts = refl

  pub new_opens : (b : Bool) (t : TokenAndSpan) (x : Scope) (ts : List TokenAndSpan)
      → new_lhs hook b x (t ∷ ts) ≡ new_tail hook b t.span x ts
  unfolding new_lhs
  new_opens b t x ts = refl

  abbrev target_side : Span → Scope → Side F C K (Base true)
  target_side s x = token_of is_target ▸ (λ q. must (new_target_ok x.context) >> gives (meta_e (to s q) kind.NewTarget))

  constructs_token : (b : Bool) (s : Span) (l : Tree F C K) (x : Scope) (v : Token) (n : Bool) (q : Span)
      (us : List TokenAndSpan)
      → run hook (constructs b s l) x (tk v n q ∷ us) ≡ construct_node hook b s l x (tk v n q ∷ us)
  unfolding eaten new_args_tail args_inside
  constructs_token b s l x token.LParen n q us =
      knot hook (constructs b s l) x (tk token.LParen n q ∷ us)
      ∙ then_calls (run hook (at (Args false)) (with_in x) us) _
      (λ es vs. run hook (links b (new_e (to s (span_of es)) l (items_of es))) x vs)
      (λ es vs. last hook None (links b (new_e (to s (span_of es)) l (items_of es))) x vs refl)
      ∙ binds (run hook (at (Args false)) (with_in x) us)
      (λ p. Some (new_e (to s (span_of p.0)) l (items_of p.0), p.1)) _
  constructs_token b s l x v n q us = knot hook (constructs b s l) x (tk v n q ∷ us)

  constructs_reads : (b : Bool) (s : Span) (l : Tree F C K) (x : Scope) (us : List TokenAndSpan)
      → run hook (constructs b s l) x us ≡ construct_node hook b s l x us
  unfolding eaten
  constructs_reads b s l x [] = knot hook (constructs b s l) x []
  constructs_reads b s l x (u ∷ us) = constructs_token b s l x u.token u.had_line_break u.span us

  constructed_reads : (g : Option ℕ) (b : Bool) (t : TokenAndSpan) (x : Scope) (us : List TokenAndSpan)
      → x.head ≡ false → exec hook (run hook) g (constructed b x) (t ∷ us) ≡ construct_tail hook b t.span x us
  unfolding construct_tail
  constructed_reads g b t x us none =
      let y = inner x in
      then_calls (run hook (at (Lhs false)) y us) _ (λ l vs. construct_of hook b t.span l y vs)
      (λ l vs. ap (λ v. if not (is_chain l) then v else None)
      (last hook None (constructs b t.span l) y vs refl ∙ constructs_reads b t.span l y vs))
      ∙ ap (λ v. construct_tail hook b t.span v us) (inner_is x none)

  -- the word after `new` and the `.`
  abbrev as_target : Span → Scope → Span → List TokenAndSpan → Out (Tree F C K)
  as_target s x q vs = if new_target_ok x.context then Some (meta_e (to s q) kind.NewTarget, vs) else None

  target_reads : (s : Span) (x : Scope) (us : List TokenAndSpan)
      → exec hook (run hook) None (plan (target_side s x)) us ≡ target_tail s x us
  unfolding target_tail
  target_reads s x [] = then_token is_target x [] (as_target s x)
  target_reads s x (t ∷ us) = then_token is_target x (t ∷ us) (as_target s x)

  -- a base, and the links after it
  base_links : (b : Bool) (x : Scope) (ts : List TokenAndSpan) → x.head ≡ false → begins_new ts ≡ false
      → run hook (at (Lhs b)) x ts ≡ (run hook (at (Base b)) x ts >>= (λ p. run hook (links b p.0) x p.1))
  base_links b x ts none h =
      knot hook (at (Lhs b)) x ts
      ∙ rw h (then_calls (run hook (at (Base b)) x ts) _ (λ e us. run hook (links b e) (inner x) us)
      (λ e us. last hook (Some 10) (links b e) (inner x) us refl))
      ∙ ap (λ v. run hook (at (Base b)) x ts >>= (λ p. run hook (links b p.0) v p.1)) (inner_is x none)

  new_second : (b : Bool) (x : Scope) (n : Bool) (s : Span) (v : Token) (m : Bool) (q : Span) (us : List TokenAndSpan)
      → x.head ≡ false
      → run hook (at (Lhs b)) x (tk new_token n s ∷ (tk v m q ∷ us)) ≡ new_tail hook b s x (tk v m q ∷ us)
  unfolding eaten
  new_second b x n s token.Dot m q us none =
      base_links b x (tk new_token n s ∷ (tk token.Dot m q ∷ us)) none refl
      ∙ ap (λ o. o >>= (λ p. run hook (links b p.0) x p.1))
      (knot hook (at (Base b)) x (tk new_token n s ∷ (tk token.Dot m q ∷ us)) ∙ target_reads s x us)
  new_second b x n s v m q us none =
      knot hook (at (Lhs b)) x (tk new_token n s ∷ (tk v m q ∷ us))
      ∙ constructed_reads (Some 10) b (tk new_token n s) x (tk v m q ∷ us) none

  new_first : (b : Bool) (x : Scope) (n : Bool) (s : Span) (us : List TokenAndSpan) → x.head ≡ false
      → run hook (at (Lhs b)) x (tk new_token n s ∷ us) ≡ new_tail hook b s x us
  unfolding eaten
  new_first b x n s [] none =
      knot hook (at (Lhs b)) x (tk new_token n s ∷ [])
      ∙ constructed_reads (Some 10) b (tk new_token n s) x [] none
  new_first b x n s (u ∷ us) none = new_second b x n s u.token u.had_line_break u.span us none

  -- a left-hand side that begins with `new`
  pub new_splits : (b : Bool) (x : Scope) (ts : List TokenAndSpan) → x.head ≡ false
      → at_token is_new (first ts) ≡ true → run hook (at (Lhs b)) x ts ≡ new_lhs hook b x ts
  unfolding new_lhs
  new_splits b x [] none h = absurd cc
  new_splits b x (t ∷ ts) none h = rw (new-is t.token h) (new_first b x t.had_line_break t.span ts none)

  -- ---- left-hand sides

  pub lhs_splits : (b : Bool) (x : Scope) (ts : List TokenAndSpan) → x.head ≡ false → at_token is_new (first ts) ≡ false
      → run hook (at (Lhs b)) x ts ≡ (plain_base hook b x ts >>= (λ p. run hook (links b p.0) x p.1))
  lhs_splits b x ts none h =
      base_links b x ts none (ap (λ v. v && not (at_token is_dot (second ts))) h)
      ∙ ap (λ o. o >>= (λ p. run hook (links b p.0) x p.1)) (base_splits hook b x ts h)

  -- one that begins with neither `super` nor `import`: a member expression, and the links after it
  pub lhs_parts : (x : Scope) (ts : List TokenAndSpan) → x.head ≡ false
      → (at_token is_super (first ts) || at_token is_import (first ts)) ≡ false
      → run hook (at (Lhs true)) x ts ≡ (run hook (at (Lhs false)) x ts >>= (λ p. run hook (links true p.0) x p.1))
  lhs_parts x ts none h =
      let (n, k) = neither (at_token is_super (first ts)) (at_token is_import (first ts)) h in
      members hook x ts n k ∙ calls (run hook (at (Lhs false)) x ts) (λ l us. run hook (links true l) (inner x) us)
      ∙ ap (λ v. run hook (at (Lhs false)) x ts >>= (λ p. run hook (links true p.0) v p.1)) (inner_is x none)

  -- a link after its first tokens, by these
  pub tail_name : (k : LinkHead) (o : Bool) (l : Tree F C K) (x : Scope) (ts : List TokenAndSpan) → k ≡ head.Name o
      → link_tail hook k l x ts ≡ dot_tail o l x ts
  unfolding link_tail
  tail_name k o l x ts h = rw h refl

  pub tail_computed : (k : LinkHead) (s : Span) (o : Bool) (l : Tree F C K) (x : Scope) (ts : List TokenAndSpan)
      → k ≡ head.Computed s o
      → link_tail hook k l x ts ≡ (whole_inside hook x ts >>= (λ p. computed_close o s l p.0 x p.1))
  unfolding link_tail computed_tail
  tail_computed k s o l x ts h = rw h refl

  pub tail_call : (k : LinkHead) (o : Bool) (l : Tree F C K) (x : Scope) (ts : List TokenAndSpan) → k ≡ head.Call o
      → link_tail hook k l x ts ≡ (args_inside hook false x ts >>= (λ p. call_node o l p.0 x p.1))
  unfolding link_tail call_tail
  tail_call k o l x ts h = rw h refl

  pub tail_template : (k : LinkHead) (s : Span) (l : Tree F C K) (x : Scope) (ts : List TokenAndSpan)
      → k ≡ head.Template s
      → link_tail hook k l x ts ≡ (run hook (at (Parts true)) (inner x) ts >>= (λ p. tagged_node s l p.0 x p.1))
  unfolding link_tail tagged_tail
  tail_template k s l x ts h = rw h refl

  -- a link, and those that follow it
  follows : (b : Bool) (x : Scope) (p : Plan F C K (Tree F C K)) (us : List TokenAndSpan) (o : Out (Tree F C K))
      → exec hook (run hook) None p us ≡ o
      → exec hook (run hook) None (p ▸ (λ e. symbol (links b e) x)) us ≡ (o >>= (λ q. run hook (links b q.0) x q.1))
  follows b x p us o h =
      exec-bind hook p (λ e. symbol (links b e) x) us
      ∙ then_calls (exec hook (run hook) None p us) _ (λ e vs. run hook (links b e) x vs)
      (λ e vs. last hook None (links b e) x vs refl)
      ∙ ap (λ v. v >>= (λ q. run hook (links b q.0) x q.1)) h

  -- the sides of links, after the tokens that begin them
  abbrev name_side : Bool → Tree F C K → Scope → Side F C K (Left true)
  name_side o l x =
      one_of (any_name x) ▸ (λ n. gives (link_e o l (member_e (to (span_of l) n.at) l (name_e n.at n.text))))

  abbrev private_side : Bool → Tree F C K → Span → Scope → Side F C K (Left true)
  private_side o l q x =
      one_of (any_name x)
      ▸ (λ n. must (is_joined q n.at)
      >> gives (link_e o l (member_e (to (span_of l) n.at) l (private_e (to q n.at) n.text))))

  abbrev computed_side : Bool → Tree F C K → Span → Scope → Side F C K (Left true)
  computed_side o l s x =
      symbol Expr (with_in x)
      ▸ (λ e. token_of is_rbracket
      ▸ (λ q. gives (link_e o l (member_e (to (span_of l) q) l (computed_e (to s q) e)))))

  abbrev call_side : Bool → Tree F C K → Scope → Side F C K (Left true)
  call_side o l x =
      symbol (Args false) (with_in x) ▸
      (λ es. gives (link_e o l (call_e (to (span_of l) (span_of es)) l (items_of es))))

  abbrev tagged_side : Tree F C K → Span → Scope → Side F C K (Left true)
  tagged_side l s x =
      symbol (Parts true) (inner x)
      ▸ (λ ps. must (not (is_chain l))
      >> gives (tagged_e (to (span_of l) (span_of ps)) l (tpl_e (to s (span_of ps)) ps)))

  -- what is made of names
  abbrev as_name : Spelling × List TokenAndSpan → Out (Tree F C K × BytePos)
  as_name p = Some ((name_e p.0.at p.0.text, p.0.at.hi), p.1)

  abbrev as_hash : Span → Spelling × List TokenAndSpan → Out (Spelling × BytePos)
  as_hash q p = Some ((spelling p.0.text (to q p.0.at), p.0.at.hi), p.1)

  abbrev as_private : (Spelling × BytePos) × List TokenAndSpan → Out (Tree F C K × BytePos)
  as_private p = Some ((private_e p.0.0.at p.0.0.text, p.0.1), p.1)

  abbrev as_member : Bool → Tree F C K → (Tree F C K × BytePos) × List TokenAndSpan → Out (Tree F C K)
  as_member o l p = Some (link_e o l (member_e (from_to (span_of l).lo p.0.1) l p.0.0), p.1)

  -- a name after the `.`
  name_one : (o : Bool) (n : Option Spelling) (l : Tree F C K) (us : List TokenAndSpan) → exec hook (run hook) None
      (plan (given n ▸ (λ n. gives (link_e o l (member_e (to (span_of l) n.at) l (name_e n.at n.text)))))) us
      ≡ ((one n us >>= as_name) >>= as_member o l)
  name_one o None l us = refl
  name_one o (Some n) l us = refl

  -- `#` and a name there, which begins where the `#` ends or not
  joined_name : (o b : Bool) (n : Spelling) (q : Span) (l : Tree F C K) (us : List TokenAndSpan)
      → (if b then Some (link_e o l (member_e (to (span_of l) n.at) l (private_e (to q n.at) n.text)), us) else None)
      ≡ (((if b then as_hash q (n, us) else None) >>= as_private) >>= as_member o l)
  joined_name o true n q l us = refl
  joined_name o false n q l us = refl

  not_joined : (o b : Bool) (l : Tree F C K) → None ≡ (((if b then None else None) >>= as_private) >>= as_member o l)
  not_joined o true l = refl
  not_joined o false l = refl

  private_token : (o : Bool) (l : Tree F C K) (q : Span) (x : Scope) (v : Token) (b : Bool) (s : Span)
      (us : List TokenAndSpan) → exec hook (run hook) None (plan (private_side o l q x)) (tk v b s ∷ us)
      ≡ (((if is_joined q s then (word may_name x (tk v b s ∷ us) >>= as_hash q) else None) >>= as_private)
      >>= as_member o l)
  unfolding word
  private_token o l q x (token.Word w) b s us = joined_name o (is_joined q s) (spelling (word_text w) s) q l us
  private_token o l q x v b s us = not_joined o (is_joined q s) l

  -- after the `.`
  dot_token : (b : Bool) (l : Tree F C K) (x : Scope) (n : Bool) (s : Span) (v : Token) (m : Bool) (q : Span)
      (us : List TokenAndSpan)
      → exec hook (run hook) (Some 1) (linked (link b x (tk token.Dot n s ∷ (tk v m q ∷ us))) l)
      (tk token.Dot n s ∷ (tk v m q ∷ us))
      ≡ (dot_tail false l x (tk v m q ∷ us) >>= (λ p. run hook (links b p.0) x p.1))
  unfolding dot_tail member_name hash_name word
  dot_token b l x n s token.Hash m q [] = refl
  dot_token b l x n s token.Hash m q (u ∷ us) =
      follows b x (plan (private_side false l q x)) (u ∷ us) _
      (private_token false l q x u.token u.had_line_break u.span us)
  dot_token b l x n s v m q us =
      follows b x (plan (name_side false l x)) (tk v m q ∷ us) _ (name_one false (any_name x v q) l us)

  dot_follows : (b : Bool) (l : Tree F C K) (x : Scope) (n : Bool) (s : Span) (us : List TokenAndSpan)
      → exec hook (run hook) (Some 1) (linked (link b x (tk token.Dot n s ∷ us)) l) (tk token.Dot n s ∷ us)
      ≡ (dot_tail false l x us >>= (λ p. run hook (links b p.0) x p.1))
  unfolding dot_tail member_name hash_name word
  dot_follows b l x n s [] = refl
  dot_follows b l x n s (u ∷ us) = dot_token b l x n s u.token u.had_line_break u.span us

  -- after the expression in brackets
  closes : (o : Bool) (s : Span) (l e : Tree F C K) (x : Scope) (us : List TokenAndSpan) → exec hook (run hook) None
      (take (λ t. check (is_rbracket t.token)
      (gives (link_e o l (member_e (to (span_of l) t.span) l (computed_e (to s t.span) e)))))) us
      ≡ computed_close o s l e x us
  closes o s l e x [] =
      then_token is_rbracket x []
      (λ q vs. Some (link_e o l (member_e (to (span_of l) q) l (computed_e (to s q) e)), vs))
  closes o s l e x (t ∷ us) =
      then_token is_rbracket x (t ∷ us)
      (λ q vs. Some (link_e o l (member_e (to (span_of l) q) l (computed_e (to s q) e)), vs))

  computed_reads : (o : Bool) (s : Span) (l : Tree F C K) (x : Scope) (us : List TokenAndSpan)
      → exec hook (run hook) None (plan (computed_side o l s x)) us ≡ computed_tail hook o s l x us
  unfolding computed_tail whole_inside
  computed_reads o s l x us =
      then_calls (run hook (at Expr) (with_in x) us) _ (λ e vs. computed_close o s l e x vs)
      (λ e vs. closes o s l e x vs)

  call_reads : (o : Bool) (l : Tree F C K) (x : Scope) (us : List TokenAndSpan)
      → exec hook (run hook) None (plan (call_side o l x)) us ≡ call_tail hook o l x us
  unfolding call_tail args_inside
  call_reads o l x us = calls (run hook (at (Args false)) (with_in x) us) _

  tagged_reads : (l : Tree F C K) (s : Span) (x : Scope) (us : List TokenAndSpan)
      → exec hook (run hook) None (plan (tagged_side l s x)) us ≡ tagged_tail hook s l x us
  unfolding tagged_tail
  tagged_reads l s x us = calls (run hook (at (Parts true)) (inner x) us) _

  -- after `?` and `.`
  chain_token : (b : Bool) (l : Tree F C K) (x : Scope) (n : Bool) (s : Span) (m : Bool) (q : Span)
      (v : Token) (k : Bool) (r : Span) (us : List TokenAndSpan) → exec hook (run hook) (Some 1)
      (linked (link b x (tk token.QuestionMark n s ∷ (tk token.Dot m q ∷ (tk v k r ∷ us)))) l)
      (tk token.QuestionMark n s ∷ (tk token.Dot m q ∷ (tk v k r ∷ us)))
      ≡ (chain_dot x (tk v k r ∷ us) >>= (λ p. links_by hook b (Some p.0) l x p.1))
  unfolding eaten link_tail dot_tail member_name hash_name word
  chain_token b l x n s m q token.LBracket k r us =
      follows b x (plan (computed_side true l r x)) us (computed_tail hook true r l x us) (computed_reads true r l x us)
  chain_token b l x n s m q token.LParen k r us =
      follows b x (plan (call_side true l x)) us (call_tail hook true l x us) (call_reads true l x us)
  chain_token b l x n s m q token.Hash k r [] = refl
  chain_token b l x n s m q token.Hash k r (u ∷ us) =
      follows b x (plan (private_side true l r x)) (u ∷ us) _
      (private_token true l r x u.token u.had_line_break u.span us)
  chain_token b l x n s m q v k r us =
      follows b x (plan (name_side true l x)) (tk v k r ∷ us) _ (name_one true (any_name x v r) l us)

  chain_follows : (b : Bool) (l : Tree F C K) (x : Scope) (n : Bool) (s : Span) (m : Bool) (q : Span)
      (us : List TokenAndSpan)
      → exec hook (run hook) (Some 1) (linked (link b x (tk token.QuestionMark n s ∷ (tk token.Dot m q ∷ us))) l)
      (tk token.QuestionMark n s ∷ (tk token.Dot m q ∷ us))
      ≡ (chain_head x (tk token.Dot m q ∷ us) >>= (λ p. links_by hook b (Some p.0) l x p.1))
  unfolding chain_head expected eaten link_tail dot_tail member_name hash_name word
  chain_follows b l x n s m q [] = refl
  chain_follows b l x n s m q (u ∷ us) = chain_token b l x n s m q u.token u.had_line_break u.span us

  -- `?`, which begins a link before a `.` alone
  question_second : (b : Bool) (l : Tree F C K) (x : Scope) (n : Bool) (s : Span) (v : Token) (m : Bool) (q : Span)
      (us : List TokenAndSpan) → run hook (links b l) x (tk token.QuestionMark n s ∷ (tk v m q ∷ us))
      ≡ (link_head b x (tk token.QuestionMark n s ∷ (tk v m q ∷ us)) >>= (λ p. links_by hook b p.0 l x p.1))
  unfolding link_head head_of
  question_second b l x n s token.Dot m q us =
      knot hook (links b l) x (tk token.QuestionMark n s ∷ (tk token.Dot m q ∷ us))
      ∙ chain_follows b l x n s m q us
      ∙ binds (chain_head x (tk token.Dot m q ∷ us)) (λ p. Some (Some p.0, p.1)) _
  question_second true l x n s v m q us = knot hook (links true l) x (tk token.QuestionMark n s ∷ (tk v m q ∷ us))
  question_second false l x n s v m q us = knot hook (links false l) x (tk token.QuestionMark n s ∷ (tk v m q ∷ us))

  question_follows : (b : Bool) (l : Tree F C K) (x : Scope) (n : Bool) (s : Span) (us : List TokenAndSpan)
      → run hook (links b l) x (tk token.QuestionMark n s ∷ us)
      ≡ (link_head b x (tk token.QuestionMark n s ∷ us) >>= (λ p. links_by hook b p.0 l x p.1))
  unfolding link_head head_of
  question_follows true l x n s [] = knot hook (links true l) x (tk token.QuestionMark n s ∷ [])
  question_follows false l x n s [] = knot hook (links false l) x (tk token.QuestionMark n s ∷ [])
  question_follows b l x n s (u ∷ us) = question_second b l x n s u.token u.had_line_break u.span us

  links_token : (b : Bool) (l : Tree F C K) (x : Scope) (v : Token) (n : Bool) (s : Span) (us : List TokenAndSpan)
      → run hook (links b l) x (tk v n s ∷ us)
      ≡ (link_head b x (tk v n s ∷ us) >>= (λ p. links_by hook b p.0 l x p.1))
  unfolding link_head head_of link_tail
  links_token b l x token.Dot n s us = knot hook (links b l) x (tk token.Dot n s ∷ us) ∙ dot_follows b l x n s us
  links_token b l x token.LBracket n s us =
      knot hook (links b l) x (tk token.LBracket n s ∷ us)
      ∙ follows b x (plan (computed_side false l s x)) us (computed_tail hook false s l x us)
      (computed_reads false s l x us)
  links_token b l x token.BackQuote n s us =
      knot hook (links b l) x (tk token.BackQuote n s ∷ us)
      ∙ follows b x (plan (tagged_side l s x)) us (tagged_tail hook s l x us) (tagged_reads l s x us)
  links_token b l x token.QuestionMark n s us = question_follows b l x n s us
  links_token true l x token.LParen n s us =
      knot hook (links true l) x (tk token.LParen n s ∷ us)
      ∙ follows true x (plan (call_side false l x)) us (call_tail hook false l x us) (call_reads false l x us)
  links_token false l x token.LParen n s us = knot hook (links false l) x (tk token.LParen n s ∷ us)
  links_token true l x v n s us = knot hook (links true l) x (tk v n s ∷ us)
  links_token false l x v n s us = knot hook (links false l) x (tk v n s ∷ us)

  -- the first tokens of a link, and that link and those that follow it, or none
  pub links_splits : (b : Bool) (l : Tree F C K) (x : Scope) (ts : List TokenAndSpan)
      → run hook (links b l) x ts ≡ (link_head b x ts >>= (λ p. links_by hook b p.0 l x p.1))
  unfolding link_head
  links_splits true l x [] = knot hook (links true l) x []
  links_splits false l x [] = knot hook (links false l) x []
  links_splits b l x (t ∷ ts) = links_token b l x t.token t.had_line_break t.span ts
