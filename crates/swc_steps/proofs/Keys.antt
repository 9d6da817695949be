-- The clean parser's steps in keys and in the functions of methods, as the code takes them.
use Rattle.std.specs.Prelude.{◌≡◌, Bool, true, false, ◌&&◌, ◌||◌, if◌then◌else◌, List, [], ◌∷◌, ◌++◌, Some, None, Result, Ok, Err, IfOk}
use Rattle.std.proofs.Common.{refl, sym, ap, ◌∙◌, arith}
use Rattle.swc_context.specs.{Contexts.method_block, declared.error.Error.Error, declared.span.Span.Span}
use Rattle.swc_input.specs.{declared.buffer.Buffer.Buffer, declared.token.Token.Token, declared.token.Token.Token as token, declared.token.TokenAndSpan.TokenAndSpan, Kinds.at_token, Source.Model}
use Rattle.swc_ast.specs.{Parts.prop_name_tree, Tree.Tree, declared.prop.PropName.PropName as prop_name, declared.prop.PropName.PropName, declared.spanned.Spanned.Ghosts, Trees.to, Trees.computed_e}
use Rattle.swc_bodies.specs.Readings.{Hook, LawfulHook, begins, begins_function, is_function_here, is_function, is_async, is_brace, is_class}
use Rattle.swc_grammar.specs.Rule.{gives, take, check}
use Rattle.swc_grammar.specs.Tokens.{tk, with_in, is_word, is_lbracket, is_rbracket}
use Rattle.swc_grammar.specs.Clean.{Out, and_then, first, no_error, sym as at, exec, run}
use Rattle.swc_grammar.specs.{Scope.Scope, Symbols.Assign, Symbols.Key, Names.may_name, Words.◌>>=◌, Words.word}
use Rattle.swc_grammar.proofs.Knot.{knot}
use Rattle.swc_steps.specs.Keys.{expected_by, expected, is_key_lit, plain_key, key_close, computed_key, key_by, named_key, literal_key, plain_key_tree, key_plain, method_body}
use Rattle.swc_steps.specs.Parsing.{Parses, Produces, tree_of, key_of, key_at}
use Rattle.swc_steps.specs.{Lists.eaten_by, Lists.eaten, declared.productions.Productions.Productions, Readers.inside}
use Rattle.swc_steps.proofs.Making as m
use Rattle.swc_steps.proofs.Steps as s
use Rattle.swc_nodes.specs.{NodeParts.key_parts, NumberedTrees.chain, GrowingNodes.count, GrowingNodes.seat_at, declared.node.ExprId.ExprId}
use Rattle.swc_nodes.proofs.{Lists.apart-none, Standing.grows-same}

-- what a call read, and what is run after it
pub then_calls : {A B : Type 0} (o : Out A) (k f : A → List TokenAndSpan → Out B)
    → ((e : A) (us : List TokenAndSpan) → k e us ≡ f e us) → and_then o k ≡ (o >>= (λ p. f p.0 p.1))
then_calls None k f h = refl
then_calls (Some p) k f h = h p.0 p.1

-- a token that passes a test is taken, and k goes on
abbrev pub token_then : {A : Type 0} → (Token → Bool) → List TokenAndSpan → (Span → List TokenAndSpan → Out A) → Out A
token_then f [] k = None
token_then f (t ∷ ts) k = if f t.token then k t.span ts else None

by_test : {A : Type 0} (b : Bool) (t : TokenAndSpan) (ts : List TokenAndSpan) (k : Span → List TokenAndSpan → Out A)
    → (if b then k t.span ts else None)
    ≡ (eaten_by b (t ∷ ts) >>= (λ p. expected_by p.0 p.1) >>= (λ p. k p.0 p.1))
by_test true t ts k = refl
by_test false t ts k = refl

pub then_token : {A : Type 0} (f : Token → Bool) (x : Scope) (ts : List TokenAndSpan)
    (k : Span → List TokenAndSpan → Out A) → token_then f ts k ≡ (expected f x ts >>= (λ p. k p.0 p.1))
unfolding expected eaten
then_token f x [] k = refl
then_token f x (t ∷ ts) k = by_test (f t.token) t ts k

pub expected_splits : (f : Token → Bool) (x : Scope) (ts : List TokenAndSpan)
    → expected f x ts ≡ (eaten f x ts >>= (λ p. expected_by p.0 p.1))
unfolding expected
expected_splits f x ts = refl

-- ---- keys (13.2.5)

lit_no_word : (t : Token) (s : Span) (k : PropName ExprId) → literal_key t s ≡ Some k → is_word t ≡ false
lit_no_word (token.Word w) s k h = absurd cc
lit_no_word t s k h = refl

lit_no : (t : Token) (s : Span) → is_key_lit t ≡ false → literal_key t s ≡ None
lit_no (token.Str value raw) s h = absurd cc
lit_no (token.Num raw) s h = absurd cc
lit_no (token.BigInt raw) s h = absurd cc
lit_no t s h = refl

error_word : (t : Token) → no_error t ≡ false → is_word t ≡ false
error_word (token.Error e) h = refl
error_word t h = absurd cc

error_lit : (t : Token) → no_error t ≡ false → is_key_lit t ≡ false
error_lit (token.Error e) h = refl
error_lit t h = absurd cc

pub name_key_here : (x : Scope) (ts : List TokenAndSpan) → at_token is_word (first ts) ≡ true
    → plain_key x ts ≡ (word may_name x ts >>= (λ p. Some (named_key p.0, p.1)))
unfolding plain_key
name_key_here x ts h = rw h refl

pub lit_key_takes : (k : PropName ExprId) (x : Scope) (t : TokenAndSpan) (ts : List TokenAndSpan)
    → literal_key t.token t.span ≡ Some k → plain_key x (t ∷ ts) ≡ Some (k, ts)
unfolding plain_key
lit_key_takes k x t ts h = rw (lit_no_word t.token t.span k h, h) refl

pub plain_key_not : (x : Scope) (ts : List TokenAndSpan) → at_token is_word (first ts) ≡ false
    → at_token is_key_lit (first ts) ≡ false → plain_key x ts ≡ None
unfolding plain_key
plain_key_not x [] h k = refl
plain_key_not x (t ∷ ts) h k = rw (h, lit_no t.token t.span k) refl

pub plain_key_unfit : (x : Scope) (ts : List TokenAndSpan) → at_token no_error (first ts) ≡ false
    → plain_key x ts ≡ None
plain_key_unfit x [] h = plain_key_not x [] refl refl
plain_key_unfit x (t ∷ ts) h = plain_key_not x (t ∷ ts) (error_word t.token h) (error_lit t.token h)

-- the tree of a key that has no part, whatever its numbers stand for
plain_tree_is : {F C K : Type 0} (tree : ExprId → Tree F C K) (k : PropName ExprId) → key_parts k ≡ []
    → plain_key_tree k ≡ prop_name_tree tree k
plain_tree_is tree (prop_name.Computed c) h = absurd cc
plain_tree_is tree k h = refl

module _ {S H F C K : Type 0} {fg : Ghosts F} {cg : Ghosts C} {kg : Ghosts K} {model : Model S} {sure : Bool} where
  -- such a key was read: no node is made of it
  pub plain_key_produces : {p : Productions S H F C K fg cg kg} {c : Buffer S} (r : Result (PropName ExprId) Error)
      → Parses model sure (λ k. k) plain_key p.input r c → IfOk r (λ k. key_parts k ≡ [])
      → Produces model sure key_of key_at key_plain (count p.nodes) p r (record p { input = c })
  plain_key_produces {p = p} (Ok k) h none =
      m.yes (Ok k)
      (s.heard_answer (plain_tree_is (tree_of p.nodes) k none) (s.heard_as plain_key_tree (λ x ts. refl) h))
      (grows-same _)
      (record {
        chained = ap (λ v. chain (seat_at p.nodes) (count p.nodes) v (count p.nodes)) none
            ∙ (apart-none {ns = p.nodes} {k = count p.nodes} (omega arith)).chained;
      })
  plain_key_produces (Err e) h none =
      m.no (s.unheard_call (λ x q. Some (plain_key_tree q.0, q.1)) (λ x ts. refl) h) (grows-same _)

module _ {F C K : Type 0} (hook : Hook F C K) where
  -- after the expression of a key
  closes : (s : Span) (e : Tree F C K) (x : Scope) (us : List TokenAndSpan)
      → exec hook (run hook) None (take (λ t. check (is_rbracket t.token) (gives (computed_e (to s t.span) e)))) us
      ≡ key_close s e x us
  closes s e x [] = then_token is_rbracket x [] (λ q vs. Some (computed_e (to s q) e, vs))
  closes s e x (t ∷ us) = then_token is_rbracket x (t ∷ us) (λ q vs. Some (computed_e (to s q) e, vs))

  key_token : (x : Scope) (v : Token) (b : Bool) (s : Span) (us : List TokenAndSpan)
      → run hook (at Key) x (tk v b s ∷ us)
      ≡ (eaten is_lbracket x (tk v b s ∷ us) >>= (λ p. key_by hook p.0 x p.1))
  unfolding eaten plain_key computed_key inside word
  key_token x (token.Word w) b s us = knot hook (at Key) x (tk (token.Word w) b s ∷ us)
  key_token x token.LBracket b s us =
      knot hook (at Key) x (tk token.LBracket b s ∷ us)
      ∙ then_calls (run hook (at Assign) (with_in x) us) _ (λ e vs. key_close s e x vs) (λ e vs. closes s e x vs)
  key_token x v b s us = knot hook (at Key) x (tk v b s ∷ us)

  pub key_splits : (x : Scope) (ts : List TokenAndSpan)
      → run hook (at Key) x ts ≡ (eaten is_lbracket x ts >>= (λ p. key_by hook p.0 x p.1))
  unfolding eaten plain_key
  key_splits x [] = knot hook (at Key) x []
  key_splits x (t ∷ ts) = key_token x t.token t.had_line_break t.span ts

  pub computed_key_splits : (s : Span) (x : Scope) (ts : List TokenAndSpan)
      → computed_key hook s x ts ≡ (inside hook x ts >>= (λ p. key_close s p.0 x p.1))
  unfolding computed_key
  computed_key_splits s x ts = refl

-- ---- the functions of methods (15.4)

pub bind_none : {A B : Type 0} (o : Out A) (f : A × List TokenAndSpan → Out B)
    → ((p : A × List TokenAndSpan) → f p ≡ None) → (o >>= f) ≡ None
bind_none None f h = refl
bind_none (Some p) f h = h p

module _ {F C K : Type 0} (hook : Hook F C K) where
  pub method_body_block : (is_async is_generator : Bool) (x : Scope) (ts : List TokenAndSpan)
      → method_body hook is_async is_generator x ts ≡ hook.block (method_block is_async is_generator x.context) ts
  unfolding method_body
  method_body_block is_async is_generator x ts = refl

-- a hook reads no block where none begins
begins_front : (f : Token → Bool) (own rest : List TokenAndSpan) → begins f own ≡ true
    → at_token f (first (own ++ rest)) ≡ true
begins_front f [] rest h = absurd cc
begins_front f (t ∷ own) rest h = h

-- a function that begins a list begins a longer one
begins_either : (a b c d : Bool) → (c ≡ true → d ≡ true) → (a || (b && c)) ≡ true → (a || (b && d)) ≡ true
begins_either true b c d k h = refl
begins_either false true c d k h = k h
begins_either false false c d k h = h

function_behind : (ts us : List TokenAndSpan) → is_function_here ts ≡ true → is_function_here (ts ++ us) ≡ true
function_behind [] us h = absurd cc
function_behind (t ∷ ts) us h = h

function_front : (own rest : List TokenAndSpan) → begins_function own ≡ true → begins_function (own ++ rest) ≡ true
function_front [] rest h = absurd cc
function_front (t ∷ own) rest h =
    begins_either (is_function t.token) (is_async t.token) (is_function_here own) (is_function_here (own ++ rest))
    (function_behind own rest) h

-- what begins no function, and no class, is read as none
pub fun_not : {F C K : Type 0} {fun_at : F → Span} {class_at : C → Span} {block_at : K → Span} (hook : Hook F C K)
    → LawfulHook fun_at class_at block_at hook → (x : Scope) (ts : List TokenAndSpan)
    → begins_function ts ≡ false → hook.fun x.context ts ≡ None
fun_not {F = F} hook laws x ts h = by_what (hook.fun x.context ts) refl
  where
    by_what : (o : Out F) → hook.fun x.context ts ≡ o → hook.fun x.context ts ≡ None
    by_what None e = e
    by_what (Some p) e =
        let w = laws.fun.owns x.context ts p.0 p.1 e in
        let b = function_front w.own p.1 w.begins in
        let f : true ≡ false = sym b ∙ ap begins_function (sym w.list) ∙ h in absurd cc

pub class_not : {F C K : Type 0} {fun_at : F → Span} {class_at : C → Span} {block_at : K → Span} (hook : Hook F C K)
    → LawfulHook fun_at class_at block_at hook → (x : Scope) (ts : List TokenAndSpan)
    → at_token is_class (first ts) ≡ false → hook.class x.context ts ≡ None
class_not {C = C} hook laws x ts h = by_what (hook.class x.context ts) refl
  where
    by_what : (o : Out C) → hook.class x.context ts ≡ o → hook.class x.context ts ≡ None
    by_what None e = e
    by_what (Some p) e =
        let w = laws.class.owns x.context ts p.0 p.1 e in
        let b = begins_front is_class w.own p.1 w.begins in
        let f : true ≡ false = sym b ∙ ap (λ l. at_token is_class (first l)) (sym w.list) ∙ h in absurd cc

pub block_not : {F C K : Type 0} {fun_at : F → Span} {class_at : C → Span} {block_at : K → Span} (hook : Hook F C K)
    → LawfulHook fun_at class_at block_at hook → (x : Scope) (ts : List TokenAndSpan)
    → at_token is_brace (first ts) ≡ false → hook.block x.context ts ≡ None
block_not {K = K} hook laws x ts h = by_what (hook.block x.context ts) refl
  where
    by_what : (o : Out K) → hook.block x.context ts ≡ o → hook.block x.context ts ≡ None
    by_what None e = e
    by_what (Some p) e =
        let w = laws.block.owns x.context ts p.0 p.1 e in
        let b = begins_front is_brace w.own p.1 w.begins in
        let f : true ≡ false = sym b ∙ ap (λ l. at_token is_brace (first l)) (sym w.list) ∙ h in absurd cc
