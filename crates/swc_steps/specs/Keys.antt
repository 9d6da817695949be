-- What the steps of the code read in keys and in the functions of methods, by the clean parser.
use Rattle.std.specs.Prelude.{Bool, true, false, List, Option, Some, None}
use Rattle.swc_context.specs.{Contexts.method_block, declared.span.Span.Span}
use Rattle.swc_input.specs.{declared.token.Token.Token, declared.token.Token.Token as token, declared.token.TokenAndSpan.TokenAndSpan, Kinds.at_token}
use Rattle.swc_ast.specs.Trees.{to, computed_e, hole_e}
use Rattle.swc_ast.specs.{Parts.prop_name_tree, Tree.Tree, declared.prop.PropName.PropName as prop_name, declared.prop.PropName.PropName}
use Rattle.swc_nodes.specs.declared.node.ExprId.{ExprId}
use Rattle.swc_bodies.specs.Readings.{Hook}
use Rattle.swc_grammar.specs.Tokens.{is_word, is_rparen, is_rbracket}
use Rattle.swc_grammar.specs.Words.{◌>>=◌, rest, one, word}
use Rattle.swc_grammar.specs.{Scope.Scope, Names.Spelling, Names.may_name, Clean.Out, Clean.first}
use Rattle.swc_steps.specs.{Lists.eaten, Readers.inside}

-- a token that passes a test, which has to come first, by its place
abbrev pub expected_by : Option Span → List TokenAndSpan → Out Span
expected_by None ts = None
expected_by (Some s) ts = Some (s, ts)

unfoldable pub expected : (Token → Bool) → Scope → List TokenAndSpan → Out Span
expected f c ts = eaten f c ts >>= (λ p. expected_by p.0 p.1)

-- ---- keys (13.2.5)

-- the tokens that are literals and keys
abbrev pub is_key_lit : Token → Bool
is_key_lit (token.Str value raw) = true
is_key_lit (token.Num raw) = true
is_key_lit (token.BigInt raw) = true
is_key_lit t = false

-- the key that a name is, and the one that a literal's token is: as `key_lit_of` of the grammar has its tree
abbrev pub named_key : Spelling → PropName ExprId
named_key n = prop_name.Ident (record { span = n.at; sym = n.text })

abbrev pub literal_key : Token → Span → Option (PropName ExprId)
literal_key (token.Num raw) s = Some (prop_name.Num (record { span = s; raw = raw }))
literal_key (token.BigInt raw) s = Some (prop_name.BigInt (record { span = s; raw = raw }))
literal_key (token.Str value raw) s = Some (prop_name.Str (record { span = s; value = value; raw = raw }))
literal_key t s = None

-- a key that is no expression in brackets: a name, or a literal
abbrev pub name_key : Scope → List TokenAndSpan → Out (PropName ExprId)
name_key c ts = word may_name c ts >>= (λ p. Some (named_key p.0, p.1))

abbrev pub lit_key_by : Option TokenAndSpan → List TokenAndSpan → Out (PropName ExprId)
lit_key_by None us = None
lit_key_by (Some t) us = one (literal_key t.token t.span) us

abbrev pub plain_key_by : Bool → Scope → List TokenAndSpan → Out (PropName ExprId)
plain_key_by true c ts = name_key c ts
plain_key_by false c ts = lit_key_by (first ts) (rest ts)

unfoldable pub plain_key : Scope → List TokenAndSpan → Out (PropName ExprId)
plain_key c ts = plain_key_by (at_token is_word (first ts)) c ts

module _ {F C K : Type 0} where
  -- the tree of such a key, which has no expression in it
  abbrev pub plain_key_tree : PropName ExprId → Tree F C K
  plain_key_tree k = prop_name_tree (λ e. hole_e) k

  abbrev pub key_plain : Scope → List TokenAndSpan → Out (Tree F C K)
  key_plain c ts = plain_key c ts >>= (λ p. Some (plain_key_tree p.0, p.1))

  -- after the expression of a key whose bracket is at s
  abbrev pub key_close : Span → Tree F C K → Scope → List TokenAndSpan → Out (Tree F C K)
  key_close s e c ts = expected is_rbracket c ts >>= (λ q. Some (computed_e (to s q.0) e, q.1))

module _ {F C K : Type 0} (hook : Hook F C K) where
  -- after the bracket at s: an expression, in which `in` is an operator, and the bracket that closes the key
  unfoldable pub computed_key : Span → Scope → List TokenAndSpan → Out (Tree F C K)
  computed_key s c ts = inside hook c ts >>= (λ p. key_close s p.0 c p.1)

  abbrev pub key_by : Option Span → Scope → List TokenAndSpan → Out (Tree F C K)
  key_by None c ts = key_plain c ts
  key_by (Some s) c ts = computed_key s c ts

-- ---- the functions of methods (15.4)

-- parameters end before a parenthesis that closes, or at the end
abbrev pub ends_params : Option TokenAndSpan → Bool
ends_params None = true
ends_params (Some t) = is_rparen t.token

-- the block of a method
unfoldable pub method_body : {F C K : Type 0} → Hook F C K → Bool → Bool → Scope → List TokenAndSpan → Out K
method_body hook is_async is_generator c ts = hook.block (method_block is_async is_generator c.context) ts
