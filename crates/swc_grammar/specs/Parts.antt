-- What single tokens stand for in a production.
use Rattle.std.specs.Prelude.{ℕ, Bool, true, false, not, ◌&&◌, ◌||◌, if◌then◌else◌, List, [], ◌∷◌, Option, Some, None, Result, Ok, Err, nat_eq, codes}
use Rattle.std.specs.List.{list_any}
use Rattle.swc_context.specs.{declared.error.Error.Error, declared.operator.BinaryOp.BinaryOp, declared.operator.AssignOp.AssignOp, declared.operator.UnaryOp.UnaryOp, declared.operator.UpdateOp.UpdateOp, declared.span.Span.Span, declared.word.Word.Word as word}
use Rattle.swc_input.specs.{declared.token.Token.Token, declared.token.Token.Token as tok, Recording.is_some}
use Rattle.swc_ast.specs.Tree.{Tree}
use Rattle.swc_ast.specs.Trees.{null_e, boolean_e, num_e, big_e, str_e, regex_e, text_e, few_ok}
use Rattle.swc_grammar.specs.Scope.{Scope}
use Rattle.swc_grammar.specs.Names.{Spelling, may_refer, may_bind, may_name, spelled, is_joined}
use Rattle.swc_grammar.specs.Tokens.{is_put_off, binary_of, prefix_of, update_of, assign_of}

-- an identifier reference (13.1) that is an expression by itself
abbrev pub reference : Scope → Token → Span → Option Spelling
reference c = spelled (λ w. may_refer c.context w && not (is_put_off w))

-- a binding identifier (13.1)
abbrev pub binding : Scope → Token → Span → Option Spelling
binding c = spelled (may_bind c.context)

-- a name, which may be any word (12.7)
abbrev pub any_name : Scope → Token → Span → Option Spelling
any_name c = spelled (may_name c.context)

-- a literal (13.2.3)
abbrev pub lit_of : {F C K : Type 0} → Token → Span → Option (Tree F C K)
lit_of (tok.Word word.Null) s = Some (null_e s)
lit_of (tok.Word word.True) s = Some (boolean_e s true)
lit_of (tok.Word word.False) s = Some (boolean_e s false)
lit_of (tok.Num raw) s = Some (num_e s raw)
lit_of (tok.BigInt raw) s = Some (big_e s raw)
lit_of (tok.Str value raw) s = Some (str_e s value raw)
lit_of t s = None

-- The flags that a regular expression may have; whether one among others is none; and the first that comes once more
-- after it. Early errors (13.2.7.1): each is one that there is, and none occurs twice.
abbrev pub is_flag : ℕ → Bool
is_flag b = list_any (λ f. nat_eq f b) (codes "dgimsuvy")

abbrev pub has_unknown : List ℕ → Bool
has_unknown fs = list_any (λ b. not (is_flag b)) fs

unfoldable pub repeated : List ℕ → Option ℕ
repeated [] = None
repeated (b ∷ fs) = if is_flag b && list_any (λ f. nat_eq f b) fs then Some b else repeated fs

abbrev pub flags_ok : List ℕ → Bool
flags_ok fs = not (has_unknown fs || is_some (repeated fs))

-- a regular expression (13.2.7)
abbrev pub regex_of : {F C K : Type 0} → Token → Span → Option (Tree F C K)
regex_of (tok.Regex exp flags) s = if flags_ok flags then Some (regex_e s exp flags) else None
regex_of t s = None

-- A text of a template (13.2.8), which is the last one or not; without a tag it has to mean something.
abbrev pub cooked_of : Bool → Result (List ℕ) Error → Option (Option (List ℕ))
cooked_of is_tagged (Ok text) = Some (Some text)
cooked_of true (Err e) = Some None
cooked_of false (Err e) = None

abbrev pub text_by : {F C K : Type 0} → Bool → Span → List ℕ → Option (Option (List ℕ)) → Option (Tree F C K)
text_by is_last s raw None = None
text_by is_last s raw (Some cooked) = Some (text_e s is_last cooked raw)

abbrev pub text_of : {F C K : Type 0} → Bool → Bool → Token → Span → Option (Tree F C K)
text_of is_tagged is_last (tok.Template raw cooked) s = text_by is_last s raw (cooked_of is_tagged cooked)
text_of is_tagged is_last t s = None

-- a literal that may be a key (13.2.5)
abbrev pub key_lit_of : {F C K : Type 0} → Token → Span → Option (Tree F C K)
key_lit_of (tok.Num raw) s = Some (num_e s raw)
key_lit_of (tok.BigInt raw) s = Some (big_e s raw)
key_lit_of (tok.Str value raw) s = Some (str_e s value raw)
key_lit_of t s = None

-- a prefix operator (13.5), with its place
abbrev pub with_place : {A : Type 0} → Option A → Span → Option (A × Span)
with_place None s = None
with_place (Some a) s = Some (a, s)

abbrev pub prefix_here : Token → Span → Option (UnaryOp × Span)
prefix_here t s = with_place (prefix_of t) s

-- `++` or `--` (13.4), with its place; and an operator that writes (13.15)
abbrev pub update_here : Token → Span → Option (UpdateOp × Span)
update_here t s = with_place (update_of t) s

abbrev pub assign_here : Token → Span → Option AssignOp
assign_here t s = assign_of t

-- a binary operator (13.6 to 13.13)
abbrev pub operator_here : Scope → Token → Span → Option BinaryOp
operator_here c t s = binary_of c.context t

-- The arguments of `import` (13.3.10), where i says that they are its: where the syntax is pedantic they are counted.
abbrev pub import_args_ok : {F C K : Type 0} → Scope → Bool → Tree F C K → Bool
import_args_ok c i es = few_ok (i && c.syntax.pedantic) c.syntax.import_attributes es

-- `#` and a name, with their places, as an operand on the left of `in` (13.10), where the syntax is pedantic
abbrev pub private_ok : Scope → Span → Span → Bool
private_ok c s at = c.syntax.pedantic && (c.context.include_in_expr && is_joined s at)
