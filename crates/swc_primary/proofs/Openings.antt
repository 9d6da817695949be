-- Which primary expression the current token begins, and what is left of a literal after the token that opens it.
use Rattle.std.proofs.Common.{◌≡◌, Bool, true, false, not, codes, List, [], ◌∷◌, ◌++◌, if◌then◌else◌, Option, refl, ◌∙◌, Some, None, ap, sym, subst}
use Rattle.swc_input.specs.{declared.buffer.Buffer.Buffer, declared.token.TokenAndSpan.TokenAndSpan, declared.token.Token.Token, declared.token.Token.Token as token, Plain.plain, Source.Model, Buffer.held, Buffer.context, Buffer.Bumped, Laws.Read-same, Kinds.at_token}
use Rattle.swc_context.specs.{declared.atom.Atom.Atom, declared.word.Word.Word as word, Texts.is_text, Reserved.reserved_name, declared.context.Context.Context, declared.span.BytePos.BytePos, declared.span.Span.Span}
use Rattle.swc_grammar.specs.Symbols.{Primary, Props}
use Rattle.swc_grammar.specs.Clean.{sym as at, run, first}
use Rattle.swc_grammar.specs.Tokens.{is_lparen, is_lbracket, is_backquote, is_reference, may_be_reference}
use Rattle.swc_grammar.specs.{Scope.Scope, Scope.inner, Parts.lit_of, Words.◌>>=◌}
use Rattle.swc_ast.specs.{Parts.lit_tree, Tree.Tree, declared.lit.Lit.Lit}
use Rattle.swc_bodies.specs.Readings.{Hook, is_async, is_brace}
use Rattle.swc_input.specs.Calls.{Here}
use Rattle.swc_steps.proofs.Steps.{and_false}
use Rattle.swc_steps.specs.Parsing.{On, seen, begins_async}
use Rattle.swc_steps.specs.Lists.{elements_inside}
use Rattle.swc_steps.proofs.Lists as list
use Rattle.swc_steps.proofs.Rules as rule
use Rattle.swc_steps.proofs.Steps as s
use Rattle.swc_steps.proofs.Words.{is_same}
use Rattle.swc_primary.proofs.Properties as props
use Rattle.swc_primary.specs.Openings.{primary_kind, literal, BeginsPlain, array_from, object_from}
use Rattle.swc_primary.specs.{declared.primary.PrimaryKind.PrimaryKind, declared.primary.PrimaryKind.PrimaryKind as kind, declared.primary.PlainKind.PlainKind, declared.primary.PlainKind.PlainKind as one}

-- ---- literals

abbrev literal_in : {F C K : Type 0} → Option Lit → Option (Tree F C K)
literal_in None = None
literal_in (Some l) = Some (lit_tree l)

literal_is : {F C K : Type 0} (t : Token) (s : Span) → lit_of {F = F} {C = C} {K = K} t s ≡ literal_in (literal t s)
literal_is (token.Word word.Null) s = refl
literal_is (token.Word word.True) s = refl
literal_is (token.Word word.False) s = refl
literal_is (token.Num raw) s = refl
literal_is (token.BigInt raw) s = refl
literal_is (token.Str value raw) s = refl
literal_is t s = refl

-- the tree of the literal that a token is
pub literal_tree : {F C K : Type 0} (t : Token) (s : Span) (l : Lit) → literal t s ≡ Some l
    → lit_of {F = F} {C = C} {K = K} t s ≡ Some (lit_tree l)
literal_tree t s l h = literal_is t s ∙ ap literal_in h

-- ---- which of four tests holds first

abbrev kind_by : Bool → Bool → Bool → Bool → PrimaryKind
kind_by a b c d =
    if a then kind.Paren else
    (if b then kind.Array else (if c then kind.Object else (if d then kind.Template else kind.Plain)))

paren_by : (a b c d : Bool) → kind_by a b c d ≡ kind.Paren → a ≡ true
paren_by true b c d h = refl
paren_by false true c d h = cc
paren_by false false true d h = cc
paren_by false false false true h = cc
paren_by false false false false h = cc

array_by : (a b c d : Bool) → kind_by a b c d ≡ kind.Array → b ≡ true
array_by true b c d h = cc
array_by false true c d h = refl
array_by false false true d h = cc
array_by false false false true h = cc
array_by false false false false h = cc

object_by : (a b c d : Bool) → kind_by a b c d ≡ kind.Object → c ≡ true
object_by true b c d h = cc
object_by false true c d h = cc
object_by false false true d h = refl
object_by false false false true h = cc
object_by false false false false h = cc

template_by : (a b c d : Bool) → kind_by a b c d ≡ kind.Template → d ≡ true
template_by true b c d h = cc
template_by false true c d h = cc
template_by false false true d h = cc
template_by false false false true h = refl
template_by false false false false h = cc

plain_by : (a b c d : Bool) → kind_by a b c d ≡ kind.Plain → (a ≡ false) × (b ≡ false) × (c ≡ false) × (d ≡ false)
plain_by true b c d h = absurd cc
plain_by false true c d h = absurd cc
plain_by false false true d h = absurd cc
plain_by false false false true h = absurd cc
plain_by false false false false h = (refl, refl, refl, refl)

module _ (t : Option TokenAndSpan) where
  pub is_paren : primary_kind t ≡ kind.Paren → at_token is_lparen t ≡ true
  is_paren h =
      paren_by (at_token is_lparen t) (at_token is_lbracket t) (at_token is_brace t) (at_token is_backquote t) h

  pub is_array : primary_kind t ≡ kind.Array → at_token is_lbracket t ≡ true
  is_array h =
      array_by (at_token is_lparen t) (at_token is_lbracket t) (at_token is_brace t) (at_token is_backquote t) h

  pub is_object : primary_kind t ≡ kind.Object → at_token is_brace t ≡ true
  is_object h =
      object_by (at_token is_lparen t) (at_token is_lbracket t) (at_token is_brace t) (at_token is_backquote t) h

  pub is_template : primary_kind t ≡ kind.Template → at_token is_backquote t ≡ true
  is_template h =
      template_by (at_token is_lparen t) (at_token is_lbracket t) (at_token is_brace t) (at_token is_backquote t) h

  not_any : primary_kind t ≡ kind.Plain → (at_token is_lparen t ≡ false) × (at_token is_lbracket t ≡ false)
      × (at_token is_brace t ≡ false) × (at_token is_backquote t ≡ false)
  not_any h = plain_by (at_token is_lparen t) (at_token is_lbracket t) (at_token is_brace t) (at_token is_backquote t) h

  pub not_paren : primary_kind t ≡ kind.Plain → at_token is_lparen t ≡ false
  not_paren h = (not_any h).0

  pub not_array : primary_kind t ≡ kind.Plain → at_token is_lbracket t ≡ false
  not_array h = (not_any h).1

  pub not_object : primary_kind t ≡ kind.Plain → at_token is_brace t ≡ false
  not_object h = (not_any h).2

  pub not_template : primary_kind t ≡ kind.Plain → at_token is_backquote t ≡ false
  not_template h = (not_any h).3

-- ---- a primary expression in which no other is, by the test that its first token passes

module _ {S : Type 0} (model : Model S) (b : Buffer S) where
  pub kind_is : {j k : PlainKind} → j ≡ k → BeginsPlain (context model b) (λ f. at_token f (seen b)) j
      → BeginsPlain (context model b) (λ f. at_token f (seen b)) k
  kind_is e h = subst (λ v. BeginsPlain (context model b) (λ f. at_token f (seen b)) v) e h

-- of what is seen, so of every list that begins with it
pub kind_first : (k : PlainKind) (ts : List TokenAndSpan) {x y : Scope} {o : Option TokenAndSpan} → x ≡ y → first ts ≡ o
    → BeginsPlain y.context (λ f. at_token f o) k → BeginsPlain x.context (λ f. at_token f (first ts)) k
kind_first k ts {x} {y} {o} same e h =
    subst (λ v. BeginsPlain v.context (λ f. at_token f (first ts)) k) (sym same)
    (subst (λ v. BeginsPlain y.context (λ f. at_token f v) k) (sym e) h)

no_async : (ts : List TokenAndSpan) → at_token is_async (first ts) ≡ false → begins_async ts ≡ false
no_async ts h = rw h refl

module _ {F C K : Type 0} (hook : Hook F C K) where
  -- nothing is read where the first token is of another kind
  pub other_ends : (x : Scope) (ts : List TokenAndSpan) → primary_kind (first ts) ≡ kind.Plain
      → BeginsPlain x.context (λ f. at_token f (first ts)) one.Other → run hook (at Primary) x ts ≡ None
  other_ends x ts p h =
      let o = first ts in
      let (this, async, function, lit, class, name, hash, regex) = h in
      rule.primary_ends hook x ts name lit (not_paren o p) hash this (not_array o p)
      (rule.function_not ts function (no_async ts async)) async class (not_object o p) (not_template o p) regex

-- `async` is a reference wherever it is
async_name : (c : Context) (w : Atom) → is_text w (codes "async") ≡ true → is_reference c (word.Ident w) ≡ true
async_name c w h =
    let same = is_same w (codes "async") h in
    ap (λ v. not (reserved_name c.strict v)) same ∙ ap not (and_false c.strict)

refers : (c : Context) (t : Token) → is_async t ≡ true → may_be_reference c t ≡ true
refers c (token.Word (word.Ident w)) h = async_name c w h
refers c t h = absurd cc

pub async_refers : (c : Context) (o : Option TokenAndSpan) → at_token is_async o ≡ true
    → at_token (may_be_reference c) o ≡ true
async_refers c None h = absurd cc
async_refers c (Some t) h = refers c t.token h

-- ---- a look at what was looked at

none_first : {A : Type 0} (xs ys : List A) → xs ++ ys ≡ [] → xs ≡ []
none_first [] ys h = refl
none_first (x ∷ xs) ys h = absurd cc

pub looked : {S : Type 0} {model : Model S} {b c : Buffer S} → Here model b c → Here model c c
looked {b = b} {c = c} h =
    let took = h.looked.look.read.took in
    record {
      laws = h.laws;
      looked = record {
        look = record { read = Read-same h.laws c; previous = refl; quiet = λ m k. (refl, refl) };
        same = λ t e. refl;
        lives = λ s f. f;
        end = h.looked.end;
      };
      served = record {
        before = λ f. (f, λ n. (h.served.before f).1 (none_first (held b) took.given (took.balance ∙ n)));
      };
      end = h.end;
    }

-- ---- what is left of a literal after the token that opens it

module _ {S F C K : Type 0} {model : Model S} (sure : Bool) (hook : Hook F C K) where
  pub array_begins : {a b c : Buffer S} {k : Token} {lo : BytePos} → Here model a b
      → primary_kind (seen b) ≡ kind.Array → (took : Bumped model b k c) → took.was.span.lo ≡ lo
      → On model sure (run hook (at Primary))
      (λ x ts. elements_inside hook x ts >>= (λ p. Some (array_from lo p.0, p.1))) a c
  array_begins {b = b} h is took place =
      let sign = is_array (seen b) is in
      s.on_then (s.on_seen h (λ x ts same e. list.array_lit_picked hook x ts (ap (at_token is_lbracket) e ∙ sign)))
      (s.on_took h.laws took (λ x ts.
      list.array_lit_opens hook (plain took.was) x ts (rule.passes_plain is_lbracket _ _ took.current sign)
      ∙ list.array_lit_splits hook (plain took.was).span x ts
      ∙ ap (λ v. elements_inside hook x ts >>= (λ p. Some (array_from v p.0, p.1))) place))

  pub object_begins : {a b c : Buffer S} {k : Token} {lo : BytePos} → Here model a b
      → primary_kind (seen b) ≡ kind.Object → (took : Bumped model b k c) → took.was.span.lo ≡ lo
      → On model sure (run hook (at Primary))
      (λ x ts. run hook (at Props) x ts >>= (λ p. Some (object_from lo p.0, p.1))) a c
  object_begins {b = b} h is took place =
      let sign = is_object (seen b) is in
      s.on_from_inner
      (s.on_then (s.on_seen h (λ x ts same e. props.object_lit_picked hook x ts (ap (at_token is_brace) e ∙ sign)))
      (s.on_took h.laws took (λ x ts.
      props.object_lit_opens hook (plain took.was) x ts (rule.passes_plain is_brace _ _ took.current sign)
      ∙ props.object_lit_splits hook (plain took.was).span x ts
      ∙ ap (λ v. run hook (at Props) (inner x) ts >>= (λ p. Some (object_from v p.0, p.1))) place)))
