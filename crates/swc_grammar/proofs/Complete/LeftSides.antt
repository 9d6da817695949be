-- Left-hand sides: what they begin with, `new`, and links.
use Rattle.std.specs.Prelude.{◌≡◌, ℕ, Bool, true, false, not, List, [], ◌∷◌, ◌&&◌, Option, Some, None, codes}
use Rattle.swc_context.specs.{Texts.is_text, declared.span.Span.Span, declared.word.Keyword.Keyword as keyword, declared.word.Word.Word as word}
use Rattle.std.proofs.Common.{refl, ap, ◌∙◌}
use Rattle.std.proofs.lemmas.Bool.{eqb-true}
use Rattle.swc_input.specs.{declared.token.Token.Token, declared.token.Token.Token as token, declared.token.TokenAndSpan.TokenAndSpan, Kinds.at_token, Kinds.is_hash}
use Rattle.swc_ast.specs.{Tree.Tree, Trees.is_chain}
use Rattle.swc_bodies.specs.Readings.{Hook}
use Rattle.swc_grammar.specs.Scope.{Scope, with_head, inner}
use Rattle.swc_grammar.specs.Rule.{gives, take, read, given, ◌>>=◌}
use Rattle.swc_grammar.specs.Tokens.{tk, with_in, is_lparen, is_question, is_word, is_dot, is_lbracket, is_backquote, is_new, is_super, is_import, is_meta, is_source}
use Rattle.swc_grammar.specs.Symbols.{Symbol, Lhs, Left, Base, Answer, Side}
use Rattle.swc_grammar.specs.Grammar.{Production, base-primary, super-name, super-computed, super-call, import-meta, import-call, import-source, new-target}
use Rattle.swc_grammar.specs.Reads.{Reads, by, Follows, took, held, part}
use Rattle.swc_grammar.specs.Clean.{first, sym, links, plan, exec, constructs, no_link, no_more, more, linked, link, call_link, chain_link, base, super_base, import_base, import_dot, begins_new, Stop, second, pick, run}
use Rattle.swc_grammar.specs.{Names.Spelling, Parts.any_name, Firsts.begins_primary, Firsts.begins_left}
use Rattle.swc_grammar.proofs.Only.{hash-is, import-is, lbracket-is, lparen-is, question-is, super-is}
use Rattle.swc_grammar.proofs.Firsts.{given-held, begins, name-first}
use Rattle.swc_grammar.proofs.Complete.Sides.{Ready, ready-given, last}
use Rattle.swc_grammar.proofs.{Binds.bind, Answers.both, Knot.knot, Complete.Stops.quiet-rbracket}

-- the words `meta` and `source` are two, and `super` and `import` aren't `new`
no-source-text : (w : List ℕ) → is_text w (codes "meta") ≡ true → is_text w (codes "source") ≡ false
no-source-text [] h = absurd cc
no-source-text (x ∷ xs) h =
    let (a, rest) = both _ _ h in
    let same : x ≡ 109 = eqb-true x 109 a in
    rw same refl

no-source : (t : Token) → is_meta t ≡ true → is_source t ≡ false
no-source (token.Word (word.Ident w)) h = no-source-text w h
no-source t h = absurd cc

super-no-new : (t : Token) → is_super t ≡ true → is_new t ≡ false
super-no-new t h = rw (super-is t h) refl

import-no-new : (t : Token) → is_import t ≡ true → is_new t ≡ false
import-no-new t h = rw (import-is t h) refl

-- links
no-link-here : (d e q x y : Bool) → (not d && (not e && (not q && (not x && not y)))) ≡ true
    → (d ≡ false) × (e ≡ false) × (q ≡ false) × (x ≡ false) × (y ≡ false)
no-link-here true e q x y h = absurd cc
no-link-here false true q x y h = absurd cc
no-link-here false false true x y h = absurd cc
no-link-here false false false true y h = absurd cc
no-link-here false false false false true h = absurd cc
no-link-here false false false false false h = (refl, refl, refl, refl, refl)

no-links : (b : Bool) (t : TokenAndSpan) (us : List TokenAndSpan) → no_link b (t ∷ us) ≡ true
    → (is_dot t.token ≡ false) × (is_lbracket t.token ≡ false) × (is_backquote t.token ≡ false)
    × ((is_question t.token && at_token is_dot (first us)) ≡ false) × ((b && is_lparen t.token) ≡ false)
no-links b t us h =
    no-link-here (is_dot t.token) (is_lbracket t.token) (is_backquote t.token)
    (is_question t.token && at_token is_dot (first us)) (b && is_lparen t.token) h

-- where no link with calls comes next, no other does, and no parenthesis
pub any-link : (b : Bool) (ys : List TokenAndSpan) → no_link true ys ≡ true → no_link b ys ≡ true
any-link true ys h = h
any-link false [] h = refl
any-link false (t ∷ us) h = let (x, y, z, q, p) = no-links true t us h in rw (x, y, z, q) refl

pub no-paren : (ys : List TokenAndSpan) → no_link true ys ≡ true → at_token is_lparen (first ys) ≡ false
no-paren [] h = refl
no-paren (t ∷ us) h = let (x, y, z, q, p) = no-links true t us h in p

-- a left-hand side begins with no `.`, and a primary expression not with `new`
pub no-dot-first : (c : Scope) (xs : List TokenAndSpan) → at_token (begins_left c) (first xs) ≡ true
    → at_token is_dot (first xs) ≡ false
no-dot-first c [] h = refl
no-dot-first c (a ∷ us) h = by-token a.token h
  where
    by-token : (t : Token) → begins_left c t ≡ true → is_dot t ≡ false
    by-token token.Dot h = absurd cc
    by-token t h = refl

pub no-new-first : (c : Scope) (xs : List TokenAndSpan) → at_token (begins_primary c) (first xs) ≡ true
    → at_token is_new (first xs) ≡ false
no-new-first c [] h = refl
no-new-first c (a ∷ us) h = by-token a.token h
  where
    by-token : (t : Token) → begins_primary c t ≡ true → is_new t ≡ false
    by-token (token.Word (word.Keyword keyword.New)) h = absurd cc
    by-token t h = refl

-- after a `.` a name is no `#`
word-alone : (t : Token) → is_word t ≡ true → (is_hash t ≡ false) × (is_lbracket t ≡ false) × (is_lparen t ≡ false)
word-alone (token.Word w) h = (refl, refl, refl)
word-alone t h = absurd cc

pub hash-alone : (o : Option TokenAndSpan) → at_token is_hash o ≡ true
    → (at_token is_lbracket o ≡ false) × (at_token is_lparen o ≡ false)
hash-alone None h = absurd cc
hash-alone (Some a) h = rw (hash-is a.token h) (refl, refl)

pub lparen-alone : (o : Option TokenAndSpan) → at_token is_lparen o ≡ true → at_token is_lbracket o ≡ false
lparen-alone None h = refl
lparen-alone (Some a) h = rw (lparen-is a.token h) refl

module _ {F C K : Type 0} (hook : Hook F C K) where
  no-call-here : {c : Scope} (b : Bool) (t : TokenAndSpan) → (b && is_lparen t.token) ≡ false
      → call_link {F = F} {C = C} {K = K} b {c = c} (Some t) ≡ no_more
  no-call-here true t h = rw h refl
  no-call-here false t h = refl

  no-call-at-end : {c : Scope} (b : Bool) → call_link {F = F} {C = C} {K = K} b {c = c} None ≡ no_more
  no-call-at-end true = refl
  no-call-at-end false = refl

  links-stop : (b : Bool) (c : Scope) (ys : List TokenAndSpan) → no_link b ys ≡ true
      → link {F = F} {C = C} {K = K} b c ys ≡ no_more
  links-stop b c [] h = no-call-at-end b
  links-stop b c (t ∷ us) h = let (x, y, z, q, p) = no-links b t us h in rw (x, y, z, q) (no-call-here b t p)

  pub links-end : (b : Bool) (t : Tree F C K) (c : Scope) (ys : List TokenAndSpan) → no_link b ys ≡ true
      → run hook (links b t) c ys ≡ Some (t, ys)
  links-end b t c ys h =
      knot hook (links b t) c ys ∙ ap (λ v. exec hook (run hook) (Some 1) (linked v t) ys) (links-stop b c ys h)

  pub links-take : {b : Bool} {c : Scope} (l : Tree F C K) (a : TokenAndSpan) (us ys : List TokenAndSpan)
      {f : Tree F C K → TokenAndSpan → Side F C K (Left b)}
      (p : (i : Bool) → Production (Left b) (with_head i c) (read (Left b) (with_head i c) (λ e. take (λ u. f e u))))
      {t : Tree F C K} → link b c (a ∷ us) ≡ more p → exec hook (run hook) None (plan (f l a)) us ≡ Some (t, ys)
      → run hook (links b l) c (a ∷ us) ≡ run hook (links b t) c ys
  links-take {b = b} {c = c} l a us ys {f = f} p {t = t} h e =
      knot hook (links b l) c (a ∷ us)
      ∙ ap (λ v. exec hook (run hook) (Some 1) (linked v l) (a ∷ us)) h
      ∙ bind hook (run hook) (plan (f l a)) (λ u. read (links b u) c (λ v. gives v)) us
      ∙ rw e (last hook None (links b t) c ys refl)

  -- `new`, and what it constructs
  pub new-begins : (b : Bool) (c : Scope) (a : TokenAndSpan) (us ms : List TokenAndSpan) (l : Tree F C K)
      → is_new a.token ≡ true → at_token is_dot (first us) ≡ false → not (is_chain l) ≡ true
      → run hook (sym (Lhs false)) (inner c) us ≡ Some (l, ms)
      → run hook (sym (Lhs b)) c (a ∷ us) ≡ run hook (constructs b a.span l) (inner c) ms
  new-begins b c a us ms l h d n e =
      knot hook (sym (Lhs b)) c (a ∷ us) ∙ rw (h, d, e, n) (last hook None (constructs b a.span l) (inner c) ms refl)

  -- bases
  base-token : (b : Bool) (c : Scope) (t : Token) (l : Bool) (s : Span) (us : List TokenAndSpan)
      → begins_primary c t ≡ true → base {F = F} {C = C} {K = K} b c (tk t l s ∷ us) ≡ pick base-primary
  base-token b c (token.Word (word.Keyword keyword.New)) l s us h = absurd cc
  base-token b c (token.Word (word.Keyword keyword.Super)) l s us h = absurd cc
  base-token b c (token.Word (word.Keyword keyword.Import)) l s us h = absurd cc
  base-token b c t l s us h = refl

  pub primary-picks : (b : Bool) (c : Scope) (xs : List TokenAndSpan) → at_token (begins_primary c) (first xs) ≡ true
      → base {F = F} {C = C} {K = K} b c xs ≡ pick base-primary
  primary-picks b c [] h = refl
  primary-picks b c (a ∷ us) h = base-token b c a.token a.had_line_break a.span us h

  super-picks : (b : Bool) (c : Scope) (a : TokenAndSpan) (us : List TokenAndSpan) → is_super a.token ≡ true
      → base {F = F} {C = C} {K = K} b c (a ∷ us) ≡ super_base b (first us)
  super-picks b c a us h = rw (super-is a.token h) refl

  import-picks : (b : Bool) (c : Scope) (a : TokenAndSpan) (us : List TokenAndSpan) → is_import a.token ≡ true
      → base {F = F} {C = C} {K = K} b c (a ∷ us) ≡ import_base b (first us) (second us)
  import-picks b c a us h = rw (import-is a.token h) refl

  meta-picks : (b : Bool) (c : Scope) (t : TokenAndSpan) → is_meta t.token ≡ true
      → import_dot {F = F} {C = C} {K = K} b {c = c} (Some t) ≡ pick import-meta
  meta-picks true c t h = rw (no-source t.token h) refl
  meta-picks false c t h = refl

  pub picked-base : {b : Bool} {c : Scope} {r : Side F C K (Base b)} {xs ys : List TokenAndSpan} {t : Tree F C K}
      (p : Production (Base b) c r) → Follows hook (Base b) r xs ys t → base b c xs ≡ pick p
  picked-base {b = b} {c = c} base-primary (part {xs = xs} e d) = primary-picks b c xs (begins e)
  picked-base new-target (took (held h d)) = rw h refl
  picked-base {b = b} {c = c} super-name (took {a = a} (held h (took {a = e} {xs = us} (held i d)))) =
      super-picks b c a (e ∷ us) h ∙ rw i refl
  picked-base {b = b} {c = c} super-computed (took {a = a} (held h (took {a = e} {xs = us} (held i d)))) =
      super-picks b c a (e ∷ us) h
      ∙ rw (lbracket-is e.token i) refl
  picked-base {c = c} super-call (took {a = a} (held h (took {a = e} {xs = us} (held i d)))) =
      super-picks true c a (e ∷ us) h
      ∙ rw (lparen-is e.token i) refl
  picked-base {b = b} {c = c} import-meta
      (took {a = a} (held h (took {a = e} (held i (took {a = g} {xs = us} (held j d)))))) =
      import-picks b c a (e ∷ (g ∷ us)) h ∙ rw i (meta-picks b c g j)
  picked-base {c = c} import-call (took {a = a} (held h (took {a = e} {xs = us} (held i d)))) =
      import-picks true c a (e ∷ us) h
      ∙ rw (lparen-is e.token i) refl
  picked-base {c = c} import-source
      (took {a = a} (held h (took {a = e} (held i (took {a = g} {xs = us} (held j d)))))) =
      import-picks true c a (e ∷ (g ∷ us)) h ∙ rw (i, j) refl

  -- a base is not `new` with what it constructs
  pub base-no-new : {b : Bool} {c : Scope} {xs ys : List TokenAndSpan} {t : Tree F C K} → Reads hook (Base b) c xs ys t
      → begins_new xs ≡ false
  base-no-new {c = c} (by base-primary (part {xs = xs} e d)) = rw (no-new-first c xs (begins e)) refl
  base-no-new (by new-target (took (held h (took (held i d))))) = rw (h, i) refl
  base-no-new (by super-name (took {a = a} (held h d))) = rw (super-no-new a.token h) refl
  base-no-new (by super-computed (took {a = a} (held h d))) = rw (super-no-new a.token h) refl
  base-no-new (by super-call (took {a = a} (held h d))) = rw (super-no-new a.token h) refl
  base-no-new (by import-meta (took {a = a} (held h d))) = rw (import-no-new a.token h) refl
  base-no-new (by import-call (took {a = a} (held h d))) = rw (import-no-new a.token h) refl
  base-no-new (by import-source (took {a = a} (held h d))) = rw (import-no-new a.token h) refl

  pub ready-base : {b : Bool} {c : Scope} {r : Side F C K (Base b)} (ys : List TokenAndSpan) → Stop (Base b) c ys
      → Production (Base b) c r → Ready (Some 9) ys r
  ready-base ys stop base-primary = (refl, λ e. (stop, tt))
  ready-base ys stop new-target = λ a h b k d j n. tt
  ready-base ys stop (super-name {c = c}) = λ a h b k d. ready-given _ _ (any_name c d.token d.span) _ (λ n j o. tt)
  ready-base ys stop (super-computed {c = c}) =
      λ a h b k. (refl, λ e. (λ d us j o. quiet-rbracket (with_in c) d us j, λ d j o. tt))
  ready-base ys stop super-call = λ a h b k. (refl, λ es. (tt, tt))
  ready-base ys stop import-meta = λ a h b k d j n. tt
  ready-base ys stop import-call = λ a h b k. (refl, λ es. (λ n. tt, λ n. tt))
  ready-base ys stop import-source = λ a h b k d j g m. (refl, λ es. (λ n. tt, λ n. tt))

  pub name-next : (c : Scope) {s : Symbol} {k : TokenAndSpan → Spelling → Side F C K s} {xs ys : List TokenAndSpan}
      {t : Answer F C K s} → Follows hook s (take (λ a. given (any_name c a.token a.span) >>= k a)) xs ys t
      → (at_token is_hash (first xs) ≡ false) × (at_token is_lbracket (first xs) ≡ false)
      × (at_token is_lparen (first xs) ≡ false)
  name-next c (took {a = a} d) =
      let (n, h, e) = given-held (any_name c a.token a.span) _ d in
      word-alone a.token (name-first c a.token a.span n h)

  -- `?` and `.`, and what is after them
  pub chained : (b : Bool) (c : Scope) (a d : TokenAndSpan) (us : List TokenAndSpan) → is_question a.token ≡ true
      → is_dot d.token ≡ true → link {F = F} {C = C} {K = K} b c (a ∷ (d ∷ us)) ≡ chain_link (first us)
  chained b c a d us h k = rw (question-is a.token h) (rw k refl)
