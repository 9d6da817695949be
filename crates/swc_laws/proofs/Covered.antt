-- What the cover law claims of each symbol, and how claims are put together.
use Rattle.std.specs.Prelude.{◌≡◌, ℕ, Bool, true, false, List, ◌∷◌, Option, Some, None}
use Rattle.std.proofs.Common.{refl, sym, ap, subst, ◌∙◌}
use Rattle.swc_context.specs.{declared.operator.AssignOp.AssignOp, declared.operator.AssignOp.AssignOp as write, declared.span.Span.Span}
use Rattle.swc_input.specs.{declared.token.Token.Token, declared.token.Token.Token as token, declared.token.TokenAndSpan.TokenAndSpan}
use Rattle.swc_ast.specs.Targets.{is_target as is_simple_target}
use Rattle.swc_ast.specs.Tree.{Tree, node, Trees, nil, cons, span_of, erase, erase_all, no_span, ident, array_with, object_with, assign, rest, dots, hole}
use Rattle.swc_ast.specs.Trees.{items_of, comma_of, hole_e, is_ident, prop_of, value_e, last_comma}
use Rattle.swc_ast.specs.Patterns.{rest_p, put_element, holds_ident}
use Rattle.swc_bodies.specs.Readings.{Hook}
use Rattle.swc_grammar.specs.Symbols.{Symbol, Assign, Level, Unary, Lhs, Left, Base, Args, ArgsTail, Primary, Literal, Template, Elements, ElementsTail, Item, Props, PropsTail, Prop, AfterKey, Shell, Answer, Pat, Element, Rest, PatElements, PatElementsTail, PatProps, PatPropsTail, PatProp, Params, ParamsTail}
use Rattle.swc_grammar.specs.Tokens.{with_in, assign_of, is_equals, is_rbracket, is_rbrace, is_rparen, is_colon, is_dots}
use Rattle.swc_grammar.specs.Patterns.{binds_names, all_bind_names, props_bind_names, prop_binds_names}
use Rattle.swc_grammar.specs.Cover.{Role, target, binding, as_pat, as_elements, as_element, as_props, as_prop, is_pattern, is_assign, is_plain_assign, is_last, is_hole, is_rest_of}
use Rattle.swc_grammar.specs.Reads.{Reads, by, gave, took, held, part}
use Rattle.swc_grammar.specs.{Scope.Scope, Scope.inner, Grammar.element-pat, Grammar.pat-rest}
use Rattle.swc_grammar.proofs.{Answers.inj, Answers.both, Related.bind-some}
use Rattle.swc_laws.specs.Bound.{may_be_bound}
use Rattle.swc_laws.proofs.Closed.{is_open}

module _ {F C K : Type 0} where
  -- places taken away
  pub joined : (p q : Tree F C K) (ps qs : Trees F C K) → erase p ≡ erase q → erase_all ps ≡ erase_all qs
      → erase_all (cons p ps) ≡ erase_all (cons q qs)
  joined p q ps qs h k = cc

  pub put-same : (ps qs : Trees F C K) → erase_all ps ≡ erase_all qs
      → erase_all (put_element true hole_e ps) ≡ erase_all (put_element true hole_e qs)
  put-same nil nil h = refl
  put-same nil (cons q qs) h = absurd cc
  put-same (cons p ps) nil h = absurd cc
  put-same (cons p ps) (cons q qs) h = ap (λ v. cons (node hole no_span nil) v) h

  pub put-bound : (ok : List ℕ → Bool) (ps : Trees F C K) → all_bind_names ok (put_element true hole_e ps) ≡ true
      → all_bind_names ok ps ≡ true
  put-bound ok nil h = refl
  put-bound ok (cons p ps) h = h

  pub ident-erased : (t : Tree F C K) → is_ident (erase t) ≡ is_ident t
  ident-erased (node (ident name) s ts) = refl
  ident-erased (node k s ts) = refl

  pub holds-erased : (t : Tree F C K) → holds_ident (erase t) ≡ holds_ident t
  holds-erased (node rest s (cons d (cons p ps))) = ident-erased p
  holds-erased (node rest s (cons d nil)) = refl
  holds-erased (node rest s nil) = refl
  holds-erased (node k s ts) = refl

  pub last-none : (comma : Option Span) (ts : Trees F C K) → is_last comma ts ≡ true → ts ≡ nil
  last-none None nil h = refl
  last-none None (cons t ts) h = absurd cc
  last-none (Some s) ts h = absurd cc

  -- a comma after a list of no parts changes nothing
  pub elements-behind : (m : Role) (s : Span) (comma : Option Span) (ts : Trees F C K)
      → as_elements m (last_comma s comma ts) ts ≡ as_elements m comma ts
  elements-behind m s comma nil = refl
  elements-behind m s comma (cons t ts) = refl

  pub props-behind : (m : Role) (s : Span) (comma : Option Span) (ts : Trees F C K)
      → as_props m (last_comma s comma ts) ts ≡ as_props m comma ts
  props-behind m s comma nil = refl
  props-behind m s comma (cons t ts) = refl

  pub never-last : (s : Span) (comma : Option Span) (ts : Trees F C K) → is_last (last_comma s comma ts) ts ≡ true → ⊥
  never-last s comma nil h = cc
  never-last s None (cons t ts) h = cc
  never-last s (Some s') (cons t ts) h = cc

  -- kinds of trees
  pub target-no-pattern : (strict : Bool) (t : Tree F C K) → is_simple_target strict t ≡ true → is_pattern t ≡ false
  target-no-pattern strict (node (array_with comma) s ts) h = absurd cc
  target-no-pattern strict (node (object_with comma) s ts) h = absurd cc
  target-no-pattern strict (node k s ts) h = refl

  pub rest-no-assign : (m : Role) (e : Tree F C K) → is_rest_of m e ≡ true → is_assign e ≡ false
  rest-no-assign m (node (assign op) s ts) h = by-role m h
    where
      by-role : (m : Role) → is_rest_of m (node (assign op) s ts) ≡ true → true ≡ false
      by-role (target strict) h = absurd cc
      by-role binding h = absurd cc
  rest-no-assign m (node k s ts) h = refl

pub plain-equals : (t : Token) (op : AssignOp) → assign_of t ≡ Some op → is_plain_assign op ≡ true → is_equals t ≡ true
plain-equals (token.AssignOp o) op h k = op-equals o (subst (λ v. is_plain_assign v ≡ true) (sym (inj o op h)) k)
  where
    op-equals : (o : AssignOp) → is_plain_assign o ≡ true → is_equals (token.AssignOp o) ≡ true
    op-equals write.Assign h = refl
    op-equals o h = absurd cc
plain-equals t op h k = absurd cc

module _ {F C K : Type 0} (hook : Hook F C K) where
  -- The same tokens are a pattern, that is p but for places; or patterns ps.
  pub record Covers (s : Symbol) (c : Scope) (xs ys : List TokenAndSpan) (p : Tree F C K) : Type 0 where
    pub tree : Tree F C K
    pub read : Reads hook s c xs ys tree
    pub same : erase p ≡ erase tree

  pub record CoversAll (s : Symbol) (c : Scope) (xs ys : List TokenAndSpan) (ps : Trees F C K) : Type 0 where
    pub tree : Tree F C K
    pub read : Reads hook s c xs ys tree
    pub same : erase_all ps ≡ erase_all (items_of tree)

  -- an assignment is a pattern with its initialiser
  pub data Found (c : Scope) (xs ys : List TokenAndSpan) (e p : Tree F C K) : Type 0 where
    alone : Covers Pat c xs ys p → Found c xs ys e p
    with-default : is_assign e ≡ true → Covers Element c xs ys p → Found c xs ys e p

  -- a part of a list, which is a rest at the end alone
  pub data Part (s : Symbol) (c : Scope) (xs ys : List TokenAndSpan) (is_end : Bool) (p : Tree F C K) : Type 0 where
    plain : Covers s c xs ys p → Part s c xs ys is_end p
    dotted : is_end ≡ true → Covers Rest c xs ys p → Part s c xs ys is_end p

  pub data PropPart (c : Scope) (xs ys : List TokenAndSpan) (is_end : Bool) (p : Tree F C K) : Type 0 where
    plain-prop : Covers PatProp c xs ys p → PropPart c xs ys is_end p
    dotted-prop : is_end ≡ true → holds_ident p ≡ true → Covers Rest c xs ys p → PropPart c xs ys is_end p

  -- what closes a list is here
  abbrev pub Closes : (Token → Bool) → List TokenAndSpan → List TokenAndSpan → Type 0
  Closes closer xs ys = (a : TokenAndSpan) × (closer a.token ≡ true) × (xs ≡ a ∷ ys)

  abbrev pub bound : Scope → List ℕ → Bool
  bound c name = may_be_bound c.context name

  -- the claims
  abbrev pub PatLaw : Scope → List TokenAndSpan → List TokenAndSpan → Tree F C K → Type 0
  PatLaw d xs ys e = (m : Role) (c : Scope) → inner d ≡ with_in c → (p : Tree F C K) → as_pat m e ≡ Some p
      → binds_names (bound c) p ≡ true → Covers Pat c xs ys p

  abbrev pub AssignLaw : Scope → List TokenAndSpan → List TokenAndSpan → Tree F C K → Type 0
  AssignLaw d xs ys e = (m : Role) (c : Scope) → d ≡ with_in c → (p : Tree F C K) → as_pat m e ≡ Some p
      → binds_names (bound c) p ≡ true → Found c xs ys e p

  abbrev pub ItemLaw : Scope → List TokenAndSpan → List TokenAndSpan → Tree F C K → Type 0
  ItemLaw d xs ys t = (is_hole t ≡ false) × ((m : Role) (c : Scope) → d ≡ with_in c → (is_end : Bool) (p : Tree F C K)
      → as_element m is_end t ≡ Some p → binds_names (bound c) p ≡ true → Part Element c xs ys is_end p)

  abbrev pub ListLaw : Symbol → Scope → List TokenAndSpan → List TokenAndSpan → Tree F C K → Type 0
  ListLaw s d xs ys es = (m : Role) (c : Scope) → d ≡ with_in c → (ps : Trees F C K)
      → as_elements m (comma_of es) (items_of es) ≡ Some ps → all_bind_names (bound c) ps ≡ true
      → CoversAll s c xs ys ps

  abbrev pub Ends : (Token → Bool) → List TokenAndSpan → List TokenAndSpan → Tree F C K → Type 0
  Ends closer xs ys es = is_last (comma_of es) (items_of es) ≡ true → Closes closer xs ys

  abbrev pub PropLaw : Scope → List TokenAndSpan → List TokenAndSpan → Tree F C K → Type 0
  PropLaw d xs ys t = (m : Role) (c : Scope) → d ≡ with_in c → (is_end : Bool) (p : Tree F C K)
      → as_prop m is_end t ≡ Some p → prop_binds_names (bound c) p ≡ true → PropPart c xs ys is_end p

  abbrev pub PropsLaw : Symbol → Scope → List TokenAndSpan → List TokenAndSpan → Tree F C K → Type 0
  PropsLaw s d xs ys es = (m : Role) (c : Scope) → d ≡ with_in c → (ps : Trees F C K)
      → as_props m (comma_of es) (items_of es) ≡ Some ps → props_bind_names (bound c) ps ≡ true → CoversAll s c xs ys ps

  -- after a key: a value, or what makes no pattern
  pub data After (d : Scope) (ys : List TokenAndSpan) : List TokenAndSpan → Tree F C K → Type 0 where
    valued : {a : TokenAndSpan} {ms : List TokenAndSpan} {e : Tree F C K} → is_colon a.token ≡ true
        → AssignLaw (with_in d) ms ys e → After d ys (a ∷ ms) (value_e (span_of e) e)
    method : {xs : List TokenAndSpan} {x : Tree F C K}
        → ((k : Tree F C K) (m : Role) (is_end : Bool) → as_prop m is_end (prop_of k x) ≡ None) → After d ys xs x

  abbrev pub Law : (s : Symbol) → Scope → List TokenAndSpan → List TokenAndSpan → Answer F C K s → Type 0
  Law Assign d xs ys t = AssignLaw d xs ys t
  Law (Level k) d xs ys t = PatLaw d xs ys t
  Law Unary d xs ys t = PatLaw d xs ys t
  Law (Lhs b) d xs ys t = PatLaw d xs ys t
  Law (Left b) d xs ys t = PatLaw d xs ys t
  Law (Base b) d xs ys t = PatLaw d xs ys t
  Law Primary d xs ys t = PatLaw d xs ys t
  Law Literal d xs ys t = is_open t ≡ false
  Law (Template b) d xs ys t = is_open t ≡ false
  Law Item d xs ys t = ItemLaw d xs ys t
  Law Elements d xs ys t = ListLaw PatElements d xs ys t
  Law ElementsTail d xs ys t = ListLaw PatElementsTail d xs ys t × Ends is_rbracket xs ys t
  Law (Args i) d xs ys t = ListLaw Params d xs ys t
  Law (ArgsTail i) d xs ys t = ListLaw ParamsTail d xs ys t × Ends is_rparen xs ys t
  Law Props d xs ys t = PropsLaw PatProps d xs ys t
  Law PropsTail d xs ys t = PropsLaw PatPropsTail d xs ys t × Ends is_rbrace xs ys t
  Law Prop d xs ys t = PropLaw d xs ys t
  Law AfterKey d xs ys t = After d ys xs t
  Law (Shell is_async is_generator) d xs ys t =
      (k : Tree F C K) (m : Role) (is_end : Bool) → as_prop m is_end (prop_of k t) ≡ None
  Law s d xs ys t = Unit {0}

  -- a pattern with or without an initialiser is an element, and without a pattern
  pub element-of : {c : Scope} {xs ys : List TokenAndSpan} {e p : Tree F C K} → Found c xs ys e p
      → Covers Element c xs ys p
  element-of (alone v) = record { tree = v.tree; read = by element-pat (part v.read gave); same = v.same }
  element-of (with-default h v) = v

  pub pattern-of : {c : Scope} {xs ys : List TokenAndSpan} {e p : Tree F C K} → is_assign e ≡ false → Found c xs ys e p
      → Covers Pat c xs ys p
  pattern-of n (alone v) = v
  pattern-of n (with-default h v) = absurd cc

  -- a pattern after dots
  pub rest-of : {c : Scope} {a : TokenAndSpan} {xs ys : List TokenAndSpan} {p : Tree F C K} (s : Span)
      → is_dots a.token ≡ true → Covers Pat c xs ys p → Covers Rest c (a ∷ xs) ys (rest_p s (node dots a.span nil) p)
  rest-of s h v = record {
    tree = _;
    read = by pat-rest (took (held h (part v.read gave)));
    same = ap (λ w. node rest no_span (cons (node dots no_span nil) (cons w nil))) v.same;
  }

  -- A part, and then those of a list: the tail's claim and how the whole is read give the whole's claim.
  pub elements-law : {s s' : Symbol} (closer : Token → Bool) {d : Scope} {xs ms ys : List TokenAndSpan}
      (t es : Tree F C K)
      → ((c : Scope) (p : Tree F C K) (ps : Trees F C K) → Covers Element c xs ms p → CoversAll s' c ms ys ps
      → CoversAll s c xs ys (cons p ps))
      → ((c : Scope) (p : Tree F C K) → Covers Rest c xs ms p → Closes closer ms ys → CoversAll s c xs ys (cons p nil))
      → ItemLaw d xs ms t → ListLaw s' d ms ys es → Ends closer ms ys es
      → (m : Role) (c : Scope) → d ≡ with_in c → (ps : Trees F C K)
      → as_elements m (comma_of es) (cons t (items_of es)) ≡ Some ps → all_bind_names (bound c) ps ≡ true
      → CoversAll s c xs ys ps
  elements-law {s = s} closer {d = d} {xs = xs} {ms = ms} {ys = ys} t es join close item tail ends m c e ps h b =
      let (p, h1, h2) = bind-some (as_element m (is_last (comma_of es) (items_of es)) t) _ h in
      let (qs, h3, h4) = bind-some (as_elements m (comma_of es) (items_of es)) _ h2 in
      let k : cons p qs ≡ ps = inj (cons p qs) ps (ap (λ v. Some (put_element v p qs)) (sym item.0) ∙ h4) in
      let (bp, bq) =
      both (binds_names (bound c) p) (all_bind_names (bound c) qs)
      (subst (λ v. all_bind_names (bound c) v ≡ true) (sym k) b) in
      subst (λ v. CoversAll s c xs ys v) k (by-part p qs h3 bq (item.1 m c e _ p h1 bp))
    where
      by-part : (p : Tree F C K) (qs : Trees F C K) → as_elements m (comma_of es) (items_of es) ≡ Some qs
          → all_bind_names (bound c) qs ≡ true → Part Element c xs ms (is_last (comma_of es) (items_of es)) p
          → CoversAll s c xs ys (cons p qs)
      by-part p qs h3 bq (plain v) = join c p qs v (tail m c e qs h3 bq)
      by-part p qs h3 bq (dotted l v) =
          let n = last-none (comma_of es) (items_of es) l in
          let k : nil ≡ qs = inj nil qs (subst (λ v. as_elements m (comma_of es) v ≡ Some qs) n h3) in
          subst (λ w. CoversAll s c xs ys (cons p w)) k (close c p v (ends l))

  pub props-law : {s s' : Symbol} (closer : Token → Bool) {d : Scope} {xs ms ys : List TokenAndSpan} (t es : Tree F C K)
      → ((c : Scope) (p : Tree F C K) (ps : Trees F C K) → Covers PatProp c xs ms p → CoversAll s' c ms ys ps
      → CoversAll s c xs ys (cons p ps))
      → ((c : Scope) (p : Tree F C K) → holds_ident p ≡ true → Covers Rest c xs ms p → Closes closer ms ys
      → CoversAll s c xs ys (cons p nil)) → PropLaw d xs ms t → PropsLaw s' d ms ys es → Ends closer ms ys es
      → (m : Role) (c : Scope) → d ≡ with_in c → (ps : Trees F C K)
      → as_props m (comma_of es) (cons t (items_of es)) ≡ Some ps → props_bind_names (bound c) ps ≡ true
      → CoversAll s c xs ys ps
  props-law {s = s} closer {d = d} {xs = xs} {ms = ms} {ys = ys} t es join close prop tail ends m c e ps h b =
      let (p, h1, h2) = bind-some (as_prop m (is_last (comma_of es) (items_of es)) t) _ h in
      let (qs, h3, h4) = bind-some (as_props m (comma_of es) (items_of es)) _ h2 in
      let k : cons p qs ≡ ps = inj (cons p qs) ps h4 in
      let (bp, bq) =
      both (prop_binds_names (bound c) p) (props_bind_names (bound c) qs)
      (subst (λ v. props_bind_names (bound c) v ≡ true) (sym k) b) in
      subst (λ v. CoversAll s c xs ys v) k (by-part p qs h3 bq (prop m c e _ p h1 bp))
    where
      by-part : (p : Tree F C K) (qs : Trees F C K) → as_props m (comma_of es) (items_of es) ≡ Some qs
          → props_bind_names (bound c) qs ≡ true → PropPart c xs ms (is_last (comma_of es) (items_of es)) p
          → CoversAll s c xs ys (cons p qs)
      by-part p qs h3 bq (plain-prop v) = join c p qs v (tail m c e qs h3 bq)
      by-part p qs h3 bq (dotted-prop l i v) =
          let n = last-none (comma_of es) (items_of es) l in
          let k : nil ≡ qs = inj nil qs (subst (λ v. as_props m (comma_of es) v ≡ Some qs) n h3) in
          subst (λ w. CoversAll s c xs ys (cons p w)) k (close c p i v (ends l))
