-- What Complete needs of each production. Most of it computes, so one clause serves for most of them.
use Rattle.std.specs.Prelude.{◌≡◌, Bool, true, false, not, ◌&&◌, ◌||◌, if◌then◌else◌, List, [], ◌∷◌, Option, Some, None}
use Rattle.std.proofs.Common.{refl}
use Rattle.swc_context.specs.{declared.span.Span.Span, declared.word.Keyword.Keyword as keyword, declared.word.Word.Word as word}
use Rattle.swc_input.specs.{declared.token.Token.Token, declared.token.Token.Token as token, declared.token.TokenAndSpan.TokenAndSpan}
use Rattle.swc_ast.specs.Tree.{Tree}
use Rattle.swc_bodies.specs.Readings.{is_brace}
use Rattle.swc_grammar.specs.Scope.{Scope}
use Rattle.swc_grammar.specs.Rule.{given, ◌>>=◌, sees_two}
use Rattle.swc_grammar.specs.{Symbols.Symbol as ExprSymbol, Symbols.Expr, Symbols.Assign, Reads.at-end, Reads.at-stop, Reads.is_stop_for, ForHead.HeadStops, ForHead.head-end, ForHead.head-stop, ForHead.is_semi, ForHead.is_each, ForHead.is_in as is_in_for, Arrows.is_of, Tokens.is_in, Names.Spelling, Tokens.is_star, Tokens.is_rparen, Tokens.is_colon, Tokens.is_comma, Tokens.is_rbrace, Parts.any_name, Parts.binding}
use Rattle.program_grammar.specs.Tokens.{begins_anew, begins_item, ends_value, goes_on, may_end_at, string_of, export_name_of, label, is_var, is_let, is_const, is_case, is_default, is_let_declaration, is_renamed}
use Rattle.program_grammar.specs.Tree.{Code, is_target}
use Rattle.program_grammar.specs.Symbols.{Symbol, Side, Each, Three}
use Rattle.program_grammar.specs.Grammar.{after_string, after_head, head_code, name_scope, Production, string-first, no-string, items-more, item-statement, st-block, declarators, value-some, st-expression, end-semicolon, end-left-out, st-if, st-do, st-while, head-declared, head-empty, head-other, head-var, head-let, head-const, head-declarator, head-value-some, each-in, each-of, three-parts, maybe-some, label-some, returned-some, st-with, st-switch, clauses-more, clause-case, clause-default, st-labelled, st-throw, function-code, function-name, static-block, class-name, extends-some, members-more, one-member, member-keyed, accessor-other, member-private-key, member-field, item-import, import-alone, import-names, import-first, import-first-more, import-star, import-list, import-names-more, import-name, import-renamed, attributes-more, one-attribute, export-declared, default-expression, export-names-more, one-export, as-some, from-some}
use Rattle.program_grammar.specs.Clean.{rank}
use Rattle.program_grammar.proofs.Knot.{Sides}
use Rattle.program_grammar.proofs.Guard.{When, Unless, takes, is_open, ends, begins_so, starts, Ended, ended-hard, ended-soft, Unlinked, guard, Halting, by-token, by-guard, Ranked, Taking, given-halts, given-guard}

both : (a b : Bool) → (a && b) ≡ true → (a ≡ true) × (b ≡ true)
both true true h = (refl, refl)
both true false h = cc
both false b h = cc

is-off : (b : Bool) → not b ≡ true → b ≡ false
is-off true h = cc
is-off false h = refl

is-on : (b : Bool) → not b ≡ false → b ≡ true
is-on true h = refl
is-on false h = cc

neither : (a b : Bool) → (a || b) ≡ false → (a ≡ false) × (b ≡ false)
neither true b h = absurd cc
neither false b h = (refl, h)

-- ---- a symbol that comes first is of a lower rank
pub ranked : {F C K : Type 0} {s : Symbol} {c : Scope} {r : Side F C K s} → Production s c r → Ranked (Some (rank s)) r
ranked no-string = (refl, λ e. tt)
ranked items-more = (refl, tt)
ranked item-statement = (refl, tt)
ranked st-block = (refl, tt)
ranked declarators = (refl, tt)
ranked head-declared = (refl, tt)
ranked head-empty = (refl, tt)
ranked head-value-some = (refl, λ v. (refl, λ ds. tt))
ranked clauses-more = (refl, tt)
ranked function-code = (refl, λ a. tt)
ranked static-block = (refl, tt)
ranked members-more = (refl, tt)
ranked one-member = (refl, λ w. (refl, tt))
ranked member-keyed = (refl, λ a. (refl, λ g. (refl, λ x. (refl, tt))))
ranked accessor-other = (refl, λ s. tt)
ranked member-field = (refl, λ v. (refl, λ z. tt))
ranked import-names = (refl, tt)
ranked import-names-more = (refl, tt)
ranked attributes-more = (refl, tt)
ranked export-declared = (refl, tt)
ranked export-names-more = (refl, tt)
ranked p = tt

-- ---- a token is taken
pub taking : {F C K : Type 0} {s : Symbol} {c : Scope} {r : Side F C K s} → Production s c r → When (takes s) (Taking r)
taking function-code = λ a. tt
taking one-member = λ w. tt
taking member-keyed = λ a. λ g. λ x. tt
taking p = tt

-- ---- where parts stop
-- what comes next, of a side that may begin with these tokens
calm-here : (x y : Bool) → (not x && y) ≡ true → x ≡ false
calm-here true y h = cc
calm-here false y h = refl

here : (x y : Bool) → (not (not x) && y) ≡ true → x ≡ true
here true y h = refl
here false y h = cc

next-of : (x y : Bool) → (x && y) ≡ true → y ≡ true
next-of true y h = h
next-of false y h = cc

rparen-stop : (t : TokenAndSpan) → is_rparen t.token ≡ true → is_stop_for Expr t ≡ true
rparen-stop t h = by-sign t.token t.had_line_break t.span h
  where
    by-sign : (u : Token) (b : Bool) (s : Span) → is_rparen u ≡ true
        → is_stop_for Expr (record { token = u; had_line_break = b; span = s }) ≡ true
    by-sign token.RParen b s h = refl
    by-sign u b s h = absurd cc

colon-stop : (t : TokenAndSpan) → is_colon t.token ≡ true → is_stop_for Expr t ≡ true
colon-stop t h = by-sign t.token t.had_line_break t.span h
  where
    by-sign : (u : Token) (b : Bool) (s : Span) → is_colon u ≡ true
        → is_stop_for Expr (record { token = u; had_line_break = b; span = s }) ≡ true
    by-sign token.Colon b s h = refl
    by-sign u b s h = absurd cc

semi-stop : (t : TokenAndSpan) → is_semi t.token ≡ true → is_stop_for Expr t ≡ true
semi-stop t h = by-sign t.token t.had_line_break t.span h
  where
    by-sign : (u : Token) (b : Bool) (s : Span) → is_semi u ≡ true
        → is_stop_for Expr (record { token = u; had_line_break = b; span = s }) ≡ true
    by-sign token.Semi b s h = refl
    by-sign u b s h = absurd cc

rbrace-stop : (t : TokenAndSpan) → is_rbrace t.token ≡ true → is_stop_for Expr t ≡ true
rbrace-stop t h = by-sign t.token t.had_line_break t.span h
  where
    by-sign : (u : Token) (b : Bool) (s : Span) → is_rbrace u ≡ true
        → is_stop_for Expr (record { token = u; had_line_break = b; span = s }) ≡ true
    by-sign token.RBrace b s h = refl
    by-sign u b s h = absurd cc

-- an assignment expression stops where an expression does, and before a comma
or-so : (a b : Bool) → b ≡ true → (a || b) ≡ true
or-so true b h = refl
or-so false b h = h

either-so : (a b : Bool) → a ≡ true → (a || b) ≡ true
either-so true b h = refl
either-so false b h = cc

data Stopper : ExprSymbol → Type 0 where
  an-expression : Stopper Expr
  a-value : Stopper Assign

stop-in : {s : ExprSymbol} → Stopper s → (t : TokenAndSpan) → is_stop_for Expr t ≡ true → is_stop_for s t ≡ true
stop-in an-expression t h = h
stop-in a-value t h = or-so (is_comma t.token) _ h

module _ {F C K : Type 0} {c : Scope} {e : Tree F C K} where
  stopped : {s : ExprSymbol} (a : TokenAndSpan) (us : List TokenAndSpan) → is_stop_for s a ≡ true → Ended s c e (a ∷ us)
  stopped a us h = ended-hard (at-stop h)

  before-rparen : (y : Bool) (a : TokenAndSpan) (us : List TokenAndSpan) → (is_rparen a.token && y) ≡ true
      → Ended Expr c e (a ∷ us)
  before-rparen y a us h = stopped a us (rparen-stop a (both (is_rparen a.token) y h).0)

  -- before the end of a statement
  soft-or-hard : {s : ExprSymbol} → Stopper s → (a : TokenAndSpan) (us : List TokenAndSpan) → goes_on c e a ≡ false
      → (is_semi a.token || may_end_at a) ≡ true → Ended s c e (a ∷ us)
  soft-or-hard {s = s} z a us w h = by-test (is_semi a.token) (a.had_line_break && begins_item a.token)
      (is_rbrace a.token) refl refl refl h
    where
      by-test : (x y u : Bool) → is_semi a.token ≡ x → (a.had_line_break && begins_item a.token) ≡ y
          → is_rbrace a.token ≡ u → (x || (y || u)) ≡ true → Ended s c e (a ∷ us)
      by-test true y u p q r h = ended-hard (at-stop (stop-in z a (semi-stop a p)))
      by-test false true u p q r h =
          let (l, i) = both a.had_line_break (begins_item a.token) q in
          ended-soft l (either-so (begins_item a.token) _ i) w
      by-test false false true p q r h = ended-hard (at-stop (stop-in z a (rbrace-stop a r)))
      by-test false false false p q r h = absurd cc

  -- before what follows a value
  value-ends : (a : TokenAndSpan) (us : List TokenAndSpan) → goes_on c e a ≡ false → ends_value a ≡ true
      → Ended Assign c e (a ∷ us)
  value-ends a us w h = by-test (is_comma a.token) (is_semi a.token) (is_rbrace a.token)
      (a.had_line_break && begins_anew a.token) refl refl refl refl h
    where
      by-test : (x y z u : Bool) → is_comma a.token ≡ x → is_semi a.token ≡ y → is_rbrace a.token ≡ z
          → (a.had_line_break && begins_anew a.token) ≡ u → (x || (y || (z || u))) ≡ true → Ended Assign c e (a ∷ us)
      by-test true y z u p q r s h = ended-hard (at-stop (either-so (is_comma a.token) _ p))
      by-test false true z u p q r s h = ended-hard (at-stop (stop-in a-value a (semi-stop a q)))
      by-test false false true u p q r s h = ended-hard (at-stop (stop-in a-value a (rbrace-stop a r)))
      by-test false false false true p q r s h =
          let (l, i) = both a.had_line_break (begins_anew a.token) s in ended-soft l i w
      by-test false false false false p q r s h = absurd cc

  maybe-ends : (b : Bool) (a : TokenAndSpan) (us : List TokenAndSpan)
      → (if b then is_semi a.token else is_rparen a.token) ≡ true → Ended Expr c e (a ∷ us)
  maybe-ends true a us h = stopped a us (semi-stop a h)
  maybe-ends false a us h = stopped a us (rparen-stop a h)

unlinked : (a : TokenAndSpan) (us : List TokenAndSpan) → is_brace a.token ≡ true → Unlinked (a ∷ us)
unlinked a us h = by-sign a.token a.had_line_break a.span h
  where
    by-sign : (u : Token) (b : Bool) (s : Span) → is_brace u ≡ true
        → Unlinked (record { token = u; had_line_break = b; span = s } ∷ us)
    by-sign token.LBrace b s h = record { none = refl }
    by-sign u b s h = absurd cc

-- a head before `of`, `in` or `;`
head-ends : (b a : Bool) (t : TokenAndSpan) (us : List TokenAndSpan)
    → starts (if b then Each a else Three a) (t ∷ us) ≡ true → HeadStops (t ∷ us)
head-ends true a t us h = head-stop (either-so (is_each t) _ h)
head-ends false a t us h = head-stop (or-so (is_each t) _ (either-so (is_semi t.token) _ h))

closed-string : (X : Type 0) (m b : Bool) → When (is_open (after_string m b)) X
closed-string X m true = tt
closed-string X m false = tt

closed-head : {F C K : Type 0} (X : Type 0) (a : Bool) (d : Code F C K) → When (is_open (after_head a d)) X
closed-head X a d = by-test (is_target d)
  where
    by-test : (b : Bool) → When (is_open (if b then Each a else Three a)) X
    by-test true = tt
    by-test false = tt

taken-head : {F C K : Type 0} (X : Type 0) (a : Bool) (d : Code F C K) → Unless (takes (after_head a d)) X
taken-head X a d = by-test (is_target d)
  where
    by-test : (b : Bool) → Unless (takes (if b then Each a else Three a)) X
    by-test true = tt
    by-test false = tt

pub halting : {F C K : Type 0} {s : Symbol} {c : Scope} {r : Side F C K s} → Production s c r → Halting (ends s) r
halting {c = c} (string-first {m = m}) = λ e s. (
  λ g. ended-hard at-end,
  λ t us g. soft-or-hard an-expression t us (calm-here (goes_on c e t) _ g) (next-of (not (goes_on c e t)) _ g),
  λ z. (tt, λ is. (closed-string _ m _, tt)),
)
halting {c = c} value-some = λ a. λ e s. (
  λ g. ended-hard at-end,
  λ t us g. value-ends t us (calm-here (goes_on c e t) _ g) (here (ends_value t) _ (next-of (not (goes_on c e t)) _ g)),
  tt,
)
halting {c = c} st-expression = λ e s. (
  λ g. ended-hard at-end,
  λ t us g. soft-or-hard an-expression t us (calm-here (goes_on c e t) _ g) (next-of (not (goes_on c e t)) _ g),
  λ z. (tt, tt),
)
halting st-if = λ a. λ b. λ e s. (λ g. ended-hard at-end, λ t us g. before-rparen _ t us g, λ d. λ x. (tt, λ y. (tt, tt)))
halting st-do = λ a. λ x. (tt, λ w. λ l. λ e s. (λ g. ended-hard at-end, λ t us g. before-rparen _ t us g, λ d. λ z. (tt, tt)))
halting st-while = λ a. λ b. λ e s. (λ g. ended-hard at-end, λ t us g. before-rparen _ t us g, λ d. λ x. (tt, tt))
halting (head-declared {a = a}) = λ d. (by-token (taken-head _ a d), λ r. (closed-head _ a d, tt))
halting (head-other {a = a}) = λ h s. (
  λ g. head-end,
  λ t us g. head-ends (is_target (head_code h)) a t us g,
  λ r. (closed-head _ a (head_code h), tt),
)
halting head-var = λ a. λ d. (by-guard (λ ms h. h), tt)
halting head-let = λ a. λ d. (by-guard (λ ms h. h), tt)
halting head-const = λ a. λ d. (by-guard (λ ms h. h), tt)
halting head-declarator = λ v s. (λ g. tt, λ t us g. tt, λ x. (by-guard (λ ms h. h), tt))
halting each-in = λ a. λ e s.
    (λ g. ended-hard at-end, λ t us g. stopped t us (rparen-stop t (here (is_rparen t.token) _ g)), tt)
halting each-of = λ a. λ e s. (
  λ g. ended-hard at-end,
  λ t us g. stopped t us (stop-in a-value t (rparen-stop t (here (is_rparen t.token) _ g))),
  tt,
)
halting (maybe-some {b = b}) = λ e s. (
  λ g. ended-hard at-end,
  λ t us g. maybe-ends b t us (here (if b then is_semi t.token else is_rparen t.token) _ g),
  tt,
)
halting {c = c} label-some = λ a. given-halts _ (label c a.token a.span) _ (λ n. tt)
halting {c = c} returned-some = λ e s. (
  λ g. ended-hard at-end,
  λ t us g. soft-or-hard an-expression t us (calm-here (goes_on c e t) _ g)
      (here (is_semi t.token || may_end_at t) _ (next-of (not (goes_on c e t)) _ g)),
  tt,
)
halting st-with = λ a. λ b. λ e s. (λ g. ended-hard at-end, λ t us g. before-rparen _ t us g, λ d. λ x. (tt, tt))
halting st-switch = λ a. λ b. λ e s. (λ g. ended-hard at-end, λ t us g. before-rparen _ t us g, λ d. λ f. λ x. (tt, tt))
halting clause-case = λ a. λ e s.
    (λ g. ended-hard at-end, λ t us g. stopped t us (colon-stop t (both (is_colon t.token) _ g).0), λ d. λ is. (tt, tt))
halting {c = c} st-labelled = λ a. given-halts _ (label c a.token a.span) _ (λ n. λ b. λ t. (tt, tt))
halting {c = c} st-throw = λ a. λ e s. (
  λ g. ended-hard at-end,
  λ t us g. soft-or-hard an-expression t us (calm-here (goes_on c e t) _ g) (next-of (not (goes_on c e t)) _ g),
  λ z. (tt, tt),
)
halting {c = c} function-name = λ a. given-halts _ (binding (name_scope c) a.token a.span) _ (λ n. tt)
halting {c = c} class-name = λ a. given-halts _ (binding c a.token a.span) _ (λ n. tt)
halting extends-some = λ a. λ e s.
    (λ g. record { none = refl }, λ t us g. unlinked t us (here (is_brace t.token) _ g), tt)
halting one-member = λ w. (by-token tt, λ m. (tt, tt))
halting member-keyed =
    λ a. (by-token (λ g. λ x. tt), λ g. (tt, λ x. (by-token tt, λ k. (tt, λ v. (tt, tt)))))
halting accessor-other = λ s. (by-guard (λ ms h. h), tt)
halting {c = c} member-private-key = λ a. λ b. given-halts _ (any_name c b.token b.span) _ (λ n. tt)
halting item-import =
    λ a. λ x. (by-token tt, λ b. given-halts _ (string_of b.token b.span) _ (λ f. λ w. (tt, λ z. (tt, tt))))
halting {c = c} import-first = λ a. given-halts _ (binding c a.token a.span) _ (λ n. λ b. tt)
halting {c = c} import-first-more =
    λ a. given-halts _ (binding c a.token a.span) _ (λ n. λ b. λ ns. (tt, λ d. tt))
halting {c = c} import-star = λ a. λ b. λ d. given-halts _ (binding c d.token d.span) _ (λ n. tt)
halting {c = c} import-name = λ a. given-halts _ (binding c a.token a.span) _ (λ n. tt)
halting {c = c} import-renamed = λ a. given-halts _ (export_name_of a.token a.span) _
    (λ x. λ b. λ d. given-halts _ (binding c d.token d.span) _ (λ n. tt))
halting one-attribute = λ a. given-halts _ (export_name_of a.token a.span) _
    (λ x. λ b. λ d. given-halts _ (string_of d.token d.span) _ (λ v. tt))
halting {c = c} default-expression = λ e s. (
  λ g. ended-hard at-end,
  λ t us g. soft-or-hard a-value t us (calm-here (goes_on c e t) _ g) (next-of (not (goes_on c e t)) _ g),
  λ z. (tt, tt),
)
halting one-export = λ a. given-halts _ (export_name_of a.token a.span) _ (λ n. λ x. (tt, tt))
halting as-some = λ a. λ b. given-halts _ (export_name_of b.token b.span) _ (λ n. tt)
halting from-some = λ a. λ b. given-halts _ (string_of b.token b.span) _ (λ f. λ w. (tt, tt))
halting p = assumption

-- ---- with which tokens a symbol begins
each-is : (t : Token) → is_in t ≡ true → is_in_for t ≡ true
each-is (token.Word (word.Keyword keyword.In)) h = refl
each-is t h = absurd cc

no-rbrace : {D : Type 0} (t : Token) (s : Span) (f : Token → Span → Option D) (x : D)
    → ((u : Token) → is_rbrace u ≡ true → f u s ≡ None) → f t s ≡ Some x → not (is_rbrace t) ≡ true
no-rbrace t s f x k h = by-test (is_rbrace t) refl
  where
    by-test : (b : Bool) → is_rbrace t ≡ b → not b ≡ true
    by-test false e = refl
    by-test true e = let n = k t e in absurd cc

no-bound-brace : (c : Scope) (s : Span) (u : Token) → is_rbrace u ≡ true → binding c u s ≡ None
no-bound-brace c s token.RBrace h = refl
no-bound-brace c s u h = absurd cc

no-exported-brace : {F C K : Type 0} (s : Span) (u : Token) → is_rbrace u ≡ true
    → export_name_of {F = F} {C = C} {K = K} u s ≡ None
no-exported-brace s token.RBrace h = refl
no-exported-brace s u h = absurd cc

exported-so : {F C K A : Type 0} (k : List TokenAndSpan → Bool) (a : TokenAndSpan)
    (f : Code F C K → Sides F C K A) (us : List TokenAndSpan)
    → guard k (given (export_name_of a.token a.span) >>= f) us ≡ true → not (is_rbrace a.token) ≡ true
exported-so k a f us g =
    let (x, o, h) = given-guard k (export_name_of a.token a.span) f us g in
    no-rbrace a.token a.span export_name_of x (no-exported-brace a.span) o

bound-so : {F C K A : Type 0} (k : List TokenAndSpan → Bool) (c : Scope) (a : TokenAndSpan)
    (f : Spelling → Sides F C K A) (us : List TokenAndSpan)
    → guard k (given (binding c a.token a.span) >>= f) us ≡ true → not (is_rbrace a.token) ≡ true
bound-so k c a f us g =
    let (x, o, h) = given-guard k (binding c a.token a.span) f us g in
    no-rbrace a.token a.span (binding c) x (no-bound-brace c a.span) o

no-clause-brace : (u : Token) → (is_case u || is_default u) ≡ true → not (is_rbrace u) ≡ true
no-clause-brace (token.Word w) h = refl
no-clause-brace u h = absurd cc

pub begun-so : {F C K : Type 0} {s : Symbol} {c : Scope} {r : Side F C K s} (p : Production s c r)
    (xs : List TokenAndSpan) → ends s xs ≡ true → guard (ends s) r xs ≡ true → begins_so s xs ≡ true
begun-so end-semicolon [] e h = cc
begun-so end-semicolon (a ∷ us) e h = either-so (is_semi a.token) _ (both (is_semi a.token) _ h).0
begun-so end-left-out [] e h = refl
begun-so end-left-out (a ∷ us) e h =
    let x = is-off _ (both (not (is_semi a.token || not (may_end_at a))) _ h).0 in
    or-so (is_semi a.token) _ (is-on (may_end_at a) (neither (is_semi a.token) _ x).1)
begun-so head-var [] e h = cc
begun-so head-var (a ∷ us) e h = either-so (is_var a.token) _ (both (is_var a.token) _ h).0
begun-so head-let [] e h = cc
begun-so head-let (a ∷ []) e h = let (x, y) = both (is_let a.token) _ h in cc
begun-so head-let (a ∷ (b ∷ us)) e h =
    or-so (is_var a.token) _ (or-so (is_const a.token) _
    (is-on (is_let_declaration a b) (is-off _ (both (not (not (is_let_declaration a b))) _ h).0)))
begun-so head-const [] e h = cc
begun-so head-const (a ∷ us) e h =
    or-so (is_var a.token) _ (either-so (is_const a.token) _ (both (is_const a.token) _ h).0)
begun-so each-in [] e h = cc
begun-so each-in (a ∷ us) e h = or-so (is_of a.token) _ (each-is a.token (both (is_in a.token) _ h).0)
begun-so each-of [] e h = cc
begun-so each-of (a ∷ us) e h = either-so (is_of a.token) _ (both (is_of a.token) _ h).0
begun-so three-parts [] e h = cc
begun-so three-parts (a ∷ us) e h = (both (is_semi a.token) _ h).0
begun-so clause-case [] e h = refl
begun-so clause-case (a ∷ us) e h =
    no-clause-brace a.token (either-so (is_case a.token) _ (both (is_case a.token) _ h).0)
begun-so clause-default [] e h = refl
begun-so clause-default (a ∷ us) e h =
    no-clause-brace a.token (or-so (is_case a.token) _ (both (is_default a.token) _ h).0)
begun-so import-alone xs e h = e
begun-so import-names xs e h = e
begun-so import-first xs e h = e
begun-so import-first-more xs e h = e
begun-so import-star [] e h = cc
begun-so import-star (a ∷ us) e h = either-so (is_star a.token) _ (both (is_star a.token) _ h).0
begun-so import-list [] e h = cc
begun-so import-list (a ∷ us) e h = or-so (is_star a.token) _ (both (is_brace a.token) _ h).0
begun-so import-name [] e h = refl
begun-so {c = c} import-name (a ∷ us) e h =
    bound-so _ c a _ us (both (not (sees_two is_renamed (a ∷ us))) _ h).1
begun-so import-renamed [] e h = refl
begun-so import-renamed (a ∷ us) e h =
    exported-so _ a _ us (both (not (sees_two (λ t u. not (is_renamed t u)) (a ∷ us))) _ h).1
begun-so one-attribute [] e h = refl
begun-so one-attribute (a ∷ us) e h = exported-so _ a _ us h
begun-so one-export [] e h = refl
begun-so one-export (a ∷ us) e h = exported-so _ a _ us h
begun-so p xs e h = refl
