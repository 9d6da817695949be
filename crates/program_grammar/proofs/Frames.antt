-- The steps of the code on its frames: what the old frames read, the new ones read of the tokens that are left.
use Rattle.std.specs.Prelude.{◌≡◌, ℕ, Bool, true, false, not, List, [], ◌∷◌, Option, Some, None, length, suc, nat_lt, if◌then◌else◌}
use Rattle.std.proofs.Common.{refl, sym as sym_path, ap, ◌∙◌}
use Rattle.std.proofs.lemmas.Bool.{lt-ltb}
use Rattle.swc_context.specs.{declared.span.Span.Span, declared.word.Keyword.Keyword as keyword, declared.word.Word.Word as word}
use Rattle.swc_input.specs.{declared.token.Token.Token as token, declared.token.TokenAndSpan.TokenAndSpan, Kinds.at_token}
use Rattle.swc_ast.specs.{Tree.Tree, Trees.to}
use Rattle.swc_bodies.specs.Readings.{Hook, is_brace}
use Rattle.swc_grammar.specs.Rule.{gives, never, take, check, peek, peek_two, read, hear, ◌>>=◌, ◌>>◌, symbol, ahead, token as token_that, given, body as other, sees, sees_two}
use Rattle.swc_grammar.specs.{Scope.Scope, Names.Spelling, Clean.Out, Clean.and_then, Clean.first, Clean.hear_then, ForHead.is_semi, Tokens.tk, Tokens.is_rbrace, Tokens.is_lparen, Tokens.is_rparen, Tokens.is_colon}
use Rattle.swc_grammar.proofs.Answers.{then-same as then-same-on}
use Rattle.program_grammar.specs.Tree.{of_one, ended, part, Code, code, Codes, nothing, more, is_none, codes_of, place_of, list_s, none_s, mark_s, put_first, block}
use Rattle.program_grammar.specs.Tokens.{goes_on, is_string, strict_after, is_str, ends_list, is_else, is_finally, may_end_at, label, is_export, is_import_declaration}
use Rattle.program_grammar.specs.Symbols.{Directives, End, Item, Statement, Items, Block, Else, Await, Head, Clauses, Clause, Handlers, CatchParam, Finally, expr}
use Rattle.program_grammar.specs.Grammar.{for_s, string_form, after_string, st-labelled}
use Rattle.program_grammar.specs.Steps.{end_read, ended_by_sign}
use Rattle.program_grammar.specs.Clean.{Choice, pick, choose, chosen, exec, part_read, run, next_is}
use Rattle.program_grammar.specs.Frames.{Owner, braces, clause, Frame, statement as statement_frame, a_block, item, put_last, list, if_part, else_part, do_part, while_part, with_part, for_part, label_part, try_part, catch_part, finally_part, resume, goes, owned, is_module_list, closed_by, joined, if_s, while_s, with_s, label_s, try_s, catch_s, handled_s, clause_s, switch_s, after_clauses, do_tail}
use Rattle.program_grammar.proofs.{Knot.Sides, Knot.knot, Fewer.run-fewer, Choices.labelled-so}

pub then-some : {A : Type 0} (o : Out A) → and_then o (λ e us. Some (e, us)) ≡ o
then-some None = refl
then-some (Some p) = refl

pub then-assoc : {A B D : Type 0} (o : Out A) (f : A → List TokenAndSpan → Out B) (g : B → List TokenAndSpan → Out D)
    → and_then (and_then o f) g ≡ and_then o (λ e us. and_then (f e us) g)
then-assoc None f g = refl
then-assoc (Some p) f g = refl

pub then-same : {A B : Type 0} (o : Out A) (f g : A → List TokenAndSpan → Out B)
    → ((e : A) (us : List TokenAndSpan) → f e us ≡ g e us) → and_then o f ≡ and_then o g
then-same None f g h = refl
then-same (Some p) f g h = h p.0 p.1

if-then : {A B : Type 0} (b : Bool) (o : Out A) (g : A → List TokenAndSpan → Out B)
    → and_then (if b then o else None) g ≡ (if b then and_then o g else None)
if-then true o g = refl
if-then false o g = refl

unless-then : {A B : Type 0} (b : Bool) (o : Out A) (g : A → List TokenAndSpan → Out B)
    → and_then (if b then None else o) g ≡ (if b then None else and_then o g)
unless-then true o g = refl
unless-then false o g = refl

module _ {F C K : Type 0} (hook : Hook F C K) where
  hear-bind : {V A B : Type 0} (o : Out V) (ts : List TokenAndSpan) (f : V → Span → List TokenAndSpan → Out A)
      (g : V → Span → List TokenAndSpan → Out B) (k : A → List TokenAndSpan → Out B)
      → ((v : V) (s : Span) (us : List TokenAndSpan) → g v s us ≡ and_then (f v s us) k)
      → hear_then o ts g ≡ and_then (hear_then o ts f) k
  hear-bind None ts f g k h = refl
  hear-bind (Some p) ts f g k h =
      let lt = nat_lt (length p.1) (length ts) in
      ap (λ v. if lt then v else None) (h p.0 _ p.1) ∙ sym_path (if-then lt (f p.0 _ p.1) k)

  -- what is run one after another
  exec-bind : {A B : Type 0} (r : Sides F C K A) (k : A → Sides F C K B) (ts : List TokenAndSpan)
      → exec hook (run hook) None (r >>= k) ts
      ≡ and_then (exec hook (run hook) None r ts) (λ x us. exec hook (run hook) None (k x) us)
  exec-bind (gives a) k ts = refl
  exec-bind never k ts = refl
  exec-bind (take f) k [] = refl
  exec-bind (take f) k (t ∷ ts) = exec-bind (f t) k ts
  exec-bind (check b r) k ts = ap (λ v. if b then v else None) (exec-bind r k ts) ∙ sym_path (if-then b _ _)
  exec-bind (peek p r) k ts =
      ap (λ v. if sees p ts then None else v) (exec-bind r k ts) ∙ sym_path (unless-then (sees p ts) _ _)
  exec-bind (peek_two p r) k ts =
      ap (λ v. if sees_two p ts then None else v) (exec-bind r k ts) ∙ sym_path (unless-then (sees_two p ts) _ _)
  exec-bind (read s c f) k ts =
      then-same (run hook s c ts) _ _ (λ e us. exec-bind (f e) k us) ∙ sym_path (then-assoc (run hook s c ts) _ _)
  exec-bind (hear p c f) k ts = hear-bind (part_read hook p c ts) ts _ _ _ (λ v s us. exec-bind (f v s) k us)

  -- a statement whose part is read next, after what is before it
  stepped : {A : Type 0} (before : Sides F C K A) (k : A → Sides F C K (Code F C K)) (f : A → Frame F C K) (b : Bool)
      (fs : List (Frame F C K)) (c : Scope) (last : Code F C K) (a : TokenAndSpan) (ts : List TokenAndSpan)
      → run hook (Statement b) c (a ∷ ts) ≡ exec hook (run hook) None (before >>= k) ts
      → ((x : A) (us : List TokenAndSpan) → exec hook (run hook) None (k x) us
      ≡ and_then (run hook (Statement true) c us) (λ t vs. goes hook (f x) c t vs))
      → resume hook (statement_frame b ∷ fs) c last (a ∷ ts)
      ≡ and_then (exec hook (run hook) None before ts)
      (λ x us. resume hook (statement_frame true ∷ (f x ∷ fs)) c last us)
  stepped before k f b fs c last a ts e h =
      ap (λ v. and_then v (λ t us. resume hook fs c t us)) (e ∙ exec-bind before k ts)
      ∙ then-assoc (exec hook (run hook) None before ts) _ _
      ∙ then-same (exec hook (run hook) None before ts) _ _
      (λ x us. ap (λ v. and_then v (λ t vs. resume hook fs c t vs)) (h x us)
      ∙ then-assoc (run hook (Statement true) c us) _ _)

  -- an expression in parentheses, and the head of a `for` with what is around it
  abbrev pub parens : Scope → Sides F C K (Tree F C K)
  parens c = do
    token_that is_lparen
    (e, s) ← other expr c
    token_that is_rparen
    gives e

  abbrev pub for_head_side : Scope → Sides F C K (Code F C K)
  for_head_side c = do
    w ← symbol Await c
    token_that is_lparen
    h ← symbol (Head (not (is_none w))) c
    token_that is_rparen
    gives h

  pub step-if : (b : Bool) (fs : List (Frame F C K)) (c : Scope) (last : Code F C K) (l : Bool) (s : Span)
      (ts : List TokenAndSpan)
      → resume hook (statement_frame b ∷ fs) c last (tk (token.Word (word.Keyword keyword.If)) l s ∷ ts)
      ≡ and_then (exec hook (run hook) None (parens c) ts)
      (λ e us. resume hook (statement_frame true ∷ (if_part s e ∷ fs)) c last us)
  step-if b fs c last l s ts =
      stepped (parens c) (λ e. symbol (Statement true) c >>= (λ a. symbol Else c >>= (λ d. gives (if_s s e a d))))
      (λ e. if_part s e) b fs c last _ ts
      (knot hook (Statement b) c (tk (token.Word (word.Keyword keyword.If)) l s ∷ ts))
      (λ e us. refl)

  pub step-while : (b : Bool) (fs : List (Frame F C K)) (c : Scope) (last : Code F C K) (l : Bool) (s : Span)
      (ts : List TokenAndSpan)
      → resume hook (statement_frame b ∷ fs) c last (tk (token.Word (word.Keyword keyword.While)) l s ∷ ts)
      ≡ and_then (exec hook (run hook) None (parens c) ts)
      (λ e us. resume hook (statement_frame true ∷ (while_part s e ∷ fs)) c last us)
  step-while b fs c last l s ts =
      stepped (parens c) (λ e. symbol (Statement true) c >>= (λ a. gives (while_s s e a)))
      (λ e. while_part s e) b fs c last _ ts
      (knot hook (Statement b) c (tk (token.Word (word.Keyword keyword.While)) l s ∷ ts)) (λ e us. refl)

  pub step-with : (b : Bool) (fs : List (Frame F C K)) (c : Scope) (last : Code F C K) (l : Bool) (s : Span)
      (ts : List TokenAndSpan)
      → resume hook (statement_frame b ∷ fs) c last (tk (token.Word (word.Keyword keyword.With)) l s ∷ ts)
      ≡ and_then (exec hook (run hook) None (parens c) ts)
      (λ e us. resume hook (statement_frame true ∷ (with_part s e ∷ fs)) c last us)
  step-with b fs c last l s ts =
      stepped (parens c) (λ e. symbol (Statement true) c >>= (λ a. gives (with_s s e a)))
      (λ e. with_part s e) b fs c last _ ts
      (knot hook (Statement b) c (tk (token.Word (word.Keyword keyword.With)) l s ∷ ts)) (λ e us. refl)

  pub step-do : (b : Bool) (fs : List (Frame F C K)) (c : Scope) (last : Code F C K) (l : Bool) (s : Span)
      (ts : List TokenAndSpan)
      → resume hook (statement_frame b ∷ fs) c last (tk (token.Word (word.Keyword keyword.Do)) l s ∷ ts)
      ≡ resume hook (statement_frame true ∷ (do_part s ∷ fs)) c last ts
  step-do b fs c last l s ts =
      stepped {A = Unit {0}} (gives tt) (λ x. symbol (Statement true) c >>= (λ a. do_tail c s a)) (λ x. do_part s) b
      fs c last _ ts
      (knot hook (Statement b) c (tk (token.Word (word.Keyword keyword.Do)) l s ∷ ts)) (λ x us. refl)

  pub step-for : (b : Bool) (fs : List (Frame F C K)) (c : Scope) (last : Code F C K) (l : Bool) (s : Span)
      (ts : List TokenAndSpan)
      → resume hook (statement_frame b ∷ fs) c last (tk (token.Word (word.Keyword keyword.For)) l s ∷ ts)
      ≡ and_then (exec hook (run hook) None (for_head_side c) ts)
      (λ h us. resume hook (statement_frame true ∷ (for_part s h ∷ fs)) c last us)
  step-for b fs c last l s ts =
      stepped (for_head_side c) (λ h. symbol (Statement true) c >>= (λ a. gives (for_s s h a)))
      (λ h. for_part s h) b fs c last _ ts
      (knot hook (Statement b) c (tk (token.Word (word.Keyword keyword.For)) l s ∷ ts)) (λ h us. refl)

  given-exec : {A D : Type 0} (g : Option ℕ) (o : Option D) (k : D → Sides F C K A) (x : D) (ts : List TokenAndSpan)
      {r : Out A} → o ≡ Some x → exec hook (run hook) g (k x) ts ≡ r → exec hook (run hook) g (given o >>= k) ts ≡ r
  given-exec g o k x ts e h = rw e h

  label-exec : (b : Bool) (c : Scope) (a : TokenAndSpan) (n : Spelling) (l : Bool) (s : Span) (ts : List TokenAndSpan)
      → label c a.token a.span ≡ Some n
      → exec hook (run hook) (Some 6) (chosen {s = Statement b} {c = c} (pick st-labelled))
      (a ∷ (tk token.Colon l s ∷ ts))
      ≡ and_then (run hook (Statement true) c ts) (λ t us. Some (label_s n t, us))
  label-exec b c a n l s ts o = given-exec None (label c a.token a.span) _ n (tk token.Colon l s ∷ ts) o refl

  label-run : (b : Bool) (c : Scope) (a : TokenAndSpan) (n : Spelling) (l : Bool) (s : Span) (ts : List TokenAndSpan)
      → label c a.token a.span ≡ Some n
      → run hook (Statement b) c (a ∷ (tk token.Colon l s ∷ ts))
      ≡ and_then (run hook (Statement true) c ts) (λ t us. Some (label_s n t, us))
  label-run b c a n l s ts o =
      knot hook (Statement b) c (a ∷ (tk token.Colon l s ∷ ts))
      ∙ ap (λ (v : Choice F C K (Statement b) c).
      exec hook (run hook) (Some 6) (chosen v) (a ∷ (tk token.Colon l s ∷ ts)))
      (labelled-so {F = F} {C = C} {K = K} {b = b} c a.token a.had_line_break a.span l s ts n o)
      ∙ label-exec b c a n l s ts o

  pub step-label : (b : Bool) (fs : List (Frame F C K)) (c : Scope) (last : Code F C K) (a : TokenAndSpan)
      (n : Spelling) (l : Bool) (s : Span) (ts : List TokenAndSpan) → label c a.token a.span ≡ Some n
      → resume hook (statement_frame b ∷ fs) c last (a ∷ (tk token.Colon l s ∷ ts))
      ≡ resume hook (statement_frame true ∷ (label_part n ∷ fs)) c last ts
  step-label b fs c last a n l s ts o =
      ap (λ v. and_then v (λ t us. resume hook fs c t us)) (label-run b c a n l s ts o)
      ∙ then-assoc (run hook (Statement true) c ts) _ _

  -- ---- `else`
  else-run : (c : Scope) (a : TokenAndSpan) (ts : List TokenAndSpan) → is_else a.token ≡ true
      → run hook Else c (a ∷ ts) ≡ run hook (Statement true) c ts
  else-run c a ts h = knot hook Else c (a ∷ ts) ∙ rw (h, h) (then-some (run hook (Statement true) c ts))

  pub step-else : (s : Span) (e : Tree F C K) (fs : List (Frame F C K)) (c : Scope) (last : Code F C K)
      (a : TokenAndSpan) (ts : List TokenAndSpan) → is_else a.token ≡ true
      → resume hook (if_part s e ∷ fs) c last (a ∷ ts)
      ≡ resume hook (statement_frame true ∷ (else_part s e last ∷ fs)) c last ts
  step-else s e fs c last a ts h =
      rw (else-run c a ts h)
      (then-assoc (run hook (Statement true) c ts) (λ d us. Some (if_s s e last d, us)) (λ t us. resume hook fs c t us))

  no-else-run : (c : Scope) (ts : List TokenAndSpan) → at_token is_else (first ts) ≡ false
      → run hook Else c ts ≡ Some (none_s, ts)
  no-else-run c [] h = knot hook Else c []
  no-else-run c (a ∷ ts) h = knot hook Else c (a ∷ ts) ∙ rw (h, h) refl

  pub step-no-else : (s : Span) (e : Tree F C K) (fs : List (Frame F C K)) (c : Scope) (last : Code F C K)
      (ts : List TokenAndSpan) → at_token is_else (first ts) ≡ false
      → resume hook (if_part s e ∷ fs) c last ts ≡ resume hook fs c (if_s s e last none_s) ts
  step-no-else s e fs c last ts h = rw (no-else-run c ts h) refl

  -- ---- blocks
  block-run : (c : Scope) (a : TokenAndSpan) (ts : List TokenAndSpan) → is_brace a.token ≡ true
      → run hook Block c (a ∷ ts)
      ≡ and_then (run hook (Items false) c ts) (λ is us. closed_by a.span (codes_of is) us)
  block-run c a ts h =
      knot hook Block c (a ∷ ts) ∙ rw h (then-same (run hook (Items false) c ts) _ _ (λ is us. by-list is us))
    where
      by-list : (is : Code F C K) (us : List TokenAndSpan)
          → exec hook (run hook) None (take (λ b. check (is_rbrace b.token)
          (gives (code block (to a.span b.span) (codes_of is))))) us
          ≡ closed_by a.span (codes_of is) us
      by-list is [] = refl
      by-list is (b ∷ us) = refl

  pub step-block : (fs : List (Frame F C K)) (c : Scope) (last : Code F C K) (l : Bool) (s : Span)
      (ts : List TokenAndSpan)
      → resume hook (a_block ∷ fs) c last (tk token.LBrace l s ∷ ts)
      ≡ resume hook (list (braces s) nothing ∷ fs) c last ts
  step-block fs c last l s ts = rw (block-run c (tk token.LBrace l s) ts refl) refl

  brace-run : (b : Bool) (c : Scope) (l : Bool) (s : Span) (ts : List TokenAndSpan)
      → run hook (Statement b) c (tk token.LBrace l s ∷ ts) ≡ run hook Block c (tk token.LBrace l s ∷ ts)
  brace-run b c l s [] =
      knot hook (Statement b) c (tk token.LBrace l s ∷ []) ∙ then-some (run hook Block c (tk token.LBrace l s ∷ []))
  brace-run b c l s (u ∷ ts) =
      knot hook (Statement b) c (tk token.LBrace l s ∷ (u ∷ ts))
      ∙ then-some (run hook Block c (tk token.LBrace l s ∷ (u ∷ ts)))

  pub step-brace : (b : Bool) (fs : List (Frame F C K)) (c : Scope) (last : Code F C K)
      (l : Bool) (s : Span) (ts : List TokenAndSpan)
      → resume hook (statement_frame b ∷ fs) c last (tk token.LBrace l s ∷ ts)
      ≡ resume hook (list (braces s) nothing ∷ fs) c last ts
  step-brace b fs c last l s ts =
      rw (brace-run b c l s ts) (step-block fs c last l s ts)

  -- ---- `try`
  pub step-try : (b : Bool) (fs : List (Frame F C K)) (c : Scope) (last : Code F C K) (l : Bool) (s : Span)
      (ts : List TokenAndSpan)
      → resume hook (statement_frame b ∷ fs) c last (tk (token.Word (word.Keyword keyword.Try)) l s ∷ ts)
      ≡ resume hook (a_block ∷ (try_part s ∷ fs)) c last ts
  step-try b fs c last l s ts =
      ap (λ v. and_then v (λ t us. resume hook fs c t us))
      (knot hook (Statement b) c (tk (token.Word (word.Keyword keyword.Try)) l s ∷ ts))
      ∙ then-assoc (run hook Block c ts) _ _

  pub step-catch : (s : Span) (fs : List (Frame F C K)) (c : Scope) (last : Code F C K) (l : Bool) (s' : Span)
      (ts : List TokenAndSpan)
      → resume hook (try_part s ∷ fs) c last (tk (token.Word (word.Keyword keyword.Catch)) l s' ∷ ts)
      ≡ and_then (run hook CatchParam c ts) (λ p us. resume hook (a_block ∷ (catch_part s last s' p ∷ fs)) c last us)
  step-catch s fs c last l s' ts =
      ap (λ v. and_then (and_then v (λ h us. Some (try_s s last h, us))) (λ t us. resume hook fs c t us))
      (knot hook Handlers c (tk (token.Word (word.Keyword keyword.Catch)) l s' ∷ ts))
      ∙ ap (λ v. and_then v (λ t us. resume hook fs c t us)) (then-assoc (run hook CatchParam c ts) _ _)
      ∙ then-assoc (run hook CatchParam c ts) _ _
      ∙ then-same (run hook CatchParam c ts) _ _ (λ p us.
      ap (λ v. and_then v (λ t vs. resume hook fs c t vs)) (then-assoc (run hook Block c us) _ _)
      ∙ then-assoc (run hook Block c us) _ _
      ∙ then-same (run hook Block c us) _ _ (λ a vs.
      ap (λ v. and_then v (λ t ws. resume hook fs c t ws)) (then-assoc (run hook Finally c vs) _ _)))

  pub step-finally-alone : (s : Span) (fs : List (Frame F C K)) (c : Scope) (last : Code F C K) (l : Bool) (s' : Span)
      (ts : List TokenAndSpan)
      → resume hook (try_part s ∷ fs) c last (tk (token.Word (word.Keyword keyword.Finally)) l s' ∷ ts)
      ≡ resume hook (a_block ∷ (finally_part s last None s' ∷ fs)) c last ts
  step-finally-alone s fs c last l s' ts =
      ap (λ v. and_then (and_then v (λ h us. Some (try_s s last h, us))) (λ t us. resume hook fs c t us))
      (knot hook Handlers c (tk (token.Word (word.Keyword keyword.Finally)) l s' ∷ ts))
      ∙ ap (λ v. and_then v (λ t us. resume hook fs c t us)) (then-assoc (run hook Block c ts) _ _)
      ∙ then-assoc (run hook Block c ts) _ _

  pub step-finally : (s : Span) (a : Code F C K) (s' : Span) (p : Code F C K) (fs : List (Frame F C K)) (c : Scope)
      (last : Code F C K) (l : Bool) (s'' : Span) (ts : List TokenAndSpan)
      → resume hook (catch_part s a s' p ∷ fs) c last (tk (token.Word (word.Keyword keyword.Finally)) l s'' ∷ ts)
      ≡ resume hook (a_block ∷ (finally_part s a (Some (catch_s s' p last)) s'' ∷ fs)) c last ts
  step-finally s a s' p fs c last l s'' ts =
      ap (λ v. and_then (and_then v (λ f us. Some (try_s s a (handled_s (catch_s s' p last) f), us)))
      (λ t us. resume hook fs c t us))
      (knot hook Finally c (tk (token.Word (word.Keyword keyword.Finally)) l s'' ∷ ts)
      ∙ then-some (run hook Block c ts))
      ∙ then-assoc (run hook Block c ts) _ _

  no-finally-run : (c : Scope) (ts : List TokenAndSpan) → at_token is_finally (first ts) ≡ false
      → run hook Finally c ts ≡ Some (none_s, ts)
  no-finally-run c [] h = knot hook Finally c []
  no-finally-run c (a ∷ ts) h = knot hook Finally c (a ∷ ts) ∙ rw (h, h) refl

  pub step-no-finally : (s : Span) (a : Code F C K) (s' : Span) (p : Code F C K) (fs : List (Frame F C K)) (c : Scope)
      (last : Code F C K) (ts : List TokenAndSpan) → at_token is_finally (first ts) ≡ false
      → resume hook (catch_part s a s' p ∷ fs) c last ts
      ≡ resume hook fs c (try_s s a (handled_s (catch_s s' p last) none_s)) ts
  step-no-finally s a s' p fs c last ts h = rw (no-finally-run c ts h) refl

  -- ---- `switch`: its head, and each clause up to its statements
  abbrev pub switch_head : Scope → Sides F C K (Tree F C K)
  switch_head c = do
    e ← parens c
    token_that is_brace
    gives e

  abbrev pub clauses_from : Span → Tree F C K → Codes F C K → List (Frame F C K) → Scope → List TokenAndSpan
      → Out (Code F C K)
  clauses_from s e before fs c ts =
      and_then (run hook Clauses c ts) (λ ks us. resume hook fs c (switch_s s e (after_clauses before ks)) us)

  pub step-switch : (b : Bool) (fs : List (Frame F C K)) (c : Scope) (last : Code F C K) (l : Bool) (s : Span)
      (ts : List TokenAndSpan)
      → resume hook (statement_frame b ∷ fs) c last (tk (token.Word (word.Keyword keyword.Switch)) l s ∷ ts)
      ≡ and_then (exec hook (run hook) None (switch_head c) ts) (λ e us. clauses_from s e nothing fs c us)
  step-switch b fs c last l s ts =
      ap (λ v. and_then v (λ t us. resume hook fs c t us))
      (knot hook (Statement b) c (tk (token.Word (word.Keyword keyword.Switch)) l s ∷ ts)
      ∙ exec-bind (switch_head c) (λ e. symbol Clauses c >>= (λ ks. gives (switch_s s e ks))) ts)
      ∙ then-assoc (exec hook (run hook) None (switch_head c) ts) _ _
      ∙ then-same (exec hook (run hook) None (switch_head c) ts) _ _ (λ e us. then-assoc (run hook Clauses c us) _ _)

  pub step-end-switch : (s : Span) (e : Tree F C K) (before : Codes F C K) (fs : List (Frame F C K)) (c : Scope)
      (l : Bool) (s' : Span) (ts : List TokenAndSpan)
      → clauses_from s e before fs c (tk token.RBrace l s' ∷ ts)
      ≡ resume hook fs c (switch_s s e (after_clauses before (list_s s' nothing))) ts
  step-end-switch s e before fs c l s' ts =
      ap (λ v. and_then v (λ ks us. resume hook fs c (switch_s s e (after_clauses before ks)) us))
      (knot hook Clauses c (tk token.RBrace l s' ∷ ts))

  -- ---- lists
  pub joined-nothing : (ts : Codes F C K) → joined ts nothing ≡ ts
  joined-nothing nothing = refl
  joined-nothing (more t ts) = ap (λ us. more t us) (joined-nothing ts)

  end-run : (m : Bool) (c : Scope) (ts : List TokenAndSpan) → next_is ends_list ts ≡ true
      → run hook (Items m) c ts ≡ Some (none_s, ts)
  end-run m c [] h = knot hook (Items m) c []
  end-run m c (a ∷ ts) h = knot hook (Items m) c (a ∷ ts) ∙ rw (h, h) refl

  -- where a list ends, what is around it goes on
  pub step-end-list : (o : Owner F C K) (before : Codes F C K) (fs : List (Frame F C K)) (c : Scope)
      (last : Code F C K) (ts : List TokenAndSpan) → next_is ends_list ts ≡ true
      → resume hook (list o before ∷ fs) c last ts
      ≡ and_then (owned hook o c before ts) (λ t us. resume hook fs c t us)
  step-end-list o before fs c last ts h =
      rw (end-run (is_module_list hook o) c ts h)
      (ap (λ v. and_then (owned hook o c v ts) (λ t us. resume hook fs c t us)) (joined-nothing before))

  pub step-end-block : (s0 : Span) (before : Codes F C K) (fs : List (Frame F C K)) (c : Scope) (last : Code F C K)
      (l : Bool) (s : Span) (ts : List TokenAndSpan)
      → resume hook (list (braces s0) before ∷ fs) c last (tk token.RBrace l s ∷ ts)
      ≡ resume hook fs c (code block (to s0 s) before) ts
  step-end-block s0 before fs c last l s ts =
      step-end-list (braces s0) before fs c last (tk token.RBrace l s ∷ ts) refl

  -- a list goes on: its next item is read, and then the rest of it
  items-run : (m : Bool) (c : Scope) (a : TokenAndSpan) (ts : List TokenAndSpan) → ends_list a ≡ false
      → run hook (Items m) c (a ∷ ts) ≡ and_then (run hook (Item m) c (a ∷ ts))
      (λ t us. and_then (run hook (Items m) c us) (λ is vs. Some (put_first t is, vs)))
  items-run m c a ts h =
      knot hook (Items m) c (a ∷ ts)
      ∙ rw (h, h) (then-same-on (run hook (Item m) c (a ∷ ts)) (run hook (Item m) c (a ∷ ts)) _ _ refl
      (λ r e. rw (lt-ltb (length r.1) (suc (length ts)) (run-fewer hook (Item m) c (a ∷ ts) r refl e)) refl))

  item-run : (c : Scope) (a : TokenAndSpan) (ts : List TokenAndSpan)
      → run hook (Item false) c (a ∷ ts) ≡ run hook (Statement false) c (a ∷ ts)
  item-run c a [] = knot hook (Item false) c (a ∷ []) ∙ then-some (run hook (Statement false) c (a ∷ []))
  item-run c a (b ∷ ts) =
      knot hook (Item false) c (a ∷ (b ∷ ts)) ∙ then-some (run hook (Statement false) c (a ∷ (b ∷ ts)))

  pub joined-last : (ts : Codes F C K) (t : Code F C K) (us : Codes F C K)
      → joined ts (more t us) ≡ joined (put_last ts t) us
  joined-last nothing t us = refl
  joined-last (more v ts) t us = ap (λ w. more v w) (joined-last ts t us)

  -- any item, of a module too
  pub step-any-item : (o : Owner F C K) (before : Codes F C K) (fs : List (Frame F C K)) (c : Scope) (last : Code F C K)
      (a : TokenAndSpan) (ts : List TokenAndSpan) → ends_list a ≡ false
      → resume hook (list o before ∷ fs) c last (a ∷ ts)
      ≡ and_then (run hook (Item (is_module_list hook o)) c (a ∷ ts))
      (λ t us. resume hook (item o before ∷ fs) c t us)
  step-any-item o before fs c last a ts h =
      rw (items-run (is_module_list hook o) c a ts h) (by-item (run hook (Item (is_module_list hook o)) c (a ∷ ts)))
    where
      by-items : (t : Code F C K) (v : Out (Code F C K))
          → and_then (and_then (and_then v (λ is vs. Some (put_first t is, vs)))
          (λ is us. owned hook o c (joined before (codes_of is)) us)) (λ t us. resume hook fs c t us)
          ≡ and_then (and_then v (λ is us. owned hook o c (joined (put_last before t) (codes_of is)) us))
          (λ t us. resume hook fs c t us)
      by-items t None = refl
      by-items t (Some q) =
          ap (λ v. and_then (owned hook o c v q.1) (λ t us. resume hook fs c t us))
          (joined-last before t (codes_of q.0))

      by-item : (v : Out (Code F C K))
          → and_then (and_then (and_then v (λ t us. and_then (run hook (Items (is_module_list hook o)) c us)
          (λ is vs. Some (put_first t is, vs)))) (λ is us. owned hook o c (joined before (codes_of is)) us))
          (λ t us. resume hook fs c t us)
          ≡ and_then v (λ t us. and_then (and_then (run hook (Items (is_module_list hook o)) c us)
          (λ is us. owned hook o c (joined (put_last before t) (codes_of is)) us)) (λ t us. resume hook fs c t us))
      by-item None = refl
      by-item (Some p) = by-items p.0 (run hook (Items (is_module_list hook o)) c p.1)

  -- an item that is a statement: all outside modules, and in a module all but imports and exports
  pub step-item : (o : Owner F C K) (before : Codes F C K) (fs : List (Frame F C K)) (c : Scope) (last : Code F C K)
      (a : TokenAndSpan) (ts : List TokenAndSpan) → is_module_list hook o ≡ false → ends_list a ≡ false
      → resume hook (list o before ∷ fs) c last (a ∷ ts)
      ≡ resume hook (statement_frame false ∷ (item o before ∷ fs)) c last (a ∷ ts)
  step-item o before fs c last a ts m h =
      step-any-item o before fs c last a ts h
      ∙ ap (λ v. and_then v (λ t us. resume hook (item o before ∷ fs) c t us))
      (ap (λ b. run hook (Item b) c (a ∷ ts)) m ∙ item-run c a ts)

  module-item-run : (c : Scope) (a : TokenAndSpan) (ts : List TokenAndSpan) → is_export a.token ≡ false
      → sees_two is_import_declaration (a ∷ ts) ≡ false
      → run hook (Item true) c (a ∷ ts) ≡ run hook (Statement false) c (a ∷ ts)
  module-item-run c a [] h k =
      knot hook (Item true) c (a ∷ []) ∙ rw (h, h) (then-some (run hook (Statement false) c (a ∷ [])))
  module-item-run c a (b ∷ ts) h k =
      knot hook (Item true) c (a ∷ (b ∷ ts))
      ∙ rw (h, k, h, k) (then-some (run hook (Statement false) c (a ∷ (b ∷ ts))))

  pub step-module-item : (o : Owner F C K) (before : Codes F C K) (fs : List (Frame F C K)) (c : Scope)
      (last : Code F C K) (a : TokenAndSpan) (ts : List TokenAndSpan) → is_module_list hook o ≡ true
      → ends_list a ≡ false → is_export a.token ≡ false → sees_two is_import_declaration (a ∷ ts) ≡ false
      → resume hook (list o before ∷ fs) c last (a ∷ ts)
      ≡ resume hook (statement_frame false ∷ (item o before ∷ fs)) c last (a ∷ ts)
  step-module-item o before fs c last a ts m h x k =
      step-any-item o before fs c last a ts h
      ∙ ap (λ v. and_then v (λ t us. resume hook (item o before ∷ fs) c t us))
      (ap (λ b. run hook (Item b) c (a ∷ ts)) m ∙ module-item-run c a ts x k)

  -- ---- directives: a string by itself, after which code may be strict, and no string
  abbrev pub string_head : Scope → Sides F C K (Tree F C K × Code F C K)
  string_head c = do
    (e, s) ← other expr c
    ahead (goes_on c e)
    z ← symbol End c
    gives (e, of_one (string_form (is_string e)) (ended s z) (part e))

  pub step-directive : (m : Bool) (c : Scope) (a : TokenAndSpan) (ts : List TokenAndSpan) → is_str a.token ≡ true
      → run hook (Directives m) c (a ∷ ts)
      ≡ and_then (exec hook (run hook) None (string_head c) (a ∷ ts))
      (λ p us. and_then (run hook (after_string m (is_string p.0)) (strict_after p.0 c) us)
      (λ is vs. Some (put_first p.1 is, vs)))
  step-directive m c a ts h =
      knot hook (Directives m) c (a ∷ ts)
      ∙ rw (h, h) (exec-bind (string_head c)
      (λ p. symbol (after_string m (is_string p.0)) (strict_after p.0 c) >>= (λ is. gives (put_first p.1 is)))
      (a ∷ ts))

  pub step-no-directive : (m : Bool) (c : Scope) (ts : List TokenAndSpan) → at_token is_str (first ts) ≡ false
      → run hook (Directives m) c ts ≡ run hook (Items m) c ts
  step-no-directive m c [] h = knot hook (Directives m) c [] ∙ then-some (run hook (Items m) c [])
  step-no-directive m c (a ∷ ts) h =
      knot hook (Directives m) c (a ∷ ts) ∙ rw (h, h) (then-some (run hook (Items m) c (a ∷ ts)))

  -- ---- clauses of a `switch`
  clauses-run : (c : Scope) (a : TokenAndSpan) (ts : List TokenAndSpan) → is_rbrace a.token ≡ false
      → run hook Clauses c (a ∷ ts) ≡ and_then (run hook Clause c (a ∷ ts))
      (λ k us. and_then (run hook Clauses c us) (λ ks vs. Some (put_first k ks, vs)))
  clauses-run c a ts h =
      knot hook Clauses c (a ∷ ts)
      ∙ rw h (then-same-on (run hook Clause c (a ∷ ts)) (run hook Clause c (a ∷ ts)) _ _ refl
      (λ r e. rw (lt-ltb (length r.1) (suc (length ts)) (run-fewer hook Clause c (a ∷ ts) r refl e)) refl))

  put-clause : (before : Codes F C K) (k ks : Code F C K)
      → after_clauses before (put_first k ks) ≡ after_clauses (put_last before k) ks
  put-clause before k ks = ap (λ v. list_s (place_of ks) v) (joined-last before k (codes_of ks))

  -- what is after the clauses, and after a clause
  abbrev after_switch : Span → Tree F C K → Codes F C K → List (Frame F C K) → Scope → Code F C K
      → List TokenAndSpan → Out (Code F C K)
  after_switch s e before fs c ks us = resume hook fs c (switch_s s e (after_clauses before ks)) us

  abbrev after_clause : Span → Tree F C K → Codes F C K → List (Frame F C K) → Scope → Code F C K
      → List TokenAndSpan → Out (Code F C K)
  after_clause s e before fs c k us =
      and_then (and_then (run hook Clauses c us) (λ ks vs. Some (put_first k ks, vs)))
      (λ ks vs. after_switch s e before fs c ks vs)

  clauses-after : (s : Span) (e : Tree F C K) (before : Codes F C K) (fs : List (Frame F C K)) (c : Scope)
      (k : Code F C K) (o : Out (Code F C K))
      → and_then (and_then o (λ ks vs. Some (put_first k ks, vs))) (λ ks vs. after_switch s e before fs c ks vs)
      ≡ and_then (and_then o (λ ks vs. Some (switch_s s e (after_clauses (put_last before k) ks), vs)))
      (λ t vs. resume hook fs c t vs)
  clauses-after s e before fs c k None = refl
  clauses-after s e before fs c k (Some p) = ap (λ v. resume hook fs c (switch_s s e v) p.1) (put-clause before k p.0)

  items-after : (s : Span) (e : Tree F C K) (before : Codes F C K) (fs : List (Frame F C K)) (c : Scope) (s' : Span)
      (test : Option (Tree F C K)) (o : Out (Code F C K))
      → and_then (and_then o (λ is vs. Some (clause_s s' test (codes_of is), vs)))
      (λ k vs. after_clause s e before fs c k vs)
      ≡ and_then (and_then o (λ is vs. owned hook (clause s e before s' test) c (codes_of is) vs))
      (λ t vs. resume hook fs c t vs)
  items-after s e before fs c s' test None = refl
  items-after s e before fs c s' test (Some p) =
      clauses-after s e before fs c (clause_s s' test (codes_of p.0)) (run hook Clauses c p.1)

  -- a clause: its head is read, and then its statements
  clause-step : {A : Type 0} (head : Sides F C K A) (f : A → Span) (g : A → Option (Tree F C K)) (s : Span)
      (e : Tree F C K) (before : Codes F C K) (fs : List (Frame F C K)) (c : Scope) (last : Code F C K)
      (a : TokenAndSpan) (ts : List TokenAndSpan) → is_rbrace a.token ≡ false
      → run hook Clause c (a ∷ ts) ≡ exec hook (run hook) None
      (head >>= (λ x. symbol (Items false) c >>= (λ is. gives (clause_s (f x) (g x) (codes_of is))))) ts
      → clauses_from s e before fs c (a ∷ ts)
      ≡ and_then (exec hook (run hook) None head ts)
      (λ x us. resume hook (list (clause s e before (f x) (g x)) nothing ∷ fs) c last us)
  clause-step head f g s e before fs c last a ts h q =
      ap (λ v. and_then v (λ ks us. after_switch s e before fs c ks us)) (clauses-run c a ts h)
      ∙ then-assoc (run hook Clause c (a ∷ ts)) _ _
      ∙ ap (λ v. and_then v (λ k us. after_clause s e before fs c k us))
      (q ∙ exec-bind head (λ x. symbol (Items false) c >>= (λ is. gives (clause_s (f x) (g x) (codes_of is)))) ts)
      ∙ then-assoc (exec hook (run hook) None head ts) _ _
      ∙ then-same (exec hook (run hook) None head ts) _ _
      (λ x us. items-after s e before fs c (f x) (g x) (run hook (Items false) c us))

  -- `case` and `default`
  abbrev pub case_head : Scope → Span → Sides F C K (Tree F C K × Span)
  case_head c s = do
    (e, s') ← other expr c
    s'' ← token_that is_colon
    gives (e, to s s'')

  abbrev pub default_head : Span → Sides F C K Span
  default_head s = do
    s' ← token_that is_colon
    gives (to s s')

  pub step-case : (s : Span) (e : Tree F C K) (before : Codes F C K) (fs : List (Frame F C K)) (c : Scope)
      (last : Code F C K) (l : Bool) (s' : Span) (ts : List TokenAndSpan)
      → clauses_from s e before fs c (tk (token.Word (word.Keyword keyword.Case)) l s' ∷ ts)
      ≡ and_then (exec hook (run hook) None (case_head c s') ts)
      (λ p us. resume hook (list (clause s e before p.1 (Some p.0)) nothing ∷ fs) c last us)
  step-case s e before fs c last l s' ts =
      clause-step (case_head c s') (λ p. p.1) (λ p. Some p.0) s e before fs c last _ ts refl
      (knot hook Clause c (tk (token.Word (word.Keyword keyword.Case)) l s' ∷ ts))

  pub step-default : (s : Span) (e : Tree F C K) (before : Codes F C K) (fs : List (Frame F C K)) (c : Scope)
      (last : Code F C K) (l : Bool) (s' : Span) (ts : List TokenAndSpan)
      → clauses_from s e before fs c (tk (token.Word (word.Keyword keyword.Default_)) l s' ∷ ts)
      ≡ and_then (exec hook (run hook) None (default_head s') ts)
      (λ d us. resume hook (list (clause s e before d None) nothing ∷ fs) c last us)
  step-default s e before fs c last l s' ts =
      clause-step (default_head s') (λ d. d) (λ d. None) s e before fs c last _ ts refl
      (knot hook Clause c (tk (token.Word (word.Keyword keyword.Default_)) l s' ∷ ts))

  pub step-end-clause : (s : Span) (e : Tree F C K) (before : Codes F C K) (s' : Span) (test : Option (Tree F C K))
      (is : Codes F C K) (fs : List (Frame F C K)) (c : Scope) (last : Code F C K) (ts : List TokenAndSpan)
      → next_is ends_list ts ≡ true
      → resume hook (list (clause s e before s' test) is ∷ fs) c last ts
      ≡ clauses_from s e (put_last before (clause_s s' test is)) fs c ts
  step-end-clause s e before s' test is fs c last ts h =
      step-end-list (clause s e before s' test) is fs c last ts h ∙ then-assoc (run hook Clauses c ts) _ _

  -- ---- the end of a statement, as a step of the code reads it
  abbrev pub mark_of : Option Span → Code F C K
  mark_of None = none_s
  mark_of (Some s) = mark_s s

  pub end-of-statement : (c : Scope) (ts : List TokenAndSpan)
      → run hook End c ts ≡ and_then (end_read c ts) (λ o us. Some (mark_of o, us))
  unfolding end_read
  end-of-statement c [] = knot hook End c []
  end-of-statement c (a ∷ ts) = knot hook End c (a ∷ ts) ∙ by-test (is_semi a.token) (may_end_at a) refl refl
    where
      by-test : (x y : Bool) → is_semi a.token ≡ x → may_end_at a ≡ y
          → exec hook (run hook) (Some 1) (chosen (choose {F = F} {C = C} {K = K} End c (a ∷ ts))) (a ∷ ts)
          ≡ and_then (ended_by_sign (is_semi a.token) (may_end_at a) (a ∷ ts)) (λ o us. Some (mark_of o, us))
      by-test true y p q = rw (p, p) refl
      by-test false true p q = rw (p, p, q) refl
      by-test false false p q = rw (p, p, q) refl
