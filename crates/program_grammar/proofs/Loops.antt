-- The turns of the code's loops, and its steps without a frame, as equations.
use Rattle.std.specs.Prelude.{◌≡◌, ℕ, suc, Bool, true, false, not, List, [], ◌∷◌, Option, Some, None, length, if◌then◌else◌}
use Rattle.std.proofs.Common.{refl, sym as sym_path, ap, ◌∙◌}
use Rattle.std.proofs.lemmas.Bool.{lt-ltb}
use Rattle.swc_context.specs.{declared.span.Span.Span, declared.word.Keyword.Keyword as keyword, declared.word.Word.Word as word}
use Rattle.swc_input.specs.{declared.token.Token.Token as token, declared.token.TokenAndSpan.TokenAndSpan, Kinds.at_token}
use Rattle.swc_ast.specs.Tree.{Tree}
use Rattle.swc_bodies.specs.Readings.{Hook, begins_function}
use Rattle.swc_grammar.specs.Rule.{sees_two}
use Rattle.swc_grammar.specs.{Scope.Scope, Clean.Out, Clean.and_then, Clean.first, ForHead.is_semi, Tokens.tk, Tokens.is_comma, Tokens.is_rbrace}
use Rattle.swc_grammar.proofs.Answers.{then-same as then-same-on}
use Rattle.program_grammar.specs.Tree.{Code, code, Codes, nothing, more, none_s, list_s, place_of, codes_of, empty, put_first, VariableKind, Var, Let, Const}
use Rattle.program_grammar.specs.Tokens.{begins_keyword, begins_other, begins_other_two, is_let_here, goes_on_let}
use Rattle.program_grammar.specs.Symbols.{Symbol, Side, Answer, Statement, End, Declarators, DeclaratorsTail, Declarator, ImportNames, ImportNamesTail, ImportName, ExportNames, ExportNamesTail, ExportName, AttributeList, AttributesTail, Attribute, Members, Member}
use Rattle.program_grammar.specs.Grammar.{Production, st-function, st-class, st-expression, st-empty, st-break, st-continue, st-return, st-throw, st-debugger}
use Rattle.program_grammar.specs.Clean.{Choice, pick, choose, chosen, statement, exec, run, rank}
use Rattle.program_grammar.specs.Frames.{Frame, statement as statement_frame, resume, put_last, joined}
use Rattle.program_grammar.specs.Loops.{listed, variables_s, break_side, continue_side, return_side, throw_side, debugger_side, expression_side, function_side, class_side, declarators_from, declarators_after, closed_from}
use Rattle.program_grammar.proofs.{Knot.knot, Fewer.run-fewer, Choices.expression-so, Choices.function-so, Choices.function-alone, Frames.then-some, Frames.then-assoc, Frames.then-same, Frames.joined-nothing, Frames.joined-last}

module _ {F C K : Type 0} (hook : Hook F C K) where
  -- ---- where the tokens to come choose a production, its side is run
  pub run-chosen : {s : Symbol} {c : Scope} {r : Side F C K s} (p : Production s c r) (ts : List TokenAndSpan)
      → choose {F = F} {C = C} {K = K} s c ts ≡ pick p
      → run hook s c ts ≡ exec hook (run hook) (Some (rank s)) r ts
  run-chosen {s = s} {c = c} p ts e =
      knot hook s c ts
      ∙ ap (λ (v : Choice F C K s c). exec hook (run hook) (Some (rank s)) (chosen v) ts) e

  -- the same of a statement, where frames go on after it
  pub step-chosen : {b : Bool} {c : Scope} {r : Side F C K (Statement b)} (p : Production (Statement b) c r)
      (fs : List (Frame F C K)) (last : Code F C K) (ts : List TokenAndSpan)
      → statement {F = F} {C = C} {K = K} b c ts ≡ pick p
      → resume hook (statement_frame b ∷ fs) c last ts
      ≡ and_then (exec hook (run hook) (Some 6) r ts) (λ t us. resume hook fs c t us)
  step-chosen {c = c} p fs last ts e =
      ap (λ v. and_then v (λ t us. resume hook fs c t us)) (run-chosen p ts e)

  -- ---- simple statements
  pub step-break : (b : Bool) (fs : List (Frame F C K)) (c : Scope) (last : Code F C K) (l : Bool) (s : Span)
      (ts : List TokenAndSpan)
      → resume hook (statement_frame b ∷ fs) c last (tk (token.Word (word.Keyword keyword.Break)) l s ∷ ts)
      ≡ and_then (exec hook (run hook) None (break_side c s) ts) (λ t us. resume hook fs c t us)
  step-break b fs c last l s ts = step-chosen {b = b} {c = c} st-break fs last _ refl

  pub step-continue : (b : Bool) (fs : List (Frame F C K)) (c : Scope) (last : Code F C K) (l : Bool) (s : Span)
      (ts : List TokenAndSpan)
      → resume hook (statement_frame b ∷ fs) c last (tk (token.Word (word.Keyword keyword.Continue)) l s ∷ ts)
      ≡ and_then (exec hook (run hook) None (continue_side c s) ts) (λ t us. resume hook fs c t us)
  step-continue b fs c last l s ts = step-chosen {b = b} {c = c} st-continue fs last _ refl

  pub step-return : (b : Bool) (fs : List (Frame F C K)) (c : Scope) (last : Code F C K) (l : Bool) (s : Span)
      (ts : List TokenAndSpan)
      → resume hook (statement_frame b ∷ fs) c last (tk (token.Word (word.Keyword keyword.Return)) l s ∷ ts)
      ≡ and_then (exec hook (run hook) None (return_side c s) ts) (λ t us. resume hook fs c t us)
  step-return b fs c last l s ts = step-chosen {b = b} {c = c} st-return fs last _ refl

  pub step-throw : (b : Bool) (fs : List (Frame F C K)) (c : Scope) (last : Code F C K) (l : Bool) (s : Span)
      (ts : List TokenAndSpan)
      → resume hook (statement_frame b ∷ fs) c last (tk (token.Word (word.Keyword keyword.Throw)) l s ∷ ts)
      ≡ and_then (exec hook (run hook) None (throw_side c s) ts) (λ t us. resume hook fs c t us)
  step-throw b fs c last l s ts = step-chosen {b = b} {c = c} st-throw fs last _ refl

  pub step-debugger : (b : Bool) (fs : List (Frame F C K)) (c : Scope) (last : Code F C K) (l : Bool) (s : Span)
      (ts : List TokenAndSpan)
      → resume hook (statement_frame b ∷ fs) c last (tk (token.Word (word.Keyword keyword.Debugger)) l s ∷ ts)
      ≡ and_then (exec hook (run hook) None (debugger_side c s) ts) (λ t us. resume hook fs c t us)
  step-debugger b fs c last l s ts = step-chosen {b = b} {c = c} st-debugger fs last _ refl

  empty-so : (b : Bool) (c : Scope) (l : Bool) (s : Span) (ts : List TokenAndSpan)
      → statement {F = F} {C = C} {K = K} b c (tk token.Semi l s ∷ ts) ≡ pick st-empty
  empty-so b c l s [] = refl
  empty-so b c l s (u ∷ ts) = refl

  pub step-empty : (b : Bool) (fs : List (Frame F C K)) (c : Scope) (last : Code F C K) (l : Bool) (s : Span)
      (ts : List TokenAndSpan)
      → resume hook (statement_frame b ∷ fs) c last (tk token.Semi l s ∷ ts)
      ≡ resume hook fs c (code empty s nothing) ts
  step-empty b fs c last l s ts = step-chosen {b = b} {c = c} st-empty fs last _ (empty-so b c l s ts)

  -- An expression statement is what begins with nothing that another statement begins with.
  pub step-expression : (b : Bool) (fs : List (Frame F C K)) (c : Scope) (last : Code F C K) (a : TokenAndSpan)
      (ts : List TokenAndSpan) → begins_keyword a.token ≡ false → begins_other a ≡ false
      → sees_two (begins_other_two b) (a ∷ ts) ≡ false
      → resume hook (statement_frame b ∷ fs) c last (a ∷ ts)
      ≡ and_then (exec hook (run hook) None (expression_side c) (a ∷ ts)) (λ t us. resume hook fs c t us)
  step-expression b fs c last a ts h o d =
      step-chosen {b = b} {c = c} st-expression fs last (a ∷ ts)
      (expression-so c a.token a.had_line_break a.span ts h (rw o refl) (rw d refl))
      ∙ rw (o, d) refl

  -- declarations of functions and classes
  function-here : (b : Bool) (c : Scope) (a : TokenAndSpan) (ts : List TokenAndSpan)
      → begins_function (a ∷ ts) ≡ true → statement {F = F} {C = C} {K = K} b c (a ∷ ts) ≡ pick st-function
  function-here b c a [] h = function-alone c a.token a.had_line_break a.span h
  function-here b c a (u ∷ ts) h = function-so c a.token a.had_line_break a.span u ts h

  pub step-function : (b : Bool) (fs : List (Frame F C K)) (c : Scope) (last : Code F C K) (a : TokenAndSpan)
      (ts : List TokenAndSpan) → begins_function (a ∷ ts) ≡ true
      → resume hook (statement_frame b ∷ fs) c last (a ∷ ts)
      ≡ and_then (exec hook (run hook) (Some 6) (function_side c) (a ∷ ts)) (λ t us. resume hook fs c t us)
  step-function b fs c last a ts h = step-chosen {b = b} {c = c} st-function fs last (a ∷ ts) (function-here b c a ts h)

  pub step-class : (fs : List (Frame F C K)) (c : Scope) (last : Code F C K) (l : Bool) (s : Span)
      (ts : List TokenAndSpan)
      → resume hook (statement_frame false ∷ fs) c last (tk (token.Word (word.Keyword keyword.Class)) l s ∷ ts)
      ≡ and_then (exec hook (run hook) (Some 6) (class_side c)
      (tk (token.Word (word.Keyword keyword.Class)) l s ∷ ts)) (λ t us. resume hook fs c t us)
  step-class fs c last l s ts = step-chosen {b = false} {c = c} st-class fs last _ refl

  -- ---- declarators with commas between them
  declarators-run : (k : VariableKind) (c : Scope) (ts : List TokenAndSpan)
      → run hook (Declarators k) c ts ≡ and_then (run hook (Declarator k) c ts)
      (λ d us. and_then (run hook (DeclaratorsTail k) c us) (λ ds vs. Some (listed (more d (codes_of ds)), vs)))
  declarators-run k c ts =
      knot hook (Declarators k) c ts
      ∙ then-same-on (run hook (Declarator k) c ts) (run hook (Declarator k) c ts) _ _ refl
      (λ r e. rw (lt-ltb (length r.1) (length ts) (run-fewer hook (Declarator k) c ts r refl e)) refl)

  -- the first of them
  pub declarators-start : (k : VariableKind) (c : Scope) (ts : List TokenAndSpan)
      → run hook (Declarators k) c ts ≡ declarators_from hook k nothing c ts
  declarators-start k c ts =
      declarators-run k c ts
      ∙ sym_path (ap (λ v. and_then v (λ ds us. Some (listed (codes_of ds), us))) (declarators-run k c ts)
      ∙ then-assoc (run hook (Declarator k) c ts) _ _
      ∙ then-same (run hook (Declarator k) c ts) _ _ (λ d us. then-assoc (run hook (DeclaratorsTail k) c us) _ _))

  pub step-declarator : (k : VariableKind) (before : Codes F C K) (c : Scope) (ts : List TokenAndSpan)
      → declarators_from hook k before c ts
      ≡ and_then (run hook (Declarator k) c ts) (λ d us. declarators_after hook k (put_last before d) c us)
  step-declarator k before c ts =
      ap (λ v. and_then v (λ ds us. Some (listed (joined before (codes_of ds)), us))) (declarators-run k c ts)
      ∙ then-assoc (run hook (Declarator k) c ts) _ _
      ∙ then-same (run hook (Declarator k) c ts) _ _ (λ d us.
      then-assoc (run hook (DeclaratorsTail k) c us) _ _
      ∙ then-same (run hook (DeclaratorsTail k) c us) _ _
      (λ ds vs. ap (λ v. Some (listed v, vs)) (joined-last hook before d (codes_of ds))))

  pub step-comma : (k : VariableKind) (before : Codes F C K) (c : Scope) (l : Bool) (s : Span) (ts : List TokenAndSpan)
      → declarators_after hook k before c (tk token.Comma l s ∷ ts) ≡ declarators_from hook k before c ts
  step-comma k before c l s ts =
      ap (λ v. and_then v (λ ds us. Some (listed (joined before (codes_of ds)), us)))
      (knot hook (DeclaratorsTail k) c (tk token.Comma l s ∷ ts) ∙ then-some (run hook (Declarators k) c ts))

  no-comma-run : (k : VariableKind) (c : Scope) (ts : List TokenAndSpan) → at_token is_comma (first ts) ≡ false
      → run hook (DeclaratorsTail k) c ts ≡ Some (none_s, ts)
  no-comma-run k c [] h = knot hook (DeclaratorsTail k) c []
  no-comma-run k c (a ∷ ts) h = knot hook (DeclaratorsTail k) c (a ∷ ts) ∙ rw (h, h) refl

  pub step-no-comma : (k : VariableKind) (before : Codes F C K) (c : Scope) (ts : List TokenAndSpan)
      → at_token is_comma (first ts) ≡ false
      → declarators_after hook k before c ts ≡ Some (listed before, ts)
  step-no-comma k before c ts h =
      rw (no-comma-run k c ts h) (ap (λ v. Some (listed v, ts)) (joined-nothing hook before))

  -- a declaration of variables, before its first one
  abbrev ended_declaration : VariableKind → Span → List (Frame F C K) → Scope → Out (Code F C K) → Out (Code F C K)
  ended_declaration k s fs c o =
      and_then o (λ ds us. and_then (run hook End c us) (λ z vs. resume hook fs c (variables_s k s ds z) vs))

  declared-step : (k : VariableKind) (s : Span) (fs : List (Frame F C K)) (c : Scope) (ts : List TokenAndSpan)
      → and_then (and_then (run hook (Declarators k) c ts)
      (λ ds us. and_then (run hook End c us) (λ z vs. Some (variables_s k s ds z, vs))))
      (λ t us. resume hook fs c t us)
      ≡ ended_declaration k s fs c (declarators_from hook k nothing c ts)
  declared-step k s fs c ts =
      then-assoc (run hook (Declarators k) c ts) _ _
      ∙ then-same (run hook (Declarators k) c ts) _ _ (λ ds us. then-assoc (run hook End c us) _ _)
      ∙ ap (λ v. ended_declaration k s fs c v) (declarators-start k c ts)

  pub step-var : (b : Bool) (fs : List (Frame F C K)) (c : Scope) (last : Code F C K) (l : Bool) (s : Span)
      (ts : List TokenAndSpan)
      → resume hook (statement_frame b ∷ fs) c last (tk (token.Word (word.Keyword keyword.Var)) l s ∷ ts)
      ≡ ended_declaration Var s fs c (declarators_from hook Var nothing c ts)
  step-var b fs c last l s ts =
      ap (λ v. and_then v (λ t us. resume hook fs c t us))
      (knot hook (Statement b) c (tk (token.Word (word.Keyword keyword.Var)) l s ∷ ts))
      ∙ declared-step Var s fs c ts

  pub step-const : (fs : List (Frame F C K)) (c : Scope) (last : Code F C K) (l : Bool) (s : Span)
      (ts : List TokenAndSpan)
      → resume hook (statement_frame false ∷ fs) c last (tk (token.Word (word.Keyword keyword.Const)) l s ∷ ts)
      ≡ ended_declaration Const s fs c (declarators_from hook Const nothing c ts)
  step-const fs c last l s ts =
      ap (λ v. and_then v (λ t us. resume hook fs c t us))
      (knot hook (Statement false) c (tk (token.Word (word.Keyword keyword.Const)) l s ∷ ts))
      ∙ declared-step Const s fs c ts

  let-run : (c : Scope) (l : Bool) (s : Span) (u : TokenAndSpan) (ts : List TokenAndSpan) → goes_on_let u.token ≡ true
      → run hook (Statement false) c (tk (token.Word (word.Keyword keyword.Let)) l s ∷ (u ∷ ts))
      ≡ and_then (run hook (Declarators Let) c (u ∷ ts))
      (λ ds us. and_then (run hook End c us) (λ z vs. Some (variables_s Let s ds z, vs)))
  let-run c l s u ts h =
      knot hook (Statement false) c (tk (token.Word (word.Keyword keyword.Let)) l s ∷ (u ∷ ts)) ∙ rw (h, h) refl

  pub step-let : (fs : List (Frame F C K)) (c : Scope) (last : Code F C K) (l : Bool) (s : Span) (u : TokenAndSpan)
      (ts : List TokenAndSpan) → goes_on_let u.token ≡ true
      → resume hook (statement_frame false ∷ fs) c last
      (tk (token.Word (word.Keyword keyword.Let)) l s ∷ (u ∷ ts))
      ≡ ended_declaration Let s fs c (declarators_from hook Let nothing c (u ∷ ts))
  step-let fs c last l s u ts h =
      ap (λ v. and_then v (λ t us. resume hook fs c t us)) (let-run c l s u ts h)
      ∙ declared-step Let s fs c (u ∷ ts)

  -- ---- lists that a brace closes. `rest` reads the items from one on, `tail` what is after one.
  put-item : (before : Codes F C K) (n ns : Code F C K)
      → list_s (place_of ns) (joined before (codes_of (put_first n ns)))
      ≡ list_s (place_of ns) (joined (put_last before n) (codes_of ns))
  put-item before n ns = ap (λ v. list_s (place_of ns) v) (joined-last hook before n (codes_of ns))

  turn : (rest item tail : Scope → List TokenAndSpan → Out (Code F C K)) (before : Codes F C K) (c : Scope)
      (ts : List TokenAndSpan)
      → rest c ts ≡ and_then (item c ts) (λ n us. and_then (tail c us) (λ ns vs. Some (put_first n ns, vs)))
      → and_then (rest c ts) (λ ns us. Some (list_s (place_of ns) (joined before (codes_of ns)), us))
      ≡ and_then (item c ts) (λ n us. and_then (tail c us)
      (λ ns vs. Some (list_s (place_of ns) (joined (put_last before n) (codes_of ns)), vs)))
  turn rest item tail before c ts e =
      ap (λ v. and_then v (λ ns us. Some (list_s (place_of ns) (joined before (codes_of ns)), us))) e
      ∙ then-assoc (item c ts) _ _
      ∙ then-same (item c ts) _ _ (λ n us.
      then-assoc (tail c us) _ _
      ∙ then-same (tail c us) _ _ (λ ns vs. ap (λ v. Some (v, vs)) (put-item before n ns)))

  closed-end : (s : Symbol) (before : Codes F C K) (c : Scope) (l : Bool) (at : Span) (ts : List TokenAndSpan)
      → run hook s c (tk token.RBrace l at ∷ ts) ≡ Some (list_s at nothing, ts)
      → closed_from hook s before c (tk token.RBrace l at ∷ ts) ≡ Some (list_s at before, ts)
  closed-end s before c l at ts e =
      rw e (ap (λ v. Some (list_s at v, ts)) (joined-nothing hook before))

  -- names that are imported
  pub step-import-name : (before : Codes F C K) (c : Scope) (a : TokenAndSpan) (ts : List TokenAndSpan)
      → is_rbrace a.token ≡ false
      → closed_from hook ImportNames before c (a ∷ ts)
      ≡ and_then (run hook ImportName c (a ∷ ts)) (λ n us. closed_from hook ImportNamesTail (put_last before n) c us)
  step-import-name before c a ts h =
      turn (run hook ImportNames) (run hook ImportName) (run hook ImportNamesTail) before c (a ∷ ts)
      (knot hook ImportNames c (a ∷ ts)
      ∙ rw h (then-same-on (run hook ImportName c (a ∷ ts)) (run hook ImportName c (a ∷ ts)) _ _ refl
      (λ r e. rw (lt-ltb (length r.1) (suc (length ts)) (run-fewer hook ImportName c (a ∷ ts) r refl e)) refl)))

  pub step-import-comma : (before : Codes F C K) (c : Scope) (l : Bool) (s : Span) (ts : List TokenAndSpan)
      → closed_from hook ImportNamesTail before c (tk token.Comma l s ∷ ts) ≡ closed_from hook ImportNames before c ts
  step-import-comma before c l s ts =
      ap (λ v. and_then v (λ ns us. Some (list_s (place_of ns) (joined before (codes_of ns)), us)))
      (knot hook ImportNamesTail c (tk token.Comma l s ∷ ts) ∙ then-some (run hook ImportNames c ts))

  pub end-import-names : (before : Codes F C K) (c : Scope) (l : Bool) (s : Span) (ts : List TokenAndSpan)
      → closed_from hook ImportNames before c (tk token.RBrace l s ∷ ts) ≡ Some (list_s s before, ts)
  end-import-names before c l s ts =
      closed-end ImportNames before c l s ts (knot hook ImportNames c (tk token.RBrace l s ∷ ts))

  pub end-import-tail : (before : Codes F C K) (c : Scope) (l : Bool) (s : Span) (ts : List TokenAndSpan)
      → closed_from hook ImportNamesTail before c (tk token.RBrace l s ∷ ts) ≡ Some (list_s s before, ts)
  end-import-tail before c l s ts =
      closed-end ImportNamesTail before c l s ts (knot hook ImportNamesTail c (tk token.RBrace l s ∷ ts))

  -- names that are exported
  pub step-export-name : (before : Codes F C K) (c : Scope) (a : TokenAndSpan) (ts : List TokenAndSpan)
      → is_rbrace a.token ≡ false
      → closed_from hook ExportNames before c (a ∷ ts)
      ≡ and_then (run hook ExportName c (a ∷ ts)) (λ n us. closed_from hook ExportNamesTail (put_last before n) c us)
  step-export-name before c a ts h =
      turn (run hook ExportNames) (run hook ExportName) (run hook ExportNamesTail) before c (a ∷ ts)
      (knot hook ExportNames c (a ∷ ts)
      ∙ rw h (then-same-on (run hook ExportName c (a ∷ ts)) (run hook ExportName c (a ∷ ts)) _ _ refl
      (λ r e. rw (lt-ltb (length r.1) (suc (length ts)) (run-fewer hook ExportName c (a ∷ ts) r refl e)) refl)))

  pub step-export-comma : (before : Codes F C K) (c : Scope) (l : Bool) (s : Span) (ts : List TokenAndSpan)
      → closed_from hook ExportNamesTail before c (tk token.Comma l s ∷ ts) ≡ closed_from hook ExportNames before c ts
  step-export-comma before c l s ts =
      ap (λ v. and_then v (λ ns us. Some (list_s (place_of ns) (joined before (codes_of ns)), us)))
      (knot hook ExportNamesTail c (tk token.Comma l s ∷ ts) ∙ then-some (run hook ExportNames c ts))

  pub end-export-names : (before : Codes F C K) (c : Scope) (l : Bool) (s : Span) (ts : List TokenAndSpan)
      → closed_from hook ExportNames before c (tk token.RBrace l s ∷ ts) ≡ Some (list_s s before, ts)
  end-export-names before c l s ts =
      closed-end ExportNames before c l s ts (knot hook ExportNames c (tk token.RBrace l s ∷ ts))

  pub end-export-tail : (before : Codes F C K) (c : Scope) (l : Bool) (s : Span) (ts : List TokenAndSpan)
      → closed_from hook ExportNamesTail before c (tk token.RBrace l s ∷ ts) ≡ Some (list_s s before, ts)
  end-export-tail before c l s ts =
      closed-end ExportNamesTail before c l s ts (knot hook ExportNamesTail c (tk token.RBrace l s ∷ ts))

  -- attributes
  pub step-attribute : (before : Codes F C K) (c : Scope) (a : TokenAndSpan) (ts : List TokenAndSpan)
      → is_rbrace a.token ≡ false
      → closed_from hook AttributeList before c (a ∷ ts)
      ≡ and_then (run hook Attribute c (a ∷ ts)) (λ n us. closed_from hook AttributesTail (put_last before n) c us)
  step-attribute before c a ts h =
      turn (run hook AttributeList) (run hook Attribute) (run hook AttributesTail) before c (a ∷ ts)
      (knot hook AttributeList c (a ∷ ts)
      ∙ rw h (then-same-on (run hook Attribute c (a ∷ ts)) (run hook Attribute c (a ∷ ts)) _ _ refl
      (λ r e. rw (lt-ltb (length r.1) (suc (length ts)) (run-fewer hook Attribute c (a ∷ ts) r refl e)) refl)))

  pub step-attribute-comma : (before : Codes F C K) (c : Scope) (l : Bool) (s : Span) (ts : List TokenAndSpan)
      → closed_from hook AttributesTail before c (tk token.Comma l s ∷ ts) ≡ closed_from hook AttributeList before c ts
  step-attribute-comma before c l s ts =
      ap (λ v. and_then v (λ ns us. Some (list_s (place_of ns) (joined before (codes_of ns)), us)))
      (knot hook AttributesTail c (tk token.Comma l s ∷ ts) ∙ then-some (run hook AttributeList c ts))

  pub end-attributes : (before : Codes F C K) (c : Scope) (l : Bool) (s : Span) (ts : List TokenAndSpan)
      → closed_from hook AttributeList before c (tk token.RBrace l s ∷ ts) ≡ Some (list_s s before, ts)
  end-attributes before c l s ts =
      closed-end AttributeList before c l s ts (knot hook AttributeList c (tk token.RBrace l s ∷ ts))

  pub end-attributes-tail : (before : Codes F C K) (c : Scope) (l : Bool) (s : Span) (ts : List TokenAndSpan)
      → closed_from hook AttributesTail before c (tk token.RBrace l s ∷ ts) ≡ Some (list_s s before, ts)
  end-attributes-tail before c l s ts =
      closed-end AttributesTail before c l s ts (knot hook AttributesTail c (tk token.RBrace l s ∷ ts))

  -- members of a class
  pub step-member : (before : Codes F C K) (c : Scope) (a : TokenAndSpan) (ts : List TokenAndSpan)
      → is_rbrace a.token ≡ false → is_semi a.token ≡ false
      → closed_from hook Members before c (a ∷ ts)
      ≡ and_then (run hook Member c (a ∷ ts)) (λ m us. closed_from hook Members (put_last before m) c us)
  step-member before c a ts h k =
      turn (run hook Members) (run hook Member) (run hook Members) before c (a ∷ ts)
      (knot hook Members c (a ∷ ts)
      ∙ rw (h, k, h, k) (then-same-on (run hook Member c (a ∷ ts)) (run hook Member c (a ∷ ts)) _ _ refl
      (λ r e. rw (lt-ltb (length r.1) (suc (length ts)) (run-fewer hook Member c (a ∷ ts) r refl e)) refl)))

  pub step-semicolon : (before : Codes F C K) (c : Scope) (l : Bool) (s : Span) (ts : List TokenAndSpan)
      → closed_from hook Members before c (tk token.Semi l s ∷ ts) ≡ closed_from hook Members before c ts
  step-semicolon before c l s ts =
      ap (λ v. and_then v (λ ns us. Some (list_s (place_of ns) (joined before (codes_of ns)), us)))
      (knot hook Members c (tk token.Semi l s ∷ ts) ∙ then-some (run hook Members c ts))

  pub end-members : (before : Codes F C K) (c : Scope) (l : Bool) (s : Span) (ts : List TokenAndSpan)
      → closed_from hook Members before c (tk token.RBrace l s ∷ ts) ≡ Some (list_s s before, ts)
  end-members before c l s ts =
      closed-end Members before c l s ts (knot hook Members c (tk token.RBrace l s ∷ ts))
