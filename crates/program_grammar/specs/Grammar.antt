-- The written grammar of programs, after ECMA-262, whose sections are beside it. `Production symbol c side` says that in
-- the scope c the right-hand side is one of the symbol's. `other` is what another grammar derives, or the hook reads,
-- with its place. What it means that a right-hand side is followed is said in Reads.
use Rattle.std.specs.Prelude.{Bool, true, false, not, ◌||◌, ◌&&◌, if◌then◌else◌, codes}
use Rattle.swc_context.specs.Contexts.{function_params, function_block, method_params, method_block, class_context, class_field, static_block as static_context}
use Rattle.swc_input.specs.{Kinds.is_hash, declared.token.Token.Token}
use Rattle.swc_context.specs.{Texts.is_text, declared.span.Span.Span}
use Rattle.swc_ast.specs.{Tree.no_span, Tree.node, Tree.str, Tree.name as name_kind, Trees.to, Trees.items_of}
use Rattle.swc_bodies.specs.Readings.{is_async, is_brace, is_class, is_function}
use Rattle.swc_grammar.specs.Scope.{Scope, in_context}
use Rattle.swc_grammar.specs.Rule.{gives, ◌>>=◌, ◌>>◌, symbol, token, one, must, ahead, ahead_two, body as other}
use Rattle.swc_grammar.specs.Names.{is_joined}
use Rattle.swc_grammar.specs.Parts.{any_name, binding}
use Rattle.swc_grammar.specs.{Arrows.is_of, ForHead.ForHead, ForHead.for_target, ForHead.for_expr, ForHead.is_semi}
use Rattle.swc_grammar.specs.Tokens.{is_lparen, is_rparen, is_rbrace, is_comma, is_colon, is_import, is_equals, is_star, is_in, is_await}
use Rattle.program_grammar.specs.Tree.{Form, list, Code, code, part, Codes, nothing, more, none_s, mark_s, list_s, place_of, codes_of, is_none, is_target, ended, ended_by, put_first, of_one, of_two, of_three, parts, VariableKind, Var, Let, Const, MethodKind, Constructor, Method, Get, Set, string, private_name, block as block_form, empty, expression, directive, debugger, if_else, do_while, while, for_parts, for_in, for_of, continue, break, return, with, switch, case, default, labelled, throw, try, catch, variables, declarator, target, fun, class as class_form, body, function as function_form, class_body, member, method, field, static_block as static_form, import, import_default, import_namespace, import_named, attribute, export_named, export_name, export_all, export_declaration, export_default}
use Rattle.program_grammar.specs.Tokens.{is_if, is_else, is_do, is_while, is_for, is_with, is_continue, is_break, is_return, is_throw, is_debugger, is_switch, is_case, is_default, is_try, is_catch, is_finally, is_var, is_let, is_const, is_extends, is_export, is_as, is_from, is_str, ends_list, may_end_at, may_end_member, ends_value, ends_here, goes_on, is_async_function, is_let_declaration, is_let_here, begins_other, begins_other_two, is_import_declaration, is_renamed, label, string_of, name_s, export_name_of, is_string, strict_after, is_name, Modifier, Static, Async, Getter, Setter, is_modifier, is_modifier_here}
use Rattle.program_grammar.specs.Symbols.{Symbol, Side, Directives, Items, Item, Statement, Block, End, FieldEnd, DoEnd, Else, Declarators, DeclaratorsTail, Declarator, Value, Await, Head, HeadDeclaration, HeadDeclarator, HeadValue, Each, Three, Maybe, Label, Returned, Clauses, Clause, Handlers, CatchParam, Finally, Function, IsAsync, Star, FunctionName, FunctionBlock, StaticBlock, Class, ClassName, Heritage, Members, Member, MemberAfter, Modified, Accessor, MemberKey, MemberValue, ImportClause, ImportAfter, ImportNames, ImportNamesTail, ImportName, Attributes, AttributeList, AttributesTail, Attribute, Export, ExportNames, ExportNamesTail, ExportName, As, From, DefaultExport, expr, assign, heritage, pat, params, key, head, function, class, block}

-- what follows a string at the beginning of a program: more directives, or items, after one that is no directive
abbrev pub after_string : Bool → Bool → Symbol
after_string m true = Directives m
after_string m false = Items m

-- ---- what productions give

module _ {F C K : Type 0} where
  abbrev pub string_form : Bool → Form F C K
  string_form true = directive
  string_form false = expression

  -- the head of a `for`, a `for` with its head and its part: its first part, and what is after that
  abbrev pub head_code : ForHead F C K → Code F C K
  head_code (for_target p) = of_one target no_span (part p)
  head_code (for_expr e) = part e

  abbrev join : Codes F C K → Codes F C K → Codes F C K
  join nothing us = us
  join (more t ts) us = more t (join ts us)

  abbrev pub for_s : Span → Code F C K → Code F C K → Code F C K
  for_s s (code f s' ts) b = code f (to s (place_of b)) (join ts (more b nothing))
  for_s s t b = t

  -- a declaration in a head: of a target, or with values; and the same from its word on
  abbrev pub head_variables : VariableKind → Span → Code F C K → Code F C K → Code F C K
  head_variables k s p (code list s' (more v (more ds ts))) =
      code (variables k) (ended_by (ended s v) (codes_of ds)) (more (of_two declarator (ended s v) p v) (codes_of ds))
  head_variables k s p v = of_one target s (of_one (variables k) s (of_two declarator s p none_s))

  abbrev pub begin_at : Span → Code F C K → Code F C K
  begin_at s (code target s' (more (code f s'' us) ts)) = code target s' (more (code f (to s s'') us) ts)
  begin_at s (code f s' ts) = code f (to s s') ts
  begin_at s t = t

  -- the first part of a head before what is after it
  abbrev pub head_s : Code F C K → Code F C K → Code F C K
  head_s d (code f s ts) = code f s (more d ts)
  head_s d t = t

-- what begins a declaration that is exported
abbrev pub begins_declaration : Token → Bool
begins_declaration t =
    is_var t || (is_const t || (is_let t || (is_class t || (is_function t || is_async t))))

abbrev needs : VariableKind → Bool
needs Const = true
needs k = false

module _ {F C K : Type 0} where
  -- from the place of a mark, if it is there, or from the other
  abbrev pub begun : Code F C K → Span → Span
  begun t s = if is_none t then s else to (place_of t) s

  -- What kind of method a member is: whether it is static, what is before its key, and the key.
  abbrev pub is_constructor : Code F C K → Bool
  is_constructor (code list s (more (part (node (name_kind n) s' us)) ts)) = is_text n (codes "constructor")
  is_constructor (code list s (more (part (node (str value raw) s' us)) ts)) = is_text value (codes "constructor")
  is_constructor t = false

  abbrev pub is_plain : Code F C K → Code F C K → Code F C K → Bool
  is_plain a g x = is_none a && (is_none g && is_none x)

  abbrev pub kind_of : Bool → Code F C K → Code F C K → Code F C K → Code F C K → MethodKind
  kind_of b a g (code (method k) s ts) t = k
  kind_of b a g x t = if not b && (is_none a && (is_none g && is_constructor t)) then Constructor else Method

  -- a key and what is after it, from the place on
  abbrev pub keyed : Span → Code F C K → Code F C K → Code F C K
  keyed s k (code field s' (more v (more z ts))) = of_two field (ended (ended s v) z) k v
  keyed s k (code f s' ts) = code f (to s s') (more k ts)
  keyed s k t = t

  -- an export, from that word on
  abbrev pub exported : Span → Code F C K → Code F C K
  exported s (code f s' ts) = code f (to s s') ts
  exported s t = t

  -- whether a name that is exported is a string
  abbrev pub is_string_name : Code F C K → Bool
  is_string_name (code export_name s (more (code (string v r) s' us) ts)) = true
  is_string_name t = false

  abbrev pub has_string : Codes F C K → Bool
  has_string nothing = false
  has_string (more t ts) = is_string_name t || has_string ts

  -- a declaration (14): of variables, a function or a class
  abbrev pub is_declaration : Code F C K → Bool
  is_declaration (code (variables k) s ts) = true
  is_declaration (code (fun f) s ts) = true
  is_declaration (code (class_form v) s ts) = true
  is_declaration t = false

abbrev pub after_head : {F C K : Type 0} → Bool → Code F C K → Symbol
after_head a d = if is_target d then Each a else Three a

abbrev pub name_scope : Scope → Scope
name_scope c = in_context (λ x. record x { in_async = false; in_generator = false; in_static_block = false }) c

abbrev pub no_in : Scope → Scope
no_in c = in_context (λ x. record x { include_in_expr = false }) c

pub data Production {F C K : Type 0} : (s : Symbol) → Scope → Side F C K s → Type 0 where
  -- ---- Directive prologues (11.2.1). After `"use strict"` code is strict.
  string-first : {c : Scope} {m : Bool} → Production (Directives m) c (do
    ahead (λ t. not (is_str t.token))
    (e, s) ← other expr c
    ahead (goes_on c e)
    z ← symbol End c
    is ← symbol (after_string m (is_string e)) (strict_after e c)
    gives (put_first (of_one (string_form (is_string e)) (ended s z) (part e)) is))
  no-string : {c : Scope} {m : Bool} → Production (Directives m) c (do
    ahead (λ t. is_str t.token)
    symbol (Items m) c)
  -- ---- StatementList (14.2), ModuleItemList (16.2)
  items-end : {c : Scope} {m : Bool} → Production (Items m) c (do
    ahead (λ t. not (ends_list t))
    gives none_s)
  items-more : {c : Scope} {m : Bool} → Production (Items m) c (do
    ahead ends_list
    i ← symbol (Item m) c
    is ← symbol (Items m) c
    gives (put_first i is))
  item-statement : {c : Scope} {m : Bool} → Production (Item m) c (do
    ahead (λ t. m && is_export t.token)
    ahead_two (λ t u. m && is_import_declaration t u)
    symbol (Statement false) c)
  -- ---- Blocks (14.2)
  block-statements : {c : Scope} → Production Block c (do
    s ← token is_brace
    is ← symbol (Items false) c
    s' ← token is_rbrace
    gives (code block_form (to s s') (codes_of is)))
  st-block : {c : Scope} {b : Bool} → Production (Statement b) c (do
    ahead (λ t. not (is_brace t.token))
    symbol Block c)
  -- ---- Variables (14.3). A name may be without a value, but for `const`; a pattern has one.
  st-var : {c : Scope} {b : Bool} → Production (Statement b) c (do
    s ← token is_var
    ds ← symbol (Declarators Var) c
    z ← symbol End c
    gives (code (variables Var) (ended (to s (place_of ds)) z) (codes_of ds)))
  st-let : {c : Scope} → Production (Statement false) c (do
    ahead_two (λ t u. not (is_let_here false t u))
    s ← token is_let
    ds ← symbol (Declarators Let) c
    z ← symbol End c
    gives (code (variables Let) (ended (to s (place_of ds)) z) (codes_of ds)))
  st-const : {c : Scope} → Production (Statement false) c (do
    s ← token is_const
    ds ← symbol (Declarators Const) c
    z ← symbol End c
    gives (code (variables Const) (ended (to s (place_of ds)) z) (codes_of ds)))
  declarators : {c : Scope} {k : VariableKind} → Production (Declarators k) c (do
    d ← symbol (Declarator k) c
    ds ← symbol (DeclaratorsTail k) c
    gives (list_s (ended_by (place_of d) (codes_of ds)) (more d (codes_of ds))))
  declarators-more : {c : Scope} {k : VariableKind} → Production (DeclaratorsTail k) c (do
    token is_comma
    symbol (Declarators k) c)
  declarators-end : {c : Scope} {k : VariableKind} → Production (DeclaratorsTail k) c (do
    ahead (λ t. is_comma t.token)
    gives none_s)
  one-declarator : {c : Scope} {k : VariableKind} → Production (Declarator k) c (do
    (p, s) ← other pat c
    v ← symbol (Value (needs k || not (is_name p))) c
    gives (of_two declarator (ended s v) (part p) v))
  value-some : {c : Scope} {b : Bool} → Production (Value b) c (do
    token is_equals
    (e, s) ← other assign c
    ahead (goes_on c e)
    ahead (λ t. not (ends_value t))
    gives (of_one list s (part e)))
  value-none : {c : Scope} → Production (Value false) c (do
    ahead (λ t. is_equals t.token)
    gives none_s)
  -- ---- Empty statements (14.4) and expressions (14.5)
  st-empty : {c : Scope} {b : Bool} → Production (Statement b) c (do
    s ← token is_semi
    gives (code empty s nothing))
  st-expression : {c : Scope} {b : Bool} → Production (Statement b) c (do
    ahead begins_other
    ahead_two (begins_other_two b)
    (e, s) ← other expr c
    ahead (goes_on c e)
    z ← symbol End c
    gives (of_one expression (ended s z) (part e)))
  -- ---- Automatic semicolon insertion (12.10)
  end-semicolon : {c : Scope} → Production End c (do
    s ← token is_semi
    gives (mark_s s))
  end-left-out : {c : Scope} → Production End c (do
    ahead (λ t. is_semi t.token || not (may_end_at t))
    gives none_s)
  field-end-semicolon : {c : Scope} → Production FieldEnd c (do
    s ← token is_semi
    gives (mark_s s))
  field-end-left-out : {c : Scope} → Production FieldEnd c (do
    ahead (λ t. is_semi t.token || not (may_end_member t))
    gives none_s)
  do-end-semicolon : {c : Scope} → Production DoEnd c (do
    s ← token is_semi
    gives (mark_s s))
  do-end-left-out : {c : Scope} → Production DoEnd c (do
    ahead (λ t. is_semi t.token)
    gives none_s)
  -- ---- `if` (14.6)
  st-if : {c : Scope} {b : Bool} → Production (Statement b) c (do
    s ← token is_if
    token is_lparen
    (e, s') ← other expr c
    token is_rparen
    a ← symbol (Statement true) c
    d ← symbol Else c
    gives (of_three if_else (ended (to s (place_of a)) d) (part e) a d))
  else-some : {c : Scope} → Production Else c (do
    token is_else
    symbol (Statement true) c)
  else-none : {c : Scope} → Production Else c (do
    ahead (λ t. is_else t.token)
    gives none_s)
  -- ---- Iteration statements (14.7)
  st-do : {c : Scope} {b : Bool} → Production (Statement b) c (do
    s ← token is_do
    a ← symbol (Statement true) c
    token is_while
    token is_lparen
    (e, s') ← other expr c
    s'' ← token is_rparen
    z ← symbol DoEnd c
    gives (of_two do_while (ended (to s s'') z) a (part e)))
  st-while : {c : Scope} {b : Bool} → Production (Statement b) c (do
    s ← token is_while
    token is_lparen
    (e, s') ← other expr c
    token is_rparen
    a ← symbol (Statement true) c
    gives (of_two while (to s (place_of a)) (part e) a))
  st-for : {c : Scope} {b : Bool} → Production (Statement b) c (do
    s ← token is_for
    w ← symbol Await c
    token is_lparen
    h ← symbol (Head (not (is_none w))) c
    token is_rparen
    a ← symbol (Statement true) c
    gives (for_s s h a))
  for-await : {c : Scope} → Production Await c (do
    must c.context.in_async
    s ← token is_await
    gives (mark_s s))
  for-plain : {c : Scope} → Production Await c (do
    ahead (λ t. c.context.in_async && is_await t.token)
    gives none_s)
  head-declared : {c : Scope} {a : Bool} → Production (Head a) c (do
    d ← symbol HeadDeclaration (no_in c)
    r ← symbol (after_head a d) c
    gives (head_s d r))
  head-empty : {c : Scope} {a : Bool} → Production (Head a) c (do
    ahead (λ t. not (is_semi t.token))
    r ← symbol (Three a) c
    gives (head_s none_s r))
  head-other : {c : Scope} {a : Bool} → Production (Head a) c (do
    ahead (λ t. is_semi t.token || (is_var t.token || is_const t.token))
    ahead_two is_let_declaration
    (h, s) ← other (head a) c
    r ← symbol (after_head a (head_code h)) c
    gives (head_s (head_code h) r))
  head-var : {c : Scope} → Production HeadDeclaration c (do
    s ← token is_var
    d ← symbol (HeadDeclarator Var) c
    gives (begin_at s d))
  head-let : {c : Scope} → Production HeadDeclaration c (do
    ahead_two (λ t u. not (is_let_declaration t u))
    s ← token is_let
    d ← symbol (HeadDeclarator Let) c
    gives (begin_at s d))
  head-const : {c : Scope} → Production HeadDeclaration c (do
    s ← token is_const
    d ← symbol (HeadDeclarator Const) c
    gives (begin_at s d))
  -- a single name or pattern before `of` or `in`, and otherwise declarators as elsewhere
  head-declarator : {c : Scope} {k : VariableKind} → Production (HeadDeclarator k) c (do
    (p, s) ← other pat c
    v ← symbol (HeadValue k (needs k || not (is_name p))) c
    gives (head_variables k s (part p) v))
  head-value-none : {c : Scope} {k : VariableKind} {b : Bool} → Production (HeadValue k b) c (do
    ahead (λ t. not (is_of t.token || is_in t.token))
    gives (of_one target no_span none_s))
  head-value-some : {c : Scope} {k : VariableKind} {b : Bool} → Production (HeadValue k b) c (do
    ahead (λ t. is_of t.token || is_in t.token)
    v ← symbol (Value b) c
    ds ← symbol (DeclaratorsTail k) c
    gives (of_two list (ended_by (place_of v) (codes_of ds)) v ds))
  each-in : {c : Scope} → Production (Each false) c (do
    s ← token is_in
    (e, s') ← other expr c
    ahead (λ t. not (is_rparen t.token))
    gives (of_one for_in s (part e)))
  each-of : {c : Scope} {a : Bool} → Production (Each a) c (do
    s ← token is_of
    (e, s') ← other assign c
    ahead (λ t. not (is_rparen t.token))
    gives (of_one (for_of a) s (part e)))
  three-parts : {c : Scope} → Production (Three false) c (do
    s ← token is_semi
    t ← symbol (Maybe true) c
    token is_semi
    u ← symbol (Maybe false) c
    gives (of_two for_parts s t u))
  maybe-none : {c : Scope} {b : Bool} → Production (Maybe b) c (do
    ahead (λ t. not (if b then is_semi t.token else is_rparen t.token))
    gives none_s)
  maybe-some : {c : Scope} {b : Bool} → Production (Maybe b) c (do
    ahead (λ t. if b then is_semi t.token else is_rparen t.token)
    (e, s) ← other expr c
    ahead (λ t. not (if b then is_semi t.token else is_rparen t.token))
    gives (part e))
  -- ---- `continue`, `break` and `return` (14.8 to 14.10), after which what follows is on their line
  st-continue : {c : Scope} {b : Bool} → Production (Statement b) c (do
    s ← token is_continue
    l ← symbol Label c
    z ← symbol End c
    gives (of_one continue (ended (ended s l) z) l))
  st-break : {c : Scope} {b : Bool} → Production (Statement b) c (do
    s ← token is_break
    l ← symbol Label c
    z ← symbol End c
    gives (of_one break (ended (ended s l) z) l))
  label-none : {c : Scope} → Production Label c (do
    ahead (λ t. not (ends_here t))
    gives none_s)
  label-some : {c : Scope} → Production Label c (do
    ahead ends_here
    n ← one (label c)
    gives (name_s n))
  st-return : {c : Scope} {b : Bool} → Production (Statement b) c (do
    s ← token is_return
    must c.context.in_function
    e ← symbol Returned c
    z ← symbol End c
    gives (of_one return (ended (ended s e) z) e))
  returned-none : {c : Scope} → Production Returned c (do
    ahead (λ t. not (ends_here t))
    gives none_s)
  returned-some : {c : Scope} → Production Returned c (do
    ahead ends_here
    (e, s) ← other expr c
    ahead (goes_on c e)
    ahead (λ t. not (is_semi t.token || may_end_at t))
    gives (of_one list s (part e)))
  -- ---- `with` (14.11)
  st-with : {c : Scope} {b : Bool} → Production (Statement b) c (do
    s ← token is_with
    token is_lparen
    (e, s') ← other expr c
    token is_rparen
    a ← symbol (Statement true) c
    gives (of_two with (to s (place_of a)) (part e) a))
  -- ---- `switch` (14.12)
  st-switch : {c : Scope} {b : Bool} → Production (Statement b) c (do
    s ← token is_switch
    token is_lparen
    (e, s') ← other expr c
    token is_rparen
    token is_brace
    ks ← symbol Clauses c
    gives (code switch (to s (place_of ks)) (more (part e) (codes_of ks))))
  clauses-end : {c : Scope} → Production Clauses c (do
    s ← token is_rbrace
    gives (list_s s nothing))
  clauses-more : {c : Scope} → Production Clauses c (do
    k ← symbol Clause c
    ks ← symbol Clauses c
    gives (put_first k ks))
  clause-case : {c : Scope} → Production Clause c (do
    s ← token is_case
    (e, s') ← other expr c
    s'' ← token is_colon
    is ← symbol (Items false) c
    gives (code case (ended_by (to s s'') (codes_of is)) (more (part e) (codes_of is))))
  clause-default : {c : Scope} → Production Clause c (do
    s ← token is_default
    s' ← token is_colon
    is ← symbol (Items false) c
    gives (code default (ended_by (to s s') (codes_of is)) (codes_of is)))
  -- ---- Labelled statements (14.13)
  st-labelled : {c : Scope} {b : Bool} → Production (Statement b) c (do
    n ← one (label c)
    token is_colon
    a ← symbol (Statement true) c
    gives (of_two labelled (to n.at (place_of a)) (name_s n) a))
  -- ---- `throw` (14.14), after which the expression is on its line
  st-throw : {c : Scope} {b : Bool} → Production (Statement b) c (do
    s ← token is_throw
    ahead (λ t. t.had_line_break)
    (e, s') ← other expr c
    ahead (goes_on c e)
    z ← symbol End c
    gives (of_one throw (ended (to s s') z) (part e)))
  -- ---- `try` (14.15)
  st-try : {c : Scope} {b : Bool} → Production (Statement b) c (do
    s ← token is_try
    a ← symbol Block c
    h ← symbol Handlers c
    gives (code try (to s (place_of h)) (more a (codes_of h))))
  handlers-catch : {c : Scope} → Production Handlers c (do
    s ← token is_catch
    p ← symbol CatchParam c
    a ← symbol Block c
    f ← symbol Finally c
    gives (of_two list (ended (to s (place_of a)) f)
        (of_two catch (to s (place_of a)) p a) f))
  handlers-finally : {c : Scope} → Production Handlers c (do
    s ← token is_finally
    a ← symbol Block c
    gives (of_two list (to s (place_of a)) none_s a))
  catch-param : {c : Scope} → Production CatchParam c (do
    token is_lparen
    (p, s) ← other pat c
    token is_rparen
    gives (part p))
  catch-alone : {c : Scope} → Production CatchParam c (do
    ahead (λ t. is_lparen t.token)
    gives none_s)
  finally-some : {c : Scope} → Production Finally c (do
    token is_finally
    symbol Block c)
  finally-none : {c : Scope} → Production Finally c (do
    ahead (λ t. is_finally t.token)
    gives none_s)
  -- ---- `debugger` (14.16)
  st-debugger : {c : Scope} {b : Bool} → Production (Statement b) c (do
    s ← token is_debugger
    z ← symbol End c
    gives (code debugger (ended s z) nothing))
  -- ---- Declarations of functions and classes (15), which the hook reads. They have names.
  st-function : {c : Scope} {b : Bool} → Production (Statement b) c (do
    (f, s) ← other (function true) c
    gives (code (fun f) s nothing))
  st-class : {c : Scope} → Production (Statement false) c (do
    (v, s) ← other (class true) c
    gives (code (class_form v) s nothing))
  -- ---- Functions (15.2, 15.5, 15.6 and 15.8), as they are read in a pass of their own. The blocks are read in others.
  function-code : {c : Scope} → Production Function c (do
    a ← symbol IsAsync c
    s ← token is_function
    g ← symbol Star c
    n ← symbol FunctionName c
    token is_lparen
    (ps, s') ← other params (in_context (function_params (not (is_none a)) (not (is_none g))) c)
    (b, s'') ← other block (in_context (function_block (not (is_none a)) (not (is_none g))) c)
    gives (code (function_form (not (is_none a)) (not (is_none g))) (to (begun a s) s'')
        (more n (more (code (body b) s'' nothing) (parts (items_of ps))))))
  async-some : {c : Scope} → Production IsAsync c (do
    s ← token is_async
    gives (mark_s s))
  async-none : {c : Scope} → Production IsAsync c (do
    ahead (λ t. is_async t.token)
    gives none_s)
  star-some : {c : Scope} → Production Star c (do
    s ← token is_star
    gives (mark_s s))
  star-none : {c : Scope} → Production Star c (do
    ahead (λ t. is_star t.token)
    gives none_s)
  -- Whether a name may be `await` or `yield` goes by what the function is, which isn't known here: an early error.
  function-name : {c : Scope} → Production FunctionName c (do
    n ← one (binding (name_scope c))
    gives (name_s n))
  function-unnamed : {c : Scope} → Production FunctionName c (do
    ahead (λ t. not (is_lparen t.token))
    gives none_s)
  -- the block of a function, with its directives; a static block of a class, which has none
  function-block : {c : Scope} → Production FunctionBlock c (do
    s ← token is_brace
    is ← symbol (Directives false) c
    s' ← token is_rbrace
    gives (code block_form (to s s') (codes_of is)))
  static-block : {c : Scope} → Production StaticBlock c (symbol Block c)
  -- ---- Classes (15.7), whose code after the name is in a context of its own
  class-code : {c : Scope} → Production Class c (do
    s ← token is_class
    n ← symbol ClassName c
    h ← symbol Heritage (in_context class_context c)
    s' ← token is_brace
    ms ← symbol Members (in_context class_context c)
    gives (of_three class_body (to s (place_of ms)) n h (list_s (to s' (place_of ms)) (codes_of ms))))
  class-name : {c : Scope} → Production ClassName c (do
    ahead (λ t. is_brace t.token || is_extends t.token)
    n ← one (binding c)
    gives (name_s n))
  class-unnamed : {c : Scope} → Production ClassName c (do
    ahead (λ t. not (is_brace t.token || is_extends t.token))
    gives none_s)
  extends-some : {c : Scope} → Production Heritage c (do
    token is_extends
    (e, s) ← other heritage c
    ahead (λ t. not (is_brace t.token))
    gives (part e))
  extends-none : {c : Scope} → Production Heritage c (do
    ahead (λ t. is_extends t.token)
    gives none_s)
  members-end : {c : Scope} → Production Members c (do
    s ← token is_rbrace
    gives (list_s s nothing))
  members-semicolon : {c : Scope} → Production Members c (do
    token is_semi
    symbol Members c)
  members-more : {c : Scope} → Production Members c (do
    ahead (λ t. is_semi t.token || is_rbrace t.token)
    m ← symbol Member c
    ms ← symbol Members c
    gives (put_first m ms))
  one-member : {c : Scope} → Production Member c (do
    w ← symbol (Modified Static) c
    m ← symbol (MemberAfter (not (is_none w))) c
    gives (of_one (member (not (is_none w))) (to (begun w (place_of m)) (place_of m)) m))
  -- `static`, `async`, `get` and `set`, where they are no keys
  modifier-some : {c : Scope} {m : Modifier} → Production (Modified m) c (do
    ahead_two (λ t u. not (is_modifier_here m t u))
    s ← token (is_modifier m)
    gives (mark_s s))
  modifier-none : {c : Scope} {m : Modifier} → Production (Modified m) c (do
    ahead_two (is_modifier_here m)
    gives none_s)
  member-static-block : {c : Scope} → Production (MemberAfter true) c (do
    ahead (λ t. not (is_brace t.token))
    (b, s) ← other block (in_context static_context c)
    gives (of_one static_form s (code (body b) s nothing)))
  member-keyed : {c : Scope} {b : Bool} → Production (MemberAfter b) c (do
    ahead (λ t. b && is_brace t.token)
    a ← symbol (Modified Async) c
    g ← symbol Star c
    x ← symbol (Accessor (is_none a && is_none g)) c
    k ← symbol MemberKey c
    v ← symbol (MemberValue (kind_of b a g x k) (not (is_none a)) (not (is_none g)) (is_plain a g x)) c
    gives (keyed (to (begun a (begun g (begun x (place_of k)))) (place_of k)) k v))
  accessor-none : {c : Scope} → Production (Accessor false) c (gives none_s)
  accessor-get : {c : Scope} → Production (Accessor true) c (do
    ahead_two (λ t u. not (is_modifier_here Getter t u))
    s ← token (is_modifier Getter)
    gives (of_one (method Get) s none_s))
  accessor-other : {c : Scope} → Production (Accessor true) c (do
    ahead_two (is_modifier_here Getter)
    s ← symbol (Modified Setter) c
    gives (if is_none s then none_s else of_one (method Set) (place_of s) none_s))
  member-private-key : {c : Scope} → Production MemberKey c (do
    s ← token is_hash
    n ← one (any_name c)
    must (is_joined s n.at)
    gives (code (private_name n.text) (to s n.at) nothing))
  member-key : {c : Scope} → Production MemberKey c (do
    ahead (λ t. is_hash t.token)
    (k, s) ← other key c
    gives (of_one list s (part k)))
  member-method : {c : Scope} {k : MethodKind} {a g p : Bool} → Production (MemberValue k a g p) c (do
    s ← token is_lparen
    (ps, s') ← other params (in_context (method_params a g) c)
    (b, s'') ← other block (in_context (method_block a g) c)
    gives (of_one (method k) (to s s'') (code (function_form a g) (to s s'')
        (more none_s (more (code (body b) s'' nothing) (parts (items_of ps)))))))
  member-field : {c : Scope} {k : MethodKind} → Production (MemberValue k false false true) c (do
    ahead (λ t. is_lparen t.token)
    v ← symbol (Value false) (in_context class_field c)
    z ← symbol FieldEnd c
    gives (of_two field (ended (ended no_span v) z) v z))
  -- ---- Imports (16.2.2)
  item-import : {c : Scope} → Production (Item true) c (do
    ahead_two (λ t u. not (is_import_declaration t u))
    s ← token is_import
    k ← symbol ImportClause c
    f ← one string_of
    w ← symbol Attributes c
    z ← symbol End c
    gives (of_three import (ended (ended (to s (place_of f)) w) z) k f w))
  import-alone : {c : Scope} → Production ImportClause c (do
    ahead (λ t. not (is_str t.token))
    gives none_s)
  import-names : {c : Scope} → Production ImportClause c (do
    ns ← symbol ImportAfter c
    token is_from
    gives ns)
  import-first : {c : Scope} → Production ImportClause c (do
    n ← one (binding c)
    ahead (λ t. is_comma t.token)
    token is_from
    gives (list_s n.at (more (of_one import_default n.at (name_s n)) nothing)))
  import-first-more : {c : Scope} → Production ImportClause c (do
    n ← one (binding c)
    token is_comma
    ns ← symbol ImportAfter c
    token is_from
    gives (put_first (of_one import_default n.at (name_s n)) ns))
  import-star : {c : Scope} → Production ImportAfter c (do
    s ← token is_star
    token is_as
    n ← one (binding c)
    gives (list_s (to s n.at) (more (of_one import_namespace (to s n.at) (name_s n)) nothing)))
  import-list : {c : Scope} → Production ImportAfter c (do
    token is_brace
    symbol ImportNames c)
  import-names-end : {c : Scope} → Production ImportNames c (do
    s ← token is_rbrace
    gives (list_s s nothing))
  import-names-more : {c : Scope} → Production ImportNames c (do
    n ← symbol ImportName c
    ns ← symbol ImportNamesTail c
    gives (put_first n ns))
  import-tail-end : {c : Scope} → Production ImportNamesTail c (do
    s ← token is_rbrace
    gives (list_s s nothing))
  import-tail-more : {c : Scope} → Production ImportNamesTail c (do
    token is_comma
    symbol ImportNames c)
  import-name : {c : Scope} → Production ImportName c (do
    ahead_two is_renamed
    n ← one (binding c)
    gives (of_two import_named n.at none_s (name_s n)))
  import-renamed : {c : Scope} → Production ImportName c (do
    ahead_two (λ t u. not (is_renamed t u))
    k ← one export_name_of
    token is_as
    n ← one (binding c)
    gives (of_two import_named (to (place_of k) n.at) k (name_s n)))
  -- attributes: `with` and what is in braces
  attributes-some : {c : Scope} → Production Attributes c (do
    s ← token is_with
    token is_brace
    ws ← symbol AttributeList c
    gives (list_s (to s (place_of ws)) (codes_of ws)))
  attributes-none : {c : Scope} → Production Attributes c (do
    ahead (λ t. is_with t.token)
    gives none_s)
  attributes-end : {c : Scope} → Production AttributeList c (do
    s ← token is_rbrace
    gives (list_s s nothing))
  attributes-more : {c : Scope} → Production AttributeList c (do
    w ← symbol Attribute c
    ws ← symbol AttributesTail c
    gives (put_first w ws))
  attributes-tail-end : {c : Scope} → Production AttributesTail c (do
    s ← token is_rbrace
    gives (list_s s nothing))
  attributes-tail-more : {c : Scope} → Production AttributesTail c (do
    token is_comma
    symbol AttributeList c)
  one-attribute : {c : Scope} → Production Attribute c (do
    k ← one export_name_of
    token is_colon
    v ← one string_of
    gives (of_two attribute (to (place_of k) (place_of v)) k v))
  -- ---- Exports (16.2.3)
  item-export : {c : Scope} → Production (Item true) c (do
    s ← token is_export
    e ← symbol Export c
    gives (exported s e))
  export-star : {c : Scope} → Production Export c (do
    s ← token is_star
    n ← symbol As c
    f ← symbol (From true) c
    z ← symbol End c
    gives (of_two export_all (ended (place_of f) z) n f))
  -- where no string is among the local names, `from` may be left out
  export-list : {c : Scope} → Production Export c (do
    token is_brace
    ns ← symbol ExportNames c
    f ← symbol (From (has_string (codes_of ns))) c
    z ← symbol End c
    gives (of_two export_named (ended (ended (place_of ns) f) z) ns f))
  export-default-item : {c : Scope} → Production Export c (do
    token is_default
    d ← symbol DefaultExport c
    gives d)
  export-declared : {c : Scope} → Production Export c (do
    ahead (λ t. not (begins_declaration t.token))
    ahead_two (λ t u. is_async t.token && not (is_async_function t u))
    d ← symbol (Statement false) c
    must (is_declaration d)
    gives (of_one export_declaration (place_of d) d))
  default-function : {c : Scope} → Production DefaultExport c (do
    (f, s) ← other (function false) c
    gives (of_one export_default s (code (fun f) s nothing)))
  default-class : {c : Scope} → Production DefaultExport c (do
    (v, s) ← other (class false) c
    gives (of_one export_default s (code (class_form v) s nothing)))
  default-expression : {c : Scope} → Production DefaultExport c (do
    ahead (λ t. is_function t.token || is_class t.token)
    ahead_two is_async_function
    (e, s) ← other assign c
    ahead (goes_on c e)
    z ← symbol End c
    gives (of_one export_default (ended s z) (part e)))
  export-names-end : {c : Scope} → Production ExportNames c (do
    s ← token is_rbrace
    gives (list_s s nothing))
  export-names-more : {c : Scope} → Production ExportNames c (do
    n ← symbol ExportName c
    ns ← symbol ExportNamesTail c
    gives (put_first n ns))
  export-tail-end : {c : Scope} → Production ExportNamesTail c (do
    s ← token is_rbrace
    gives (list_s s nothing))
  export-tail-more : {c : Scope} → Production ExportNamesTail c (do
    token is_comma
    symbol ExportNames c)
  one-export : {c : Scope} → Production ExportName c (do
    n ← one export_name_of
    a ← symbol As c
    gives (of_two export_name (ended (place_of n) a) n a))
  as-some : {c : Scope} → Production As c (do
    token is_as
    n ← one export_name_of
    gives n)
  as-none : {c : Scope} → Production As c (do
    ahead (λ t. is_as t.token)
    gives none_s)
  from-some : {c : Scope} {b : Bool} → Production (From b) c (do
    s ← token is_from
    f ← one string_of
    w ← symbol Attributes c
    gives (of_two list (ended (to s (place_of f)) w) f w))
  from-none : {c : Scope} → Production (From false) c (do
    ahead (λ t. is_from t.token)
    gives none_s)
