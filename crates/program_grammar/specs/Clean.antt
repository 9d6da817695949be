-- The clean reader: the readings of the grammar of programs, computed. By the tokens that come first it chooses one of
-- the grammar's productions, whose right-hand side is then run as it is, so what is read is derived by construction. It
-- is a private measure of the code: what is promised to callers speaks of the grammar.
use Rattle.std.specs.Prelude.{ℕ, zero, suc, ◌+◌, ◌*◌, Bool, true, false, not, ◌&&◌, ◌||◌, if◌then◌else◌, List, [], ◌∷◌, Option, Some, None, length, nat_lt}
use Rattle.swc_input.specs.{Kinds.at_token, Kinds.is_hash, declared.token.TokenAndSpan.TokenAndSpan}
use Rattle.swc_bodies.specs.Readings.{Hook, begins, begins_function, is_class, is_brace, is_async, is_function}
use Rattle.swc_grammar.specs.Rule.{Rule, gives, never, take, check, peek, peek_two, read, hear, sees, sees_two}
use Rattle.swc_grammar.specs.Clean.{Out, and_then, first, second, before, hear_then, run as run_expr, sym}
use Rattle.swc_grammar.specs.{Symbols.Expr, Symbols.Assign, Symbols.Lhs, Symbols.Pat, Symbols.Params, Symbols.Key, ForHead.is_semi, ForHead.head_tree, ForHeadClean.for_head, Arrows.is_of}
use Rattle.swc_grammar.specs.{Scope.Scope, Tokens.is_lparen, Tokens.is_rparen, Tokens.is_rbrace, Tokens.is_comma, Tokens.is_equals, Tokens.is_star, Tokens.is_in, Tokens.is_await}
use Rattle.program_grammar.specs.Tree.{MethodKind}
use Rattle.program_grammar.specs.Tokens.{is_if, is_else, is_do, is_while, is_for, is_with, is_continue, is_break, is_return, is_throw, is_debugger, is_switch, is_case, is_default, is_try, is_catch, is_finally, is_var, is_const, is_extends, is_export, is_as, is_from, is_str, ends_list, ends_here, is_async_function, is_let_declaration, is_let_here, is_labelled, is_import_declaration, is_renamed, Getter, is_modifier_here}
use Rattle.program_grammar.specs.Symbols.{Symbol, Answer, Part, Read_as, Side, Directives, Items, Item, Statement, Block, End, FieldEnd, DoEnd, Else, Declarators, DeclaratorsTail, Declarator, Value, Await, Head, HeadDeclaration, HeadDeclarator, HeadValue, Each, Three, Maybe, Label, Returned, Clauses, Clause, Handlers, CatchParam, Finally, Function, IsAsync, Star, FunctionName, FunctionBlock, StaticBlock, Class, ClassName, Heritage, Members, Member, MemberAfter, Modified, Accessor, MemberKey, MemberValue, ImportClause, ImportAfter, ImportNames, ImportNamesTail, ImportName, Attributes, AttributeList, AttributesTail, Attribute, Export, ExportNames, ExportNamesTail, ExportName, As, From, DefaultExport, expr, assign, heritage, pat, params, key, head, function, class, block}
use Rattle.program_grammar.specs.Reads.{done, all_done, function_named, class_named}
use Rattle.program_grammar.specs.Grammar.{Production, string-first, no-string, items-end, items-more, item-statement, block-statements, st-block, st-var, st-let, st-const, declarators, declarators-more, declarators-end, one-declarator, value-some, value-none, st-empty, st-expression, end-semicolon, end-left-out, field-end-semicolon, field-end-left-out, do-end-semicolon, do-end-left-out, st-if, else-some, else-none, st-do, st-while, st-for, for-await, for-plain, head-declared, head-empty, head-other, head-var, head-let, head-const, head-declarator, head-value-none, head-value-some, each-in, each-of, three-parts, maybe-none, maybe-some, st-continue, st-break, label-none, label-some, st-return, returned-none, returned-some, st-with, st-switch, clauses-end, clauses-more, clause-case, clause-default, st-labelled, st-throw, st-try, handlers-catch, handlers-finally, catch-param, catch-alone, finally-some, finally-none, st-debugger, st-function, st-class, function-code, async-some, async-none, star-some, star-none, function-name, function-unnamed, function-block, static-block, class-code, class-name, class-unnamed, extends-some, extends-none, members-end, members-semicolon, members-more, one-member, modifier-some, modifier-none, member-static-block, member-keyed, accessor-none, accessor-get, accessor-other, member-private-key, member-key, member-method, member-field, item-import, import-alone, import-names, import-first, import-first-more, import-star, import-list, import-names-end, import-names-more, import-tail-end, import-tail-more, import-name, import-renamed, attributes-some, attributes-none, attributes-end, attributes-more, attributes-tail-end, attributes-tail-more, one-attribute, item-export, export-star, export-list, export-default-item, export-declared, default-function, default-class, default-expression, export-names-end, export-names-more, export-tail-end, export-tail-more, one-export, as-some, as-none, from-some, from-none}

-- ---- what other grammars and the hook read

abbrev pub only_if : {A : Type 0} → (A → Bool) → Out A → Out A
only_if ok None = None
only_if ok (Some p) = if ok p.0 then Some p else None

-- a body, where its own tokens pass two tests
abbrev pub only_own : {V : Type 0} → (List TokenAndSpan → Bool) → List TokenAndSpan → Out V → Out V
only_own ok ts None = None
only_own ok ts (Some p) = if ok (before ts p.1) then Some p else None

module _ {F C K : Type 0} (hook : Hook F C K) where
  abbrev pub part_read : (p : Part) → Scope → List TokenAndSpan → Out (Read_as F C K p)
  part_read expr c ts = only_if (done c) (run_expr hook (sym Expr) c ts)
  part_read assign c ts = only_if (done c) (run_expr hook (sym Assign) c ts)
  part_read heritage c ts = only_if (done c) (run_expr hook (sym (Lhs true)) c ts)
  part_read pat c ts = only_if (done c) (run_expr hook (sym Pat) c ts)
  part_read params c ts = only_if (all_done c) (run_expr hook (sym Params) c ts)
  part_read key c ts = run_expr hook (sym Key) c ts
  part_read (head a) c ts = only_if (λ h. done c (head_tree h)) (for_head hook a c ts)
  part_read (function n) c ts =
      if begins_function ts then only_own (λ own. not n || function_named own) ts (hook.fun c.context ts) else None
  part_read (class n) c ts =
      if begins is_class ts then only_own (λ own. not n || class_named own) ts (hook.class c.context ts) else None
  part_read block c ts = if begins is_brace ts then hook.block c.context ts else None

-- ---- which symbols may come first in which, before a token: those of a lower rank

abbrev pub rank : Symbol → ℕ
rank (Directives m) = 9
rank (Items m) = 8
rank (Item m) = 7
rank (Statement b) = 6
rank (Head a) = 5
rank (Declarators k) = 5
rank Members = 5
rank Member = 4
rank (MemberAfter b) = 3
rank StaticBlock = 3
rank Function = 3
rank ImportClause = 3
rank ImportNames = 3
rank AttributeList = 3
rank ExportNames = 3
rank Clauses = 3
rank (Accessor b) = 2
rank (MemberValue k a g p) = 2
rank (HeadValue k b) = 2
rank ImportAfter = 2
rank ExportName = 2
rank Export = 7
rank s = 1

-- whether a symbol may be here: a token was taken before, or its rank is below
abbrev pub allowed : Option ℕ → ℕ → Bool
allowed None n = true
allowed (Some m) n = nat_lt n m

-- the same after a symbol, which took tokens or none
abbrev pub rank_after : Option ℕ → List TokenAndSpan → List TokenAndSpan → Option ℕ
rank_after None us ts = None
rank_after (Some m) us ts = if nat_lt (length us) (length ts) then None else Some m

abbrev pub Runs : (F C K : Type 0) → Type 0
Runs F C K = (s : Symbol) → Scope → List TokenAndSpan → Out (Answer F C K s)

-- a right-hand side run, from what the symbols read; g is the rank below which a symbol may come first
abbrev pub exec : {F C K A : Type 0} → Hook F C K → Runs F C K → Option ℕ
    → Rule Symbol (Answer F C K) Part (Read_as F C K) A → List TokenAndSpan → Out A
exec hook run g (gives a) ts = Some (a, ts)
exec hook run g never ts = None
exec hook run g (take f) [] = None
exec hook run g (take f) (t ∷ ts) = exec hook run None (f t) ts
exec hook run g (check b r) ts = if b then exec hook run g r ts else None
exec hook run g (peek p r) ts = if sees p ts then None else exec hook run g r ts
exec hook run g (peek_two p r) ts = if sees_two p ts then None else exec hook run g r ts
exec hook run g (read s c f) ts =
    if allowed g (rank s) then and_then (run s c ts) (λ e us. exec hook run (rank_after g us ts) (f e) us) else None
exec hook run g (hear p c f) ts = hear_then (part_read hook p c ts) ts (λ v s us. exec hook run None (f v s) us)

-- ---- the choices

pub data Choice (F C K : Type 0) (s : Symbol) (c : Scope) : Type 0 where
  no_choice : Choice F C K s c
  pick : {r : Side F C K s} → Production s c r → Choice F C K s c

-- what comes next, at the end or not
abbrev pub next_is : (TokenAndSpan → Bool) → List TokenAndSpan → Bool
next_is p [] = true
next_is p (t ∷ ts) = p t

abbrev pub begins_declared : Bool → List TokenAndSpan → Bool
begins_declared is_part ts =
    at_token is_class (first ts) || (at_token is_const (first ts) || sees_two (is_let_here is_part) ts)

abbrev pub begins_a_function : List TokenAndSpan → Bool
begins_a_function ts = at_token is_function (first ts) || sees_two is_async_function ts

abbrev pub begins_head : List TokenAndSpan → Bool
begins_head ts = at_token is_var (first ts) || (at_token is_const (first ts) || sees_two is_let_declaration ts)

module _ {F C K : Type 0} where
  abbrev pub chosen : {s : Symbol} {c : Scope} → Choice F C K s c → Side F C K s
  chosen no_choice = never
  chosen (pick {r = r} p) = r

  abbrev pub either : {s : Symbol} {c : Scope} {r u : Side F C K s} → Bool → Production s c r → Production s c u
      → Choice F C K s c
  either b p q = if b then pick p else pick q

  -- declarations that are no part of another statement
  abbrev pub declared : (b : Bool) {c : Scope} → List TokenAndSpan → Choice F C K (Statement b) c
  declared true ts = no_choice
  declared false ts =
      if at_token is_class (first ts) then pick st-class else
      (if at_token is_const (first ts) then pick st-const else pick st-let)

  abbrev pub statement : (b : Bool) (c : Scope) → List TokenAndSpan → Choice F C K (Statement b) c
  statement b c ts =
      if at_token is_if (first ts) then pick st-if else
      (if at_token is_while (first ts) then pick st-while else
      (if at_token is_with (first ts) then pick st-with else
      (if at_token is_do (first ts) then pick st-do else
      (if at_token is_for (first ts) then pick st-for else
      (if at_token is_switch (first ts) then pick st-switch else
      (if at_token is_try (first ts) then pick st-try else
      (if at_token is_break (first ts) then pick st-break else
      (if at_token is_continue (first ts) then pick st-continue else
      (if at_token is_return (first ts) then pick st-return else
      (if at_token is_throw (first ts) then pick st-throw else
      (if at_token is_debugger (first ts) then pick st-debugger else
      (if at_token is_var (first ts) then pick st-var else
      (if begins_declared b ts then declared b ts else
      (if at_token is_brace (first ts) then pick st-block else
      (if at_token is_semi (first ts) then pick st-empty else
      (if begins_a_function ts then pick st-function else
      (if sees_two is_labelled ts then pick st-labelled else pick st-expression)))))))))))))))))

  abbrev pub item : (m : Bool) (c : Scope) → List TokenAndSpan → Choice F C K (Item m) c
  item false c ts = pick item-statement
  item true c ts =
      if at_token is_export (first ts) then pick item-export else
      (if sees_two is_import_declaration ts then pick item-import else pick item-statement)

  abbrev pub valued : (b : Bool) {c : Scope} → Choice F C K (Value b) c
  valued true = no_choice
  valued false = pick value-none

  abbrev pub each : (a : Bool) {c : Scope} → List TokenAndSpan → Choice F C K (Each a) c
  each true ts = pick each-of
  each false ts = either (at_token is_in (first ts)) each-in each-of

  abbrev pub three : (a : Bool) {c : Scope} → Choice F C K (Three a) c
  three true = no_choice
  three false = pick three-parts

  abbrev pub field_if : (k : MethodKind) (a g p : Bool) {c : Scope} → Choice F C K (MemberValue k a g p) c
  field_if k false false true = pick member-field
  field_if k a g p = no_choice

  abbrev pub member_after : (b : Bool) {c : Scope} → List TokenAndSpan → Choice F C K (MemberAfter b) c
  member_after true ts = either (at_token is_brace (first ts)) member-static-block member-keyed
  member_after false ts = pick member-keyed

  abbrev pub accessor : (b : Bool) {c : Scope} → List TokenAndSpan → Choice F C K (Accessor b) c
  accessor false ts = pick accessor-none
  accessor true ts = either (sees_two (is_modifier_here Getter) ts) accessor-get accessor-other

  abbrev pub import_clause : {c : Scope} → List TokenAndSpan → Choice F C K ImportClause c
  import_clause ts =
      if next_is (λ t. is_str t.token) ts then pick import-alone else
      (if at_token is_star (first ts) || at_token is_brace (first ts) then pick import-names else
      either (at_token is_comma (second ts)) import-first-more import-first)

  abbrev pub export : {c : Scope} → List TokenAndSpan → Choice F C K Export c
  export ts =
      if at_token is_star (first ts) then pick export-star else
      (if at_token is_brace (first ts) then pick export-list else
      either (at_token is_default (first ts)) export-default-item export-declared)

  abbrev pub from : (b : Bool) {c : Scope} → List TokenAndSpan → Choice F C K (From b) c
  from true ts = pick from-some
  from false ts = either (at_token is_from (first ts)) from-some from-none

  abbrev pub default_export : {c : Scope} → List TokenAndSpan → Choice F C K DefaultExport c
  default_export ts =
      if begins_a_function ts then pick default-function else
      either (at_token is_class (first ts)) default-class default-expression

  abbrev pub choose : (s : Symbol) (c : Scope) → List TokenAndSpan → Choice F C K s c
  choose (Directives m) c ts = either (at_token is_str (first ts)) string-first no-string
  choose (Items m) c ts = either (next_is ends_list ts) items-end items-more
  choose (Item m) c ts = item m c ts
  choose (Statement b) c ts = statement b c ts
  choose Block c ts = pick block-statements
  choose End c ts = either (at_token is_semi (first ts)) end-semicolon end-left-out
  choose FieldEnd c ts = either (at_token is_semi (first ts)) field-end-semicolon field-end-left-out
  choose DoEnd c ts = either (at_token is_semi (first ts)) do-end-semicolon do-end-left-out
  choose Else c ts = either (at_token is_else (first ts)) else-some else-none
  choose (Declarators k) c ts = pick declarators
  choose (DeclaratorsTail k) c ts = either (at_token is_comma (first ts)) declarators-more declarators-end
  choose (Declarator k) c ts = pick one-declarator
  choose (Value b) c ts = if at_token is_equals (first ts) then pick value-some else valued b
  choose Await c ts = either (c.context.in_async && at_token is_await (first ts)) for-await for-plain
  choose (Head a) c ts =
      if begins_head ts then pick head-declared else either (at_token is_semi (first ts)) head-empty head-other
  choose HeadDeclaration c ts =
      if at_token is_var (first ts) then pick head-var else either (at_token is_const (first ts)) head-const head-let
  choose (HeadDeclarator k) c ts = pick head-declarator
  choose (HeadValue k b) c ts =
      either (next_is (λ t. is_of t.token || is_in t.token) ts) head-value-none head-value-some
  choose (Each a) c ts = each a ts
  choose (Three a) c ts = three a
  choose (Maybe b) c ts =
      either (next_is (λ t. if b then is_semi t.token else is_rparen t.token) ts) maybe-none maybe-some
  choose Label c ts = either (next_is ends_here ts) label-none label-some
  choose Returned c ts = either (next_is ends_here ts) returned-none returned-some
  choose Clauses c ts = either (at_token is_rbrace (first ts)) clauses-end clauses-more
  choose Clause c ts = either (at_token is_case (first ts)) clause-case clause-default
  choose Handlers c ts = either (at_token is_catch (first ts)) handlers-catch handlers-finally
  choose CatchParam c ts = either (at_token is_lparen (first ts)) catch-param catch-alone
  choose Finally c ts = either (at_token is_finally (first ts)) finally-some finally-none
  choose Function c ts = pick function-code
  choose IsAsync c ts = either (at_token is_async (first ts)) async-some async-none
  choose Star c ts = either (at_token is_star (first ts)) star-some star-none
  choose FunctionName c ts = either (next_is (λ t. is_lparen t.token) ts) function-unnamed function-name
  choose FunctionBlock c ts = pick function-block
  choose StaticBlock c ts = pick static-block
  choose Class c ts = pick class-code
  choose ClassName c ts =
      either (next_is (λ t. is_brace t.token || is_extends t.token) ts) class-unnamed class-name
  choose Heritage c ts = either (at_token is_extends (first ts)) extends-some extends-none
  choose Members c ts =
      if at_token is_rbrace (first ts) then pick members-end else
      either (at_token is_semi (first ts)) members-semicolon members-more
  choose Member c ts = pick one-member
  choose (MemberAfter b) c ts = member_after b ts
  choose (Modified m) c ts = either (sees_two (is_modifier_here m) ts) modifier-some modifier-none
  choose (Accessor b) c ts = accessor b ts
  choose MemberKey c ts = either (at_token is_hash (first ts)) member-private-key member-key
  choose (MemberValue k a g p) c ts =
      if at_token is_lparen (first ts) then pick member-method else field_if k a g p
  choose ImportClause c ts = import_clause ts
  choose ImportAfter c ts = either (at_token is_star (first ts)) import-star import-list
  choose ImportNames c ts = either (at_token is_rbrace (first ts)) import-names-end import-names-more
  choose ImportNamesTail c ts = either (at_token is_rbrace (first ts)) import-tail-end import-tail-more
  choose ImportName c ts = either (sees_two is_renamed ts) import-renamed import-name
  choose Attributes c ts = either (at_token is_with (first ts)) attributes-some attributes-none
  choose AttributeList c ts = either (at_token is_rbrace (first ts)) attributes-end attributes-more
  choose AttributesTail c ts = either (at_token is_rbrace (first ts)) attributes-tail-end attributes-tail-more
  choose Attribute c ts = pick one-attribute
  choose Export c ts = export ts
  choose ExportNames c ts = either (at_token is_rbrace (first ts)) export-names-end export-names-more
  choose ExportNamesTail c ts = either (at_token is_rbrace (first ts)) export-tail-end export-tail-more
  choose ExportName c ts = pick one-export
  choose As c ts = either (at_token is_as (first ts)) as-some as-none
  choose (From b) c ts = from b ts
  choose DefaultExport c ts = default_export ts

-- closed by as many steps as the measure of the symbol, which is enough
abbrev pub measure : Symbol → List TokenAndSpan → ℕ
measure s ts = 10 * length ts + rank s

abbrev pub run_at : {F C K : Type 0} → Hook F C K → ℕ → Runs F C K
run_at hook zero s c ts = None
run_at hook (suc n) s c ts = exec hook (run_at hook n) (Some (rank s)) (chosen (choose s c ts)) ts

unfoldable pub run : {F C K : Type 0} → Hook F C K → Runs F C K
run hook s c ts = run_at hook (suc (measure s ts)) s c ts
