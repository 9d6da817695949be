-- Worked rows: what the clean reader reads of small programs, and so what the grammar derives of them; and programs
-- that it doesn't read. Whatever the hook, but where a body is.
use Rattle.std.specs.Prelude.{◌≡◌, ℕ, suc, true, false, List, [], ◌∷◌, Option, Some, None, codes}
use Rattle.std.proofs.Common.{refl}
use Rattle.swc_context.specs.{Contexts.script_context, Contexts.view, declared.context.Syntax.Syntax, declared.word.Keyword.Keyword, declared.word.Keyword.Keyword as keyword, declared.word.Word.Word as word, declared.operator.AssignOp.AssignOp as write, declared.operator.BinOpToken.BinOpToken as sign}
use Rattle.swc_input.specs.{declared.token.Token.Token, declared.token.Token.Token as token, declared.token.TokenAndSpan.TokenAndSpan}
use Rattle.swc_ast.specs.{Tree.no_span}
use Rattle.swc_bodies.specs.Readings.{Hook}
use Rattle.swc_grammar.specs.Clean.{Out, sym, run as run_expr}
use Rattle.swc_grammar.specs.Symbols.{Expr}
use Rattle.swc_grammar.specs.{Scope.Scope, Tokens.tk}
use Rattle.program_grammar.specs.Tree.{Var, Let, Const, variables, block, while, for_parts, for_in, return, with, throw, debugger, class, export_named, export_declaration, export_default, switch, try, labelled, empty, expression, if_else, for_of, do_while, import, export_all, none, directive, fun, part, Code, code, Codes, nothing, more, codes_of, Form}
use Rattle.program_grammar.specs.Symbols.{Class, Directives}
use Rattle.program_grammar.specs.Clean.{run}
use Rattle.program_grammar.specs.Program.{Place, place_hook, Module, CommonJs, goal_scope}

-- tokens without places, and on a line of their own
abbrev t : Token → TokenAndSpan
t k = tk k false no_span

abbrev n : Token → TokenAndSpan
n k = tk k true no_span

abbrev id : List ℕ → Token
id w = token.Word (word.Ident w)

abbrev key : Keyword → Token
key k = token.Word (word.Keyword k)

-- the forms of the items, and how many tokens are left
abbrev mutual
  forms : {F C K : Type 0} → Codes F C K → List (Form F C K)
  forms nothing = []
  forms (more c cs) = form c ∷ forms cs

  form : {F C K : Type 0} → Code F C K → Form F C K
  form (code f s ts) = f
  form (part e) = none

abbrev items : {F C K : Type 0} → Out (Code F C K) → Option (List (Form F C K) × List TokenAndSpan)
items None = None
items (Some (code f s ts, us)) = Some (forms ts, us)
items (Some (part e, us)) = None

abbrev plain_syntax : Syntax
plain_syntax = record {
  early_errors = true;
  import_attributes = true;
  allow_super_outside_method = false;
  pedantic = true;
}

abbrev script : Scope
script = record { context = script_context; syntax = plain_syntax; head = false }

module _ {F C K : Type 0} (hook : Hook F C K) where
  unfoldable read_script : List TokenAndSpan → Option (List (Form F C K) × List TokenAndSpan)
  unfolding run run_expr
  read_script ts = items (run hook (Directives false) script ts)

  unfoldable read_module : List TokenAndSpan → Option (List (Form F C K) × List TokenAndSpan)
  unfolding run run_expr
  read_module ts = items (run hook (Directives true) script ts)

  -- an empty script, and `;`
  empty-row : read_script [] ≡ Some ([], [])
  unfolding read_script
  empty-row = refl

  semi-row : read_script (t token.Semi ∷ []) ≡ Some (empty ∷ [], [])
  unfolding read_script
  semi-row = refl

  -- a, and on the next line b
  lines-row : read_script (t (id (codes "a")) ∷ (n (id (codes "b")) ∷ [])) ≡ Some (expression ∷ (expression ∷ []), [])
  unfolding read_script
  lines-row = refl

  -- a, and on the next line (b): a call
  call-row : read_script (t (id (codes "a")) ∷ (n token.LParen ∷ (t (id (codes "b")) ∷ (t token.RParen ∷ []))))
      ≡ Some (expression ∷ [], [])
  unfolding read_script
  call-row = refl

  -- a++, and on the next line (b): two statements
  update-row : read_script (t (id (codes "a")) ∷ (t token.PlusPlus ∷ (n token.LParen ∷ (t (id (codes "b")) ∷ (t token.RParen ∷ [])))))
      ≡ Some (expression ∷ (expression ∷ []), [])
  unfolding read_script
  update-row = refl

  -- a b: none
  apart-row : read_script (t (id (codes "a")) ∷ (t (id (codes "b")) ∷ [])) ≡ None
  unfolding read_script
  apart-row = refl

  -- if (a) b; else { c }
  if-row : read_script (t (key keyword.If) ∷ (t token.LParen ∷ (t (id (codes "a")) ∷ (t token.RParen ∷ (t (id (codes "b"))
      ∷ (t token.Semi ∷ (t (key keyword.Else) ∷ (t token.LBrace ∷ (t (id (codes "c")) ∷ (t token.RBrace ∷ []))))))))))
      ≡ Some (if_else ∷ [], [])
  unfolding read_script
  if-row = refl

  -- for (let a of b) ;
  for-row : read_script (t (key keyword.For) ∷ (t token.LParen ∷ (t (key keyword.Let) ∷ (t (id (codes "a"))
      ∷ (t (id (codes "of")) ∷ (t (id (codes "b")) ∷ (t token.RParen ∷ (t token.Semi ∷ []))))))))
      ≡ Some ((for_of false) ∷ [], [])
  unfolding read_script
  for-row = refl

  -- do ; while (a) b
  do-row : read_script (t (key keyword.Do) ∷ (t token.Semi ∷ (t (key keyword.While) ∷ (t token.LParen
      ∷ (t (id (codes "a")) ∷ (t token.RParen ∷ (t (id (codes "b")) ∷ [])))))))
      ≡ Some (do_while ∷ (expression ∷ []), [])
  unfolding read_script
  do-row = refl

  -- import { a as b } from "c", and export * from "d"
  import-row : read_module (t (key keyword.Import) ∷ (t token.LBrace ∷ (t (id (codes "a")) ∷ (t (id (codes "as"))
      ∷ (t (id (codes "b")) ∷ (t token.RBrace ∷ (t (id (codes "from")) ∷ (t (token.Str (codes "c") (codes "c"))
      ∷ (n (key keyword.Export) ∷ (t (token.BinOp sign.Mul) ∷ (t (id (codes "from"))
      ∷ (t (token.Str (codes "d") (codes "d")) ∷ []))))))))))))
      ≡ Some (import ∷ (export_all ∷ []), [])
  unfolding read_module
  import-row = refl

-- the members of a class, and the directives of a function, over the hook of programs
abbrev count : {F C K : Type 0} → Codes F C K → ℕ
count nothing = 0
count (more c cs) = suc (count cs)

abbrev last_count : {F C K : Type 0} → Codes F C K → ℕ
last_count nothing = 0
last_count (more c nothing) = count (codes_of c)
last_count (more c (more d ds)) = last_count (more d ds)

abbrev members : {F C K : Type 0} → Out (Code F C K) → Option (ℕ × List TokenAndSpan)
members None = None
members (Some (code f s ts, us)) = Some (last_count ts, us)
members (Some (part e, us)) = None

unfoldable read_class : List TokenAndSpan → Option (ℕ × List TokenAndSpan)
unfolding run run_expr
read_class ts = members (run place_hook Class script ts)

-- class A { static x = 1; get y() {} static {} async *z(a) {} get }
class-row : read_class (t (key keyword.Class) ∷ (t (id (codes "A")) ∷ (t token.LBrace ∷ (t (id (codes "static"))
    ∷ (t (id (codes "x")) ∷ (t (token.AssignOp write.Assign) ∷ (t (token.Num (codes "1")) ∷ (t token.Semi
    ∷ (t (id (codes "get")) ∷ (t (id (codes "y")) ∷ (t token.LParen ∷ (t token.RParen ∷ (t token.LBrace
    ∷ (t token.RBrace ∷ (t (id (codes "static")) ∷ (t token.LBrace ∷ (t token.RBrace
    ∷ (t (id (codes "async")) ∷ (t (token.BinOp sign.Mul) ∷ (t (id (codes "z")) ∷ (t token.LParen
    ∷ (t (id (codes "a")) ∷ (t token.RParen ∷ (t token.LBrace ∷ (t token.RBrace
    ∷ (t (id (codes "get")) ∷ (t token.RBrace ∷ [])))))))))))))))))))))))))))
    ≡ Some (5, [])
unfolding read_class
class-row = refl

unfoldable read_directives : List TokenAndSpan → Option (List (Form Place Place Place) × List TokenAndSpan)
unfolding run run_expr
read_directives ts = items (run place_hook (Directives false) script ts)

-- "use strict"; with (a) ; and a function after it
directive-row : read_directives (t (token.Str (codes "use strict") (codes "\"use strict\"")) ∷ (t token.Semi
    ∷ (t (key keyword.Function) ∷ (t (id (codes "f")) ∷ (t token.LParen ∷ (t token.RParen ∷ (t token.LBrace
    ∷ (t token.RBrace ∷ []))))))))
    ≡ Some (directive ∷ (fun (record { span = no_span; context = view (record script_context { strict = true }) }) ∷ []), [])
unfolding read_directives
directive-row = refl

-- x => {}, and on the next line (b): two statements
arrow-row : read_directives (t (id (codes "x")) ∷ (t token.Arrow ∷ (t token.LBrace ∷ (t token.RBrace
    ∷ (n token.LParen ∷ (t (id (codes "b")) ∷ (t token.RParen ∷ [])))))))
    ≡ Some (expression ∷ (expression ∷ []), [])
unfolding read_directives
arrow-row = refl

-- a, and on the next line [b, , c] = d: none, as `[` goes on with a
bracket-row : read_directives (t (id (codes "a")) ∷ (n token.LBracket ∷ (t (id (codes "b")) ∷ (t token.Comma
    ∷ (t token.Comma ∷ (t (id (codes "c")) ∷ (t token.RBracket ∷ (t (token.AssignOp write.Assign)
    ∷ (t (id (codes "d")) ∷ []))))))))) ≡ None
unfolding read_directives
bracket-row = refl

-- const a: none
const-row : read_directives (t (key keyword.Const) ∷ (t (id (codes "a")) ∷ [])) ≡ None
unfolding read_directives
const-row = refl

-- switch (a) { case b: c; default: } and on its line d
switch-row : read_directives (t (key keyword.Switch) ∷ (t token.LParen ∷ (t (id (codes "a")) ∷ (t token.RParen
    ∷ (t token.LBrace ∷ (t (key keyword.Case) ∷ (t (id (codes "b")) ∷ (t token.Colon ∷ (t (id (codes "c"))
    ∷ (t token.Semi ∷ (t (key keyword.Default_) ∷ (t token.Colon ∷ (t token.RBrace ∷ (t (id (codes "d")) ∷ []))))))))))))))
    ≡ Some (switch ∷ (expression ∷ []), [])
unfolding read_directives
switch-row = refl

-- try { } catch { } finally { }, and l: for (;;) break l
try-row : read_directives (t (key keyword.Try) ∷ (t token.LBrace ∷ (t token.RBrace ∷ (t (key keyword.Catch)
    ∷ (t token.LBrace ∷ (t token.RBrace ∷ (t (key keyword.Finally) ∷ (t token.LBrace ∷ (t token.RBrace
    ∷ (t (id (codes "l")) ∷ (t token.Colon ∷ (t (key keyword.For) ∷ (t token.LParen ∷ (t token.Semi ∷ (t token.Semi
    ∷ (t token.RParen ∷ (t (key keyword.Break) ∷ (t (id (codes "l")) ∷ []))))))))))))))))))
    ≡ Some (try ∷ (labelled ∷ []), [])
unfolding read_directives
try-row = refl

-- ---- a small program for each form of statement
abbrev script_place : Place
script_place = record { span = no_span; context = view script_context }

unfoldable read_module_goal : List TokenAndSpan → Option (List (Form Place Place Place) × List TokenAndSpan)
unfolding run run_expr
read_module_goal ts = items (run place_hook (Directives true) (goal_scope plain_syntax Module) ts)

unfoldable read_body : List TokenAndSpan → Option (List (Form Place Place Place) × List TokenAndSpan)
unfolding run run_expr
read_body ts = items (run place_hook (Directives false) (goal_scope plain_syntax CommonJs) ts)

-- var a ;
var-row : read_directives (t (key keyword.Var) ∷ (t (id (codes "a")) ∷ (t token.Semi ∷ []))) ≡ Some (((variables Var) ∷ []), [])
unfolding read_directives
var-row = refl

-- var a = b , c
vars-row : read_directives (t (key keyword.Var) ∷ (t (id (codes "a")) ∷ (t (token.AssignOp write.Assign) ∷ (t (id (codes "b")) ∷ (t token.Comma ∷ (t (id (codes "c")) ∷ [])))))) ≡ Some (((variables Var) ∷ []), [])
unfolding read_directives
vars-row = refl

-- let a = 1 ; b
let-row : read_directives (t (key keyword.Let) ∷ (t (id (codes "a")) ∷ (t (token.AssignOp write.Assign) ∷ (t (token.Num (codes "1")) ∷ (t token.Semi ∷ (t (id (codes "b")) ∷ [])))))) ≡ Some (((variables Let) ∷ (expression ∷ [])), [])
unfolding read_directives
let-row = refl

-- let ;
let-word-row : read_directives (t (key keyword.Let) ∷ (t token.Semi ∷ [])) ≡ Some ((expression ∷ []), [])
unfolding read_directives
let-word-row = refl

-- const a = b
const-value-row : read_directives (t (key keyword.Const) ∷ (t (id (codes "a")) ∷ (t (token.AssignOp write.Assign) ∷ (t (id (codes "b")) ∷ [])))) ≡ Some (((variables Const) ∷ []), [])
unfolding read_directives
const-value-row = refl

-- { a ; }
block-row : read_directives (t token.LBrace ∷ (t (id (codes "a")) ∷ (t token.Semi ∷ (t token.RBrace ∷ [])))) ≡ Some ((block ∷ []), [])
unfolding read_directives
block-row = refl

-- a , b
comma-row : read_directives (t (id (codes "a")) ∷ (t token.Comma ∷ (t (id (codes "b")) ∷ []))) ≡ Some ((expression ∷ []), [])
unfolding read_directives
comma-row = refl

-- if ( a ) ;
if-alone-row : read_directives (t (key keyword.If) ∷ (t token.LParen ∷ (t (id (codes "a")) ∷ (t token.RParen ∷ (t token.Semi ∷ []))))) ≡ Some ((if_else ∷ []), [])
unfolding read_directives
if-alone-row = refl

-- while ( a ) b ; c
while-row : read_directives (t (key keyword.While) ∷ (t token.LParen ∷ (t (id (codes "a")) ∷ (t token.RParen ∷ (t (id (codes "b")) ∷ (t token.Semi ∷ (t (id (codes "c")) ∷ []))))))) ≡ Some ((while ∷ (expression ∷ [])), [])
unfolding read_directives
while-row = refl

-- do a ; while ( b ) ;
do-semi-row : read_directives (t (key keyword.Do) ∷ (t (id (codes "a")) ∷ (t token.Semi ∷ (t (key keyword.While) ∷ (t token.LParen ∷ (t (id (codes "b")) ∷ (t token.RParen ∷ (t token.Semi ∷ [])))))))) ≡ Some ((do_while ∷ []), [])
unfolding read_directives
do-semi-row = refl

-- for ( ; ; ) ;
for-empty-row : read_directives (t (key keyword.For) ∷ (t token.LParen ∷ (t token.Semi ∷ (t token.Semi ∷ (t token.RParen ∷ (t token.Semi ∷ [])))))) ≡ Some ((for_parts ∷ []), [])
unfolding read_directives
for-empty-row = refl

-- for ( var i = 0 ; i < a ; i ++ ) { }
for-var-row : read_directives (t (key keyword.For) ∷ (t token.LParen ∷ (t (key keyword.Var) ∷ (t (id (codes "i")) ∷ (t (token.AssignOp write.Assign) ∷ (t (token.Num (codes "0")) ∷ (t token.Semi ∷ (t (id (codes "i")) ∷ (t (token.BinOp sign.Lt) ∷ (t (id (codes "a")) ∷ (t token.Semi ∷ (t (id (codes "i")) ∷ (t token.PlusPlus ∷ (t token.RParen ∷ (t token.LBrace ∷ (t token.RBrace ∷ [])))))))))))))))) ≡ Some ((for_parts ∷ []), [])
unfolding read_directives
for-var-row = refl

-- for ( a in b ) ;
for-in-row : read_directives (t (key keyword.For) ∷ (t token.LParen ∷ (t (id (codes "a")) ∷ (t (key keyword.In) ∷ (t (id (codes "b")) ∷ (t token.RParen ∷ (t token.Semi ∷ []))))))) ≡ Some ((for_in ∷ []), [])
unfolding read_directives
for-in-row = refl

-- for ( const a of b ) c
for-const-row : read_directives (t (key keyword.For) ∷ (t token.LParen ∷ (t (key keyword.Const) ∷ (t (id (codes "a")) ∷ (t (id (codes "of")) ∷ (t (id (codes "b")) ∷ (t token.RParen ∷ (t (id (codes "c")) ∷ [])))))))) ≡ Some (((for_of false) ∷ []), [])
unfolding read_directives
for-const-row = refl

-- for await ( const a of b ) ;
for-await-row : read_module_goal (t (key keyword.For) ∷ (t (key keyword.Await) ∷ (t token.LParen ∷ (t (key keyword.Const) ∷ (t (id (codes "a")) ∷ (t (id (codes "of")) ∷ (t (id (codes "b")) ∷ (t token.RParen ∷ (t token.Semi ∷ []))))))))) ≡ Some (((for_of true) ∷ []), [])
unfolding read_module_goal
for-await-row = refl

-- for await ( const a of b ) ;
for-no-await-row : read_directives (t (key keyword.For) ∷ (t (key keyword.Await) ∷ (t token.LParen ∷ (t (key keyword.Const) ∷ (t (id (codes "a")) ∷ (t (id (codes "of")) ∷ (t (id (codes "b")) ∷ (t token.RParen ∷ (t token.Semi ∷ []))))))))) ≡ None
unfolding read_directives
for-no-await-row = refl

-- while ( a ) continue ;
continue-row : read_directives (t (key keyword.While) ∷ (t token.LParen ∷ (t (id (codes "a")) ∷ (t token.RParen ∷ (t (key keyword.Continue) ∷ (t token.Semi ∷ [])))))) ≡ Some ((while ∷ []), [])
unfolding read_directives
continue-row = refl

-- a : while ( b ) continue a
label-row : read_directives (t (id (codes "a")) ∷ (t token.Colon ∷ (t (key keyword.While) ∷ (t token.LParen ∷ (t (id (codes "b")) ∷ (t token.RParen ∷ (t (key keyword.Continue) ∷ (t (id (codes "a")) ∷ [])))))))) ≡ Some ((labelled ∷ []), [])
unfolding read_directives
label-row = refl

-- switch ( a ) { }
switch-empty-row : read_directives (t (key keyword.Switch) ∷ (t token.LParen ∷ (t (id (codes "a")) ∷ (t token.RParen ∷ (t token.LBrace ∷ (t token.RBrace ∷ [])))))) ≡ Some ((switch ∷ []), [])
unfolding read_directives
switch-empty-row = refl

-- return a ;
return-row : read_body (t (key keyword.Return) ∷ (t (id (codes "a")) ∷ (t token.Semi ∷ []))) ≡ Some ((return ∷ []), [])
unfolding read_body
return-row = refl

-- return on its own line: a
return-line-row : read_body (t (key keyword.Return) ∷ (n (id (codes "a")) ∷ [])) ≡ Some ((return ∷ (expression ∷ [])), [])
unfolding read_body
return-line-row = refl

-- return a ;
no-return-row : read_directives (t (key keyword.Return) ∷ (t (id (codes "a")) ∷ (t token.Semi ∷ []))) ≡ None
unfolding read_directives
no-return-row = refl

-- with ( a ) b
with-row : read_directives (t (key keyword.With) ∷ (t token.LParen ∷ (t (id (codes "a")) ∷ (t token.RParen ∷ (t (id (codes "b")) ∷ []))))) ≡ Some ((with ∷ []), [])
unfolding read_directives
with-row = refl

-- throw a
throw-row : read_directives (t (key keyword.Throw) ∷ (t (id (codes "a")) ∷ [])) ≡ Some ((throw ∷ []), [])
unfolding read_directives
throw-row = refl

-- throw on its own line: a
no-throw-row : read_directives (t (key keyword.Throw) ∷ (n (id (codes "a")) ∷ [])) ≡ None
unfolding read_directives
no-throw-row = refl

-- try { } finally { }
finally-row : read_directives (t (key keyword.Try) ∷ (t token.LBrace ∷ (t token.RBrace ∷ (t (key keyword.Finally) ∷ (t token.LBrace ∷ (t token.RBrace ∷ [])))))) ≡ Some ((try ∷ []), [])
unfolding read_directives
finally-row = refl

-- try { } catch ( e ) { }
catch-row : read_directives (t (key keyword.Try) ∷ (t token.LBrace ∷ (t token.RBrace ∷ (t (key keyword.Catch) ∷ (t token.LParen ∷ (t (id (codes "e")) ∷ (t token.RParen ∷ (t token.LBrace ∷ (t token.RBrace ∷ []))))))))) ≡ Some ((try ∷ []), [])
unfolding read_directives
catch-row = refl

-- try { }
no-try-row : read_directives (t (key keyword.Try) ∷ (t token.LBrace ∷ (t token.RBrace ∷ []))) ≡ None
unfolding read_directives
no-try-row = refl

-- debugger
debugger-row : read_directives (t (key keyword.Debugger) ∷ []) ≡ Some ((debugger ∷ []), [])
unfolding read_directives
debugger-row = refl

-- function f ( ) { }
function-row : read_directives (t (key keyword.Function) ∷ (t (id (codes "f")) ∷ (t token.LParen ∷ (t token.RParen ∷ (t token.LBrace ∷ (t token.RBrace ∷ [])))))) ≡ Some (((fun script_place) ∷ []), [])
unfolding read_directives
function-row = refl

-- async function f ( ) { } a
async-row : read_directives (t (id (codes "async")) ∷ (t (key keyword.Function) ∷ (t (id (codes "f")) ∷ (t token.LParen ∷ (t token.RParen ∷ (t token.LBrace ∷ (t token.RBrace ∷ (t (id (codes "a")) ∷ [])))))))) ≡ Some (((fun script_place) ∷ (expression ∷ [])), [])
unfolding read_directives
async-row = refl

-- async on its own line: function f ( ) { }
async-line-row : read_directives (t (id (codes "async")) ∷ (n (key keyword.Function) ∷ (t (id (codes "f")) ∷ (t token.LParen ∷ (t token.RParen ∷ (t token.LBrace ∷ (t token.RBrace ∷ []))))))) ≡ Some ((expression ∷ ((fun script_place) ∷ [])), [])
unfolding read_directives
async-line-row = refl

-- class A { }
class-statement-row : read_directives (t (key keyword.Class) ∷ (t (id (codes "A")) ∷ (t token.LBrace ∷ (t token.RBrace ∷ [])))) ≡ Some (((class script_place) ∷ []), [])
unfolding read_directives
class-statement-row = refl

-- a on its own line: ++ b
plus-line-row : read_directives (t (id (codes "a")) ∷ (n token.PlusPlus ∷ (t (id (codes "b")) ∷ []))) ≡ Some ((expression ∷ (expression ∷ [])), [])
unfolding read_directives
plus-line-row = refl

-- while ( a ) let b
no-let-row : read_directives (t (key keyword.While) ∷ (t token.LParen ∷ (t (id (codes "a")) ∷ (t token.RParen ∷ (t (key keyword.Let) ∷ (t (id (codes "b")) ∷ [])))))) ≡ None
unfolding read_directives
no-let-row = refl

-- while (a) let, and on the next line b: as a part, `let` is a name
let-part-row : read_directives (t (key keyword.While) ∷ (t token.LParen ∷ (t (id (codes "a")) ∷ (t token.RParen ∷ (t (key keyword.Let) ∷ (n (id (codes "b")) ∷ [])))))) ≡ Some ((while ∷ (expression ∷ [])), [])
unfolding read_directives
let-part-row = refl

-- while (a) let, and on the next line [b]
no-let-part-row : read_directives (t (key keyword.While) ∷ (t token.LParen ∷ (t (id (codes "a")) ∷ (t token.RParen ∷ (t (key keyword.Let) ∷ (n token.LBracket ∷ (t (id (codes "b")) ∷ (t token.RBracket ∷ [])))))))) ≡ None
unfolding read_directives
no-let-part-row = refl

-- x => { } on its own line: [ a ]
block-line-row : read_directives (t (id (codes "x")) ∷ (t token.Arrow ∷ (t token.LBrace ∷ (t token.RBrace ∷ (n token.LBracket ∷ (t (id (codes "a")) ∷ (t token.RBracket ∷ []))))))) ≡ Some ((expression ∷ (expression ∷ [])), [])
unfolding read_directives
block-line-row = refl

-- import "a"
import-alone-row : read_module_goal (t (key keyword.Import) ∷ (t (token.Str (codes "a") (codes "a")) ∷ [])) ≡ Some ((import ∷ []), [])
unfolding read_module_goal
import-alone-row = refl

-- import a , { b } from "c" ;
import-names-row : read_module_goal (t (key keyword.Import) ∷ (t (id (codes "a")) ∷ (t token.Comma ∷ (t token.LBrace ∷ (t (id (codes "b")) ∷ (t token.RBrace ∷ (t (id (codes "from")) ∷ (t (token.Str (codes "c") (codes "c")) ∷ (t token.Semi ∷ []))))))))) ≡ Some ((import ∷ []), [])
unfolding read_module_goal
import-names-row = refl

-- import * as a from "b"
import-all-row : read_module_goal (t (key keyword.Import) ∷ (t (token.BinOp sign.Mul) ∷ (t (id (codes "as")) ∷ (t (id (codes "a")) ∷ (t (id (codes "from")) ∷ (t (token.Str (codes "b") (codes "b")) ∷ [])))))) ≡ Some ((import ∷ []), [])
unfolding read_module_goal
import-all-row = refl

-- export { a as b }
export-list-row : read_module_goal (t (key keyword.Export) ∷ (t token.LBrace ∷ (t (id (codes "a")) ∷ (t (id (codes "as")) ∷ (t (id (codes "b")) ∷ (t token.RBrace ∷ [])))))) ≡ Some ((export_named ∷ []), [])
unfolding read_module_goal
export-list-row = refl

-- export default a
export-default-row : read_module_goal (t (key keyword.Export) ∷ (t (key keyword.Default_) ∷ (t (id (codes "a")) ∷ []))) ≡ Some ((export_default ∷ []), [])
unfolding read_module_goal
export-default-row = refl

-- export const a = b
export-const-row : read_module_goal (t (key keyword.Export) ∷ (t (key keyword.Const) ∷ (t (id (codes "a")) ∷ (t (token.AssignOp write.Assign) ∷ (t (id (codes "b")) ∷ []))))) ≡ Some ((export_declaration ∷ []), [])
unfolding read_module_goal
export-const-row = refl

-- export function f ( ) { }
export-function-row : read_module_goal (t (key keyword.Export) ∷ (t (key keyword.Function) ∷ (t (id (codes "f")) ∷ (t token.LParen ∷ (t token.RParen ∷ (t token.LBrace ∷ (t token.RBrace ∷ []))))))) ≡ Some ((export_declaration ∷ []), [])
unfolding read_module_goal
export-function-row = refl

-- export * as a from "b"
export-star-as-row : read_module_goal (t (key keyword.Export) ∷ (t (token.BinOp sign.Mul) ∷ (t (id (codes "as")) ∷ (t (id (codes "a")) ∷ (t (id (codes "from")) ∷ (t (token.Str (codes "b") (codes "b")) ∷ [])))))) ≡ Some ((export_all ∷ []), [])
unfolding read_module_goal
export-star-as-row = refl

-- import "a"
no-import-row : read_directives (t (key keyword.Import) ∷ (t (token.Str (codes "a") (codes "a")) ∷ [])) ≡ None
unfolding read_directives
no-import-row = refl

-- ---- where the clean reader of expressions stops, and what it leaves
abbrev left : {A : Type 0} → Out A → Option (List TokenAndSpan)
left None = None
left (Some p) = Some p.1

unfoldable left_of_expr : List TokenAndSpan → Option (List TokenAndSpan)
unfolding run_expr
left_of_expr ts = left (run_expr place_hook (sym Expr) script ts)

-- `await` is a name before `(` on the next line, in a script, and isn't called: so the program isn't derived
await-stops-row : left_of_expr (t (key keyword.Await) ∷ (n token.LParen ∷ [])) ≡ Some (n token.LParen ∷ [])
unfolding left_of_expr
await-stops-row = refl

await-row : read_directives (t (key keyword.Await) ∷ (n token.LParen ∷ (t (id (codes "b")) ∷ (t token.RParen ∷ [])))) ≡ None
unfolding read_directives
await-row = refl

-- -a, and on the next line `/=`, which isn't read after an operation
minus-stops-row : left_of_expr (t (token.BinOp sign.Sub) ∷ (t (id (codes "a")) ∷ (n (token.AssignOp write.DivAssign) ∷ [])))
    ≡ Some (n (token.AssignOp write.DivAssign) ∷ [])
unfolding left_of_expr
minus-stops-row = refl
