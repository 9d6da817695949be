-- What is answered of a source text.
use Rattle.std.specs.Prelude.{◌≡◌, ℕ, ◌<◌, ◌≤◌, Bool, true, false, List, [], length, Result, Err, IfOk, MatchResult}
use Rattle.swc_context.specs.{Contexts.view, declared.context.Context.Context, declared.context.Syntax.Syntax, declared.error.Error.Error, declared.error.SyntaxError.TheVariants.OutOfMemory}
use Rattle.swc_input.specs.{declared.token.TokenAndSpan.TokenAndSpan, Source.Source}
use Rattle.swc_ast.specs.Tree.{Tree}
use Rattle.swc_tokens.specs.Faults.{lex_fault, between, IsRefusal}
use Rattle.swc_tokens.specs.Moved.{AreTokensOf}
use Rattle.swc_grammar.specs.Symbols.{Symbol, Expr, Pat}
use Rattle.swc_grammar.specs.Reads.{Reads}
use Rattle.swc_steps.specs.Parsing.{scope_of}
use Rattle.swc_ecma_parser.specs.{Promise.Finished, Promise.covers_done, WholeList.plain_list, WholeList.IsHeeded, WholeList.Lists}
use Rattle.show.specs.{Counts.counted_forms, declared.counted.Counted.Counted, declared.answer.Shown.Shown, declared.answer.What.What, declared.answer.What.What as kind}

-- the syntax in which the program reads, if no flag asks for another
abbrev pub as_default : Syntax
as_default = record {
  early_errors = true;
  import_attributes = false;
  allow_super_outside_method = false;
  pedantic = false;
}

-- what the reader of tokens refuses of the text
pub record IsTokenFault (text : List ℕ) (e : Error) : Type 0 where
  pub too_long : 4294967295 < length text → e ≡ lex_fault (between 0 0)
  pub inside : length text ≤ 4294967295 → IsRefusal text e

-- as which symbol a text is read
abbrev pub symbol_of : What → Symbol
symbol_of kind.Expr = Expr
symbol_of kind.Pat = Pat

-- a tree of the symbol that the written grammar derives from all of the tokens, in which no cover name is left if the
-- syntax is pedantic, and a function, a class or a block is its place and the number of its tokens; four flags of the
-- context decide nothing (`view`)
pub record Derived (s : Symbol) (c : Context) (x : Syntax) (ts : List TokenAndSpan) : Type 0 where
  pub tree : Tree Counted Counted Counted
  pub reads : Finished covers_done (Reads counted_forms s) (scope_of (view c) x) (plain_list ts) [] tree

-- what is answered of a text's tokens, and recorded
pub record Judged (s : Symbol) (c : Context) (x : Syntax) (ts : List TokenAndSpan) (shown : Result Shown Error)
    (recorded : List Error) : Type 0 where
  -- Where no token is left and nothing was recorded, the written grammar derives a tree from all of them.
  pub sound : IfOk shown (λ v. v.unread ≡ false → recorded ≡ [] → Derived s c x ts)
  -- Where it derives a tree from all of them, that is so, or memory ran out.
  pub complete : Derived s c x ts
      → MatchResult shown (λ v. (v.unread ≡ false) × (recorded ≡ [])) (λ e. e.kind ≡ OutOfMemory)

-- what is answered of a source that has recorded nothing, and still gives these tokens, and recorded
abbrev pub IsJudged : Symbol → Source → List TokenAndSpan → Result Shown Error → List Error → Type 0
IsJudged s source ts shown recorded =
    Lists (plain_list ts) source → IsHeeded source.context source.syntax
    → Judged s source.context source.syntax ts shown recorded

-- what is answered of a text that is read as the symbol in a context by a syntax, and recorded
pub data Answers (s : Symbol) (c : Context) (x : Syntax) (text : List ℕ)
    : Result Shown Error → List Error → Type 0 where
  -- The text's tokens can't be read.
  refused : {e : Error} → IsTokenFault text e → Answers s c x text (Err e) []
  -- They were read.
  judged : {ts : List TokenAndSpan} {shown : Result Shown Error} {recorded : List Error} → AreTokensOf text ts
      → Judged s c x ts shown recorded → Answers s c x text shown recorded

-- what was read is shown: whether tokens are left after it, or the refusal; there may be no memory for its text
abbrev pub Shows : {N : Type 0} → Result (N × Bool) Error → Result Shown Error → Type 0
Shows read shown = MatchResult read (λ r. MatchResult shown (λ v. v.unread ≡ r.1) (λ e. e.kind ≡ OutOfMemory))
    (λ e. shown ≡ Err e)
