-- What the program is asked to do, and what it answers.
use Rattle.std.specs.Prelude.{◌≡◌, ℕ, true, if◌then◌else◌, List, [], ◌∷◌, Option, Some, None, IsSome, IfSome, Result, Ok, Err, codes}
use Rattle.swc_context.specs.Contexts.{script_context, module_context, strict_context, generator_context, async_context}
use Rattle.swc_context.specs.{Texts.is_text, declared.context.Context.Context, declared.context.Syntax.Syntax, declared.error.Error.Error}
use Rattle.swc_grammar.specs.Symbols.{Symbol}
use Rattle.show.specs.{declared.answer.Asked.Asked, declared.answer.Shown.Shown, declared.answer.What.What, declared.answer.What.What as kind, Answers.as_default, Answers.Answers}

-- the context of a mode
abbrev pub context_of_mode : List ℕ → Option Context
context_of_mode mode =
    if is_text mode (codes "script") then Some script_context
    else (if is_text mode (codes "module") then Some module_context
    else (if is_text mode (codes "strict") then Some strict_context
    else (if is_text mode (codes "generator") then Some generator_context
    else (if is_text mode (codes "async") then Some async_context
    else None))))

-- the syntax of a flag
abbrev pub syntax_of_flag : List ℕ → Option Syntax
syntax_of_flag flag = if is_text flag (codes "pedantic") then Some (record as_default { pedantic = true }) else None

-- what is asked for in a mode, by a syntax
abbrev pub asked_with : What → Option Context → Syntax → Option Asked
asked_with what None x = None
asked_with what (Some c) x = Some (record { what = what; context = c; syntax = x })

abbrev pub asked_in : What → List ℕ → Syntax → Option Asked
asked_in what mode x = asked_with what (context_of_mode mode) x

-- by two words: `expr` or `pat`, and a mode
abbrev pub asked_by_words : List ℕ → List ℕ → Syntax → Option Asked
asked_by_words what mode x =
    if is_text what (codes "expr") then asked_in kind.Expr mode x
    else (if is_text what (codes "pat") then asked_in kind.Pat mode x
    else None)

-- the same by the syntax of a flag
abbrev pub asked_by_flag : List ℕ → List ℕ → Option Syntax → Option Asked
asked_by_flag what mode None = None
asked_by_flag what mode (Some x) = asked_by_words what mode x

-- by the arguments: two words, and a flag or none
abbrev pub asked_by : List (List ℕ) → Option Asked
asked_by (what ∷ mode ∷ []) = asked_by_words what mode as_default
asked_by (what ∷ mode ∷ flag ∷ []) = asked_by_flag what mode (syntax_of_flag flag)
asked_by arguments = None

abbrev pub Asks : List (List ℕ) → Type 0
Asks arguments = IsSome (asked_by arguments)

-- the status of what was read, or refused, with the faults that were recorded
abbrev pub status : {S : Type 0} → Result S Error → List Error → ℕ
status (Err e) es = 2
status (Ok s) [] = 0
status (Ok s) (e ∷ es) = 1

-- the status of a run that reads a symbol in a context by a syntax, over an input that gives these bytes, where they
-- are known, and may be unreadable, and an output that may be unwritable
pub data Runs (s : Symbol) (c : Context) (x : Syntax) (given : Option (List ℕ)) (unreadable unwritable : Type 0)
    : ℕ → Type 0 where
  -- The input couldn't be read.
  unread : unreadable → Runs s c x given unreadable unwritable 3
  -- The answer couldn't be written.
  unwritten : unwritable → Runs s c x given unreadable unwritable 3
  -- What the input gave was answered.
  answers : {text : List ℕ} {shown : Result Shown Error} {recorded : List Error} → IfSome given (λ bytes. text ≡ bytes)
      → Answers s c x text shown recorded → Runs s c x given unreadable unwritable (status shown recorded)
