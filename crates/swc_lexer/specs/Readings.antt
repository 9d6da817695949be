-- How a text is read: token by token, each by the goal that the tokens before it tell.
use Rattle.std.specs.Prelude.{◌≡◌, ℕ, zero, suc, ◌+◌, ◌-◌, ◌*◌, ◌≤◌, ◌<◌, Bool, true, false, not, ◌&&◌, ◌||◌, if◌then◌else◌, nat_eq, nat_lt, nat_le, List, [], ◌∷◌, Option, Some, None, length, drop, slice_range, slice_get}
use Rattle.swc_context.specs.{declared.context.Context.Context, declared.error.SyntaxError.SyntaxError, declared.span.Span.Span}
use Rattle.swc_input.specs.{declared.token.Token.Token, declared.token.TokenAndSpan.TokenAndSpan}
use Rattle.swc_lexical.specs.{declared.scan.Goal.Goal, declared.scan.Piece.Piece, declared.fault.Wrong.Wrong, declared.lexeme.Kind.Kind as Lexical, Faults.char_len, Faults.fault_of, Runs.is_at, Scans.piece_at, Scans.gapes}
use Rattle.swc_lexical.specs.Blanks.{blanks_len, has_break, hashbang_len}
use Rattle.swc_lexer.specs.{declared.place.Kind.Kind, declared.reader.End.End, declared.reader.End.TheVariants.Whole, declared.reader.End.TheVariants.BeforeBrace, declared.reader.Here.Here, declared.reader.Reader.Reader, declared.stack.Start.Start, Marks.mark_of, Tokens.token_of}
use Rattle.swc_lexer.specs.Places.{is_asking, is_dot, is_template}
use Rattle.swc_lexer.specs.Stacks.{State, innermost, passed, first_state, has_brace}
use Rattle.swc_context.specs.declared.error.SyntaxError.TheVariants as fault
use Rattle.swc_input.specs.declared.token.Token.TheVariants as token
use Rattle.swc_lexical.specs.declared.scan.Goal.TheVariants as goal
use Rattle.swc_lexical.specs.declared.fault.Wrong.TheVariants as wrong
use Rattle.swc_lexical.specs.declared.lexeme.Kind.TheVariants as lexical
use Rattle.swc_lexer.specs.declared.reader.Here.TheVariants as here_
use Rattle.swc_lexer.specs.Stacks as stacks

-- how far a text was read, and what was read so far; whether nothing comes any more
pub record Reading : Type 0 where
  pub at : ℕ
  pub state : State
  pub ended : Bool

-- ---- what comes next

-- of a text in UTF-8: a character begins there, or the text ends
abbrev pub begins_char : ℕ → Bool
begins_char b = nat_lt b 128 || nat_le 192 b

abbrev pub edge_of : List ℕ → ℕ → Option ℕ → Bool
edge_of bs at None = nat_eq at (length bs)
edge_of bs at (Some b) = begins_char b

abbrev pub is_edge : List ℕ → ℕ → Bool
is_edge bs at = edge_of bs at (slice_get bs at)

abbrev pub is_text : Goal → Bool
is_text goal.Text = true
is_text g = false

-- a token takes some of the text, unless it is the text of a template
abbrev pub moves : Piece → Bool
moves p = nat_lt 0 p.len || is_text p.goal

abbrev pub goal_here : State → List ℕ → Goal
goal_here s bs = stacks.goal s (has_break bs (blanks_len bs))

-- blanks are left alone, or the `}` before which the text ends
abbrev pub is_over_in_code : End → State → List ℕ → Bool
is_over_in_code Whole s bs = nat_eq (blanks_len bs) (length bs)
is_over_in_code BeforeBrace s bs = nat_eq (blanks_len bs) (length bs) || is_at bs (blanks_len bs) 125 && not
    (has_brace s.frames)

abbrev pub is_over : End → State → Goal → List ℕ → Bool
is_over e s goal.Text bs = false
is_over e s goal.Delimiter bs = false
is_over e s g bs = is_over_in_code e s bs

abbrev pub piece_or_fault : Bool → List ℕ → Option Piece → Here
piece_or_fault asks bs None = here_.Fault
piece_or_fault asks bs (Some p) = if moves p && not (gapes asks p bs) then here_.Piece p else here_.Fault

abbrev pub piece_here : Goal → Bool → List ℕ → Here
piece_here g asks bs = piece_or_fault asks bs (piece_at g bs)

abbrev pub what_comes : End → State → List ℕ → Here
what_comes e s bs = if is_over e s (goal_here s bs) bs then here_.Over else piece_here (goal_here s bs)
    (is_asking s.place) bs

abbrev pub IsWithin : Here → ℕ → Type 0
IsWithin (here_.Piece p) n = p.blanks + p.len ≤ n
IsWithin h n = Unit {0}

abbrev pub HasGoal : Here → Goal → Type 0
HasGoal (here_.Piece p) g = p.goal ≡ g
HasGoal h g = Unit {0}

-- ---- faults

-- what is wrong, as the parser says it
abbrev pub kind_of : Wrong → SyntaxError
kind_of wrong.Comment = fault.UnterminatedBlockComment
kind_of wrong.Regexp = fault.UnterminatedRegExp
kind_of wrong.String = fault.UnterminatedStrLit
kind_of wrong.Template = fault.UnterminatedTpl
kind_of wrong.Name = fault.IdentAfterNum
kind_of wrong.Digit = fault.ExpectedDigit
kind_of wrong.Escape = fault.BadCharacterEscapeSequence
kind_of wrong.Character = fault.UnexpectedChar

abbrev pub fault_token : SyntaxError → ℕ → ℕ → TokenAndSpan
fault_token k lo hi =
    let s : Span = record { lo = record { 0 = lo }; hi = record { 0 = hi } } in
    record { token = token.Error (record { span = s; kind = k }); had_line_break = false; span = s }

-- a template that isn't closed begins before its text, with a backquote or a brace
abbrev pub begins : Goal → ℕ → ℕ
begins goal.Text at = at - 1
begins g at = at

-- the fault of what is here, which is no token
abbrev pub fault_here : Goal → List ℕ → ℕ → TokenAndSpan
fault_here g bs at =
    let f = fault_of g (drop at bs) in fault_token (kind_of f.wrong) (begins g (at + f.offset)) (at + f.offset + f.len)

-- the fault of a piece that is no token: a word with escapes, which means a keyword, or a character
abbrev pub fault_of_kind : Lexical → ℕ → ℕ → List ℕ → TokenAndSpan
fault_of_kind lexical.Word at len bs = fault_token fault.EscapeInReservedWord at (at + len)
fault_of_kind k at len bs = fault_token fault.UnexpectedChar at (at + char_len (drop at bs))

-- ---- a token

abbrev pub placed : ℕ → Piece → List ℕ → Option Token → Option TokenAndSpan
placed at p bs None = None
placed at p bs (Some t) =
    Some (record {
      token = t;
      had_line_break = has_break (drop at bs) p.blanks;
      span = record { lo = record { 0 = at + p.blanks }; hi = record { 0 = at + p.blanks + p.len } };
    })

-- what the piece is, whose blanks begin at the place: it begins and ends with a character
abbrev pub one_of : Bool → ℕ → Piece → List ℕ → Option TokenAndSpan
one_of named at p bs =
    if is_edge bs (at + p.blanks) && is_edge bs (at + p.blanks + p.len)
    then placed at p bs (token_of named p.kind (at + p.blanks) (slice_range bs (at + p.blanks) (at + p.blanks + p.len)))
    else None

abbrev pub ended : Reading → Reading
ended r = record r { ended = true }

abbrev pub read : Piece → TokenAndSpan → Reading → Reading
read p t r = record r {
  at = r.at + p.blanks + p.len;
  state =
      passed (mark_of t.token) (nat_eq p.blanks 0) t.had_line_break r.state;
}

-- the text of a template, or what ends it, comes next
abbrev pub has_no_blanks : Goal → Bool
has_no_blanks goal.Text = true
has_no_blanks goal.Delimiter = true
has_no_blanks g = false

abbrev pub is_in_template : Reading → Bool
is_in_template r = has_no_blanks (stacks.goal r.state false)

-- the same reading, further on
abbrev pub skipped : ℕ → Reading → Reading
skipped at r = record r { at = at }

-- the reading after a word between two places, which was a fault
abbrev pub word_passed : Token → ℕ → ℕ → List ℕ → Reading → Reading
word_passed t lo hi bs r = record {
  at = hi;
  state =
      passed (mark_of t) (nat_eq (lo - r.at) 0) (has_break (drop r.at bs) (lo - r.at)) r.state;
  ended = false;
}

abbrev pub given_of : List ℕ → Reading → Piece → Option TokenAndSpan → TokenAndSpan × Reading
given_of bs r p None = (fault_of_kind p.kind (r.at + p.blanks) p.len bs, ended r)
given_of bs r p (Some t) = (t, read p t r)

-- the token of a piece, and the reading after it; or a fault, after which nothing comes
abbrev pub given : List ℕ → Reading → Piece → TokenAndSpan × Reading
given bs r p = given_of bs r p (one_of (is_dot r.state.place) r.at p bs)

-- a call gave this token, and led to this reading
abbrev pub AreGiven : Option TokenAndSpan → Reading → TokenAndSpan × Reading → Type 0
AreGiven o t g = (o ≡ Some g.0) × (t ≡ g.1)

-- what is no token, after which nothing comes
abbrev pub given_fault : List ℕ → Reading → TokenAndSpan × Reading
given_fault bs r = (fault_here (goal_here r.state (drop r.at bs)) bs r.at, ended r)

abbrev pub next_by : List ℕ → Reading → Here → Option (TokenAndSpan × Reading)
next_by bs r here_.Over = None
next_by bs r here_.Fault = Some (given_fault bs r)
next_by bs r (here_.Piece p) = Some (given bs r p)

-- a text of 4 GB or more is a fault
abbrev pub given_long : List ℕ → Reading → TokenAndSpan × Reading
given_long bs r = (fault_token fault.Lex 0 0, ended r)

abbrev pub next_in : End → List ℕ → Reading → Option (TokenAndSpan × Reading)
next_in e bs r =
    if nat_lt 4294967295 (length bs) then Some (given_long bs r) else next_by bs r (what_comes e r.state (drop r.at bs))

-- the next token, and the reading after it
abbrev pub next_of : End → List ℕ → Reading → Option (TokenAndSpan × Reading)
next_of e bs r = if r.ended then None else next_in e bs r

-- ---- all tokens

-- no more tokens than this are still to come: a token takes a byte at least, but for the text of a template, which one
-- more follows
abbrev pub weight : State → ℕ
weight s = if is_template (innermost s.frames) && not s.place.has_text then 2 else 1

abbrev pub bound : List ℕ → Reading → ℕ
bound bs r = if r.ended then 0 else 2 * (length bs - r.at) + weight r.state

-- a token, and those after it
abbrev pub more : List ℕ → ℕ → (Reading → List TokenAndSpan) → Option (TokenAndSpan × Reading) → List TokenAndSpan
more bs b f None = []
more bs b f (Some x) = if nat_lt (bound bs x.1) b then x.0 ∷ f x.1 else []

-- at most n tokens of a reading, one after another
unfoldable pub tokens_in : ℕ → End → List ℕ → Reading → List TokenAndSpan
tokens_in zero e bs r = []
tokens_in (suc n) e bs r = more bs (bound bs r) (λ x. tokens_in n e bs x) (next_of e bs r)

-- the tokens still to come
abbrev pub tokens_from : End → List ℕ → Reading → List TokenAndSpan
tokens_from e bs r = tokens_in (bound bs r) e bs r

-- which words are operators where a text begins: `await` in an async function, and in a module
abbrev pub kind_in : Context → Kind
kind_in c = record { awaits = c.in_async || c.module; yields = c.in_generator }

abbrev pub begin : List ℕ → ℕ → ℕ
begin bs at = if nat_eq at 0 then hashbang_len bs else at

-- at a place in a text, before which a hashbang may be at its beginning
abbrev pub first : List ℕ → ℕ → Start → Kind → Reading
first bs at s k = record { at = begin bs at; state = first_state s k; ended = false }

-- the tokens of a text from a place on
abbrev pub tokens_of : End → ℕ → Start → Kind → List ℕ → List TokenAndSpan
tokens_of e at s k bs = tokens_from e bs (first bs at s k)

-- ---- what code gives

abbrev pub reading_of : Reader → Reading
reading_of r = record { at = r.at; state = stacks.state_of r.stack; ended = r.ended }

-- one call gave a token, or none at the end, and led from one reading to another
pub data Gives (e : End) (bs : List ℕ) (r : Reading) : Option TokenAndSpan → Reading → Type 0 where
  gave : {x : TokenAndSpan} {t : Reading} → next_of e bs r ≡ Some (x, t) → bound bs t < bound bs r
      → Gives e bs r (Some x) t
  stopped : {t : Reading} → next_of e bs r ≡ None → t.ended ≡ true → Gives e bs r None t
