-- The stack of what is open in a text: a function of the tokens so far.
use Rattle.std.specs.Prelude.{ℕ, ◌-◌, Bool, true, false, if◌then◌else◌, List, [], ◌∷◌, Option, Some, None, take, reverse}
use Rattle.swc_lexical.specs.declared.scan.Goal.{Goal}
use Rattle.swc_lexer.specs.{declared.mark.Mark.Mark, declared.place.Before.Before, declared.place.Break.Break, declared.place.Entry.Entry, declared.place.Frame.Frame, declared.place.Kind.Kind, declared.place.Move.Move, declared.place.Open.Open, declared.place.Place.Place, declared.stack.Change.Change, declared.stack.Stack.Stack, declared.stack.Start.Start, declared.stack.Start.TheVariants.Statements, declared.stack.Start.TheVariants.Operand}
use Rattle.swc_lexer.specs.declared.place.Break.TheVariants.{Nothing, Changes, Closes}
use Rattle.swc_lexer.specs.Places.{at_break, closes, is_brace, is_passed, enters, after, goal_at}
use Rattle.swc_lexer.specs.declared.mark.Mark.TheVariants as mark
use Rattle.swc_lexer.specs.declared.place.Before.TheVariants as before

pub record State : Type 0 where
  -- what is open, the innermost first
  pub frames : List Frame
  pub place : Place

-- ---- frames

abbrev pub innermost : List Frame → Option Frame
innermost [] = None
innermost (f ∷ fs) = Some f

-- all but the innermost
abbrev pub outer : List Frame → List Frame
outer [] = []
outer (f ∷ fs) = fs

abbrev pub opened : Option Frame → List Frame → List Frame
opened None fs = fs
opened (Some f) fs = f ∷ fs

-- without the innermost, where it is closed
abbrev pub shut : Bool → List Frame → List Frame
shut true fs = outer fs
shut false fs = fs

-- the innermost but for the expressions after `=>` and declarations
unfoldable pub below : List Frame → Option Open
below [] = None
below (f ∷ fs) = if is_passed f.what then below fs else Some f.what

-- whether a brace is open
unfoldable pub has_brace : List Frame → Bool
has_brace [] = false
has_brace (f ∷ fs) = if is_brace f.what then true else has_brace fs

-- what is left, and of which kind, once a token has closed what it ends
unfoldable pub closed_from : Mark → Kind → List Frame → Kind × List Frame
closed_from m k [] = (k, [])
closed_from m k (f ∷ fs) = if closes m f.what then closed_from m f.outer fs else (k, f ∷ fs)

abbrev pub with_kind : Place → Kind × List Frame → State
with_kind p r = record { frames = r.1; place = record p { kind = r.0 } }

abbrev pub closed : Mark → State → State
closed m s = with_kind s.place (closed_from m s.place.kind s.frames)

-- ---- a token

abbrev pub counting_as : Before → Place → Place
counting_as b p = record p { before = b }

abbrev pub counted_as : Before → State → State
counted_as b s = record { frames = s.frames; place = counting_as b s.place }

-- a line break before the token
abbrev pub broken_by : Break → State → State
broken_by Nothing s = s
broken_by (Changes b) s = counted_as b s
broken_by (Closes m b) s = counted_as b (closed m s)

abbrev pub broken : Mark → State → State
broken m s = broken_by (at_break s.place.before (innermost s.frames) (below s.frames) m) s

abbrev pub break_if : Bool → Mark → State → State
break_if true m s = broken m s
break_if false m s = s

-- what begins before the token of which no bracket tells
abbrev pub entered_by : Entry → List Frame → State
entered_by e fs = record { frames = opened e.opens fs; place = e.place }

abbrev pub entered : Mark → State → State
entered m s = entered_by (enters s.place (innermost s.frames) m) s.frames

abbrev pub is_chars : Mark → Bool
is_chars mark.Chars = true
is_chars m = false

abbrev pub with_text : Bool → Place → Place
with_text has p = record p { has_text = has }

abbrev pub moved_by : Bool → Move → List Frame → State
moved_by has m fs = record { frames = opened m.opens (shut m.closes fs); place = with_text has m.place }

-- what the token itself does
abbrev pub moved : Mark → Bool → Bool → State → State
moved m adjoins breaks s = moved_by (is_chars m) (after s.place (innermost s.frames) m adjoins breaks) s.frames

-- After a token: a line break before it may end a statement, it closes what has no bracket of its own, something may
-- begin before it, and then it does what it does. `adjoins` says that no blank is before it, and `breaks` that a line
-- break is.
abbrev pub passed : Mark → Bool → Bool → State → State
passed m adjoins breaks s = moved m adjoins breaks (entered m (closed m (break_if breaks m s)))

-- ---- the beginning, and the goal

abbrev pub first_before : Start → Before
first_before Statements = before.Statement
first_before Operand = before.Wanted

abbrev pub first_place : Start → Kind → Place
first_place s k = record { before = first_before s; kind = k; has_text = false; in_names = false }

abbrev pub first_state : Start → Kind → State
first_state s k = record { frames = []; place = first_place s k }

-- which goal of the lexical grammar comes next, after a line break or not
abbrev pub goal : State → Bool → Goal
goal s breaks = goal_at s.place (innermost s.frames) breaks

-- ---- how code keeps a state: the innermost last

-- of the outermost n frames, the innermost first
abbrev pub inner : List Frame → ℕ → List Frame
inner fs n = reverse (take n fs)

abbrev pub state_at : List Frame → ℕ → Place → State
state_at fs n p = record { frames = inner fs n; place = p }

abbrev pub with_frames : Place → List Frame → State
with_frames p fs = record { frames = fs; place = p }

abbrev pub state_of : Stack → State
state_of s = with_frames s.place (reverse s.frames.items)

-- after a change of frames
abbrev pub frames_after : List Frame → Change → List Frame
frames_after fs c = opened c.second (opened c.first (inner fs c.depth))

abbrev pub state_after : List Frame → Change → State
state_after fs c = with_frames c.place (frames_after fs c)

abbrev pub top_of : Option Frame → Option Frame → Option Frame
top_of None top = top
top_of (Some f) top = Some f

abbrev pub depth_after : Bool → Option Frame → ℕ → ℕ
depth_after true None n = n - 1
depth_after c o n = n

abbrev pub kept : Bool → Option Frame → Option Frame
kept true o = None
kept false o = o
