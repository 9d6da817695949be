-- What was read so far, as far as it tells whether a slash that comes next divides (ECMA-262, 12 and 12.10): the token
-- before, the kind of the function, and what is opened.
use Rattle.std.specs.Prelude.{Bool, true, false, not, ◌&&◌, ◌||◌, if◌then◌else◌, Option, Some, None}
use Rattle.swc_lexical.specs.declared.scan.Goal.{Goal}
use Rattle.swc_lexer.specs.{declared.mark.Mark.Mark, declared.mark.Name.Name, declared.place.Before.Before, declared.place.Break.Break, declared.place.Entry.Entry, declared.place.Frame.Frame, declared.place.Kind.Kind, declared.place.Move.Move, declared.place.Open.Open, declared.place.Place.Place, declared.place.Then.Then}
use Rattle.swc_lexer.specs.declared.place.Break.TheVariants.{Nothing, Changes, Closes}
use Rattle.swc_lexical.specs.declared.scan.Goal.TheVariants as goal
use Rattle.swc_lexer.specs.declared.mark.Mark.TheVariants as mark
use Rattle.swc_lexer.specs.declared.mark.Name.TheVariants as name
use Rattle.swc_lexer.specs.declared.place.Before.TheVariants as before
use Rattle.swc_lexer.specs.declared.place.Open.TheVariants as opened
use Rattle.swc_lexer.specs.declared.place.Then.TheVariants as then_

-- of a kind: whether `await` and `yield` are operators
abbrev pub kind_of : Bool → Bool → Kind
kind_of awaits yields = record { awaits = awaits; yields = yields }

abbrev pub plain_kind : Kind
plain_kind = kind_of false false

abbrev pub opened_by : Option Frame → Option Open
opened_by None = None
opened_by (Some f) = Some f.what

-- ---- tests

abbrev pub is_class_head_open : Open → Bool
is_class_head_open (opened.ClassHead t) = true
is_class_head_open o = false

abbrev pub is_class_head : Option Frame → Bool
is_class_head None = false
is_class_head (Some f) = is_class_head_open f.what

abbrev pub is_for_open : Open → Bool
is_for_open (opened.For awaits) = true
is_for_open o = false

abbrev pub is_for : Option Frame → Bool
is_for None = false
is_for (Some f) = is_for_open f.what

abbrev pub is_for_await_open : Open → Bool
is_for_await_open (opened.For awaits) = awaits
is_for_await_open o = false

abbrev pub is_for_await : Option Frame → Bool
is_for_await None = false
is_for_await (Some f) = is_for_await_open f.what

abbrev pub is_names_open : Open → Bool
is_names_open opened.Names = true
is_names_open o = false

abbrev pub is_names : Option Frame → Bool
is_names None = false
is_names (Some f) = is_names_open f.what

abbrev pub is_template_open : Open → Bool
is_template_open opened.Template = true
is_template_open o = false

abbrev pub is_template : Option Frame → Bool
is_template None = false
is_template (Some f) = is_template_open f.what

abbrev pub is_question_open : Open → Bool
is_question_open opened.Question = true
is_question_open o = false

abbrev pub is_question : Option Frame → Bool
is_question None = false
is_question (Some f) = is_question_open f.what

abbrev pub is_paren_open : Open → Bool
is_paren_open opened.Paren = true
is_paren_open opened.Square = true
is_paren_open o = false

abbrev pub is_in_parens : Option Frame → Bool
is_in_parens None = false
is_in_parens (Some f) = is_paren_open f.what

-- statements come here
abbrev pub is_in_statements : Option Open → Bool
is_in_statements None = true
is_in_statements (Some opened.Block) = true
is_in_statements (Some (opened.Body t)) = true
is_in_statements (Some o) = false

abbrev pub asks_before : Before → Bool
asks_before before.Question = true
asks_before b = false

abbrev pub is_asking : Place → Bool
is_asking p = asks_before p.before

abbrev pub dot_before : Before → Bool
dot_before before.Dot = true
dot_before b = false

abbrev pub is_dot : Place → Bool
is_dot p = dot_before p.before

abbrev pub is_brace : Open → Bool
is_brace opened.Block = true
is_brace (opened.Body t) = true
is_brace opened.Object = true
is_brace opened.Names = true
is_brace (opened.Class t) = true
is_brace opened.Substitution = true
is_brace o = false

abbrev pub ends_operand : Before → Bool
ends_operand before.Operand = true
ends_operand before.ArrowEnd = true
ends_operand before.Bound = true
ends_operand (before.Async t) = true
ends_operand before.AsyncParams = true
ends_operand b = false

abbrev pub begins_operand : Mark → Bool
begins_operand (mark.Word name.In) = false
begins_operand (mark.Word n) = true
begins_operand mark.Text = true
begins_operand mark.Number = true
begins_operand mark.LBrace = true
begins_operand mark.Twice = true
begins_operand mark.Hash = true
begins_operand mark.Prefix = true
begins_operand m = false

-- `)`, `]`, `}` and `;` end all that has no bracket of its own
abbrev pub ends_all : Mark → Bool
ends_all mark.RParen = true
ends_all mark.RBracket = true
ends_all mark.RBrace = true
ends_all mark.Semi = true
ends_all m = false

abbrev pub ends_item : Mark → Bool
ends_item mark.Comma = true
ends_item mark.Colon = true
ends_item m = false

-- what a token closes of what has no bracket of its own: the expression after `=>` ends at `,` and `:` too
abbrev pub closes : Mark → Open → Bool
closes m opened.Arrow = ends_all m || ends_item m
closes m opened.Declaration = ends_all m
closes m opened.Question = ends_all m
closes m o = false

abbrev pub is_passed : Open → Bool
is_passed opened.Arrow = true
is_passed opened.Declaration = true
is_passed o = false

-- a slash begins a regular expression
abbrev pub wants_regexp : Before → Bool → Bool
wants_regexp before.Statement breaks = true
wants_regexp before.Wanted breaks = true
wants_regexp before.WantedHere breaks = true
wants_regexp before.Jump breaks = true
wants_regexp before.Head breaks = true
wants_regexp (before.For awaits) breaks = true
wants_regexp (before.Arrow awaits) breaks = true
wants_regexp before.Export breaks = true
wants_regexp before.Default breaks = true
wants_regexp before.Question breaks = true
wants_regexp before.ArrowEnd breaks = breaks
wants_regexp before.Bound breaks = breaks
wants_regexp b breaks = false

-- ---- line breaks

-- between an operand and a token with which another may begin
abbrev pub break_in_class : Mark → Break
break_in_class mark.Twice = Nothing
break_in_class m = Closes mark.Comma (before.Name false false)

abbrev pub break_in : Open → Mark → Break
break_in (opened.Class t) m = break_in_class m
break_in o m = Nothing

abbrev pub break_below : Option Open → Mark → Break
break_below None m = Nothing
break_below (Some o) m = break_in o m

abbrev pub break_within : Option Open → Mark → Break
break_within below m = if is_in_statements below then Closes mark.Semi before.Statement else break_below below m

abbrev pub break_after_operand : Before → Option Frame → Option Open → Mark → Break
break_after_operand b top below m = if ends_operand b && begins_operand m && not
    (is_class_head top) then break_within below m else Nothing

abbrev pub break_after_jump : Option Frame → Break
break_after_jump top = if is_in_parens top then Nothing else Changes before.Statement

-- what a line break does before a token, where `top` is the innermost that is open, and `below` the innermost but for
-- the expressions after `=>` and declarations
abbrev pub at_break : Before → Option Frame → Option Open → Mark → Break
at_break before.WantedHere top below m = break_after_jump top
at_break before.Jump top below m = break_after_jump top
at_break before.NamedAsync top below m = Changes (before.Named false false)
at_break b top below m = break_after_operand b top below m

-- ---- what a token does

-- it opens and closes nothing
abbrev pub stays : Place → Before → Move
stays p b = record { closes = false; opens = None; place = record p { before = b } }

-- it opens something of the kind
abbrev pub opens : Place → Open → Kind → Before → Move
opens p o k b = record {
  closes = false;
  opens = Some (record { what = o; outer = p.kind });
  place =
      record p { before = b; kind = k };
}

abbrev pub kind_outside : Kind → Option Frame → Kind
kind_outside k None = k
kind_outside k (Some f) = f.outer

-- it closes the innermost
abbrev pub closing : Place → Option Frame → Before → Move
closing p top b = record {
  closes = true;
  opens = None;
  place =
      record p { before = b; kind = kind_outside p.kind top };
}

abbrev pub named : Place → Place
named p = record p { in_names = true }

abbrev pub unnamed : Place → Place
unnamed p = record p { in_names = false }

-- ---- brackets

abbrev pub paren_of : Before → Kind → Open × Kind
paren_of before.Head k = (opened.Head, k)
paren_of (before.For awaits) k = (opened.For awaits, k)
paren_of (before.Function kind t) k = (opened.Params kind t, kind)
paren_of (before.Name awaits yields) k = (opened.Params (kind_of awaits yields) then_.Member, kind_of awaits yields)
paren_of (before.Named awaits yields) k = (opened.Params (kind_of awaits yields) then_.Member, kind_of awaits yields)
paren_of before.NamedAsync k = (opened.Params plain_kind then_.Member, plain_kind)
paren_of (before.Async t) k = (opened.AsyncParen, k)
paren_of b k = (opened.Paren, k)

abbrev pub after_paren : Place → Move
after_paren p = opens p (paren_of p.before p.kind).0 (paren_of p.before p.kind).1 before.Wanted

-- `{` of a class, of which `class` is open
abbrev pub class_brace : Place → Kind → Then → Move
class_brace p outer t =
    record {
      closes = true;
      opens = Some (record { what = opened.Class t; outer = outer });
      place = record p { before = before.Name false false; kind = plain_kind };
    }

abbrev pub object_brace : Place → Move
object_brace p = opens p opened.Object p.kind (before.Name false false)

abbrev pub brace_in : Place → Kind → Open → Move
brace_in p outer (opened.ClassHead t) = if ends_operand p.before then class_brace p outer t else object_brace p
brace_in p outer o = object_brace p

abbrev pub brace_at : Place → Option Frame → Move
brace_at p None = object_brace p
brace_at p (Some f) = brace_in p f.outer f.what

abbrev pub after_other_brace : Place → Option Frame → Move
after_other_brace p top = if p.in_names then opens p opened.Names p.kind before.Wanted else brace_at p top

abbrev pub after_block_brace : Place → Option Frame → Move
after_block_brace p top = if p.in_names then after_other_brace p top else opens p opened.Block p.kind before.Statement

abbrev pub after_brace_of : Before → Place → Option Frame → Move
after_brace_of (before.Arrow awaits) p top = opens p (opened.Body then_.Arrow) (kind_of awaits false) before.Statement
after_brace_of (before.Params k t) p top = opens p (opened.Body t) k before.Statement
after_brace_of (before.Named awaits yields) p top = opens p (opened.Body then_.Member)
    (kind_of true false) before.Statement
after_brace_of before.Export p top = opens (named p) opened.Names p.kind before.Wanted
after_brace_of before.Import p top = opens (named p) opened.Names p.kind before.Wanted
after_brace_of before.Statement p top = after_block_brace p top
after_brace_of before.Head p top = after_block_brace p top
after_brace_of before.Jump p top = opens p opened.Block p.kind before.Statement
after_brace_of before.Let p top = object_brace p
after_brace_of b p top = after_other_brace p top

abbrev pub after_brace : Place → Option Frame → Move
after_brace p top = after_brace_of p.before p top

abbrev pub member_kind : Before → Kind
member_kind (before.Name awaits yields) = kind_of awaits yields
member_kind before.NamedAsync = kind_of true false
member_kind b = plain_kind

abbrev pub key_kind_in : Kind → Kind → Open → Kind
key_kind_in k outer (opened.Class t) = outer
key_kind_in k outer o = k

abbrev pub key_kind : Kind → Option Frame → Kind
key_kind k None = k
key_kind k (Some f) = key_kind_in k f.outer f.what

abbrev pub key_bracket : Place → Option Frame → Move
key_bracket p top = opens p (opened.Key (member_kind p.before)) (key_kind p.kind top) before.Wanted

abbrev pub after_bracket_of : Before → Place → Option Frame → Move
after_bracket_of (before.Name awaits yields) p top = key_bracket p top
after_bracket_of (before.Named awaits yields) p top = key_bracket p top
after_bracket_of before.NamedAsync p top = key_bracket p top
after_bracket_of b p top = opens p opened.Square p.kind before.Wanted

abbrev pub after_bracket : Place → Option Frame → Move
after_bracket p top = after_bracket_of p.before p top

abbrev pub after_back_quote : Place → Option Frame → Move
after_back_quote p top = if is_template top then closing p top before.Operand else opens p opened.Template p.kind
    before.Wanted

abbrev pub after_close_paren : Option Open → Before
after_close_paren (Some opened.Head) = before.Statement
after_close_paren (Some (opened.For awaits)) = before.Statement
after_close_paren (Some (opened.Params k t)) = before.Params k t
after_close_paren (Some opened.AsyncParen) = before.AsyncParams
after_close_paren o = before.Operand

abbrev pub after_close_bracket : Option Open → Before
after_close_bracket (Some (opened.Key k)) = before.Named k.awaits k.yields
after_close_bracket o = before.Operand

abbrev pub after_body : Then → Before
after_body then_.Statement = before.Statement
after_body then_.Operand = before.Operand
after_body then_.Member = before.Name false false
after_body then_.Arrow = before.ArrowEnd

abbrev pub after_close_brace : Option Open → Before
after_close_brace (Some (opened.Body t)) = after_body t
after_close_brace (Some (opened.Class t)) = after_body t
after_close_brace (Some opened.Object) = before.Operand
after_close_brace (Some opened.Substitution) = before.Operand
after_close_brace o = before.Statement

-- ---- other signs

abbrev pub after_twice : Before → Bool → Before
after_twice before.Let breaks = before.Operand
after_twice b breaks = if ends_operand b && not breaks then before.Operand else before.Wanted

abbrev pub semi_before : Option Open → Before
semi_before (Some (opened.Class t)) = before.Name false false
semi_before (Some (opened.For awaits)) = before.Wanted
semi_before o = before.Statement

abbrev pub after_semi : Place → Option Open → Move
after_semi p o = stays (unnamed p) (semi_before o)

abbrev pub after_comma : Option Open → Before
after_comma (Some (opened.Class t)) = before.Name false false
after_comma (Some opened.Object) = before.Name false false
after_comma (Some opened.Declaration) = before.Binding
after_comma o = before.Wanted

abbrev pub after_colon : Place → Option Frame → Move
after_colon p top =
    if is_question top
    then closing p top before.Wanted
    else if is_in_statements (opened_by top)
    then stays p before.Statement
    else stays p before.Wanted

abbrev pub after_dot_of : Before → Place → Option Frame → Bool → Move
after_dot_of before.Question p top adjoins = if adjoins then closing p top before.Dot else stays p before.Dot
after_dot_of b p top adjoins = stays p before.Dot

-- `?.` is one with its `?`
abbrev pub after_dot : Place → Option Frame → Bool → Move
after_dot p top adjoins = after_dot_of p.before p top adjoins

abbrev pub after_hash : Before → Before
after_hash (before.Name awaits yields) = before.Name awaits yields
after_hash before.NamedAsync = before.Name true false
after_hash (before.Named awaits yields) = before.Name false false
after_hash b = before.Dot

abbrev pub after_star_of : Before → Place → Move
after_star_of (before.Function k t) p = stays p (before.Function (kind_of k.awaits true) t)
after_star_of (before.Name awaits yields) p = stays p (before.Name awaits true)
after_star_of before.NamedAsync p = stays p (before.Name true true)
after_star_of (before.Named awaits yields) p = stays p (before.Name false true)
after_star_of before.Export p = stays (named p) before.Operand
after_star_of before.Import p = stays (named p) before.Operand
after_star_of b p = stays p before.Wanted

abbrev pub after_star : Place → Move
after_star p = after_star_of p.before p

-- ---- literals

abbrev pub after_literal : Before → Before
after_literal (before.Name awaits yields) = before.Named awaits yields
after_literal (before.Named awaits yields) = before.Named awaits yields
after_literal before.NamedAsync = before.Named true false
after_literal b = before.Operand

abbrev pub text_before : Before → Before
text_before before.Import = before.Statement
text_before b = after_literal b

-- a string ends an import or an export
abbrev pub after_text : Place → Option Frame → Move
after_text p top = if p.in_names && not (is_names top) then stays (unnamed p) before.Statement else stays p
    (text_before p.before)

-- ---- words

abbrev pub here : Before → Then
here before.Statement = then_.Statement
here before.Export = then_.Statement
here before.Default = then_.Statement
here b = then_.Operand

abbrev pub plain_function : Before → Before
plain_function b = before.Function plain_kind (here b)

abbrev pub after_function : Before → Bool → Before
after_function (before.Async t) breaks = if breaks then plain_function (before.Async t) else before.Function
    (kind_of true false) t
after_function b breaks = plain_function b

-- a name that follows `async` on its line
abbrev pub after_async : Name → Option Frame → Before
after_async name.Of top = if is_for_await top then before.Wanted else before.AsyncParams
after_async n top = before.AsyncParams

-- a name that follows an operand
abbrev pub after_second : Name → Option Frame → Before
after_second name.Of top = if is_for top then before.Wanted else before.Operand
after_second n top = before.Operand

abbrev pub after_first : Name → Before → Before
after_first name.Async b = before.Async (here b)
after_first n b = before.Operand

abbrev pub after_name_of : Before → Place → Option Frame → Name → Bool → Move
after_name_of before.Import p top n breaks = stays (named p) before.Operand
after_name_of (before.Async t) p top n breaks = if breaks then stays p (after_first n (before.Async t)) else stays p
    (after_async n top)
after_name_of before.Operand p top n breaks = stays p (after_second n top)
after_name_of before.ArrowEnd p top n breaks = stays p (after_second n top)
after_name_of before.Bound p top n breaks = stays p (after_second n top)
after_name_of b p top n breaks = stays p (after_first n b)

abbrev pub after_name : Place → Option Frame → Name → Bool → Move
after_name p top n breaks = after_name_of p.before p top n breaks

abbrev pub after_let : Before → Before
after_let before.Statement = before.Let
after_let before.Export = before.Let
after_let before.Wanted = before.Let
after_let b = before.Operand

-- `await` or `yield` where it is no operator
abbrev pub after_no_operator : Before → Bool → Before
after_no_operator (before.Async t) breaks = if breaks then before.Operand else before.AsyncParams
after_no_operator b breaks = before.Operand

abbrev pub after_await : Before → Kind → Bool → Before
after_await (before.For awaits) k breaks = before.For true
after_await b k breaks = if k.awaits then before.Wanted else after_no_operator b breaks

abbrev pub after_yield : Before → Kind → Bool → Before
after_yield b k breaks = if k.yields then before.WantedHere else after_no_operator b breaks

abbrev pub after_default : Before → Before
after_default before.Export = before.Default
after_default b = before.Operand

abbrev pub after_import : Before → Before
after_import before.Statement = before.Import
after_import b = before.Operand

-- names are declared from here on; in the head of `for` up to its `)`
abbrev pub declares : Place → Option Frame → Before → Move
declares p top b = if is_for top then stays p b else opens p opened.Declaration p.kind b

abbrev pub after_word_in_code : Place → Option Frame → Name → Bool → Move
after_word_in_code p top name.Plain breaks = after_name p top name.Plain breaks
after_word_in_code p top name.Async breaks = after_name p top name.Async breaks
after_word_in_code p top name.Of breaks = after_name p top name.Of breaks
after_word_in_code p top name.Value breaks = stays p before.Operand
after_word_in_code p top name.Debugger breaks = stays p before.Jump
after_word_in_code p top name.Break breaks = stays p before.Jump
after_word_in_code p top name.Head breaks = stays p before.Head
after_word_in_code p top name.For breaks = stays p (before.For false)
after_word_in_code p top name.Function breaks = stays p (after_function p.before breaks)
after_word_in_code p top name.Class breaks = opens p (opened.ClassHead (here p.before)) p.kind before.Operand
after_word_in_code p top name.Else breaks = stays p before.Statement
after_word_in_code p top name.Let breaks = stays p (after_let p.before)
after_word_in_code p top name.Await breaks = stays p (after_await p.before p.kind breaks)
after_word_in_code p top name.Yield breaks = stays p (after_yield p.before p.kind breaks)
after_word_in_code p top name.Var breaks = declares p top before.Binding
after_word_in_code p top name.Return breaks = stays p before.WantedHere
after_word_in_code p top name.Export breaks = stays p before.Export
after_word_in_code p top name.Default breaks = stays p (after_default p.before)
after_word_in_code p top name.Import breaks = stays p (after_import p.before)
after_word_in_code p top name.In breaks = stays p before.Wanted
after_word_in_code p top name.Operator breaks = stays p before.Wanted

-- where a name of a class or an object begins
abbrev pub after_member_word : Place → Name → Bool → Bool → Move
after_member_word p name.Async awaits yields = if yields then stays p
    (before.Named awaits yields) else stays p before.NamedAsync
after_member_word p n awaits yields = stays p (before.Named awaits yields)

abbrev pub after_second_member_word : Place → Name → Bool → Bool → Move
after_second_member_word p name.Async awaits yields = stays p before.NamedAsync
after_second_member_word p n awaits yields = stays p (before.Named awaits yields)

abbrev pub after_plain_word : Place → Option Frame → Name → Bool → Move
after_plain_word p top n breaks = if is_names top then stays p before.Operand else after_word_in_code p top n breaks

abbrev pub after_let_word : Place → Option Frame → Name → Bool → Move
after_let_word p top name.In breaks = after_plain_word p top name.In breaks
after_let_word p top n breaks = declares p top before.Bound

abbrev pub after_word_of : Before → Place → Option Frame → Name → Bool → Move
after_word_of before.Dot p top n breaks = stays p before.Operand
after_word_of (before.Function k t) p top n breaks = stays p (before.Function k t)
after_word_of (before.Name awaits yields) p top n breaks = after_member_word p n awaits yields
after_word_of (before.Named awaits yields) p top n breaks = after_second_member_word p n awaits yields
after_word_of before.NamedAsync p top n breaks = stays p (before.Named true false)
after_word_of before.Jump p top n breaks = stays p before.Statement
after_word_of before.Binding p top n breaks = stays p before.Bound
after_word_of before.Let p top n breaks = after_let_word p top n breaks
after_word_of b p top n breaks = after_plain_word p top n breaks

abbrev pub after_word : Place → Option Frame → Name → Bool → Move
after_word p top n breaks = after_word_of p.before p top n breaks

abbrev pub after_arrow : Before → Before
after_arrow before.AsyncParams = before.Arrow true
after_arrow b = before.Arrow false

-- ---- a token

abbrev pub after_brackets : Place → Option Frame → Mark → Move
after_brackets p top mark.LParen = after_paren p
after_brackets p top mark.LBrace = after_brace p top
after_brackets p top mark.LBracket = after_bracket p top
after_brackets p top mark.Dollar = opens p opened.Substitution p.kind before.Wanted
after_brackets p top mark.BackQuote = after_back_quote p top
after_brackets p top mark.RParen = closing p top (after_close_paren (opened_by top))
after_brackets p top mark.RBracket = closing p top (after_close_bracket (opened_by top))
after_brackets p top m = closing p top (after_close_brace (opened_by top))

-- what the token does, where `top` is the innermost that is open; `adjoins` says that no blank is before it, and
-- `breaks` that a line break is
abbrev pub after : Place → Option Frame → Mark → Bool → Bool → Move
after p top (mark.Word n) adjoins breaks = after_word p top n breaks
after p top mark.Question adjoins breaks = opens p opened.Question p.kind before.Question
after p top mark.Arrow adjoins breaks = stays p (after_arrow p.before)
after p top mark.Twice adjoins breaks = stays p (after_twice p.before breaks)
after p top mark.Semi adjoins breaks = after_semi p (opened_by top)
after p top mark.Comma adjoins breaks = stays p (after_comma (opened_by top))
after p top mark.Colon adjoins breaks = after_colon p top
after p top mark.Dot adjoins breaks = after_dot p top adjoins
after p top mark.Hash adjoins breaks = stays p (after_hash p.before)
after p top mark.Star adjoins breaks = after_star p
after p top mark.Text adjoins breaks = after_text p top
after p top mark.Number adjoins breaks = stays p (after_literal p.before)
after p top mark.Regexp adjoins breaks = stays p before.Operand
after p top mark.Chars adjoins breaks = stays p before.Wanted
after p top mark.Prefix adjoins breaks = stays p before.Wanted
after p top mark.Sign adjoins breaks = stays p before.Wanted
after p top m adjoins breaks = after_brackets p top m

-- what begins before the token comes, of which no bracket tells: the expression after `=>`, or what `let` declares
-- before a `{`
abbrev pub goes_on : Place → Entry
goes_on p = record { opens = None; place = p }

abbrev pub enters_arrow : Place → Bool → Entry
enters_arrow p awaits =
    record {
      opens = Some (record { what = opened.Arrow; outer = p.kind });
      place = record p { before = before.Wanted; kind = kind_of awaits false };
    }

abbrev pub enters_let : Place → Option Frame → Entry
enters_let p top = if is_for top then goes_on p else record {
  opens =
      Some (record { what = opened.Declaration; outer = p.kind });
  place = p;
}

abbrev pub begins_arrow : Mark → Bool
begins_arrow mark.LBrace = false
begins_arrow mark.Comma = false
begins_arrow mark.Colon = false
begins_arrow m = not (ends_all m)

abbrev pub enters_at_let : Place → Option Frame → Mark → Entry
enters_at_let p top mark.LBrace = enters_let p top
enters_at_let p top m = goes_on p

abbrev pub enters_of : Before → Place → Option Frame → Mark → Entry
enters_of (before.Arrow awaits) p top m = if begins_arrow m then enters_arrow p awaits else goes_on p
enters_of before.Let p top m = enters_at_let p top m
enters_of b p top m = goes_on p

abbrev pub enters : Place → Option Frame → Mark → Entry
enters p top m = enters_of p.before p top m

-- ---- the goal

abbrev pub goal_in_code : Before → Bool → Goal
goal_in_code b breaks = if wants_regexp b breaks then goal.RegExp else goal.Div

-- which goal of the lexical grammar comes next, after a line break or not
abbrev pub goal_at : Place → Option Frame → Bool → Goal
goal_at p top breaks = if is_template top then (if p.has_text then goal.Delimiter else goal.Text) else goal_in_code
    p.before breaks
