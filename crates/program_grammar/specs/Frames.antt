-- What is begun and not ended: frames, the innermost first, as the code has them in a stack. `resume` is what is read of
-- the tokens to come where these go on, the statement read last among them. So a step of the code is an equation: the
-- old frames at the old tokens read what the new frames read at the new tokens.
use Rattle.std.specs.Prelude.{Bool, true, false, if◌then◌else◌, List, [], ◌∷◌, Option, Some, None}
use Rattle.swc_context.specs.declared.span.Span.{Span}
use Rattle.swc_input.specs.{declared.token.TokenAndSpan.TokenAndSpan}
use Rattle.swc_ast.specs.{Tree.Tree, Tree.no_span, Trees.to}
use Rattle.swc_bodies.specs.Readings.{Hook}
use Rattle.swc_grammar.specs.Rule.{Rule, gives, ◌>>=◌, ◌>>◌, symbol, token, body as other}
use Rattle.swc_grammar.specs.{Scope.Scope, Names.Spelling, Clean.Out, Clean.and_then, Tokens.is_rbrace, Tokens.is_lparen, Tokens.is_rparen}
use Rattle.program_grammar.specs.Tree.{list as list_form, Code, code, part, Codes, nothing, more, none_s, list_s, codes_of, place_of, ended, ended_by, of_two, of_three, if_else, do_while, while, with, labelled, try, catch, switch, case, default, block}
use Rattle.program_grammar.specs.Tokens.{is_while, name_s}
use Rattle.program_grammar.specs.Symbols.{Symbol, Answer, Part, Read_as, Statement, Items, Else, DoEnd, Clauses, Handlers, Finally, Block, expr}
use Rattle.program_grammar.specs.Grammar.{for_s}
use Rattle.program_grammar.specs.Clean.{exec, run}

-- What a list of statements is in: a program, the block of a function or a static block of a class, the `}` of which is
-- left; a block that began there; or a clause of a `switch`, which began there, before which these clauses are.
pub data Owner (F C K : Type 0) : Type 0 where
  whole : Bool → Owner F C K
  braces : Span → Owner F C K
  clause : Span → Tree F C K → Codes F C K → Span → Option (Tree F C K) → Owner F C K

pub data Frame (F C K : Type 0) : Type 0 where
  -- a statement is to be read: whether it is a part of another one
  statement : Bool → Frame F C K
  -- a block is to be read
  a_block : Frame F C K
  -- a list goes on, before its next statement, after these; and after the statement read last
  list : Owner F C K → Codes F C K → Frame F C K
  item : Owner F C K → Codes F C K → Frame F C K
  -- a statement that began there goes on after its part: `if`, before its first part, and before the part after `else`
  if_part : Span → Tree F C K → Frame F C K
  else_part : Span → Tree F C K → Code F C K → Frame F C K
  do_part : Span → Frame F C K
  while_part : Span → Tree F C K → Frame F C K
  with_part : Span → Tree F C K → Frame F C K
  -- `for`, with its head
  for_part : Span → Code F C K → Frame F C K
  label_part : Spelling → Frame F C K
  -- `try`, before its block; before the block of a `catch` that began there, with its parameter; and before the block
  -- of a `finally` that began there, with what handles it
  try_part : Span → Frame F C K
  catch_part : Span → Code F C K → Span → Code F C K → Frame F C K
  finally_part : Span → Code F C K → Option (Code F C K) → Span → Frame F C K

abbrev pub Sides : (F C K : Type 0) → Type 0 → Type 0
Sides F C K A = Rule Symbol (Answer F C K) Part (Read_as F C K) A

-- one more at the end
abbrev pub put_last : {F C K : Type 0} → Codes F C K → Code F C K → Codes F C K
put_last nothing t = more t nothing
put_last (more u us) t = more u (put_last us t)

abbrev pub joined : {F C K : Type 0} → Codes F C K → Codes F C K → Codes F C K
joined nothing us = us
joined (more t ts) us = more t (joined ts us)

module _ {F C K : Type 0} where
  -- an `if` that began at s, and the other statements of one part
  abbrev pub if_s : Span → Tree F C K → Code F C K → Code F C K → Code F C K
  if_s s e a d = of_three if_else (ended (to s (place_of a)) d) (part e) a d

  abbrev pub while_s : Span → Tree F C K → Code F C K → Code F C K
  while_s s e a = of_two while (to s (place_of a)) (part e) a

  abbrev pub with_s : Span → Tree F C K → Code F C K → Code F C K
  with_s s e a = of_two with (to s (place_of a)) (part e) a

  abbrev pub label_s : Spelling → Code F C K → Code F C K
  label_s n a = of_two labelled (to n.at (place_of a)) (name_s n) a

  -- a `try`: its block, and what handles it; a `catch`, and `finally` or none
  abbrev pub try_s : Span → Code F C K → Code F C K → Code F C K
  try_s s a h = code try (to s (place_of h)) (more a (codes_of h))

  abbrev pub catch_s : Span → Code F C K → Code F C K → Code F C K
  catch_s s p a = of_two catch (to s (place_of a)) p a

  abbrev pub handled_s : Code F C K → Code F C K → Code F C K
  handled_s h f = of_two list_form (ended (place_of h) f) h f

  abbrev pub finally_s : Option (Code F C K) → Span → Code F C K → Code F C K
  finally_s (Some h) s a = handled_s h a
  finally_s None s a = of_two list_form (to s (place_of a)) none_s a

  -- a clause of a `switch`, and the `switch`
  abbrev pub clause_s : Span → Option (Tree F C K) → Codes F C K → Code F C K
  clause_s s (Some e) is = code case (ended_by s is) (more (part e) is)
  clause_s s None is = code default (ended_by s is) is

  abbrev pub switch_s : Span → Tree F C K → Code F C K → Code F C K
  switch_s s e ks = code switch (to s (place_of ks)) (more (part e) (codes_of ks))

  -- `while` and what is after it
  abbrev pub do_tail : Scope → Span → Code F C K → Sides F C K (Code F C K)
  do_tail c s a = do
    token is_while
    token is_lparen
    (e, s') ← other expr c
    s'' ← token is_rparen
    z ← symbol DoEnd c
    gives (of_two do_while (ended (to s s'') z) a (part e))

-- a block that began at s, of these statements, before its `}`
abbrev pub closed_by : {F C K : Type 0} → Span → Codes F C K → List TokenAndSpan → Out (Code F C K)
closed_by s ts [] = None
closed_by s ts (a ∷ us) = if is_rbrace a.token then Some (code block (to s a.span) ts, us) else None

-- clauses after those of a `switch` that were read
abbrev pub after_clauses : {F C K : Type 0} → Codes F C K → Code F C K → Code F C K
after_clauses before ks = list_s (place_of ks) (joined before (codes_of ks))

module _ {F C K : Type 0} (hook : Hook F C K) where
  -- after the items of a list
  abbrev pub owned : Owner F C K → Scope → Codes F C K → List TokenAndSpan → Out (Code F C K)
  owned (whole m) c is us = Some (list_s no_span is, us)
  owned (braces s) c is us = closed_by s is us
  owned (clause s e before s' test) c is us =
      and_then (run hook Clauses c us)
      (λ ks vs. Some (switch_s s e (after_clauses (put_last before (clause_s s' test is)) ks), vs))

  abbrev pub is_module_list : Owner F C K → Bool
  is_module_list (whole m) = m
  is_module_list o = false

  -- what a frame reads, after the statement read last
  abbrev pub goes : Frame F C K → Scope → Code F C K → List TokenAndSpan → Out (Code F C K)
  goes (statement b) c last ts = run hook (Statement b) c ts
  goes a_block c last ts = run hook Block c ts
  goes (list o before) c last ts =
      and_then (run hook (Items (is_module_list o)) c ts) (λ is us. owned o c (joined before (codes_of is)) us)
  goes (item o before) c last ts =
      and_then (run hook (Items (is_module_list o)) c ts)
      (λ is us. owned o c (joined (put_last before last) (codes_of is)) us)
  goes (if_part s e) c last ts = and_then (run hook Else c ts) (λ d us. Some (if_s s e last d, us))
  goes (else_part s e a) c last ts = Some (if_s s e a last, ts)
  goes (do_part s) c last ts = exec hook (run hook) None (do_tail c s last) ts
  goes (while_part s e) c last ts = Some (while_s s e last, ts)
  goes (with_part s e) c last ts = Some (with_s s e last, ts)
  goes (for_part s h) c last ts = Some (for_s s h last, ts)
  goes (label_part n) c last ts = Some (label_s n last, ts)
  goes (try_part s) c last ts =
      and_then (run hook Handlers c ts) (λ h us. Some (try_s s last h, us))
  goes (catch_part s a s' p) c last ts =
      and_then (run hook Finally c ts) (λ f us. Some (try_s s a (handled_s (catch_s s' p last) f), us))
  goes (finally_part s a h s') c last ts = Some (try_s s a (finally_s h s' last), ts)

  abbrev pub resume : List (Frame F C K) → Scope → Code F C K → List TokenAndSpan → Out (Code F C K)
  resume [] c last ts = Some (last, ts)
  resume (f ∷ fs) c last ts = and_then (goes f c last ts) (λ t us. resume fs c t us)
