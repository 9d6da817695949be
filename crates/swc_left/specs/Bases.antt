-- What the steps of the code read in what a left-hand side begins with (13.3), by the clean parser.
use Rattle.std.specs.Prelude.{ℕ, Bool, true, false, if◌then◌else◌, List, Option, Some, None}
use Rattle.swc_context.specs.declared.span.Span.{Span}
use Rattle.swc_input.specs.declared.token.TokenAndSpan.{TokenAndSpan}
use Rattle.swc_ast.specs.Trees.{to, items_of, name_e, computed_e, call_e, super_e, import_e, super_prop_e, meta_e}
use Rattle.swc_ast.specs.{Tree.Tree, Tree.span_of, declared.expr.Import.Import, declared.expr.ImportPhase.ImportPhase, declared.expr.MetaPropKind.MetaPropKind as kind}
use Rattle.swc_ast.specs.declared.expr.ImportPhase.TheVariants as phase
use Rattle.swc_bodies.specs.Readings.{Hook}
use Rattle.swc_grammar.specs.Tokens.{is_dot, is_lbracket, is_lparen, is_rbracket, is_super, is_import, is_meta, is_source, super_ok}
use Rattle.swc_grammar.specs.Clean.{Out, sym, run}
use Rattle.swc_grammar.specs.{Parts.import_args_ok, Scope.Scope, Symbols.Primary, Names.may_name, Words.◌>>=◌, Words.word}
use Rattle.swc_left.specs.{declared.base.ImportHead.ImportHead, declared.base.ImportHead.ImportHead as begun, declared.base.SuperHead.SuperHead, declared.base.SuperHead.SuperHead as head}
use Rattle.swc_steps.specs.{Keys.expected, Args.args_inside, Lists.eaten, Readers.whole_inside}

-- whether `super` may have properties here
abbrev pub here_by : Bool → List TokenAndSpan → Out (Unit {0})
here_by may ts = if may then Some (tt, ts) else None

unfoldable pub super_here : Scope → List TokenAndSpan → Out (Unit {0})
super_here c ts = here_by (super_ok c) ts

-- ---- the first tokens after `super` (13.3.7): of a property of it, or of a call, where there may be one

abbrev pub head_paren : Option Span → Scope → List TokenAndSpan → Out SuperHead
head_paren (Some q) c ts = Some (head.Call, ts)
head_paren None c ts = Some (head.Other, ts)

abbrev pub head_call : Bool → Scope → List TokenAndSpan → Out SuperHead
head_call true c ts = eaten is_lparen c ts >>= (λ p. head_paren p.0 c p.1)
head_call false c ts = Some (head.Other, ts)

abbrev pub head_bracket : Bool → Option Span → Scope → List TokenAndSpan → Out SuperHead
head_bracket b (Some q) c ts = Some (head.Computed q, ts)
head_bracket b None c ts = head_call b c ts

abbrev pub head_dot : Bool → Option Span → Scope → List TokenAndSpan → Out SuperHead
head_dot b (Some q) c ts = Some (head.Name, ts)
head_dot b None c ts = eaten is_lbracket c ts >>= (λ p. head_bracket b p.0 c p.1)

unfoldable pub super_head : Bool → Scope → List TokenAndSpan → Out SuperHead
super_head b c ts = eaten is_dot c ts >>= (λ p. head_dot b p.0 c p.1)

-- ---- `import`, which is at s, up to the arguments of a call (13.3.10, 13.3.12)

-- `import` as a callee, of a phase
abbrev pub callee_of : Span → ImportPhase → Import
callee_of s p = record { span = s; phase = p }

-- what is called, and the parenthesis after it, where there may be a call
abbrev pub callee_by : Bool → Import → Scope → List TokenAndSpan → Out ImportHead
callee_by true i c ts = expected is_lparen c ts >>= (λ p. Some (begun.Call i, p.1))
callee_by false i c ts = None

unfoldable pub import_callee : Bool → Import → Scope → List TokenAndSpan → Out ImportHead
import_callee b i c ts = callee_by b i c ts

-- after the `.`: `source` and a parenthesis, or `meta`
abbrev pub import_source : Bool → Span → Option Span → Scope → List TokenAndSpan → Out ImportHead
import_source b s (Some q) c ts = import_callee b (callee_of (to s q) phase.Source) c ts
import_source b s None c ts = None

abbrev pub import_meta : Bool → Span → Option Span → Scope → List TokenAndSpan → Out ImportHead
import_meta b s (Some q) c ts = if c.context.can_be_module then Some (begun.Meta (to s q), ts) else None
import_meta b s None c ts = eaten is_source c ts >>= (λ p. import_source b s p.0 c p.1)

unfoldable pub import_member : Bool → Span → Scope → List TokenAndSpan → Out ImportHead
import_member b s c ts = eaten is_meta c ts >>= (λ p. import_meta b s p.0 c p.1)

abbrev pub import_dot : Bool → Span → Option Span → Scope → List TokenAndSpan → Out ImportHead
import_dot b s (Some q) c ts = import_member b s c ts
import_dot b s None c ts = import_callee b (callee_of s phase.Evaluation) c ts

unfoldable pub import_head : Bool → Span → Scope → List TokenAndSpan → Out ImportHead
import_head b s c ts = eaten is_dot c ts >>= (λ p. import_dot b s p.0 c p.1)

module _ {F C K : Type 0} where
  -- a property of `super`, after it
  abbrev pub allowed : Tree F C K → Scope → List TokenAndSpan → Out (Tree F C K)
  allowed t c ts = super_here c ts >>= (λ q. Some (t, q.1))

  -- by its name, after the `.`, `super` being at s
  abbrev pub super_named : Span → Span → List ℕ → Tree F C K
  super_named s at text = super_prop_e (to s at) s (name_e at text)

  unfoldable pub super_name_tail : Span → Scope → List TokenAndSpan → Out (Tree F C K)
  super_name_tail s c ts = word may_name c ts >>= (λ p. allowed (super_named s p.0.at p.0.text) c p.1)

  -- in brackets, of which the first is at q, after its expression
  abbrev pub super_in : Span → Span → Span → Tree F C K → Tree F C K
  super_in s q end e = super_prop_e (to s end) s (computed_e (to q end) e)

  abbrev pub super_close : Span → Span → Tree F C K → Scope → List TokenAndSpan → Out (Tree F C K)
  super_close s q e c ts = expected is_rbracket c ts >>= (λ p. allowed (super_in s q p.0 e) c p.1)

  -- a call of i, which begins at s, after its arguments es
  abbrev pub callee_node : Span → Tree F C K → Tree F C K → Scope → List TokenAndSpan → Out (Tree F C K)
  callee_node s i es c ts = Some (call_e (to s (span_of es)) i (items_of es), ts)

  -- a call of `import` (13.3.10), which is i, where its arguments are as many as there may be
  abbrev pub import_node : Span → Tree F C K → Tree F C K → Scope → List TokenAndSpan → Out (Tree F C K)
  import_node s i es c ts = if import_args_ok c true es then callee_node s i es c ts else None

  -- `import.meta`, which is at s, after it
  abbrev pub import_meta_node : Span → Scope → List TokenAndSpan → Out (Tree F C K)
  import_meta_node s c ts = Some (meta_e s kind.ImportMeta, ts)

module _ {F C K : Type 0} (hook : Hook F C K) where
  -- ---- `super` (13.3.7), which is at s

  -- a property in brackets, in which `in` is an operator, after the one at q
  unfoldable pub super_computed_tail : Span → Span → Scope → List TokenAndSpan → Out (Tree F C K)
  super_computed_tail s q c ts = whole_inside hook c ts >>= (λ p. super_close s q p.0 c p.1)

  -- a call, after its parenthesis
  unfoldable pub super_args_tail : Span → Scope → List TokenAndSpan → Out (Tree F C K)
  super_args_tail s c ts = args_inside hook false c ts >>= (λ p. callee_node s (super_e s) p.0 c p.1)

  -- after the first tokens, and from them on
  abbrev pub super_left : Span → SuperHead → Scope → List TokenAndSpan → Out (Tree F C K)
  super_left s head.Name c ts = super_name_tail s c ts
  super_left s (head.Computed q) c ts = super_computed_tail s q c ts
  super_left s head.Call c ts = super_args_tail s c ts
  super_left s head.Other c ts = None

  unfoldable pub super_tail : Bool → Span → Scope → List TokenAndSpan → Out (Tree F C K)
  super_tail b s c ts = super_head b c ts >>= (λ p. super_left s p.0 c p.1)

  -- ---- `import` (13.3.10, 13.3.12), which is at s

  -- a call of i, after its parenthesis
  abbrev pub import_args : Span → Tree F C K → Scope → List TokenAndSpan → Out (Tree F C K)
  import_args s i c ts = args_inside hook true c ts >>= (λ p. import_node s i p.0 c p.1)

  -- after the first tokens, and from them on
  abbrev pub import_left : Span → ImportHead → Scope → List TokenAndSpan → Out (Tree F C K)
  import_left s (begun.Meta q) c ts = import_meta_node q c ts
  import_left s (begun.Call i) c ts = import_args s (import_e i.span i.phase) c ts

  unfoldable pub import_tail : Bool → Span → Scope → List TokenAndSpan → Out (Tree F C K)
  import_tail b s c ts = import_head b s c ts >>= (λ p. import_left s p.0 c p.1)

  -- ---- what a left-hand side begins with, where that isn't `new`: may it be a call, or not

  abbrev pub import_by : Bool → Option Span → Scope → List TokenAndSpan → Out (Tree F C K)
  import_by b (Some s) c ts = import_tail b s c ts
  import_by b None c ts = run hook (sym Primary) c ts

  abbrev pub super_by : Bool → Option Span → Scope → List TokenAndSpan → Out (Tree F C K)
  super_by b (Some s) c ts = super_tail b s c ts
  super_by b None c ts = eaten is_import c ts >>= (λ p. import_by b p.0 c p.1)

  unfoldable pub plain_base : Bool → Scope → List TokenAndSpan → Out (Tree F C K)
  plain_base b c ts = eaten is_super c ts >>= (λ p. super_by b p.0 c p.1)
