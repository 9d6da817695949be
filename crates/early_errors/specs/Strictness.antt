-- Which code is strict (ECMA-262, 11.2.1 and 11.2.2).
use Rattle.std.specs.Prelude.{ℕ, ◌-◌, Bool, ◌&&◌, ◌||◌, nat_le, nat_lt, List, [], ◌∷◌, ◌++◌, length, take, drop, slice_get, if◌then◌else◌, is_some, codes, true, false, Option, Some, None}
use Rattle.std.specs.Str.{bytes_eq}
use Rattle.swc_context.specs.declared.span.Span.{Span}
use Rattle.swc_context.specs.Spans.{in_order}
use Rattle.swc_nodes.specs.GrowingNodes.{count, tree_at}
use Rattle.swc_ast.specs.Tree.{span_of as tree_span}
use Rattle.swc_nodes.specs.declared.node.ExprId.{ExprId}
use Rattle.tree_types.specs.declared.tree.Goal.{Goal}
use Rattle.tree_types.specs.declared.tree.Goal.TheVariants.{Module, Script, CommonJs}
use Rattle.tree_types.specs.declared.tree.Program.{Program}
use Rattle.tree_types.specs.declared.tree.Statement.{Statement as AStatement}
use Rattle.tree_types.specs.declared.tree.StatementId.{StatementId}
use Rattle.tree_types.specs.declared.tree.StatementKind.{StatementKind}
use Rattle.tree_types.specs.declared.tree.StatementKind.TheVariants.{Directive}
use Rattle.early_errors.specs.declared.code.Code.{Code as ACode}
use Rattle.early_errors.specs.declared.task.Task.{Task}
use Rattle.early_errors.specs.declared.task.Task.TheVariants.{Statement, Part, Bind, Block, Members, Member, Property, Code, BeginScope, EndScope, EndFunction, EndLabel, EndClass, Exported}

-- code is strict if what is around it is, or if it has a directive that says so
abbrev pub strict_with : Bool → Option Span → Bool
strict_with around directive = around || is_some directive

-- the code of a module is always strict
abbrev pub is_module : Goal → Bool
is_module Module = true
is_module Script = false
is_module CommonJs = false

-- the place of an expression that there is
abbrev pub place_of : Program → ExprId → Option Span
place_of program e = if nat_lt e.0 (count program.nodes) then Some (in_order (tree_span (tree_at program.nodes e.0))) else None

abbrev pub place_of_kind : Program → StatementKind → Option Span
place_of_kind program (Directive e) = place_of program e
place_of_kind program k = None

abbrev pub place_of_statement : Program → Option AStatement → Option Span
place_of_statement program None = None
place_of_statement program (Some s) = place_of_kind program s.kind

-- where the string is that a statement is, if it is a directive
abbrev pub directive : Program → StatementId → Option Span
directive program id = place_of_statement program (slice_get program.statements.items id.0)

-- the text of the place is `"use strict"`, in either quotes
abbrev pub says_use_strict : List ℕ → Span → Bool
says_use_strict text s =
    (nat_le s.lo.0 s.hi.0 && nat_le s.hi.0 (length text)) && (let raw = take (s.hi.0 - s.lo.0) (drop s.lo.0 text) in
    bytes_eq raw (codes "\"use strict\"") || bytes_eq raw (codes "'use strict'"))

abbrev pub after_directive : List ℕ → Option Span → Option Span → Option Span
after_directive text None rest = None
after_directive text (Some s) rest = if says_use_strict text s then Some s else rest

-- where the directive for strict code is in the prologue of these statements: its directives are the strings that are
-- statements by themselves, up to the first other statement
unfoldable pub use_strict : List ℕ → Program → List StatementId → Option Span
use_strict text program [] = None
use_strict text program (i ∷ is) = after_directive text (directive program i) (use_strict text program is)

-- whether the code is strict to which a task changes, if it changes any
abbrev pub strict_of : Task → List Bool
strict_of (Code c) = c.strict ∷ []
strict_of (Block place c) = c.strict ∷ []
strict_of (Statement i) = []
strict_of (Part n) = []
strict_of (Bind n b) = []
strict_of (Members c) = []
strict_of (Member m e) = []
strict_of (Property p) = []
strict_of BeginScope = []
strict_of EndScope = []
strict_of EndFunction = []
strict_of EndLabel = []
strict_of EndClass = []
strict_of (Exported n) = []

-- the code after a task that ends something
abbrev pub code_after : Task → ACode → ACode
code_after (Code c) d = c
code_after (Block place c) d = d
code_after (Statement i) d = d
code_after (Part n) d = d
code_after (Bind n b) d = d
code_after (Members c) d = d
code_after (Member m e) d = d
code_after (Property p) d = d
code_after BeginScope d = d
code_after EndScope d = d
code_after EndFunction d = d
code_after EndLabel d = d
code_after EndClass d = d
code_after (Exported n) d = d

-- the same of all tasks that are put off
unfoldable pub codes_of : List Task → List Bool
codes_of [] = []
codes_of (t ∷ ts) = strict_of t ++ codes_of ts
