-- As which kind of pattern an expression is refined, and what it becomes.
use Rattle.std.specs.Prelude.{Bool, true, false, not, ◌&&◌, if◌then◌else◌, Option, None}
use Rattle.swc_ast.specs.Tree.{array_with, object_with, invalid, pat_expr, Tree, node, nil, cons, span_of}
use Rattle.swc_ast.specs.{Targets.is_target, Trees.is_ident}
use Rattle.swc_grammar.specs.Cover as cover
use Rattle.swc_grammar.specs.Cover.{is_assign, as_pat}
use Rattle.swc_cover.specs.Faults.{Verdict, recorded, one_if, verdict}
use Rattle.swc_cover.specs.Fits.{Way, Binding, Target, fits}
use Rattle.swc_cover.specs.Wanted.{Role, Bind, Assign, want}
use Rattle.swc_cover.specs.declared.pat_type.PatType.TheVariants.{BindingPat, BindingElement, AssignPat, AssignElement}
use Rattle.swc_cover.specs.{declared.faults.FaultKind.FaultKind as fault, declared.pat_type.PatType.PatType}
use Rattle.swc_nodes.specs.declared.role.Role.{Role as NodeRole, Role as node_role}

-- as what the parts of such a pattern are refined
abbrev pub element_of : PatType → PatType
element_of BindingPat = BindingElement
element_of BindingElement = BindingElement
element_of AssignPat = AssignElement
element_of AssignElement = AssignElement

-- as what an expression is checked, in strict code or not, and what it becomes
abbrev pub way_in : Bool → PatType → Way
way_in strict BindingPat = Binding
way_in strict BindingElement = Binding
way_in strict AssignPat = Target strict
way_in strict AssignElement = Target strict

abbrev pub role_in : PatType → Role
role_in BindingPat = Bind
role_in BindingElement = Bind
role_in AssignPat = Assign
role_in AssignElement = Assign

-- an array, an object, and what was recorded before
abbrev pub is_refined : {F C K : Type 0} → Tree F C K → Bool
is_refined (node (array_with comma) s ts) = true
is_refined (node (object_with comma) s ts) = true
is_refined (node invalid s ts) = true
is_refined t = false

-- what is assigned to and is none of these isn't looked into
abbrev pub stands_whole : {F C K : Type 0} → PatType → Tree F C K → Bool
stands_whole AssignPat t = not (is_refined t)
stands_whole p t = false

abbrev pub held_whole : {F C K : Type 0} → Tree F C K → Tree F C K
held_whole t = if is_ident t then t else node pat_expr (span_of t) (cons t nil)

-- what the expression becomes, whether nothing is recorded then, and what is
abbrev pub want_as : {F C K : Type 0} → PatType → Tree F C K → Tree F C K
want_as p t = if stands_whole p t then held_whole t else want (role_in p) t

abbrev pub fits_as : {F C K : Type 0} → Bool → PatType → Tree F C K → Bool
fits_as strict p t = if stands_whole p t then is_target strict t else fits (way_in strict p) t

abbrev pub verdict_as : {F C K : Type 0} → Bool → PatType → Tree F C K → Verdict
verdict_as strict p t =
    if stands_whole p t then recorded (one_if (not (is_target strict t)) fault.TS2406 (span_of t))
    else verdict (way_in strict p) t

-- the role of the node
abbrev pub role_for : PatType → NodeRole
role_for BindingPat = node_role.Bind
role_for BindingElement = node_role.Bind
role_for AssignPat = node_role.Assign
role_for AssignElement = node_role.Assign

-- the pattern that an expression is, as it is written to or bound, by the grammar
abbrev pub cover_role : Way → cover.Role
cover_role Binding = cover.binding
cover_role (Target strict) = cover.target strict

-- the same by the kind: what isn't looked into is no pattern with an initialiser
abbrev pub pattern_as : {F C K : Type 0} → Bool → PatType → Tree F C K → Option (Tree F C K)
pattern_as strict p t = if (stands_whole p t && is_assign t) then None else as_pat (cover_role (way_in strict p)) t
