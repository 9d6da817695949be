-- What a tree is to become, by the role of its node.
use Rattle.std.specs.Prelude.{Bool, true, false, if◌then◌else◌}
use Rattle.swc_context.specs.declared.span.Span.{Span}
use Rattle.swc_ast.specs.Parts.{leaf}
use Rattle.swc_ast.specs.Tree.{invalid, Tree, span_of}
use Rattle.swc_cover.specs.Wanted as wanted
use Rattle.swc_cover.specs.Wanted.{want, rest_ok}
use Rattle.swc_nodes.specs.declared.role.Role.{Role}
use Rattle.swc_nodes.specs.declared.role.Role.TheVariants.{Keep, Bind, Assign, Rebind, BindRest, RebindRest, Nothing, NothingAt}

-- what an object's rest holds, which spans s
abbrev pub held_rest : {F C K : Type 0} → wanted.Role → Span → Tree F C K → Tree F C K
held_rest r s t = if rest_ok r t then t else leaf invalid s

abbrev pub sought : {F C K : Type 0} → Role → Tree F C K → Tree F C K
sought Keep t = want wanted.Keep t
sought Bind t = want wanted.Bind t
sought Assign t = want wanted.Assign t
sought Rebind t = want wanted.Rebind t
sought (BindRest s) t = held_rest wanted.Bind s (want wanted.Bind t)
sought (RebindRest s) t = held_rest wanted.Rebind s t
sought Nothing t = leaf invalid (span_of t)
sought (NothingAt s) t = leaf invalid s

-- what an expression becomes
abbrev pub refines : Role → Bool
refines Bind = true
refines Assign = true
refines r = false
