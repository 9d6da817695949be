-- The nodes of patterns, as the grammar writes them. A place for an element that is left out holds `hole_e`, as in an
-- array literal.
use Rattle.std.specs.Prelude.{Bool, true, false}
use Rattle.swc_context.specs.declared.span.Span.{Span}
use Rattle.swc_ast.specs.Tree.{Tree, node, Trees, nil, cons, array, object, rest, default, binding_prop}
use Rattle.swc_ast.specs.Trees.{is_ident}

pattern abbrev pub array_p : {F C K : Type 0} → Span → Trees F C K → Tree F C K
array_p s ps = node array s ps

pattern abbrev pub object_p : {F C K : Type 0} → Span → Trees F C K → Tree F C K
object_p s ps = node object s ps

-- a pattern with its initialiser; one after dots, which are a node; a property that is a name, with its initialiser or
-- `hole_e`
pattern abbrev pub default_p : {F C K : Type 0} → Span → Tree F C K → Tree F C K → Tree F C K
default_p s p e = node default s (cons p (cons e nil))

pattern abbrev pub rest_p : {F C K : Type 0} → Span → Tree F C K → Tree F C K → Tree F C K
rest_p s d p = node rest s (cons d (cons p nil))

pattern abbrev pub name_p : {F C K : Type 0} → Span → Tree F C K → Tree F C K → Tree F C K
name_p s n e = node binding_prop s (cons n (cons e nil))

-- Elements with one put before them, which is a hole or not: at the end none is left.
abbrev pub put_element : {F C K : Type 0} → Bool → Tree F C K → Trees F C K → Trees F C K
put_element true p nil = nil
put_element b p ps = cons p ps

-- a rest of an identifier
abbrev pub holds_ident : {F C K : Type 0} → Tree F C K → Bool
holds_ident (node rest s (cons d (cons p ps))) = is_ident p
holds_ident t = false
