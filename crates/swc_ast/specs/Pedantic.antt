-- What ECMA-262 asks of a finished tree, and is looked at where the syntax is pedantic.
use Rattle.std.specs.Prelude.{Bool, true, false, not, ◌&&◌, ◌||◌}
use Rattle.swc_context.specs.declared.operator.BinaryOp.TheVariants as binary
use Rattle.swc_ast.specs.Tree.{Kind, Tree, node, Trees, nil, cons, private, bin, member, cover}

abbrev pub is_private_kind : {F C K : Type 0} → Kind F C K → Bool
is_private_kind (private name) = true
is_private_kind k = false

abbrev pub is_cover_kind : {F C K : Type 0} → Kind F C K → Bool
is_cover_kind cover = true
is_cover_kind k = false

-- May the first part be `#` and a name, as on the left of `in` (13.10.1); and the parts after it, as in a member,
-- which a link names so?
abbrev pub takes_private_first : {F C K : Type 0} → Kind F C K → Bool
takes_private_first (bin binary.In) = true
takes_private_first k = false

abbrev pub takes_private_behind : {F C K : Type 0} → Kind F C K → Bool
takes_private_behind member = true
takes_private_behind k = false

-- everywhere in a tree `#` and a name are on the left of `in` alone, or name a link; b says whether they may be it all
abbrev mutual
  pub privates_ok : {F C K : Type 0} → Bool → Tree F C K → Bool
  privates_ok b (node k s ts) =
      (b || not (is_private_kind k)) && all_privates_ok (takes_private_first k) (takes_private_behind k) ts

  pub all_privates_ok : {F C K : Type 0} → Bool → Bool → Trees F C K → Bool
  all_privates_ok f r nil = true
  all_privates_ok f r (cons t ts) = privates_ok f t && all_privates_ok r r ts

-- no property `name = value` of an object literal is left (13.2.5.1); those of patterns are none any more
abbrev mutual
  pub no_cover_left : {F C K : Type 0} → Tree F C K → Bool
  no_cover_left (node k s ts) = not (is_cover_kind k) && none_left ts

  pub none_left : {F C K : Type 0} → Trees F C K → Bool
  none_left nil = true
  none_left (cons t ts) = no_cover_left t && none_left ts
