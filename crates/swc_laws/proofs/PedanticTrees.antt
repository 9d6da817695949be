-- What is asked of a finished tree where the syntax is pedantic looks neither at places nor at the marks of commas; and
-- what it says of the parts.
use Rattle.std.specs.Prelude.{◌≡◌, Bool, true, false, not, ◌&&◌, ◌||◌}
use Rattle.std.proofs.Common.{refl, ap}
use Rattle.swc_context.specs.declared.span.Span.{Span}
use Rattle.swc_ast.specs.Pedantic.{privates_ok, all_privates_ok, no_cover_left, none_left, is_private_kind, is_cover_kind, takes_private_first, takes_private_behind}
use Rattle.swc_ast.specs.Tree.{Kind, Tree, node, Trees, nil, cons, erase, erase_all, args_with, array_with, object_with}
use Rattle.swc_ast.specs.Trees.{unmarked, all_unmarked, unmarked_kind}
use Rattle.swc_grammar.proofs.Answers.{both}

module _ {F C K : Type 0} where
  -- without places
  mutual
    pub privates-erased : (b : Bool) (t : Tree F C K) → privates_ok b (erase t) ≡ privates_ok b t
    privates-erased b (node k s ts) =
        ap (λ v. (b || not (is_private_kind k)) && v)
        (all-privates-erased (takes_private_first k) (takes_private_behind k) ts)

    pub all-privates-erased : (f r : Bool) (ts : Trees F C K)
        → all_privates_ok f r (erase_all ts) ≡ all_privates_ok f r ts
    all-privates-erased f r nil = refl
    all-privates-erased f r (cons t ts) = rw (privates-erased f t, all-privates-erased r r ts) refl

  mutual
    pub covers-erased : (t : Tree F C K) → no_cover_left (erase t) ≡ no_cover_left t
    covers-erased (node k s ts) = ap (λ v. not (is_cover_kind k) && v) (all-covers-erased ts)

    pub all-covers-erased : (ts : Trees F C K) → none_left (erase_all ts) ≡ none_left ts
    all-covers-erased nil = refl
    all-covers-erased (cons t ts) = rw (covers-erased t, all-covers-erased ts) refl

  -- without the marks of commas, which no kind that is looked at has
  same-private : (k : Kind F C K) → is_private_kind (unmarked_kind k) ≡ is_private_kind k
  same-private (args_with comma) = refl
  same-private (array_with comma) = refl
  same-private (object_with comma) = refl
  same-private k = refl

  same-first : (k : Kind F C K) → takes_private_first (unmarked_kind k) ≡ takes_private_first k
  same-first (args_with comma) = refl
  same-first (array_with comma) = refl
  same-first (object_with comma) = refl
  same-first k = refl

  same-behind : (k : Kind F C K) → takes_private_behind (unmarked_kind k) ≡ takes_private_behind k
  same-behind (args_with comma) = refl
  same-behind (array_with comma) = refl
  same-behind (object_with comma) = refl
  same-behind k = refl

  same-cover : (k : Kind F C K) → is_cover_kind (unmarked_kind k) ≡ is_cover_kind k
  same-cover (args_with comma) = refl
  same-cover (array_with comma) = refl
  same-cover (object_with comma) = refl
  same-cover k = refl

  mutual
    pub privates-unmarked : (b : Bool) (t : Tree F C K) → privates_ok b (unmarked t) ≡ privates_ok b t
    privates-unmarked b (node k s ts) =
        rw (same-private k, same-first k, same-behind k)
        (ap (λ v. (b || not (is_private_kind k)) && v)
        (all-privates-unmarked (takes_private_first k) (takes_private_behind k) ts))

    pub all-privates-unmarked : (f r : Bool) (ts : Trees F C K)
        → all_privates_ok f r (all_unmarked ts) ≡ all_privates_ok f r ts
    all-privates-unmarked f r nil = refl
    all-privates-unmarked f r (cons t ts) = rw (privates-unmarked f t, all-privates-unmarked r r ts) refl

  mutual
    pub covers-unmarked : (t : Tree F C K) → no_cover_left (unmarked t) ≡ no_cover_left t
    covers-unmarked (node k s ts) = rw (same-cover k) (ap (λ v. not (is_cover_kind k) && v) (all-covers-unmarked ts))

    pub all-covers-unmarked : (ts : Trees F C K) → none_left (all_unmarked ts) ≡ none_left ts
    all-covers-unmarked nil = refl
    all-covers-unmarked (cons t ts) = rw (covers-unmarked t, all-covers-unmarked ts) refl

  pub privates-parts : (b : Bool) (k : Kind F C K) (s : Span) (ts : Trees F C K) → privates_ok b (node k s ts) ≡ true
      → all_privates_ok (takes_private_first k) (takes_private_behind k) ts ≡ true
  privates-parts b k s ts h =
      (both (b || not (is_private_kind k)) (all_privates_ok (takes_private_first k) (takes_private_behind k) ts) h).1

  -- what may be anywhere may be where `#` and a name may
  pub privates-eased : (b : Bool) (t : Tree F C K) → privates_ok false t ≡ true → privates_ok b t ≡ true
  privates-eased true (node k s ts) h = privates-parts false k s ts h
  privates-eased false t h = h
