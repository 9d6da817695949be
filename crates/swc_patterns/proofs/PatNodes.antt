-- Productions: the nodes of patterns that were made.
use Rattle.std.proofs.Common.{◌≡◌, ℕ, ◌≤◌, List, [], ◌∷◌, ◌++◌, Option, Some, None, Result, Ok, Err, IfOk, IfErr, refl, sym, ap, subst, ◌∙◌, map}
use Rattle.std.specs.{Prelude.Bool, declared.alloc.AllocError.AllocError, declared.alloc.Global.Global, declared.vec.Vec.Vec}
use Rattle.swc_context.specs.{declared.error.Error.Error, declared.span.BytePos.BytePos, declared.span.Span.Span}
use Rattle.swc_input.specs.{Source.Model, Recording.no_memory}
use Rattle.swc_ast.specs.Tree.{Tree, nil, trees}
use Rattle.swc_ast.specs.{Patterns.array_p, declared.spanned.Spanned.Ghosts}
use Rattle.swc_nodes.specs.Lists.{pat_elem_parts, pat_elem_tree, pat_elem_trees}
use Rattle.swc_nodes.specs.NodeParts.{Part, flat, if_some, one_pat, pat_part}
use Rattle.swc_nodes.specs.GrowingNodes.{tree_at, Apart, Grows, Made}
use Rattle.swc_nodes.specs.{declared.node.PatId.PatId, declared.nodes.Nodes.Nodes}
use Rattle.swc_nodes.proofs.{Held.from-down, Standing.grows-then}
use Rattle.swc_steps.specs.Parsing.{On, Heard, Produces, GoesOn}
use Rattle.swc_steps.specs.declared.productions.Productions.{Productions}
use Rattle.swc_steps.proofs.Making.{yes, on}
use Rattle.swc_steps.proofs.Steps.{Reader, give, node_parses, node_continues}
use Rattle.swc_steps.specs.Params.{pat_at}
use Rattle.swc_patterns.specs.Answers.{pat_itself, if_there}
use Rattle.swc_patterns.specs.Arrays.{put_elements, put_elem, without_holes}

-- ---- the elements of an array pattern, where the holes at the end are dropped

kept_put : {X : Type 0} (f : X → List Part) (x : Option X) (xs : List (Option X))
    → flat (if_some f) (put_elem x xs) ≡ if_some f x ++ flat (if_some f) xs
kept_put f None [] = refl
kept_put f None (y ∷ ys) = refl
kept_put f (Some x) xs = refl

-- holes hold no parts
kept_parts : {X : Type 0} (f : X → List Part) (xs : List (Option X))
    → flat (if_some f) (without_holes xs) ≡ flat (if_some f) xs
kept_parts f [] = refl
kept_parts f (x ∷ xs) = kept_put f x (without_holes xs) ∙ ap (λ v. if_some f x ++ v) (kept_parts f xs)

module _ {F C K : Type 0} where
  put_on : (x : Option (Tree F C K)) (xs : List (Option (Tree F C K)))
      → put_elements (x ∷ []) (put_elements xs nil) ≡ put_elements (x ∷ xs) nil
  put_on None xs = refl
  put_on (Some x) xs = refl

module _ {F C K : Type 0} {fg : Ghosts F} {cg : Ghosts C} {kg : Ghosts K} where
  pub pat_made : (ms : Nodes F C K fg cg kg) (k : ℕ) (t : Tree F C K) (q : Result PatId AllocError) (x : PatId)
      → IfOk q (λ id. Made k ms (pat_part id) t) → q ≡ Ok x → Made k ms (pat_part x) t
  pat_made ms k t (Ok y) x m e = let same : y ≡ x = cc in subst (λ id. Made k ms (pat_part id) t) same m
  pat_made ms k t (Err y) x m e = cc

  made_tree : (ms : Nodes F C K fg cg kg) (k : ℕ) (t : Tree F C K) (q : Result PatId AllocError)
      (r : Result PatId Error) → IfOk q (λ id. Made k ms (pat_part id) t) → IfOk r (λ id. q ≡ Ok id)
      → IfOk r (λ id. pat_at ms id ≡ t)
  made_tree ms k t q (Ok y) m e = (pat_made ms k t q y m e).stands
  made_tree ms k t q (Err y) m e = tt

  made_from : (ms : Nodes F C K fg cg kg) (k j : ℕ) (t : Tree F C K) (q : Result PatId AllocError)
      (r : Result PatId Error) → k ≤ j → IfOk q (λ id. Made j ms (pat_part id) t) → IfOk r (λ id. q ≡ Ok id)
      → IfOk r (λ id. pat_itself k ms id)
  made_from ms k j t q (Ok y) h m e = from-down h (pat_made ms j t q y m e).from
  made_from ms k j t q (Err y) h m e = tt

  put_tree : (ns : Nodes F C K fg cg kg) (x : Option PatId) (xs : List (Option PatId))
      → trees (map (pat_elem_tree (tree_at ns)) (put_elem x xs))
      ≡ put_elements (if_there ns x ∷ []) (trees (map (pat_elem_tree (tree_at ns)) xs))
  put_tree ns None [] = refl
  put_tree ns None (y ∷ ys) = refl
  put_tree ns (Some x) xs = refl

  pub kept_trees : (ns : Nodes F C K fg cg kg) (xs : List (Option PatId))
      → trees (map (pat_elem_tree (tree_at ns)) (without_holes xs)) ≡ put_elements (map (if_there ns) xs) nil
  kept_trees ns [] = refl
  kept_trees ns (x ∷ xs) =
      put_tree ns x (without_holes xs) ∙ ap (put_elements (if_there ns x ∷ [])) (kept_trees ns xs)
      ∙ put_on (if_there ns x) (map (if_there ns) xs)

  pub kept_apart : (ns : Nodes F C K fg cg kg) (k : ℕ) (xs : List (Option PatId)) (ys : Vec (Option PatId) Global)
      → ys.items ≡ without_holes xs → Apart k ns (flat (if_some one_pat) xs) → Apart k ns (pat_elem_parts ys)
  kept_apart ns k xs ys e a = subst (λ v. Apart k ns v) (sym (ap (flat (if_some one_pat)) e ∙ kept_parts one_pat xs)) a

  -- the node of the elements that are left
  pub array_made : (ns ms : Nodes F C K fg cg kg) (k : ℕ) (s : Span) (xs : List (Option PatId))
      (ys : Vec (Option PatId) Global) (q : Result PatId AllocError) → ys.items ≡ without_holes xs
      → IfOk q (λ id. (j : ℕ) → Apart j ns (pat_elem_parts ys)
      → Made j ms (pat_part id) (array_p s (pat_elem_trees (tree_at ns) ys))) → Apart k ns (flat (if_some one_pat) xs)
      → IfOk q (λ id. Made k ms (pat_part id) (array_p s (put_elements (map (if_there ns) xs) nil)))
  array_made ns ms k s xs ys (Ok id) e f a =
      let m = f k (kept_apart ns k xs ys e a) in
      record {
        from = m.from;
        stands = m.stands
            ∙ ap (λ v. array_p s (trees (map (pat_elem_tree (tree_at ns)) v))) e ∙ ap (array_p s) (kept_trees ns xs);
      }
  array_made ns ms k s xs ys (Err x) e f a = tt

-- a node is made in the end

module _ {S H F C K : Type 0} {fg : Ghosts F} {cg : Ghosts C} {kg : Ghosts K} {model : Model S} {sure : Bool}
    {f : Reader (Tree F C K)} where
  pub pat_node : {p q : Productions S H F C K fg cg kg} {t : Tree F C K} {ns : Nodes F C K fg cg kg} {k j : ℕ}
      (at : BytePos) (n : Result PatId AllocError) (r : Result PatId Error) → k ≤ j
      → IfOk n (λ id. Made j q.nodes (pat_part id) t) → IfOk r (λ id. n ≡ Ok id) → IfErr r (λ x. x ≡ no_memory at)
      → Grows p.nodes ns → Grows ns q.nodes → Heard model sure f t p.input q.input
      → Produces model sure pat_itself pat_at f k p r q
  pat_node {p} {q} {t} {ns} {k} {j} at n r le made ok refused w g h =
      yes r (node_parses model sure (pat_at q.nodes) at r t (made_tree q.nodes j t n r made ok) refused h)
      (grows-then w g) (made_from q.nodes k j t n r le made ok)

  -- the same, where perhaps nothing is read
  pub pat_node_on : {p q : Productions S H F C K fg cg kg} {t : Tree F C K} {ns : Nodes F C K fg cg kg} {k j : ℕ}
      (at : BytePos) (n : Result PatId AllocError) (r : Result PatId Error) → k ≤ j
      → IfOk n (λ id. Made j q.nodes (pat_part id) t) → IfOk r (λ id. n ≡ Ok id) → IfErr r (λ x. x ≡ no_memory at)
      → Grows p.nodes ns → Grows ns q.nodes → On model sure f (give t) p.input q.input
      → GoesOn model sure pat_itself pat_at f k p r q
  pat_node_on {p} {q} {t} {ns} {k} {j} at n r le made ok refused w g h =
      on r (node_continues model sure (pat_at q.nodes) at r t (made_tree q.nodes j t n r made ok) refused h)
      (grows-then w g) (made_from q.nodes k j t n r le made ok)
