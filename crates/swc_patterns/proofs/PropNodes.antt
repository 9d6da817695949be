-- The nodes of properties of object patterns: their trees, and what they reach.
use Rattle.std.proofs.Common.{◌≡◌, ℕ, Bool, ◌++◌, None, Some, Ok, refl, sym, ap, subst, ◌∙◌}
use Rattle.swc_context.specs.Spans.{from_to}
use Rattle.swc_input.specs.{declared.buffer.Buffer.Buffer, Source.Model}
use Rattle.swc_ast.specs.{Patterns.name_p, Parts.binding_tree, Parts.prop_name_tree, Spans.prop_name_span, Tree.Tree, Tree.span_of, Trees.to, Trees.key_value_e, declared.ident.BindingIdent.BindingIdent, declared.prop.PropName.PropName, declared.prop.PropName.PropName as name, declared.spanned.Spanned.Ghosts}
use Rattle.swc_bodies.specs.Readings.{Hook, LawfulHook}
use Rattle.swc_grammar.specs.{Symbols.Assign, Tokens.with_in}
use Rattle.swc_nodes.specs.NodeParts.{expr_part, key_parts, one_expr, one_pat, pat_part, pat_prop_parts}
use Rattle.swc_nodes.specs.GrowingNodes.{count, end_at, tree_at, Apart, From, Grows}
use Rattle.swc_nodes.specs.{declared.node.ExprId.ExprId, declared.node.PatId.PatId, declared.node.PatPropNode.PatPropNode, declared.node.PatPropNode.PatPropNode as pat_prop, declared.nodes.Nodes.Nodes}
use Rattle.swc_nodes.proofs.Lists.{apart-more, apart-none, apart-trees, key-same}
use Rattle.swc_nodes.proofs.{Held.apart-from, Standing.grows-count}
use Rattle.swc_steps.specs.Parsing.{On, Heard, Produces, itself, key_of, key_at, tree_of, binding_spelling}
use Rattle.swc_steps.specs.{Readers.inside, declared.productions.Productions.Productions}
use Rattle.swc_steps.proofs.Steps.{heard_after, heard_answer, heard_call_read}
use Rattle.swc_steps.proofs.{Building.apart-lower, Endings.ended, Rules.inside_assign}
use Rattle.swc_steps.specs.Params.{pat_at}
use Rattle.swc_patterns.specs.Answers.{pat_prop_at, pat_prop_of}
use Rattle.swc_patterns.specs.Objects.{default_node, key_or, name_node, pat_prop_item, pat_prop_left}
use Rattle.swc_patterns.specs.declared.object.AfterPatKey.{AfterPatKey, AfterPatKey as after}

key_place : {F C K X : Type 0} (view : X → Tree F C K) (k : PropName X)
    → span_of (prop_name_tree view k) ≡ prop_name_span k
key_place view (name.Ident i) = refl
key_place view (name.Str s) = refl
key_place view (name.Num n) = refl
key_place view (name.BigInt n) = refl
key_place view (name.Computed c) = refl

-- the key that was handed on is the one that was read
pub same_key : (a : AfterPatKey) (k n : PropName ExprId) → a ≡ after.Value n → key_or k a ≡ k → n ≡ k
same_key a k n is same = ap (key_or k) (sym is) ∙ same

module _ {F C K : Type 0} {fg : Ghosts F} {cg : Ghosts C} {kg : Ghosts K} where
  value_tree : (ns : Nodes F C K fg cg kg) (k : PropName ExprId) (v : PatId)
      → key_value_e (to (span_of (key_at ns k)) (span_of (pat_at ns v))) (key_at ns k) (pat_at ns v)
      ≡ key_value_e (to (prop_name_span k) (span_of (pat_at ns v))) (key_at ns k) (pat_at ns v)
  value_tree ns k v =
      ap (λ s. key_value_e (to s (span_of (pat_at ns v))) (key_at ns k) (pat_at ns v))
      (key_place (λ e. tree_at ns e.0) k)

  -- a key, and the element that was read after it
  pub value_made : {ns ms : Nodes F C K fg cg kg} {i : ℕ} (k n : PropName ExprId) (v : PatId) (x : PatPropNode) → n ≡ k
      → pat_prop_at ms x ≡ key_value_e (to (prop_name_span n) (span_of (pat_at ms v))) (key_at ms n) (pat_at ms v)
      → pat_prop_parts x ≡ key_parts n ++ one_pat v → Grows ns ms → key_of i ns k → From (count ns) ms (pat_part v)
      → (key_value_e (to (span_of (key_at ns k)) (span_of (pat_at ms v))) (key_at ns k) (pat_at ms v)
      ≡ pat_prop_at ms x) × pat_prop_of i ms x
  value_made {ns} {ms} {i} k n v x same tree parts g key value =
      let later : key_at ms k ≡ key_at ns k = key-same (tree_at ms) (tree_at ns) k (apart-trees g key) in (
        ap (λ t. key_value_e (to (span_of t) (span_of (pat_at ms v))) t (pat_at ms v)) (sym later)
            ∙ value_tree ms k v
            ∙ ap (λ u. key_value_e (to (prop_name_span u) (span_of (pat_at ms v))) (key_at ms u) (pat_at ms v))
            (sym same)
            ∙ sym tree,
        subst (λ ps. Apart i ms ps) (sym (parts ∙ ap (λ u. key_parts u ++ one_pat v) same))
            (apart-more g key (apart-from (pat_part v) value)),
      )

  -- a rest
  pub rest_made : {ns : Nodes F C K fg cg kg} {i : ℕ} (x : PatPropNode) (p : PatId) → pat_prop_parts x ≡ one_pat p
      → From i ns (pat_part p) → pat_prop_of i ns x
  rest_made {ns} {i} x p parts from = subst (λ ps. Apart i ns ps) (sym parts) (apart-from (pat_part p) from)

  -- a name alone
  pub name_made : (ns : Nodes F C K fg cg kg) (n : BindingIdent) (x : PatPropNode)
      → x ≡ pat_prop.Assign n.id.span n None → name_node (binding_spelling n) ≡ pat_prop_at ns x
  name_made ns n x is = ap (pat_prop_at ns) (sym is)

  pub name_apart : {ns ms : Nodes F C K fg cg kg} (n : BindingIdent) (x : PatPropNode)
      → x ≡ pat_prop.Assign n.id.span n None → Grows ns ms → pat_prop_of (count ns) ms x
  name_apart {ns} {ms} n x is g =
      subst (λ v. Apart (count ns) ms (pat_prop_parts v)) (sym is) (apart-none (grows-count g))

  -- a name, and an initialiser
  pub default_apart : {ns ms os : Nodes F C K fg cg kg} (x : PatPropNode) (e : ExprId) → pat_prop_parts x ≡ one_expr e
      → Grows ns ms → From (count ms) os (expr_part e) → pat_prop_of (count ns) os x
  default_apart {ns} {ms} {os} x e parts g from =
      subst (λ ps. Apart (count ns) os ps) (sym parts)
      (apart-lower (one_expr e) (grows-count g) (apart-from (expr_part e) from))

-- a name, and the initialiser that was read after its `=`
module _ {S H F C K : Type 0} {fg : Ghosts F} {cg : Ghosts C} {kg : Ghosts K} {model : Model S} {sure : Bool}
    (hook : Hook F C K) (lawful : LawfulHook fg.place cg.place kg.place hook) (key : Tree F C K) (n : BindingIdent)
    (e : ExprId) (x : PatPropNode) {p q : Productions S H F C K fg cg kg} where
  pub default_read : {a : Buffer S}
      → On model sure (pat_prop_item hook) (pat_prop_left hook key (after.Default n)) a p.input
      → Produces model sure itself tree_of (inside hook) (count p.nodes) p (Ok e) q → pat_prop_at q.nodes x
      ≡ name_p (from_to n.id.span.lo (end_at q.nodes e.0)) (binding_tree n) (tree_of q.nodes e)
      → Heard model sure (pat_prop_item hook) (pat_prop_at q.nodes x) a q.input
  default_read equals inner tree =
      heard_answer (sym tree) (heard_after equals
      (heard_call_read (λ y t. Some (default_node (binding_spelling n) t.0, t.1)) (λ y ts. refl)
      (λ y ts us h z ys. ap (λ v. Some (name_p (from_to n.id.span.lo v) (binding_tree n) (tree_of q.nodes e), ys))
      (sym (ended hook lawful e Assign (with_in y) ts us inner.from (sym (inside_assign hook y ts) ∙ h))))
      inner.reads))
