-- The loop in which the properties of an object pattern are read (14.3.3), one turn after another.
use Rattle.std.proofs.Common.{◌≡◌, Bool, List, [], ◌∷◌, ◌++◌, Option, Some, None, MatchOption, map, refl, sym, ap, subst, ◌∙◌, arith}
use Rattle.swc_context.specs.{declared.error.Error.Error, declared.span.BytePos.BytePos, declared.span.Span.Span}
use Rattle.swc_input.specs.{declared.buffer.Buffer.Buffer, Source.Model, Source.Laws, Recording.no_memory}
use Rattle.swc_ast.specs.Tree.{Tree, Trees, cons, nil, trees}
use Rattle.swc_ast.specs.{Trees.listed, Trees.trees_append, declared.spanned.Spanned.Ghosts}
use Rattle.swc_bodies.specs.Readings.{Hook}
use Rattle.swc_grammar.specs.{Symbols.PatProps, Tokens.is_rbrace, Clean.sym as at, Clean.run}
use Rattle.swc_nodes.specs.GrowingNodes.{count, Apart, Grows}
use Rattle.swc_nodes.specs.{NodeParts.flat, NodeParts.pat_prop_parts, declared.node.PatPropNode.PatPropNode}
use Rattle.swc_nodes.proofs.{Lists.apart-none, Lists.apart-list-more, PatternParts.pat-props-more, Standing.grows-same, Standing.grows-then}
use Rattle.swc_steps.specs.Parsing.{On, Heard, Unheard}
use Rattle.swc_steps.specs.{Lists.eaten, Lists.separated, declared.productions.Productions.Productions}
use Rattle.swc_steps.proofs.Steps.{give, on_here, on_then, on_to, on_call, unheard_after, unheard_call, unheard_memory, forgoes_later, forgoes_here, leads_then, less, eats_none, eats_some}
use Rattle.swc_patterns.specs.Objects.{pat_prop_item, pat_prop_more, pat_props_left, props_done}
use Rattle.swc_patterns.specs.{Answers.pat_prop_at, Loops.PatPropsRead}
use Rattle.swc_patterns.proofs.Objects.{pat_prop_more_splits, props_first, props_turn}

-- where the brace was looked for from b to c, and perhaps taken
abbrev pub Looked : {S : Type 0} → Model S → Bool → Buffer S → Option Span → Buffer S → Type 0
Looked model sure b o c =
    MatchOption o (On model sure (eaten is_rbrace) (λ x ts. Some (None, ts)) b c)
    (λ s. Heard model sure (eaten is_rbrace) (Some s) b c)

module _ {S H F C K : Type 0} {fg : Ghosts F} {cg : Ghosts C} {kg : Ghosts K} {model : Model S} {sure : Bool}
    (hook : Hook F C K) where
  -- before the first property
  pub started : (p : Productions S H F C K fg cg kg) (xs : List PatPropNode) → Laws model → xs ≡ []
      → PatPropsRead model sure hook xs None p p
  started p xs laws none = record {
    on = on_here laws p.input (λ x ts. props_first hook x ts
        ∙ ap (λ v. pat_props_left hook (trees (map (pat_prop_at p.nodes) v)) None x ts) (sym none));
    falls = omega arith;
    grows = grows-same p.nodes;
    apart = subst (λ v. Apart (count p.nodes) p.nodes (flat pat_prop_parts v)) (sym none) (apart-none (omega arith));
  }

  module _ {xs : List PatPropNode} {comma : Option Span} {p q : Productions S H F C K fg cg kg}
      (so : PatPropsRead model sure hook xs comma p q) where
    -- the properties so far
    abbrev before : Trees F C K
    before = trees (map (pat_prop_at q.nodes) xs)

    -- the brace is asked for, and that is refused
    pub end_refused : {e : Error} {b : Buffer S} → Unheard model sure (eaten is_rbrace) q.input e b
        → Unheard model sure (run hook (at PatProps)) p.input e b
    end_refused u = unheard_after so.on (unheard_call _ (props_turn hook before comma) u)

    -- it is there
    pub closed : {o : Option Span} {s : Span} {b : Buffer S} → o ≡ Some s → Looked model sure q.input o b
        → On model sure (run hook (at PatProps)) (props_done (listed comma s before)) p.input b
    closed {o} {s} {b} is looked =
        on_then so.on (on_call _ (props_turn hook before comma) (eats_some sure is_rbrace o s q.input b is looked).on)

    -- it isn't there, so a property is
    pub goes_on : {o : Option Span} {b : Buffer S} → o ≡ None → Looked model sure q.input o b
        → On model sure (run hook (at PatProps)) (pat_prop_more hook before) p.input b
    goes_on {o} {b} is looked =
        on_then so.on (on_call _ (props_turn hook before comma) (eats_none sure is_rbrace o q.input b is looked))

module _ {S F C K : Type 0} {model : Model S} {sure : Bool} (hook : Hook F C K) (before : Trees F C K)
    {a b c : Buffer S} (more : On model sure (run hook (at PatProps)) (pat_prop_more hook before) a b) where
  -- the property is refused
  pub prop_refused : {e : Error} → Unheard model sure (pat_prop_item hook) b e c
      → Unheard model sure (run hook (at PatProps)) a e c
  prop_refused u = unheard_after more (unheard_call _ (pat_prop_more_splits hook before) u)

  -- memory runs out for the list once the property was read
  pub unkept : {t : Tree F C K} {e : Error} (place : BytePos) → Heard model sure (pat_prop_item hook) t b c
      → e ≡ no_memory place → Unheard model sure (run hook (at PatProps)) a e c
  unkept {e = e} place item refused =
      unheard_memory (forgoes_later (leads_then more.leads item.on.leads)
      (forgoes_here more.leads.laws c place e refused))

  -- what is after it is refused
  pub comma_refused : {t : Tree F C K} {e : Error} {d : Buffer S} → Heard model sure (pat_prop_item hook) t b c
      → Unheard model sure (separated is_rbrace) c e d → Unheard model sure (run hook (at PatProps)) a e d
  comma_refused {t} item u =
      unheard_after more (unheard_after (on_call _ (pat_prop_more_splits hook before) item.on)
      (unheard_call (λ x q. pat_props_left hook (trees_append before (cons t nil)) q.0 x q.1) (λ x ts. refl) u))

  -- what is left after it
  pub joined : {t : Tree F C K} {s : Option Span} {d : Buffer S} → Heard model sure (pat_prop_item hook) t b c
      → On model sure (separated is_rbrace) (give s) c d
      → On model sure (run hook (at PatProps)) (pat_props_left hook (trees_append before (cons t nil)) s) a d
  joined {t} item o =
      on_then more (on_then (on_call _ (pat_prop_more_splits hook before) item.on)
      (on_call (λ x q. pat_props_left hook (trees_append before (cons t nil)) q.0 x q.1) (λ x ts. refl) o))

module _ {S H F C K : Type 0} {fg : Ghosts F} {cg : Ghosts C} {kg : Ghosts K} {model : Model S} {sure : Bool}
    (hook : Hook F C K) {xs : List PatPropNode} {comma : Option Span} {p q r : Productions S H F C K fg cg kg}
    (so : PatPropsRead model sure hook xs comma p q) where
  -- a property was read, and put after those before it
  pub added : {b c : Buffer S} {s : Option Span} (x : PatPropNode) (ys : List PatPropNode)
      → On model sure (run hook (at PatProps)) (pat_prop_more hook (trees (map (pat_prop_at q.nodes) xs))) p.input b
      → Heard model sure (pat_prop_item hook) (pat_prop_at r.nodes x) b c
      → On model sure (separated is_rbrace) (give s) c r.input → Grows q.nodes r.nodes
      → Apart (count q.nodes) r.nodes (pat_prop_parts x) → ys ≡ xs ++ x ∷ [] → PatPropsRead model sure hook ys s p r
  added {s = s} x ys more item comes grows apart is =
      let is_more = ap (λ v. trees (map (pat_prop_at r.nodes) v)) is ∙ pat-props-more xs x grows so.apart in
      let on = on_to (joined hook (trees (map (pat_prop_at q.nodes) xs)) more item comes)
      (λ y ts. ap (λ v. pat_props_left hook v s y ts) (sym is_more)) in
      record {
        on = on;
        falls = less on.leads;
        grows = grows-then so.grows grows;
        apart = subst (λ v. Apart (count p.nodes) r.nodes (flat pat_prop_parts v)) (sym is)
            (apart-list-more pat_prop_parts xs x grows so.apart apart);
      }
