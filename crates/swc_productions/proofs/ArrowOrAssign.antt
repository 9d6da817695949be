-- Assignment expressions that may be arrow functions (15.3, 15.9), as the code reads them.
use Rattle.std.proofs.Common.{◌≡◌, ◌<◌, ◌++◌, ℕ, ◌≤◌, Bool, true, false, if◌then◌else◌, List, Option, None, Some, Result, Ok, Err}
use Rattle.std.proofs.Common.{IsErrAnd, refl, subst, ◌∙◌, arith}
use Rattle.swc_context.specs.declared.error.Error.{Error}
use Rattle.swc_context.specs.declared.span.Span.{Span}
use Rattle.swc_input.specs.declared.buffer.Buffer.{Buffer}
use Rattle.swc_input.specs.declared.token.TokenAndSpan.{TokenAndSpan}
use Rattle.swc_input.specs.Source.{Model}
use Rattle.swc_ast.specs.Tree.{Tree}
use Rattle.swc_ast.specs.Trees.{is_operation, is_valid}
use Rattle.swc_grammar.specs.Tokens.{assign_of}
use Rattle.swc_ast.specs.declared.spanned.Spanned.{Ghosts}
use Rattle.swc_bodies.specs.Readings.{Hook, LawfulHook}
use Rattle.swc_grammar.specs.Clean.{Out, run, links, updates, climb, assigns}
use Rattle.swc_grammar.specs.Scope.{Scope}
use Rattle.swc_grammar.specs.Words.{◌>>=◌}
use Rattle.swc_nodes.specs.GrowingNodes.{count, Grows}
use Rattle.swc_nodes.specs.declared.node.ExprId.{ExprId}
use Rattle.swc_nodes.specs.declared.nodes.Nodes.{Nodes}
use Rattle.swc_steps.specs.Parsing.{scope, On, Produces, itself, tree_of}
use Rattle.swc_steps.specs.declared.productions.Productions.{Productions}
use Rattle.swc_steps.proofs.Making.{yes}
use Rattle.swc_steps.proofs.Steps.{Reader, give, on_call, on_then, unheard_after}
use Rattle.swc_cover.specs.Rewriting.{Rewrites}
use Rattle.swc_cover.proofs.Kept.{grows-kept}
use Rattle.swc_arrows.specs.Answers.{Based, Operanded, Opens, Fails, MayBeArrow, MayBeOperand}
use Rattle.swc_arrows.specs.Readers.{base_behind, operand_behind}
use Rattle.swc_arrows.specs.declared.bodies.ArrowOrBase.{ArrowOrBase}
use Rattle.swc_context.specs.declared.operator.AssignOp.{AssignOp}
use Rattle.swc_grammar.specs.Clean.{no_error}
use Rattle.swc_input.specs.Kinds.{at_token}
use Rattle.swc_input.specs.declared.token.Token.{Token}
use Rattle.swc_input.specs.declared.token.Token.TheVariants as token
use Rattle.swc_nodes.specs.GrowingNodes.{first_at, start_at, tree_at, From}
use Rattle.swc_nodes.specs.NodeParts.{expr_part, target_part}
use Rattle.swc_nodes.specs.declared.node.TargetNode.{TargetNode}
use Rattle.swc_nodes.specs.declared.node.TargetNode.TheVariants as target
use Rattle.swc_nodes.proofs.Edges.{start-clean}
use Rattle.swc_nodes.proofs.Held.{from-down, tree-later}
use Rattle.swc_steps.specs.Parsing.{Unheard}
use Rattle.swc_steps.proofs.Endings.{valid-begins}
use Rattle.swc_steps.proofs.Steps.{less}
use Rattle.swc_cover.proofs.Kept.{kept-less}
use Rattle.swc_cover.proofs.Refines.{expr-formed}
use Rattle.swc_operators.specs.Assignments.{assign_at, assigns_from, target_number}
use Rattle.swc_operators.proofs.Assignments.{from_place}
use Rattle.swc_arrows.specs.declared.bodies.ArrowOrBase.TheVariants as arrow_or
use Rattle.swc_arrows.proofs.BaseLaws.{operators_valid}
use Rattle.swc_arrows.proofs.Dooms.{opens_heard, opens_later, fails_heard, fails_later, doomed_unheard}

module _ {F C K : Type 0} (hook : Hook F C K) where
  -- after operators; after a base, after its links, and after `++` or `--`, or none
  abbrev pub climbed : Scope → Tree F C K × List TokenAndSpan → Out (Tree F C K)
  climbed x p = run hook (assigns p.0) x p.1

  abbrev pub updated : Scope → Tree F C K × List TokenAndSpan → Out (Tree F C K)
  updated x p = operand_behind hook p.0 x p.1

  abbrev pub linked : Scope → Tree F C K × List TokenAndSpan → Out (Tree F C K)
  linked x p = run hook (updates p.0) x p.1 >>= updated x

  pub base_links : (e : Tree F C K) (x : Scope) (ts : List TokenAndSpan)
      → base_behind hook e x ts ≡ (run hook (links true e) x ts >>= linked x)
  unfolding base_behind operand_behind
  base_links e x ts = refl

  pub operand_climbs : (e : Tree F C K) (x : Scope) (ts : List TokenAndSpan)
      → operand_behind hook e x ts ≡ (run hook (climb e 0) x ts >>= climbed x)
  unfolding operand_behind
  operand_climbs e x ts = refl

  -- a base, its links, and `++` or `--`, or none
  abbrev pub link_more : Scope → Tree F C K × List TokenAndSpan → Out (Tree F C K)
  link_more x p = run hook (updates p.0) x p.1

  abbrev pub base_more : Scope → Tree F C K × List TokenAndSpan → Out (Tree F C K)
  base_more x p = run hook (links true p.0) x p.1 >>= link_more x

  abbrev pub climb_more : Scope → Tree F C K × List TokenAndSpan → Out (Tree F C K)
  climb_more x p = run hook (climb p.0 0) x p.1

-- what a reading of one after another was
both_read : {A B : Type 0} (o : Out A) (f : A × List TokenAndSpan → Out B) {r : B × List TokenAndSpan}
    → (o >>= f) ≡ Some r
    → (p : A × List TokenAndSpan) × (o ≡ Some p) × (f p ≡ Some r)
both_read None f h = absurd cc
both_read (Some p) f h = (p, refl, h)

module _ {S A : Type 0} {model : Model S} {sure : Bool} {f g h q : Reader A} {t : A} {b d : Buffer S} where
  -- what is left is read otherwise, where what was read is known to be what q reads
  opens_known : Opens model sure f g b d → On model sure q (give t) b d → ((x : Scope) (ts us : List TokenAndSpan)
      → x.head ≡ false → q x ts ≡ Some (t, us) → (y : Scope) (ys : List TokenAndSpan) → g y ys ≡ h y ys)
      → Opens model sure f h b d
  opens_known o k same = record {
    on = record {
      leads = o.on.leads;
      clean = λ l s ys fut. o.on.clean l s ys fut
          ∙ same (scope model b) (k.leads.taken ++ ys) ys refl (k.clean l s ys fut) (scope model d) ys;
      faulty = o.on.faulty;
    };
    onward = o.onward;
  }

module _ {S F C K : Type 0} {fun_at : F → Span} {class_at : C → Span} {block_at : K → Span} {model : Model S}
    {sure : Bool} (hook : Hook F C K) (lawful : LawfulHook fun_at class_at block_at hook)
    {f : Reader (Tree F C K)} where
  -- links, and `++` or `--`, or none, after a base
  pub operanded : {e l u : Tree F C K} {b c d m : Buffer S} → Based model sure hook f e b c
      → On model sure (run hook (links true e)) (give l) c m → On model sure (run hook (updates l)) (give u) m d
      → Operanded model sure hook f u b d
  operanded h o o2 = record {
    opens = opens_later h.opens (on_then (on_call (linked hook) (base_links hook _) o)
        (on_call (updated hook) (λ y ts. refl) o2));
    reader = λ y ts. h.heard.reader y ts >>= base_more hook y;
    heard = on_then (on_call (base_more hook) (λ y ts. refl) h.heard.heard.on)
        (on_then (on_call (link_more hook) (λ y ts. refl) o) o2);
    valid = λ y ts us zs t k n read z.
        let (p, a, g) = both_read (h.heard.reader y ts) (base_more hook y) read in
        let (r, d, w) = both_read (run hook (links true p.0) y p.1) (link_more hook y) g in
        operators_valid hook lawful y n ts p.1 r.1 us zs p.0 r.0 t k (h.heard.operand y ts p.1 p.0 n a) d w z;
  }

module _ {S F C K : Type 0} {model : Model S} {sure : Bool} (hook : Hook F C K) {f : Reader (Tree F C K)} where
  -- operators after an operand: what is read after these may be said of a tree that holds nothing that was refused
  pub operators_left : {g : Reader (Tree F C K)} {e k : Tree F C K} {b c d : Buffer S}
      → Operanded model sure hook f e b c
      → On model sure (run hook (climb e 0)) (give k) c d
      → (is_valid k ≡ true → (y : Scope) (ys : List TokenAndSpan) → run hook (assigns k) y ys ≡ g y ys)
      → Opens model sure f g b d
  operators_left {g} {e} {k} h o same =
      opens_known (opens_later h.opens (on_call (climbed hook) (operand_climbs hook e) o))
      (on_then (on_call {f = λ y ts. h.reader y ts >>= climb_more hook y} (climb_more hook) (λ y ts. refl) h.heard) o)
      (λ y ts us n r. let (p, a, w) = both_read (h.reader y ts) (climb_more hook y) r in
      same (h.valid y ts p.1 us p.0 k n a w))

module _ {S H F C K : Type 0} {fg : Ghosts F} {cg : Ghosts C} {kg : Ghosts K} {model : Model S} {sure : Bool}
    (hook : Hook F C K) {f : Reader (Tree F C K)} {k : ℕ} {p q : Productions S H F C K fg cg kg} where
  -- the answer that came
  pub answered : {a b : ArrowOrBase} → a ≡ b → MayBeArrow model sure hook f k p (Ok a) q
      → MayBeArrow model sure hook f k p (Ok b) q
  answered same h = subst (λ v. MayBeArrow model sure hook f k p (Ok v) q) same h

  pub operated : {a b : ArrowOrBase} → a ≡ b → MayBeOperand model sure hook f k p (Ok a) q
      → MayBeOperand model sure hook f k p (Ok b) q
  operated same h = subst (λ v. MayBeOperand model sure hook f k p (Ok v) q) same h

  pub operand_refused : {e : Error} (r : Result ArrowOrBase Error) → IsErrAnd r (λ x. x ≡ e)
      → Unheard model sure f p.input e q.input → Grows p.nodes q.nodes → MayBeOperand model sure hook f k p r q
  operand_refused (Ok x) h u w = absurd h
  operand_refused (Err x) h u w = rw h (record { reads = u; falls = tt; grows = w; from = tt })

  pub operand_read : (e : ExprId) → Operanded model sure hook f (tree_of q.nodes e) p.input q.input
      → Grows p.nodes q.nodes → From k q.nodes (expr_part e)
      → MayBeOperand model sure hook f k p (Ok (arrow_or.Base e)) q
  operand_read e o w h = record { reads = o; falls = less o.opens.on.leads; grows = w; from = h }

module _ {S H F C K : Type 0} {fg : Ghosts F} {cg : Ghosts C} {kg : Ghosts K} {model : Model S} {sure : Bool}
    {f h : Reader (Tree F C K)} {j k : ℕ} {p m q : Productions S H F C K fg cg kg} where
  -- an operand and operators, and what is after these
  pub finished : (r : Result ExprId Error) → Opens model sure f h p.input m.input → Grows p.nodes m.nodes
      → count p.nodes ≤ j
      → ((x : ExprId) → itself j q.nodes x → itself k q.nodes x)
      → Rewrites model sure itself h (λ ns e x ts. Some (tree_of ns e, ts)) j m r q
      → Produces model sure itself tree_of f k p r q
  finished (Ok x) o w le down s = yes (Ok x) (opens_heard (opens_later o s.reads)) (grows-kept w le s.kept)
      (down x s.from)
  finished (Err e) o w le down s = yes (Err e) (unheard_after o.on s.reads) (grows-kept w le s.kept) tt

  -- the same after a fault
  pub failed : (r : Result ExprId Error) → Fails model sure f p.input m.input → Grows p.nodes m.nodes
      → count p.nodes ≤ j
      → ((x : ExprId) → itself j q.nodes x → itself k q.nodes x)
      → Rewrites model sure itself h (λ ns e x ts. Some (tree_of ns e, ts)) j m r q
      → Produces model sure itself tree_of f k p r q
  failed (Ok x) o w le down s = yes (Ok x) (fails_heard (fails_later o s.reads.leads)) (grows-kept w le s.kept)
      (down x s.from)
  failed (Err e) o w le down s = yes (Err e) (doomed_unheard o.doomed s.reads.refuses) (grows-kept w le s.kept) tt

module _ {S H F C K : Type 0} {fg : Ghosts F} {cg : Ghosts C} {kg : Ghosts K} {model : Model S} {sure : Bool}
    {f : Reader (Tree F C K)} {j k : ℕ} {p q : Productions S H F C K fg cg kg} where
  -- numbers from a lower one on
  pub lowered : (r : Result ExprId Error) → k ≤ j
      → Rewrites model sure itself f (λ ns e x ts. Some (tree_of ns e, ts)) j p r q
      → Rewrites model sure itself f (λ ns e x ts. Some (tree_of ns e, ts)) k p r q
  lowered (Ok x) le h =
      record { reads = h.reads; falls = h.falls; kept = kept-less le h.kept; from = from-down le h.from }
  lowered (Err e) le h = record { reads = h.reads; falls = h.falls; kept = kept-less le h.kept; from = tt }

module _ {F C K : Type 0} {fg : Ghosts F} {cg : Ghosts C} {kg : Ghosts K} (hook : Hook F C K) where
  -- what is after operators, where these join what holds nothing that was refused
  pub left_from : {ns : Nodes F C K fg cg kg} {k : ℕ} (e : ExprId) → From k ns (expr_part e)
      → is_valid (tree_of ns e) ≡ true → (x : Scope) (ts : List TokenAndSpan)
      → run hook (assigns (tree_of ns e)) x ts ≡ assigns_from hook (start_at ns e.0) (tree_of ns e) x ts
  left_from {ns} e f v x ts =
      from_place hook (start_at ns e.0) (tree_of ns e) x ts (start-clean f (valid-begins (tree_of ns e) v)) v
      (expr-formed e (from-down (omega arith) f))

-- an operator that writes is no error token
operator_fits : (t : Token) (b : Bool) {op : AssignOp} → (if b then None else assign_of t) ≡ Some op → no_error t ≡ true
operator_fits (token.AssignOp op) b h = refl
operator_fits t true h = absurd cc
operator_fits t false h = absurd cc

pub writes_fits : {F C K : Type 0} (o : Option TokenAndSpan) (l : Tree F C K) {op : AssignOp}
    → assign_at o l ≡ Some op → at_token no_error o ≡ true
writes_fits None l h = absurd cc
writes_fits (Some t) l h = operator_fits t.token (is_operation l) h

-- a target, by its number
module _ {F C K : Type 0} {fg : Ghosts F} {cg : Ghosts C} {kg : Ghosts K} {ns : Nodes F C K fg cg kg} {k : ℕ} where
  pub target_within : (t : TargetNode) → From k ns (target_part t) → target_number t < count ns
  target_within (target.Simple e) f = f.within
  target_within (target.Pat p) f = f.within

  pub target_above : (t : TargetNode) → From k ns (target_part t) → k ≤ first_at ns (target_number t)
  target_above (target.Simple e) f = f.above
  target_above (target.Pat p) f = f.above

  pub target_low_of : (t : TargetNode) → From k ns (target_part t) → first_at ns (target_number t) ≤ count ns
  target_low_of (target.Simple e) f = let a = f.first in let b = f.within in omega arith
  target_low_of (target.Pat p) f = let a = f.first in let b = f.within in omega arith

  pub target_low : (t : TargetNode) → From k ns (target_part t) → k ≤ count ns
  target_low t f = let a = target_above t f in let b = target_low_of t f in omega arith

  pub target_later : {ms : Nodes F C K fg cg kg} (t : TargetNode) → Grows ns ms → From k ns (target_part t)
      → tree_at ms (target_number t) ≡ tree_at ns (target_number t)
  target_later (target.Simple e) g f = tree-later g f
  target_later (target.Pat p) g f = tree-later g f
