-- The kinds of patterns that expressions are refined as: what is sought, and where nothing is recorded.
use Rattle.std.proofs.Common.{◌≡◌, ℕ, Bool, true, false, not, ◌&&◌, refl, sym, ap, subst, ◌∙◌}
use Rattle.std.specs.Prelude.{if◌then◌else◌}
use Rattle.swc_ast.specs.Tree.{ident, pat_expr, Tree, node, nil, cons, span_of}
use Rattle.swc_ast.specs.{Targets.is_target, Trees.is_ident, Trees.is_valid, declared.spanned.Spanned.Ghosts}
use Rattle.swc_cover.proofs.{Covers.keeps-by, Quiet.fits-quiet, Quiet.quiet-fits}
use Rattle.swc_cover.specs.Faults.{clean, recorded, one_if, verdict}
use Rattle.swc_cover.specs.PatTypes.{role_in, role_for, way_in, stands_whole, held_whole, want_as, fits_as, verdict_as}
use Rattle.swc_cover.specs.Wanted.{want, Assign, Ident}
use Rattle.swc_cover.specs.declared.pat_type.PatType.TheVariants.{BindingPat, BindingElement, AssignPat, AssignElement}
use Rattle.swc_cover.specs.{Fits.fits, Roles.sought, declared.faults.FaultKind.FaultKind as fault, declared.pat_type.PatType.PatType}
use Rattle.swc_nodes.specs.{NodeParts.Part, GrowingNodes.Made, declared.nodes.Nodes.Nodes, declared.role.Role.Role as NodeRole}

chosen : {A : Type 0} (b : Bool) (x y : A) → b ≡ true → (if b then x else y) ≡ x
chosen true x y h = refl
chosen false x y h = cc

passed-by : {A : Type 0} (b : Bool) (x y : A) → b ≡ false → (if b then x else y) ≡ y
passed-by true x y h = cc
passed-by false x y h = refl

none-left : (a : Bool) → (a && not true) ≡ false
none-left true = refl
none-left false = refl

module _ {F C K : Type 0} where
  pub role-sought : (p : PatType) (t : Tree F C K) → sought (role_for p) t ≡ want (role_in p) t
  role-sought BindingPat t = refl
  role-sought BindingElement t = refl
  role-sought AssignPat t = refl
  role-sought AssignElement t = refl

  -- an identifier that is assigned to stays one
  ident-kept : (t : Tree F C K) → is_ident t ≡ true → want Assign t ≡ t
  ident-kept (node (ident w) s ts) h = ap (node (ident w) s) (keeps-by Ident Assign (ident w) (λ t us. refl) ts)
  ident-kept (node k s ts) h = cc

  whole-kept : (p : PatType) (t : Tree F C K) → stands_whole p t ≡ true → is_ident t ≡ true → want (role_in p) t ≡ t
  whole-kept AssignPat t h e = ident-kept t e
  whole-kept BindingPat t h e = cc
  whole-kept BindingElement t h e = cc
  whole-kept AssignElement t h e = cc

  wanted-by : (p : PatType) (t : Tree F C K) (b c : Bool) → stands_whole p t ≡ b → is_ident t ≡ c →
      (b && not c) ≡ false → want (role_in p) t ≡ want_as p t
  wanted-by p t false c e d h = sym (passed-by (stands_whole p t) (held_whole t) (want (role_in p) t) e)
  wanted-by p t true true e d h =
      whole-kept p t e d
      ∙ sym (chosen (stands_whole p t) (held_whole t) (want (role_in p) t) e
      ∙ chosen (is_ident t) t (node pat_expr (span_of t) (cons t nil)) d)
  wanted-by p t true false e d h = cc

  pub ident-wanted : (p : PatType) (t : Tree F C K) → is_ident t ≡ true → want (role_in p) t ≡ want_as p t
  ident-wanted p t e = wanted-by p t (stands_whole p t) true refl e (none-left (stands_whole p t))

  pub looked-wanted : (p : PatType) (t : Tree F C K) → stands_whole p t ≡ false → want (role_in p) t ≡ want_as p t
  looked-wanted p t e = wanted-by p t false (is_ident t) e refl refl

  -- ---- nothing is recorded where the expression is such a pattern, and, where no part is `Invalid`, there alone

  target-none : (b : Bool) (t : Tree F C K) → b ≡ true → recorded (one_if (not b) fault.TS2406 (span_of t)) ≡ clean
  target-none true t h = refl
  target-none false t h = cc

  none-target : (b : Bool) (t : Tree F C K) → recorded (one_if (not b) fault.TS2406 (span_of t)) ≡ clean → b ≡ true
  none-target true t e = refl
  none-target false t e = let h = ap (λ v. v.faults) e in cc

  quiet-by : (strict : Bool) (p : PatType) (t : Tree F C K) (b : Bool) →
      (if b then is_target strict t else fits (way_in strict p) t) ≡ true →
      (if b then recorded (one_if (not (is_target strict t)) fault.TS2406 (span_of t)) else verdict (way_in strict p)
      t) ≡ clean
  quiet-by strict p t true h = target-none (is_target strict t) t h
  quiet-by strict p t false h = fits-quiet (way_in strict p) t h

  fits-by : (strict : Bool) (p : PatType) (t : Tree F C K) (b : Bool) → is_valid t ≡ true →
      (if b then recorded (one_if (not (is_target strict t)) fault.TS2406 (span_of t)) else verdict (way_in strict p)
      t) ≡ clean →
      (if b then is_target strict t else fits (way_in strict p) t) ≡ true
  fits-by strict p t true v h = none-target (is_target strict t) t h
  fits-by strict p t false v h = quiet-fits (way_in strict p) t v h

  pub quiet-as : (strict : Bool) (p : PatType) (t : Tree F C K) → fits_as strict p t ≡ true →
      verdict_as strict p t ≡ clean
  quiet-as strict p t h = quiet-by strict p t (stands_whole p t) h

  pub fits-quietly : (strict : Bool) (p : PatType) (t : Tree F C K) → is_valid t ≡ true →
      verdict_as strict p t ≡ clean → fits_as strict p t ≡ true
  fits-quietly strict p t v h = fits-by strict p t (stands_whole p t) v h

module _ {F C K : Type 0} {fg : Ghosts F} {cg : Ghosts C} {kg : Ghosts K} where
  pub made-as : {ms : Nodes F C K fg cg kg} {k : ℕ} {p : Part} (w r : Tree F C K) → w ≡ r → Made k ms p w →
      Made k ms p r
  made-as {ms} {k} {p} w r e m = subst (λ v. Made k ms p v) e m

  pub typed-made : {ms : Nodes F C K fg cg kg} {k : ℕ} {q : Part} {r : NodeRole} (p : PatType) (t : Tree F C K) →
      r ≡ role_for p → want (role_in p) t ≡ want_as p t →
      Made k ms q (sought r t) → Made k ms q (want_as p t)
  typed-made p t e w m = made-as _ _ (ap (λ v. sought v t) e ∙ role-sought p t ∙ w) m
