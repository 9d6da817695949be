-- What is in parentheses, as the items of its list are looked at one after another.
use Rattle.std.proofs.Common.{◌≡◌, ◌≢◌, ℕ, zero, suc, ◌+◌, ◌<◌, ◌≤◌, Bool, true, false, not, ◌&&◌, ◌||◌, List, [], ◌∷◌, Option, Some, None, Result, Ok, Err, OnOk, IfErr, length, take, get_or, refl, sym, ap, subst, ◌∙◌, add-one, arith}
use Rattle.std.proofs.lemmas.Option.{slice_get-get_or}
use Rattle.std.specs.Prelude.{slice_get, is_some as is_given}
use Rattle.swc_context.specs.{declared.error.Error.Error, declared.error.SyntaxError.TheVariants.OutOfMemory, declared.span.Span.Span}
use Rattle.swc_input.specs.{declared.buffer.Buffer.Buffer, declared.token.TokenAndSpan.TokenAndSpan, Recording.is_some, Source.Model}
use Rattle.swc_ast.specs.Trees.{listed, held_expr, no_cover_in, no_covers, is_spread, no_spread, paren_ok}
use Rattle.swc_ast.specs.{Parts.item_of, Parts.item_trees, Tree.Tree, declared.expr.ExprOrSpread.ExprOrSpread, declared.spanned.Spanned.Ghosts}
use Rattle.swc_grammar.specs.{Scope.Scope, Clean.Out}
use Rattle.swc_nodes.specs.NodeParts.{flat, item_parts, expr_part}
use Rattle.swc_nodes.specs.GrowingNodes.{seat_at, Apart, From}
use Rattle.swc_nodes.specs.{NumberedTrees.fits, declared.node.ExprId.ExprId, declared.nodes.Nodes.Nodes}
use Rattle.swc_nodes.proofs.{Chains.both_true, Held.from-apart, Held.from-down}
use Rattle.swc_steps.specs.Args.{arrow_free, paren_closed}
use Rattle.swc_input.specs.Calls.{Checks, Refuses}
use Rattle.swc_steps.specs.Parsing.{On, Unheard}
use Rattle.swc_steps.proofs.Args.{paren_closed_splits}
use Rattle.swc_steps.proofs.Steps.{checks_and, give, on_call, refuses_later, unheard_call, and_false, and_true}

and_assoc : (a b c : Bool) → (a && (b && c)) ≡ ((a && b) && c)
and_assoc true b c = refl
and_assoc false b c = refl

-- ---- a test that all items of a list pass

module _ {X : Type 0} (f : X → Bool) where
  abbrev pub all_pass : List X → Bool
  all_pass [] = true
  all_pass (x ∷ xs) = f x && all_pass xs

  abbrev passes : Option X → Bool
  passes None = true
  passes (Some x) = f x

  one_more : (xs : List X) (i : ℕ) → all_pass (take (suc i) xs) ≡ (all_pass (take i xs) && passes (slice_get xs i))
  one_more [] zero = refl
  one_more [] (suc i) = refl
  one_more (x ∷ xs) zero = and_true (f x)
  one_more (x ∷ xs) (suc i) =
      ap (λ v. f x && v) (one_more xs i) ∙ and_assoc (f x) (all_pass (take i xs)) (passes (slice_get xs i))

  pub pass-more : (xs : List X) (i : ℕ) (d : X) → i < length xs
      → all_pass (take (i + 1) xs) ≡ (all_pass (take i xs) && f (get_or xs i d))
  pass-more xs i d lt =
      ap (λ v. all_pass (take v xs)) (add-one i) ∙ one_more xs i
      ∙ ap (λ v. all_pass (take i xs) && passes v) (slice_get-get_or xs i d lt)

  pub pass-on : (xs : List X) (i : ℕ) (d : X) → i < length xs → all_pass (take i xs) ≡ true
      → f (get_or xs i d) ≡ true → all_pass (take (i + 1) xs) ≡ true
  pass-on xs i d lt h k = pass-more xs i d lt ∙ ap (λ v. v && f (get_or xs i d)) h ∙ k

  pub pass-all : (xs : List X) (i : ℕ) → length xs ≤ i → all_pass (take i xs) ≡ all_pass xs
  pass-all [] zero h = refl
  pass-all [] (suc i) h = refl
  pass-all (x ∷ xs) zero h = absurd (omega (arith, h))
  pass-all (x ∷ xs) (suc i) h = ap (λ v. f x && v) (pass-all xs i (omega (arith, h)))

  -- one that doesn't pass is enough
  fails : (xs : List X) (i : ℕ) (x : X) → slice_get xs i ≡ Some x → f x ≡ false → all_pass xs ≡ false
  fails [] i x e h = cc
  fails (y ∷ ys) zero x e h =
      let same : y ≡ x = cc in
      ap (λ v. f v && all_pass ys) same ∙ ap (λ b. b && all_pass ys) h
  fails (y ∷ ys) (suc i) x e h = ap (λ b. f y && b) (fails ys i x e h) ∙ and_false (f y)

  pub pass-fails : (xs : List X) (i : ℕ) (d : X) → i < length xs → f (get_or xs i d) ≡ false → all_pass xs ≡ false
  pass-fails xs i d lt h = fails xs i (get_or xs i d) (slice_get-get_or xs i d lt) h

-- ---- the trees of items

module _ {F C K : Type 0} where
  held-is : (s : Option Span) (t : Tree F C K) → held_expr (item_of s t) ≡ t
  held-is None t = refl
  held-is (Some s) t = refl

  spread-is : (s : Option Span) (t : Tree F C K) → is_spread (item_of s t) ≡ is_given s
  spread-is None t = refl
  spread-is (Some s) t = refl

abbrev pub plain_item : {X : Type 0} → ExprOrSpread X → Bool
plain_item x = not (is_given x.spread)

module _ {F C K X : Type 0} (at : X → Tree F C K) where
  abbrev pub whole_item : ExprOrSpread X → Bool
  whole_item x = no_cover_in (at x.expr)

  pub covers-are : (xs : List (ExprOrSpread X)) → no_covers (item_trees at xs) ≡ all_pass whole_item xs
  covers-are [] = refl
  covers-are (x ∷ xs) =
      ap (λ t. no_cover_in t && no_covers (item_trees at xs)) (held-is x.spread (at x.expr))
      ∙ ap (λ b. no_cover_in (at x.expr) && b) (covers-are xs)

  pub spreads-are : (xs : List (ExprOrSpread X)) → no_spread (item_trees at xs) ≡ all_pass plain_item xs
  spreads-are [] = refl
  spreads-are (x ∷ xs) =
      ap (λ b. not b && no_spread (item_trees at xs)) (spread-is x.spread (at x.expr))
      ∙ ap (λ b. not (is_given x.spread) && b) (spreads-are xs)

  -- the same, of items that a loop went through
  pub none_spread : (xs ys : List (ExprOrSpread X)) (i : ℕ) → xs ≡ ys → length xs ≤ i
      → all_pass plain_item (take i xs) ≡ true → no_spread (item_trees at ys) ≡ true
  none_spread xs ys i same h k =
      spreads-are ys ∙ ap (all_pass plain_item) (sym same) ∙ sym (pass-all plain_item xs i h) ∙ k

  pub one_spread : (xs ys : List (ExprOrSpread X)) (i : ℕ) (d : ExprOrSpread X) → xs ≡ ys → i < length xs
      → is_given (get_or xs i d).spread ≡ true → no_spread (item_trees at ys) ≡ false
  one_spread xs ys i d same lt h =
      spreads-are ys ∙ ap (all_pass plain_item) (sym same) ∙ pass-fails plain_item xs i d lt (ap not h)

  -- what may be in parentheses
  paren_is : (p : Bool) (comma : Option Span) (s : Span) (xs : List (ExprOrSpread X)) → 1 ≤ length xs
      → no_spread (item_trees at xs) ≡ true
      → ((p || no_covers (item_trees at xs)) && not (is_some comma)) ≡ paren_ok p (listed comma s (item_trees at xs))
  paren_is p comma s [] le h = absurd (omega (arith, le))
  paren_is p None s (x ∷ xs) le h = ap (λ b. (p || no_covers (item_trees at (x ∷ xs))) && b) (sym h)
  paren_is p (Some c) s (x ∷ xs) le h = refl

  pub paren_none : (p : Bool) (comma : Option Span) (s : Span) (xs : List (ExprOrSpread X)) → length xs ≡ 0
      → paren_ok p (listed comma s (item_trees at xs)) ≡ false
  paren_none p comma s [] h = and_false (p || true)
  paren_none p comma s (x ∷ xs) h = absurd (omega (arith, h))

  paren_spread : (p : Bool) (comma : Option Span) (s : Span) (xs : List (ExprOrSpread X))
      → no_spread (item_trees at xs) ≡ false → paren_ok p (listed comma s (item_trees at xs)) ≡ false
  paren_spread p comma s [] h = and_false (p || true)
  paren_spread p None s (x ∷ xs) h =
      ap (λ b. (p || no_covers (item_trees at (x ∷ xs))) && b) h
      ∙ and_false (p || no_covers (item_trees at (x ∷ xs)))
  paren_spread p (Some c) s (x ∷ xs) h = and_false (p || no_covers (item_trees at (x ∷ xs)))

module _ {F C K : Type 0} {fg : Ghosts F} {cg : Ghosts C} {kg : Ghosts K} where
  from_nth : {ns : Nodes F C K fg cg kg} (k : ℕ) (xs : List (ExprOrSpread ExprId)) (j : ℕ) (x : ExprOrSpread ExprId)
      → slice_get xs j ≡ Some x → Apart k ns (flat item_parts xs) → From k ns (expr_part x.expr)
  from_nth k [] j x e a = cc
  from_nth {ns} k (y ∷ ys) zero x e a =
      let same : y ≡ x = cc in
      subst (λ v. From k ns (expr_part v.expr)) same (from-apart (expr_part y.expr) (flat item_parts ys) a)
  from_nth {ns} k (y ∷ ys) (suc j) x e a =
      let b = both_true {a = fits (seat_at ns) k (expr_part y.expr)} a.chained in
      let f = from-apart (expr_part y.expr) (flat item_parts ys) a in
      let u = f.above in let v = f.first in
      from-down (omega arith) (from_nth (suc y.expr.0) ys j x e (record { chained = b.1 }))

  -- each of items that lie apart holds one of the nodes
  pub item_from : {ns : Nodes F C K fg cg kg} (xs ys : List (ExprOrSpread ExprId)) (j : ℕ) (d : ExprOrSpread ExprId)
      → xs ≡ ys → j < length xs → Apart 0 ns (flat item_parts ys) → From 0 ns (expr_part (get_or xs j d).expr)
  item_from {ns} xs ys j d same lt a =
      from_nth 0 xs j (get_or xs j d) (slice_get-get_or xs j d lt)
      (subst (λ v. Apart 0 ns (flat item_parts v)) (sym same) a)

-- ---- what is recorded and refused of them

module _ {S : Type 0} {model : Model S} where
  pub item_checked : {X : Type 0} (f : X → Bool) (xs : List X) (i : ℕ) (x : X) {b c d : Buffer S} → i < length xs
      → Checks model (all_pass f (take i xs)) b c → Checks model (f (get_or xs i x)) c d
      → Checks model (all_pass f (take (i + 1) xs)) b d
  item_checked f xs i x {b} {c} {d} lt h k =
      let P : Bool → Type 0 = λ v. Checks model v b d in
      subst P (sym (pass-more f xs i x lt)) (checks_and (all_pass f (take i xs)) (f (get_or xs i x)) h k)

module _ {S F C K X : Type 0} {model : Model S} (at : X → Tree F C K) where
  pub items_checked : (xs ys : List (ExprOrSpread X)) (i : ℕ) {b c : Buffer S} → xs ≡ ys → length xs ≤ i
      → Checks model (all_pass (whole_item at) (take i xs)) b c → Checks model (no_covers (item_trees at ys)) b c
  items_checked xs ys i {b} {c} same h k =
      let P : Bool → Type 0 = λ v. Checks model v b c in
      subst P (pass-all (whole_item at) xs i h ∙ ap (all_pass (whole_item at)) same ∙ sym (covers-are at ys)) k

  -- after all tests
  pub paren_checked : {T : Type 0} (p : Bool) (r : Result T Error) (comma : Option Span) (s : Span)
      (xs : List (ExprOrSpread X)) {b c d : Buffer S} (e : Buffer S) → 1 ≤ length xs
      → Checks model (p || no_covers (item_trees at xs)) b c → Checks model (not (is_some comma)) c d
      → OnOk r ((e ≡ d) × (no_spread (item_trees at xs) ≡ true))
      → OnOk r (Checks model (paren_ok p (listed comma s (item_trees at xs))) b e)
  paren_checked p (Ok u) comma s xs {b} {c} {d} e le h k o =
      let v = p || no_covers (item_trees at xs) in
      let w = v && not (is_some comma) in
      let P : Bool → Type 0 = λ v. Checks model v b e in
      let Q : Buffer S → Type 0 = λ v. Checks model w b v in
      subst P (paren_is at p comma s xs le o.1) (subst Q (sym o.0) (checks_and v (not (is_some comma)) h k))
  paren_checked p (Err x) comma s xs e le h k o = tt

  pub paren_refused : {T : Type 0} (p : Bool) (r : Result T Error) (comma : Option Span) (s : Span)
      (xs : List (ExprOrSpread X)) {b c d : Buffer S} (e : Buffer S)
      → Checks model (p || no_covers (item_trees at xs)) b c → Checks model (not (is_some comma)) c d
      → IfErr r (λ x. Refuses model d x e × (no_spread (item_trees at xs) ≡ false)) → IfErr r (λ x. Refuses model b x e
      × (x.kind ≢ OutOfMemory → paren_ok p (listed comma s (item_trees at xs)) ≡ false))
  paren_refused p (Ok u) comma s xs e h k o = tt
  paren_refused p (Err x) comma s xs e h k o =
      (refuses_later h.leads (refuses_later k.leads o.0), λ n. paren_spread at p comma s xs o.1)

-- ---- no `=>` after the list

module _ {S F C K : Type 0} {model : Model S} {sure : Bool} (q : Scope → List TokenAndSpan → Out (Tree F C K)) where
  pub free_on : {b c : Buffer S} → On model sure arrow_free (give tt) b c
      → On model sure (λ x ts. paren_closed (q x) ts) q b c
  free_on o = on_call (λ x p. q x p.1) (λ x ts. paren_closed_splits (q x) x ts) o

  pub not_free : {b c : Buffer S} {e : Error} → Unheard model sure arrow_free b e c
      → Unheard model sure (λ x ts. paren_closed (q x) ts) b e c
  not_free u = unheard_call (λ x p. q x p.1) (λ x ts. paren_closed_splits (q x) x ts) u
