-- Readings that are finished: no cover name is left in what they give, where the syntax is pedantic. From an answer
-- that was looked through for such names to what is promised of it.
use Rattle.std.proofs.Common.{◌≡◌, ◌≢◌, ℕ, Bool, true, false, not, ◌||◌, if◌then◌else◌, List, [], ◌∷◌, Some, None, Result, Ok, Err, IfOk, OnOk, MatchResult, refl, sym, ap, subst, ◌∙◌}
use Rattle.swc_context.specs.{declared.error.Error.Error, declared.error.SyntaxError.TheVariants.OutOfMemory, declared.span.Span.Span}
use Rattle.swc_input.specs.{Buffer.last_position, Recording.no_memory, Source.Model, declared.buffer.Buffer.Buffer, declared.token.TokenAndSpan.TokenAndSpan}
use Rattle.swc_ast.specs.{Parts.args_tree, Pedantic.no_cover_left, Tree.Tree, Trees.unmarked, declared.expr.ExprOrSpread.ExprOrSpread, declared.spanned.Spanned.Ghosts}
use Rattle.swc_bodies.specs.Readings.{Hook, LawfulHook}
use Rattle.swc_grammar.specs.Clean.{Out, sym as at, run}
use Rattle.swc_grammar.specs.{Scope.Scope, Symbols.Symbol, Words.◌>>=◌}
use Rattle.swc_grammar.specs.Reads as grammar
use Rattle.swc_nodes.specs.Commas.{commas_in, part_commas, Recalls}
use Rattle.swc_nodes.specs.NodeParts.{Part, args_parts, one_expr}
use Rattle.swc_nodes.specs.{GrowingNodes.tree_at, declared.commas.TrailingCommas.TrailingCommas, declared.node.ExprId.ExprId, declared.nodes.Nodes.Nodes}
use Rattle.swc_laws.proofs.PedanticTrees.{covers-unmarked}
use Rattle.swc_ecma_parser.specs.CoverNames.{covers_left, parts_covers_left}
use Rattle.swc_ecma_parser.proofs.Left.{args-left, expr-left, none-has, nowhere}
use Rattle.swc_steps.specs.declared.tokens.Listed.{Listed}
use Rattle.swc_steps.specs.Parsing.{scope, args_at, tree_of, Heard, Parses, Unheard}
use Rattle.swc_steps.proofs.Steps.{Reader, give, forgoes_later, heard_more, on_checked_in, unheard_call, unheard_memory}
use Rattle.swc_ecma_parser.specs.Finishing.{no_places, parts_done, ChecksAnswer}
use Rattle.swc_ecma_parser.specs.Promise.{Derivation, EndsAt, Finished, ReadsAs, RemembersAll, covers_done, only_items}
use Rattle.swc_ecma_parser.proofs.Top.{IsSound, IsComplete, Leaves, Meets, Stopping, Well, bare, stripped, is_complete, is_complete_as, is_complete_bare, is_sound, is_sound_as, is_sound_bare, meets, well, well_as, well_bare}
use Rattle.swc_ecma_parser.proofs.{Moving.recalled-by, Placed.PrivatesLeft}

-- ---- readers

-- a reader of what is finished, as `done` has it
abbrev pub finished : {A : Type 0} → (Scope → A → Bool) → Reader A → Reader A
finished done f c ts = f c ts >>= (λ p. if done c p.0 then Some p else None)

module _ {A : Type 0} where
  by_done : (b : Bool) (p q : A × List TokenAndSpan) → (if b then Some p else None) ≡ Some q → (p ≡ q) × (b ≡ true)
  by_done true p q h = let e : p ≡ q = cc in (e, refl)
  by_done false p q h = absurd cc

  pub finished-from : (done : A → Bool) (o : Out A) (t : A) (ys : List TokenAndSpan)
      → (o >>= (λ p. if done p.0 then Some p else None)) ≡ Some (t, ys) → (o ≡ Some (t, ys)) × (done t ≡ true)
  finished-from done None t ys h = absurd cc
  finished-from done (Some p) t ys h =
      let e = by_done (done p.0) p (t, ys) h in (ap (λ v. Some v) e.0, ap (λ v. done v.0) (sym e.0) ∙ e.1)

  pub finished-into : (done : A → Bool) (o : Out A) (t : A) (ys : List TokenAndSpan) → o ≡ Some (t, ys) → done t ≡ true
      → (o >>= (λ p. if done p.0 then Some p else None)) ≡ Some (t, ys)
  finished-into done o t ys h w =
      ap (λ v. v >>= (λ p. if done p.0 then Some p else None)) h ∙ ap (λ b. if b then Some (t, ys) else None) w

  strip_by : (strip : A → A) (b : Bool) (p : A × List TokenAndSpan)
      → ((if b then Some p else None) >>= (λ q. Some (strip q.0, q.1))) ≡ (if b then Some (strip p.0, p.1) else None)
  strip_by strip true p = refl
  strip_by strip false p = refl

  -- what is left of a finished reading is finished
  strip_behind : (strip : A → A) (done : A → Bool) (o : Out A)
      → ((o >>= (λ p. if done (strip p.0) then Some p else None)) >>= (λ p. Some (strip p.0, p.1)))
      ≡ ((o >>= (λ p. Some (strip p.0, p.1))) >>= (λ p. if done p.0 then Some p else None))
  strip_behind strip done None = refl
  strip_behind strip done (Some p) = strip_by strip (done (strip p.0)) p

-- ---- what they read

module _ {A : Type 0} {derives : Derivation A} {f : Reader A} (done : Scope → A → Bool) where
  pub finished-sound : IsSound derives f → IsSound (Finished done derives) (finished done f)
  finished-sound is = record {
    sound = λ c ts ys t h.
        let e = finished-from (done c) (f c ts) t ys h in record { read = is.sound c ts ys t e.0; covers = e.1 };
    cut = λ c own ys t d. record { read = is.cut c own ys t d.read; covers = d.covers };
  }

  -- it is derived, finished or not
  pub finished-derives : IsSound derives f → IsSound derives (finished done f)
  finished-derives is = record {
    sound = λ c ts ys t h. is.sound c ts ys t (finished-from (done c) (f c ts) t ys h).0;
    cut = is.cut;
  }

  pub finished-complete : {stops : List TokenAndSpan → Type 0} → IsComplete derives stops f
      → IsComplete (Finished done derives) stops (finished done f)
  finished-complete is = record {
    complete = λ c ts ys t d e. finished-into (done c) (f c ts) t ys (is.complete c ts ys t d.read e) d.covers;
  }

module _ {F C K : Type 0} {derives : Derivation (Tree F C K)} where
  pub finished-well : (done : Scope → Tree F C K → Bool) → Well derives → Well (Finished done derives)
  finished-well done all = record {
    grouped = λ c xs ys t d. all.grouped c xs ys t d.read;
    valid = λ c xs ys t d. all.valid c xs ys t d.read;
    privates = λ c xs ys t d y. all.privates c xs ys t d.read y;
  }

module _ {A : Type 0} {derives : Derivation A} {f g : Reader A}
    (same : (c : Scope) (ts : List TokenAndSpan) → g c ts ≡ f c ts) where
  sound_along : IsSound derives f → IsSound derives g
  sound_along is = record { sound = λ c ts ys t h. is.sound c ts ys t (sym (same c ts) ∙ h); cut = is.cut }

  complete_along : {stops : List TokenAndSpan → Type 0} → IsComplete derives stops f → IsComplete derives stops g
  complete_along is = record { complete = λ c ts ys t d e. same c ts ∙ is.complete c ts ys t d e }

-- a reader of trees in which no cover name is left, once they are as `strip` leaves them
abbrev pub checked : {F C K : Type 0} → (Tree F C K → Tree F C K) → Reader (Tree F C K) → Reader (Tree F C K)
checked strip f = finished (λ c t. covers_done c (strip t)) f

module _ {F C K : Type 0} (strip : Tree F C K → Tree F C K) (f : Reader (Tree F C K)) where
  strip_checked : (c : Scope) (ts : List TokenAndSpan)
      → stripped strip (checked strip f) c ts ≡ finished covers_done (stripped strip f) c ts
  strip_checked c ts = strip_behind strip (covers_done c) (f c ts)

  checked-sound : {derives : Derivation (Tree F C K)} → IsSound derives (stripped strip f)
      → IsSound (Finished covers_done derives) (stripped strip (checked strip f))
  checked-sound is = sound_along strip_checked (finished-sound covers_done is)

  pub checked-complete : {derives : Derivation (Tree F C K)} {stops : List TokenAndSpan → Type 0}
      → IsComplete derives stops (stripped strip f) → IsComplete (Finished covers_done derives) stops
      (stripped strip (checked strip f))
  checked-complete is = complete_along strip_checked (finished-complete covers_done is)

module _ {S F C K T : Type 0} (model : Model S) (sure : Bool) (hook : Hook F C K)
    {fun_at : F → Span} {class_at : C → Span} {block_at : K → Span} (laws : LawfulHook fun_at class_at block_at hook)
    (view : T → Tree F C K) where
  -- what is left of what was looked through
  pub meets-checked : (strip : Tree F C K → Tree F C K) (s : Symbol) (derives : Derivation (Tree F C K))
      (f : Reader (Tree F C K))
      → IsSound derives (stripped strip f) → IsComplete derives (EndsAt s) (stripped strip f) → Well derives
      → (b : Buffer S) (r : Result T Error) (c : Buffer S)
      → Parses model sure view (stripped strip (checked strip f)) b r c
      → Meets model sure (Finished covers_done derives) view s b r c
  meets-checked strip s derives f sounds completes wells =
      meets model sure hook laws view s (Finished covers_done derives) (stripped strip (checked strip f))
      (checked-sound strip f sounds) (checked-complete strip f completes) (finished-well covers_done wells)

  -- of a tree in boxes, and of a list in boxes, as `strip` leaves it
  pub meets-boxes-checked : {s : Symbol} → Stopping s → (b : Buffer S) (r : Result T Error) (c : Buffer S)
      → Parses model sure view (bare (checked unmarked (run hook (at s)))) b r c
      → Meets model sure (Finished covers_done (grammar.ReadsUnmarked hook s)) view s b r c
  meets-boxes-checked {s} stops =
      meets-checked unmarked s (grammar.ReadsUnmarked hook s) (run hook (at s)) (is_sound_bare hook laws s)
      (is_complete_bare hook s stops.stop) (well_bare hook s)

  pub meets-as-checked : {strip : Tree F C K → Tree F C K} → Leaves strip → {s : Symbol} → PrivatesLeft hook strip s
      → Stopping s
      → (b : Buffer S) (r : Result T Error) (c : Buffer S)
      → Parses model sure view (stripped strip (checked strip (run hook (at s)))) b r c
      → Meets model sure (Finished covers_done (ReadsAs strip hook s)) view s b r c
  meets-as-checked {strip} leaves {s} placed stops =
      meets-checked strip s (ReadsAs strip hook s) (run hook (at s)) (is_sound_as hook laws strip s)
      (is_complete_as hook strip s stops.stop) (well_as hook leaves s placed)

  -- of a node
  pub meets-number-checked : {s : Symbol} → Stopping s → (b : Buffer S) (r : Result T Error) (c : Buffer S)
      → Parses model sure view (checked (λ t. t) (run hook (at s))) b r c
      → Meets model sure (Finished covers_done (grammar.Reads hook s)) view s b r c
  meets-number-checked {s} stops =
      meets model sure hook laws view s (Finished covers_done (grammar.Reads hook s))
      (checked (λ t. t) (run hook (at s)))
      (finished-sound covers_done (is_sound hook laws s))
      (finished-complete covers_done (is_complete hook s stops.stop))
      (finished-well covers_done (well hook s))

module _ {S F C K X T : Type 0} {fg : Ghosts F} {cg : Ghosts C} {kg : Ghosts K} (model : Model S) (sure : Bool)
    (hook : Hook F C K)
    (laws : LawfulHook fg.place cg.place kg.place hook) (s : Symbol) where
  -- the commas that were remembered are those of what is derived, finished or not
  pub recalled-checked : (strip : Tree F C K → Tree F C K) (ns : Nodes F C K fg cg kg) (by : X → Tree F C K)
      (bare_by : X → Tree F C K)
      (view : T → Tree F C K) (parts : X → List Part)
      → (b c : Buffer S) (answer : Result X Error) (r : Result T Error) (old new : TrailingCommas)
      → Parses model sure by (checked strip (run hook (at s))) b answer c
      → ((x : X) → strip (by x) ≡ bare_by x) → ((x : X) → commas_in (by x) ≡ part_commas (tree_at ns) (parts x))
      → MatchResult answer (λ x. MatchResult r (λ t. view t ≡ bare_by x) (λ e. e ≡ no_memory (last_position c)))
      (λ e. r ≡ Err e)
      → MatchResult answer (λ x. OnOk r (Recalls (part_commas (tree_at ns) (parts x)) old new)) (λ e. new ≡ old)
      → MatchResult r (λ t. RemembersAll model (grammar.Reads hook s) strip (view t) b c old new)
      (λ e. e.kind ≢ OutOfMemory → new ≡ old)
  recalled-checked strip =
      recalled-by model sure (grammar.Reads hook s) (checked strip (run hook (at s)))
      (finished-derives (λ c t. covers_done c (strip t)) (is_sound hook laws s)) strip

-- ---- the look through an answer

module _ {S A X : Type 0} (model : Model S) (sure : Bool) (done : Scope → A → Bool) (f : Reader A) (by : X → A)
    (well : X → Bool) where
  pub finished-parses : (b c d : Buffer S) (answer r : Result X Error) → Parses model sure by f b answer c
      → ChecksAnswer model well c answer r d → ((x : X) → well x ≡ done (scope model c) (by x))
      → Parses model sure by (finished done f) b r d
  finished-parses b c d (Ok x) (Ok y) h (same, checks) fits =
      subst (λ v. Heard model sure (finished done f) (by v) b d) (sym same)
      (heard_more (λ k p. if done k p.0 then Some p else None) (λ k ts. refl) h
      (on_checked_in {f = λ k ts. if done k (by x) then Some (by x, ts) else None} {g = give (by x)}
      (well x) checks.checks
      (λ ts w. ap (λ v. if v then Some (by x, ts) else None) (sym (fits x) ∙ w))
      (λ ts w. ap (λ v. if v then Some (by x, ts) else None) (sym (fits x) ∙ w))))
  finished-parses b c d (Ok x) (Err e) h forgoes fits = unheard_memory (forgoes_later h.on.leads forgoes)
  finished-parses b c d (Err e) (Ok y) h (same, stays) fits = absurd cc
  finished-parses b c d (Err e) (Err x) u (same, stays) fits =
      let same : x ≡ e = cc in
      subst (λ v. Unheard model sure (finished done f) b v d) (sym same)
      (subst (λ v. Unheard model sure (finished done f) b e v) (sym stays)
      (unheard_call (λ k p. if done k p.0 then Some p else None) (λ k ts. refl) u))

module _ {S X : Type 0} (model : Model S) (well : X → Bool) (b c : Buffer S) where
  -- what holds of an answer holds of what is left of it
  pub checked-holds : (P : X → Type 0) (answer r : Result X Error) → ChecksAnswer model well b answer r c
      → IfOk answer P → IfOk r P
  checked-holds P (Ok x) (Ok y) h p = subst P (sym h.0) p
  checked-holds P answer (Err e) h p = tt
  checked-holds P (Err e) (Ok y) h p = let e = h.0 in absurd cc

-- ---- whether cover names are left

module _ {F C K : Type 0} where
  none_told : (t : Tree F C K) (ss : List Span) → covers_left t ≡ ss → no_places ss ≡ no_cover_left t
  none_told t [] e = sym (none-has t e)
  none_told t (s ∷ ss) e = by_left (no_cover_left t) refl
    where
      by_left : (b : Bool) → no_cover_left t ≡ b → no_places (s ∷ ss) ≡ no_cover_left t
      by_left true h = let n = nowhere t h in absurd cc
      by_left false h = sym h

  pub parts-told : (c : Scope) (tree : ℕ → Tree F C K) (ps : List Part) (t : Tree F C K)
      → covers_left t ≡ parts_covers_left tree ps
      → parts_done c tree ps ≡ covers_done c t
  parts-told c tree ps t e = ap (λ b. not c.syntax.pedantic || b) (none_told t (parts_covers_left tree ps) e)

  -- also without the marks of commas
  pub parts-told-bare : (c : Scope) (tree : ℕ → Tree F C K) (ps : List Part) (t : Tree F C K)
      → covers_left t ≡ parts_covers_left tree ps
      → parts_done c tree ps ≡ covers_done c (unmarked t)
  parts-told-bare c tree ps t e = parts-told c tree ps t e ∙ ap (λ b. not c.syntax.pedantic || b)
      (sym (covers-unmarked t))

module _ {S F C K : Type 0} {fg : Ghosts F} {cg : Ghosts C} {kg : Ghosts K} (model : Model S) (sure : Bool)
    (f : Reader (Tree F C K))
    (ns : Nodes F C K fg cg kg) (b c d : Buffer S) where
  -- of the tree of an expression whose number is answered, in boxes
  pub expr-boxes-checked : (answer r : Result ExprId Error) → Parses model sure (tree_of ns) f b answer c
      → ChecksAnswer model (λ e. parts_done (scope model c) (tree_at ns) (one_expr e)) c answer r d
      → Parses model sure (tree_of ns) (checked unmarked f) b r d
  expr-boxes-checked answer r h checks =
      finished-parses model sure (λ k t. covers_done k (unmarked t)) f (tree_of ns) _ b c d answer r h checks
      (λ e. parts-told-bare (scope model c) (tree_at ns) (one_expr e) (tree_of ns e) (expr-left (tree_at ns) e))

  -- and of arguments, of which the items alone are left
  pub args-checked : (answer r : Result (Listed (ExprOrSpread ExprId)) Error)
      → Parses model sure (args_at ns) f b answer c
      → ChecksAnswer model (λ l. parts_done (scope model c) (tree_at ns) (args_parts l.items)) c answer r d
      → Parses model sure (args_at ns) (checked only_items f) b r d
  args-checked answer r h checks =
      finished-parses model sure (λ k t. covers_done k (only_items t)) f (args_at ns) _ b c d answer r h checks
      (λ l. parts-told-bare (scope model c) (tree_at ns) (args_parts l.items)
      (args_tree (λ (e : ExprId). tree_at ns e.0) l.items)
      (args-left (tree_at ns) l.items))
