-- From what the productions ensure to what callers are promised: the clean readers are the grammar's, both ways.
use Rattle.std.proofs.Common.{◌≡◌, ◌≢◌, ◌<◌, Bool, true, false, ◌&&◌, not, List, [], ◌∷◌, ◌++◌, Some, None, Result, Ok, Err, IfOk, length, refl, sym, ap, subst, ◌∙◌, ⊎_elim, arith, length-append}
use Rattle.std.proofs.lemmas.Bool.{cases_lt}
use Rattle.swc_context.specs.{declared.error.Error.Error, declared.error.SyntaxError.SyntaxError, declared.error.SyntaxError.TheVariants.OutOfMemory, declared.span.Span.Span}
use Rattle.swc_input.specs.Laws.{Known-after, Known-Future, Future-some}
use Rattle.swc_input.specs.{declared.buffer.Buffer.Buffer, declared.token.TokenAndSpan.TokenAndSpan, Source.Model, Source.Keeps, Buffer.Future, Buffer.Known}
use Rattle.swc_ast.specs.Trees.{is_grouped, are_grouped, grouped_at, is_valid, are_valid, is_invalid, unmarked, items_of}
use Rattle.swc_ast.specs.{declared.lit.Lit.Lit, Parts.lit_tree, Pedantic.privates_ok, Tree.Tree, Tree.node}
use Rattle.swc_bodies.specs.Readings.{Hook, LawfulHook}
use Rattle.swc_grammar.specs.Symbols.{Symbol, Expr, Assign, Level, Unary, Lhs, Key, Prop, Literal, Arguments, Template, Pat, Element}
use Rattle.swc_grammar.specs.Clean.{Out, sym as at, Stop, run}
use Rattle.swc_grammar.specs.{Scope.Scope, Words.◌>>=◌}
use Rattle.swc_grammar.specs.Reads as grammar
use Rattle.swc_grammar.proofs.Sound as clean
use Rattle.swc_grammar.proofs.Complete as clean_all
use Rattle.swc_grammar.proofs.Complete.{stops-expr, stops-assign, stops-level, stops-unary, stops-element}
use Rattle.swc_grammar.proofs.{Cut.cut-append, Good.grouped, Good.valid, Literals.literal-read, Marks.same-grouped, Marks.same-valid}
use Rattle.swc_laws.proofs.{PedanticTrees.privates-unmarked, Privates.privates}
use Rattle.swc_input.specs.Calls.{recorded, Loud}
use Rattle.swc_steps.specs.Parsing.{scope, Consumes, Heard, Parses, TookLiteral}
use Rattle.swc_ecma_parser.specs.Promise.{Derivation, Anywhere, EndsAt, Unmarred, Derives, DerivesOnly, Sound, Complete, OneTree, Grouped, Valid, PrivatesPlaced, PromisedLit, only_items, items_and_comma, ReadsAs}
use Rattle.swc_steps.proofs.{Hearing.same_faults, Steps.Reader, Steps.consumes_of}
use Rattle.swc_ecma_parser.proofs.Placed.{PrivatesLeft}

-- What a clean reader reads is derived, and then also from its own tokens alone.
pub record IsSound {A : Type 0} (derives : Derivation A) (f : Reader A) : Type 0 where
  pub sound : (c : Scope) (ts ys : List TokenAndSpan) (t : A) → f c ts ≡ Some (t, ys) → derives c ts ys t
  pub cut : (c : Scope) (own ys : List TokenAndSpan) (t : A) → derives c (own ++ ys) ys t → derives c own [] t

-- what a reading of a symbol does and answers, from one state of the buffer to another
pub record Meets {S F C K T : Type 0} (model : Model S) (sure : Bool) (derives : Derivation (Tree F C K))
    (view : T → Tree F C K) (s : Symbol) (b : Buffer S) (r : Result T Error) (c : Buffer S) : Type 0 where
  pub reads : Consumes model b r c
  pub sound : Sound model derives view b r c
  pub complete : sure ≡ true → Complete model derives view (EndsAt s) b r c
  pub one_tree : OneTree model derives view (EndsAt s) b r c
  pub grouped : Grouped model view b r c
  pub valid : Valid model view b r c
  pub privates : PrivatesPlaced model view b r c

-- It reads what is derived, up to where a reading may stop.
pub record IsComplete {A : Type 0} (derives : Derivation A) (stops : List TokenAndSpan → Type 0)
    (f : Reader A) : Type 0 where
  pub complete : (c : Scope) (ts ys : List TokenAndSpan) (t : A) → derives c ts ys t → stops ys → f c ts ≡ Some (t, ys)

pub parts : {A B : Type 0} (p q : A × B) → Some p ≡ Some q → (p.0 ≡ q.0) × (p.1 ≡ q.1)
parts p q h = let e : p ≡ q = cc in (ap (λ v. v.0) e, ap (λ v. v.1) e)

-- a reader without the marks of commas
abbrev pub bare : {F C K : Type 0} → Reader (Tree F C K) → Reader (Tree F C K)
bare f c ts = f c ts >>= (λ p. Some (unmarked p.0, p.1))

-- a reader, as `strip` leaves what it reads
abbrev pub stripped : {A : Type 0} → (A → A) → Reader A → Reader A
stripped strip f c ts = f c ts >>= (λ p. Some (strip p.0, p.1))

pub stripped_from : {A : Type 0} (strip : A → A) (o : Out A) (t : A) (ys : List TokenAndSpan)
    → (o >>= (λ p. Some (strip p.0, p.1))) ≡ Some (t, ys) → (m : A) × (o ≡ Some (m, ys)) × (strip m ≡ t)
stripped_from strip None t ys h = absurd cc
stripped_from strip (Some p) t ys h = let q = parts (strip p.0, p.1) (t, ys) h in
    (p.0, ap (λ v. Some (p.0, v)) q.1, q.0)

module _ {F C K : Type 0} {fun_at : F → Span} {class_at : C → Span} {block_at : K → Span} (hook : Hook F C K)
    (laws : LawfulHook fun_at class_at block_at hook) where
  pub is_sound : (s : Symbol) → IsSound (grammar.Reads hook s) (run hook (at s))
  is_sound s = record {
    sound = λ c ts ys t h. clean.sound hook laws s c ts (t, ys) h;
    cut =
        λ c own ys t d. cut-append own ys d;
  }

  pub is_sound_bare : (s : Symbol) → IsSound (grammar.ReadsUnmarked hook s) (bare (run hook (at s)))
  is_sound_bare s = record {
    sound = λ c ts ys t h. let (m, e, same) = stripped_from unmarked (run hook (at s) c ts) t ys h in
        record { marked = m; read = clean.sound hook laws s c ts (m, ys) e; same = same };
    cut = λ c own ys t d. record { marked = d.marked; read = cut-append own ys d.read; same = d.same };
  }

  pub is_sound_as : (strip : Tree F C K → Tree F C K) (s : Symbol)
      → IsSound (ReadsAs strip hook s) (stripped strip (run hook (at s)))
  is_sound_as strip s = record {
    sound = λ c ts ys t h. let (m, e, same) = stripped_from strip (run hook (at s) c ts) t ys h in
        record { marked = m; read = clean.sound hook laws s c ts (m, ys) e; same = same };
    cut = λ c own ys t d. record { marked = d.marked; read = cut-append own ys d.read; same = d.same };
  }

module _ {F C K : Type 0} (hook : Hook F C K) where
  pub is_complete : (s : Symbol) → ((c : Scope) (ys : List TokenAndSpan) → EndsAt s ys → Stop s c ys)
      → IsComplete (grammar.Reads hook s) (EndsAt s) (run hook (at s))
  is_complete s stop = record { complete = λ c ts ys t d e. clean_all.complete hook d (stop c ys e) }

  pub is_complete_bare : (s : Symbol) → ((c : Scope) (ys : List TokenAndSpan) → EndsAt s ys → Stop s c ys)
      → IsComplete (grammar.ReadsUnmarked hook s) (EndsAt s) (bare (run hook (at s)))
  is_complete_bare s stop = record {
    complete = λ c ts ys t d e.
        ap (λ o. o >>= (λ p. Some (unmarked p.0, p.1))) (clean_all.complete hook d.read (stop c ys e)) ∙ ap
        (λ v. Some (v, ys)) d.same;
  }

  pub is_complete_as : (strip : Tree F C K → Tree F C K) (s : Symbol)
      → ((c : Scope) (ys : List TokenAndSpan) → EndsAt s ys → Stop s c ys)
      → IsComplete (ReadsAs strip hook s) (EndsAt s) (stripped strip (run hook (at s)))
  is_complete_as strip s stop = record {
    complete = λ c ts ys t d e.
        ap (λ o. o >>= (λ p. Some (strip p.0, p.1))) (clean_all.complete hook d.read (stop c ys e)) ∙ ap
        (λ v. Some (v, ys)) d.same;
  }

-- what holds of each tree that is derived
pub record Well {F C K : Type 0} (derives : Derivation (Tree F C K)) : Type 0 where
  pub grouped : (c : Scope) (xs ys : List TokenAndSpan) (t : Tree F C K) → derives c xs ys t → is_grouped t ≡ true
  pub valid : (c : Scope) (xs ys : List TokenAndSpan) (t : Tree F C K) → derives c xs ys t → is_valid t ≡ true
  pub privates : (c : Scope) (xs ys : List TokenAndSpan) (t : Tree F C K) → derives c xs ys t → c.syntax.pedantic ≡ true
      → privates_ok false t ≡ true

pub right_of : (a b : Bool) → (a && b) ≡ true → b ≡ true
right_of true b h = h
right_of false b h = cc

-- what leaves trees grouped and valid
pub record Leaves {F C K : Type 0} (strip : Tree F C K → Tree F C K) : Type 0 where
  pub grouped : (t : Tree F C K) → is_grouped t ≡ true → is_grouped (strip t) ≡ true
  pub valid : (t : Tree F C K) → is_valid t ≡ true → is_valid (strip t) ≡ true

module _ {F C K : Type 0} where
  pub items_grouped : (t : Tree F C K) → is_grouped t ≡ true → are_grouped (items_of t) ≡ true
  items_grouped (node k s ts) h = right_of (grouped_at (node k s ts)) (are_grouped ts) h

  pub items_valid : (t : Tree F C K) → is_valid t ≡ true → are_valid (items_of t) ≡ true
  items_valid (node k s ts) h = right_of (not (is_invalid k)) (are_valid ts) h

  pub leaves-items : Leaves {F = F} {C = C} {K = K} only_items
  leaves-items = record {
    grouped = λ t h. items_grouped (unmarked t) (same-grouped t ∙ h);
    valid = λ t h. items_valid (unmarked t) (same-valid t ∙ h);
  }

  pub leaves-list : Leaves {F = F} {C = C} {K = K} items_and_comma
  leaves-list = record {
    grouped = λ t h. items_grouped (unmarked t) (same-grouped t ∙ h);
    valid = λ t h. items_valid (unmarked t) (same-valid t ∙ h);
  }

module _ {F C K : Type 0} (hook : Hook F C K) where
  pub well : (s : Symbol) → Well (grammar.Reads hook s)
  well s = record {
    grouped = λ c xs ys t d. grouped d;
    valid = λ c xs ys t d. valid d;
    privates = λ c xs ys t d y. privates d y;
  }

  pub well_bare : (s : Symbol) → Well (grammar.ReadsUnmarked hook s)
  well_bare s = record {
    grouped = λ c xs ys t d. ap (λ v. is_grouped v) (sym d.same) ∙ same-grouped d.marked ∙ grouped d.read;
    valid = λ c xs ys t d. ap (λ v. is_valid v) (sym d.same) ∙ same-valid d.marked ∙ valid d.read;
    privates = λ c xs ys t d y.
        ap (λ v. privates_ok false v) (sym d.same) ∙ privates-unmarked false d.marked ∙ privates d.read y;
  }

  pub well_as : {strip : Tree F C K → Tree F C K} → Leaves strip → (s : Symbol) → PrivatesLeft hook strip s
      → Well (ReadsAs strip hook s)
  well_as leaves s placed = record {
    grouped = λ c xs ys t d. ap (λ v. is_grouped v) (sym d.same) ∙ leaves.grouped d.marked (grouped d.read);
    valid = λ c xs ys t d. ap (λ v. is_valid v) (sym d.same) ∙ leaves.valid d.marked (valid d.read);
    privates = λ c xs ys t d y. ap (λ v. privates_ok false v) (sym d.same) ∙ placed c xs ys d.marked d.read y;
  }

pub as_many : {es fs : List Error} → Keeps es fs → (length es < length fs → ⊥) → length fs ≡ length es
as_many {es} {fs} h none =
    let a = ap length h.added in
    let l = length-append es h.more in
    ⊎_elim (λ lt. absurd (none lt)) (λ ge. omega arith) (cases_lt (length es) (length fs))

-- whether a kind is out of memory can be told
pub memory : (k : SyntaxError) → (k ≢ OutOfMemory → ⊥) → k ≡ OutOfMemory
memory OutOfMemory h = refl
memory k h = absurd (h (λ e. cc))

module _ {S T A : Type 0} (model : Model S) (sure : Bool) (derives : Derivation A) (view : T → A) (f : Reader A) where
  derived : IsSound derives f → (t : A) (b c : Buffer S) → Heard model sure f t b c → Loud model b → Unmarred model b c
      → Derives model derives view t b c
  derived is t b c h l same =
      let counted = ap length same in
      let front = λ (ys : List TokenAndSpan) (fut : Future model c ys).
      is.sound (scope model b) (h.on.leads.taken ++ ys) ys t (h.on.clean l counted ys fut) in
      let some = Future-some h.on.leads.laws c in
      record {
        consumed = h.on.leads.taken;
        read = h.on.leads.read;
        front = front;
        whole =
            is.cut (scope model b) h.on.leads.taken some.0 t (front some.0 some.1);
      }

  pub sound : IsSound derives f → (b : Buffer S) (r : Result T Error) (c : Buffer S) → Parses model sure view f b r c
      → Sound model derives view b r c
  sound is b (Ok x) c h = λ l same. derived is (view x) b c h l same
  sound is b (Err e) c h = λ l. tt

  -- what holds of all that is derived holds of the answer
  pub holds : IsSound derives f → (P : Scope → A → Type 0)
      → ((c : Scope) (xs ys : List TokenAndSpan) (t : A) → derives c xs ys t → P c t)
      → (b : Buffer S) (r : Result T Error) (c : Buffer S) → Parses model sure view f b r c →
      Loud model b → IfOk r (λ x. Unmarred model b c → P (scope model b) (view x))
  holds is P all b (Ok x) c h = λ l same. let d = derived is (view x) b c h l same in
      all (scope model b) d.consumed [] (view x) d.whole
  holds is P all b (Err e) c h = λ l. tt

  -- of a listed source: what f reads is answered
  answered : sure ≡ true → (x : T) (b c : Buffer S) (ts ys : List TokenAndSpan) (t : A)
      → Heard model sure f (view x) b c → Loud model b → Known model b ts → f (scope model b) ts ≡ Some (t, ys) →
      (view x ≡ t) × Known model c ys × Unmarred model b c
  answered y x b c ts ys t h l k e =
      let laws = h.on.leads.laws in
      let w = Known-after laws b c h.on.leads.taken ts h.on.leads.read.took k in
      let counted : recorded model c ≡ recorded model b =
      as_many h.on.leads.read.errors (λ lt. let f0 = h.on.faulty y l lt ts k in cc) in
      let got = h.on.clean l counted w.0 (Known-Future laws c w.0 w.1) in
      let q = parts (view x, w.0) (t, ys) (sym got ∙ ap (λ v. f (scope model b) v) (sym w.2) ∙ e) in
      (q.0, subst (λ v. Known model c v) q.1 w.1, same_faults h.on.leads.read.errors counted)

  pub complete : sure ≡ true → (stops : List TokenAndSpan → Type 0) → IsComplete derives stops f
      → (b : Buffer S) (r : Result T Error) (c : Buffer S) → Parses model sure view f b r c
      → Complete model derives view stops b r c
  complete y stops is b (Ok x) c h = λ l ts ys t k d e.
      answered y x b c ts ys t h l k (is.complete (scope model b) ts ys t d e)
  complete y stops is b (Err x) c u = λ l ts ys t k d e. memory x.kind (λ n. let f0 = u.none n y l ts k in
      let f1 = is.complete (scope model b) ts ys t d e in cc)

  -- what f reads is all that is derived
  only : IsSound derives f → (stops : List TokenAndSpan → Type 0) → IsComplete derives stops f
      → (x : T) (b c : Buffer S)
      → Heard model sure f (view x) b c → Loud model b → Unmarred model b c
      → DerivesOnly model derives view stops (view x) b c
  only is stops all x b c h l same =
      let here = scope model b in
      let d = derived is (view x) b c h l same in
      record {
        consumed = d.consumed;
        read = d.read;
        alone = λ stop u e.
            (parts (u, []) (view x, []) (sym (all.complete here d.consumed [] u e stop)
            ∙ all.complete here d.consumed [] (view x) d.whole stop)).0;
        before = λ ys fut stop u e.
            (parts (u, ys) (view x, ys)
            (sym (all.complete here (d.consumed ++ ys) ys u e stop) ∙ all.complete here (d.consumed ++ ys) ys (view x)
            (d.front ys fut) stop)).0;
      }

  pub one_tree : IsSound derives f → (stops : List TokenAndSpan → Type 0) → IsComplete derives stops f
      → (b : Buffer S) (r : Result T Error) (c : Buffer S)
      → Parses model sure view f b r c → OneTree model derives view stops b r c
  one_tree is stops all b (Ok x) c h = λ l same. only is stops all x b c h l same
  one_tree is stops all b (Err e) c h = λ l. tt

-- where the reading of a symbol may stop, the clean parser reads all that is derived
pub record Stopping (s : Symbol) : Type 0 where
  pub stop : (c : Scope) (ys : List TokenAndSpan) → EndsAt s ys → Stop s c ys

pub expr-stops : Stopping Expr
expr-stops = record { stop = λ c ys e. stops-expr c e }

pub assign-stops : Stopping Assign
assign-stops = record { stop = λ c ys e. stops-assign Assign c e }

pub level-stops : Stopping (Level 1)
level-stops = record { stop = λ c ys e. stops-level (Level 1) c e }

pub unary-stops : Stopping Unary
unary-stops = record { stop = λ c ys e. stops-unary Unary c e }

pub lhs-stops : {b : Bool} → Stopping (Lhs b)
lhs-stops = record { stop = λ c ys e. e }

pub key-stops : Stopping Key
key-stops = record { stop = λ c ys e. tt }

pub args-stops : {i : Bool} → Stopping (Arguments i)
args-stops = record { stop = λ c ys e. tt }

pub tpl-stops : {is_tagged : Bool} → Stopping (Template is_tagged)
tpl-stops = record { stop = λ c ys e. tt }

pub prop-stops : Stopping Prop
prop-stops = record { stop = λ c ys e. e }

pub pat-stops : Stopping Pat
pat-stops = record { stop = λ c ys e. tt }

pub element-stops : Stopping Element
element-stops = record { stop = λ c ys e. stops-element c e }

module _ {S F C K T : Type 0} (model : Model S) (sure : Bool) (hook : Hook F C K)
    {fun_at : F → Span} {class_at : C → Span} {block_at : K → Span} (laws : LawfulHook fun_at class_at block_at hook)
    (view : T → Tree F C K) where
  privates_of : (b c : Buffer S) (r : Result T Error) → (scope model b).syntax.pedantic ≡ true
      → IfOk r (λ x. Unmarred model b c → (scope model b).syntax.pedantic ≡ true → privates_ok false (view x) ≡ true)
      → IfOk r (λ x. Unmarred model b c → privates_ok false (view x) ≡ true)
  privates_of b c (Ok x) y h = λ same. h same y
  privates_of b c (Err e) y h = tt

  pub meets : (s : Symbol) (derives : Derivation (Tree F C K)) (f : Reader (Tree F C K)) → IsSound derives f
      → IsComplete derives (EndsAt s) f → Well derives →
      (b : Buffer S) (r : Result T Error) (c : Buffer S) → Parses model sure view f b r c
      → Meets model sure derives view s b r c
  meets s derives f is_sound is_complete all b r c h = record {
    reads = consumes_of model sure view f b c r h;
    sound = sound model sure derives view f is_sound b r c h;
    complete = λ y. complete model sure derives view f y (EndsAt s) is_complete b r c h;
    one_tree = one_tree model sure derives view f is_sound (EndsAt s) is_complete b r c h;
    grouped = holds model sure derives view f is_sound (λ k t. is_grouped t ≡ true) all.grouped b r c h;
    valid = holds model sure derives view f is_sound (λ k t. is_valid t ≡ true) all.valid b r c h;
    privates = λ l y. privates_of b c r y (holds model sure derives view f is_sound
        (λ k t. k.syntax.pedantic ≡ true → privates_ok false t ≡ true) all.privates b r c h l);
  }

  -- of a node, and of a tree in boxes
  pub meets-by-number : {s : Symbol} → Stopping s → (b : Buffer S) (r : Result T Error) (c : Buffer S)
      → Parses model sure view (run hook (at s)) b r c → Meets model sure (grammar.Reads hook s) view s b r c
  meets-by-number {s} stops = meets s (grammar.Reads hook s) (run hook (at s)) (is_sound hook laws s)
      (is_complete hook s stops.stop) (well hook s)

  pub meets-in-boxes : {s : Symbol} → Stopping s → (b : Buffer S) (r : Result T Error) (c : Buffer S)
      → Parses model sure view (bare (run hook (at s))) b r c
      → Meets model sure (grammar.ReadsUnmarked hook s) view s b r c
  meets-in-boxes {s} stops =
      meets s (grammar.ReadsUnmarked hook s) (bare (run hook (at s))) (is_sound_bare hook laws s)
      (is_complete_bare hook s stops.stop) (well_bare hook s)

  -- of a list in boxes, as `strip` leaves it
  pub meets-as : {strip : Tree F C K → Tree F C K} → Leaves strip → {s : Symbol} → PrivatesLeft hook strip s
      → Stopping s
      → (b : Buffer S) (r : Result T Error) (c : Buffer S)
      → Parses model sure view (stripped strip (run hook (at s))) b r c
      → Meets model sure (ReadsAs strip hook s) view s b r c
  meets-as {strip} leaves {s} placed stops =
      meets s (ReadsAs strip hook s) (stripped strip (run hook (at s))) (is_sound_as hook laws strip s)
      (is_complete_as hook strip s stops.stop) (well_as hook leaves s placed)

-- a call on a literal
module _ {S F C K : Type 0} (model : Model S) (hook : Hook F C K) where
  literal-derives : (t : Tree F C K) (b c : Buffer S) → TookLiteral model t b c
      → Derives model (grammar.Reads hook Literal) lit_tree t b c
  literal-derives t b c h = record {
    consumed = h.token ∷ [];
    read = h.read;
    front = λ ys fut. literal-read h.token ys t h.literal;
    whole = literal-read h.token [] t h.literal;
  }

  literal-sound : (b : Buffer S) (r : Result Lit Error) (c : Buffer S)
      → IfOk r (λ l. TookLiteral model {F = F} {C = C} {K = K} (lit_tree l) b c)
      → IfOk r (λ l. Derives model (grammar.Reads hook Literal) lit_tree (lit_tree l) b c)
  literal-sound b (Ok l) c h = literal-derives (lit_tree l) b c h
  literal-sound b (Err e) c h = tt

  pub literal-meets : (b : Buffer S) (r : Result Lit Error) (c : Buffer S)
      → Parses model true lit_tree (run hook (at Literal)) b r c
      → IfOk r (λ l. TookLiteral model {F = F} {C = C} {K = K} (lit_tree l) b c) → PromisedLit model hook b r c
  literal-meets b r c h took = record {
    reads = consumes_of model true lit_tree (run hook (at Literal)) b c r h;
    sound = literal-sound b r c took;
    complete = complete model true (grammar.Reads hook Literal) lit_tree (run hook (at Literal)) refl Anywhere
        (record { complete = λ x ts ys t d e. clean_all.complete hook d tt }) b r c h;
  }
