-- A walk over scopes finds nothing wrong if and only if they meet the rules.
use Rattle.std.proofs.Common.{◌≡◌, ◌↔◌, ℕ, Bool, true, false, List, [], ◌∷◌, ◌++◌, refl, sym, ap, subst, ◌∙◌}
use Rattle.std.specs.Prelude.{if◌then◌else◌, ◌&&◌, Option, Some, None}
use Rattle.std.specs.Option.{option_or}
use Rattle.std.specs.Str.{bytes_eq}
use Rattle.std.proofs.lemmas.Option.{none-some}
use Rattle.swc_context.specs.declared.span.Span.{Span}
use Rattle.program_scopes.specs.declared.names.Lexical.{Lexical}
use Rattle.program_scopes.specs.declared.names.Lexical.TheVariants.{Plain, SloppyFunction, CatchName}
use Rattle.program_scopes.specs.Layers.{last}
use Rattle.program_scopes.specs.Scopes.{Scope, Declared, excludes, blocks_var, excluding, blocking, var_beside, against_in_block, against_var, begun, ended, in_block, as_var}
use Rattle.program_scopes.specs.Scopes as scopes
use Rattle.program_scopes.specs.Trees.{Tree, nothing, lexical, var, block, function, lexically_declared, var_declared, AllOf, AreCompatible, AllowsVar, AreDistinct, AllWithin, MeetsRules, after, Passes}
use Rattle.program_scopes.proofs.Bytes.{bytes-sym}

-- ---- both ways

both : {A B C D : Type 0} → A ↔ B → C ↔ D → (A × C) ↔ (B × D)
both p q = ((λ x. (p.0 x.0, q.0 x.1)), λ x. (p.1 x.0, q.1 x.1))

chain : {A B C : Type 0} → A ↔ B → B ↔ C → A ↔ C
chain p q = ((λ x. q.0 (p.0 x)), λ x. p.1 (q.1 x))

same : {A B : Type 0} → A ≡ B → A ↔ B
same e = ((λ x. subst (λ T. T) e x), λ x. subst (λ T. T) (sym e) x)

module _ {A : Type 0} where
  each : {P Q : A → Type 0} (xs : List A) → ((x : A) → P x ↔ Q x) → AllOf P xs ↔ AllOf Q xs
  each [] f = ((λ x. x), λ x. x)
  each (x ∷ xs) f = both (f x) (each xs f)

  each-both : (P Q : A → Type 0) (xs : List A) → AllOf (λ x. P x × Q x) xs ↔ (AllOf P xs × AllOf Q xs)
  each-both P Q [] = ((λ x. (x, x)), λ x. x.0)
  each-both P Q (x ∷ xs) =
      let rest = each-both P Q xs in
      ((λ y. let r = rest.0 y.1 in ((y.0.0, r.0), (y.0.1, r.1))), λ y. ((y.0.0, y.1.0), rest.1 (y.0.1, y.1.1)))

  each-append : (P : A → Type 0) (xs ys : List A) → AllOf P (xs ++ ys) ↔ (AllOf P xs × AllOf P ys)
  each-append P [] ys = ((λ x. (tt, x)), λ x. x.1)
  each-append P (x ∷ xs) ys =
      let rest = each-append P xs ys in
      ((λ y. let r = rest.0 y.1 in ((y.0, r.0), r.1)), λ y. (y.0.0, rest.1 (y.0.1, y.1)))

  trivial : {P : A → Type 0} (xs : List A) → ((x : A) → P x) → AllOf P xs
  trivial [] f = tt
  trivial (x ∷ xs) f = (f x, trivial xs f)

-- ---- what is looked up

or-none : {A : Type 0} (o p : Option A) → (option_or o p ≡ None) ↔ ((o ≡ None) × (p ≡ None))
or-none None p = ((λ e. (refl, e)), λ e. e.1)
or-none (Some x) p = ((λ e. absurd (none-some x (sym e))), λ e. absurd (none-some x (sym e.0)))

if-none : {A : Type 0} (b : Bool) (x : A) (o : Option A) → ((if b then Some x else o) ≡ None) ↔ ((b ≡ false) × (o ≡ None))
if-none true x o = ((λ e. absurd (none-some x (sym e))), λ e. let no = e.0 in let bad : ⊥ = cc in absurd bad)
if-none false x o = ((λ e. (refl, e)), λ e. e.1)

excludes-sym : (j k : Lexical) → excludes j k ≡ excludes k j
excludes-sym Plain Plain = refl
excludes-sym Plain SloppyFunction = refl
excludes-sym Plain CatchName = refl
excludes-sym SloppyFunction Plain = refl
excludes-sym SloppyFunction SloppyFunction = refl
excludes-sym SloppyFunction CatchName = refl
excludes-sym CatchName Plain = refl
excludes-sym CatchName SloppyFunction = refl
excludes-sym CatchName CatchName = refl

turn : (d e : Declared) → AreCompatible d e ↔ AreCompatible e d
turn d e =
    let is : (bytes_eq d.name e.name && excludes d.kind e.kind) ≡ (bytes_eq e.name d.name && excludes e.kind d.kind)
    = ap (λ b. b && excludes d.kind e.kind) (bytes-sym d.name e.name) ∙ ap (λ b. bytes_eq e.name d.name && b) (excludes-sym d.kind e.kind) in
    ((λ x. sym is ∙ x), λ x. is ∙ x)

more-excluding : (e d : Declared) (ds : List Declared) → (excluding e.kind e.name (d ∷ ds) ≡ None) ↔ (AreCompatible e d × (excluding e.kind e.name ds ≡ None))
unfolding excluding
more-excluding e d ds = if-none (bytes_eq e.name d.name && excludes e.kind d.kind) d.place (excluding e.kind e.name ds)

more-blocking : (q : List ℕ) (d : Declared) (ds : List Declared) → (blocking q (d ∷ ds) ≡ None) ↔ (AllowsVar d q × (blocking q ds ≡ None))
unfolding blocking
more-blocking q d ds = if-none (bytes_eq q d.name && blocks_var d.kind) d.place (blocking q ds)

-- a declaration has no `var` beside it
Beside : Declared → List (List ℕ × Span) → Type 0
Beside d vs = var_beside d.kind (last d.name vs) ≡ None

beside-none : (d : Declared) → Beside d []
unfolding Beside last
beside-none d = by d.kind
  where
    by : (k : Lexical) → var_beside k None ≡ None
    by Plain = refl
    by SloppyFunction = refl
    by CatchName = refl

beside-more : (d : Declared) (q : List ℕ) (p : Span) (vs : List (List ℕ × Span)) → Beside d ((q, p) ∷ vs) ↔ (AllowsVar d q × Beside d vs)
unfolding Beside last
beside-more d q p vs = by d.kind
  where
    flip : bytes_eq d.name q ≡ bytes_eq q d.name
    flip = bytes-sym d.name q

    falls : (b : Bool) → (b && false) ≡ false
    falls true = refl
    falls false = refl

    holds : (b : Bool) → (b && true) ≡ b
    holds true = refl
    holds false = refl

    seen : ((if bytes_eq d.name q then Some p else last d.name vs) ≡ None) ↔ (((bytes_eq q d.name && true) ≡ false) × (last d.name vs ≡ None))
    seen =
        let one = if-none (bytes_eq d.name q) p (last d.name vs) in
        ((λ e. let r = one.0 e in (holds (bytes_eq q d.name) ∙ sym flip ∙ r.0, r.1)), λ e. one.1 (flip ∙ sym (holds (bytes_eq q d.name)) ∙ e.0, e.1))

    by : (k : Lexical) → (var_beside k (if bytes_eq d.name q then Some p else last d.name vs) ≡ None) ↔ (((bytes_eq q d.name && blocks_var k) ≡ false) × (var_beside k (last d.name vs) ≡ None))
    by Plain = seen
    by SloppyFunction = seen
    by CatchName = ((λ e. (falls (bytes_eq q d.name), refl)), λ e. refl)

beside-append : (d : Declared) (xs vs : List (List ℕ × Span)) → Beside d (xs ++ vs) ↔ (Beside d xs × Beside d vs)
beside-append d [] vs = ((λ x. (beside-none d, x)), λ x. x.1)
beside-append d (x ∷ xs) vs =
    let front = beside-more d x.0 x.1 (xs ++ vs) in let own = beside-more d x.0 x.1 xs in let rest = beside-append d xs vs in
    ((λ y. let r = front.0 y in let s = rest.0 r.1 in (own.1 (r.0, s.0), s.1)), λ y. let r = own.0 y.0 in front.1 (r.0, rest.1 (r.1, y.1)))

-- ---- what a tree leaves of a scope

lex-onto : Tree → List Declared → List Declared
lex-onto nothing ds = ds
lex-onto (lexical d t) ds = lex-onto t (d ∷ ds)
lex-onto (var q p t) ds = lex-onto t ds
lex-onto (block b t) ds = lex-onto t ds
lex-onto (function f t) ds = lex-onto t ds

vars-onto : Tree → List (List ℕ × Span) → List (List ℕ × Span)
vars-onto nothing vs = vs
vars-onto (lexical d t) vs = vars-onto t vs
vars-onto (var q p t) vs = vars-onto t ((q, p) ∷ vs)
vars-onto (block b t) vs = vars-onto t (vars-onto b [] ++ vs)
vars-onto (function f t) vs = vars-onto t vs

abbrev with-vars : List (List ℕ × Span) → Scope → Scope
with-vars vs s = record { is_function = s.is_function; lexical = s.lexical; vars = vs }

abbrev with-lexical : Declared → Scope → Scope
with-lexical d s = record { is_function = s.is_function; lexical = d ∷ s.lexical; vars = s.vars }

abbrev grown : Tree → Scope → Scope
grown t s = record { is_function = s.is_function; lexical = lex-onto t s.lexical; vars = vars-onto t s.vars }

after-grown : (t : Tree) (s : Scope) (ss : List Scope) → after t (s ∷ ss) ≡ grown t s ∷ ss
unfolding after lex-onto vars-onto
after-grown nothing s ss = refl
after-grown (lexical d t) s ss = after-grown t (with-lexical d s) ss
after-grown (var q p t) s ss = after-grown t (with-vars ((q, p) ∷ s.vars) s) ss
after-grown (block b t) s ss =
    ap (λ os. after t (ended os)) (after-grown b (scopes.nothing false) (s ∷ ss))
    ∙ after-grown t (with-vars (vars-onto b [] ++ s.vars) s) ss
after-grown (function f t) s ss =
    ap (λ os. after t (ended os)) (after-grown f (scopes.nothing true) (s ∷ ss)) ∙ after-grown t s ss

block-ends : (b : Tree) (s : Scope) (ss : List Scope) → ended (after b (begun false (s ∷ ss))) ≡ with-vars (vars-onto b [] ++ s.vars) s ∷ ss
block-ends b s ss = ap ended (after-grown b (scopes.nothing false) (s ∷ ss))

function-ends : (f : Tree) (s : Scope) (ss : List Scope) → ended (after f (begun true (s ∷ ss))) ≡ s ∷ ss
function-ends f s ss = ap ended (after-grown f (scopes.nothing true) (s ∷ ss))

beside-onto : (d : Declared) (t : Tree) (vs : List (List ℕ × Span)) → Beside d (vars-onto t vs) ↔ (AllOf (AllowsVar d) (var_declared t) × Beside d vs)
unfolding vars-onto var_declared
beside-onto d nothing vs = ((λ x. (tt, x)), λ x. x.1)
beside-onto d (lexical e t) vs = beside-onto d t vs
beside-onto d (var q p t) vs =
    let rest = beside-onto d t ((q, p) ∷ vs) in let one = beside-more d q p vs in
    ((λ x. let r = rest.0 x in let o = one.0 r.1 in ((o.0, r.0), o.1)), λ x. rest.1 (x.0.1, one.1 (x.0.0, x.1)))
beside-onto d (block b t) vs =
    let rest = beside-onto d t (vars-onto b [] ++ vs) in let two = beside-append d (vars-onto b []) vs in
    let inner = beside-onto d b [] in let all = each-append (AllowsVar d) (var_declared b) (var_declared t) in (
      (λ x. let r = rest.0 x in let w = two.0 r.1 in let i = inner.0 w.0 in (all.1 (i.0, r.0), w.1)),
      λ x. let a = all.0 x.0 in rest.1 (a.1, two.1 (inner.1 (a.0, beside-none d), x.1)),
    )
beside-onto d (function f t) vs = beside-onto d t vs

-- ---- the walk

record Ok (t : Tree) (s : Scope) (ss : List Scope) : Type 0 where
  rules : MeetsRules t
  apart : AllOf (λ d. excluding d.kind d.name s.lexical ≡ None) (lexically_declared t)
  beside : AllOf (λ d. Beside d s.vars) (lexically_declared t)
  free : AllOf (λ q. against_var q (s ∷ ss) ≡ None) (var_declared t)

more-against : (q : List ℕ) (d : Declared) (s : Scope) (ss : List Scope)
    → (against_var q (with-lexical d s ∷ ss) ≡ None) ↔ (AllowsVar d q × (against_var q (s ∷ ss) ≡ None))
unfolding against_var
more-against q d s ss =
    let around = if s.is_function then None else against_var q ss in
    let whole = or-none (blocking q (d ∷ s.lexical)) around in let own = or-none (blocking q s.lexical) around in let one = more-blocking q d s.lexical in
    ((λ x. let w = whole.0 x in let o = one.0 w.0 in (o.0, own.1 (o.1, w.1))), λ x. let w = own.0 x.1 in whole.1 (one.1 (x.0, w.0), w.1))

lexical-ok : (d : Declared) (t : Tree) (s : Scope) (ss : List Scope)
    → ((against_in_block d.kind d.name (s ∷ ss) ≡ None) × Ok t (with-lexical d s) ss) ↔ Ok (lexical d t) s ss
unfolding lexically_declared var_declared AreDistinct AllWithin Beside
lexical-ok d t s ss =
    let own = or-none (excluding d.kind d.name s.lexical) (var_beside d.kind (last d.name s.vars)) in
    let e = chain (each (lexically_declared t) (λ e. more-excluding e d s.lexical)) (each-both (λ e. AreCompatible e d) (λ e. excluding e.kind e.name s.lexical ≡ None) (lexically_declared t)) in
    let f = chain (each (var_declared t) (λ q. more-against q d s ss)) (each-both (AllowsVar d) (λ q. against_var q (s ∷ ss) ≡ None) (var_declared t)) in
    let turned = each (lexically_declared t) (λ e. turn e d) in (
      (λ x. let o = own.0 x.0 in let k = x.1 in let es = e.0 k.apart in let fs = f.0 k.free in record {
        rules = ((turned.0 es.0, k.rules.0), ((fs.0, k.rules.1.0), k.rules.1.1));
        apart = (o.0, es.1);
        beside = (o.1, k.beside);
        free = fs.1;
      }),
      λ k. (
        own.1 (k.apart.0, k.beside.0),
        record {
          rules = (k.rules.0.1, (k.rules.1.0.1, k.rules.1.1));
          apart = e.1 (turned.1 k.rules.0.0, k.apart.1);
          beside = k.beside.1;
          free = f.1 (k.rules.1.0.0, k.free);
        },
      ),
    )

var-ok : (q : List ℕ) (p : Span) (t : Tree) (s : Scope) (ss : List Scope)
    → ((against_var q (s ∷ ss) ≡ None) × Ok t (with-vars ((q, p) ∷ s.vars) s) ss) ↔ Ok (var q p t) s ss
unfolding lexically_declared var_declared AllWithin against_var
var-ok q p t s ss =
    let b = chain (each (lexically_declared t) (λ d. beside-more d q p s.vars)) (each-both (λ d. AllowsVar d q) (λ d. Beside d s.vars) (lexically_declared t)) in
    let a = each-both (λ d. AllowsVar d q) (λ d. AllOf (AllowsVar d) (var_declared t)) (lexically_declared t) in (
      (λ x. let k = x.1 in let bs = b.0 k.beside in record {
        rules = (k.rules.0, (a.1 (bs.0, k.rules.1.0), k.rules.1.1));
        apart = k.apart;
        beside = bs.1;
        free = (x.0, k.free);
      }),
      λ k. let as' = a.0 k.rules.1.0 in (
        k.free.0,
        record {
          rules = (k.rules.0, (as'.1, k.rules.1.1));
          apart = k.apart;
          beside = b.1 (as'.0, k.beside);
          free = k.free.1;
        },
      ),
    )

block-ok : (b t : Tree) (s : Scope) (ss : List Scope)
    → (Ok b (scopes.nothing false) (s ∷ ss) × Ok t (with-vars (vars-onto b [] ++ s.vars) s) ss) ↔ Ok (block b t) s ss
unfolding lexically_declared var_declared AllWithin against_var excluding blocking
block-ok b t s ss =
    let inner = each (lexically_declared t) (λ d. chain (beside-append d (vars-onto b []) s.vars) (both (beside-onto d b []) ((λ x. x), λ x. x))) in
    let v = each-both (λ d. AllOf (AllowsVar d) (var_declared b)) (λ d. AllOf (AllowsVar d) (var_declared t)) (lexically_declared t) in
    let a = chain (each (lexically_declared t) (λ d. each-append (AllowsVar d) (var_declared b) (var_declared t))) v in
    let two = each-both (λ d. AllOf (AllowsVar d) (var_declared b) × Beside d []) (λ d. Beside d s.vars) (lexically_declared t) in
    let one = each-both (λ d. AllOf (AllowsVar d) (var_declared b)) (λ d. Beside d []) (lexically_declared t) in
    let f = each-append (λ q. against_var q (s ∷ ss) ≡ None) (var_declared b) (var_declared t) in (
      (λ x. let i = x.0 in let k = x.1 in let w = two.0 (inner.0 k.beside) in record {
        rules = (k.rules.0, (a.1 ((one.0 w.0).0, k.rules.1.0), (i.rules, k.rules.1.1)));
        apart = k.apart;
        beside = w.1;
        free = f.1 (i.free, k.free);
      }),
      λ k. let as' = a.0 k.rules.1.0 in let fs = f.0 k.free in (
        record {
          rules = k.rules.1.1.0;
          apart = trivial (lexically_declared b) (λ d. refl);
          beside = trivial (lexically_declared b) (λ d. beside-none d);
          free = fs.0;
        },
        record {
          rules = (k.rules.0, (as'.1, k.rules.1.1.1));
          apart = k.apart;
          beside = inner.1 (two.1 (one.1 (as'.0, trivial (lexically_declared t) (λ d. beside-none d)), k.beside));
          free = fs.1;
        },
      ),
    )

function-ok : (f t : Tree) (s : Scope) (ss : List Scope) → (Ok f (scopes.nothing true) (s ∷ ss) × Ok t s ss) ↔ Ok (function f t) s ss
unfolding lexically_declared var_declared AllWithin against_var excluding blocking
function-ok f t s ss = (
  (λ x. let i = x.0 in let k = x.1 in record {
    rules = (k.rules.0, (k.rules.1.0, (i.rules, k.rules.1.1)));
    apart = k.apart;
    beside = k.beside;
    free = k.free;
  }),
  λ k. (
    record {
      rules = k.rules.1.1.0;
      apart = trivial (lexically_declared f) (λ d. refl);
      beside = trivial (lexically_declared f) (λ d. beside-none d);
      free = trivial (var_declared f) (λ q. refl);
    },
    record { rules = (k.rules.0, (k.rules.1.0, k.rules.1.1.1)); apart = k.apart; beside = k.beside; free = k.free },
  ),
)

nothing-ok : (s : Scope) (ss : List Scope) → Unit {0} ↔ Ok nothing s ss
unfolding lexically_declared var_declared AreDistinct AllWithin
nothing-ok s ss = ((λ x. record { rules = (tt, (tt, tt)); apart = tt; beside = tt; free = tt }), λ k. tt)

by-tree : (t : Tree) (s : Scope) (ss : List Scope) → Passes t (s ∷ ss) ↔ Ok t s ss
unfolding Passes
by-tree nothing s ss = nothing-ok s ss
by-tree (lexical d t) s ss = chain (both ((λ x. x), λ x. x) (by-tree t (with-lexical d s) ss)) (lexical-ok d t s ss)
by-tree (var q p t) s ss = chain (both ((λ x. x), λ x. x) (by-tree t (with-vars ((q, p) ∷ s.vars) s) ss)) (var-ok q p t s ss)
by-tree (block b t) s ss =
    chain (both (by-tree b (scopes.nothing false) (s ∷ ss))
    (chain (same (ap (Passes t) (block-ends b s ss))) (by-tree t (with-vars (vars-onto b [] ++ s.vars) s) ss)))
    (block-ok b t s ss)
by-tree (function f t) s ss =
    chain (both (by-tree f (scopes.nothing true) (s ∷ ss)) (chain (same (ap (Passes t) (function-ends f s ss))) (by-tree t s ss))) (function-ok f t s ss)

pub names-by-tree : (t : Tree) → Passes t (scopes.nothing true ∷ []) ↔ MeetsRules t
unfolding against_var excluding blocking
names-by-tree t =
    let all = by-tree t (scopes.nothing true) [] in (
      (λ x. (all.0 x).rules),
      λ rules. all.1 (record {
        rules = rules;
        apart = trivial (lexically_declared t) (λ d. refl);
        beside = trivial (lexically_declared t) (λ d. beside-none d);
        free = trivial (var_declared t) (λ q. refl);
      }),
    )
