-- From what becomes of expressions among the nodes to what is promised of the answer in boxes.
use Rattle.std.proofs.Common.{◌≡◌, ◌≢◌, ℕ, ◌≤◌, Bool, true, false, List, [], ◌∷◌, map, length, Option, Some, None, Result, Ok, Err, IfOk, MatchOption, MatchResult, ◌||◌, refl, sym, ap, subst, ◌∙◌, arith}
use Rattle.std.proofs.lemmas.List.{take_all}
use Rattle.std.specs.{Option.is_some, declared.alloc.Global.Global, declared.vec.Vec.Vec}
use Rattle.swc_context.specs.{declared.error.Error.Error, declared.error.SyntaxError.TheVariants.OutOfMemory, declared.span.BytePos.BytePos}
use Rattle.swc_input.specs.Buffer.{Read, last_position, previous}
use Rattle.swc_input.specs.{Recording.no_memory, Source.Model, declared.buffer.Buffer.Buffer}
use Rattle.swc_ast.specs.Tree.{Tree, cons, trees}
use Rattle.swc_ast.specs.Trees.{unmarked, all_unmarked, items_of}
use Rattle.swc_ast.specs.declared.spanned.Spanned.{Ghosts}
use Rattle.swc_nodes.specs.GrowingNodes.{count, CutTo, SameNodes}
use Rattle.swc_nodes.specs.{NodeParts.Part, declared.commas.TrailingCommas.TrailingCommas, declared.node.PatId.PatId, declared.nodes.Nodes.Nodes}
use Rattle.swc_cover.specs.Moving.{KeptTo}
use Rattle.swc_input.specs.Calls.{Loud}
use Rattle.swc_steps.specs.Parsing.{Acts}
use Rattle.swc_steps.proofs.{Hearing.same_faults, Steps.spent, Steps.forgoes_refuses}
use Rattle.swc_ecma_parser.specs.Calls.{buffer_of, nodes_of, commas_of, has_failed, wants_memory, standing, Ends, parser_failed, pats_tree}
use Rattle.swc_ecma_parser.specs.{Promise.Unmarred, Refinement.PromisedRefinement, Refinement.Recasts, declared.parser.Parser.Parser}
use Rattle.swc_ecma_parser.proofs.{Calling.bounded, Calling.failing, Calling.not_both, Calling.shallow, Top.memory}

-- What making patterns of expressions does and answers, from one state of the buffer to another.
pub record MeetsRefinement {S T A : Type 0} (model : Model S) (valid : Bool) (pattern : Option A) (becomes : A)
    (strip : A → A) (view : T → A) (b : Buffer S) (r : Result T Error) (c : Buffer S) : Type 0 where
  pub acts : Acts model b r c
  pub sound : valid ≡ true → Loud model b → IfOk r (λ x. Unmarred model b c
      → MatchOption pattern ⊥ (λ m. view x ≡ strip m))
  pub complete : (m : A) → pattern ≡ Some m
      → MatchResult r (λ x. (view x ≡ strip m) × Read model b [] c × Unmarred model b c) (λ e. e.kind ≡ OutOfMemory)
  pub tree : IfOk r (λ x. view x ≡ strip becomes)

-- where no fault was recorded, there is a pattern
pattern-there : {A : Type 0} (strip : A → A) (o : Option A) (becomes v : A) → (is_some o ≡ false → ⊥) → ((m : A)
    → o ≡ Some m → m ≡ becomes) → v ≡ strip becomes → MatchOption o ⊥ (λ m. v ≡ strip m)
pattern-there strip None becomes v there is e = there refl
pattern-there strip (Some m) becomes v there is e = e ∙ ap strip (sym (is m refl))

module _ {S H A X T F C K : Type 0} {fg : Ghosts F} {cg : Ghosts C} {kg : Ghosts K} (model : Model S) (valid : Bool)
    (pattern : Option A) (becomes : A)
    (of : Nodes F C K fg cg kg → X → A) (parts : X → List Part) (strip : A → A) (view : T → A)
    (from : ℕ) (p q : Parser S H F C K fg cg kg) where
  abbrev Meets : Result T Error → Type 0
  Meets r = MeetsRefinement model valid pattern becomes strip view (buffer_of p) r (buffer_of q)

  pub meets-refinement : (answer : Result X Error) (r : Result T Error)
      → Recasts model valid pattern becomes of parts from p answer q
      → MatchResult answer (λ x. MatchResult r (λ t. view t ≡ strip (of (nodes_of q) x)) (λ e. e
      ≡ no_memory (last_position (buffer_of q)))) (λ e. r ≡ Err e) → Meets r
  meets-refinement (Ok x) (Ok t) w m =
      let h = w.checks in
      let seen : view t ≡ strip becomes = m ∙ ap strip w.stands in
      record {
        acts = h.leads;
        sound = λ v l same.
            pattern-there strip pattern becomes (view t)
            (λ none. let less = h.notes v none l in let as_many = ap length same in absurd (omega arith)) w.is seen;
        complete = λ o e.
            let pass = h.passes (ap (λ v. is_some v) e) in (
              seen ∙ ap strip (sym (w.is o e)),
              subst (λ ts. Read model (buffer_of p) ts (buffer_of q)) pass.0 h.leads.read,
              same_faults h.leads.read.errors pass.1,
            );
        tree = seen;
      }
  meets-refinement (Ok x) (Err e) w m = record {
    acts = forgoes_refuses (record { spends = spent w.checks.leads; kind = ap (λ v. v.kind) m });
    sound = λ v l. tt;
    complete = λ o h. ap (λ v. v.kind) m;
    tree = tt;
  }
  meets-refinement (Err e) (Ok t) w m = absurd cc
  meets-refinement (Err e) (Err x) w m = subst Meets (sym m) (record {
    acts = w.refuses.refuses;
    sound = λ v l. tt;
    complete = λ o h. memory e.kind (λ n. let none = w.refuses.unfit n in let there = ap (λ v. is_some v) h in cc);
    tree = tt;
  })

-- ---- the nodes are cut back to those that were there

module _ {F C K : Type 0} {fg : Ghosts F} {cg : Ghosts C} {kg : Ghosts K} where
  pub cut-kept : {ns ms : Nodes F C K fg cg kg} (ls : Nodes F C K fg cg kg) → KeptTo (count ns) ns ms
      → CutTo (count ns) ms ls → SameNodes ns ls
  cut-kept {ns} {ms} ls k e =
      e ∙ k.kept ∙ take_all (count ns) ns.nodes.items (let le : count ns ≤ count ns = omega arith in le)

-- whichever is answered
pub whichever : {X : Type 0} (P : X → Type 0) (Q : Error → Type 0) (R : Type 0) (r : Result X Error) → MatchResult r P Q
    → ((x : X) → P x → R) → ((e : Error) → Q e → R) → R
whichever P Q R (Ok x) h f g = f x h
whichever P Q R (Err e) h f g = g e h

pub of-answer : {X : Type 0} (P : X → Type 0) (Q : Error → Type 0) (T : X → Type 0) (r : Result X Error)
    → MatchResult r P Q → ((x : X) → P x → T x) → IfOk r T
of-answer P Q T (Ok x) h f = f x h
of-answer P Q T (Err e) h f = tt

pub if-ok : {X : Type 0} (P Q : X → Type 0) (r : Result X Error) → IfOk r P → ((x : X) → P x → Q x) → IfOk r Q
if-ok P Q (Ok x) h f = f x h
if-ok P Q (Err e) h f = tt

-- ---- what is promised

module _ {S H T A F C K : Type 0} {fg : Ghosts F} {cg : Ghosts C} {kg : Ghosts K} {model : Model S} {valid : Bool}
    {pattern : Option A} {becomes : A} {strip : A → A} {view : T → A}
    {Records : Buffer S → Result T Error → Buffer S → Type 0}
    {Keeps : Nodes F C K fg cg kg → Nodes F C K fg cg kg → Type 0} where
  pub refinement-again : {p : Parser S H F C K fg cg kg} {e : Error} → Keeps (nodes_of p) (nodes_of p)
      → (has_failed p ≡ true) × (e ≡ parser_failed (previous (buffer_of p)))
      → PromisedRefinement model valid pattern becomes strip view Records Keeps p (Err e) p
  refinement-again kept h = record {
    again = λ failed. (refl, ap (λ x. Err x) h.1);
    acts = λ runs. absurd (not_both h.0 runs);
    sound = λ runs. absurd (not_both h.0 runs);
    complete = λ runs. absurd (not_both h.0 runs);
    records = λ runs. absurd (not_both h.0 runs);
    tree = tt;
    commas = refl;
    nodes = kept;
    fails = λ runs. absurd (not_both h.0 runs);
    bound = refl;
    shallow = λ runs. absurd (not_both h.0 runs);
  }

  -- the buffer, the nodes and the commas before the parser remembers that it is out of memory
  pub promised-refinement : {p q : Parser S H F C K fg cg kg} {f : Bool × ℕ} (b : Buffer S) (ns : Nodes F C K fg cg kg)
      (cs : TrailingCommas)
      (a r : Result T Error) → has_failed p ≡ false → f ≡ standing p →
      r ≡ a → buffer_of q ≡ b → nodes_of q ≡ ns → commas_of q ≡ cs → Ends f a q
      → MeetsRefinement model valid pattern becomes strip view (buffer_of p) a b
      → Records (buffer_of p) a b → cs ≡ commas_of p → Keeps (nodes_of p) ns
      → PromisedRefinement model valid pattern becomes strip view Records Keeps p r q
  promised-refinement {p} {q} b ns cs a r runs same e buffer nodes commas fails done noted same_commas kept =
      let meets : MeetsRefinement model valid pattern becomes strip view (buffer_of p) r (buffer_of q) =
      rw (e, buffer) done in
      record {
        again = λ failed. absurd (not_both failed runs);
        acts = λ w. meets.acts;
        sound = λ w. meets.sound;
        complete = λ w. meets.complete;
        records = λ w. rw (e, buffer) noted;
        tree = meets.tree;
        commas = commas ∙ same_commas;
        nodes = rw (nodes) kept;
        fails = λ w. failing a r runs same e fails;
        bound = bounded a same fails;
        shallow = λ w. shallow a r e fails;
      }

-- what was recorded and refused before the answer was moved out
pub records-moved : {X T : Type 0} (Done : Type 0) (Refuses : Error → Type 0) (at : BytePos) (Stands : X → T → Type 0)
    (answer : Result X Error) (r : Result T Error)
    → MatchResult answer (λ x. Done) (λ e. e.kind ≢ OutOfMemory → Refuses e)
    → MatchResult answer (λ x. MatchResult r (λ t. Stands x t) (λ e. e ≡ no_memory at)) (λ e. r ≡ Err e)
    → MatchResult r (λ t. Done) (λ e. e.kind ≢ OutOfMemory → Refuses e)
records-moved Done Refuses at Stands (Ok x) (Ok t) done m = done
records-moved Done Refuses at Stands (Ok x) (Err e) done m = λ n. absurd (n (ap (λ v. v.kind) m))
records-moved Done Refuses at Stands (Err e) (Ok t) refuses m = absurd cc
records-moved Done Refuses at Stands (Err e) (Err x) refuses m =
    let same : x ≡ e = cc in subst (λ v. v.kind ≢ OutOfMemory → Refuses v) (sym same) refuses

-- what isn't moved out
pub unmoved : {X A : Type 0} (of : X → A) (M : Error → Type 0) (r : Result X Error)
    → MatchResult r (λ x. MatchResult r (λ t. of t ≡ of x) M) (λ e. r ≡ Err e)
unmoved of M (Ok x) = refl
unmoved of M (Err e) = refl

-- ---- lists of patterns

module _ {F C K : Type 0} where
  pub pats-bare : (at : ℕ → Tree F C K) (xs : List PatId)
      → trees (map (λ (x : PatId). unmarked (at x.0)) xs) ≡ all_unmarked (trees (map (λ (x : PatId). at x.0) xs))
  pats-bare at [] = refl
  pats-bare at (x ∷ xs) = ap (cons (unmarked (at x.0))) (pats-bare at xs)

  -- the trees of patterns in boxes, by those of their numbers
  pub moved-pats : {P : Type 0} (M : Error → Type 0) (view : P → Tree F C K) (at : ℕ
      → Tree F C K) (answer : Result (Vec PatId Global) Error)
      (r : Result (Vec P Global) Error) → MatchResult answer (λ x. MatchResult r (λ t. pats_tree view t
      ≡ pats_tree (λ (i : PatId). unmarked (at i.0)) x) M) (λ e. r ≡ Err e)
      → MatchResult answer (λ x. MatchResult r (λ t. trees (map view t.items)
      ≡ all_unmarked (trees (map (λ (i : PatId). at i.0) x.items))) M) (λ e. r ≡ Err e)
  moved-pats M view at (Ok x) (Ok t) m = ap (λ v. items_of v) m ∙ pats-bare at x.items
  moved-pats M view at (Ok x) (Err e) m = m
  moved-pats M view at (Err e) r m = m
