-- From what the two readings promise to the law of replay.
use Rattle.std.proofs.Common.{◌≡◌, Bool, true, false, not, ◌||◌, List, [], ◌∷◌, ◌++◌, None, Result, Ok, Err, MatchResult, length, refl, sym, ap, subst, ◌∙◌, arith, length-append}
use Rattle.std.proofs.lemmas.List.{append-nil}
use Rattle.std.specs.{declared.alloc.Global.Global, declared.boxed.Box.Box}
use Rattle.swc_context.specs.{Contexts.view, declared.context.Context.Context, declared.context.Syntax.Syntax, declared.error.Error.Error, declared.error.SyntaxError.TheVariants.OutOfMemory, declared.span.Span.Span}
use Rattle.swc_input.specs.Buffer.{Took, current, held, source, state_of}
use Rattle.swc_input.specs.Capturing.{capturing_laws, capturing_model, either_failed, has_lost, tokens_kept, within}
use Rattle.swc_input.specs.Source.{Keeps, Laws, Model, Source, given_one}
use Rattle.swc_input.specs.{Kept.kept_of, Laws.Read-still, Listed.listed_model, Recording.is_silent, declared.buffer.Buffer.Buffer, declared.capturing.Capturing.Capturing, declared.listed.TokensInput.TokensInput, declared.token.TokenAndSpan.TokenAndSpan}
use Rattle.swc_input.proofs.Captured.{captured, kept-one-by-one}
use Rattle.swc_ast.specs.{Tree.Tree, Trees.unmarked, declared.expr.Expr.Expr as ExprOf, declared.spanned.Spanned.Ghosts}
use Rattle.swc_bodies.specs.{Readings.Hook, Readings.LawfulHook, Slashes.ReplayHook}
use Rattle.swc_grammar.specs.Reads.{Reads, ReadsUnmarked, at-end}
use Rattle.swc_grammar.specs.Symbols.{Expr}
use Rattle.swc_grammar.proofs.One.{one-reading}
use Rattle.swc_laws.proofs.{Replay.replay, Wanted.replay-wanted}
use Rattle.swc_input.specs.Calls.{Here, Loud}
use Rattle.swc_steps.specs.Parsing.{scope, scope_of}
use Rattle.swc_steps.proofs.Hearing.{same_faults}
use Rattle.swc_ecma_parser.specs.BothWays.{Fresh, Left, faults}
use Rattle.swc_ecma_parser.specs.Promise.{Derives, Finished, Promised, Unmarred, covers_done, in_boxes}
use Rattle.swc_ecma_parser.specs.Replaying.{HandsOut, ReadAgain, ReadsKeeping, Replayed, ReplayLaw, boxed, scope_at}
use Rattle.swc_ecma_parser.specs.{Calls.buffer_of, WholeList.IsHeeded, WholeList.plain_list, declared.parser.Parser.Parser}
use Rattle.swc_ecma_parser.proofs.Top.{expr-stops}

heeded-loud : (s : Source) → IsHeeded s.context s.syntax → is_silent s ≡ false
heeded-loud s h = heeds s.context.ignore_error s.syntax.early_errors h.0 h.1
  where
    heeds : (a b : Bool) → a ≡ false → b ≡ true → (a || not b) ≡ false
    heeds false true h k = refl
    heeds a b h k = cc

-- where nothing was added in the end, nothing was added before
none-added : {es fs gs : List Error} → Keeps es fs → Keeps fs gs → gs ≡ es → fs ≡ es
none-added {es} {fs} {gs} h k e =
    let a = ap length h.added in
    let b = length-append es h.more in
    let c = ap length k.added in
    let d = length-append fs k.more in
    let n = ap length e in
    same_faults h (omega arith)

first-none : {A : Type 0} (xs ys : List A) → xs ++ ys ≡ [] → xs ≡ []
first-none [] ys h = refl
first-none (x ∷ xs) ys h = cc

never-lost : (a b : Bool) → either_failed a b ≡ false → a ≡ false
never-lost true b h = cc
never-lost false b h = refl

module _ {S : Type 0} (model : Model S) where
  -- A look for the end found none left: nothing is held, and the source runs.
  none-held : (b c : Buffer (Capturing S)) → Here (capturing_model model) b c → current c ≡ None → held c ≡ []
  none-held b c here none = ap (λ o. given_one o ++ given_one c.next) none ∙ ap given_one (here.looked.end none).0

  runs-on : (b c : Buffer (Capturing S)) → Here (capturing_model model) b c → held c ≡ []
      → either_failed (has_lost (source c)) (model.state (within (source c))).failed ≡ false
  runs-on b c here none = elim (either_failed (has_lost (source c)) (model.state (within (source c))).failed)
      as (λ v. either_failed (has_lost (source c)) (model.state (within (source c))).failed ≡ v → v ≡ false) [
        | true ↦ (λ h.
            let took = here.looked.look.read.took in
            absurd ((here.served.before h).1 (first-none (held b) took.given (took.balance ∙ none))))
        | false ↦ (λ h. refl)
      ] refl

  -- what was consumed up to there is what the source within gave
  given-all : (b c : Buffer (Capturing S)) (xs : List TokenAndSpan) → held b ≡ [] → held c ≡ []
      → has_lost (source c) ≡ false → Took (capturing_model model) b xs c
      → model.gives (within (source b)) xs (within (source c))
  given-all b c xs new none kept took =
      let given : took.given ≡ xs =
      ap (λ l. l ++ took.given) (sym new) ∙ took.balance ∙ ap (λ l. xs ++ l) none ∙ append-nil xs in
      let all : took.given ++ given_one took.gave.unkept ≡ xs =
      ap (λ o. took.given ++ given_one o) (took.gave.none_lost kept) ∙ append-nil took.given ∙ given in
      subst (λ l. model.gives (within (source b)) l (within (source c))) all took.gave.gave

  -- and it is what is kept
  kept-all : (b c : Buffer (Capturing S)) (xs : List TokenAndSpan) → held b ≡ [] → tokens_kept (source b) ≡ []
      → held c ≡ [] → Took (capturing_model model) b xs c → plain_list (tokens_kept (source c)) ≡ kept_of xs
  kept-all b c xs new clear none took =
      captured model b c xs new clear took ∙ ap (λ l. kept_of (xs ++ l)) none ∙ ap kept_of (append-nil xs)

module _ {S H F C K : Type 0} {fg : Ghosts F} {cg : Ghosts C} {kg : Ghosts K} {model : Model S} (laws : Laws model)
    (hook : Hook F C K) where
  -- An expression was read cleanly of all that the source gave, and the tokens that are kept are those of that.
  pub record ReadAll (s : S) (t : Tree F C K) (p : Parser (Capturing S) H F C K fg cg kg) : Type 0 where
    pub consumed : List TokenAndSpan
    pub gave : model.gives s consumed (within (source (buffer_of p)))
    pub ended : (model.state (within (source (buffer_of p)))).ended ≡ true
    pub derived : Finished covers_done (ReadsUnmarked hook Expr) (scope_at (model.state s)) consumed [] t
    pub kept : plain_list (tokens_kept (source (buffer_of p))) ≡ kept_of consumed
    pub context : (model.state (within (source (buffer_of p)))).context ≡ (model.state s).context

  -- between the buffers b and c, by what was read up to m, where the end was looked for
  all-read : (s : S) (t : Tree F C K) (b m : Buffer (Capturing S)) (p : Parser (Capturing S) H F C K fg cg kg)
      → within (source b) ≡ s → held b ≡ [] → tokens_kept (source b) ≡ []
      → Derives (capturing_model model) (Finished covers_done (ReadsUnmarked hook Expr)) (λ (u : Tree F C K). u) t b m
      → Here (capturing_model model) m (buffer_of p) → current (buffer_of p) ≡ None
      → (model.state (within (source (buffer_of p)))).ended ≡ true → ReadAll s t p
  all-read s t b m p from new clear d here last ended =
      let c = buffer_of p in
      let none = none-held model m c here last in
      let lost = never-lost (has_lost (source c)) (model.state (within (source c))).failed
      (runs-on model m c here none) in
      let r = Read-still (capturing_laws laws) b m c d.consumed d.read here.looked.look.read in
      record {
        consumed = d.consumed;
        gave = subst (λ x. model.gives x d.consumed (within (source c))) from
            (given-all model b c d.consumed new none lost r.took);
        ended = ended;
        derived = subst (λ x. Finished covers_done (ReadsUnmarked hook Expr) (scope_at (model.state x)) d.consumed [] t)
            from d.whole;
        kept = kept-all model b c d.consumed new clear none r.took;
        context = r.context ∙ ap (λ x. (model.state x).context) from;
      }

  read-all : {sure : Bool} (s : S) (e : Box (ExprOf F C K) Global) (p : Parser (Capturing S) H F C K fg cg kg)
      → ReadsKeeping model sure hook s (Ok e) (Ok true) p → IsHeeded (model.state s).context (model.state s).syntax
      → (state_of (capturing_model model) (buffer_of p)).errors ≡ (model.state s).errors
      → ReadAll s (boxed fg cg kg e) p
  read-all s e p f heeded clean =
      let b = buffer_of f.start in
      let m = buffer_of f.behind in
      let from : within (source b) ≡ s = ap (λ x. within (source x)) f.new ∙ f.over in
      let sees = f.look.effect (f.call.fails f.runs) in
      let ends = sees.end refl in
      let quiet : Unmarred (capturing_model model) b m =
      none-added (f.call.reads f.runs).leads.read.errors sees.looks.looked.look.read.errors
      (clean ∙ ap (λ x. (model.state x).errors) (sym from)) in
      let loud : Loud (capturing_model model) b =
      ap (λ x. is_silent (model.state x)) from ∙ heeded-loud (model.state s) heeded in
      let d = f.call.sound f.runs loud quiet in
      all-read s (boxed fg cg kg e) b m p from (ap held f.new) (ap (λ x. tokens_kept (source x)) f.new ∙ f.none_kept)
      (record { consumed = d.consumed; read = d.read; front = d.front; whole = d.whole }) sees.looks ends.0 ends.1

-- what was read again
module _ {H F C K : Type 0} {fg : Ghosts F} {cg : Ghosts C} {kg : Ghosts K} where
  again-answered : (start q : Parser TokensInput H F C K fg cg kg) (again : Result (Box (ExprOf F C K) Global) Error)
      (t : Tree F C K) → faults start ≡ []
      → MatchResult again (λ e. (boxed fg cg kg e ≡ t) × Left q [] × (faults q ≡ faults start))
      (λ e. e.kind ≡ OutOfMemory)
      → ReadAgain t again q
  again-answered start q (Ok e) t clean (same, left, quiet) = (same, left, quiet ∙ clean)
  again-answered start q (Err e) t clean h = h

  again-read : {sure : Bool} {hook : Hook F C K} (again : Result (Box (ExprOf F C K) Global) Error) (c : Context)
      (x : Syntax) (ts : List TokenAndSpan)
      {q : Parser TokensInput H F C K fg cg kg}
      → Fresh (λ a b. Promised listed_model sure hook in_boxes Expr a again b) c x ts q → IsHeeded c x → sure ≡ true
      → (t : Tree F C K) → Finished covers_done (ReadsUnmarked hook Expr) (scope_of (view c) x) ts [] t
      → ReadAgain t again q
  again-read {hook = hook} again c x ts {q} g heeded y t d =
      let here : Finished covers_done (ReadsUnmarked hook Expr) (scope listed_model (buffer_of g.start)) ts [] t =
      subst (λ k. Finished covers_done (ReadsUnmarked hook Expr) k ts [] t) (sym g.stands) d in
      again-answered g.start q again t g.clean (g.call.complete g.runs y (g.loud heeded) ts [] t g.left here at-end)

module _ {S H F C K : Type 0} {fg : Ghosts F} {cg : Ghosts C} {kg : Ghosts K} {model : Model S} (laws : Laws model)
    {sure : Bool} {hook : Hook F C K} {fun_at : F → Span} {class_at : C → Span} {block_at : K → Span}
    (lawful : LawfulHook fun_at class_at block_at hook) (replays : ReplayHook hook) where
  -- a tree that is derived from what is kept is the one that was read, and so it is read again
  kept-read : (s : S) (t : Tree F C K) (again : Result (Box (ExprOf F C K) Global) Error) (xs : List TokenAndSpan)
      {q : Parser TokensInput H F C K fg cg kg}
      → Fresh (λ a b. Promised listed_model sure hook in_boxes Expr a again b) (model.state s).context
      (model.state s).syntax (kept_of xs) q
      → IsHeeded (model.state s).context (model.state s).syntax → sure ≡ true
      → Finished covers_done (ReadsUnmarked hook Expr) (scope_at (model.state s)) xs [] t
      → {m : Tree F C K} → Reads hook Expr (scope_at (model.state s)) xs [] m
      → Reads hook Expr (scope_at (model.state s)) (kept_of xs) [] m → ReadAgain t again q
  kept-read s t again xs g heeded y d {m} e k =
      let stop = expr-stops.stop (scope_at (model.state s)) [] at-end in
      let one = (one-reading hook e stop d.read.read stop).0 in
      again-read again (model.state s).context (model.state s).syntax (kept_of xs) g heeded y t
      (record { read = record { marked = m; read = k; same = ap unmarked one ∙ d.read.same }; covers = d.covers })

  replayed : {p r : Parser (Capturing S) H F C K fg cg kg} {q : Parser TokensInput H F C K fg cg kg} (s : S)
      (t : Tree F C K) (again : Result (Box (ExprOf F C K) Global) Error) (tokens : List TokenAndSpan) (c : Context)
      (x : Syntax)
      → IsHeeded (model.state s).context (model.state s).syntax → ReadAll laws hook s t p
      → HandsOut model tokens c x p r
      → Fresh (λ a b. Promised listed_model sure hook in_boxes Expr a again b) c x (plain_list tokens) q
      → Replayed model sure hook s t r again q
  replayed {p} {r} {q} s t again tokens c x heeded a o g =
      let gave = laws.gave s (within (source (buffer_of p))) a.consumed a.gave in
      let list : plain_list tokens ≡ kept_of a.consumed = ap plain_list o.taken ∙ a.kept in
      let Here : Context → Syntax → List TokenAndSpan → Type 0 =
      λ k v l. Fresh (λ a b. Promised listed_model sure hook in_boxes Expr a again b) k v l q in
      let g1 = subst (λ l. Here c x l) list g in
      let g2 = subst (λ k. Here k x (kept_of a.consumed)) (o.context ∙ a.context) g1 in
      let g3 = subst (λ v. Here (model.state s).context v (kept_of a.consumed)) (o.syntax ∙ gave.syntax) g2 in
      record {
        consumed = a.consumed;
        gave = subst (λ z. model.gives s a.consumed z) (sym o.stays) a.gave;
        ended = ap (λ z. (model.state z).ended) o.stays ∙ a.ended;
        derived = a.derived;
        kept = g3;
        all_kept = λ y apart. kept-read s t again a.consumed g3 heeded y a.derived a.derived.read.read
            (subst (λ l. Reads hook Expr (scope_at (model.state s)) l [] a.derived.read.marked)
            (sym (kept-one-by-one [] a.consumed apart)) a.derived.read.read);
        joined = λ y order {m} d j. kept-read s t again a.consumed g3 heeded y a.derived d
            (replay hook lawful replays Expr (scope_at (model.state s)) a.consumed m d order j);
        wanted = λ y order closes w. kept-read s t again a.consumed g3 heeded y a.derived a.derived.read.read
            (replay-wanted hook lawful replays Expr closes
            (scope_at (model.state s)) a.consumed a.derived.read.marked a.derived.read.read
            order w);
      }

  pub replay-law : {sure0 : Bool} {p r : Parser (Capturing S) H F C K fg cg kg}
      {q : Parser TokensInput H F C K fg cg kg} (s : S)
      (first : Result (Box (ExprOf F C K) Global) Error) (at_end : Result Bool Error)
      (again : Result (Box (ExprOf F C K) Global) Error) (tokens : List TokenAndSpan) (c : Context) (x : Syntax)
      → ReadsKeeping model sure0 hook s first at_end p → HandsOut model tokens c x p r
      → Fresh (λ a b. Promised listed_model sure hook in_boxes Expr a again b) c x (plain_list tokens) q
      → ReplayLaw model sure hook s first at_end r again q
  replay-law s (Err e) at_end again tokens c x f o g = λ heeded. tt
  replay-law {sure0} {p} {r} s (Ok e) at_end again tokens c x f o g = λ heeded. λ end clean.
      let all = subst (λ v. ReadsKeeping model sure0 hook s (Ok e) v p) end f in
      let same : (state_of (capturing_model model) (buffer_of r)).errors ≡ (state_of (capturing_model model)
      (buffer_of p)).errors =
      ap (λ z. (model.state z).errors) o.stays in
      replayed s (boxed fg cg kg e) again tokens c x heeded (read-all laws hook s e p all heeded (sym same ∙ clean)) o g
