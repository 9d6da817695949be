-- From what is recorded of names that are left over to what is promised of the answer in a box.
use Rattle.std.proofs.Common.{◌≡◌, ℕ, Bool, true, false, List, Result, Ok, Err, IsOk, IfOk, IfErr, OnOk, MatchResult, ◌||◌, refl, sym, ap, subst, ◌∙◌}
use Rattle.swc_context.specs.{declared.error.Error.Error, declared.span.BytePos.BytePos}
use Rattle.swc_input.specs.Buffer.{Known, Lives, Read, ReadSome, current, last_position, previous, state_of}
use Rattle.swc_input.specs.Recording.{is_fit, is_silent, no_memory}
use Rattle.swc_input.specs.{Source.Model, Source.Laws, declared.buffer.Buffer.Buffer, declared.token.TokenAndSpan.TokenAndSpan, Recordings.RecordsAll}
use Rattle.swc_ast.specs.{Tree.Tree, Trees.unmarked, declared.spanned.Spanned.Ghosts}
use Rattle.swc_nodes.specs.GrowingNodes.{bare_at, tree_at, Made, SameNodes}
use Rattle.swc_nodes.specs.{NodeParts.expr_part, declared.commas.TrailingCommas.TrailingCommas, declared.node.ExprId.ExprId, declared.nodes.Nodes.Nodes}
use Rattle.swc_ecma_parser.specs.{CoverNames.cover_names, declared.parser.Parser.Parser}
use Rattle.swc_ecma_parser.specs.Faults.{cover_faults, begins_fit, Appends}
use Rattle.swc_input.specs.Calls.{Loud, Tries}
use Rattle.swc_steps.proofs.Steps.{spent}
use Rattle.swc_ecma_parser.specs.Calls.{buffer_of, nodes_of, commas_of, has_failed, parser_failed, wants_memory, standing, Ends}
use Rattle.swc_ecma_parser.specs.Verification.{PromisedVerification, RecordsFaults, TriesFaults}
use Rattle.swc_ecma_parser.proofs.Calling.{bounded, failing, not_both, shallow}

-- ---- what was recorded

module _ {S : Type 0} {model : Model S} (laws : Laws model) where
  pub faults-tried : (es fs : List Error) (b c : Buffer S) (r : Result (Unit {0}) Error) → es ≡ fs
      → (is_silent (state_of model b) ≡ true → IsOk r × (c ≡ b))
      → (is_silent (state_of model b) ≡ false → OnOk r (RecordsAll model es b c))
      → IfErr r (λ e. (xs : List TokenAndSpan) × Read model b xs c × (e ≡ no_memory (last_position c)))
      → ReadSome model b c → OnOk r (Lives model b c)
      → (is_silent (state_of model b) ≡ false → is_fit (current b) ≡ true → OnOk r (Appends model es b c))
      → (is_silent (state_of model b) ≡ false → (ts : List TokenAndSpan) → Known model b ts → begins_fit ts ≡ true
      → OnOk r (Appends model es b c)) → TriesFaults model fs b r c
  faults-tried es fs b c (Ok u) same silent recorded refused read lives now listed =
      let P : List Error → Type 0 = λ gs. RecordsFaults model gs b c in
      subst P same (record {
        leads = record { laws = laws; taken = read.0; read = read.1; lives = lives };
        records = recorded;
        current = now;
        listed = listed;
        silent = λ s. (silent s).1;
      })
  faults-tried es fs b c (Err e) same silent recorded refused read lives now listed = record {
    spends = record { laws = laws; taken = read.0; read = read.1 };
    kind = ap (λ x. x.kind) refused.2;
  }

module _ {S F C K : Type 0} {fg : Ghosts F} {cg : Ghosts C} {kg : Ghosts K} {model : Model S} where
  -- The faults are those of the expression that was put in, which is as it was.
  pub looked-through : (given : Tree F C K) (k : ℕ) (b c : Buffer S) (ns ms : Nodes F C K fg cg kg) (id : ExprId)
      → Made k ns (expr_part id) given → RecordsFaults model (cover_faults (cover_names (tree_at ns id.0))) b c
      → ms ≡ ns
      → RecordsFaults model (cover_faults (cover_names given)) b c × Made k ms (expr_part id) given
  looked-through given k b c ns ms id made faults same =
      let P : Tree F C K → Type 0 = λ t. RecordsFaults model (cover_faults (cover_names t)) b c in
      let Q : Nodes F C K fg cg kg → Type 0 = λ xs. Made k xs (expr_part id) given in
      (subst P made.stands faults, subst Q (sym same) made)

-- ---- what is answered

module _ {F C K : Type 0} {fg : Ghosts F} {cg : Ghosts C} {kg : Ghosts K} where
  pub moved-given : {T : Type 0} (M : Error → Type 0) (view : T → Tree F C K) (given : Tree F C K) (k : ℕ)
      (ns : Nodes F C K fg cg kg)
      (answer : Result ExprId Error) (r : Result T Error) → unmarked given ≡ given
      → IfOk answer (λ id. Made k ns (expr_part id) given)
      → MatchResult answer (λ x. MatchResult r (λ t. view t ≡ bare_at ns x.0) M) (λ e. r ≡ Err e)
      → MatchResult answer (λ x. MatchResult r (λ t. view t ≡ given) M) (λ e. r ≡ Err e)
  moved-given M view given k ns (Ok x) (Ok t) bare made m = m ∙ ap unmarked made.stands ∙ bare
  moved-given M view given k ns (Ok x) (Err e) bare made m = m
  moved-given M view given k ns (Err e) r bare made m = m

-- What looking for the names does and answers, from one state of the buffer to another.
pub record MeetsVerification {S T F C K : Type 0} (model : Model S) (given : Tree F C K) (view : T → Tree F C K)
    (b : Buffer S) (r : Result T Error) (c : Buffer S) : Type 0 where
  pub acts : Tries model b r c
  pub tree : IfOk r (λ x. view x ≡ given)
  pub records : Loud model b → OnOk r (RecordsAll model (cover_faults (cover_names given)) b c)
  pub current : Loud model b → is_fit (current b) ≡ true → OnOk r (Appends model (cover_faults (cover_names given)) b c)
  pub listed : Loud model b → (ts : List TokenAndSpan) → Known model b ts → begins_fit ts ≡ true
      → OnOk r (Appends model (cover_faults (cover_names given)) b c)
  pub silent : is_silent (state_of model b) ≡ true → OnOk r (c ≡ b)

module _ {S T F C K : Type 0} (model : Model S) (given : Tree F C K) (view : T → Tree F C K) (b c : Buffer S)
    (at : BytePos) where
  abbrev Meets : Result T Error → Type 0
  Meets r = MeetsVerification model given view b r c

  pub meets-verification : (answer : Result ExprId Error) (r : Result T Error)
      → TriesFaults model (cover_faults (cover_names given)) b answer c
      → MatchResult answer (λ x. MatchResult r (λ t. view t ≡ given) (λ e. e ≡ no_memory at)) (λ e. r ≡ Err e) → Meets r
  meets-verification (Ok x) (Ok t) w m = record {
    acts = w.leads;
    tree = m;
    records = w.records;
    current = w.current;
    listed = w.listed;
    silent = w.silent;
  }
  meets-verification (Ok x) (Err e) w m = record {
    acts = record { spends = spent w.leads; kind = ap (λ v. v.kind) m };
    tree = tt;
    records = λ l. tt;
    current = λ l f. tt;
    listed = λ l ts k f. tt;
    silent = λ s. tt;
  }
  meets-verification (Err e) (Ok t) w m = absurd cc
  meets-verification (Err e) (Err x) w m = subst Meets (sym m) (record {
    acts = w;
    tree = tt;
    records = λ l. tt;
    current = λ l f. tt;
    listed = λ l ts k f. tt;
    silent = λ s. tt;
  })

-- ---- what is promised

module _ {S H T F C K : Type 0} {fg : Ghosts F} {cg : Ghosts C} {kg : Ghosts K} {model : Model S} {given : Tree F C K}
    {view : T → Tree F C K} where
  -- a parser that has failed
  pub verification-again : {p : Parser S H F C K fg cg kg} {e : Error}
      → (has_failed p ≡ true) × (e ≡ parser_failed (previous (buffer_of p)))
      → PromisedVerification model given view p (Err e) p
  verification-again h = record {
    again = λ failed. (refl, ap (λ x. Err x) h.1);
    acts = λ runs. absurd (not_both h.0 runs);
    tree = tt;
    records = λ runs. absurd (not_both h.0 runs);
    current = λ runs. absurd (not_both h.0 runs);
    listed = λ runs. absurd (not_both h.0 runs);
    silent = λ runs. absurd (not_both h.0 runs);
    commas = refl;
    nodes = refl;
    fails = λ runs. absurd (not_both h.0 runs);
    bound = refl;
    shallow = λ runs. absurd (not_both h.0 runs);
  }

  -- the buffer, the nodes and the commas before the parser remembers that it is out of memory
  pub promised-verification : {p q : Parser S H F C K fg cg kg} {f : Bool × ℕ} (b : Buffer S) (ns : Nodes F C K fg cg kg)
      (cs : TrailingCommas)
      (a r : Result T Error) → has_failed p ≡ false → f ≡ standing p
      → r ≡ a → buffer_of q ≡ b → nodes_of q ≡ ns → commas_of q ≡ cs → Ends f a q
      → MeetsVerification model given view (buffer_of p) a b
      → cs ≡ commas_of p → SameNodes (nodes_of p) ns → PromisedVerification model given view p r q
  promised-verification {p} {q} b ns cs a r runs same e buffer nodes commas fails done same_commas kept =
      let meets : MeetsVerification model given view (buffer_of p) r (buffer_of q) = rw (e, buffer) done in
      record {
        again = λ failed. absurd (not_both failed runs);
        acts = λ w. meets.acts;
        tree = meets.tree;
        records = λ w. meets.records;
        current = λ w. meets.current;
        listed = λ w. meets.listed;
        silent = λ w. meets.silent;
        commas = commas ∙ same_commas;
        nodes = rw (nodes) kept;
        fails = λ w. failing a r runs same e fails;
        bound = bounded a same fails;
        shallow = λ w. shallow a r e fails;
      }
