-- From what the body of a call does to what the call promises: of a parser that has failed, and of any other.
use Rattle.std.proofs.Common.{◌≡◌, ◌≢◌, ℕ, Bool, true, false, ◌||◌, Result, Err, MatchResult, refl, sym, ap, ◌∙◌}
use Rattle.swc_context.specs.{declared.error.Error.Error, declared.error.SyntaxError.TheVariants.OutOfMemory}
use Rattle.swc_input.specs.{declared.buffer.Buffer.Buffer, Source.Model, Buffer.previous}
use Rattle.swc_ast.specs.declared.spanned.Spanned.{Ghosts}
use Rattle.swc_bodies.specs.Readings.{Hook}
use Rattle.swc_grammar.specs.Symbols.{Symbol}
use Rattle.swc_nodes.specs.{declared.commas.TrailingCommas.TrailingCommas, declared.nodes.Nodes.Nodes}
use Rattle.swc_ecma_parser.specs.declared.parser.Parser.{Parser}
use Rattle.swc_ecma_parser.specs.Calls.{buffer_of, nodes_of, commas_of, has_failed, bound_of, met_bound, wants_memory, standing, Ends, parser_failed, Called}
use Rattle.swc_ecma_parser.specs.Promise.{Answer, Promised, RemembersAll}
use Rattle.swc_ecma_parser.proofs.Top.{Meets}

pub not_both : {b : Bool} → b ≡ true → b ≡ false → ⊥
not_both t f = let e : true ≡ false = sym t ∙ f in cc

module _ {S H F C K T : Type 0} {fg : Ghosts F} {cg : Ghosts C} {kg : Ghosts K} {q : Parser S H F C K fg cg kg}
    {was : Bool × ℕ} where
  -- a parser that ran has failed where it answers out of memory
  pub failing : {f : Bool} {n : ℕ} (a r : Result T Error) → f ≡ false → was ≡ (f, n) → r ≡ a → Ends was a q
      → has_failed q ≡ wants_memory r
  failing a r runs same e h =
      h.failed ∙ ap (λ v. v || wants_memory a) (ap (λ v. v.0) same ∙ runs) ∙ ap (λ v. wants_memory v) (sym e)

  -- its bound stays
  pub bounded : {f : Bool} {n : ℕ} (a : Result T Error) → was ≡ (f, n) → Ends was a q → bound_of q ≡ n
  bounded a same h = h.bound ∙ ap (λ v. v.1) same

  -- and was met only there
  pub shallow : (a r : Result T Error) → r ≡ a → Ends was a q → wants_memory r ≡ false → met_bound q ≡ false
  shallow a r e h enough = h.shallow (ap (λ v. wants_memory v) (sym e) ∙ enough)

module _ {S H F C K T : Type 0} {fg : Ghosts F} {cg : Ghosts C} {kg : Ghosts K} where
  pub called-again : {Effect : Buffer S → Result T Error → Buffer S → Type 0} {p : Parser S H F C K fg cg kg}
      {e : Error} → (has_failed p ≡ true) × (e ≡ parser_failed (previous (buffer_of p))) → Called Effect p (Err e) p
  called-again h = record {
    again = λ failed. (refl, ap (λ x. Err x) h.1);
    effect = λ runs. absurd (not_both h.0 runs);
    nodes = refl;
    commas = refl;
    fails = λ runs. absurd (not_both h.0 runs);
    bound = refl;
    shallow = λ runs. absurd (not_both h.0 runs);
  }

  pub called : {Effect : Buffer S → Result T Error → Buffer S → Type 0} {p q : Parser S H F C K fg cg kg} {b : Buffer S}
      {f : Bool × ℕ} (a r : Result T Error) → has_failed p ≡ false → f ≡ standing p →
      r ≡ a → buffer_of q ≡ b → nodes_of q ≡ nodes_of p → commas_of q ≡ commas_of p
      → Ends f a q → Effect (buffer_of p) a b → Called Effect p r q
  called a r runs same e buffer nodes commas fails done = record {
    again = λ failed. absurd (not_both failed runs);
    effect = λ w. rw (e, buffer) done;
    nodes = nodes;
    commas = commas;
    fails = λ w. failing a r runs same e fails;
    bound = bounded a same fails;
    shallow = λ w. shallow a r e fails;
  }

module _ {S H T F C K : Type 0} {fg : Ghosts F} {cg : Ghosts C} {kg : Ghosts K} {model : Model S} {sure : Bool}
    {hook : Hook F C K} {answer : Answer T F C K fg cg kg} {s : Symbol} where
  pub promised-again : {p : Parser S H F C K fg cg kg} {e : Error}
      → (has_failed p ≡ true) × (e ≡ parser_failed (previous (buffer_of p)))
      → answer.leaves (nodes_of p) (Err e) (nodes_of p) → Promised model sure hook answer s p (Err e) p
  promised-again h leaves = record {
    again = λ failed. (refl, ap (λ x. Err x) h.1);
    reads = λ runs. absurd (not_both h.0 runs);
    sound = λ runs. absurd (not_both h.0 runs);
    complete = λ runs. absurd (not_both h.0 runs);
    one_tree = λ runs. absurd (not_both h.0 runs);
    grouped = λ runs. absurd (not_both h.0 runs);
    valid = λ runs. absurd (not_both h.0 runs);
    privates = λ runs. absurd (not_both h.0 runs);
    commas = λ n. refl;
    nodes = leaves;
    fails = λ runs. absurd (not_both h.0 runs);
    bound = refl;
    shallow = λ runs. absurd (not_both h.0 runs);
  }

  -- the buffer, the nodes and the commas before the parser remembers that it is out of memory
  pub promised : {p q : Parser S H F C K fg cg kg} {f : Bool × ℕ} (b : Buffer S) (ns : Nodes F C K fg cg kg)
      (cs : TrailingCommas) (a r : Result T Error) → has_failed p ≡ false → f ≡ standing p →
      r ≡ a → buffer_of q ≡ b → nodes_of q ≡ ns → commas_of q ≡ cs → Ends f a q
      → Meets model sure (answer.derives hook s) (answer.tree ns) s (buffer_of p) a b
      → MatchResult a (λ x. RemembersAll model (answer.marked hook s) answer.strip (answer.tree ns x) (buffer_of p) b
      (commas_of p) cs) (λ x. x.kind ≢ OutOfMemory → cs ≡ commas_of p)
      → answer.leaves (nodes_of p) a ns → Promised model sure hook answer s p r q
  promised {p} {q} b ns cs a r runs same e buffer nodes commas fails done remembers leaves =
      let left : answer.leaves (nodes_of p) r (nodes_of q) = rw (e, nodes) leaves in
      let meets : Meets model sure (answer.derives hook s) (answer.tree (nodes_of q)) s (buffer_of p) r (buffer_of q) =
      rw (e, buffer, nodes) done in
      record {
        again = λ failed. absurd (not_both failed runs);
        reads = λ w. meets.reads;
        sound = λ w. meets.sound;
        complete = λ w. meets.complete;
        one_tree = λ w. meets.one_tree;
        grouped = λ w. meets.grouped;
        valid = λ w. meets.valid;
        privates = λ w. meets.privates;
        commas = rw (e, buffer, nodes, commas) remembers;
        nodes = left;
        fails = λ w. failing a r runs same e fails;
        bound = bounded a same fails;
        shallow = λ w. shallow a r e fails;
      }
