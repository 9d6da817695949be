-- The calls of a buffer and of a parser keep the context, and no more tokens are to come.
use Rattle.std.proofs.Common.{◌≡◌, ◌≤◌, ◌<◌, ◌+◌, ℕ, Bool, true, false, List, Result, Ok, Err, refl, ap, arith}
use Rattle.std.specs.Prelude.{OnOk}
use Rattle.swc_context.specs.declared.error.Error.{Error}
use Rattle.swc_ast.specs.{declared.ident.PrivateName.PrivateName, declared.lit.Lit.Lit, declared.spanned.Spanned.Ghosts}
use Rattle.swc_bodies.specs.Readings.{Hook, Reading}
use Rattle.swc_input.specs.{declared.buffer.Buffer.Buffer, declared.token.TokenAndSpan.TokenAndSpan, Source.Model}
use Rattle.program_tokens.specs.{declared.source.ProgramInput.ProgramInput, Source.program_model}
use Rattle.swc_input.specs.Buffer.{context, to_come, Read, Looked}
use Rattle.swc_grammar.specs.{Names.NameKind, Names.Spelling, Symbols.Symbol}
use Rattle.swc_ident.specs.Naming.{SpellsPrivate}
use Rattle.swc_steps.specs.Parsing.{Consumes, Acts}
use Rattle.swc_ecma_parser.specs.Calls.{buffer_of, has_failed, Called, ReadsAName}
use Rattle.swc_ecma_parser.specs.{ForHeads.HeadAnswer, ForHeads.PromisedHead, declared.parser.Parser.Parser}
use Rattle.swc_ecma_parser.specs.Promise.{Answer, Derivation, ParamsAnswer, Promised, PromisedLit, PromisedName, PromisedParams, HookReads}
use Rattle.statement_trees.specs.Contexts.{effort}

module _ {S : Type 0} (model : Model S) where
  abbrev pub Keeps : Buffer S → Buffer S → Type 0
  Keeps b c = (context model c ≡ context model b) × (to_come model c ≤ to_come model b)

module _ {S : Type 0} (model : Model S) where
  looked_keeps : {b c : Buffer S} → Looked model b c → Keeps model b c
  looked_keeps l = (l.look.read.context, l.look.read.lower)

  read_keeps : {b c : Buffer S} {xs : List TokenAndSpan} → Read model b xs c → Keeps model b c
  read_keeps r = (r.context, r.lower)

  -- a token that may have been consumed, with what else is said of it
  pub eaten_keeps : {A B : TokenAndSpan → Type 0} {D : Type 0} {xs : TokenAndSpan → List TokenAndSpan} {b c : Buffer S}
      (r : Bool)
      → (r ≡ true → (x : TokenAndSpan) × A x × Read model b (xs x) c × B x) → (r ≡ false → Looked model b c × D)
      → Keeps model b c
  eaten_keeps true eaten stays = read_keeps (eaten refl).2
  eaten_keeps false eaten stays = looked_keeps (stays refl).0

  consumes_keeps : {T : Type 0} (b c : Buffer S) (r : Result T Error) → Consumes model b r c → Keeps model b c
  consumes_keeps b c (Ok t) h = read_keeps h.leads.read
  consumes_keeps b c (Err e) h = read_keeps h.spends.read

  consumes_falls : {T : Type 0} (b c : Buffer S) (r : Result T Error) → Consumes model b r c
      → OnOk r (to_come model c < to_come model b)
  consumes_falls b c (Ok t) h = h.onward.less
  consumes_falls b c (Err e) h = tt

  -- a private name has its `#` at least
  private_falls : (b c : Buffer S) (r : Result PrivateName Error) → SpellsPrivate model b r c
      → OnOk r (to_come model c < to_come model b)
  private_falls b c (Ok t) h =
      let here = h.sign.looked.look.read.lower in
      let hash = h.sign.took.less in
      let near = h.looked.look.read.lower in
      let name = h.name.read.lower in
      omega (arith, here, hash, near, name)
  private_falls b c (Err e) h = tt

  acts_keeps : {T : Type 0} (b c : Buffer S) (r : Result T Error) → Acts model b r c → Keeps model b c
  acts_keeps b c (Ok t) h = read_keeps h.read
  acts_keeps b c (Err e) h = read_keeps h.spends.read

module _ {S H F C K : Type 0} {fg : Ghosts F} {cg : Ghosts C} {kg : Ghosts K} (model : Model S)
    (p q : Parser S H F C K fg cg kg) where
  same_keeps : q ≡ p → Keeps model (buffer_of p) (buffer_of q)
  same_keeps e =
      let same = ap (λ x. to_come model (buffer_of x)) e in
      (ap (λ x. context model (buffer_of x)) e, omega (arith, same))

  -- a call of a parser, which does nothing where the parser has failed, keeps the context
  either : (failed : Bool) → has_failed p ≡ failed → (has_failed p ≡ true → q ≡ p)
      → (has_failed p ≡ false → Keeps model (buffer_of p) (buffer_of q)) → Keeps model (buffer_of p) (buffer_of q)
  either true h again reads = same_keeps (again h)
  either false h again reads = reads h

  -- and it is refused there
  refused : {T : Type 0} {e : Error} (A : Type 0) (r : Result T Error) → r ≡ Err e → OnOk r A
  refused A (Ok t) h = absurd cc
  refused A (Err e) h = tt

  either_falls : {T : Type 0} {e : Error} (A : Type 0) (r : Result T Error) (failed : Bool) → has_failed p ≡ failed
      → (has_failed p ≡ true → r ≡ Err e) → (has_failed p ≡ false → OnOk r A) → OnOk r A
  either_falls A r true h again reads = refused A r (again h)
  either_falls A r false h again reads = reads h

module _ {S H F C K : Type 0} {fg : Ghosts F} {cg : Ghosts C} {kg : Ghosts K} (model : Model S)
    {p q : Parser S H F C K fg cg kg} where
  pub promised_keeps : {T : Type 0} {sure : Bool} {hook : Hook F C K} {answer : Answer T F C K fg cg kg} {s : Symbol}
      {r : Result T Error}
      → Promised model sure hook answer s p r q → Keeps model (buffer_of p) (buffer_of q)
  promised_keeps {r = r} h = either model p q (has_failed p) refl (λ f. (h.again f).0)
      (λ f. consumes_keeps model _ _ r (h.reads f))

  pub promised_falls : {T : Type 0} {sure : Bool} {hook : Hook F C K} {answer : Answer T F C K fg cg kg} {s : Symbol}
      {r : Result T Error}
      → Promised model sure hook answer s p r q → OnOk r (to_come model (buffer_of q) < to_come model (buffer_of p))
  promised_falls {r = r} h = either_falls model p q _ r (has_failed p) refl (λ f. (h.again f).1)
      (λ f. consumes_falls model _ _ r (h.reads f))

  pub head_keeps : {T : Type 0} {sure : Bool} {hook : Hook F C K} {answer : HeadAnswer T F C K fg cg kg}
      {is_await : Bool} {r : Result T Error}
      → PromisedHead model sure hook answer is_await p r q → Keeps model (buffer_of p) (buffer_of q)
  head_keeps {r = r} h = either model p q (has_failed p) refl (λ f. (h.again f).0)
      (λ f. consumes_keeps model _ _ r (h.promise f).reads)

  pub body_keeps : {V : Type 0} {sure : Bool} {reads : Reading V} {r : Result V Error}
      → Called (HookReads model sure reads) p r q → Keeps model (buffer_of p) (buffer_of q)
  body_keeps {r = r} h = either model p q (has_failed p) refl (λ f. (h.again f).0)
      (λ f. consumes_keeps model _ _ r (h.effect f).consumes)

  pub body_falls : {V : Type 0} {sure : Bool} {reads : Reading V} {r : Result V Error}
      → Called (HookReads model sure reads) p r q → OnOk r (to_come model (buffer_of q) < to_come model (buffer_of p))
  body_falls {r = r} h = either_falls model p q _ r (has_failed p) refl (λ f. (h.again f).1)
      (λ f. consumes_falls model _ _ r (h.effect f).consumes)

  pub name_keeps : {T : Type 0} {Names : Buffer S → Result T Error → Buffer S → Type 0} {r : Result T Error}
      → Called (ReadsAName model Names) p r q → Keeps model (buffer_of p) (buffer_of q)
  name_keeps h = either model p q (has_failed p) refl (λ f. (h.again f).0) (λ f. read_keeps model (h.effect f).read.1)

  pub spelled_keeps : {T : Type 0} {Names : Buffer S → Result T Error → Buffer S → Type 0}
      {derives : Derivation Spelling} {kind : NameKind}
      {view : T → Spelling} {r : Result T Error} → Called (PromisedName model Names derives kind view) p r q
      → Keeps model (buffer_of p) (buffer_of q)
  spelled_keeps h = either model p q (has_failed p) refl (λ f. (h.again f).0)
      (λ f. read_keeps model (h.effect f).read.1)

  pub hash_falls : {derives : Derivation Spelling} {kind : NameKind} {view : PrivateName → Spelling}
      {r : Result PrivateName Error}
      → Called (PromisedName model (SpellsPrivate model) derives kind view) p r q
      → OnOk r (to_come model (buffer_of q) < to_come model (buffer_of p))
  hash_falls {r = r} h = either_falls model p q _ r (has_failed p) refl (λ f. (h.again f).1)
      (λ f. private_falls model _ _ r (h.effect f).names)

  pub literal_keeps : {hook : Hook F C K} {r : Result Lit Error} → Called (PromisedLit model hook) p r q
      → Keeps model (buffer_of p) (buffer_of q)
  literal_keeps {r = r} h = either model p q (has_failed p) refl (λ f. (h.again f).0)
      (λ f. consumes_keeps model _ _ r (h.effect f).reads)

  pub params_keep : {T : Type 0} {sure : Bool} {hook : Hook F C K} {answer : ParamsAnswer T F C K fg cg kg}
      {r : Result T Error}
      → PromisedParams model sure hook answer p r q → Keeps model (buffer_of p) (buffer_of q)
  params_keep {r = r} h = either model p q (has_failed p) refl (λ f. (h.again f).0)
      (λ f. acts_keeps model _ _ r (h.acts f))

-- what is left to do, where as much is due, and no more tokens are to come, or fewer
module _ (b c : Buffer ProgramInput) (n : ℕ) where
  pub lower_effort : to_come program_model c ≤ to_come program_model b → effort c n ≤ effort b n
  unfolding effort
  lower_effort h = omega (arith, h)

  pub takes_effort : to_come program_model c < to_come program_model b → effort c n + 5 ≤ effort b n
  unfolding effort
  takes_effort h = omega (arith, h)

-- of a call that answers
module _ {T : Type 0} (b c : Buffer ProgramInput) (n : ℕ) (r : Result T Error) where
  pub takes_ok : OnOk r (to_come program_model c < to_come program_model b) → OnOk r (effort c n + 5 ≤ effort b n)
  takes_ok h = ok r h
    where
      ok : (r : Result T Error) → OnOk r (to_come program_model c < to_come program_model b)
          → OnOk r (effort c n + 5 ≤ effort b n)
      ok (Ok t) h = takes_effort b c n h
      ok (Err e) h = tt
