-- Which pattern the current token begins (14.3.3), and what is left of an object pattern after its brace.
use Rattle.std.proofs.Common.{◌≡◌, Bool, true, false, if◌then◌else◌, List, ◌∷◌, Option, Some, Result, refl, ap, ◌∙◌}
use Rattle.swc_context.specs.{declared.error.Error.Error, declared.span.BytePos.BytePos}
use Rattle.swc_input.specs.{declared.buffer.Buffer.Buffer, declared.token.Token.Token, declared.token.TokenAndSpan.TokenAndSpan, Buffer.Bumped, Kinds.at_token, Plain.plain, Source.Model}
use Rattle.swc_ast.specs.Tree.{Tree}
use Rattle.swc_bodies.specs.Readings.{Hook, is_brace}
use Rattle.swc_grammar.specs.Clean.{Out, sym as at, run}
use Rattle.swc_grammar.specs.{Grammar.pat-object, Scope.Scope, Symbols.Pat, Symbols.PatProps, Tokens.is_lbracket, Words.◌>>=◌}
use Rattle.swc_input.specs.Calls.{Here}
use Rattle.swc_steps.specs.Parsing.{On, Unheard, Parses, Continues, seen}
use Rattle.swc_steps.specs.Readers.{by_production}
use Rattle.swc_steps.proofs.Rules.{passes_plain}
use Rattle.swc_steps.proofs.Steps as s
use Rattle.swc_patterns.specs.Objects.{object_pat_of, object_pat_from, props_done}
use Rattle.swc_patterns.specs.{Arrays.pat_kind, declared.pat.PatKind.PatKind, declared.pat.PatKind.PatKind as kind}
use Rattle.swc_patterns.proofs.{Arrays.pat_object_picked, Arrays.pat_object_opens, Leaving.on_bind}

abbrev kind_by : Bool → Bool → PatKind
kind_by a b = if a then kind.Array else (if b then kind.Object else kind.Plain)

array_by : (a b : Bool) → kind_by a b ≡ kind.Array → a ≡ true
array_by true b h = refl
array_by false true h = cc
array_by false false h = cc

object_by : (a b : Bool) → kind_by a b ≡ kind.Object → b ≡ true
object_by true b h = cc
object_by false true h = refl
object_by false false h = cc

pub is_array : (t : Option TokenAndSpan) → pat_kind t ≡ kind.Array → at_token is_lbracket t ≡ true
is_array t h = array_by (at_token is_lbracket t) (at_token is_brace t) h

pub is_object : (t : Option TokenAndSpan) → pat_kind t ≡ kind.Object → at_token is_brace t ≡ true
is_object t h = object_by (at_token is_lbracket t) (at_token is_brace t) h

module _ {F C K : Type 0} (hook : Hook F C K) where
  -- after the brace, where the pattern begins at lo
  abbrev object_rest : BytePos → Scope → List TokenAndSpan → Out (Tree F C K)
  object_rest lo x ts = run hook (at PatProps) x ts >>= (λ p. Some (object_pat_of lo p.0, p.1))

  object_opens : {S : Type 0} {model : Model S} {b c : Buffer S} {k : Token} {lo : BytePos}
      → pat_kind (seen b) ≡ kind.Object → (took : Bumped model b k c) → took.was.span.lo ≡ lo
      → (x : Scope) (ts : List TokenAndSpan)
      → by_production hook (λ c. pat-object) x (plain took.was ∷ ts) ≡ object_rest lo x ts
  object_opens {b = b} k took place x ts =
      pat_object_opens hook (plain took.was) x ts (passes_plain is_brace _ _ took.current (is_object (seen b) k))
      ∙ ap (λ v. object_rest v x ts) place

module _ {S F C K : Type 0} {model : Model S} {sure : Bool} (hook : Hook F C K) where
  object_begins : {a b : Buffer S} → Here model a b → pat_kind (seen b) ≡ kind.Object
      → On model sure (run hook (at Pat)) (by_production hook (λ c. pat-object)) a b
  object_begins {b = b} h k =
      s.on_seen h (λ x ts same e. pat_object_picked hook x ts (ap (at_token is_brace) e ∙ is_object (seen b) k))

  pub object_refused : {a b c d : Buffer S} {k : Token} {e : Error} → Here model a b → pat_kind (seen b) ≡ kind.Object
      → Bumped model b k c → Unheard model sure (run hook (at PatProps)) c e d
      → Unheard model sure (run hook (at Pat)) a e d
  object_refused h is took u =
      s.unheard_after (object_begins h is)
      (s.unheard_after (s.on_took {g = object_rest hook took.was.span.lo} h.laws took
      (λ x ts. object_opens hook is took refl x ts))
      (s.unheard_call (λ x p. Some (object_pat_of took.was.span.lo p.0, p.1)) (λ x ts. refl) u))

  -- after the properties l, where the rests among them are checked
  pub object_reads : {T : Type 0} (view : T → Tree F C K) (l : Tree F C K) (r : Result T Error)
      {a b c d : Buffer S} (e : Buffer S) {k : Token} {lo : BytePos} → Here model a b → pat_kind (seen b) ≡ kind.Object
      → (took : Bumped model b k c) → took.was.span.lo ≡ lo → On model sure (run hook (at PatProps)) (props_done l) c d
      → Continues model sure view (object_pat_from lo l) d r e → Parses model sure view (run hook (at Pat)) a r e
  object_reads view l r e {lo = lo} h is took place props reads =
      s.parses_after model sure view (run hook (at Pat)) e r (object_begins h is)
      (s.parses_first model sure view (by_production hook (λ c. pat-object)) {g = object_rest hook lo} h.laws took
      (λ x ts. object_opens hook is took place x ts) e r
      (s.continues_after model sure view (object_rest hook lo) e r
      (on_bind (λ x p. Some (object_pat_of lo p.0, p.1)) (λ x ts. refl) props (λ x ts. refl)) reads))
