-- Private names: what the call answers is what the clean reader of a `#` and a name reads.
use Rattle.std.proofs.Common.{◌≡◌, ℕ, Bool, true, false, ◌&&◌, if◌then◌else◌, List, Option, Some, None, Result, Ok, Err, refl}
use Rattle.swc_context.specs.{declared.error.Error.Error, declared.span.BytePos.BytePos, declared.span.Span.Span}
use Rattle.swc_input.specs.{declared.buffer.Buffer.Buffer, declared.token.TokenAndSpan.TokenAndSpan, Source.Model, Source.Laws, Kinds.is_hash}
use Rattle.swc_ast.specs.Trees.{to}
use Rattle.swc_grammar.specs.Names.{Spelling, spelling, may_name}
use Rattle.swc_grammar.specs.Words.{◌>>=◌, rest, begins_at, hash_by, hash_word, word}
use Rattle.swc_grammar.specs.{Scope.Scope, Clean.Out, Clean.first}
use Rattle.swc_ident.specs.Naming.{PrivateNames}
use Rattle.swc_steps.specs.{Args.hash_name, Parsing.Parses}
use Rattle.swc_steps.specs.Args as args
use Rattle.swc_steps.proofs.{PrivateNames.heard_private, PrivateNames.unheard_private, Steps.heard_call, Steps.unheard_call}

-- the name, without where it ends
abbrev alone : Scope → (Spelling × BytePos) × List TokenAndSpan → Out Spelling
alone c p = Some (p.0.0, p.1)

named_alone : (s : Span) (c : Scope) (o : Out Spelling) →
    (o >>= (λ r. Some (spelling r.0.text (to s r.0.at), r.1))) ≡ ((o >>=
    (λ r. Some ((spelling r.0.text (to s r.0.at), r.0.at.hi), r.1))) >>= alone c)
named_alone s c None = refl
named_alone s c (Some r) = refl

if_alone : (b : Bool) (c : Scope) (o : Out Spelling) (p : Out (Spelling × BytePos)) → o ≡ (p >>= alone c)
    → (if b then o else None) ≡ ((if b then p else None) >>= alone c)
if_alone true c o p e = e
if_alone false c o p e = refl

hash_alone : (c : Scope) (o : Option TokenAndSpan) (us : List TokenAndSpan)
    → hash_by c o us ≡ (args.hash_by c o us >>= alone c)
hash_alone c None us = refl
hash_alone c (Some t) us = if_alone (is_hash t.token && begins_at t.span (first us)) c _ _
    (named_alone t.span c (word may_name c us))

word_alone : (c : Scope) (ts : List TokenAndSpan) → hash_word c ts ≡ (hash_name c ts >>= alone c)
unfolding hash_word hash_name
word_alone c ts = hash_alone c (first ts) (rest ts)

module _ {S : Type 0} (model : Model S) (sure : Bool) where
  pub parses_private : {T : Type 0} (text : T → List ℕ) (at : T → Span) (b c : Buffer S) (r : Result T Error)
      → Laws model → PrivateNames model text at b r c →
      Parses model sure (λ t. spelling (text t) (at t)) hash_word b r c
  parses_private text at b c (Ok t) laws h = heard_call alone word_alone (λ x ts. refl) (heard_private laws h)
  parses_private text at b c (Err e) laws h = unheard_call alone word_alone (unheard_private laws h)
