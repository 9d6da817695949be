-- Which link comes next, by the current token, and by the one after a `?`.
use Rattle.std.proofs.Common.{◌≡◌, Bool, true, Option, Some, None, refl, ap, ◌∙◌}
use Rattle.swc_input.specs.{declared.buffer.Buffer.Buffer, declared.token.Token.Token, declared.token.Token.Token as token, declared.token.TokenAndSpan.TokenAndSpan, Plain.plain, Plain.plain_token, Source.Model, Kinds.at_token}
use Rattle.swc_grammar.specs.{Clean.first, Tokens.is_dot, Tokens.is_question, Words.rest}
use Rattle.swc_grammar.proofs.Only.{question-is}
use Rattle.swc_left.specs.declared.left.Link.{Link}
use Rattle.swc_left.specs.Links.{link_at, chain_at, link_here}
use Rattle.swc_steps.specs.Parsing.{seen, seen_of, Told}

plain_dot : (t : Token) → is_dot (plain_token t) ≡ is_dot t
plain_dot (token.Template raw cooked) = refl
plain_dot (token.Error e) = refl
plain_dot t = refl

pub plain_chain : (t : TokenAndSpan) → chain_at (Some (plain t)) ≡ chain_at (Some t)
plain_chain t = rw (plain_dot t.token) refl

link_chain : (b : Bool) (o u : Option TokenAndSpan) → at_token is_question o ≡ true → link_at b o u ≡ chain_at u
link_chain b None u h = absurd cc
link_chain b (Some t) u h = rw (question-is t.token h) refl

module _ {S : Type 0} {model : Model S} where
  chained : {b c : Buffer S} {k : Option Link} (n : Bool) → Told model (λ ts. chain_at (first (rest ts))) k b c
      → at_token is_question (seen b) ≡ true → Told model (link_here n) k b c
  chained {b} n t q = record {
    laws = t.laws;
    still = t.still;
    current = t.current;
    lives = t.lives;
    told = λ ts fut here.
        ap (λ o. link_at n o (first (rest ts))) (here ∙ ap seen_of t.current)
        ∙ link_chain n (seen b) (first (rest ts)) q ∙ t.told ts fut here;
  }
