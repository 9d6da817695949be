-- What a property is, by the token that it begins with and the one after it.
use Rattle.std.proofs.Common.{◌≡◌, Bool, true, false, List, [], ◌∷◌, Option, Some, None, Result, Ok, Err, IsSome, MatchOption, refl, sym, ap, ◌∙◌}
use Rattle.swc_context.specs.{declared.error.Error.Error, declared.span.Span.Span}
use Rattle.swc_input.specs.{declared.buffer.Buffer.Buffer, declared.token.Token.Token, declared.token.Token.Token as token, declared.token.TokenAndSpan.TokenAndSpan, Plain.plain_token, Source.Model, Source.Laws, Buffer.Peeked, Buffer.current, Kinds.at_token, Laws.Read-same}
use Rattle.swc_grammar.specs.{Clean.first, Clean.second, Tokens.tk, Tokens.is_word, Words.rest}
use Rattle.swc_primary.specs.Properties.{by_modifier, kind_at, kind_of, modifier_of, word_kind, sign_kind, prop_kind}
use Rattle.swc_primary.specs.{declared.modifiers.Modifier.Modifier, declared.modifiers.PropKind.PropKind}
use Rattle.swc_steps.specs.Parsing.{seen, seen_of, Told, Tells}
use Rattle.swc_steps.proofs.Ahead.{peeked_first, is_some_none}

pub plain_kind : (m : Modifier) (t : Token) → kind_at m (plain_token t) ≡ kind_at m t
plain_kind m (token.Template raw cooked) = refl
plain_kind m (token.Error e) = refl
plain_kind m t = refl

behind_first : (ts : List TokenAndSpan) → second ts ≡ first (rest ts)
behind_first [] = refl
behind_first (t ∷ ts) = refl

true_false : {P : Type 0} → true ≡ false → P
true_false e = absurd cc

-- by a word, and by another token
word_token : (v : Token) (b : Bool) (s : Span) (us : List TokenAndSpan) → is_word v ≡ true
    → prop_kind (tk v b s ∷ us) ≡ word_kind (Some (tk v b s)) (first us)
word_token (token.Word w) b s us h = refl
word_token v b s us h = absurd cc

word_is : (ts : List TokenAndSpan) → at_token is_word (first ts) ≡ true
    → prop_kind ts ≡ word_kind (first ts) (second ts)
word_is [] h = absurd cc
word_is (t ∷ ts) h = word_token t.token t.had_line_break t.span ts h

sign_is : (ts : List TokenAndSpan) → at_token is_word (first ts) ≡ false → prop_kind ts ≡ sign_kind (first ts)
sign_is ts h = rw h refl

none_next : (o : Option TokenAndSpan) (a : Option PropKind) (n : Modifier) → a ≡ None
    → MatchOption o (a ≡ None) (λ t. a ≡ Some (kind_at n t.token)) → o ≡ None
none_next None a n e m = refl
none_next (Some t) a n e m = cc

some_next : (o : Option TokenAndSpan) (a : Option PropKind) (n : Modifier) (k : PropKind) → a ≡ Some k
    → MatchOption o (a ≡ None) (λ t. a ≡ Some (kind_at n t.token)) → (IsSome o) × (kind_of n (seen_of o) ≡ k)
some_next None a n k e m = cc
some_next (Some t) a n k e m = (refl, plain_kind n t.token ∙ cc)

module _ {S : Type 0} {model : Model S} (laws : Laws model) where
  -- no word begins it
  pub tells_sign : (b : Buffer S) (k : PropKind) → k ≡ sign_kind (seen b) → at_token is_word (seen b) ≡ false
      → Told model prop_kind k b b
  tells_sign b k e n = record {
    laws = laws;
    still = record { read = Read-same laws b; previous = refl; quiet = λ m h. (refl, refl) };
    current = refl;
    lives = λ f. f;
    told = λ ts fut here. sign_is ts (ap (at_token is_word) here ∙ n) ∙ ap sign_kind here ∙ sym e;
  }

  -- what is after a word
  pub tells_some : {b c : Buffer S} {a : Option PropKind} (n : Modifier) (k : PropKind) → a ≡ Some k → Peeked model b c
      → IsSome (current b) → MatchOption c.next (a ≡ None) (λ t. a ≡ Some (kind_at n t.token))
      → Told model (λ ts. kind_of n (first (rest ts))) k b c
  tells_some {b} {c} {a} n k e p some m =
      let w = some_next c.next a n k e m in record {
        laws = laws;
        still = p.look;
        current = p.current;
        lives = p.lives w.0;
        told = λ ts fut here. ap (λ v. kind_of n v) (peeked_first laws p some (λ none. is_some_none w.0 none) ts fut)
            ∙ w.1;
      }

  pub tells_none : {b c : Buffer S} {a : Option PropKind} (n : Modifier) (k : PropKind) → a ≡ None → Peeked model b c
      → IsSome (current b) → MatchOption c.next (a ≡ None) (λ t. a ≡ Some (kind_at n t.token))
      → (model.state c.iter).failed ≡ false → k ≡ by_modifier n false
      → Told model (λ ts. kind_of n (first (rest ts))) k b c
  tells_none {b} {c} {a} n k e p some m runs same =
      let none = none_next c.next a n e m in record {
        laws = laws;
        still = p.look;
        current = p.current;
        lives = λ f. absurd (true_false (sym f ∙ runs));
        told = λ ts fut here.
            ap (λ v. kind_of n v) (peeked_first laws p some (λ n. runs) ts fut ∙ ap seen_of none) ∙ sym same;
      }

module _ {S : Type 0} {model : Model S} where
  tells_word : {b c : Buffer S} {k : PropKind} (n : Modifier) → Told model (λ ts. kind_of n (first (rest ts))) k b c
      → n ≡ modifier_of (seen b) → at_token is_word (seen b) ≡ true → Told model prop_kind k b c
  tells_word {b} {c} n t by_word w = record {
    laws = t.laws;
    still = t.still;
    current = t.current;
    lives = t.lives;
    told = λ ts fut here.
        let same : first ts ≡ seen b = here ∙ ap seen_of t.current in
        word_is ts (ap (at_token is_word) same ∙ w)
        ∙ ap (λ v. kind_of v (second ts)) (ap modifier_of same ∙ sym by_word)
        ∙ ap (λ v. kind_of n v) (behind_first ts) ∙ t.told ts fut here;
  }

pub tells_by_word : {S : Type 0} (model : Model S) (b c : Buffer S) (n : Modifier) (r : Result PropKind Error)
    → Tells model (λ ts. kind_of n (first (rest ts))) b r c
    → n ≡ modifier_of (seen b) → at_token is_word (seen b) ≡ true → Tells model prop_kind b r c
tells_by_word model b c n (Ok k) t by_word w = tells_word n t by_word w
tells_by_word model b c n (Err e) t by_word w = t
