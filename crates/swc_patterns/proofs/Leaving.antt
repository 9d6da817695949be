-- Calls that don't read all that they are to read, but leave some of it.
use Rattle.std.proofs.Common.{◌≡◌, ℕ, Bool, List, ◌++◌, Result, Ok, Err, MatchResult, sym, ap, subst, ◌∙◌}
use Rattle.swc_context.specs.{declared.error.Error.Error, Contexts.view as deciding}
use Rattle.swc_input.specs.{declared.buffer.Buffer.Buffer, declared.token.TokenAndSpan.TokenAndSpan, Buffer.context, Source.Model}
use Rattle.swc_ast.specs.declared.spanned.Spanned.{Ghosts}
use Rattle.swc_grammar.specs.{Scope.Scope, Words.◌>>=◌, Clean.Out}
use Rattle.swc_nodes.specs.{GrowingNodes.Grows, declared.nodes.Nodes.Nodes}
use Rattle.swc_steps.specs.Parsing.{scope, Moves, On, Unheard}
use Rattle.swc_steps.specs.declared.productions.Productions.{Productions}
use Rattle.swc_steps.proofs.Steps.{Reader, less, read_scope, parses_aside}
use Rattle.swc_patterns.specs.Answers.{Leaves}

module _ {S : Type 0} {model : Model S} {sure : Bool} where
  -- q is called, of which r is left, and k goes on
  pub on_bind : {A B : Type 0} {f g : Reader A} {q r : Reader B} {b c : Buffer S}
      (k : Scope → B × List TokenAndSpan → Out A) → ((x : Scope) (ts : List TokenAndSpan) → f x ts ≡ (q x ts >>= k x))
      → On model sure q r b c → ((x : Scope) (ts : List TokenAndSpan) → g x ts ≡ (r x ts >>= k x))
      → On model sure f g b c
  on_bind {r = r} {b = b} {c = c} k step o left = record {
    leads = o.leads;
    clean = λ l s ys f.
        step (scope model b) (o.leads.taken ++ ys) ∙ ap (λ v. v >>= k (scope model b)) (o.clean l s ys f)
        ∙ ap (λ x. r (scope model c) ys >>= k x) (sym (read_scope o.leads.laws o.leads.read))
        ∙ sym (left (scope model c) ys);
    faulty = λ y l lt ts h. step (scope model b) ts ∙ ap (λ v. v >>= k (scope model b)) (o.faulty y l lt ts h);
  }

  pub leaves_ok : {T A : Type 0} {f : Reader A} (g : T → Reader A) {b c : Buffer S} (r : Result T Error) (x : T)
      → r ≡ Ok x → MatchResult r (λ t. On model sure f (g t) b c) (λ e. Unheard model sure f b e c)
      → On model sure f (g x) b c
  leaves_ok {f = f} g {b} {c} (Ok y) x e h = let same : y ≡ x = cc in subst (λ v. On model sure f (g v) b c) same h
  leaves_ok g (Err y) x e h = cc

  pub leaves_err : {T A : Type 0} {f : Reader A} (g : T → Reader A) {b c : Buffer S} (r : Result T Error) (x : Error)
      → r ≡ Err x → MatchResult r (λ t. On model sure f (g t) b c) (λ e. Unheard model sure f b e c)
      → Unheard model sure f b x c
  leaves_err g (Ok y) x e h = cc
  leaves_err {f = f} g {b} {c} (Err y) x e h =
      let same : y ≡ x = cc in subst (λ v. Unheard model sure f b v c) same h

  -- refused in a context that differs in flags which decide nothing
  pub unheard_aside : {A : Type 0} {f : Reader A} {b c d e : Buffer S} {x : Error} → Moves model b c
      → deciding (context model c) ≡ deciding (context model b) → Unheard model sure f c x d
      → Moves model d e → context model e ≡ context model b → Unheard model sure f b x e
  unheard_aside {A = A} {f = f} {x = x} m to u n back = parses_aside model sure {T = A} (λ a. a) f (Err x) m to u n back

module _ {S H F C K : Type 0} {fg : Ghosts F} {cg : Ghosts C} {kg : Ghosts K} {model : Model S} {sure : Bool}
    {T A : Type 0} {held : ℕ → Nodes F C K fg cg kg → T → Type 0} {f : Reader A}
    {g : Nodes F C K fg cg kg → T → Reader A} {k : ℕ} {p q : Productions S H F C K fg cg kg} where
  pub leaves : (t : T) → On model sure f (g q.nodes t) p.input q.input → Grows p.nodes q.nodes → held k q.nodes t
      → Leaves model sure held f g k p (Ok t) q
  leaves t o w from = record { reads = o; falls = less o.leads; grows = w; from = from }
