-- What holds of formal parameters by themselves, whatever comes after the last.
use Rattle.std.proofs.Common.{◌≡◌, Bool, true, false, ◌&&◌, List, refl}
use Rattle.swc_context.specs.declared.span.Span.{Span}
use Rattle.swc_input.specs.declared.token.TokenAndSpan.{TokenAndSpan}
use Rattle.swc_ast.specs.Pedantic.{all_privates_ok, privates_ok}
use Rattle.swc_ast.specs.Tree.{Tree, Trees, nil, cons}
use Rattle.swc_ast.specs.Trees.{are_grouped, are_valid, is_grouped, is_valid}
use Rattle.swc_bodies.specs.Readings.{Hook, LawfulHook}
use Rattle.swc_grammar.specs.Patterns.{any, all_bind_names, binds_names}
use Rattle.swc_grammar.specs.{Reads.Reads, Scope.Scope, Symbols.Element, Symbols.Rest}
use Rattle.swc_grammar.proofs.Direct.{dotted-binds, element-binds}
use Rattle.swc_grammar.proofs.Good as good
use Rattle.swc_grammar.proofs.Sound as clean
use Rattle.swc_laws.proofs.Privates as placed
use Rattle.swc_patterns.specs.ParamsRead.{ReadAlone, element, dotted, AllReadAlone}

and-true : (a b : Bool) → a ≡ true → b ≡ true → (a && b) ≡ true
and-true true true h k = refl
and-true true false h k = cc
and-true false b h k = cc

record Fine {F C K : Type 0} (pedantic : Bool) (t : Tree F C K) : Type 0 where
  pub grouped : is_grouped t ≡ true
  pub valid : is_valid t ≡ true
  pub privates : pedantic ≡ true → privates_ok false t ≡ true
  pub binds : binds_names any t ≡ true

pub record AllFine {F C K : Type 0} (pedantic : Bool) (ts : Trees F C K) : Type 0 where
  pub grouped : are_grouped ts ≡ true
  pub valid : are_valid ts ≡ true
  pub privates : pedantic ≡ true → all_privates_ok false false ts ≡ true
  pub binds : all_bind_names any ts ≡ true

module _ {F C K : Type 0} {fun_at : F → Span} {class_at : C → Span} {block_at : K → Span} (hook : Hook F C K)
    (laws : LawfulHook fun_at class_at block_at hook) (c : Scope) where
  fine_element : {xs ys : List TokenAndSpan} {t : Tree F C K} → Reads hook Element c xs ys t → Fine c.syntax.pedantic t
  fine_element d = record {
    grouped = good.grouped d;
    valid = good.valid d;
    privates = λ y. placed.privates d y;
    binds = element-binds hook d;
  }

  fine_rest : {xs ys : List TokenAndSpan} {t : Tree F C K} → Reads hook Rest c xs ys t → Fine c.syntax.pedantic t
  fine_rest d = record {
    grouped = good.grouped d;
    valid = good.valid d;
    privates = λ y. placed.privates d y;
    binds = dotted-binds hook d;
  }

  fine : (t : Tree F C K) → ReadAlone hook c t → Fine c.syntax.pedantic t
  fine t (element xs ys h) = fine_element (clean.sound hook laws Element c xs (t, ys) h)
  fine t (dotted xs ys h) = fine_rest (clean.sound hook laws Rest c xs (t, ys) h)

  pub all-fine : (ts : Trees F C K) → AllReadAlone hook c ts → AllFine c.syntax.pedantic ts
  all-fine nil h = record { grouped = refl; valid = refl; privates = λ y. refl; binds = refl }
  all-fine (cons t ts) h =
      let one = fine t h.0 in
      let others = all-fine ts h.1 in
      record {
        grouped = and-true _ _ one.grouped others.grouped;
        valid = and-true _ _ one.valid others.valid;
        privates = λ y. and-true _ _ (one.privates y) (others.privates y);
        binds = and-true _ _ one.binds others.binds;
      }
