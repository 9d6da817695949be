-- Trees that are no patterns: what the productions of expressions give, but for names, arrays, objects and assignments.
use Rattle.std.specs.Prelude.{◌≡◌, ℕ, Bool, true, false, List, Some, ◌||◌, if◌then◌else◌}
use Rattle.std.proofs.Common.{refl, sym, ap, ◌∙◌}
use Rattle.swc_context.specs.{declared.span.Span.Span, declared.word.Word.Word as word}
use Rattle.swc_input.specs.declared.token.Token.{Token, Token as token}
use Rattle.swc_ast.specs.Targets.{is_target as is_simple_target}
use Rattle.swc_ast.specs.Tree.{Tree, node, nil, cons, span_of, ident, array_with, object_with, assign, member, super_prop, paren, pat_expr}
use Rattle.swc_ast.specs.Trees.{is_chain, chain_e, link_e, at_place, regex_e}
use Rattle.swc_grammar.specs.Parts.{lit_of, regex_of, flags_ok}
use Rattle.swc_grammar.specs.Patterns.{binds_names}
use Rattle.swc_grammar.specs.Cover.{Role, target, binding, as_pat, as_expr}
use Rattle.swc_grammar.proofs.Answers.{only, inj}

module _ {F C K : Type 0} where
  -- a name, an array, an object or an assignment
  abbrev pub is_open : Tree F C K → Bool
  is_open (node (ident name) s ts) = true
  is_open (node (array_with comma) s ts) = true
  is_open (node (object_with comma) s ts) = true
  is_open (node (assign op) s ts) = true
  is_open t = false

  expr-unbound : (m : Role) (ok : List ℕ → Bool) (t p : Tree F C K) → as_expr m t ≡ Some p → binds_names ok p ≡ true → ⊥
  expr-unbound (target strict) ok t p h b =
      let (x, e) = only (is_simple_target strict t) h in
      let y : false ≡ true = ap (binds_names ok) (inj (node pat_expr (span_of t) (cons t nil)) p e) ∙ b in
      cc
  expr-unbound binding ok t p h b = cc

  pub unbound : (m : Role) (ok : List ℕ → Bool) (t p : Tree F C K) → is_open t ≡ false → as_pat m t ≡ Some p
      → binds_names ok p ≡ true → ⊥
  unbound m ok (node (ident name) s ts) p o h b = cc
  unbound m ok (node (array_with comma) s ts) p o h b = cc
  unbound m ok (node (object_with comma) s ts) p o h b = cc
  unbound m ok (node (assign op) s ts) p o h b = cc
  unbound m ok (node member s ts) p o h b = expr-unbound m ok (node member s ts) p h b
  unbound m ok (node super_prop s ts) p o h b = expr-unbound m ok (node super_prop s ts) p h b
  unbound m ok (node paren s ts) p o h b = expr-unbound m ok (node paren s ts) p h b
  unbound m ok (node k s ts) p o h b = cc

  pub link-closed : (is_optional : Bool) (l t : Tree F C K) → is_open t ≡ false
      → is_open (link_e is_optional l t) ≡ false
  link-closed is_optional l t h = by-chain (is_optional || is_chain l)
    where
      by-chain : (o : Bool) → is_open (if o then chain_e is_optional t else t) ≡ false
      by-chain true = refl
      by-chain false = h

  pub lit-closed : (t : Token) (s : Span) (e : Tree F C K) → lit_of t s ≡ Some e → is_open e ≡ false
  lit-closed (token.Word word.Null) s e h = ap is_open (sym (inj _ e h))
  lit-closed (token.Word word.True) s e h = ap is_open (sym (inj _ e h))
  lit-closed (token.Word word.False) s e h = ap is_open (sym (inj _ e h))
  lit-closed (token.Num raw) s e h = ap is_open (sym (inj _ e h))
  lit-closed (token.BigInt raw) s e h = ap is_open (sym (inj _ e h))
  lit-closed (token.Str value raw) s e h = ap is_open (sym (inj _ e h))
  lit-closed t s e h = absurd cc

  pub regex-closed : (t : Token) (s s' : Span) (e : Tree F C K) → regex_of t s ≡ Some e
      → (is_open e ≡ false) × (is_open (at_place s' e) ≡ false)
  regex-closed (token.Regex exp flags) s s' e h =
      let x : regex_e s exp flags ≡ e = inj (regex_e s exp flags) e (only (flags_ok flags) h).1 in
      (ap is_open (sym x), ap (λ v. is_open (at_place s' v)) (sym x))
  regex-closed t s s' e h = absurd cc
