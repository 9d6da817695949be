-- One reading for each symbol and place: what the clean reader answers, as it is a function. And so one program for a
-- text whose tokens lie one after another.
use Rattle.std.specs.Prelude.{◌≡◌, ℕ, ◌≤◌, ◌<◌, Bool, true, false, not, ◌&&◌, ◌||◌, List, [], ◌∷◌, ◌++◌, Some, length}
use Rattle.std.specs.List.{Contains, All}
use Rattle.std.proofs.Common.{refl, sym as sym_path, ap, subst, ◌∙◌, arith}
use Rattle.std.proofs.lemmas.List.Elements.{All-contains, All-cons, All-nil, All-append}
use Rattle.swc_context.specs.{declared.context.Syntax.Syntax}
use Rattle.swc_input.specs.declared.token.TokenAndSpan.{TokenAndSpan}
use Rattle.swc_ast.specs.Tree.{Tree, Trees, node, nil, cons, Kind, fun as fun_kind, class as class_kind, block as block_kind}
use Rattle.swc_bodies.specs.Readings.{whole_span, last_of, Hook}
use Rattle.swc_grammar.specs.Scope.{Scope}
use Rattle.swc_grammar.proofs.One.{one-answer}
use Rattle.program_grammar.specs.Tree.{code, part, Codes, nothing, more, Form, fun, class, body, static_block}
use Rattle.program_grammar.specs.Symbols.{Symbol, Answer, Function, Class, FunctionBlock}
use Rattle.program_grammar.specs.Reads.{Reads}
use Rattle.program_grammar.specs.Clean.{run}
use Rattle.program_grammar.specs.Program.{Place, place_hook, ProgramCode, Named, named, named_kind, named_tree, named_trees, named_form, named_code, named_codes, names, block_of, ReadsAt, Goal, Program, Meets, in-items, in-body, IsProgram, body_scope}
use Rattle.program_grammar.proofs.{Guard.takes, Guard.is_open, Guard.ends, Guard.some, Complete.complete, Complete.fewer}

pub one-reading : {F C K : Type 0} (hook : Hook F C K) {s : Symbol} {c : Scope}
    {xs ys ys' : List TokenAndSpan} {t t' : Answer F C K s}
    → Reads hook s c xs ys t → ends s ys ≡ true → Reads hook s c xs ys' t' → ends s ys' ≡ true → (t ≡ t') × (ys ≡ ys')
one-reading hook {s = s} {c = c} {xs = xs} d e d' e' =
    one-answer (run hook s c xs) (complete hook d e) (complete hook d' e')

-- ---- tokens one after another
abbrev pub Ordered : ℕ → List TokenAndSpan → Type 0
Ordered n [] = Unit {0}
Ordered n (t ∷ ts) = (n ≤ t.span.lo.0) × (t.span.lo.0 < t.span.hi.0) × Ordered t.span.hi.0 ts

-- the end of the last of some tokens is after what is before them
end-after : (n : ℕ) (t : TokenAndSpan) (o after : List TokenAndSpan) → Ordered n ((t ∷ o) ++ after)
    → n < (last_of t o).span.hi.0
end-after n t [] after (a, b, c) = omega arith
end-after n t (u ∷ o) after (a, b, c) = let k = end-after t.span.hi.0 u o after c in omega arith

-- and its beginning isn't before it
begin-after : (n : ℕ) (t : TokenAndSpan) (before o after : List TokenAndSpan) → Ordered n (before ++ (t ∷ o) ++ after)
    → n ≤ t.span.lo.0
begin-after n t [] o after (a, b, c) = a
begin-after n t (u ∷ before) o after (a, b, c) =
    let k = begin-after u.span.hi.0 t before o after c in omega arith

heads-same : (t u : TokenAndSpan) (ts us : List TokenAndSpan) → (t ∷ ts) ≡ (u ∷ us) → (t ≡ u) × (ts ≡ us)
heads-same t u ts us e = (cc, cc)

same-end : (n : ℕ) (t : TokenAndSpan) (o o' after after' : List TokenAndSpan) → Ordered n ((t ∷ o) ++ after)
    → o ++ after ≡ o' ++ after' → (last_of t o).span.hi.0 ≡ (last_of t o').span.hi.0 → o ≡ o'
same-end n t [] [] after after' k e h = refl
same-end n t [] (u ∷ o') after after' (a, b, c) e h =
    let l = end-after t.span.hi.0 u o' after' (subst (λ v. Ordered t.span.hi.0 v) e c) in absurd (omega arith)
same-end n t (u ∷ o) [] after after' (a, b, c) e h =
    let l = end-after t.span.hi.0 u o after c in absurd (omega arith)
same-end n t (u ∷ o) (u' ∷ o') after after' (a, b, c) e h =
    let (p, q) = heads-same u u' (o ++ after) (o' ++ after') e in
    let r = same-end t.span.hi.0 u o o' after after' c q (h ∙ ap (λ v. (last_of v o').span.hi.0) (sym_path p)) in
    cc

same-own : (n : ℕ) (before before' own own' after after' : List TokenAndSpan)
    → Ordered n (before ++ own ++ after) → before ++ own ++ after ≡ before' ++ own' ++ after'
    → whole_span own ≡ whole_span own' → some own ≡ true → some own' ≡ true → own ≡ own'
same-own n before before' [] own' after after' k e h s s' = cc
same-own n before before' (t ∷ o) [] after after' k e h s s' = cc
same-own n [] [] (t ∷ o) (t' ∷ o') after after' k e h s s' =
    let (p, q) = heads-same t t' (o ++ after) (o' ++ after') e in
    let hi = ap (λ v. v.hi.0) h in
    let r = same-end n t o o' after after' k q (hi ∙ ap (λ v. (last_of v o').span.hi.0) (sym_path p)) in
    cc
same-own n (u ∷ before) [] (t ∷ o) (t' ∷ o') after after' (a, b, c) e h s s' =
    let (p, q) = heads-same u t' (before ++ (t ∷ o) ++ after) (o' ++ after') e in
    let lo = ap (λ v. v.lo.0) h in
    let l = ap (λ v. v.span.lo.0) p in
    let g = begin-after u.span.hi.0 t before o after c in absurd (omega arith)
same-own n [] (u ∷ before') (t ∷ o) (t' ∷ o') after after' k e h s s' =
    let (p, q) = heads-same t u (o ++ after) (before' ++ (t' ∷ o') ++ after') e in
    let (a, b, c) = subst (λ v. Ordered n v) e k in
    let lo = ap (λ v. v.lo.0) h in
    let l = ap (λ v. v.span.lo.0) p in
    let g = begin-after u.span.hi.0 t' before' o' after' c in absurd (omega arith)
same-own n (u ∷ before) (u' ∷ before') (t ∷ o) (t' ∷ o') after after' (a, b, c) e h s s' =
    let (p, q) = heads-same u u' (before ++ (t ∷ o) ++ after) (before' ++ (t' ∷ o') ++ after') e in
    same-own u.span.hi.0 before before' (t ∷ o) (t' ∷ o') after after' c q h s s'

-- ---- what is named is a function, a class or a block: it takes a token, and is read wherever it ends
abbrev is_sure : Symbol → Bool
is_sure s = takes s && not (is_open s)

abbrev Sure : Named → Type 0
Sure n = is_sure n.symbol ≡ true

sure-kind : (k : Kind Place Place Place) → All Sure (named_kind k)
sure-kind (fun_kind p) = All-cons Sure (named Function p) [] refl (All-nil Sure)
sure-kind (class_kind p) = All-cons Sure (named Class p) [] refl (All-nil Sure)
sure-kind (block_kind p) = All-cons Sure (named FunctionBlock p) [] refl (All-nil Sure)
sure-kind k = All-nil Sure

sure-block : (f : Form Place Place Place) → is_sure (block_of f) ≡ true
sure-block static_block = refl
sure-block f = refl

sure-form : (s : Symbol) → is_sure s ≡ true → (f : Form Place Place Place) → All Sure (named_form s f)
sure-form s h (fun p) = All-cons Sure (named Function p) [] refl (All-nil Sure)
sure-form s h (class p) = All-cons Sure (named Class p) [] refl (All-nil Sure)
sure-form s h (body p) = All-cons Sure (named s p) [] h (All-nil Sure)
sure-form s h f = All-nil Sure

mutual
  sure-tree : (t : Tree Place Place Place) → All Sure (named_tree t)
  sure-tree (node k s ts) = All-append Sure (named_kind k) (named_trees ts) (sure-kind k) (sure-trees ts)

  sure-trees : (ts : Trees Place Place Place) → All Sure (named_trees ts)
  sure-trees nil = All-nil Sure
  sure-trees (cons t ts) = All-append Sure (named_tree t) (named_trees ts) (sure-tree t) (sure-trees ts)

mutual
  sure-code : (t : ProgramCode) (s : Symbol) → is_sure s ≡ true → All Sure (named_code s t)
  sure-code (code f at ts) s h =
      All-append Sure (named_form s f) (named_codes (block_of f) ts) (sure-form s h f)
      (sure-codes ts (block_of f) (sure-block f))
  sure-code (part t) s h = sure-tree t

  sure-codes : (ts : Codes Place Place Place) (s : Symbol) → is_sure s ≡ true → All Sure (named_codes s ts)
  sure-codes nothing s h = All-nil Sure
  sure-codes (more t ts) s h =
      All-append Sure (named_code s t) (named_codes s ts) (sure-code t s h) (sure-codes ts s h)

sure-named : (t : ProgramCode) (n : Named) → Contains (names t) n → is_sure n.symbol ≡ true
sure-named t n k = All-contains Sure (names t) n (sure-code t FunctionBlock refl) k

sure-both : (s : Symbol) (ys : List TokenAndSpan) → is_sure s ≡ true → (takes s ≡ true) × (ends s ys ≡ true)
sure-both s ys h = by-test (takes s) (is_open s) h
  where
    by-test : (x y : Bool) → (x && not y) ≡ true → (x ≡ true) × ((not y || some ys) ≡ true)
    by-test true false h = (refl, refl)
    by-test true true h = cc
    by-test false y h = cc

fewer-some : (xs : List TokenAndSpan) → length {A = TokenAndSpan} [] < length xs → some xs ≡ true
fewer-some [] n = absurd (omega arith)
fewer-some (t ∷ ts) n = refl

-- what is at a place is one
one-at : (x : Syntax) (ts : List TokenAndSpan) (n : Named) (t t' : ProgramCode) → Ordered 0 ts
    → is_sure n.symbol ≡ true → ReadsAt x ts n t → ReadsAt x ts n t' → t ≡ t'
one-at x ts n t t' o h r r' =
    let (y, e) = sure-both n.symbol [] h in
    let l = r.lie in
    let l' = r'.lie in
    let s = fewer-some r.own (fewer place_hook r.reads y) in
    let s' = fewer-some r'.own (fewer place_hook r'.reads y) in
    let same = same-own 0 l.before l'.before r.own r'.own l.after l'.after (subst (λ v. Ordered 0 v) l.list o)
    (sym_path l.list ∙ l'.list) (l.whole ∙ sym_path l'.whole) s s' in
    (one-reading place_hook
    (subst (λ v. Reads place_hook n.symbol (body_scope x n.place) v [] t) same r.reads) e r'.reads e).0

pub record SameAt (p p' : Program) (n : Named) : Type 0 where
  pub met : Meets p' n
  pub same : p.at n ≡ p'.at n

-- One program for a text: its items, and what is at each place that is named in it.
module _ (x : Syntax) (g : Goal) (ts : List TokenAndSpan) (p p' : Program) (o : Ordered 0 ts)
    (w : IsProgram x g ts p) (w' : IsProgram x g ts p') where
  pub one-items : p.items ≡ p'.items
  one-items = (one-reading place_hook w.items refl w'.items refl).0

  same-here : (n : Named) → Meets p n → Meets p' n → is_sure n.symbol ≡ true → SameAt p p' n
  same-here n m m' h =
      let (t, e, r) = w.bodies n m in
      let (t', e', r') = w'.bodies n m' in
      let q = one-at x ts n t t' o h r r' in
      record { met = m'; same = e ∙ ap (λ v. Some v) q ∙ sym_path e' }

  pub one-program : {n : Named} → Meets p n → SameAt p p' n
  one-program {n = n} (in-items k) =
      same-here n (in-items k) (in-items (subst (λ v. Contains (names v) n) one-items k)) (sure-named p.items n k)
  one-program {n = n} (in-body {m = m} {t = t} d e k) =
      let i = one-program d in
      same-here n (in-body d e k) (in-body i.met (sym_path i.same ∙ e) k) (sure-named t n k)
