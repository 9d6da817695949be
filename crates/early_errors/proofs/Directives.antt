-- What is a directive, and the prologue of statements.
use Rattle.std.proofs.Common.{◌≡◌, ℕ, ◌+◌, ◌<◌, ◌≤◌, List, [], ◌∷◌, length, drop, refl, ap, sym, ◌∙◌}
use Rattle.std.specs.Prelude.{Bool, if◌then◌else◌, Option, Some, None, slice_get, slice_index_or}
use Rattle.std.proofs.lemmas.List.{at_drop_more, at_drop_all}
use Rattle.swc_context.specs.declared.span.Span.{Span}
use Rattle.swc_nodes.specs.declared.node.ExprId.{ExprId}
use Rattle.tree_types.specs.declared.tree.Program.{Program}
use Rattle.tree_types.specs.declared.tree.Statement.{Statement}
use Rattle.tree_types.specs.declared.tree.StatementId.{StatementId}
use Rattle.tree_types.specs.declared.tree.StatementKind.{StatementKind}
use Rattle.tree_types.specs.declared.tree.StatementKind.TheVariants as kind
use Rattle.early_errors.specs.Strictness.{place_of_kind, place_of_statement, directive, after_directive, use_strict, says_use_strict}

pub not-directive : (p : Program) (k : StatementKind) → ((e : ExprId) → k ≡ kind.Directive e → ⊥) → place_of_kind p k ≡ None
not-directive p (kind.Block a) none = refl
not-directive p (kind.Empty) none = refl
not-directive p (kind.Expr a) none = refl
not-directive p (kind.Directive a) none = absurd (none a refl)
not-directive p (kind.Debugger) none = refl
not-directive p (kind.If a b c) none = refl
not-directive p (kind.DoWhile a b) none = refl
not-directive p (kind.While a b) none = refl
not-directive p (kind.For a b c d) none = refl
not-directive p (kind.ForIn a b c) none = refl
not-directive p (kind.ForOf a b c d) none = refl
not-directive p (kind.Continue a) none = refl
not-directive p (kind.Break a) none = refl
not-directive p (kind.Return a) none = refl
not-directive p (kind.With a b) none = refl
not-directive p (kind.Switch a b) none = refl
not-directive p (kind.Labeled a b) none = refl
not-directive p (kind.Throw a) none = refl
not-directive p (kind.Try a b c) none = refl
not-directive p (kind.Variables a) none = refl
not-directive p (kind.Function a) none = refl
not-directive p (kind.Class a) none = refl
not-directive p (kind.Import a) none = refl
not-directive p (kind.ExportNamed a) none = refl
not-directive p (kind.ExportAll a) none = refl
not-directive p (kind.ExportDeclaration a) none = refl
not-directive p (kind.ExportDefault a) none = refl

-- a statement that is read
pub read : (p : Program) (xs : List Statement) (id : StatementId) (s : Statement) (r : Option Span) → xs ≡ p.statements.items → slice_get xs id.0 ≡ Some s
    → r ≡ place_of_kind p s.kind → r ≡ directive p id
read p xs id s r same at is =
    is ∙ sym (ap (place_of_statement p) (ap (λ ys. slice_get ys id.0) (sym same) ∙ at))

-- the prologue, statement by statement
pub begins : (text : List ℕ) (p : Program) (xs : List StatementId) (i : ℕ) (d : StatementId) → i < length xs
    → use_strict text p (drop i xs) ≡ after_directive text (directive p (slice_index_or xs i d)) (use_strict text p (drop (i + 1) xs))
unfolding use_strict
begins text p xs i d lt = at_drop_more (use_strict text p) xs i d lt

pub ends : (text : List ℕ) (p : Program) (xs : List StatementId) (i : ℕ) → length xs ≤ i → use_strict text p (drop i xs) ≡ None
unfolding use_strict
ends text p xs i past = at_drop_all (use_strict text p) xs i past

pub said : (text : List ℕ) (s : Span) (rest r : Option Span) (b : Bool) → says_use_strict text s ≡ b → (if b then Some s else rest) ≡ r → after_directive text (Some s) rest ≡ r
said text s rest r b is e = ap (λ b. if b then Some s else rest) is ∙ e
