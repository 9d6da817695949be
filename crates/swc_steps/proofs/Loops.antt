-- The loop in which a list is read, one turn after another.
use Rattle.std.proofs.Common.{◌≡◌, ℕ, Bool, List, [], ◌∷◌, ◌++◌, Option, Some, None, MatchOption, map, refl, sym, ap, subst, ◌∙◌, arith}
use Rattle.swc_context.specs.{declared.error.Error.Error, declared.span.BytePos.BytePos, declared.span.Span.Span}
use Rattle.swc_input.specs.{declared.buffer.Buffer.Buffer, declared.token.Token.Token, Source.Model, Source.Laws, Recording.no_memory}
use Rattle.swc_ast.specs.Tree.{Tree, Trees, nil, cons, trees}
use Rattle.swc_ast.specs.Trees.{hole_e, listed, trees_append}
use Rattle.swc_ast.specs.declared.spanned.Spanned.{Ghosts}
use Rattle.swc_grammar.specs.Tokens.{is_comma}
use Rattle.swc_nodes.specs.NodeParts.{Part, flat}
use Rattle.swc_nodes.specs.GrowingNodes.{count, tree_at, Apart, Grows}
use Rattle.swc_nodes.proofs.Lists.{SameTrees, apart-none, apart-list-more, list-more}
use Rattle.swc_nodes.proofs.Standing.{grows-same, grows-then}
use Rattle.swc_steps.specs.Lists.{eaten, with_comma, or_elided, left_behind, left_from}
use Rattle.swc_steps.specs.Parsing.{On, Heard, Unheard}
use Rattle.swc_steps.specs.{declared.productions.Productions.Productions, Loops.ItemsRead}
use Rattle.swc_steps.proofs.Lists.{IsList, list_first, list_splits, with_comma_splits, elided_splits, left_splits}
use Rattle.swc_steps.proofs.Steps.{Reader, give, on_here, on_then, on_to, on_call, on_within_call, heard_after, heard_call, heard_more, unheard_after, unheard_call, unheard_memory, forgoes_later, forgoes_here, leads_then, eats_none, eats_some}

-- where a sign was looked for from b to c, and perhaps taken
abbrev pub Looked : {S : Type 0} → Model S → Bool → (Token → Bool) → Buffer S → Option Span → Buffer S → Type 0
Looked model sure f b o c =
    MatchOption o (On model sure (eaten f) (λ x ts. Some (None, ts)) b c)
    (λ s. Heard model sure (eaten f) (Some s) b c)

-- what things stand for is what their parts do
abbrev pub OfParts : {F C K X : Type 0} → (X → List Part) → ((ℕ → Tree F C K) → X → Tree F C K) → Type 0
OfParts {F} {C} {K} {X} parts tree =
    (at by : ℕ → Tree F C K) (x : X) → SameTrees at by (parts x) → tree at x ≡ tree by x

module _ {S H F C K : Type 0} {fg : Ghosts F} {cg : Ghosts C} {kg : Ghosts K} {model : Model S} {sure : Bool}
    {closes : Token → Bool} {all : Reader (Tree F C K)} {one : Reader (Tree F C K × Option Span)}
    (list : IsList closes all one) where
  -- before the first item
  pub started : {X : Type 0} (tree : X → Tree F C K) (parts : X → List Part) (p : Productions S H F C K fg cg kg)
      (xs : List X) → Laws model → xs ≡ [] → ItemsRead model sure all (trees (map tree xs)) (flat parts xs) None p p
  started tree parts p xs laws none = record {
    on = on_here laws p.input
        (λ x ts. list_first list x ts ∙ ap (λ v. left_behind all (trees (map tree v)) None x ts) (sym none));
    falls = omega arith;
    grows = grows-same p.nodes;
    apart = subst (λ v. Apart (count p.nodes) p.nodes (flat parts v)) (sym none) (apart-none (omega arith));
  }

  module _ {items : Trees F C K} {parts : List Part} {comma : Option Span} {p q : Productions S H F C K fg cg kg}
      (so : ItemsRead model sure all items parts comma p q) where
    -- the sign that closes the list is asked for, and that is refused
    pub end_refused : {e : Error} {b : Buffer S} → Unheard model sure (eaten closes) q.input e b
        → Unheard model sure all p.input e b
    end_refused u = unheard_after so.on (unheard_call _ (list_splits list items comma) u)

    -- it is there
    pub closed : {o : Option Span} {s : Span} {b : Buffer S} → o ≡ Some s → Looked model sure closes q.input o b
        → Heard model sure all (listed comma s items) p.input b
    closed {o} {s} {b} is looked =
        heard_after so.on (heard_call _ (list_splits list items comma) (λ x ts. refl)
        (eats_some sure closes o s q.input b is looked))

    -- it isn't there, so an item is
    pub goes_on : {o : Option Span} {b : Buffer S} → o ≡ None → Looked model sure closes q.input o b
        → On model sure all (left_from all one items) p.input b
    goes_on {o} {b} is looked =
        on_then so.on (on_call _ (list_splits list items comma) (eats_none sure closes o q.input b is looked))

-- ---- an item of it

module _ {S F C K : Type 0} {model : Model S} {sure : Bool} {all : Reader (Tree F C K)}
    (one : Reader (Tree F C K × Option Span)) (items : Trees F C K) {b c : Buffer S}
    (at : On model sure all (left_from all (or_elided one) items) b c) where
  -- the comma that a hole is
  pub comma_refused : {e : Error} {d : Buffer S} → Unheard model sure (eaten is_comma) c e d
      → Unheard model sure all b e d
  comma_refused u =
      unheard_after at (unheard_call _ (left_splits all (or_elided one) items) (unheard_call _ (elided_splits one) u))

  -- an item which is no hole
  pub filled : {o : Option Span} {d : Buffer S} → o ≡ None → Looked model sure is_comma c o d
      → On model sure all (left_from all one items) b d
  filled {o} {d} is looked =
      on_then at (on_within_call _ (left_splits all (or_elided one) items) (left_splits all one items)
      (on_call _ (elided_splits one) (eats_none sure is_comma o c d is looked)))

-- a hole
pub hole : {S F C K : Type 0} {model : Model S} {sure : Bool} (one : Reader (Tree F C K × Option Span)) {b c : Buffer S}
    {o : Option Span} {s : Span} → o ≡ Some s → Looked model sure is_comma b o c
    → Heard model sure (or_elided one) (hole_e, None) b c
hole {sure = sure} one {b = b} {c = c} {o = o} {s = s} is looked =
    heard_call _ (elided_splits one) (λ x ts. refl) (eats_some sure is_comma o s b c is looked)

module _ {S F C K : Type 0} {model : Model S} {sure : Bool} {all : Reader (Tree F C K)} (items : Trees F C K)
    {item : Reader (Tree F C K)} (separates : Reader (Option Span)) {b c d : Buffer S}
    (at : On model sure all (left_from all (with_comma item separates) items) b c) where
  -- the item is refused
  pub item_refused : {e : Error} → Unheard model sure item c e d → Unheard model sure all b e d
  item_refused u =
      unheard_after at (unheard_call _ (left_splits all (with_comma item separates) items)
      (unheard_call _ (with_comma_splits item separates) u))

  -- or what is after it
  pub comma_behind_refused : {t : Tree F C K} {e : Error} {a : Buffer S} → Heard model sure item t c d
      → Unheard model sure separates d e a → Unheard model sure all b e a
  comma_behind_refused {t} h u =
      unheard_after at (unheard_call _ (left_splits all (with_comma item separates) items)
      (unheard_after (on_call _ (with_comma_splits item separates) h.on)
      (unheard_call (λ x q. Some ((t, q.0), q.1)) (λ x ts. refl) u)))

-- an item, and the comma after it
pub separated : {S F C K : Type 0} {model : Model S} {sure : Bool} {item : Reader (Tree F C K)}
    {separates : Reader (Option Span)} {t : Tree F C K} {s : Option Span} {b c d : Buffer S}
    → Heard model sure item t b c → On model sure separates (give s) c d
    → Heard model sure (with_comma item separates) (t, s) b d
separated {item = item} {separates = separates} {t = t} h o =
    heard_more _ (with_comma_splits item separates) h (on_call (λ x q. Some ((t, q.0), q.1)) (λ x ts. refl) o)

-- memory runs out for the list once the item was read
pub unkept : {S A B : Type 0} {model : Model S} {sure : Bool} {f g : Reader A} {item : Reader B} {t : B}
    {b c d : Buffer S} {e : Error} (place : BytePos) → On model sure f g b c → Heard model sure item t c d
    → e ≡ no_memory place → Unheard model sure f b e d
unkept {d = d} {e = e} place at h refused =
    unheard_memory (forgoes_later (leads_then at.leads h.on.leads) (forgoes_here at.leads.laws d place e refused))

module _ {S H F C K : Type 0} {fg : Ghosts F} {cg : Ghosts C} {kg : Ghosts K} {model : Model S} {sure : Bool}
    {all : Reader (Tree F C K)} {one : Reader (Tree F C K × Option Span)} {items : Trees F C K} {parts : List Part}
    {comma : Option Span} {p q r : Productions S H F C K fg cg kg} where
  -- an item was read, and joined to those before it
  pub turn : {c : Buffer S} {t : Tree F C K} {s : Option Span} {more : Trees F C K} {all_parts : List Part}
      → ItemsRead model sure all items parts comma p q → On model sure all (left_from all one items) p.input c
      → Heard model sure one (t, s) c r.input → Grows q.nodes r.nodes → more ≡ trees_append items (cons t nil)
      → Apart (count p.nodes) r.nodes all_parts → ItemsRead model sure all more all_parts s p r
  turn {s = s} so at h grows joined apart =
      let on = on_to (on_then at (on_call _ (left_splits all one items) h.on))
      (λ x ts. ap (λ v. left_behind all v s x ts) (sym joined)) in
      record { on = on; falls = on.leads.read.lower; grows = grows-then so.grows grows; apart = apart }

module _ {S H F C K X : Type 0} {fg : Ghosts F} {cg : Ghosts C} {kg : Ghosts K} {model : Model S} {sure : Bool}
    {all : Reader (Tree F C K)} {one : Reader (Tree F C K × Option Span)} {comma : Option Span}
    {p q r : Productions S H F C K fg cg kg} (parts : X → List Part) (tree : (ℕ → Tree F C K) → X → Tree F C K) where
  -- and put after them
  pub added : {c : Buffer S} {s : Option Span} {x : X} (xs ys : List X) → OfParts parts tree
      → ItemsRead model sure all (trees (map (tree (tree_at q.nodes)) xs)) (flat parts xs) comma p q
      → On model sure all (left_from all one (trees (map (tree (tree_at q.nodes)) xs))) p.input c
      → Heard model sure one (tree (tree_at r.nodes) x, s) c r.input → Grows q.nodes r.nodes
      → Apart (count q.nodes) r.nodes (parts x) → ys ≡ xs ++ x ∷ []
      → ItemsRead model sure all (trees (map (tree (tree_at r.nodes)) ys)) (flat parts ys) s p r
  added {x = x} xs ys of so at h grows apart is =
      turn so at h grows
      (ap (λ v. trees (map (tree (tree_at r.nodes)) v)) is ∙ list-more parts tree of xs x grows so.apart)
      (subst (λ v. Apart (count p.nodes) r.nodes (flat parts v)) (sym is)
      (apart-list-more parts xs x grows so.apart apart))
