-- Trees whose parts are equal, and what parts stand for, some of them and all.
use Rattle.std.proofs.Common.{◌≡◌, ℕ, List, [], ◌∷◌, ◌++◌, refl, sym, ap, ◌∙◌, append_assoc}
use Rattle.swc_ast.specs.Tree.{Tree, nil, cons, trees}
use Rattle.swc_ast.specs.declared.spanned.Spanned.{Ghosts}
use Rattle.swc_nodes.specs.GrowingNodes.{seat_at, tree_at, bare_at, node_seat}
use Rattle.swc_nodes.specs.{NodeParts.Part, NodeParts.flat, NodeTree.node_tree, NodeTree.marked_tree, declared.node.Node.Node, declared.nodes.Nodes.Nodes}
use Rattle.swc_nodes.proofs.Unmarked.{unmarked-node}
use Rattle.swc_trees.specs.Moving.{AreGiven}

pub two : {F C K : Type 0} {s t u v : Tree F C K} → s ≡ u → t ≡ v → cons s (cons t nil) ≡ cons u (cons v nil)
two {t = t} {u = u} e f = ap (λ w. cons w (cons t nil)) e ∙ ap (λ w. cons u (cons w nil)) f

pub headed : {F C K : Type 0} {s t : Tree F C K} {us vs : List (Tree F C K)} → s ≡ t → us ≡ vs
    → cons s (trees us) ≡ cons t (trees vs)
headed {t = t} {us = us} e f = ap (λ w. cons w (trees us)) e ∙ ap (λ w. cons t (trees w)) f

pub three : {F C K : Type 0} {r s t u v w : Tree F C K} → r ≡ u → s ≡ v → t ≡ w
    → cons r (cons s (cons t nil)) ≡ cons u (cons v (cons w nil))
three {r = r} {s = s} {t = t} {u = u} d e f = ap (λ x. cons x (cons s (cons t nil))) d ∙ ap (cons u) (two e f)

-- what is read of several values, each of which is what is there
pub read-two : {A B R : Type 0} (f : A → B → R) {a u : A} {b v : B} → a ≡ u → b ≡ v → f a b ≡ f u v
read-two f {u = u} {b = b} d e = ap (λ w. f w b) d ∙ ap (λ w. f u w) e

pub read-three : {A B C R : Type 0} (f : A → B → C → R) {a u : A} {b v : B} {c w : C} → a ≡ u → b ≡ v → c ≡ w
    → f a b c ≡ f u v w
read-three f {u = u} {v = v} {c = c} d e g = read-two (λ x y. f x y c) d e ∙ ap (λ x. f u v x) g

pub read-four : {A B C D R : Type 0} (f : A → B → C → D → R) {a p : A} {b q : B} {c r : C} {d s : D} → a ≡ p → b ≡ q
    → c ≡ r → d ≡ s → f a b c d ≡ f p q r s
read-four f {p = p} {q = q} {r = r} {d = d} e g h k = read-three (λ x y z. f x y z d) e g h ∙ ap (λ x. f p q r x) k

pub flat-append : {X Y : Type 0} (f : X → List Y) (xs ys : List X) → flat f (xs ++ ys) ≡ flat f xs ++ flat f ys
flat-append f [] ys = refl
flat-append f (x ∷ xs) ys = ap (λ v. f x ++ v) (flat-append f xs ys) ∙ sym (append_assoc (f x) (flat f xs) (flat f ys))

module _ {F C K : Type 0} where
  pub agrees-self : (of : ℕ → Tree F C K) (ps : List Part) → AreGiven of of ps
  agrees-self of [] = tt
  agrees-self of (p ∷ ps) = (refl, agrees-self of ps)

module _ {F C K : Type 0} {fg : Ghosts F} {cg : Ghosts C} {kg : Ghosts K} where
  -- the trees of seats that are the same, without the marks of commas
  pub bare-same : (ns ms : Nodes F C K fg cg kg) (i j : ℕ) → seat_at ns i ≡ seat_at ms j → bare_at ns i ≡ bare_at ms j
  bare-same ns ms i j e = cc

  -- the tree of a node's seat, without the marks of commas: the node's, whose parts have none
  pub bare-node : (ns ms : Nodes F C K fg cg kg) (i : ℕ) (x : Node F C K) →
      seat_at ns i ≡ node_seat ms (seat_at ms) i x → bare_at ns i ≡ node_tree fg.place cg.place kg.place (bare_at ms) x
  bare-node ns ms i x e =
      let t : tree_at ns i ≡ marked_tree fg.place cg.place kg.place (tree_at ms) x = ap (λ s. s.tree) e in
      rw (t) (unmarked-node fg.place cg.place kg.place (tree_at ms) x)
