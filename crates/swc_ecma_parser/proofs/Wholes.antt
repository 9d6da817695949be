-- From what is read, looked through and handed out to what is promised of it: of trees, in boxes and by number.
use Rattle.std.proofs.Common.{◌≡◌, ℕ, Bool, false, List, Result, MatchResult, refl, subst}
use Rattle.swc_context.specs.declared.error.Error.{Error}
use Rattle.swc_input.specs.{Buffer.last_position, Source.Model}
use Rattle.swc_ast.specs.{Tree.Tree, Trees.unmarked, declared.spanned.Spanned.Ghosts}
use Rattle.swc_bodies.specs.Readings.{Hook, LawfulHook}
use Rattle.swc_grammar.specs.{Symbols.Symbol, Clean.sym as at, Clean.run}
use Rattle.swc_nodes.specs.{Commas.commas_in, Commas.part_commas, NodeParts.Part, declared.nodes.Nodes.Nodes}
use Rattle.swc_nodes.specs.GrowingNodes.{count, tree_at, bare_at, CutTo, From}
use Rattle.swc_steps.specs.{Parsing.scope, Parsing.Produces, declared.productions.Productions.Productions}
use Rattle.swc_ecma_parser.specs.Calls.{buffer_of, nodes_of, commas_of, has_failed}
use Rattle.swc_ecma_parser.specs.{CoverNames.covers_left, CoverNames.parts_covers_left, declared.parser.Parser.Parser}
use Rattle.swc_ecma_parser.specs.Finishing.{parts_done, HandsOut, KeepsChecked, MovesCheckedOut}
use Rattle.swc_ecma_parser.specs.Promise.{Promised, boxed, covers_done, numbered, piece_boxed}
use Rattle.swc_ecma_parser.proofs.Finished.{checked, checked-holds, finished-parses, meets-boxes-checked, meets-number-checked, parts-told, parts-told-bare, recalled-checked}
use Rattle.swc_ecma_parser.proofs.Moving.{cut-back, kept-leaves, kept-moved, kept-parses, moved-parses, recalled}
use Rattle.swc_ecma_parser.proofs.{Calling.promised, Top.Stopping, Top.meets-in-boxes}

module _ {S H F C K X T : Type 0} {fg : Ghosts F} {cg : Ghosts C} {kg : Ghosts K} {model : Model S} {sure : Bool}
    {hook : Hook F C K}
    {s : Symbol} {parts : X → List Part} {by : (ℕ → Tree F C K) → X → Tree F C K} {view : T → Tree F C K}
    {held : ℕ → Nodes F C K fg cg kg → X → Type 0} {tree : Nodes F C K fg cg kg → X → Tree F C K}
    {p q : Parser S H F C K fg cg kg} {m : Productions S H F C K fg cg kg} {k : ℕ} {a : Result X Error}
    {r : Result T Error}
    (laws : LawfulHook fg.place cg.place kg.place hook) (stops : Stopping s) where
  pub promised-boxed : has_failed p ≡ false → k ≡ count (nodes_of p)
      → Produces model sure held tree (run hook (at s)) (count (nodes_of p)) p.productions a m
      → MovesCheckedOut model parts k (record p { productions = m }) a by view r q
      → ((x : X) → unmarked (tree m.nodes x) ≡ by (bare_at m.nodes) x)
      → ((x : X) → commas_in (tree m.nodes x) ≡ part_commas (tree_at m.nodes) (parts x))
      → ((x : X) → covers_left (tree m.nodes x) ≡ parts_covers_left (tree_at m.nodes) (parts x))
      → Promised model sure hook (boxed view) s p r q
  promised-boxed runs start read out bare commas left =
      let reads =
      finished-parses model sure (λ c t. covers_done c (unmarked t)) (run hook (at s)) (tree m.nodes)
      (λ x. parts_done (scope model m.input) (tree_at m.nodes) (parts x))
      (buffer_of p) m.input out.at a out.checked read.reads out.checks
      (λ x. parts-told-bare (scope model m.input) (tree_at m.nodes) (parts x) (tree m.nodes x) (left x)) in
      promised out.at (nodes_of q) (commas_of q) r r runs refl refl out.out.buffer refl refl out.out.fails
      (meets-boxes-checked model sure hook laws view stops (buffer_of p) r out.at
      (moved-parses model sure (checked unmarked (run hook (at s))) m.nodes tree (by (bare_at m.nodes)) view
      (buffer_of p) out.at out.checked r
      reads bare out.out.moved))
      (recalled-checked model sure hook laws s unmarked m.nodes (tree m.nodes) (by (bare_at m.nodes)) view parts
      (buffer_of p) out.at
      out.checked r (commas_of p) (commas_of q) reads bare commas out.out.moved out.out.commas)
      (cut-back (nodes_of q) read.grows (subst (λ n. CutTo n m.nodes (nodes_of q)) start out.out.nodes))

  -- of a piece, which isn't looked through
  pub promised-piece : has_failed p ≡ false → k ≡ count (nodes_of p)
      → Produces model sure held tree (run hook (at s)) (count (nodes_of p)) p.productions a m
      → HandsOut parts k (record p { productions = m }) a by view r q
      → ((x : X) → unmarked (tree m.nodes x) ≡ by (bare_at m.nodes) x)
      → ((x : X) → commas_in (tree m.nodes x) ≡ part_commas (tree_at m.nodes) (parts x))
      → Promised model sure hook (piece_boxed view) s p r q
  promised-piece runs start read out bare commas =
      promised m.input (nodes_of q) (commas_of q) r r runs refl refl out.buffer refl refl out.fails
      (meets-in-boxes model sure hook laws view stops (buffer_of p) r m.input
      (moved-parses model sure (run hook (at s)) m.nodes tree (by (bare_at m.nodes)) view
      (buffer_of p) m.input a r read.reads bare out.moved))
      (recalled model sure hook laws s unmarked m.nodes (tree m.nodes) (by (bare_at m.nodes)) view parts
      (buffer_of p) m.input a r
      (commas_of p) (commas_of q) read.reads bare commas out.moved out.commas)
      (cut-back (nodes_of q) read.grows (subst (λ n. CutTo n m.nodes (nodes_of q)) start out.nodes))

module _ {S H F C K T : Type 0} {fg : Ghosts F} {cg : Ghosts C} {kg : Ghosts K} {model : Model S} {sure : Bool}
    {hook : Hook F C K}
    {s : Symbol} {parts : T → List Part} {part : T → Part} {tree : Nodes F C K fg cg kg → T → Tree F C K}
    {p q : Parser S H F C K fg cg kg} {m : Productions S H F C K fg cg kg} {k : ℕ} {a r : Result T Error}
    (laws : LawfulHook fg.place cg.place kg.place hook) (stops : Stopping s) where
  pub promised-numbered : has_failed p ≡ false → k ≡ count (nodes_of p)
      → Produces model sure (λ n ns x. From n ns (part x)) tree (run hook (at s)) (count (nodes_of p)) p.productions a m
      → KeepsChecked model parts k (record p { productions = m }) a r q
      → ((x : T) → commas_in (tree m.nodes x) ≡ part_commas (tree_at m.nodes) (parts x))
      → ((x : T) → covers_left (tree m.nodes x) ≡ parts_covers_left (tree_at m.nodes) (parts x))
      → Promised model sure hook (numbered tree part) s p r q
  promised-numbered runs start read kept commas left =
      let reads =
      finished-parses model sure covers_done (run hook (at s)) (tree m.nodes)
      (λ x. parts_done (scope model m.input) (tree_at m.nodes) (parts x))
      (buffer_of p) m.input kept.at a kept.checked read.reads kept.checks
      (λ x. parts-told (scope model m.input) (tree_at m.nodes) (parts x) (tree m.nodes x) (left x)) in
      let from = checked-holds model _ _ _ (λ x. From (count (nodes_of p)) m.nodes (part x)) a kept.checked kept.checks
      read.from in
      let nodes = subst (λ n. MatchResult r (λ x. nodes_of q ≡ m.nodes) (λ e. CutTo n m.nodes (nodes_of q))) start
      kept.nodes in
      promised kept.at (nodes_of q) (commas_of q) r r runs refl refl kept.buffer refl refl kept.fails
      (meets-number-checked model sure hook laws (tree (nodes_of q)) stops (buffer_of p) r kept.at
      (kept-parses model sure (checked (λ t. t) (run hook (at s))) tree m.nodes (nodes_of q) (count (nodes_of p))
      (buffer_of p) kept.at kept.checked r
      reads kept.kept nodes))
      (recalled-checked model sure hook laws s (λ t. t) m.nodes (tree m.nodes) (tree m.nodes) (tree (nodes_of q)) parts
      (buffer_of p) kept.at
      kept.checked r (commas_of p) (commas_of q) reads (λ x. refl) commas
      (kept-moved tree m.nodes (nodes_of q) (last_position kept.at) (count (nodes_of p)) kept.checked r kept.kept nodes)
      kept.commas)
      (kept-leaves part (nodes_of q) (last_position kept.at) kept.checked r read.grows from kept.kept nodes)
