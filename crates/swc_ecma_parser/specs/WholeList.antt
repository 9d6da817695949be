-- All that a listed source gives, read as one expression or as one binding pattern: the headline, in its own words.
use Rattle.std.specs.Prelude.{◌≡◌, ◌≢◌, Bool, true, false, not, List, [], ◌++◌, map, Some, Result, Ok, Err, IfOk, MatchResult}
use Rattle.swc_context.specs.{Contexts.view, declared.context.Context.Context, declared.context.Syntax.Syntax, declared.error.Error.Error, declared.error.SyntaxError.TheVariants.OutOfMemory}
use Rattle.swc_input.specs.{declared.token.TokenAndSpan.TokenAndSpan, Plain.plain, Source.Model, Source.Source}
use Rattle.swc_ast.specs.{declared.spanned.Spanned.Ghosts, Tree.Tree}
use Rattle.swc_bodies.specs.Readings.{Hook}
use Rattle.swc_grammar.specs.{Symbols.Symbol, Reads.Reads}
use Rattle.swc_nodes.specs.{NodeParts.Part, declared.nodes.Nodes.Nodes}
use Rattle.swc_steps.specs.Parsing.{scope_of}
use Rattle.swc_ecma_parser.specs.Promise.{Finished, Promised, covers_done, numbered}
use Rattle.swc_ecma_parser.specs.{Calls.Called, Calls.SeesEnd, declared.parser.Parser.Parser}

-- how contracts compare the tokens of a list
abbrev pub plain_list : List TokenAndSpan → List TokenAndSpan
plain_list ts = map plain ts

-- faults are recorded: early errors are on, and not ignored
abbrev pub IsHeeded : Context → Syntax → Type 0
IsHeeded c x = (c.ignore_error ≡ false) × (x.early_errors ≡ true)

-- A listed source that has recorded nothing, and still gives these tokens
pub record Lists (ts : List TokenAndSpan) (s : Source) : Type 0 where
  pub known : s.known ≡ Some ts
  pub clean : s.errors ≡ []

module _ {N F C K : Type 0} {fg : Ghosts F} {cg : Ghosts C} {kg : Ghosts K} where
  -- In the context c, of which four flags decide nothing (`view`), and by the syntax x, what is read of the tokens ts
  -- as the symbol s: what has the number of a tree and whether tokens are left after it, or a refusal; the nodes; and
  -- the faults that were recorded
  pub record Headline (sure : Bool) (hook : Hook F C K) (s : Symbol) (tree : Nodes F C K fg cg kg → N → Tree F C K)
      (c : Context) (x : Syntax) (ts : List TokenAndSpan)
      (read : Result (N × Bool) Error) (nodes : Nodes F C K fg cg kg) (recorded : List Error) : Type 0 where
    -- A tree answered with no token left and no fault recorded is derived by the written grammar from the whole list,
    -- and is finished.
    pub sound : IfOk read (λ r. r.1 ≡ false → recorded ≡ []
        → Finished covers_done (Reads hook s) (scope_of (view c) x) ts [] (tree nodes r.0))
    -- No other finished tree is derived from it.
    pub one_tree : IfOk read (λ r. r.1 ≡ false → recorded ≡ []
        → (t : Tree F C K) → Finished covers_done (Reads hook s) (scope_of (view c) x) ts [] t → t ≡ tree nodes r.0)
    -- Each finished tree that the grammar derives from the whole list is answered, with no token left and no fault
    -- recorded, or memory was wanted. The hook has to be faithful.
    pub complete : sure ≡ true → (t : Tree F C K) → Finished covers_done (Reads hook s) (scope_of (view c) x) ts [] t
        → MatchResult read (λ r. (tree nodes r.0 ≡ t) × (r.1 ≡ false) × (recorded ≡ [])) (λ e. e.kind ≡ OutOfMemory)

-- By the tokens ts, in a context and by a syntax: the tree t was read of the first of them, and tokens are left after
-- those or not.
pub record ReadsFront {F C K : Type 0} (hook : Hook F C K) (s : Symbol) (c : Context) (x : Syntax)
    (ts : List TokenAndSpan) (unread : Bool) (t : Tree F C K) : Type 0 where
  pub consumed : List TokenAndSpan
  pub rest : List TokenAndSpan
  pub split : ts ≡ consumed ++ rest
  pub none : unread ≡ false → rest ≡ []
  pub some : unread ≡ true → rest ≢ []
  -- The grammar derives it from the tokens consumed, as a list of their own and with those that are left. No other is
  -- derived from the tokens consumed.
  pub derived : Finished covers_done (Reads hook s) (scope_of (view c) x) consumed [] t
  pub ahead : Finished covers_done (Reads hook s) (scope_of (view c) x) ts rest t
  pub only : (u : Tree F C K) → Finished covers_done (Reads hook s) (scope_of (view c) x) consumed [] u → u ≡ t

module _ {S F C K : Type 0} (model : Model S) (hook : Hook F C K) (s : Symbol) where
  abbrev derives : S → List TokenAndSpan → List TokenAndSpan → Tree F C K → Type 0
  derives source xs ys t =
      Finished covers_done (Reads hook s) (scope_of (view (model.state source).context) (model.state source).syntax)
      xs ys t

  -- By what a source gave, listed or not: the same.
  pub record ReadsGiven (source : S) (unread : Bool) (t : Tree F C K) : Type 0 where
    -- what the source is after that, and the tokens that it gave: those consumed, and one that was looked at after them
    pub last : S
    pub consumed : List TokenAndSpan
    pub seen : List TokenAndSpan
    pub gave : model.gives source (consumed ++ seen) last
    pub none : unread ≡ false → (seen ≡ []) × ((model.state last).ended ≡ true)
    pub some : unread ≡ true → seen ≢ []
    pub derived : derives source consumed [] t
    -- with all that may yet come
    pub ahead : (more : List TokenAndSpan) → ((model.state last).ended ≡ true → more ≡ [])
        → ((m : List TokenAndSpan) → (model.state last).known ≡ Some m → more ≡ m)
        → derives source ((consumed ++ seen) ++ more) (seen ++ more) t
    -- and no other one is derived from what was consumed: the tokens given, but for that one
    pub sole : List TokenAndSpan
    pub gave_sole : model.gives source (sole ++ seen) last
    pub only : (u : Tree F C K) → derives source sole [] u → u ≡ t

module _ {S H N F C K : Type 0} {fg : Ghosts F} {cg : Ghosts C} {kg : Ghosts K} (model : Model S) (sure : Bool)
    (hook : Hook F C K)
    (tree : Nodes F C K fg cg kg → N → Tree F C K) (part : N → Part) (s : Symbol) where
  -- one tree was read, and the end was looked for
  pub data Tries (p : Parser S H F C K fg cg kg) : Result (N × Bool) Error → Parser S H F C K fg cg kg → Type 0 where
    tried : {id : N} {v : Bool} {q r : Parser S H F C K fg cg kg}
        → Promised model sure hook (numbered tree part) s p (Ok id) q
        → Called (SeesEnd model) q (Ok v) r → Tries p (Ok (id, not v)) r
    refused : {e : Error} {r : Parser S H F C K fg cg kg} → Promised model sure hook (numbered tree part) s p (Err e) r
        → Tries p (Err e) r
    lost : {id : N} {e : Error} {q r : Parser S H F C K fg cg kg}
        → Promised model sure hook (numbered tree part) s p (Ok id) q
        → Called (SeesEnd model) q (Err e) r → Tries p (Err e) r
