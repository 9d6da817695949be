-- What the steps of the code read in properties that have a key, methods among them, by the clean parser.
use Rattle.std.specs.Prelude.{◌≡◌, Bool, true, false, not, if◌then◌else◌, List, [], ◌∷◌, Option, Some, None, ℕ, ◌&&◌}
use Rattle.std.specs.{declared.alloc.Global.Global, declared.vec.Vec.Vec}
use Rattle.swc_context.specs.{Contexts.method_params, declared.span.Span.Span}
use Rattle.swc_input.specs.{declared.token.TokenAndSpan.TokenAndSpan}
use Rattle.swc_ast.specs.Tree.{Tree, node, Trees, nil, cons, span_of, getter}
use Rattle.swc_ast.specs.Trees.{to, value_e, prop_of, method_e, setter_e, items_of, has_items, is_rest, function_e, block_e, params_e, getter_ok, setter_ok}
use Rattle.swc_ast.specs.{Spans.prop_name_span, declared.function.Function.Function, declared.function.Param.Param, declared.prop.PropName.PropName, declared.spanned.Spanned.Ghosts}
use Rattle.swc_bodies.specs.Readings.{Hook, is_async}
use Rattle.swc_grammar.specs.Symbols.{Key, AfterKey as Behind, Shell, Params}
use Rattle.swc_grammar.specs.Tokens.{is_get, is_set, is_star, is_lparen, is_rparen}
use Rattle.swc_grammar.specs.Clean.{Out, sym, run}
use Rattle.swc_grammar.specs.{Scope.Scope, Scope.in_context, Words.◌>>=◌}
use Rattle.swc_nodes.specs.{Lists.first_param_pat, declared.node.ExprId.ExprId, declared.node.PatId.PatId, declared.node.PropNode.PropNode, declared.node.PropNode.PropNode as prop, declared.nodes.Nodes.Nodes}
use Rattle.swc_steps.specs.Params.{pat_at}
use Rattle.swc_primary.specs.declared.modifiers.MethodKind.{MethodKind, MethodKind as kind}
use Rattle.swc_steps.specs.Parsing.{shell_of}
use Rattle.swc_steps.specs.{Keys.expected, Keys.method_body, Readers.inside}

-- which kinds of methods are async and generators; and of a method with or without a kind
abbrev pub of_async : MethodKind → Bool
of_async kind.Async = true
of_async kind.AsyncGenerator = true
of_async m = false

abbrev pub of_generator : MethodKind → Bool
of_generator kind.Generator = true
of_generator kind.AsyncGenerator = true
of_generator m = false

abbrev pub async_in : Option MethodKind → Bool
async_in None = false
async_in (Some m) = of_async m

abbrev pub generator_in : Option MethodKind → Bool
generator_in None = false
generator_in (Some m) = of_generator m

-- The node of a key and of what is after it: a value that lies at s; of a method that begins at s, and of a getter and
-- a setter.
abbrev pub value_behind : {K : Type 0} → PropName ExprId → Span → ExprId → PropNode K
value_behind k s e = prop.KeyValue (to (prop_name_span k) s) k e

abbrev pub method_behind : {K : Type 0} → Span → PropName ExprId → Function PatId K → PropNode K
method_behind s k f = prop.Method k (record f { span = to s f.span })

abbrev pub getter_behind : {K : Type 0} → Span → PropName ExprId → Function PatId K → PropNode K
getter_behind s k f = prop.Getter (to s f.span) k f.body

abbrev pub setter_behind : {K : Type 0} → Span → PropName ExprId → PatId → Function PatId K → PropNode K
setter_behind s k p f = prop.Setter (to s f.span) k p f.body

-- the node of a method of a kind, which begins at s; of a setter with the pattern of the first parameter
abbrev pub setter_node : {K : Type 0} → Span → PropName ExprId → Function PatId K → Option PatId → PropNode K
setter_node s k f None = method_behind s k f
setter_node s k f (Some p) = setter_behind s k p f

abbrev pub method_node : {K : Type 0} → Option MethodKind → Span → PropName ExprId → Function PatId K → PropNode K
method_node (Some kind.Getter) s k f = getter_behind s k f
method_node (Some kind.Setter) s k f = setter_node s k f (first_param_pat f.params.items)
method_node m s k f = method_behind s k f

-- the tree of a method of a kind; of a getter whose function has parameters, which is never read, without them
abbrev pub only_first : {F C K : Type 0} → Trees F C K → Trees F C K
only_first nil = nil
only_first (cons t ts) = cons t nil

abbrev pub method_tree : {F C K : Type 0} → Option MethodKind → Span → Tree F C K → Tree F C K → Tree F C K
method_tree (Some kind.Getter) s k f = node getter (to s (span_of f)) (cons k (only_first (items_of f)))
method_tree (Some kind.Setter) s k f = setter_e (to s (span_of f)) k f
method_tree m s k f = method_e (to s (span_of f)) k f

-- The parameters of a method of a kind (15.4): a getter has none, and a setter one, which is no rest. The same of its
-- function.
abbrev pub one_pattern : {F C K : Type 0} → Trees F C K → Bool
one_pattern nil = false
one_pattern (cons p ps) = not (has_items ps) && not (is_rest p)

abbrev pub accessor_ok : {F C K : Type 0} → Option MethodKind → Trees F C K → Bool
accessor_ok (Some kind.Getter) ps = not (has_items ps)
accessor_ok (Some kind.Setter) ps = one_pattern ps
accessor_ok m ps = true

-- as the code has it: whether there is just one parameter, and whether a setter has none
abbrev pub just_one : List (Param PatId) → Bool
just_one (p ∷ []) = true
just_one ps = false

abbrev pub misses_by : Option MethodKind → Option PatId → Bool
misses_by (Some kind.Setter) None = true
misses_by m p = false

abbrev pub misses_param : Option MethodKind → List (Param PatId) → Bool
misses_param m ps = misses_by m (first_param_pat ps)

abbrev pub function_ok : {F C K : Type 0} → Option MethodKind → Tree F C K → Bool
function_ok (Some kind.Getter) f = getter_ok f
function_ok (Some kind.Setter) f = setter_ok f
function_ok m f = true

-- what a method of a kind begins with, before its key
unfoldable pub async_star : Scope → List TokenAndSpan → Out Span
async_star c ts = expected is_async c ts >>= (λ p. expected is_star c p.1 >>= (λ q. Some (p.0, q.1)))

abbrev pub modifiers : MethodKind → Scope → List TokenAndSpan → Out Span
modifiers kind.Generator c ts = expected is_star c ts
modifiers kind.Async c ts = expected is_async c ts
modifiers kind.AsyncGenerator c ts = async_star c ts
modifiers kind.Getter c ts = expected is_get c ts
modifiers kind.Setter c ts = expected is_set c ts

-- the scope of a method's parameters
abbrev pub in_params : Option MethodKind → Scope → Scope
in_params m c = in_context (method_params (async_in m) (generator_in m)) c

-- the function of a method whose parameters begin at s and are ps, by its block, which lies where it says
abbrev pub method_function_node : {F C K : Type 0} → (K → Span) → Option MethodKind → Span → Trees F C K → K
    → Tree F C K
method_function_node block_at m s ps v =
    function_e (to s (block_at v)) (async_in m) (generator_in m) (block_e (block_at v) v) (params_e ps)

abbrev pub method_function_of : {K : Type 0} → (K → Span) → Option MethodKind → Span → Vec (Param PatId) Global → K
    → Function PatId K
method_function_of block_at m s ps v = record {
  span = to s (block_at v);
  params = ps;
  is_async = async_in m;
  is_generator = generator_in m;
  body = v;
}

-- the function of a method of a kind that was read, where its parameters are what they have to be
abbrev pub method_by : {F C K : Type 0} → Option MethodKind → Tree F C K × List TokenAndSpan → Out (Tree F C K)
method_by m p = if function_ok m p.0 then Some p else None

module _ {F C K : Type 0} (hook : Hook F C K) where
  -- ---- a key, and what is after it (13.2.5)

  -- after the colon: the value
  unfoldable pub after_colon : Scope → List TokenAndSpan → Out (Tree F C K)
  after_colon c ts = inside hook c ts >>= (λ p. Some (value_e (span_of p.0) p.0, p.1))

  abbrev pub after_by : Option Span → Scope → List TokenAndSpan → Out (Tree F C K)
  after_by (Some s) c ts = after_colon c ts
  after_by None c ts = run hook (sym (Shell false false)) c ts

  -- after the key k
  unfoldable pub behind_key : Tree F C K → Scope → List TokenAndSpan → Out (Tree F C K)
  behind_key k c ts = run hook (sym Behind) c ts >>= (λ p. Some (prop_of k p.0, p.1))

  -- ---- methods (15.4)

  module _ (block_at : K → Span) (m : Option MethodKind) where
    -- A method's function, in the scope of its parameters, which begin at s: after the parameters ps and their closing
    -- parenthesis, where they are as they have to be; before that parenthesis; after the opening one; and from that one
    -- on.
    abbrev pub method_block_by : Bool → Span → Trees F C K → Scope → List TokenAndSpan → Out (Tree F C K)
    method_block_by false s ps c ts = None
    method_block_by true s ps c ts =
        method_body hook (async_in m) (generator_in m) c ts
        >>= (λ p. Some (method_function_node block_at m s ps p.0, p.1))

    abbrev pub method_end : Span → Trees F C K → Scope → List TokenAndSpan → Out (Tree F C K)
    method_end s ps c ts = method_block_by (accessor_ok m ps) s ps c ts

    unfoldable pub method_close : Span → Trees F C K → Scope → List TokenAndSpan → Out (Tree F C K)
    method_close s ps c ts = expected is_rparen c ts >>= (λ p. method_end s ps c p.1)

    unfoldable pub method_left : Span → Scope → List TokenAndSpan → Out (Tree F C K)
    method_left s c ts = run hook (sym Params) c ts >>= (λ p. method_end s (items_of p.0) c p.1)

    unfoldable pub method_inside : Scope → List TokenAndSpan → Out (Tree F C K)
    method_inside c ts = expected is_lparen c ts >>= (λ p. method_left p.0 c p.1)

  -- the function of a method of a kind
  unfoldable pub method_function : Option MethodKind → Scope → List TokenAndSpan → Out (Tree F C K)
  method_function m c ts = run hook (sym (Shell (async_in m) (generator_in m))) c ts >>= (λ p. method_by m p)

  -- a method of a kind that begins at s, from its key on, and after the key k
  unfoldable pub method_behind_key : Option MethodKind → Span → Tree F C K → Scope → List TokenAndSpan
      → Out (Tree F C K)
  method_behind_key m s k c ts = method_function m c ts >>= (λ p. Some (method_tree m s k p.0, p.1))

  unfoldable pub method_tail : MethodKind → Span → Scope → List TokenAndSpan → Out (Tree F C K)
  method_tail m s c ts = run hook (sym Key) c ts >>= (λ p. method_behind_key (Some m) s p.0 c p.1)

module _ {F C K : Type 0} {fg : Ghosts F} {cg : Ghosts C} {kg : Ghosts K} where
  -- whether the first of the parameters is a rest
  abbrev pub is_rest_at : Nodes F C K fg cg kg → Option PatId → Bool
  is_rest_at ns None = false
  is_rest_at ns (Some p) = is_rest (pat_at ns p)

  abbrev pub begins_rest : Nodes F C K fg cg kg → List (Param PatId) → Bool
  begins_rest ns ps = is_rest_at ns (first_param_pat ps)

  -- of the function of a method of a kind, which holds a parameter if it is a setter's
  abbrev pub method_shell : Option MethodKind → ℕ → Nodes F C K fg cg kg → Function PatId K → Type 0
  method_shell m k ns f = shell_of k ns f × (misses_param m f.params.items ≡ false)
