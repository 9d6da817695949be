-- From one tree read, and the end looked for, to the headline.
use Rattle.std.proofs.Common.{◌≡◌, ℕ, Bool, true, false, not, ◌||◌, List, [], ◌∷◌, ◌++◌, Option, Some, None, Result, Ok, Err, IfOk, IsSome, MatchResult, refl, sym, ap, subst, ◌∙◌, append_assoc, length, length-append, arith}
use Rattle.std.proofs.lemmas.List.{append-nil, append_cancel_right}
use Rattle.swc_context.specs.{Contexts.view, declared.context.Context.Context, declared.context.EsVersion.EsVersion, declared.context.Syntax.Syntax, declared.error.Error.Error, declared.span.BytePos.BytePos, declared.error.SyntaxError.TheVariants.OutOfMemory}
use Rattle.swc_input.specs.Source.{Model, Laws, Source, Keeps, given_one}
use Rattle.swc_input.specs.Buffer.{Future, Known, Looked, Read, current, fresh, held, source}
use Rattle.swc_input.specs.Listed.{listed_state, listed_model, new_state}
use Rattle.swc_input.specs.Laws.{Known-after, Known-Future, Future-before, Future-end, Read-still, held_some}
use Rattle.swc_input.specs.{declared.buffer.Buffer.Buffer, declared.listed.TokensInput.TokensInput, declared.token.TokenAndSpan.TokenAndSpan, Recording.is_silent}
use Rattle.swc_ast.specs.{Tree.Tree, declared.spanned.Spanned.Ghosts}
use Rattle.swc_bodies.specs.Readings.{Hook}
use Rattle.swc_grammar.specs.{Scope.Scope, Symbols.Symbol, Reads.Reads}
use Rattle.swc_nodes.specs.{NodeParts.Part, declared.nodes.Nodes.Nodes}
use Rattle.swc_input.specs.Calls.{Loud}
use Rattle.swc_steps.proofs.Hearing.{same_faults}
use Rattle.swc_steps.specs.Parsing.{scope_of, scope}
use Rattle.swc_ecma_parser.specs.Calls.{bound_of, buffer_of, has_failed, met_bound, nodes_of, wants_memory, with_bound}
use Rattle.swc_ecma_parser.specs.Promise.{EndsAt, Finished, Unmarred, covers_done}
use Rattle.swc_ecma_parser.specs.WholeList.{plain_list, IsHeeded, Headline, Lists, ReadsFront, ReadsGiven, Tries, tried, refused, lost}
use Rattle.swc_ecma_parser.specs.declared.parser.Parser.{Parser}
use Rattle.swc_lexer.specs.Inputs.{coming, has_legacy, known_some, none_left as text_over, text_model, text_state}
use Rattle.swc_lexer.specs.declared.input.SourceText as text
use Rattle.swc_lexer.specs.declared.input.TextInput.{TextInput}

was_not : (v : Bool) → not v ≡ false → v ≡ true
was_not true h = refl
was_not false h = cc

was : (v : Bool) → not v ≡ true → v ≡ false
was false h = refl
was true h = cc

first_nil : {A : Type 0} (xs ys : List A) → xs ++ ys ≡ [] → xs ≡ []
first_nil [] ys h = refl
first_nil (x ∷ xs) ys h = cc

one_some : {A : Type 0} {x y : A} → Some x ≡ Some y → x ≡ y
one_some h = cc

heeds : (a b : Bool) → a ≡ false → b ≡ true → (a || not b) ≡ false
heeds false true h k = refl
heeds a b h k = cc

none_current : (o : Option TokenAndSpan) (l : List TokenAndSpan) → [] ≡ given_one o ++ l → IsSome o → ⊥
none_current None l h some = cc
none_current (Some t) l h some = cc

nil_left : (xs ys : List TokenAndSpan) → [] ≡ xs ++ ys → [] ≡ xs
nil_left [] ys h = refl
nil_left (x ∷ xs) ys h = cc

module _ {S : Type 0} {model : Model S} (laws : Laws model) where
  -- a look over a listed source records nothing, and finds what is known
  look_quiet : {b c : Buffer S} {ts : List TokenAndSpan} → Looked model b c → Known model b ts
      → (model.state (source c)).errors ≡ (model.state (source b)).errors
  look_quiet l k = (l.look.quiet k.more k.known).0

  look_known : {b c : Buffer S} (ts : List TokenAndSpan) → Looked model b c → Known model b ts → Known model c ts
  look_known {b} {c} ts l k = let w = Known-after laws b c [] ts l.look.read.took k in
      subst (λ v. Known model c v) (sym w.2) w.1

  -- at the end nothing is left
  none_left : {b c : Buffer S} (ts : List TokenAndSpan) → Looked model b c → Known model b ts → current c ≡ None
      → (model.state (source c)).ended ≡ true → ts ≡ []
  none_left {b} {c} ts l k e ended = Future-end model c ts e (l.end e).0 ended
      (Known-Future laws c ts (look_known ts l k))

  -- where nothing is left no token is current
  none_here : {b c : Buffer S} → Looked model b c → Known model b [] → IsSome (current c) → ⊥
  none_here {b} {c} l k some =
      let w = look_known [] l k in
      none_current c.cur (given_one c.next) (nil_left (held c) w.more w.begins) some

module _ {S H N F C K : Type 0} {fg : Ghosts F} {cg : Ghosts C} {kg : Ghosts K} {model : Model S} {sure : Bool}
    {hook : Hook F C K}
    (tree : Nodes F C K fg cg kg → N → Tree F C K) (part : N → Part) (s : Symbol) (laws : Laws model) where
  whole-sound : {p q : Parser S H F C K fg cg kg} {r : Result (N × Bool) Error} (ts : List TokenAndSpan)
      → Tries model sure hook tree part s p r q → has_failed p ≡ false
      → Known model (buffer_of p) ts → Loud model (buffer_of p) → (model.state (source (buffer_of p))).errors ≡ []
      → IfOk r (λ x. x.1 ≡ false → (model.state (source (buffer_of q))).errors ≡ []
      → Finished covers_done (Reads hook s) (scope model (buffer_of p)) ts [] (tree (nodes_of q) x.0))
  whole-sound {p} ts (tried {id = id} {v = v} {q = q} {r = r} h c) runs k loud clean = λ all none.
      let sees = c.effect (h.fails runs) in
      let d0 = h.reads runs in
      let w = Known-after laws (buffer_of p) (buffer_of q) d0.leads.taken ts d0.leads.read.took k in
      let same : Unmarred model (buffer_of p) (buffer_of q) =
      sym (look_quiet laws sees.looks.looked w.1) ∙ none ∙ sym clean in
      let d = h.sound runs loud same in
      let x = Known-after laws (buffer_of p) (buffer_of q) d.consumed ts d.read.took k in
      let end = sees.end (was_not v all) in
      let rest = none_left laws x.0 sees.looks.looked x.1 end.0 end.1 in
      let whole : ts ≡ d.consumed = x.2 ∙ ap (λ l. d.consumed ++ l) rest ∙ append-nil d.consumed in
      let P : List TokenAndSpan → Type 0 =
      λ l. Finished covers_done (Reads hook s) (scope model (buffer_of p)) l [] (tree (nodes_of r) id) in
      subst P (sym whole) (rw (c.nodes) d.whole)
  whole-sound ts (refused h) runs k loud clean = tt
  whole-sound ts (lost h c) runs k loud clean = tt

  whole-alone : EndsAt s [] → {p q : Parser S H F C K fg cg kg} {r : Result (N × Bool) Error} (ts : List TokenAndSpan)
      → Tries model sure hook tree part s p r q → has_failed p ≡ false
      → Known model (buffer_of p) ts → Loud model (buffer_of p) → (model.state (source (buffer_of p))).errors ≡ []
      → IfOk r (λ x. x.1 ≡ false → (model.state (source (buffer_of q))).errors ≡ []
      → (t : Tree F C K) → Finished covers_done (Reads hook s) (scope model (buffer_of p)) ts [] t
      → t ≡ tree (nodes_of q) x.0)
  whole-alone stops {p} ts (tried {id = id} {v = v} {q = q} {r = r} h c) runs k loud clean = λ all none t derived.
      let sees = c.effect (h.fails runs) in
      let d0 = h.reads runs in
      let w = Known-after laws (buffer_of p) (buffer_of q) d0.leads.taken ts d0.leads.read.took k in
      let same : Unmarred model (buffer_of p) (buffer_of q) =
      sym (look_quiet laws sees.looks.looked w.1) ∙ none ∙ sym clean in
      let d = h.one_tree runs loud same in
      let x = Known-after laws (buffer_of p) (buffer_of q) d.consumed ts d.read.took k in
      let end = sees.end (was_not v all) in
      let rest = none_left laws x.0 sees.looks.looked x.1 end.0 end.1 in
      let whole : ts ≡ d.consumed = x.2 ∙ ap (λ l. d.consumed ++ l) rest ∙ append-nil d.consumed in
      let P : List TokenAndSpan → Type 0 = λ l. Finished covers_done (Reads hook s)
      (scope model (buffer_of p)) l [] t in
      d.alone stops t (subst P whole derived) ∙ ap (λ ns. tree ns id) (sym c.nodes)
  whole-alone stops ts (refused h) runs k loud clean = tt
  whole-alone stops ts (lost h c) runs k loud clean = tt

  whole-complete : EndsAt s [] → {p q : Parser S H F C K fg cg kg} {r : Result (N × Bool) Error}
      (ts : List TokenAndSpan) (t : Tree F C K) → Tries model sure hook tree part s p r q → has_failed p ≡ false
      → Known model (buffer_of p) ts → Loud model (buffer_of p) → (model.state (source (buffer_of p))).errors ≡ []
      → sure ≡ true
      → Finished covers_done (Reads hook s) (scope model (buffer_of p)) ts [] t
      → MatchResult r (λ x. (tree (nodes_of q) x.0 ≡ t) × (x.1 ≡ false)
      × ((model.state (source (buffer_of q))).errors ≡ [])) (λ e. e.kind ≡ OutOfMemory)
  whole-complete stops {p} ts t (tried {id = id} {v = true} {q = q} {r = r} h c) runs k loud clean y d =
      let sees = c.effect (h.fails runs) in
      let w = h.complete runs y loud ts [] t k d stops in
      (ap (λ ns. tree ns id) c.nodes ∙ w.0, refl, look_quiet laws sees.looks.looked w.1 ∙ w.2 ∙ clean)
  whole-complete stops {p} ts t (tried {id = id} {v = false} {q = q} {r = r} h c) runs k loud clean y d =
      let sees = c.effect (h.fails runs) in
      let w = h.complete runs y loud ts [] t k d stops in
      absurd (none_here laws sees.looks.looked w.1 (sees.token refl))
  whole-complete stops ts t (refused h) runs k loud clean y d = h.complete runs y loud ts [] t k d stops
  whole-complete stops ts t (lost h c) runs k loud clean y d = (c.effect (h.fails runs)).looks.kind

-- a new buffer over a list
module _ (input : TokensInput) (at : BytePos) (ts : List TokenAndSpan) (c : Context) (x : Syntax) (v : EsVersion) where
  pub fresh-known : listed_state input ≡ new_state ts c x v → Known listed_model (fresh input at) (plain_list ts)
  fresh-known is = record { more = plain_list ts; begins = refl; known = ap (λ s. s.known) is }

  pub fresh-loud : listed_state input ≡ new_state ts c x v → IsHeeded c x → Loud listed_model (fresh input at)
  fresh-loud is heeded = ap (λ s. is_silent s) is ∙ heeds c.ignore_error x.early_errors heeded.0 heeded.1

module _ {S H N F C K : Type 0} {fg : Ghosts F} {cg : Ghosts C} {kg : Ghosts K} {model : Model S} {sure : Bool}
    {hook : Hook F C K} (laws : Laws model)
    (tree : Nodes F C K fg cg kg → N → Tree F C K) (part : N → Part) (s : Symbol) (stops : EndsAt s []) where
  -- by a new parser with a bound, over a source that nothing was asked of
  pub headline : {n : ℕ} {p q : Parser S H F C K fg cg kg} {r : Result (N × Bool) Error} (o : Parser S H F C K fg cg kg)
      (input : S) (at : BytePos) (ts : List TokenAndSpan)
      → Lists ts (model.state input) → buffer_of o ≡ fresh input at → has_failed o ≡ false → p ≡ with_bound n o
      → IsHeeded (model.state input).context (model.state input).syntax → Tries model sure hook tree part s p r q
      → Headline sure hook s tree (model.state input).context (model.state input).syntax ts r (nodes_of q)
      (model.state (source (buffer_of q))).errors
  headline {p = p} {q = q} {r = r} o input at ts lists unread ran bounded heeded t =
      let c = (model.state input).context in
      let x = (model.state input).syntax in
      let new : buffer_of p ≡ fresh input at = ap (λ b. buffer_of b) bounded ∙ unread in
      let runs : has_failed p ≡ false = ap (λ b. has_failed b) bounded ∙ ran in
      let unasked : Known model (fresh input at) ts = record { more = ts; begins = refl; known = lists.known } in
      let known : Known model (buffer_of p) ts = rw (new) unasked in
      let heard : Loud model (fresh input at) = heeds c.ignore_error x.early_errors heeded.0 heeded.1 in
      let loud : Loud model (buffer_of p) = rw (new) heard in
      let clean : (model.state (source (buffer_of p))).errors ≡ [] =
      ap (λ b. (model.state (source b)).errors) new ∙ lists.clean in
      let same : scope model (buffer_of p) ≡ scope_of (view c) x = ap (λ b. scope model b) new in
      let S : Scope → Type 0 = λ k. IfOk r (λ y. y.1 ≡ false
      → (model.state (source (buffer_of q))).errors ≡ []
      → Finished covers_done (Reads hook s) k ts [] (tree (nodes_of q) y.0)) in
      let A : Scope → Type 0 = λ k. IfOk r (λ y. y.1 ≡ false → (model.state (source (buffer_of q))).errors ≡ []
      → (e : Tree F C K) → Finished covers_done (Reads hook s) k ts [] e → e ≡ tree (nodes_of q) y.0) in
      record {
        sound = subst S same (whole-sound tree part s laws ts t runs known loud clean);
        one_tree = subst A same (whole-alone tree part s laws stops ts t runs known loud clean);
        complete = λ y e d. whole-complete tree part s laws stops ts e t runs known loud clean y
            (let D : Scope → Type 0 = λ k. Finished covers_done (Reads hook s) k ts [] e in subst D (sym same) d);
      }

-- of a new source, in its context and by its syntax
pub headline-in : {N F C K : Type 0} {fg : Ghosts F} {cg : Ghosts C} {kg : Ghosts K} {sure : Bool} {hook : Hook F C K}
    {s : Symbol} {tree : Nodes F C K fg cg kg → N → Tree F C K}
    {ts : List TokenAndSpan} {read : Result (N × Bool) Error} {nodes : Nodes F C K fg cg kg} {recorded : List Error}
    (state new : Source) → state ≡ new → Lists ts new
    → ((us : List TokenAndSpan) → Lists us state → IsHeeded state.context state.syntax
    → Headline sure hook s tree state.context state.syntax us read nodes recorded)
    → IsHeeded new.context new.syntax → Headline sure hook s tree new.context new.syntax ts read nodes recorded
headline-in {sure = sure} {hook = hook} {s = s} {tree = tree} {ts = ts} {read = read} {nodes = nodes}
    {recorded = recorded} state new is lists told =
    let P : Source → Type 0 = λ v. Lists ts v → IsHeeded v.context v.syntax
    → Headline sure hook s tree v.context v.syntax ts read nodes recorded in
    subst P is (told ts) lists

none-added : {es fs gs : List Error} → Keeps es fs → Keeps fs gs → gs ≡ es → fs ≡ es
none-added {es} {fs} {gs} h k e =
    let a = ap length h.added in
    let b = length-append es h.more in
    let c = ap length k.added in
    let d = length-append fs k.more in
    let n = ap length e in
    same_faults h (omega arith)

-- a look consumed nothing, at a buffer that holds nothing but what the source gave
module _ {S : Type 0} {model : Model S} (laws : Laws model) where
  held_after : {b c d : Buffer S} (xs : List TokenAndSpan) → held b ≡ [] → Read model b xs c → Looked model c d
      → model.gives (source b) (xs ++ held d) (source d)
  held_after {b} {c} {d} xs new r l =
      let took = (Read-still laws b c d xs r l.look.read).took in
      let given : took.given ≡ xs ++ held d = ap (λ l. l ++ took.given) (sym new) ∙ took.balance in
      subst (λ l. model.gives (source b) l (source d)) given took.gave

  -- what may come after the look may come before it
  ahead_of : {c d : Buffer S} → Looked model c d → (more : List TokenAndSpan)
      → ((model.state (source d)).ended ≡ true → more ≡ [])
      → ((m : List TokenAndSpan) → (model.state (source d)).known ≡ Some m → more ≡ m) → Future model c (held d ++ more)
  ahead_of {c} {d} l more over known = Future-before laws c d [] (held d ++ more) l.look.read.took
      (record { more = more; begins = refl; over = over; known = known })

  nothing_held : {c d : Buffer S} → Looked model c d → current d ≡ None → held d ≡ []
  nothing_held {c} {d} l none = ap (λ o. given_one o ++ given_one d.next) none ∙ ap given_one (l.end none).0

module _ {S H N F C K : Type 0} {fg : Ghosts F} {cg : Ghosts C} {kg : Ghosts K} {model : Model S} {sure : Bool}
    {hook : Hook F C K} (laws : Laws model)
    (tree : Nodes F C K fg cg kg → N → Tree F C K) (part : N → Part) (s : Symbol) (stops : EndsAt s []) where
  -- by a parser whose buffer is new
  given-read : {p q : Parser S H F C K fg cg kg} {r : Result (N × Bool) Error} → Tries model sure hook tree part s p r q
      → has_failed p ≡ false → held (buffer_of p) ≡ [] → Loud model (buffer_of p)
      → IfOk r (λ x. (model.state (source (buffer_of q))).errors ≡ (model.state (source (buffer_of p))).errors
      → ReadsGiven model hook s (source (buffer_of p)) x.1 (tree (nodes_of q) x.0))
  given-read {p} (tried {id = id} {v = v} {q = q} {r = r} h c) runs new loud = λ quiet.
      let sees = c.effect (h.fails runs) in
      let look = sees.looks.looked in
      let same : Unmarred model (buffer_of p) (buffer_of q) =
      none-added (h.reads runs).leads.read.errors look.look.read.errors quiet in
      let d = h.sound runs loud same in
      let o = h.one_tree runs loud same in
      record {
        last = source (buffer_of r);
        consumed = d.consumed;
        seen = held (buffer_of r);
        gave = held_after laws d.consumed new d.read look;
        none = λ all. let e = sees.end (was_not v all) in (nothing_held laws look e.0, e.1);
        some = λ left. held_some (buffer_of r) (sees.token (was v left));
        derived = rw (c.nodes) d.whole;
        ahead = λ more over known. subst (λ l. Finished covers_done (Reads hook s) (scope model (buffer_of p)) l
            (held (buffer_of r) ++ more) (tree (nodes_of r) id))
            (sym (append_assoc d.consumed (held (buffer_of r)) more))
            (rw (c.nodes) (d.front (held (buffer_of r) ++ more) (ahead_of laws look more over known)));
        sole = o.consumed;
        gave_sole = held_after laws o.consumed new o.read look;
        only = λ u e. o.alone stops u e ∙ ap (λ ns. tree ns id) (sym c.nodes);
      }
  given-read (refused h) runs new loud = tt
  given-read (lost h c) runs new loud = tt

  -- by a new parser with a bound, over a source that nothing was asked of
  pub given-whole : {n : ℕ} {p q : Parser S H F C K fg cg kg} {r : Result (N × Bool) Error}
      (o : Parser S H F C K fg cg kg) (input : S) (at : BytePos) → buffer_of o ≡ fresh input at → has_failed o ≡ false
      → p ≡ with_bound n o → IsHeeded (model.state input).context (model.state input).syntax
      → Tries model sure hook tree part s p r q
      → IfOk r (λ x. (model.state (source (buffer_of q))).errors ≡ (model.state input).errors
      → ReadsGiven model hook s input x.1 (tree (nodes_of q) x.0))
  given-whole {p = p} {q = q} {r = r} o input at unread ran bounded heeded t =
      let c = (model.state input).context in
      let x = (model.state input).syntax in
      let new : buffer_of p ≡ fresh input at = ap (λ b. buffer_of b) bounded ∙ unread in
      let runs : has_failed p ≡ false = ap (λ b. has_failed b) bounded ∙ ran in
      let heard : Loud model (fresh input at) = heeds c.ignore_error x.early_errors heeded.0 heeded.1 in
      let loud : Loud model (buffer_of p) = rw (new) heard in
      let P : S → Type 0 = λ i. IfOk r (λ y. (model.state (source (buffer_of q))).errors ≡ (model.state i).errors
      → ReadsGiven model hook s i y.1 (tree (nodes_of q) y.0)) in
      subst P (ap (λ b. source b) new) (given-read t runs (ap (λ b. held b) new) loud)

-- where no list but ts is to come, that front of it was read
module _ {S F C K : Type 0} {model : Model S} {hook : Hook F C K} {s : Symbol} {source : S} {c : Context} {x : Syntax}
    {unread : Bool} {t : Tree F C K} where
  pub front-of : (g : ReadsGiven model hook s source unread t) (ts more : List TokenAndSpan)
      → ((model.state source).context ≡ c) → ((model.state source).syntax ≡ x)
      → ((xs : List TokenAndSpan) → model.gives source xs g.last → ts ≡ xs ++ more)
      → ((model.state g.last).ended ≡ true → more ≡ [])
      → ((m : List TokenAndSpan) → (model.state g.last).known ≡ Some m → more ≡ m)
      → ReadsFront hook s c x ts unread t
  front-of g ts more context syntax given over known =
      let all : ts ≡ (g.consumed ++ g.seen) ++ more = given (g.consumed ++ g.seen) g.gave in
      let sole : g.consumed ≡ g.sole = append_cancel_right g.consumed g.sole g.seen
      (append_cancel_right (g.consumed ++ g.seen) (g.sole ++ g.seen) more
      (sym all ∙ given (g.sole ++ g.seen) g.gave_sole)) in
      let D : Context → Syntax → List TokenAndSpan → List TokenAndSpan → Tree F C K → Type 0 = λ d y xs ys u.
      Finished covers_done (Reads hook s) (scope_of (view d) y) xs ys u in
      let ahead = g.ahead more over known in
      rw (sym context, sym syntax) (record {
        consumed = g.consumed;
        rest = g.seen ++ more;
        split = all ∙ append_assoc g.consumed g.seen more;
        none = λ e. let n = g.none e in ap (λ l. l ++ more) (n.0) ∙ over n.1;
        some = λ e h. g.some e (first_nil g.seen more h);
        derived = g.derived;
        ahead = subst (λ l. Finished covers_done (Reads hook s)
            (scope_of (view (model.state source).context) (model.state source).syntax) l (g.seen ++ more) t) (sym all) ahead;
        only = λ u e. g.only u (subst (λ l. Finished covers_done (Reads hook s)
            (scope_of (view (model.state source).context) (model.state source).syntax) l [] u) sole e);
      })

  -- of a listed source
  pub front-listed : Laws model → (ts : List TokenAndSpan) → Lists ts (model.state source)
      → ((model.state source).context ≡ c) → ((model.state source).syntax ≡ x)
      → ReadsGiven model hook s source unread t → ReadsFront hook s c x ts unread t
  front-listed laws ts lists context syntax g =
      let k = (laws.gave source g.last (g.consumed ++ g.seen) g.gave).known ts lists.known in
      front-of g ts k.0 context syntax (λ xs gave. let m = (laws.gave source g.last xs gave).known ts lists.known in
      m.2 ∙ ap (λ l. xs ++ l) (one_some (sym m.1 ∙ k.1)))
      (λ e. (laws.lawful g.last).over k.0 k.1 e) (λ m h. one_some (sym k.1 ∙ h))

-- what is answered of a new list, and of a new text
pub front-new : {S N F C K : Type 0} {model : Model S} {fg : Ghosts F} {cg : Ghosts C} {kg : Ghosts K}
    (hook : Hook F C K) (s : Symbol) (input : S) (tree : Nodes F C K fg cg kg → N → Tree F C K)
    (read : Result (N × Bool) Error) (nodes : Nodes F C K fg cg kg) (recorded : List Error)
    (laws : Laws model) (ts : List TokenAndSpan) (new : Source) → model.state input ≡ new → Lists ts new
    → (IsHeeded (model.state input).context (model.state input).syntax
    → IfOk read (λ r. recorded ≡ (model.state input).errors → ReadsGiven model hook s input r.1 (tree nodes r.0)))
    → IsHeeded new.context new.syntax → IfOk read (λ r. recorded ≡ []
    → ReadsFront hook s new.context new.syntax ts r.1 (tree nodes r.0))
front-new hook s input tree (Ok r) nodes recorded laws ts new is lists given heeded = λ clean.
    front-listed laws ts (subst (λ v. Lists ts v) (sym is) lists) (ap (λ v. v.context) is) (ap (λ v. v.syntax) is)
    (given (subst (λ v. IsHeeded v.context v.syntax) (sym is) heeded)
    (clean ∙ sym lists.clean ∙ ap (λ v. v.errors) (sym is)))
front-new hook s input tree (Err e) nodes recorded laws ts new is lists given heeded = tt

-- of a refusal alone it is told that something was nested too deeply
module _ {S H N F C K : Type 0} {fg : Ghosts F} {cg : Ghosts C} {kg : Ghosts K} {model : Model S} {sure : Bool}
    {hook : Hook F C K} {tree : Nodes F C K fg cg kg → N → Tree F C K} {part : N → Part} {s : Symbol} where
  pub tries-bound : {p q : Parser S H F C K fg cg kg} {r : Result (N × Bool) Error}
      → Tries model sure hook tree part s p r q → bound_of q ≡ bound_of p
  tries-bound (tried h c) = c.bound ∙ h.bound
  tries-bound (refused h) = h.bound
  tries-bound (lost h c) = c.bound ∙ h.bound

  pub tries-shallow : {p q : Parser S H F C K fg cg kg} {r : Result (N × Bool) Error}
      → Tries model sure hook tree part s p r q → has_failed p ≡ false → wants_memory r ≡ false → met_bound q ≡ false
  tries-shallow (tried h c) runs enough = c.shallow (h.fails runs) refl
  tries-shallow (refused h) runs enough = h.shallow runs enough
  tries-shallow (lost h c) runs enough = c.shallow (h.fails runs) enough

-- of a new text, whether it has numbers of old scripts or not
module _ {T F C K : Type 0} {g : text.Ghosts T} {hook : Hook F C K} {s : Symbol} {input : TextInput T g} {c : Context}
    {x : Syntax}
    {unread : Bool} {t : Tree F C K} where
  front-text : (ts : List TokenAndSpan) → coming input ≡ ts → (text_state input).context ≡ c
      → (text_state input).syntax ≡ x → ReadsGiven text_model hook s input unread t
      → ReadsFront hook s c x ts unread t
  front-text ts all context syntax g = front-of g ts (coming g.last) context syntax
      (λ xs gave. sym all ∙ gave.list) (λ e. text_over g.last e)
      (λ m h. (known_some (has_legacy g.last) (coming g.last) m h).1)

pub front-new-text : {N T F C K : Type 0} {g : text.Ghosts T} {fg : Ghosts F} {cg : Ghosts C} {kg : Ghosts K}
    (hook : Hook F C K) (s : Symbol) (input : TextInput T g) (tree : Nodes F C K fg cg kg → N → Tree F C K)
    (read : Result (N × Bool) Error) (nodes : Nodes F C K fg cg kg) (recorded : List Error)
    (ts : List TokenAndSpan) (new : Source) → text_state input ≡ new → new.errors ≡ [] → coming input ≡ ts
    → (IsHeeded (text_state input).context (text_state input).syntax
    → IfOk read (λ r. recorded ≡ (text_state input).errors → ReadsGiven text_model hook s input r.1 (tree nodes r.0)))
    → IsHeeded new.context new.syntax → IfOk read (λ r. recorded ≡ []
    → ReadsFront hook s new.context new.syntax ts r.1 (tree nodes r.0))
front-new-text hook s input tree (Ok r) nodes recorded ts new is none all given heeded = λ clean.
    front-text ts all (ap (λ v. v.context) is) (ap (λ v. v.syntax) is)
    (given (subst (λ v. IsHeeded v.context v.syntax) (sym is) heeded)
    (clean ∙ sym none ∙ ap (λ v. v.errors) (sym is)))
front-new-text hook s input tree (Err e) nodes recorded ts new is none all given heeded = tt
