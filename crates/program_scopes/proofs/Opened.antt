-- What `Names` holds says what the scopes declare that are open.
use Rattle.std.proofs.Common.{◌≡◌, ℕ, Bool, true, false, List, [], ◌∷◌, ◌++◌, ◌-◌, ◌≤◌, drop, length, reverse, Option, Some, None, refl, sym, ap, subst, ◌∙◌, ◌⊎◌, inl, inr, arith}
use Rattle.std.specs.Prelude.{if◌then◌else◌, ◌||◌, ◌&&◌, is_some}
use Rattle.std.specs.Option.{option_or}
use Rattle.std.specs.List.{list_any}
use Rattle.std.specs.Str.{bytes_eq}
use Rattle.std.proofs.lemmas.List.{append_assoc, append-nil, nil_from_length, length-reverse}
use Rattle.swc_context.specs.declared.span.Span.{Span}
use Rattle.program_scopes.specs.declared.names.Lexical.{Lexical}
use Rattle.program_scopes.specs.declared.names.Lexical.TheVariants.{Plain, SloppyFunction, CatchName}
use Rattle.program_scopes.specs.declared.names.InBlock.{InBlock}
use Rattle.program_scopes.specs.declared.names.Mark.{Mark}
use Rattle.program_scopes.specs.declared.names.Names.{Names}
use Rattle.program_scopes.specs.Stacks.{found, since}
use Rattle.program_scopes.specs.Layers.{last}
use Rattle.program_scopes.specs.Scopes.{Scope, Declared, excludes, blocking, against_var, var_beside, against_parameter, against_in_block, is_declared, is_in_no_block, is_of_program, nothing, begun, ended, in_block, as_var}
use Rattle.program_scopes.specs.Scopes as scopes
use Rattle.program_scopes.specs.Names as n
use Rattle.program_scopes.specs.Names.{kept, kept_after, kept_in, kept_of, vars_of, before_function, mark_of, marks_of, AreOpen}
use Rattle.program_scopes.proofs.Bytes.{split, bytes-same, bytes-refl}
use Rattle.program_scopes.proofs.Founds.{beyond, since-in, longer, same-first, same-rest, not-empty, turned, drop-front, ap2}
use Rattle.program_scopes.proofs.Layered.{last-of, any-of}

-- of the names of a block, as they are kept
module _ (f : Bool) (around : List Scope) where
  -- the innermost of a name
  blocked : (below : List (List ℕ × InBlock)) (q : List ℕ) (m : ℕ) (ds : List Declared) → m ≤ length below
      → n.blocks (since m (found q below)) ≡ (if f then None else against_var q around)
      → n.blocks (since m (found q (kept_in f around ds ++ below))) ≡ option_or (blocking q ds) (if f then None else against_var q around)
  unfolding found kept_in blocking
  blocked below q m [] le base = base
  blocked below q m (d ∷ ds) le base = by (split (bytes_eq q d.name)) (blocked below q m ds le base)
    where
      Around : List ℕ → Option Span
      Around r = if f then None else against_var r around

      rest-of : List (List ℕ × InBlock)
      rest-of = kept_in f around ds ++ below

      here : Option (ℕ × InBlock)
      here = Some (length rest-of, kept f around d ds)

      by : (bytes_eq q d.name ≡ true) ⊎ (bytes_eq q d.name ≡ false)
          → n.blocks (since m (found q rest-of)) ≡ option_or (blocking q ds) (Around q)
          → n.blocks (since m (if bytes_eq q d.name then here else found q rest-of)) ≡ option_or (blocking q (d ∷ ds)) (Around q)
      by (inl e) rest =
          let long = longer (kept_in f around ds) below in
          ap (λ b. n.blocks (since m (if b then here else found q rest-of))) e
          ∙ ap n.blocks (since-in m (length rest-of) (kept f around d ds) (omega (arith, le, long)))
          ∙ ap (λ r. option_or (blocking r (d ∷ ds)) (Around r)) (sym (bytes-same q d.name e))
      by (inr e) rest =
          ap (λ b. n.blocks (since m (if b then here else found q rest-of))) e ∙ rest
          ∙ sym (ap (λ b. option_or (if b && scopes.blocks_var d.kind then Some d.place else blocking q ds) (Around q)) e)

  -- what a name is against, by the last one that is kept
  picked : (k : Lexical) (q : List ℕ) (ds : List Declared) → n.excluding k (last q (kept_in f around ds)) ≡ scopes.excluding k q ds
  unfolding last kept_in scopes.excluding
  picked Plain q [] = refl
  picked SloppyFunction q [] = refl
  picked CatchName q [] = refl
  picked k q (d ∷ ds) = by k (split (bytes_eq q d.name)) (picked k q ds)
    where
      Top : Bool → Option InBlock
      Top b = if b then Some (kept f around d ds) else last q (kept_in f around ds)

      by : (k : Lexical) → (bytes_eq q d.name ≡ true) ⊎ (bytes_eq q d.name ≡ false)
          → n.excluding k (last q (kept_in f around ds)) ≡ scopes.excluding k q ds
          → n.excluding k (Top (bytes_eq q d.name)) ≡ scopes.excluding k q (d ∷ ds)
      by Plain (inl e) rest =
          ap (λ b. n.excluding Plain (Top b)) e
          ∙ sym (ap (λ b. if b && excludes Plain d.kind then Some d.place else scopes.excluding Plain q ds) e)
      by CatchName (inl e) rest =
          ap (λ b. n.excluding CatchName (Top b)) e
          ∙ sym (ap (λ b. if b && excludes CatchName d.kind then Some d.place else scopes.excluding CatchName q ds) e)
      by SloppyFunction (inl e) rest =
          ap (λ b. n.excluding SloppyFunction (Top b)) e
          ∙ ap (λ r. scopes.excluding SloppyFunction r (d ∷ ds)) (sym (bytes-same q d.name e))
      by k (inr e) rest =
          ap (λ b. n.excluding k (Top b)) e ∙ rest
          ∙ sym (ap (λ b. if b && excludes k d.kind then Some d.place else scopes.excluding k q ds) e)

  same-names : (q : List ℕ) (ds : List Declared) → list_any (λ x. bytes_eq q x.0) (kept_in f around ds) ≡ list_any (λ d. bytes_eq q d.name) ds
  unfolding kept_in
  same-names q [] = refl
  same-names q (d ∷ ds) = ap (λ r. bytes_eq q d.name || r) (same-names q ds)

  -- what is kept of one more name
  kept-is : (q : List ℕ) (k : Lexical) (place : Span) (ds : List Declared) (l i : Option InBlock)
      → l ≡ last q (kept_in f around ds) → n.blocks i ≡ option_or (blocking q ds) (if f then None else against_var q around)
      → kept_after place k l i ≡ kept f around (record { name = q; kind = k; place = place }) ds
  unfolding scopes.excluding blocking
  kept-is q Plain place ds l i is-last is-inner =
      ap2 (λ b c. made place (if b && true then Some place else scopes.excluding SloppyFunction q ds) (option_or (if c && true then Some place else blocking q ds) (Around q)))
      (sym (bytes-refl q)) (sym (bytes-refl q))
    where
      Around : List ℕ → Option Span
      Around r = if f then None else against_var r around

      made : Span → Option Span → Option Span → InBlock
      made place plain blocks = record { place = place; plain = plain; blocks = blocks }
  kept-is q SloppyFunction place ds l i is-last is-inner =
      ap (λ o. made place o (Some place)) (ap (n.excluding SloppyFunction) is-last ∙ picked SloppyFunction q ds)
      ∙ ap2 (λ b c. made place (if b && false then Some place else scopes.excluding SloppyFunction q ds) (option_or (if c && true then Some place else blocking q ds) (Around q)))
      (sym (bytes-refl q)) (sym (bytes-refl q))
    where
      Around : List ℕ → Option Span
      Around r = if f then None else against_var r around

      made : Span → Option Span → Option Span → InBlock
      made place plain blocks = record { place = place; plain = plain; blocks = blocks }
  kept-is q CatchName place ds l i is-last is-inner =
      ap (λ o. made place (Some place) o) is-inner
      ∙ ap2 (λ b c. made place (if b && true then Some place else scopes.excluding SloppyFunction q ds) (option_or (if c && false then Some place else blocking q ds) (Around q)))
      (sym (bytes-refl q)) (sym (bytes-refl q))
    where
      Around : List ℕ → Option Span
      Around r = if f then None else against_var r around

      made : Span → Option Span → Option Span → InBlock
      made place plain blocks = record { place = place; plain = plain; blocks = blocks }

before-within : (ss : List Scope) → before_function ss ≤ length (kept_of ss)
unfolding before_function kept_of
before-within [] = omega arith
before-within (s ∷ ss) = by (split s.is_function) (before-within ss) (longer (kept_in s.is_function ss s.lexical) (kept_of ss))
  where
    by : (s.is_function ≡ true) ⊎ (s.is_function ≡ false) → before_function ss ≤ length (kept_of ss) → length (kept_of ss) ≤ length (kept_of (s ∷ ss)) → before_function (s ∷ ss) ≤ length (kept_of (s ∷ ss))
    by (inl e) rest long = subst (λ b. (if b then length (kept_of ss) else before_function ss) ≤ length (kept_of (s ∷ ss))) (sym e) long
    by (inr e) rest long = subst (λ b. (if b then length (kept_of ss) else before_function ss) ≤ length (kept_of (s ∷ ss))) (sym e) (omega (arith, rest, long))

-- what a `var` is against
var-against : (q : List ℕ) (ss : List Scope) → n.blocks (since (before_function ss) (found q (kept_of ss))) ≡ against_var q ss
unfolding found kept_of against_var before_function
var-against q [] = refl
var-against q (s ∷ ss) = blocked s.is_function ss (kept_of ss) q (before_function (s ∷ ss)) s.lexical (within (split s.is_function)) (base (split s.is_function) (var-against q ss))
  where
    within : (s.is_function ≡ true) ⊎ (s.is_function ≡ false) → before_function (s ∷ ss) ≤ length (kept_of ss)
    within (inl e) = subst (λ b. (if b then length (kept_of ss) else before_function ss) ≤ length (kept_of ss)) (sym e) (omega arith)
    within (inr e) = subst (λ b. (if b then length (kept_of ss) else before_function ss) ≤ length (kept_of ss)) (sym e) (before-within ss)

    base : (s.is_function ≡ true) ⊎ (s.is_function ≡ false) → n.blocks (since (before_function ss) (found q (kept_of ss))) ≡ against_var q ss
        → n.blocks (since (before_function (s ∷ ss)) (found q (kept_of ss))) ≡ (if s.is_function then None else against_var q ss)
    base (inl e) rest =
        ap (λ b. n.blocks (since (if b then length (kept_of ss) else before_function ss) (found q (kept_of ss)))) e
        ∙ ap n.blocks (beyond q (kept_of ss) (length (kept_of ss)) (omega arith))
        ∙ sym (ap (λ b. if b then None else against_var q ss) e)
    base (inr e) rest =
        ap (λ b. n.blocks (since (if b then length (kept_of ss) else before_function ss) (found q (kept_of ss)))) e ∙ rest
        ∙ sym (ap (λ b. if b then None else against_var q ss) e)

-- which names are found at all
any-kept : (q : List ℕ) (ss : List Scope) → is_some (found q (kept_of ss)) ≡ list_any (λ s. list_any (λ d. bytes_eq q d.name) s.lexical) ss
unfolding found kept_of
any-kept q [] = refl
any-kept q (s ∷ ss) =
    any-of q (kept_in s.is_function ss s.lexical) (kept_of ss)
    ∙ ap2 (λ a b. a || b) (same-names s.is_function ss q s.lexical) (any-kept q ss)

any-var : (q : List ℕ) (ss : List Scope) → is_some (found q (vars_of ss)) ≡ list_any (λ s. list_any (λ d. bytes_eq q d.0) s.vars) ss
unfolding found vars_of
any-var q [] = refl
any-var q (s ∷ ss) = any-of q s.vars (vars_of ss) ∙ ap (λ r. list_any (λ d. bytes_eq q d.0) s.vars || r) (any-var q ss)

-- a mark by its fields
abbrev pub marked : Bool → ℕ → ℕ → ℕ → Mark
marked f b v n = record { is_function = f; in_blocks = b; vars = v; function = n }

-- a scope begins
pub began : (old new : Names) (f : Bool) (ss : List Scope) → AreOpen old ss → new.in_blocks ≡ old.in_blocks → new.vars ≡ old.vars
    → new.scope ≡ record { is_function = f; in_blocks = length old.in_blocks; vars = length old.vars; function = if f then length old.in_blocks else old.scope.function }
    → new.around.items ≡ old.around.items ++ old.scope ∷ [] → AreOpen new (begun f ss)
unfolding kept_of kept_in vars_of marks_of before_function
began old new f [] are in_blocks vars scope around = absurd (not-empty _ _ are.marks)
began old new f (s ∷ ss) are in_blocks vars scope around = record {
  in_blocks = in_blocks ∙ are.in_blocks;
  vars = vars ∙ are.vars;
  marks = ap (λ m. m ∷ reverse new.around.items) (scope ∙ known)
      ∙ ap (λ ms. mark_of (nothing f) (s ∷ ss) ∷ ms) (turned old.around.items new.around.items old.scope around ∙ are.marks);
}
  where
    made : ℕ → ℕ → ℕ → Mark
    made b v n = record { is_function = f; in_blocks = b; vars = v; function = if f then b else n }

    known : made (length old.in_blocks) (length old.vars) old.scope.function ≡ mark_of (nothing f) (s ∷ ss)
    known =
        ap2 (λ bs vs. made (length bs) (length vs) old.scope.function) are.in_blocks are.vars
        ∙ ap (λ m. made (length (kept_of (s ∷ ss))) (length (vars_of (s ∷ ss))) m.function) (same-first _ _ _ _ are.marks)

-- a scope ends
pub ends : (old new : Names) (ss : List Scope) (x : Mark) → AreOpen old ss → old.around.items ≡ new.around.items ++ x ∷ [] → new.scope ≡ x
    → new.in_blocks ≡ drop (length old.in_blocks - old.scope.in_blocks) old.in_blocks
    → new.vars ≡ drop (length old.vars - (if old.scope.is_function then old.scope.vars else length old.vars)) old.vars → AreOpen new (ended ss)
unfolding kept_of kept_in vars_of marks_of before_function
ends old new [] x are around scope in_blocks vars = absurd (not-empty _ _ are.marks)
ends old new (s ∷ []) x are around scope in_blocks vars =
    absurd (not-empty x (reverse new.around.items) (sym (turned new.around.items old.around.items x around) ∙ same-rest _ _ _ _ are.marks))
ends old new (s ∷ t ∷ ss) x are around scope in_blocks vars = by (split s.is_function)
  where
    top : old.scope ≡ mark_of s (t ∷ ss)
    top = same-first _ _ _ _ are.marks

    blocks' : new.in_blocks ≡ kept_of (t ∷ ss)
    blocks' =
        in_blocks ∙ ap (λ xs. drop (length xs - old.scope.in_blocks) xs) are.in_blocks
        ∙ drop-front (kept_in s.is_function (t ∷ ss) s.lexical) (kept_of (t ∷ ss)) old.scope.in_blocks (ap (λ m. m.in_blocks) top)

    marks' : new.scope ∷ reverse new.around.items ≡ marks_of (t ∷ ss)
    marks' = ap (λ m. m ∷ reverse new.around.items) scope ∙ sym (turned new.around.items old.around.items x around) ∙ same-rest _ _ _ _ are.marks

    all : List (List ℕ × Span)
    all = s.vars ++ vars_of (t ∷ ss)

    left : new.vars ≡ drop (length all - (if s.is_function then length (vars_of (t ∷ ss)) else length all)) all
    left =
        vars ∙ ap (λ xs. drop (length xs - (if old.scope.is_function then old.scope.vars else length xs)) xs) are.vars
        ∙ ap (λ m. drop (length all - (if m.is_function then m.vars else length all)) all) top

    none : length all - length all ≡ 0
    none = omega arith

    by : (s.is_function ≡ true) ⊎ (s.is_function ≡ false) → AreOpen new (ended (s ∷ t ∷ ss))
    by (inl e) = subst (λ b. AreOpen new (if b then t ∷ ss else record { is_function = t.is_function; lexical = t.lexical; vars = s.vars ++ t.vars } ∷ ss)) (sym e)
        (record {
          in_blocks = blocks';
          vars = left ∙ ap (λ b. drop (length all - (if b then length (vars_of (t ∷ ss)) else length all)) all) e
              ∙ drop-front s.vars (vars_of (t ∷ ss)) (length (vars_of (t ∷ ss))) refl;
          marks = marks';
        })
    by (inr e) = subst (λ b. AreOpen new (if b then t ∷ ss else record { is_function = t.is_function; lexical = t.lexical; vars = s.vars ++ t.vars } ∷ ss)) (sym e)
        (record {
          in_blocks = blocks';
          vars = left ∙ ap (λ b. drop (length all - (if b then length (vars_of (t ∷ ss)) else length all)) all) e
              ∙ ap (λ k. drop k all) none ∙ sym (append_assoc s.vars t.vars (vars_of ss));
          marks = marks';
        })

-- the program's scope stays
pub stays : (old new : Names) (ss : List Scope) → AreOpen old ss → length old.around.items ≡ 0 → old.around.items ≡ new.around.items ++ []
    → new.in_blocks ≡ old.in_blocks → new.vars ≡ old.vars → new.scope ≡ old.scope → AreOpen new (ended ss)
unfolding kept_of kept_in vars_of marks_of
stays old new [] are none around in_blocks vars scope = absurd (not-empty _ _ are.marks)
stays old new (s ∷ []) are none around in_blocks vars scope = record {
  in_blocks = in_blocks ∙ are.in_blocks;
  vars = vars ∙ are.vars;
  marks = ap (λ m. m ∷ reverse new.around.items) scope ∙ ap (λ ms. old.scope ∷ reverse ms) (sym (around ∙ append-nil new.around.items)) ∙ are.marks;
}
stays old new (s ∷ t ∷ ss) are none around in_blocks vars scope =
    absurd (not-empty _ _ (sym (same-rest _ _ _ _ are.marks) ∙ ap reverse (nil_from_length old.around.items none)))

pub no-block : (names : Names) (ss : List Scope) → AreOpen names ss → names.scope.is_function ≡ is_in_no_block ss
unfolding marks_of
no-block names [] are = absurd (not-empty _ _ are.marks)
no-block names (s ∷ ss) are = ap (λ m. m.is_function) (same-first _ _ _ _ are.marks)

pub has-program : (names : Names) (ss : List Scope) (b : Bool) → AreOpen names ss → (b ≡ true → length names.around.items ≡ 0) → (b ≡ false → length names.around.items ≡ 0 → ⊥) → b ≡ is_of_program ss
unfolding marks_of
has-program names [] b are one more = absurd (not-empty _ _ are.marks)
has-program names (s ∷ []) true are one more = refl
has-program names (s ∷ []) false are one more =
    let len : length (reverse names.around.items) ≡ 0 = ap length (same-rest _ _ _ _ are.marks) in
    let same = length-reverse names.around.items in
    absurd (more refl (omega (arith, len, same)))
has-program names (s ∷ t ∷ ss) true are one more =
    absurd (not-empty _ _ (sym (same-rest _ _ _ _ are.marks) ∙ ap reverse (nil_from_length names.around.items (one refl))))
has-program names (s ∷ t ∷ ss) false are one more = refl

pub has-name : (names : Names) (q : List ℕ) (ss : List Scope) → AreOpen names ss → (is_some (found q names.in_blocks) || is_some (found q names.vars)) ≡ is_declared q ss
has-name names q ss are =
    ap2 (λ xs ys. is_some (found q xs) || is_some (found q ys)) are.in_blocks are.vars ∙ ap2 (λ a b. a || b) (any-kept q ss) (any-var q ss)

-- what is found
pub against-parameter : (names : Names) (q : List ℕ) (ss : List Scope) → AreOpen names ss → since names.scope.vars (found q names.vars) ≡ against_parameter q ss
unfolding vars_of marks_of
against-parameter names q [] are = absurd (not-empty _ _ are.marks)
against-parameter names q (s ∷ ss) are =
    ap (λ m. since m.vars (found q names.vars)) (same-first _ _ _ _ are.marks)
    ∙ ap (λ xs. since (length (vars_of ss)) (found q xs)) are.vars ∙ last-of q s.vars (vars_of ss)

pub against-var : (names : Names) (q : List ℕ) (ss : List Scope) → AreOpen names ss → n.blocks (since names.scope.function (found q names.in_blocks)) ≡ against_var q ss
unfolding marks_of
against-var names q [] are = absurd (not-empty _ _ are.marks)
against-var names q (s ∷ ss) are =
    ap (λ m. n.blocks (since m.function (found q names.in_blocks))) (same-first _ _ _ _ are.marks)
    ∙ ap (λ xs. n.blocks (since (before_function (s ∷ ss)) (found q xs))) are.in_blocks ∙ var-against q (s ∷ ss)

last-kept : (names : Names) (q : List ℕ) (s : Scope) (ss : List Scope) → AreOpen names (s ∷ ss)
    → since names.scope.in_blocks (found q names.in_blocks) ≡ last q (kept_in s.is_function ss s.lexical)
unfolding kept_of marks_of
last-kept names q s ss are =
    ap (λ m. since m.in_blocks (found q names.in_blocks)) (same-first _ _ _ _ are.marks)
    ∙ ap (λ xs. since (length (kept_of ss)) (found q xs)) are.in_blocks ∙ last-of q (kept_in s.is_function ss s.lexical) (kept_of ss)

pub against-block : (names : Names) (k : Lexical) (q : List ℕ) (ss : List Scope) → AreOpen names ss
    → option_or (n.excluding k (since names.scope.in_blocks (found q names.in_blocks))) (var_beside k (since names.scope.vars (found q names.vars))) ≡ against_in_block k q ss
unfolding marks_of
against-block names k q [] are = absurd (not-empty _ _ are.marks)
against-block names k q (s ∷ ss) are =
    ap2 option_or (ap (n.excluding k) (last-kept names q s ss are) ∙ picked s.is_function ss k q s.lexical) (ap (var_beside k) (against-parameter names q (s ∷ ss) are))

-- a name is declared
pub has-block-name : (old new : Names) (k : Lexical) (q : List ℕ) (place : Span) (ss : List Scope) → AreOpen old ss
    → new.in_blocks ≡ (q, kept_after place k (since old.scope.in_blocks (found q old.in_blocks)) (since old.scope.function (found q old.in_blocks))) ∷ old.in_blocks
    → new.vars ≡ old.vars → new.scope ≡ old.scope → new.around.items ≡ old.around.items → AreOpen new (in_block q k place ss)
unfolding kept_of kept_in vars_of marks_of before_function against_var
has-block-name old new k q place [] are in_blocks vars scope around = absurd (not-empty _ _ are.marks)
has-block-name old new k q place (s ∷ ss) are in_blocks vars scope around = record {
  in_blocks = in_blocks ∙ ap2 (λ e xs. (q, e) ∷ xs)
      (kept-is s.is_function ss q k place s.lexical _ _ (last-kept old q s ss are) (against-var old q (s ∷ ss) are)) are.in_blocks;
  vars = vars ∙ are.vars;
  marks = ap2 (λ m ms. m ∷ reverse ms) scope around ∙ are.marks;
}

pub has-var : (old new : Names) (q : List ℕ) (place : Span) (ss : List Scope) → AreOpen old ss → new.vars ≡ (q, place) ∷ old.vars
    → new.in_blocks ≡ old.in_blocks → new.scope ≡ old.scope → new.around.items ≡ old.around.items → AreOpen new (as_var q place ss)
unfolding kept_of kept_in vars_of marks_of before_function
has-var old new q place [] are vars in_blocks scope around = absurd (not-empty _ _ are.marks)
has-var old new q place (s ∷ ss) are vars in_blocks scope around = record {
  in_blocks = in_blocks ∙ are.in_blocks;
  vars = vars ∙ ap (λ xs. (q, place) ∷ xs) are.vars;
  marks = ap2 (λ m ms. m ∷ reverse ms) scope around ∙ are.marks;
}
