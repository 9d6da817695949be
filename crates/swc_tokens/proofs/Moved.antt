-- Tokens of a part of a text may be moved to where it is in the whole, and stay in their order.
use Rattle.std.proofs.Common.{◌≡◌, ℕ, ◌+◌, ◌-◌, Bool, true, false, if◌then◌else◌, IsTrue, slice_range, drop, length-drop, ◌<◌, ◌≤◌, ◌^◌, List, [], ◌∷◌, Ok, Err, IsFalse, length, map, refl, sym, ◌∙◌, inl, arith}
use Rattle.std.proofs.{lemmas.List.Elements.All-from_recursion, lemmas.List.Elements.recursion_from_All, lemmas.List.length-take, lemmas.Bool.Decides.nat_tests}
use Rattle.std.specs.List.{All, AllByRecursion}
use Rattle.swc_context.specs.declared.error.Error.{Error}
use Rattle.swc_input.specs.{declared.token.Token.Token, declared.token.TokenAndSpan.TokenAndSpan}
use Rattle.swc_tokens.specs.Moved.{moved_token, moved_within, MayMove, MayMoveError, MayMoveWithin}
use Rattle.swc_tokens.specs.Order.{InOrder, is_error, is_text}
use Rattle.swc_tokens.specs.Spelling.{cooked, meant, Spells}
use Rattle.swc_tokens.specs.Profile.{good_len}
use Rattle.swc_input.specs.declared.token.Token.TheVariants as token

of_if : (b : Bool) (x e : Error) (value : List ℕ) → Err e ≡ (if b then Err x else Ok value) → (e ≡ x) × IsTrue b
of_if true x e value is = (cc, refl)
of_if false x e value is = absurd (cc)

-- the fault of the first escape that isn't read
may_move_cooked : (text : List ℕ) (by low high : ℕ) (e : Error) → length text + by < 2 ^ 32
    → Err e ≡ cooked low (slice_range text low high) → MayMoveError by e
may_move_cooked text by low high e short is =
    let bs = slice_range text low high in
    let both = of_if _ _ e (meant bs) is in
    let some : good_len bs < length bs = let b = both.1 in grind (arith, nat_tests) in
    let size : length bs ≤ length text - low = let l = length-take (high - low) (drop low text) in
    let r = length-drop low text in omega (arith, l, r) in
    rw both.0 (record { kind = inl refl; room = record { lo = omega arith; hi = omega arith } })

may_move_within : (text : List ℕ) (by low high : ℕ) (t : Token) → length text + by < 2 ^ 32 → Spells text low high t
    → IsFalse (is_error t) → MayMoveWithin by t
unfolding Spells is_error MayMoveWithin
may_move_within text by low high (token.Template raw (Err e)) short spells fine =
    may_move_cooked text by low high e short spells.1.cooks
may_move_within text by low high (token.Error e) short spells fine = absurd (cc)
may_move_within text by low high _ short spells fine = tt

InOrder_within : (low : ℕ) (ts : List TokenAndSpan) (high : ℕ) → InOrder low ts high → low ≤ high
unfolding InOrder
InOrder_within low [] high order = order
InOrder_within low (t ∷ ts) high order =
    let rest = InOrder_within t.span.hi.0 ts high order.2 in
    let forward = order.1.forward in
    let after = order.0 in
    omega arith

may_move_each : (text : List ℕ) (by low : ℕ) (ts : List TokenAndSpan) → length text + by < 2 ^ 32
    → InOrder low ts (length text) → AllByRecursion (λ t. Spells text t.span.lo.0 t.span.hi.0 t.token) ts
    → AllByRecursion (λ t. IsFalse (is_error t.token)) ts → AllByRecursion (MayMove by) ts
unfolding InOrder
may_move_each text by low [] short order spells fine = tt
may_move_each text by low (t ∷ ts) short order spells fine =
    let inside = InOrder_within t.span.hi.0 ts (length text) order.2 in
    let forward = order.1.forward in (
      record {
        room = record { lo = omega arith; hi = omega arith };
        within = may_move_within text by t.span.lo.0 t.span.hi.0 t.token short spells.0 fine.0;
      },
      may_move_each text by t.span.hi.0 ts short order.2 spells.1 fine.1,
    )

-- the tokens that are read
pub MayMove_all : (text : List ℕ) (by : ℕ) (ts : List TokenAndSpan) → length text + by < 2 ^ 32
    → InOrder 0 ts (length text) → All (λ t. Spells text t.span.lo.0 t.span.hi.0 t.token) ts
    → All (λ t. IsFalse (is_error t.token)) ts → All (MayMove by) ts
MayMove_all text by ts short order spells fine =
    All-from_recursion (MayMove by) ts (may_move_each text by 0 ts short order
    (recursion_from_All (λ t. Spells text t.span.lo.0 t.span.hi.0 t.token) ts spells)
    (recursion_from_All (λ t. IsFalse (is_error t.token)) ts fine))

is_text-moved : (by : ℕ) (t : Token) → is_text (moved_within by t) ≡ is_text t
unfolding is_text
is_text-moved by (token.Template raw (Ok value)) = refl
is_text-moved by (token.Template raw (Err e)) = refl
is_text-moved by (token.Error e) = refl
is_text-moved by _ = refl

in_order_moved : (by low : ℕ) (ts : List TokenAndSpan) (high : ℕ) → InOrder low ts high
    → InOrder (low + by) (map (moved_token by) ts) (high + by)
unfolding InOrder
in_order_moved by low [] high order = omega arith
in_order_moved by low (t ∷ ts) high order =
    let after = order.0 in
    let forward = order.1.forward in (
      omega arith,
      record {
        forward = omega arith;
        nonempty = λ no. let some = order.1.nonempty (sym (is_text-moved by t.token) ∙ no) in omega arith;
      },
      in_order_moved by t.span.hi.0 ts high order.2,
    )

-- the tokens of a part that begins at a position
pub InOrder_moved : (start : ℕ) (ts : List TokenAndSpan) (size : ℕ) → InOrder 0 ts size
    → InOrder start (map (moved_token start) ts) (start + size)
InOrder_moved start ts size order =
    let first : 0 + start ≡ start = omega arith in
    let last : size + start ≡ start + size = omega arith in
    rw (first, last) at (in_order_moved start 0 ts size order)
