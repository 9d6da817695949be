-- Where operands are wanted at the slashes at which regular expressions were found, each reading reads these after
-- their slashes: nothing that is read ends before an operand, and an operator is after something read.
use Rattle.std.specs.Prelude.{◌≡◌, Bool, true, false, not, ◌&&◌, ◌||◌, List, [], ◌∷◌, ◌++◌, Option, Some, None}
use Rattle.std.proofs.Common.{refl, sym, ap, subst, ◌∙◌}
use Rattle.std.proofs.lemmas.List.{append-nil}
use Rattle.swc_context.specs.{declared.operator.AssignOp.AssignOp as assign, declared.operator.BinOpToken.BinOpToken as sign, declared.operator.UpdateOp.UpdateOp, declared.span.Span.Span, declared.word.Keyword.Keyword as keyword, declared.word.Word.Word as word}
use Rattle.swc_input.specs.{declared.token.Token.Token, declared.token.Token.Token as token, declared.token.TokenAndSpan.TokenAndSpan, Kinds.is_hash}
use Rattle.swc_ast.specs.Tree.{Tree}
use Rattle.swc_bodies.specs.Slashes.{is_slash, is_found_at, may_end, names_follow, wanted_behind, ends_well, EndsBodies, ReplayHook}
use Rattle.swc_bodies.specs.{Readings.Hook, Readings.LawfulHook, Replaying.pair}
use Rattle.swc_grammar.specs.Rule.{Rule, gives, never, take, check, peek, peek_two, read, hear, given, ◌>>=◌}
use Rattle.swc_grammar.specs.Symbols.{Symbol, Key, Prop, PatProp, Answer, Body, function, class, block, Value, reading_of, Side}
use Rattle.swc_grammar.specs.Parts.{reference, binding, any_name, lit_of, regex_of, key_lit_of, update_here}
use Rattle.swc_grammar.specs.Reads.{Hears, Reads, by, Follows, gave, took, held, calm, calm-two, part, heard}
use Rattle.swc_grammar.specs.Tokens.{tk, is_this, is_rparen, is_rbracket, is_rbrace, is_backquote, is_target, is_meta, is_await, is_yield, is_dot}
use Rattle.swc_grammar.specs.{Scope.Scope, Grammar.Production, Grammar.regex-slash, Arrows.async_name, Names.Spelling}
use Rattle.swc_laws.specs.Replay.{is_joining, Joined, JoinedSide, ReplayWanted}
use Rattle.swc_grammar.proofs.Answers.{both}
use Rattle.swc_laws.proofs.Replay.{replay}

or-true : (o : Bool) → (o || true) ≡ true
or-true true = refl
or-true false = refl

-- with what a production may end
this-ends : (o : Bool) (t : Token) → is_this t ≡ true → may_end o t ≡ true
this-ends o (token.Word (word.Keyword keyword.This)) h = or-true o
this-ends o t h = cc

rparen-ends : (o : Bool) (t : Token) → is_rparen t ≡ true → may_end o t ≡ true
rparen-ends o token.RParen h = refl
rparen-ends o t h = cc

rbracket-ends : (o : Bool) (t : Token) → is_rbracket t ≡ true → may_end o t ≡ true
rbracket-ends o token.RBracket h = refl
rbracket-ends o t h = cc

rbrace-ends : (o : Bool) (t : Token) → is_rbrace t ≡ true → may_end o t ≡ true
rbrace-ends o token.RBrace h = refl
rbrace-ends o t h = cc

backquote-ends : (o : Bool) (t : Token) → is_backquote t ≡ true → may_end o t ≡ true
backquote-ends o token.BackQuote h = refl
backquote-ends o t h = cc

target-ends : (o : Bool) (t : Token) → is_target t ≡ true → may_end o t ≡ true
target-ends o (token.Word (word.Ident w)) h = or-true o
target-ends o t h = cc

meta-ends : (o : Bool) (t : Token) → is_meta t ≡ true → may_end o t ≡ true
meta-ends o (token.Word (word.Ident w)) h = or-true o
meta-ends o t h = cc

await-ends : (o : Bool) (t : Token) → is_await t ≡ true → may_end o t ≡ true
await-ends o (token.Word (word.Keyword keyword.Await)) h = or-true o
await-ends o t h = cc

yield-ends : (o : Bool) (t : Token) → is_yield t ≡ true → may_end o t ≡ true
yield-ends o (token.Word (word.Keyword keyword.Yield)) h = or-true o
yield-ends o t h = cc

reference-ends : (o : Bool) (c : Scope) (t : Token) (s : Span) (n : Spelling) → reference c t s ≡ Some n
    → may_end o t ≡ true
reference-ends o c (token.Word (word.Keyword keyword.Delete)) s n h = cc
reference-ends o c (token.Word (word.Keyword keyword.In)) s n h = cc
reference-ends o c (token.Word (word.Keyword keyword.InstanceOf)) s n h = cc
reference-ends o c (token.Word (word.Keyword keyword.New)) s n h = cc
reference-ends o c (token.Word (word.Keyword keyword.TypeOf)) s n h = cc
reference-ends o c (token.Word (word.Keyword keyword.Void)) s n h = cc
reference-ends o c (token.Word w) s n h = or-true o
reference-ends o c t s n h = cc

binding-ends : (o : Bool) (c : Scope) (t : Token) (s : Span) (n : Spelling) → binding c t s ≡ Some n
    → may_end o t ≡ true
binding-ends o c (token.Word (word.Keyword keyword.Delete)) s n h = cc
binding-ends o c (token.Word (word.Keyword keyword.In)) s n h = cc
binding-ends o c (token.Word (word.Keyword keyword.InstanceOf)) s n h = cc
binding-ends o c (token.Word (word.Keyword keyword.New)) s n h = cc
binding-ends o c (token.Word (word.Keyword keyword.TypeOf)) s n h = cc
binding-ends o c (token.Word (word.Keyword keyword.Void)) s n h = cc
binding-ends o c (token.Word w) s n h = or-true o
binding-ends o c t s n h = cc

name-ends : (o : Bool) (c : Scope) (t : Token) (s : Span) (n : Spelling) → o ≡ true → any_name c t s ≡ Some n
    → may_end o t ≡ true
name-ends true c (token.Word w) s n e h = refl
name-ends false c (token.Word w) s n e h = cc
name-ends o c t s n e h = cc

async-ends : (o : Bool) (c : Scope) (t : Token) (s : Span) (n : Spelling) → async_name c t s ≡ Some n
    → may_end o t ≡ true
async-ends o c (token.Word (word.Keyword keyword.Delete)) s n h = cc
async-ends o c (token.Word (word.Keyword keyword.In)) s n h = cc
async-ends o c (token.Word (word.Keyword keyword.InstanceOf)) s n h = cc
async-ends o c (token.Word (word.Keyword keyword.New)) s n h = cc
async-ends o c (token.Word (word.Keyword keyword.TypeOf)) s n h = cc
async-ends o c (token.Word (word.Keyword keyword.Void)) s n h = cc
async-ends o c (token.Word w) s n h = or-true o
async-ends o c t s n h = cc

update-ends : (o : Bool) (t : Token) (s : Span) (n : UpdateOp × Span) → update_here t s ≡ Some n → may_end o t ≡ true
update-ends o token.PlusPlus s n h = refl
update-ends o token.MinusMinus s n h = refl
update-ends o t s n h = cc

lit-ends : {F C K : Type 0} (o : Bool) (t : Token) (s : Span) (e : Tree F C K) → lit_of t s ≡ Some e
    → may_end o t ≡ true
lit-ends o (token.Word word.Null) s e h = or-true o
lit-ends o (token.Word word.True) s e h = or-true o
lit-ends o (token.Word word.False) s e h = or-true o
lit-ends o (token.Num raw) s e h = refl
lit-ends o (token.BigInt raw) s e h = refl
lit-ends o (token.Str value raw) s e h = refl
lit-ends o t s e h = cc

key_lit-ends : {F C K : Type 0} (o : Bool) (t : Token) (s : Span) (e : Tree F C K) → key_lit_of t s ≡ Some e
    → may_end o t ≡ true
key_lit-ends o (token.Num raw) s e h = refl
key_lit-ends o (token.BigInt raw) s e h = refl
key_lit-ends o (token.Str value raw) s e h = refl
key_lit-ends o t s e h = cc

regex-ends : {F C K : Type 0} (o : Bool) (t : Token) (s : Span) (e : Tree F C K) → regex_of t s ≡ Some e
    → may_end o t ≡ true
regex-ends o (token.Regex exp flags) s e h = refl
regex-ends o t s e h = cc

dot-names : (t : Token) → is_dot t ≡ true → names_follow t ≡ true
dot-names token.Dot h = refl
dot-names t h = cc

hash-names : (t : Token) → is_hash t ≡ true → names_follow t ≡ true
hash-names token.Hash h = refl
hash-names t h = cc

off : false ≡ true → ⊥
off h = absurd cc

-- what a token that is a slash has, if both slashes have it
by-slash : (P : Token → Type 0) → P (token.BinOp sign.Div) → P (token.AssignOp assign.DivAssign) → (t : Token)
    → is_slash t ≡ true → P t
by-slash P x y (token.BinOp sign.Div) h = x
by-slash P x y (token.AssignOp assign.DivAssign) h = y
by-slash P x y t h = absurd cc

-- Keys and properties may end with any word; all else that is read ends with a token with which something may end.
abbrev is_ended : Symbol → Bool
is_ended Key = false
is_ended Prop = false
is_ended PatProp = false
is_ended s = true

module _ {F C K : Type 0} where
  -- a side that can't be followed
  abbrev Dead : {A : Type 0} → Rule Symbol (Answer F C K) Body (Value F C K) A → Type 0
  Dead never = Unit {0}
  Dead (check b r) = b ≡ true → Dead r
  Dead r = ⊥

  -- No slash is taken but after something that was read.
  abbrev NoSlash : {A : Type 0} → Bool → Rule Symbol (Answer F C K) Body (Value F C K) A → Type 0
  NoSlash b (gives a) = Unit {0}
  NoSlash b never = Unit {0}
  NoSlash true (take f) = (a : TokenAndSpan) → NoSlash false (f a)
  NoSlash false (take f) =
      ((b : Bool) (s : Span) → Dead (f (tk (token.BinOp sign.Div) b s)) × Dead
      (f (tk (token.AssignOp assign.DivAssign) b s)))
      × ((a : TokenAndSpan) → NoSlash false (f a))
  NoSlash b (check x r) = NoSlash b r
  NoSlash b (peek p r) = NoSlash b r
  NoSlash b (peek_two p r) = NoSlash b r
  NoSlash b (read s c f) = (e : Answer F C K s) → NoSlash (is_ended s) (f e)
  NoSlash b (hear x c f) = (v : Value F C K x) (s : Span) → NoSlash true (f v s)

  -- What was taken or read last is such that something may end with it. `b` says whether it is, and `o` whether a word
  -- that comes next is a name.
  abbrev Ends : {A : Type 0} → Bool → Bool → Rule Symbol (Answer F C K) Body (Value F C K) A → Type 0
  Ends b o (gives a) = b ≡ true
  Ends b o never = Unit {0}
  Ends b o (take f) = (a : TokenAndSpan) → Ends (may_end o a.token) (names_follow a.token) (f a)
  Ends b o (check x r) = x ≡ true → Ends b o r
  Ends b o (peek p r) = Ends b o r
  Ends b o (peek_two p r) = Ends b o r
  Ends b o (read s c f) = (e : Answer F C K s) (b' o' : Bool) → (is_ended s ≡ true → b' ≡ true) → Ends b' o' (f e)
  Ends b o (hear x c f) = (v : Value F C K x) (s : Span) (o' : Bool) → Ends true o' (f v s)

  no_slash-given : {A B : Type 0} (b : Bool) (o : Option A) (k : A → Rule Symbol (Answer F C K) Body (Value F C K) B)
      → ((x : A) → NoSlash b (k x)) → NoSlash b (given o >>= k)
  no_slash-given b None k f = tt
  no_slash-given b (Some x) k f = f x

  ends-given : {A B : Type 0} (b o : Bool) (v : Option A) (k : A → Rule Symbol (Answer F C K) Body (Value F C K) B)
      → ((x : A) → v ≡ Some x → Ends b o (k x)) → Ends b o (given v >>= k)
  ends-given b o None k f = tt
  ends-given b o (Some x) k f = f x refl

  no_slash : {s : Symbol} {c : Scope} {r : Side F C K s} (p : Production s c r) → is_joining p ≡ false → NoSlash false r
  no_slash regex-slash h = absurd cc
  no_slash p h = search (no_slash-given, off) depth 8

  ends : {s : Symbol} {c : Scope} {r : Side F C K s} (b o : Bool) (p : Production s c r) → is_ended s ≡ true
      → Ends b o r
  ends b o regex-slash i = λ a h u. ends-given _ _ (regex_of u.token u.span) _ (λ e k. regex-ends _ u.token u.span e k)
  ends b o p i = search (
    ends-given,
    this-ends,
    rparen-ends,
    rbracket-ends,
    rbrace-ends,
    backquote-ends,
    target-ends,
    meta-ends,
    await-ends,
    yield-ends,
    async-ends,
    reference-ends,
    binding-ends,
    name-ends,
    dot-names,
    hash-names,
    update-ends,
    lit-ends,
    key_lit-ends,
    regex-ends,
    off,
  ) depth 8

  no-dead : {hook : Hook F C K} {s : Symbol} {r : Side F C K s} {xs ys : List TokenAndSpan} {t : Answer F C K s}
      → Follows hook s r xs ys t → Dead r → ⊥
  no-dead gave k = k
  no-dead (took d) k = k
  no-dead (held h d) k = no-dead d (k h)
  no-dead (calm h d) k = k
  no-dead (calm-two h d) k = k
  no-dead (part e d) k = k
  no-dead (heard h d) k = k

named-too : (o : Bool) (t : Token) → may_end false t ≡ true → may_end o t ≡ true
named-too true (token.Word w) h = refl
named-too false (token.Word w) h = h
named-too o token.RParen h = refl
named-too o token.RBracket h = refl
named-too o token.RBrace h = refl
named-too o token.BackQuote h = refl
named-too o token.PlusPlus h = refl
named-too o token.MinusMinus h = refl
named-too o (token.Str value raw) h = refl
named-too o (token.Num raw) h = refl
named-too o (token.BigInt raw) h = refl
named-too o (token.Regex exp flags) h = refl
named-too o t h = cc

-- a list that goes on after tokens of which the last may end something
past : (b o : Bool) (own ms : List TokenAndSpan) → ends_well own ≡ true → wanted_behind b o (own ++ ms) ≡ true
    → (o' : Bool) × (wanted_behind true o' ms ≡ true)
past b o [] ms e w = absurd cc
past b o (t ∷ []) ms e w =
    let (x, y) = both (not (b && is_found_at t ms)) (wanted_behind (may_end o t.token) (names_follow t.token) ms) w in
    (names_follow t.token, subst (λ v. wanted_behind v (names_follow t.token) ms ≡ true) (named-too o t.token e) y)
past b o (t ∷ u ∷ us) ms e w =
    let (x, y) = both (not (b && is_found_at t (u ∷ us ++ ms)))
    (wanted_behind (may_end o t.token) (names_follow t.token) (u ∷ us ++ ms)) w in
    past (may_end o t.token) (names_follow t.token) (u ∷ us) ms e y

found-slash : (a : TokenAndSpan) (ts : List TokenAndSpan) → is_found_at a ts ≡ true → is_slash a.token ≡ true
found-slash a [] h = absurd cc
found-slash a (b ∷ ts) h = (pair a b h).slash

not-both : (x y : Bool) → not (x && y) ≡ true → x ≡ true → y ≡ false
not-both true true h e = cc
not-both true false h e = refl
not-both false y h e = cc

and-off : (x : Bool) → (x && false) ≡ false
and-off true = refl
and-off false = refl

module _ {F C K : Type 0} (hook : Hook F C K) (closes : EndsBodies hook) where
  own-ends : (b : Body) (c : Scope) (xs : List TokenAndSpan) (v : Value F C K b) (ms : List TokenAndSpan)
      (h : Hears hook b c xs v ms) → ends_well h.own ≡ true
  own-ends b c xs v ms h =
      closed b v h.own (ap (reading_of hook b c.context) (sym (append-nil h.own)) ∙ h.alone [])
    where
      closed : (b : Body) (v : Value F C K b) (own : List TokenAndSpan) → reading_of hook b c.context own ≡ Some (v, [])
          → ends_well own ≡ true
      closed function v own k = closes.fun c.context own v k
      closed class v own k = closes.class c.context own v k
      closed block v own k = closes.block c.context own v k

  later : (s : Symbol) (n : Bool) (f : TokenAndSpan → Side F C K s) (a : TokenAndSpan) → NoSlash n (take f)
      → NoSlash false (f a)
  later s true f a q = q a
  later s false f a q = q.1 a

  apart : (s : Symbol) {ys : List TokenAndSpan} {t : Answer F C K s} (j n b : Bool) (f : TokenAndSpan → Side F C K s)
      (a : TokenAndSpan) (us : List TokenAndSpan) → Follows hook s (f a) us ys t → (n ≡ true → b ≡ true)
      → not (b && is_found_at a us) ≡ true → (j ≡ false → NoSlash n (take f)) → (is_found_at a us && not j) ≡ false
  apart s true n b f a us d k w q = and-off (is_found_at a us)
  apart s false true b f a us d k w q = ap (λ v. v && true) (not-both b (is_found_at a us) w (k refl))
  apart s false false b f a us d k w q = elim (is_found_at a us)
      as (λ v. is_found_at a us ≡ v → (v && true) ≡ false) [
        | true ↦ (λ e.
            let dead : Dead (f a) =
            by-slash (λ t. Dead (f (tk t a.had_line_break a.span))) ((q refl).0 a.had_line_break a.span).0
            ((q refl).0 a.had_line_break a.span).1 a.token (found-slash a us e) in
            absurd (no-dead d dead))
        | false ↦ (λ e. refl)
      ] refl

  -- where operands are wanted in a list, after what asks for it
  pub record Goes (asked : Bool) (ys : List TokenAndSpan) : Type 0 where
    pub behind : Bool
    pub named : Bool
    pub is_behind : asked ≡ true → behind ≡ true
    pub wanted : wanted_behind behind named ys ≡ true

  mutual
    -- where operands are wanted, after whatever token, what is read is joined; and where it ends, they are wanted after
    -- what was read
    pub all-joined : {s : Symbol} {c : Scope} {xs ys : List TokenAndSpan} {t : Answer F C K s} (b o : Bool)
        (d : Reads hook s c xs ys t) → wanted_behind b o xs ≡ true → Joined d × Goes (is_ended s) ys
    all-joined {s = s} b o (by p d) w =
        side-joined (is_joining p) (is_ended s) false b o d (λ h. absurd cc) w (λ h. no_slash p h) (λ h. ends b o p h)

    side-joined : {s : Symbol} {r : Side F C K s} {xs ys : List TokenAndSpan} {t : Answer F C K s}
        (j asked n b o : Bool)
        (d : Follows hook s r xs ys t) → (n ≡ true → b ≡ true) → wanted_behind b o xs ≡ true
        → (j ≡ false → NoSlash n r) → (asked ≡ true → Ends b o r) → JoinedSide j d × Goes asked ys
    side-joined {ys = ys} j asked n b o gave k w q e = (tt, record { behind = b; named = o; is_behind = e; wanted = w })
    side-joined {s = s} j asked n b o (took {f = f} {a = a} {xs = us} d) k w q e =
        let (x, y) = both (not (b && is_found_at a us))
        (wanted_behind (may_end o a.token) (names_follow a.token) us) w in
        let (i, z) = side-joined j asked false (may_end o a.token) (names_follow a.token) d (λ h. absurd cc) y
        (λ h. later s n f a (q h)) (λ i. e i a) in
        ((apart s j n b f a us d k x q, i), z)
    side-joined j asked n b o (held h d) k w q e = side-joined j asked n b o d k w q (λ i. e i h)
    side-joined j asked n b o (calm h d) k w q e = side-joined j asked n b o d k w q e
    side-joined j asked n b o (calm-two h d) k w q e = side-joined j asked n b o d k w q e
    side-joined j asked n b o (part {s' = s'} {e = x} l d) k w q e =
        let (i, g) = all-joined b o l w in
        let (i', z) = side-joined j asked (is_ended s') g.behind g.named d g.is_behind g.wanted (λ h. q h x)
        (λ i. e i x g.behind g.named g.is_behind) in
        ((i, i'), z)
    side-joined {xs = xs} j asked n b o (heard {b = x} {c = c} {v = v} {ms = ms} h d) k w q e =
        let (o', y) = past b o h.own ms (own-ends x c xs v ms h) (subst (λ l. wanted_behind b o l ≡ true) h.list w) in
        side-joined j asked true true o' d (λ h. h) y (λ i. q i v _) (λ i. e i v _ o')

-- the law of such lists
pub replay-wanted : {F C K : Type 0} {fun_at : F → Span} {class_at : C → Span} {block_at : K → Span} (hook : Hook F C K)
    → LawfulHook fun_at class_at block_at hook → ReplayHook hook → (s : Symbol) → ReplayWanted hook s
replay-wanted hook laws replays s closes c xs t d o w =
    replay hook laws replays s c xs t d o (all-joined hook closes false false d w).0
