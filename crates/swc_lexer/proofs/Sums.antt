-- Reading all tokens of a text.
use Rattle.std.proofs.Common.{◌≡◌, ℕ, ◌<◌, ◌≤◌, List, [], ◌∷◌, ◌++◌, length, Option, Some, None, refl, sym, ap, ◌∙◌, append_assoc, append-nil, arith, subst, Bool}
use Rattle.std.specs.Prelude.{IfSome, Result, Ok, Err, IfOk, All}
use Rattle.std.specs.Iterator.{Count, IsFinite, MakesProgress, at_most, size}
use Rattle.swc_input.specs.{declared.token.TokenAndSpan.TokenAndSpan, Source.Source}
use Rattle.swc_lexer.specs.{declared.input.SourceText.Ghosts, declared.input.TextInput.TextInput, declared.reader.End.End, Covers.Covers, declared.place.Kind.Kind, declared.stack.Start.Start, Coming.from_next, Coming.from_end}
use Rattle.swc_lexer.specs.Inputs.{bytes_of, reading, left, held_list, Hands, handed}
use Rattle.swc_lexer.proofs.Covers.{covers_of}
use Rattle.swc_lexer.specs.Readings.{Reading, Gives, gave, stopped, bound, begin, first, tokens_from, tokens_of}
use Rattle.swc_lexer.specs.Reads.{Answers, Reads, IsClean, read, refused, out_of_memory}
use Rattle.std.specs.{declared.alloc.Global.Global, declared.vec.Vec.Vec}
use Rattle.swc_context.specs.declared.error.Error.{Error}

-- one more token was read
pub sum_more : (e : End) (bs : List ℕ) (r t : Reading) (o : Option TokenAndSpan) (x : TokenAndSpan)
    (ts ns all : List TokenAndSpan) →
    ts ++ tokens_from e bs r ≡ all → Gives e bs r o t → o ≡ Some x → ns ≡ ts ++ x ∷ [] → ns ++ tokens_from e bs t ≡ all
sum_more e bs r t None x ts ns all so_far g is added = cc
sum_more e bs r t (Some y) x ts ns all so_far (gave n l) is added =
    let same : y ≡ x = cc in
    let one : tokens_from e bs r ≡ y ∷ tokens_from e bs t = from_next e bs r t y n l in
    ap (λ z. z ++ tokens_from e bs t) added ∙ append_assoc ts (x ∷ []) (tokens_from e bs t) ∙ ap
    (λ z. ts ++ z ∷ tokens_from e bs t) (sym same)
    ∙ ap (λ l. ts ++ l) (sym one) ∙ so_far

-- a token that was read is among them
pub sum_at : (e : End) (bs : List ℕ) (r t : Reading) (o : Option TokenAndSpan) (x : TokenAndSpan)
    (ts all : List TokenAndSpan) →
    ts ++ tokens_from e bs r ≡ all → Gives e bs r o t → o ≡ Some x → all ≡ ts ++ x ∷ tokens_from e bs t
sum_at e bs r t None x ts all so_far g is = cc
sum_at e bs r t (Some y) x ts all so_far (gave n l) is =
    let same : y ≡ x = cc in
    let one : tokens_from e bs r ≡ y ∷ tokens_from e bs t = from_next e bs r t y n l in
    sym so_far ∙ ap (λ l. ts ++ l) one ∙ ap (λ z. ts ++ z ∷ tokens_from e bs t) same

-- all were read
pub sum_end : (e : End) (bs : List ℕ) (r t : Reading) (o : Option TokenAndSpan) (ts all : List TokenAndSpan) →
    ts ++ tokens_from e bs r ≡ all → Gives e bs r o t → o ≡ None → ts ≡ all
sum_end e bs r t (Some y) ts all so_far g is = cc
sum_end e bs r t None ts all so_far (stopped n over) is =
    sym (append-nil ts) ∙ ap (λ l. ts ++ l) (sym (from_end e bs r n)) ∙ so_far

pub lower : (e : End) (bs : List ℕ) (r t : Reading) (o : Option TokenAndSpan) (x : TokenAndSpan) → Gives e bs r o t
    → o ≡ Some x → bound bs t < bound bs r
lower e bs r t None x g is = cc
lower e bs r t (Some y) x (gave n l) is = l

-- so many tokens were read, and these are to come
pub record ReadTo (e : End) (bs : List ℕ) (all ts : List TokenAndSpan) (at : ℕ) (r : Reading) : Type 0 where
  pub within : at ≤ length bs
  pub sum : ts ++ tokens_from e bs r ≡ all

pub ReadTo_begin : (e : End) (bs : List ℕ) (all ts : List TokenAndSpan) (at : ℕ) (r : Reading) → at ≤ length bs
    → ts ≡ [] → tokens_from e bs r ≡ all →
    ReadTo e bs all ts at r
ReadTo_begin e bs all ts at r within none is = record {
  within = within;
  sum =
      ap (λ l. l ++ tokens_from e bs r) none ∙ is;
}

pub ReadTo_more : (e : End) (bs : List ℕ) (all ts ns : List TokenAndSpan) (at next : ℕ) (r t : Reading)
    (o : Option TokenAndSpan) (x : TokenAndSpan) →
    ReadTo e bs all ts at r → Gives e bs r o t → next ≤ length bs → o ≡ Some x → ns ≡ ts ++ x ∷ []
    → ReadTo e bs all ns next t
ReadTo_more e bs all ts ns at next r t o x i g within is added =
    record { within = within; sum = sum_more e bs r t o x ts ns all i.sum g is added }

pub ReadTo_over : (e : End) (bs : List ℕ) (all ts : List TokenAndSpan) (at : ℕ) (r t : Reading)
    (o : Option TokenAndSpan) → ReadTo e bs all ts at r →
    Gives e bs r o t → o ≡ None → ts ≡ all
ReadTo_over e bs all ts at r t o i g is = sum_end e bs r t o ts all i.sum g is

-- an iterator went on
pub progress : {S : Type 0} (can : S → Type 0) (count : S → Count) (s t : S) (o : Option TokenAndSpan) (m n : ℕ)
    → count s ≡ at_most m → count t ≡ at_most n →
    can t → IfSome o (λ x. n < m) → MakesProgress can count s o t
progress can count s t None m n a b c h = record { on = λ f. tt; keeps = tt; rests = λ f. subst IsFinite (sym b) tt }
progress can count s t (Some x) m n a b c h =
    let p : size (count s) ≡ m = ap size a in
    let q : size (count t) ≡ n = ap size b in
    record { on = λ f. (c, subst IsFinite (sym b) tt, omega (arith, p, q, h)); keeps = c; rests = λ f. tt }

pub none_of : {A : Type 0} (o : Option A) → ((x : A) → o ≡ Some x → ⊥) → o ≡ None
none_of None h = refl
none_of (Some x) h = absurd (h x refl)

pub read_answers : (e : End) (b bs : List ℕ) (s : Start) (k : Kind) (r : Reading)
    (a : Result (Vec TokenAndSpan Global) Error) → b ≡ bs → r ≡ first b 0 s k →
    Reads a (tokens_from e bs r) → Answers a (tokens_of e 0 s k bs)
read_answers e b bs s k r a is begins reads =
    let f : r ≡ first bs 0 s k = begins ∙ ap (λ z. first z 0 s k) is in
    read (subst (λ z. Reads a (tokens_from e bs z)) f reads)

pub refused_answers : (all : List TokenAndSpan) (e : Error) → e ≡ out_of_memory → Answers (Err e) all
refused_answers all e is = subst (λ z. Answers (Err z) all) (sym is) refused

pub read_covers : (e : End) (bs : List ℕ) (s : Start) (k : Kind) (v : Vec TokenAndSpan Global)
    → v.items ≡ tokens_of e 0 s k bs → All IsClean v.items →
    Covers e bs (begin bs 0) v.items
read_covers e bs s k v is clean = subst (λ l. Covers e bs (begin bs 0) l) (sym is)
    (covers_of e bs 0 s k (subst (λ l. All IsClean l) is clean))

-- such an answer covers the text
pub answer_covers : (e : End) (b bs : List ℕ) (s : Start) (k : Kind) (r : Reading)
    (a : Result (Vec TokenAndSpan Global) Error) → b ≡ bs → r ≡ first b 0 s k →
    Reads a (tokens_from e bs r) → IfOk a (λ v. Covers e bs (begin bs 0) v.items)
answer_covers e b bs s k r (Err x) is begins reads = tt
answer_covers e b bs s k r (Ok v) is begins reads =
    let f : r ≡ first bs 0 s k = begins ∙ ap (λ z. first z 0 s k) is in
    read_covers e bs s k v (reads.0 ∙ ap (λ z. tokens_from e bs z) f) reads.1

-- a token that was handed out leaves less
pub hands_lower : {T : Type 0} {g : Ghosts T} (s t : TextInput T g) (e : End) (b : List ℕ) (d : Reading) (l : Bool) (n : Source)
    (x z : TokenAndSpan) (o r : Option TokenAndSpan) →
    b ≡ bytes_of s → Gives e b (reading s) o d → o ≡ Some x → reading t ≡ d → bytes_of t ≡ bytes_of s
    → Hands l n z r t →
    IfSome r (λ y. left t < left s)
hands_lower s t e b d l n x z o None is g some goes same hands = tt
hands_lower s t e b d l n x z o (Some y) is g some goes same (handed ok held legacy notes) =
    let less = lower e b (reading s) d o x g some in
    let before = ap (λ k. bound k (reading s)) is in
    let after = ap (λ k. bound k d) is in
    let now = ap (λ k. bound k (reading t)) same ∙ ap (bound (bytes_of s)) goes in
    let none = ap (λ k. length (held_list k)) held in
    omega (arith, less, before, after, now, none)
