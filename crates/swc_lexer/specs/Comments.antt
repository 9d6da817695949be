-- The comments of a text (ECMA-262, 12.4 and 12.5).
use Rattle.std.specs.Prelude.{◌≡◌, ◌≤◌, ℕ, zero, suc, ◌+◌, ◌&&◌, if◌then◌else◌, nat_lt, nat_le, List, [], ◌∷◌, ◌++◌, length, drop, slice_range}
use Rattle.swc_input.specs.declared.token.TokenAndSpan.{TokenAndSpan}
use Rattle.swc_lexer.specs.{declared.comments.Comment.Comment, declared.comments.CommentKind.CommentKind}
use Rattle.swc_lexer.specs.declared.comments.CommentKind.TheVariants.{Line, Block, Hashbang}
use Rattle.swc_lexical.specs.Blanks.{blank_len, comment_len, hashbang_len}
use Rattle.swc_lexical.specs.Runs.{is_at}

abbrev pub comment : CommentKind → ℕ → ℕ → Comment
comment k lo hi = record { kind = k; span = record { lo = record { 0 = lo }; hi = record { 0 = hi } } }

-- of the comment that begins with these bytes
abbrev pub kind_of : List ℕ → CommentKind
kind_of bs = if is_at bs 1 42 then Block else Line

-- the comment that is here, at this place of a text
abbrev pub comment_here : ℕ → List ℕ → List Comment
comment_here at bs = if nat_lt 0 (comment_len bs) then comment (kind_of bs) at (at + comment_len bs) ∷ [] else []

-- the comments of a blank, and of those after it; none where there is no blank
abbrev pub and_more : ℕ → List Comment → (ℕ → List Comment) → List Comment
and_more zero cs f = []
and_more (suc n) cs f = cs ++ f n

-- The comments among the blanks that are here, at this place of a text, where k bytes are left of the blank before.
unfoldable pub comments_from : ℕ → ℕ → List ℕ → List Comment
comments_from at k [] = []
comments_from at (suc k) (b ∷ bs) = comments_from (at + 1) k bs
comments_from at zero (b ∷ bs) = and_more (blank_len (b ∷ bs)) (comment_here at (b ∷ bs))
    (λ n. comments_from (at + 1) n bs)

-- the comments among the blanks with which the text between two places begins
abbrev pub comments_between : List ℕ → ℕ → ℕ → List Comment
comments_between bs lo hi = if nat_le lo hi && nat_le hi (length bs) then comments_from lo 0
    (slice_range bs lo hi) else []

-- the comments before the tokens, and after the last
abbrev pub comments_among : List ℕ → ℕ → List TokenAndSpan → List Comment
comments_among bs at [] = comments_between bs at (length bs)
comments_among bs at (t ∷ ts) = comments_between bs at t.span.lo.0 ++ comments_among bs t.span.hi.0 ts

-- `#!` and its line, at the beginning of a text
abbrev pub hashbang : List ℕ → List Comment
hashbang bs = if nat_lt 0 (hashbang_len bs) then comment Hashbang 0 (hashbang_len bs) ∷ [] else []

-- the comments of a text that has these tokens
abbrev pub comments_of : List ℕ → List TokenAndSpan → List Comment
comments_of bs ts = hashbang bs ++ comments_among bs (hashbang_len bs) ts

-- the place is between two blanks, and the comments before it are these
pub record ReadsTo (bs : List ℕ) (lo at : ℕ) (cs before : List Comment) : Type 0 where
  pub within : at ≤ length bs
  pub sum : cs ++ comments_from (lo + at) 0 (drop at bs) ≡ before ++ comments_from lo 0 bs

-- the comments before so many tokens are these, and the text was read up to the place
pub record GoesTo (bs : List ℕ) (ts : List TokenAndSpan) (begin i at : ℕ) (cs before : List Comment) : Type 0 where
  pub sum : cs ++ comments_among bs at (drop i ts) ≡ before ++ comments_among bs begin ts
