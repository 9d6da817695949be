-- Names that patterns bind, as the laws between patterns and expressions have them.
use Rattle.std.specs.Prelude.{◌≡◌, ℕ, Bool, true, false, not, ◌&&◌, List, [], ◌∷◌, codes}
use Rattle.swc_context.specs.{Reserved.strict_binding_words, Reserved.strict_names, Texts.is_text, Texts.is_one_of, Words.word_of, declared.context.Context.Context, declared.word.Word.Word, declared.word.Word.Word as word}
use Rattle.swc_input.specs.{declared.token.Token.Token, declared.token.Token.Token as token, declared.token.TokenAndSpan.TokenAndSpan}

-- What a reference spells is bound too, but for `await` in a static block, and `eval` and `arguments` in a module.
abbrev pub is_kept_name : Context → List ℕ → Bool
is_kept_name c name = not (c.in_static_block && is_text name (codes "await"))

abbrev pub may_be_bound : Context → List ℕ → Bool
may_be_bound c name = not (c.module && is_one_of name strict_binding_words) && is_kept_name c name

-- Tokens as a reader spells them: a name is no keyword, `null`, `true` or `false`.
abbrev pub is_name : Word → Bool
is_name (word.Ident name) = true
is_name w = false

abbrev pub is_spelled : Token → Bool
is_spelled (token.Word (word.Ident name)) = is_name (word_of name)
is_spelled t = true

abbrev pub Spelled : List TokenAndSpan → Type 0
Spelled [] = Unit {0}
Spelled (t ∷ ts) = (is_spelled t.token ≡ true) × Spelled ts

-- A name that is a reference wherever it may be bound, and a valid simple target: no word that some mode reserves, no
-- `await`, `yield`, `eval` or `arguments`.
abbrev pub is_free_word : Word → Bool
is_free_word (word.Ident name) = not (is_text name (codes "enum")) && not (is_one_of name strict_names)
is_free_word w = false

abbrev pub is_free_name : List ℕ → Bool
is_free_name name = is_free_word (word_of name) && not (is_one_of name strict_binding_words)
