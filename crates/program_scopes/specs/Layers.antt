-- Things that have names, in layers, the topmost first.
use Rattle.std.specs.Prelude.{◌≡◌, ℕ, Bool, List, [], ◌∷◌, ◌++◌, length, reverse, if◌then◌else◌, Option, None, Some}
use Rattle.std.specs.List.{list_any}
use Rattle.std.specs.Str.{bytes_eq}
use Rattle.program_scopes.specs.declared.layers.Layers.{Layers}

module _ {T : Type 0} where
  -- the last of these that has the name
  unfoldable pub last : List ℕ → List (List ℕ × T) → Option T
  last q [] = None
  last q (x ∷ xs) = if bytes_eq q x.0 then Some x.1 else last q xs

  -- the last of the topmost layer that has the name
  abbrev pub topmost : List ℕ → List (List (List ℕ × T)) → Option T
  topmost q [] = None
  topmost q (l ∷ ls) = last q l

  abbrev pub is_in_any : List ℕ → List (List (List ℕ × T)) → Bool
  is_in_any q ls = list_any (λ l. list_any (λ x. bytes_eq q x.0) l) ls

  abbrev pub begun : List (List (List ℕ × T)) → List (List (List ℕ × T))
  begun ls = [] ∷ ls

  abbrev pub put : List ℕ → T → List (List (List ℕ × T)) → List (List (List ℕ × T))
  put q x [] = []
  put q x (l ∷ ls) = ((q, x) ∷ l) ∷ ls

  abbrev pub taken : List (List (List ℕ × T)) → List (List (List ℕ × T))
  taken [] = []
  taken ([] ∷ ls) = [] ∷ ls
  taken ((x ∷ l) ∷ ls) = l ∷ ls

  -- a layer ends that is not the last
  abbrev pub ended : List (List (List ℕ × T)) → List (List (List ℕ × T))
  ended [] = []
  ended (l ∷ []) = l ∷ []
  ended (l ∷ m ∷ ls) = m ∷ ls

  -- how `Layers` holds them
  unfoldable pub all_of : List (List (List ℕ × T)) → List (List ℕ × T)
  all_of [] = []
  all_of (l ∷ ls) = l ++ all_of ls

  unfoldable pub marks_of : List (List (List ℕ × T)) → List ℕ
  marks_of [] = []
  marks_of (l ∷ ls) = length (all_of ls) ∷ marks_of ls

  pub record AreLayers (layers : Layers T) (ls : List (List (List ℕ × T))) : Type 0 where
    pub things : layers.things ≡ all_of ls
    pub marks : layers.under ∷ reverse layers.lower.items ≡ marks_of ls

  -- the layers change so
  abbrev pub Changes : Layers T → Layers T → (List (List (List ℕ × T)) → List (List (List ℕ × T))) → Type 0
  Changes old new f = (ls : List (List (List ℕ × T))) → AreLayers old ls → AreLayers new (f ls)

  -- this is so of the layers
  abbrev pub Tells : {A : Type 0} → Layers T → (List (List (List ℕ × T)) → A) → A → Type 0
  Tells layers f x = (ls : List (List (List ℕ × T))) → AreLayers layers ls → x ≡ f ls
