-- The private names that the classes around declare, class by class, the innermost first (ECMA-262, 15.7.1).
use Rattle.std.specs.Prelude.{◌≡◌, ℕ, Bool, true, false, not, ◌&&◌, List, if◌then◌else◌, is_some, Option, None, Some}
use Rattle.swc_context.specs.declared.span.Span.{Span}
use Rattle.program_scopes.specs.declared.private.Form.{Form}
use Rattle.program_scopes.specs.declared.private.Form.TheVariants.{Getter, Setter, Other}
use Rattle.program_scopes.specs.declared.private.Declaration.{Declaration}
use Rattle.program_scopes.specs.declared.private.PrivateNames.{PrivateNames}
use Rattle.program_scopes.specs.Layers.{topmost, put, AreLayers}

-- these names are declared, of each class
abbrev pub AreAround : PrivateNames → List (List (List ℕ × Declaration)) → Type 0
AreAround names ls = AreLayers names.names ls

-- they change so
abbrev pub Changes : PrivateNames → PrivateNames → (List (List (List ℕ × Declaration)) → List (List (List ℕ × Declaration))) → Type 0
Changes old new f = (ls : List (List (List ℕ × Declaration))) → AreAround old ls → AreAround new (f ls)

-- this is so of them
abbrev pub Tells : {A : Type 0} → PrivateNames → (List (List (List ℕ × Declaration)) → A) → A → Type 0
Tells all f x = (ls : List (List (List ℕ × Declaration))) → AreAround all ls → x ≡ f ls

abbrev pub same : Bool → Bool → Bool
same true b = b
same false b = not b

abbrev pub are_two : Form → Form → Bool
are_two Getter Setter = true
are_two Setter Getter = true
are_two Getter Getter = false
are_two Getter Other = false
are_two Setter Setter = false
are_two Setter Other = false
are_two Other f = false

-- one is a getter and the other a setter, both static or neither, and there is no third
abbrev pub makes_pair : Form → Bool → Declaration → Bool
makes_pair form is_static d = d.is_first && same d.is_static is_static && are_two d.form form

abbrev pub against_last : Form → Bool → Option Declaration → Option Span
against_last form is_static None = None
against_last form is_static (Some d) = if makes_pair form is_static d then None else Some d.place

-- the declaration of the innermost class that one of the name must not be beside
abbrev pub against : Form → Bool → List ℕ → List (List (List ℕ × Declaration)) → Option Span
against form is_static q ls = against_last form is_static (topmost q ls)

abbrev pub declared : List ℕ → Form → Bool → Span → List (List (List ℕ × Declaration)) → List (List (List ℕ × Declaration))
declared q form is_static place ls =
    put q (record { form = form; is_static = is_static; place = place; is_first = not (is_some (topmost q ls)) }) ls
