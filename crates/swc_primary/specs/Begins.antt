-- What a property begins with, and what is left of it, by the clean parser.
use Rattle.std.specs.Prelude.{Bool, List, Some}
use Rattle.swc_input.specs.{declared.buffer.Buffer.Buffer, declared.token.TokenAndSpan.TokenAndSpan, Source.Model}
use Rattle.swc_ast.specs.{Tree.Tree, Trees.short_e}
use Rattle.swc_bodies.specs.Readings.{Hook}
use Rattle.swc_grammar.specs.Clean.{Out, sym, run}
use Rattle.swc_grammar.specs.{Scope.Scope, Symbols.Prop, Grammar.prop-key}
use Rattle.swc_primary.specs.{declared.object.PropHead.PropHead, declared.object.PropHead.PropHead as head, Properties.spread_prop_tail, Properties.cover_tail, Methods.method_tail}
use Rattle.swc_steps.specs.Readers.{by_production}
use Rattle.swc_steps.specs.Parsing.{ident_spelling, On, Heard}

-- what is left of a property after what it begins with; after a name alone nothing
abbrev pub prop_left : {F C K : Type 0} → Hook F C K → PropHead → Scope → List TokenAndSpan → Out (Tree F C K)
prop_left hook (head.Shorthand n) = λ c ts. Some (short_e (ident_spelling n).at (ident_spelling n).text, ts)
prop_left hook (head.Spread s) = spread_prop_tail hook s
prop_left hook (head.Cover n) = cover_tail hook (ident_spelling n)
prop_left hook head.Key = by_production hook (λ c. prop-key)
prop_left hook (head.Method m s) = method_tail hook m s

-- From b to c what a property begins with was read, and then reading the property is reading what is left of it. A name
-- alone is the whole, and has a token.
module _ {S F C K : Type 0} (model : Model S) (sure : Bool) (hook : Hook F C K) where
  abbrev pub Begins : PropHead → Buffer S → Buffer S → Type 0
  Begins (head.Shorthand n) b c =
      Heard model sure (run hook (sym Prop)) (short_e (ident_spelling n).at (ident_spelling n).text) b c
  Begins h b c = On model sure (run hook (sym Prop)) (prop_left hook h) b c
