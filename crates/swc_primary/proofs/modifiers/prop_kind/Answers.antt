use Rattle.std.proofs.Common.{sym, ◌∙◌}
use Rattle.swc_primary.proofs.PropKinds as kind
use Rattle.swc_primary.proofs.modifiers.prop_kind.Goals as goal

pub returns-then-not-is_word : goal.returns-then-not-is_word
returns-then-not-is_word g c = record {
  tells = kind.tells_sign g.met.I.Tokens.laws _ c.sign_kind.result c.sign_kind.ensures
      (sym c.is_word.ensures.value ∙ c.if-not-is_word.true);
}

pub returns : goal.returns
returns g c = record {
  tells = kind.tells_by_word g.I.Tokens.model c.args.input.now c.kind_behind.new.input c.modifier_here-modifier.result
      c.kind_behind.result c.kind_behind.ensures.tells c.modifier_here-modifier.ensures
      (sym c.is_word.ensures.value ∙ c.if-not-is_word.false);
}
