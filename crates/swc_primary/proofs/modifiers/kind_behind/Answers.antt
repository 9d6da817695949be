use Rattle.std.proofs.Common.{sym, ◌∙◌}
use Rattle.swc_primary.proofs.PropKinds as kind
use Rattle.swc_primary.proofs.modifiers.kind_behind.Goals as goal

pub returns-in-Some : goal.returns-in-Some
returns-in-Some g c = record {
  tells = kind.tells_some g.met.I.Tokens.laws c.args.modifier c.in-Some.kind c.in-Some.is
      c.peek_kind.ensures.peeked c.requires c.peek_kind.ensures.value;
}

pub returns-else-failed : goal.returns-else-failed
returns-else-failed g c = record {
  tells = kind.tells_none g.met.I.Tokens.laws c.args.modifier c.by_modifier.result c.in-None.is
      c.peek_kind.ensures.peeked c.requires c.peek_kind.ensures.value (sym c.failed.ensures ∙ c.if-failed.false)
      c.by_modifier.ensures;
}
