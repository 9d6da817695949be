use Rattle.swc_tokens.proofs.Spelling.{Spells_lone}
use Rattle.swc_tokens.proofs.reader.Reader.lone_sign_here.Goals as goal

pub returns-clause-spells : goal.returns-clause-spells
returns-clause-spells c =
    Spells_lone c.args.self.now.text.now c.args.self.now.at c.lone_sign.result c.requires c.lone_sign.ensures.no_text
    c.lone_sign.ensures.spells
