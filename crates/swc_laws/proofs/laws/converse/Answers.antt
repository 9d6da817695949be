use Rattle.swc_laws.proofs.ConverseLaw.{converse-params}
use Rattle.swc_laws.proofs.laws.converse.Goals as goal

pub returns : goal.returns
returns g c = converse-params g.B.BodyForms.forms
