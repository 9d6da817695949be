use Rattle.swc_laws.proofs.CoverLaw.{covering}
use Rattle.swc_laws.proofs.laws.cover.Goals as goal

pub returns : goal.returns
returns g c = covering g.B.BodyForms.forms
