use Rattle.std.proofs.Common.{true}
use Rattle.swc_steps.proofs.Naming.{name_read, name_unread}
use Rattle.swc_steps.proofs.Steps as s
use Rattle.swc_primary.proofs.object.unfit_prop.Goals as goal

pub returns-in-Ok : goal.returns-in-Ok
returns-in-Ok g c = record {
  refuses = s.refuses_later
      (name_read {sure = true} g.met.I.Tokens.laws c.in-Ok.ensures.names).on.leads c.unfit_behind.ensures.refuses;
}

pub returns : goal.returns
returns g c = record { refuses = (name_unread {sure = true} g.met.I.Tokens.laws c.in-Err.ensures.names).refuses }
