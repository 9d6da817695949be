use Rattle.std.proofs.Common.{refl}
use Rattle.swc_print.proofs.Added.{text_more}
use Rattle.swc_print.proofs.pieces.put_property.Goals as goal

pub returns : goal.returns
returns c = text_more c.args.pieces.now.waiting.items c.push.new.self.items _ refl c.in_ok-push.ensures.items
