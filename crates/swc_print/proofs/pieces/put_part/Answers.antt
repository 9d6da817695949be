use Rattle.swc_print.proofs.Added.{piece_more}
use Rattle.swc_print.proofs.pieces.put_part.Goals as goal

pub returns : goal.returns
returns c = piece_more c.args.pieces.now.waiting.items c.push.new.self.items c.args.part c.in_ok-push.ensures.items
