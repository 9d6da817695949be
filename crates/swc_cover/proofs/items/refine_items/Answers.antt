use Rattle.swc_cover.proofs.Listed.{roots-apart, roots-suit, roots-kept, roots-bound, items-made, held-item, rest-made}
use Rattle.swc_cover.proofs.Kept.{parts-kept, kept-more}
use Rattle.swc_nodes.proofs.Held.{apart-from}
use Rattle.swc_nodes.specs.NodeParts.{pat}
use Rattle.swc_cover.proofs.items.refine_items.Goals as goal

pub turn-requires-clause-apart : goal.turn-requires-clause-apart
turn-requires-clause-apart g c = roots-apart c.args.items.now.items _ c.in_ok-roots.ensures c.requires

pub turn-requires-clause-suit : goal.turn-requires-clause-suit
turn-requires-clause-suit g c = roots-suit c.args.items.now.items _ c.in_ok-roots.ensures

pub returns-in_err-roots-clause-kept : goal.returns-in_err-roots-clause-kept
returns-in_err-roots-clause-kept g c = parts-kept _ c.requires

pub returns-in_err-turn-clause-kept : goal.returns-in_err-turn-clause-kept
returns-in_err-turn-clause-kept g c =
    roots-kept c.args.items.now.items _ c.in_ok-roots.ensures c.requires c.turn.ensures.kept

pub returns-in_err-pats-clause-kept : goal.returns-in_err-pats-clause-kept
returns-in_err-pats-clause-kept g c =
    roots-kept c.args.items.now.items _ c.in_ok-roots.ensures c.requires c.turn.ensures.kept

pub returns-in-None-clause-kept : goal.returns-in-None-clause-kept
returns-in-None-clause-kept g c =
    roots-kept c.args.items.now.items _ c.in_ok-roots.ensures c.requires c.turn.ensures.kept

pub returns-in-None-clause-made : goal.returns-in-None-clause-made
returns-in-None-clause-made g c =
    items-made c.args.items.now.items
    (roots-bound c.args.items.now.items _ c.in_ok-roots.ensures c.requires c.in_ok-turn.ensures.turned)
    c.in_ok-pats.ensures c.in-None.ensures

pub pat_extent-requires : goal.pat_extent-requires
pat_extent-requires g c =
    held-item c.args.items.now.items c.in-Some.last
    (roots-bound c.args.items.now.items _ c.in_ok-roots.ensures c.requires c.in_ok-turn.ensures.turned)
    c.in-Some.ensures

pub push-requires : goal.push-requires
push-requires g c =
    apart-from (record { at = c.in-Some.last.held.0; view = pat })
    (held-item c.args.items.now.items c.in-Some.last
    (roots-bound c.args.items.now.items _ c.in_ok-roots.ensures c.requires c.in_ok-turn.ensures.turned)
    c.in-Some.ensures)

pub returns-in_err-id-in-Some-clause-kept : goal.returns-in_err-id-in-Some-clause-kept
returns-in_err-id-in-Some-clause-kept g c =
    kept-more (roots-kept c.args.items.now.items _ c.in_ok-roots.ensures c.requires c.turn.ensures.kept)
    c.push.ensures.grows

pub returns-in_err-push-in-Some-clause-kept : goal.returns-in_err-push-in-Some-clause-kept
returns-in_err-push-in-Some-clause-kept g c =
    kept-more (roots-kept c.args.items.now.items _ c.in_ok-roots.ensures c.requires c.turn.ensures.kept)
    c.push.ensures.grows

pub returns-in_ok-push-in-Some-clause-kept : goal.returns-in_ok-push-in-Some-clause-kept
returns-in_ok-push-in-Some-clause-kept g c =
    kept-more (roots-kept c.args.items.now.items _ c.in_ok-roots.ensures c.requires c.turn.ensures.kept)
    c.push.ensures.grows

pub returns-in_ok-push-in-Some-clause-made : goal.returns-in_ok-push-in-Some-clause-made
returns-in_ok-push-in-Some-clause-made g c =
    rest-made c.args.items.now.items c.in-Some.last c.pat_extent.result
    (roots-bound c.args.items.now.items _ c.in_ok-roots.ensures c.requires c.in_ok-turn.ensures.turned)
    c.in_ok-pats.ensures c.in-Some.ensures c.pat_extent.ensures
    c.push.ensures.grows c.in_ok-id-in-Some.ensures.added c.in_ok-push-in-Some.ensures.items
