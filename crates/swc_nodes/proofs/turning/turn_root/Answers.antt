use Rattle.std.proofs.Common.{rules, ◌+◌, [], ◌∷◌, ◌++◌, map, sym, ap, ◌∙◌, arith}
use Rattle.swc_nodes.specs.Roles.{due}
use Rattle.swc_nodes.proofs.Turns.{ended, one-below, one-cut, one-done, one-long, one-order, one-parts, one-ready, one-within, started, unheld}
use Rattle.swc_nodes.proofs.turning.turn_root.Goals as goal

pub returns-in-Err : goal.returns-in-Err
returns-in-Err g c =
    unheld g.F.Spanned.place g.C.Spanned.place g.K.Spanned.place c.args.nodes.now.items (due c.args.root)
    c.number.result c.args.settled.now.items c.let_go.new.settled.items c.let_go.new.nodes.items c.number.ensures
    c.requires c.let_go.ensures.nodes c.let_go.ensures.settled

pub loop-duty-init : goal.loop-duty-init
loop-duty-init g c =
    let l = c.number-first.ensures in
    started g.F.Spanned.place g.C.Spanned.place g.K.Spanned.place c.args.nodes.now.items (due c.args.root)
    (c.number-first.result + 1) (map due c.push.new.self.items) c.args.settled.now.items (omega (arith, l))
    (ap (map due) (c.in_default.ensures.items ∙ ap (λ v. v ++ c.args.root ∷ []) c.new-due.ensures.items)) c.requires

pub overflow_add-number : goal.overflow_add-number
overflow_add-number g c =
    let l = one-below g.F.Spanned.place g.C.Spanned.place g.K.Spanned.place c.args.nodes.now.items (due c.args.root)
    c.loop-duty.first c.loop-duty.nodes.items c.loop-duty.due.items c.pop.new.self.items c.in-Some.duty
    c.loop-duty.settled.items c.number-number.result c.loop-duty.invariant c.in-Some.ensures.items
    c.number-number.ensures in
    let ok = c.loop-duty.nodes.ok in
    let small = c.loop-duty.nodes.small in
    search rules

pub clear-requires-clause-order : goal.clear-requires-clause-order
clear-requires-clause-order g c =
    one-order g.F.Spanned.place g.C.Spanned.place g.K.Spanned.place c.args.nodes.now.items (due c.args.root)
    c.loop-duty.first c.loop-duty.nodes.items c.loop-duty.due.items c.pop.new.self.items c.in-Some.duty
    c.loop-duty.settled.items c.number-number.result c.loop-duty.invariant c.in-Some.ensures.items
    c.number-number.ensures

pub clear-requires-clause-within : goal.clear-requires-clause-within
clear-requires-clause-within g c =
    one-long g.F.Spanned.place g.C.Spanned.place g.K.Spanned.place c.args.nodes.now.items (due c.args.root)
    c.loop-duty.first c.loop-duty.nodes.items c.loop-duty.due.items c.pop.new.self.items c.in-Some.duty
    c.loop-duty.settled.items c.number-number.result c.loop-duty.invariant c.in-Some.ensures.items
    c.number-number.ensures

pub turn_one-requires-clause-within : goal.turn_one-requires-clause-within
turn_one-requires-clause-within g c =
    one-within g.F.Spanned.place g.C.Spanned.place g.K.Spanned.place c.args.nodes.now.items (due c.args.root)
    c.loop-duty.first c.loop-duty.nodes.items c.loop-duty.due.items c.pop.new.self.items c.in-Some.duty
    c.loop-duty.settled.items c.number-number.result c.loop-duty.invariant c.in-Some.ensures.items
    c.number-number.ensures c.clear.new.nodes.items c.clear.ensures

pub turn_one-requires-clause-ready : goal.turn_one-requires-clause-ready
turn_one-requires-clause-ready g c =
    one-ready g.F.Spanned.place g.C.Spanned.place g.K.Spanned.place c.args.nodes.now.items (due c.args.root)
    c.loop-duty.first c.loop-duty.nodes.items c.loop-duty.due.items c.pop.new.self.items c.in-Some.duty
    c.loop-duty.settled.items c.number-number.result c.loop-duty.invariant c.in-Some.ensures.items
    c.number-number.ensures c.clear.new.nodes.items c.clear.ensures

pub turn_one-requires-clause-parts : goal.turn_one-requires-clause-parts
turn_one-requires-clause-parts g c =
    one-parts g.F.Spanned.place g.C.Spanned.place g.K.Spanned.place c.args.nodes.now.items (due c.args.root)
    c.loop-duty.first c.loop-duty.nodes.items c.loop-duty.due.items c.pop.new.self.items c.in-Some.duty
    c.loop-duty.settled.items c.number-number.result c.loop-duty.invariant c.in-Some.ensures.items
    c.number-number.ensures c.clear.new.nodes.items c.clear.ensures

pub loop-duty-smaller : goal.loop-duty-smaller
loop-duty-smaller g c =
    (one-done g.F.Spanned.place g.C.Spanned.place g.K.Spanned.place c.args.nodes.now.items (due c.args.root)
    c.loop-duty.first c.loop-duty.nodes.items c.loop-duty.due.items c.pop.new.self.items c.in-Some.duty
    c.loop-duty.settled.items c.number-number.result c.loop-duty.invariant c.in-Some.ensures.items
    c.number-number.ensures c.clear.new.nodes.items c.clear.ensures c.turn_one.new.nodes.items
    c.turn_one.new.due.items c.turn_one.new.settled.items c.in-Ok.reached c.turn_one.ensures.settled
    c.in-Ok.ensures.turned).1

pub loop-duty-preserved : goal.loop-duty-preserved
loop-duty-preserved g c =
    (one-done g.F.Spanned.place g.C.Spanned.place g.K.Spanned.place c.args.nodes.now.items (due c.args.root)
    c.loop-duty.first c.loop-duty.nodes.items c.loop-duty.due.items c.pop.new.self.items c.in-Some.duty
    c.loop-duty.settled.items c.number-number.result c.loop-duty.invariant c.in-Some.ensures.items
    c.number-number.ensures c.clear.new.nodes.items c.clear.ensures c.turn_one.new.nodes.items
    c.turn_one.new.due.items c.turn_one.new.settled.items c.in-Ok.reached c.turn_one.ensures.settled
    c.in-Ok.ensures.turned).0

pub returns-in-Err-turn_one : goal.returns-in-Err-turn_one
returns-in-Err-turn_one g c =
    one-cut g.F.Spanned.place g.C.Spanned.place g.K.Spanned.place c.args.nodes.now.items (due c.args.root)
    c.loop-duty.first c.loop-duty.nodes.items c.loop-duty.due.items c.pop.new.self.items c.in-Some.duty
    c.loop-duty.settled.items c.number-number.result c.loop-duty.invariant c.in-Some.ensures.items
    c.number-number.ensures c.clear.new.nodes.items c.clear.ensures c.turn_one.new.nodes.items
    c.let_go-in-Err-turn_one.new.nodes.items c.turn_one.new.settled.items c.let_go-in-Err-turn_one.new.settled.items
    c.turn_one.ensures.kept c.turn_one.ensures.settled c.let_go-in-Err-turn_one.ensures.nodes
    c.let_go-in-Err-turn_one.ensures.settled

pub returns : goal.returns
returns g c =
    ended g.F.Spanned.place g.C.Spanned.place g.K.Spanned.place c.args.nodes.now.items (due c.args.root)
    c.loop-duty.first c.loop-duty.nodes.items c.loop-duty.due.items c.loop-duty.settled.items
    c.drop_settled.new.settled.items (sym c.loop-duty.due.ok.0 ∙ c.in_default-pop.ensures.cases.0)
    c.loop-duty.invariant c.drop_settled.ensures
