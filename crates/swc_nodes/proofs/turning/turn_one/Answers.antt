use Rattle.std.proofs.Common.{◌∙◌, inl, map, set, take, refl, sym, ap, subst}
use Rattle.std.proofs.lemmas.List.{take-set}
use Rattle.swc_nodes.specs.NodeParts.{form, slots}
use Rattle.swc_nodes.specs.Roles.{becomes_as, due, ready}
use Rattle.swc_nodes.specs.Turning.{PartsIn}
use Rattle.swc_nodes.proofs.TurningOne.{made-is, node-read, parts-there, turned-again, turned-made, turned-same}
use Rattle.swc_nodes.proofs.turning.turn_one.Goals as goal

pub recast-requires : goal.recast-requires
recast-requires g c =
    let xs = c.args.nodes.now.items in
    let i = c.args.number in
    let seen = node-read xs i c.index.result.now c.requires.within c.index.ensures in
    let old = c.index_mut-in_default-how in
    let here = c.replace-node.ensures.value ∙ node-read xs i old.result.now c.requires.within old.ensures.value in
    record {
      how = c.how.ensures ∙ ap (becomes_as c.args.role) (seen ∙ sym here);
      made = made-is c.how.result c.in_default-how.not-Same c.in_default-how.not-Held c.in_default-how.not-Again;
      ready = ap (λ x. ready c.args.role (form x)) here ∙ c.requires.ready;
      parts = parts-there xs i c.replace-node.new.dest (slots c.replace-node.result) c.requires.within
          (subst (λ x. PartsIn (take i xs) (slots x)) (sym here) c.requires.parts);
    }

pub returns-in_ok-add_kept-in-Same-clause-turned : goal.returns-in_ok-add_kept-in-Same-clause-turned
returns-in_ok-add_kept-in-Same-clause-turned g c =
    inl (
      refl,
      turned-same g.F.Spanned.place g.C.Spanned.place g.K.Spanned.place c.args.nodes.now.items c.args.number
          c.requires.within c.args.role (map due c.args.due.now.items)
          (map due c.add_kept.new.due.items) c.index.result.now
          c.index.ensures c.how.result c.index-in-Same.result.now c.index-in-Same.ensures c.how.ensures c.in-Same.is
          c.in_ok-add_kept-in-Same.ensures,
    )

pub returns-in_ok-rebind-in-Again-clause-turned : goal.returns-in_ok-rebind-in-Again-clause-turned
returns-in_ok-rebind-in-Again-clause-turned g c =
    inl (
      refl,
      turned-again g.F.Spanned.place g.C.Spanned.place g.K.Spanned.place c.args.nodes.now.items c.args.number
          c.requires.within c.args.role (map due c.args.due.now.items)
          (map due c.rebind.new.due.items) c.index.result.now
          c.index.ensures c.how.result c.index_mut.result.now c.rebind.new.node c.index_mut.ensures.value c.how.ensures
          c.in-Again.is c.in_ok-rebind-in-Again.ensures.node c.in_ok-rebind-in-Again.ensures.dues,
    )

pub returns-in_ok-nodes-in_default-how : goal.returns-in_ok-nodes-in_default-how
returns-in_ok-nodes-in_default-how g c =
    let xs = c.args.nodes.now.items in
    let i = c.args.number in
    let old = c.index_mut-in_default-how in
    let y = c.in_ok-nodes-in_default-how.field-0 in
    let z = c.replace-node.new.dest in
    record {
      kept = take-set (set xs i z) i y ∙ take-set xs i z;
      settled = c.drop_settled.ensures;
      turned = inl (
        refl,
        turned-made g.F.Spanned.place g.C.Spanned.place g.K.Spanned.place xs i c.requires.within
            c.args.role (map due c.args.due.now.items) (map due c.recast.new.due.items) c.index.result.now
            c.index.ensures c.how.result c.replace-node.result y z
            (c.replace-node.ensures.value ∙ node-read xs i old.result.now c.requires.within old.ensures.value)
            c.how.ensures c.in_ok-nodes-in_default-how.ensures.node c.in_ok-nodes-in_default-how.ensures.dues,
      );
    }
